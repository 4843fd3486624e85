-- `reader::program::read_program` meets its contract, part by part.
-- Assumes nothing.
use mathlib.Core.Path.{refl, sym, ◌∙◌}
use Rattle.context.specs.Contexts.{context_of}
use Rattle.reader.specs.Program.{from_pre, from_post, from_evidence}
use Rattle.reader.proofs.Walks.{exit, on, off}
use Rattle.reader.proofs.Contexts.{command-walk}
use Rattle.reader.proofs.ProgramParts.{program-places}
use Rattle.reader.proofs.program.read_program.Goals as goal

pub returns-in_err-pre : goal.returns-in_err-pre
returns-in_err-pre c =
    let a = c.args in
    exit c.from_residual.ensures.1
    (off (from_pre (context_of a.context) a.w.now a.at) (c.in_err-pre.ensures ∙ command-walk (context_of a.context) _ _ _)
    ∙ sym (program-places (context_of a.context) a.w.now a.at))

pub returns-in_err-post : goal.returns-in_err-post
returns-in_err-post c =
    let a = c.args in
    exit c.from_residual-in_err-post.ensures.1
    (on (from_pre (context_of a.context) a.w.now a.at) (c.in_ok-pre.ensures ∙ command-walk (context_of a.context) _ _ _)
    (off (from_post (context_of a.context) a.w.now a.at _) c.in_err-post.ensures)
    ∙ sym (program-places (context_of a.context) a.w.now a.at))

pub returns-in_err-evidence : goal.returns-in_err-evidence
returns-in_err-evidence c =
    let a = c.args in
    exit c.from_residual-in_err-evidence.ensures.1
    (on (from_pre (context_of a.context) a.w.now a.at) (c.in_ok-pre.ensures ∙ command-walk (context_of a.context) _ _ _)
    (on (from_post (context_of a.context) a.w.now a.at _) c.in_ok-post.ensures
    (off (from_evidence (context_of a.context) a.w.now a.at _ _) c.in_err-evidence.ensures))
    ∙ sym (program-places (context_of a.context) a.w.now a.at))

pub returns-in_err-end : goal.returns-in_err-end
returns-in_err-end c =
    let a = c.args in
    exit c.from_residual-in_err-end.ensures.1
    (on (from_pre (context_of a.context) a.w.now a.at) (c.in_ok-pre.ensures ∙ command-walk (context_of a.context) _ _ _)
    (on (from_post (context_of a.context) a.w.now a.at _) c.in_ok-post.ensures
    (on (from_evidence (context_of a.context) a.w.now a.at _ _) c.in_ok-evidence.ensures
    (off _ c.in_err-end.ensures)))
    ∙ sym (program-places (context_of a.context) a.w.now a.at))

pub returns : goal.returns
returns c =
    let a = c.args in
    on (from_pre (context_of a.context) a.w.now a.at) (c.in_ok-pre.ensures ∙ command-walk (context_of a.context) _ _ _)
    (on (from_post (context_of a.context) a.w.now a.at _) c.in_ok-post.ensures
    (on (from_evidence (context_of a.context) a.w.now a.at _ _) c.in_ok-evidence.ensures
    (on _ c.in_ok-end.ensures refl)))
    ∙ sym (program-places (context_of a.context) a.w.now a.at)
