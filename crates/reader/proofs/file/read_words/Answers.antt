-- `reader::file::read_words` meets its contract: refusal 2 first, then the parts, then refusal 6.
-- Assumes nothing.
use mathlib.Core.Path.{refl, sym}
use Rattle.context.specs.Contexts.{limits_of}
use Rattle.reader.proofs.Walks.{exit}
use Rattle.reader.proofs.Whole.{not-headed, headed-read}
use Rattle.reader.proofs.file.read_words.Goals as goal

pub returns-in_err-places : goal.returns-in_err-places
returns-in_err-places c =
    let a = c.args in
    headed-read (limits_of a.context) a.w.now (sym c.if-not-has_head.ensures.is) c.in_err-places.ensures
    (exit c.from_residual.ensures.1 refl)

pub returns : goal.returns
returns c =
    let a = c.args in
    headed-read (limits_of a.context) a.w.now (sym c.if-not-has_head.ensures.is) c.in_ok-places.ensures c.check_end.ensures

pub returns-then-not-has_head : goal.returns-then-not-has_head
returns-then-not-has_head c =
    let a = c.args in
    not-headed (limits_of a.context) a.w.now (sym c.if-not-has_head.ensures.is)
