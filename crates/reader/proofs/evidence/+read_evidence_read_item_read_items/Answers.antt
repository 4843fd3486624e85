-- Reading evidence, its items and an item meet their contracts: evidence goes by the row of the word that is due, and the
-- loop by the row's items. The words left and the levels left both fall: the measure is their sum, three times; one more for
-- an item, two more for all items.
-- Assumes nothing.
use native.Mathlib.Omega.{arith}
use mathlib.Core.Path.{◌∙◌}
use Rattle.words.specs.Rows.{judgement_meant}
use Rattle.context.specs.Contexts.{context_of}
use Rattle.reader.proofs.Walks.{room, evidence-goes, exit, stop}
use Rattle.reader.proofs.Contexts.{command-walk}
use Rattle.reader.proofs.Items.{items-next, items-stop, items-done, rule-none, rule-some}
use Rattle.reader.proofs.evidence.+read_evidence_read_item_read_items.Goals as goal

pub read_evidence-read_items-requires : goal.read_evidence-read_items-requires
read_evidence-read_items-requires t c = let h = room _ _ _ c.in_ok-first.ensures in omega arith

pub read_evidence-returns-in_err-first : goal.read_evidence-returns-in_err-first
read_evidence-returns-in_err-first t c =
    let a = c.args in
    exit c.from_residual.ensures.1
    (stop (evidence-goes a.w.now (context_of a.context) a.left (judgement_meant a.judgement) a.at) c.in_err-first.ensures)

pub read_evidence-returns-in_default : goal.read_evidence-returns-in_default
read_evidence-returns-in_default t c =
    let a = c.args in
    rule-none (context_of a.context) a.w.now a.left (judgement_meant a.judgement) a.at c.in_ok-first.ensures c.in_default.ensures

pub read_evidence-returns : goal.read_evidence-returns
read_evidence-returns t c =
    let a = c.args in
    rule-some (context_of a.context) a.w.now a.left (judgement_meant a.judgement) a.at
    c.in_ok-first.ensures c.in-Some.ensures c.read_items.ensures

pub read_item-returns-in-Command : goal.read_item-returns-in-Command
read_item-returns-in-Command t c = rw c.in-Command.is (c.read_command.ensures ∙ command-walk _ _ _ _)

pub read_items-returns-in_err-p : goal.read_items-returns-in_err-p
read_items-returns-in_err-p t c =
    exit c.from_residual.ensures.1 (items-stop _ _ _ c.loop-item.invariant c.loop-item-test.true c.in_err-p.ensures)

pub read_items-loop-item-preserved : goal.read_items-loop-item-preserved
read_items-loop-item-preserved t c = items-next _ _ _ c.loop-item.invariant c.loop-item-test.true c.in_ok-p.ensures

pub read_items-returns : goal.read_items-returns
read_items-returns t c = items-done _ _ _ c.loop-item.invariant c.loop-item-test.false
