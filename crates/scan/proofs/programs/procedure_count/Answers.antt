-- `scan::programs::procedure_count` meets its contract, by word 1.
-- Assumes nothing.
use mathlib.Core.Path.{◌≡◌, ◌∙◌}
use borrow.Author.Rules.{rules}
use lib.ListN.{get_or}
use Rattle.scan.proofs.Least.{least}
use Rattle.scan.proofs.ProcedureMasks.{count_none, count_some}
use Rattle.scan.proofs.programs.procedure_count.Goals as goal

pub returns-then-word-eq-PROCEDURES : goal.returns-then-word-eq-PROCEDURES
returns-then-word-eq-PROCEDURES c =
    let e : c.unwrap_or-word.result ≡ get_or c.args.w.now 1 0 = search rules in
    rw e at c.min.ensures ∙ least _ _ ∙ count_some c.args.w.now (rw e at c.if-word-eq-PROCEDURES.true)

pub returns-else-word-eq-PROCEDURES : goal.returns-else-word-eq-PROCEDURES
returns-else-word-eq-PROCEDURES c =
    let e : c.unwrap_or-word.result ≡ get_or c.args.w.now 1 0 = search rules in
    count_none c.args.w.now (rw e at c.if-word-eq-PROCEDURES.false)
