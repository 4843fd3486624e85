-- `matching::cursor::match_range` meets its contract: a failure is handed on, and else as many words are passed as stand at the front of both.
-- Assumes nothing.
use mathlib.Core.Path.{sym, ◌∙◌}
use native.Mathlib.Omega.{arith}
use Rattle.matching.specs.Matching.{between}
use Rattle.matching.proofs.Matching.{range-done, all-lost, all-out, matched-from}
use Rattle.matching.proofs.Ranges.{between-length}
use Rattle.matching.proofs.CommonPrefix.{range-missing, range-whole, range-inside}
use Rattle.matching.proofs.cursor.match_range.Goals as goal

pub returns-in_err-at : goal.returns-in_err-at
returns-in_err-at c = all-lost _ _ c.in_err-at.was c.from_residual.ensures.1

pub returns-then-to-from : goal.returns-then-to-from
returns-then-to-from c = sym (range-done _ _ _ _ c.if-to-from.true) ∙ matched-from _ _ c.in_ok-at.was

pub returns-then-w-at : goal.returns-then-w-at
returns-then-w-at c =
    let h = c.if-to-from.false in
    all-out c.args.w.now (between c.args.w.now c.args.from c.args.to) c.in_ok-at.at c.if-w-at.true
    (omega (arith, between-length c.args.w.now c.args.from c.args.to c.requires))
    ∙ matched-from _ _ c.in_ok-at.was

pub returns-then-same-to : goal.returns-then-same-to
returns-then-same-to c =
    let h = c.if-to-from.false in
    range-missing c.args.w.now c.in_ok-at.at c.args.from c.args.to (omega arith) c.requires c.common_prefix-same.ensures c.if-same-to.true
    ∙ matched-from _ _ c.in_ok-at.was

pub overflow_add-result-else-same-to : goal.overflow_add-result-else-same-to
overflow_add-result-else-same-to c =
    let h = c.if-to-from.false in
    let k =
    range-inside c.args.w.now c.in_ok-at.at c.args.from c.args.to (omega arith) c.requires c.common_prefix-same.ensures
    (omega (arith, c.if-w-at.false)) in
    omega (arith, k)

pub returns-else-same-to : goal.returns-else-same-to
returns-else-same-to c =
    let h = c.if-to-from.false in
    range-whole c.args.w.now c.in_ok-at.at c.args.from c.args.to (omega arith) c.requires c.common_prefix-same.ensures c.if-same-to.false
    ∙ matched-from _ _ c.in_ok-at.was
