-- The judge meets its contract: the word by the result of its conditions, then the children one after the other. The
-- invariant: the verdict is that of the count so far and of the children that are left. The levels left fall: the measure
-- is twice their number; one more for the children of a word.
-- Assumes nothing.
use mathlib.Core.Path.{refl, sym, ap, ◌∙◌}
use native.Mathlib.Omega.{arith}
use Rattle.std.proofs.lemmas.Result.{err_from_is_err_and}
use Rattle.judge.proofs.Going.{level-due, can-step, can-go, judged-failed, judged-passed}
use Rattle.judge.proofs.Going.{going_start, going_step, going_refused, going_end, child-asked, child-can}
use Rattle.judge.proofs.Going.{count_fits, row-there, word-row, children-left}
use Rattle.words.specs.Rows.{row_meant}
use Rattle.judge.proofs.Counts.{goal-place}
use Rattle.judge.proofs.+judge_judge_children.Goals as goal

pub judge-condition_at-requires : goal.judge-condition_at-requires
judge-condition_at-requires t c = can-step c.requires

pub judge-overflow_sub-left : goal.judge-overflow_sub-left
judge-overflow_sub-left t c = level-due c.requires

pub judge-judge_children-requires : goal.judge-judge_children-requires
judge-judge_children-requires t c =
    let l = level-due c.requires in
    let passed = can-go c.requires c.condition_at.ensures c.in-Ok.is in
    (omega (arith, c.decreases), passed)

pub judge-returns-in-Ok : goal.judge-returns-in-Ok
judge-returns-in-Ok t c = judged-passed c.requires c.judge_children.ensures

pub judge-returns-in-Err : goal.judge-returns-in-Err
judge-returns-in-Err t c =
    rw c.refusal_of.ensures (judged-failed c.requires c.condition_at.ensures c.in-Err.failure c.in-Err.is)

pub judge_children-offset_bounds-file-at : goal.judge_children-offset_bounds-file-at
judge_children-offset_bounds-file-at t c = let h = goal-place _ _ _ c.requires.can.goal-stands in omega arith

pub judge_children-bounds-file-at : goal.judge_children-bounds-file-at
judge_children-bounds-file-at t c = goal-place _ _ _ c.requires.can.goal-stands

pub judge_children-overflow_add-at : goal.judge_children-overflow_add-at
judge_children-overflow_add-at t c =
    let h = goal-place _ _ _ c.requires.can.goal-stands in
    let l = c.requires.can.size in
    omega arith

pub judge_children-unwrap-row-requires : goal.judge_children-unwrap-row-requires
judge_children-unwrap-row-requires t c = row-there _ (word-row c.requires _ refl c.row_at.ensures)

pub judge_children-loop-k-init : goal.judge_children-loop-k-init
judge_children-loop-k-init t c =
    let row = sym (ap row_meant c.unwrap-row.ensures) ∙ c.row_at.ensures in (
      refl,
      children-left c.requires refl row c.past_carried-first.ensures,
      going_start c.requires refl row c.past_carried-first.ensures,
    )

pub judge_children-child_of-child-requires : goal.judge_children-child_of-child-requires
judge_children-child_of-child-requires t c =
    let i = c.loop-k.invariant in
    child-asked c.requires i.0 i.2 (omega (arith, i.1, c.loop-k-test.true))

pub judge_children-judge-requires : goal.judge_children-judge-requires
judge_children-judge-requires t c =
    let i = c.loop-k.invariant in
    let can = child-can c.requires i.0 i.2 (omega (arith, i.1, c.loop-k-test.true)) c.child_of-child.ensures in
    (omega (arith, c.decreases), can)

pub judge_children-returns-in_err-judged : goal.judge_children-returns-in_err-judged
judge_children-returns-in_err-judged t c =
    let i = c.loop-k.invariant in
    going_refused c.requires i.0 i.2 (omega (arith, i.1, c.loop-k-test.true))
    c.child_of-child.ensures c.in_err-judged.ensures (err_from_is_err_and _ c.from_residual.ensures.1)

pub judge_children-overflow_add-count : goal.judge_children-overflow_add-count
judge_children-overflow_add-count t c =
    let i = c.loop-k.invariant in
    record {
      fits = count_fits c.requires i.0 i.2 (omega (arith, i.1, c.loop-k-test.true))
          c.child_of-child.ensures c.in_ok-judged.ensures (omega arith);
    }

pub judge_children-loop-k-preserved : goal.judge_children-loop-k-preserved
judge_children-loop-k-preserved t c =
    let i = c.loop-k.invariant in (
      i.0,
      i.1,
      going_step c.requires i.0 i.2 (omega (arith, i.1, c.loop-k-test.true)) c.child_of-child.ensures c.in_ok-judged.ensures,
    )

pub judge_children-returns : goal.judge_children-returns
judge_children-returns t c =
    let i = c.loop-k.invariant in
    going_end c.requires i.0 i.2 (omega (arith, i.1, c.loop-k.auto.k-end, c.loop-k-test.false))
