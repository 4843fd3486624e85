-- `workbench::replace` meets its contract: the old command is none or of another length, or the words of the changed file are loaded.
-- Assumes nothing.
use native.Mathlib.Omega.{arith}
use Rattle.replacement.proofs.Puts.{word_count, ends-here, replace-past, replace-part, replace-not, can-change, changed-count, changed-known}
use Rattle.workbench.proofs.replace.Goals as goal

pub returns-then-n-new : goal.returns-then-n-new
returns-then-n-new c = replace-past c.args.masks.now c.requires c.if-n-new.true c.refused.ensures

pub returns-then-new-ne0 : goal.returns-then-new-ne0
returns-then-new-ne0 c = replace-part c.args.masks.now c.requires c.if-new-ne0.true c.refused-then-new-ne0.ensures

pub slice_bounds-is_simple_to-end : goal.slice_bounds-is_simple_to-end
slice_bounds-is_simple_to-end c = c.requires.rooms.inside

pub slice_bounds-is_simple_to-end-2 : goal.slice_bounds-is_simple_to-end-2
slice_bounds-is_simple_to-end-2 c = word_count c.args.masks.now c.requires

pub is_simple_to-requires : goal.is_simple_to-requires
is_simple_to-requires c = ends-here c.args.masks.now c.requires

pub returns-then-not-is_simple_to : goal.returns-then-not-is_simple_to
returns-then-not-is_simple_to c =
    replace-not c.args.masks.now c.requires c.is_simple_to.ensures c.if-not-is_simple_to.true
    c.refused-then-not-is_simple_to.ensures

pub slice_bounds-old_at-end : goal.slice_bounds-old_at-end
slice_bounds-old_at-end c = c.requires.rooms.inside

pub slice_bounds-old_at-end-2 : goal.slice_bounds-old_at-end-2
slice_bounds-old_at-end-2 c = word_count c.args.masks.now c.requires

pub old_at-old-requires : goal.old_at-old-requires
old_at-old-requires c = omega (arith, c.if-n-new.false, word_count c.args.masks.now c.requires)

pub slice_bounds-change-end-2 : goal.slice_bounds-change-end-2
slice_bounds-change-end-2 c =
    changed-count c.args.masks.now c.requires c.is_simple_to.ensures
    c.if-not-is_simple_to.false c.if-new-ne0.false c.load.ensures

pub change-requires : goal.change-requires
change-requires c = (
  can-change c.args.masks.now c.requires c.is_simple_to.ensures
      c.if-not-is_simple_to.false c.if-new-ne0.false c.load.ensures,
  changed-known c.args.masks.now c.requires c.is_simple_to.ensures
      c.if-not-is_simple_to.false c.if-new-ne0.false c.load.ensures c.old_at-old.ensures,
)
