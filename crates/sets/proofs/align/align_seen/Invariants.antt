-- `sets::align::align_seen` meets its contract. The invariant: what is said of the members that are left on both sides is said of all.
-- Assumes nothing.
use mathlib.Core.List.{map}
use Rattle.sets.specs.Items.{seen_as}
use Rattle.sets.specs.Lists.{seen_all}
use Rattle.sets.specs.Members.{places_left}
use Rattle.sets.specs.Aligned.{written_at, EachAt}
use Rattle.sets.proofs.Aligned.{Aligning}
use Rattle.sets.proofs.align.align_seen.Given as goal

abbrev pub invariant-loop-a : goal.invariant-loop-a
invariant-loop-a l =
    goal.iterator-loop-a.can_next l.a-iterator
    × goal.iterator-loop-a.is_finite l.a-iterator
    × EachAt l.w l.ends (places_left l.a-iterator)
    × Aligning l.w l.ends (written_at l.w l.ends (places_left l.fn.rest)) (seen_all l.w l.ends l.view l.k l.from) l.rest
    (map (seen_as l.w l.ends l.view) (places_left l.a-iterator))
