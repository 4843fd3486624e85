-- The judge meets its contract: the word by the result of its conditions, then the children one after the other. The
-- invariant: the verdict is that of the count so far and of the children that are left. The levels left fall: the measure
-- is twice their number; one more for the children of a word.
-- Assumes nothing.
use mathlib.Core.Path.{◌≡◌}
use Prim.Native.Nat.{◌+◌, ◌*◌}
use lib.ListN.{length}
use Rattle.layout.specs.Bytes.{payload_at}
use Rattle.goals.specs.Children.{children_at}
use Rattle.goals.specs.Files.{context_for}
use Rattle.judge.proofs.Going.{Going}
use Rattle.judge.proofs.+judge_judge_children.Given as goal

abbrev pub decreases-judge : goal.decreases-judge
decreases-judge l = 2 * l.left

abbrev pub decreases-judge_children : goal.decreases-judge_children
decreases-judge_children l = 2 * l.left + 1

abbrev pub invariant-judge_children-loop-k : goal.invariant-judge_children-loop-k
invariant-judge_children-loop-k l =
    (l.rule ≡ payload_at l.file.words.now l.at) ×
    (l.k-end ≡ length (children_at l.file.words.now l.file.ends.now l.goal (payload_at l.file.words.now l.at) l.at)) ×
    Going l.file.words.now l.file.ends.now (context_for l.file) l.goal l.at l.left l.next l.count l.k
