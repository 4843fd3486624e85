-- What the goal of a child of necessary preconditions is worked out from (document 01, rules 20 to 30; document 02, rule 32).
-- Working: the goal itself is an equation with `child_at` of goals; `is_32` of proofs/Goal says that no rule but those of its table
-- has a child. Assumes nothing.
--     CanPreChild    the command's place and the evidence word's are in a file that is small, and the rule has that child
use Rattle.std.specs.Prelude.{List, ℕ, ◌<◌, ◌≤◌, length}
use Rattle.goals.specs.Children.{children_at}
use Rattle.goals.specs.declared.Goal.TheVariants.{Pre}

pub record CanPreChild (file ends : List ℕ) (rule f c g at k : ℕ) : Type 0 where
  pub size : length file ≤ 8192
  pub command : c < length file
  pub word : at < length file
  pub child : k < length (children_at file ends (Pre f c g) rule at)
