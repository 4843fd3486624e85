-- What the goal of a child of flow is worked out from (document 01, flow rules 1 to 14).
-- Working: the goal itself is an equation with `flow_child` of goals; `last-rule` of proofs/Children says that no rule but
-- those of its table has a child. Assumes nothing.
--     CanFlowChild    the goal's places and its evidence word's are in a file that is small, and the rule has that child
use Rattle.std.specs.Prelude.{List, ℕ, ◌<◌, length}
use Rattle.goals.specs.Children.{of_rule, flow_children}

pub record CanFlowChild (ends : List ℕ) (rule p c q at k : ℕ) : Type 0 where
  pub before : p < 8192
  pub command : c < 8192
  pub after : q < 8192
  pub word : at < 8192
  pub child : k < length (of_rule rule (flow_children ends p c q at))
