-- `pre_rules::consequence::rule_28` meets its contract.
-- Assumes nothing.
use native.Mathlib.Omega.{arith}
use Rattle.rule_laws.proofs.Trying.{low-head}
use Rattle.pre_rules.proofs.Consequences.{can-imply, stronger_rule}
use Rattle.pre_rules.proofs.consequence.rule_28.Goals as goal

pub overflow_add-at : goal.overflow_add-at
overflow_add-at c = let i = low-head c.requires in omega arith

pub implies_at-requires : goal.implies_at-requires
implies_at-requires c = can-imply c.requires

pub returns : goal.returns
returns c = stronger_rule c.requires c.implies_at.ensures
