-- Sets by implication (document 01, rules 7 and 8).
-- Assumes nothing.
--     before-comes, after-comes    what the rules come to
use mathlib.Core.Path.{refl}
use mathlib.Core.List.{List}
use Prim.Native.Nat.{ℕ}
use Rattle.rules.specs.Context.{Context}
use Rattle.rules.specs.Evidence.{flow7, flow8, members, child, done, ◌&◌}
use Rattle.rules.specs.Judge.{flow_rule, judge}
use Rattle.std.specs.Prelude.{Ok}
use Rattle.goals.specs.declared.Goal.TheVariants.{Flow}
use Rattle.goals.specs.Goals.{flow-stands, set-stands, CanTry, StepOf}
use Rattle.goals.proofs.Comes.{comes, two-children, FlowComes, flow-rule}
use Rattle.rule_laws.proofs.Trying.{up-to}

module _ {Γ : Context} {file ends : List ℕ} (p c q at : ℕ) where
  passes-7 : FlowComes Γ file ends p c q at flow7 (Ok tt)
  unfolding flow_rule judge
  passes-7 x y e (members m & child n & child k & done) d end a b z (m-at, (i, n-at, (j, k-at, last))) =
      comes _ (Ok tt) refl refl (two-children (set-stands a m-at n-at) (up-to (flow-stands m-at b z k-at) last))

  passes-8 : FlowComes Γ file ends p c q at flow8 (Ok tt)
  unfolding flow_rule judge
  passes-8 x y e (members m & child k & child n & done) d end a b z (m-at, (i, k-at, (j, n-at, last))) =
      comes _ (Ok tt) refl refl (two-children (flow-stands a b m-at k-at) (up-to (set-stands m-at z n-at) last))

module _ {Γ : Context} {file ends : List ℕ} {p c q at : ℕ} where
  pub before-comes : CanTry file ends Γ 7 (Flow p c q) at → StepOf file ends Γ (Flow p c q) at (Ok tt)
  before-comes can = flow-rule can flow7 (passes-7 p c q at)

  pub after-comes : CanTry file ends Γ 8 (Flow p c q) at → StepOf file ends Γ (Flow p c q) at (Ok tt)
  after-comes can = flow-rule can flow8 (passes-8 p c q at)
