-- Of which rule a child is (document 01, flow rules 1 to 14).
-- Assumes nothing.
--     last-rule    a rule with children that is none of those before the last
use mathlib.Core.Path.{◌≡◌}
use mathlib.Core.List.{List}
use Prim.Native.Nat.{ℕ}
use borrow.Author.Tests.{ne_eqb}
use Rattle.rule_laws.proofs.Trying.{only-rule}
use Rattle.flow_compound.specs.Children.{CanFlowChild}

pub last-rule : {ends : List ℕ} {n p c q at k : ℕ} → CanFlowChild ends n p c q at k → (n ≡ 2 → ⊥) → (n ≡ 6 → ⊥) →
    (n ≡ 7 → ⊥) → (n ≡ 8 → ⊥) → (n ≡ 9 → ⊥) → (n ≡ 11 → ⊥) → (n ≡ 12 → ⊥) → (n ≡ 13 → ⊥) → n ≡ 14
last-rule {n = n} {k = k} x h₂ h₆ h₇ h₈ h₉ h₁₁ h₁₂ h₁₃ =
    only-rule n 14 _ k
    (rw (ne_eqb n 2 h₂, ne_eqb n 6 h₆, ne_eqb n 7 h₇, ne_eqb n 8 h₈, ne_eqb n 9 h₉, ne_eqb n 11 h₁₁, ne_eqb n 12 h₁₂, ne_eqb n 13 h₁₃)
    at x.child)
