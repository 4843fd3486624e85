-- Implications between assertions that stand at places (document 01, "Rules").
-- Working: `implies-at` of proofs/Implying ties it to the rules' `implication`. Assumes nothing.
--     CanImplyAt, ImpliesAt       one implies another: what a test of them asks for and promises
use Rattle.std.specs.Prelude.{◌≡◌, List, ℕ, ◌≤◌, length}
use Rattle.language.specs.Syntax.{Boolean, Expr}
use Rattle.rules.specs.Context.{Context}
use Rattle.rules.specs.Condition.{implication}
use Rattle.ends.specs.Ends.{EndsOf}
use Rattle.matching.specs.Places.{ExpressionAt}
use Rattle.implication.specs.Sides.{Condition, result_of}
use Rattle.ends.specs.Places.{WrittenAt}

module _ (file ends : List ℕ) where
  pub record CanImplyAt (Γ : Context) (a b : ℕ) : Type 0 where
    pub ends_of : EndsOf file ends
    pub size : length file ≤ 8192
    pub few : Γ.limits.comparisons ≤ 16
    pub left : ExpressionAt file ends Boolean a
    pub right : ExpressionAt file ends Boolean b

  pub record ImpliesAt (Γ : Context) (a b : ℕ) (r : Condition) : Type 0 where
    pub is : (φ ψ : Expr Boolean) → WrittenAt file ends φ a → WrittenAt file ends ψ b →
        result_of r ≡ implication Γ φ ψ
