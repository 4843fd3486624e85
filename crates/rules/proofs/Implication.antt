-- "Implies" as it is tried, and in a store: the values that a store gives the comparisons are one of the assignments.
-- Assumes nothing.
--     implication-passes         the condition passes exactly when one boolean implies the other
--     each_implies_false-passes    the same of each antecedent of a set and false
--     implies-holds              in every store where the first boolean is true, so is the second
--     each_implies_false-agree     all stores agree as a set demands whose antecedents imply false
--     itself-not_implied         true does not imply x = x
use mathlib.Core.Path.{◌≡◌, refl, sym, ◌∙◌, ap, ap₂}
use mathlib.Core.Bool.{Bool, true, false, not, ◌&&◌, ◌||◌, false≢true}
use mathlib.Core.List.{List, [], ◌∷◌}
use lib.ListN.{length}
use Rattle.laws.proofs.Decides.{Decides, leb-decides}
use Rattle.language.specs.Syntax.{equal, Boolean, Expr, scalar, compare, truth, and, or, neg}
use Rattle.language.specs.Store.{Store, value}
use Rattle.rules.specs.Words.{Word}
use Rattle.rules.specs.Assertion.{Members, Agree}
use Rattle.rules.specs.Context.{Context}
use Rattle.rules.specs.Implies.{truth_under, distinct, Implies, EachImpliesFalse}
use Rattle.rules.specs.Condition.{Result, too_large, implication, each_implies_false}
use Rattle.rules.proofs.Unique.{expression_of, expression_of-words}
use Rattle.rules.proofs.Passes.{PassesIff, passes-map, test-passes, then-passes}
use Rattle.rules.proofs.Table.{table-decides}

-- a condition that is tried only where a test is true, and is too large elsewhere
limited-passes : {b : Bool} {r : Result} {P Q : Type 0} →
    Decides b P → PassesIff r Q → PassesIff (elim b [ true ↦ r | false ↦ too_large ]) (P × Q)
limited-passes {b = true} d e = record { sound = λ h. (d.sound refl, e.sound h); complete = λ x. e.complete x.1 }
limited-passes {b = false} d e = record { sound = λ h. absurd h; complete = λ x. false≢true (d.complete x.0) }

pub implication-passes : (Γ : Context) (φ ψ : Expr Boolean) → PassesIff (implication Γ φ ψ) (Implies Γ φ ψ)
unfolding implication
implication-passes Γ φ ψ =
    passes-map (λ h. record { few = h.0; implied = h.1 }) (λ h. (h.few, h.implied))
    (limited-passes (leb-decides (length (distinct φ ψ)) Γ.limits.comparisons)
    (test-passes (table-decides φ ψ)))

pub each_implies_false-passes : (Γ : Context) (q : Members) →
    PassesIff (each_implies_false Γ q) (EachImpliesFalse Γ q)
unfolding each_implies_false
each_implies_false-passes Γ [] = record { sound = λ h. tt; complete = λ h. tt }
each_implies_false-passes Γ (m ∷ q) =
    then-passes (implication-passes Γ m.antecedent (truth false)) (each_implies_false-passes Γ q)

-- the value in s of the comparison that words spell
from_store : Store → List Word → Bool
from_store s w = value (expression_of Boolean w) s

truth-from_store : (φ : Expr Boolean) (s : Store) → truth_under φ (from_store s) ≡ value φ s
unfolding truth_under value from_store
truth-from_store (compare r a b) s = ap (λ e. value e s) (expression_of-words (compare r a b))
truth-from_store (truth t) s = refl
truth-from_store (and b c) s = ap₂ ◌&&◌ (truth-from_store b s) (truth-from_store c s)
truth-from_store (or b c) s = ap₂ ◌||◌ (truth-from_store b s) (truth-from_store c s)
truth-from_store (neg b) s = ap not (truth-from_store b s)

pub implies-holds : (Γ : Context) (φ ψ : Expr Boolean) → Implies Γ φ ψ →
    (s : Store) → value φ s ≡ true → value ψ s ≡ true
implies-holds Γ φ ψ h s k =
    sym (truth-from_store ψ s) ∙ h.implied (from_store s) (truth-from_store φ s ∙ k)

pub each_implies_false-agree : (Γ : Context) (q : Members) → EachImpliesFalse Γ q → (s t : Store) → Agree q s t
unfolding value
each_implies_false-agree Γ [] h s t = tt
each_implies_false-agree Γ (m ∷ q) h s t = (
  λ i j. absurd (false≢true (implies-holds Γ m.antecedent (truth false) h.0 s i)),
  each_implies_false-agree Γ q h.1 s t,
)

-- x = x is one comparison like others, so true does not imply it
pub itself-not_implied : (Γ : Context) → Implies Γ (truth true) (compare equal (scalar 0) (scalar 0)) → ⊥
unfolding truth_under
itself-not_implied Γ h = false≢true (h.implied (λ w. false) refl)
