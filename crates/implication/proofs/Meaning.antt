-- The truth table of two compiled booleans decides what the definition's decides: every assignment to the comparisons
-- has a number, and the comparisons of a boolean have what their leaves have.
-- Assumes nothing.
--     assignment_number     the number of an assignment to n leaves
--     truth-formula         a boolean's value is its formula's
--     truth-agrees          it depends on the listed comparisons alone
--     table-settled         the law
--     few-enough, too_many  the condition within the limit, and past it
use mathlib.Core.Path.{◌≡◌, refl, sym, ap, ap₂, ◌∙◌}
use mathlib.Core.Bool.{Bool, true, false, not, ◌&&◌, ◌||◌}
use mathlib.Core.List.{List, []}
use Prim.Native.Nat.{ℕ, zero, suc, ◌+◌, ◌*◌, ◌/◌, ◌%◌, ◌^◌, ◌<◌, ◌≤◌}
use native.Mathlib.Omega.{arith}
use borrow.Author.Tests.{le-leb, lt-leb}
use lib.Dec.{eqb}
use lib.ListN.{length}
use Rattle.laws.proofs.Bools.{clash}
use Rattle.laws.proofs.Decides.{decides_implies}
use Rattle.language.specs.Syntax.{Boolean, Expr, compare, truth, and, or, neg}
use Rattle.rules.specs.Words.{Word, words}
use Rattle.rules.specs.Context.{Context}
use Rattle.rules.specs.Implies.{truth_under, among_words, comparisons, distinct}
use Rattle.rules.specs.Tests.{truth_table}
use Rattle.rules.specs.Condition.{too_large, test, implication}
use Rattle.rules.proofs.Table.{table-decides}
use Rattle.truth_table.specs.Formula.{Formula, disj, negated, value, bit, numbered, Settles}
use Rattle.implication.specs.Compiling.{number, entry, Extends, formula}
use Rattle.implication.proofs.Numbers.{by-test, number-low, entry-number, listed}
use Rattle.implication.proofs.Numbers.{extends-self, extends-trans, extends-comparisons}

-- ---- every assignment has a number
digit : Bool → ℕ
digit true = 1
digit false = 0

digit_low : (b : Bool) → digit b < 2
unfolding digit
digit_low true = omega arith
digit_low false = omega arith

digit-is : (b : Bool) (x : ℕ) → x ≡ digit b → eqb x 1 ≡ b
unfolding digit
digit-is true x e = rw e
digit-is false x e = rw e

number_at : (n k : ℕ) (ρ : ℕ → Bool) → ((i : ℕ) → i < n → numbered k i ≡ ρ (suc i)) → (i : ℕ) → i < suc n →
    numbered (digit (ρ 0) + 2 * k) i ≡ ρ i
unfolding numbered bit
number_at n k ρ f zero l = digit-is (ρ 0) _ (low (digit (ρ 0)) k (digit_low (ρ 0)))
  where
    low : (d k : ℕ) → d < 2 → (d + 2 * k) % 2 ≡ d
    low d k h = omega arith
number_at n k ρ f (suc i) l =
    ap (λ (z : ℕ). eqb (bit z i) 1) (half (digit (ρ 0)) k (digit_low (ρ 0))) ∙ f i (omega arith)
  where
    half : (d k : ℕ) → d < 2 → (d + 2 * k) / 2 ≡ k
    half d k h = omega arith

assignment_number : (n : ℕ) (ρ : ℕ → Bool) → (k : ℕ) × (k < 2 ^ n) × ((i : ℕ) → i < n → numbered k i ≡ ρ i)
assignment_number zero ρ = (0, omega arith, λ i l. absurd (omega arith))
assignment_number (suc n) ρ =
    let r = assignment_number n (λ i. ρ (suc i)) in
    let d = digit_low (ρ 0) in
    (digit (ρ 0) + 2 * r.0, omega (arith, r.1), number_at n r.0 ρ r.2)

-- ---- formulas and trees
truth-formula : (m : List (List Word)) (ρ : ℕ → Bool) (φ : Expr Boolean) →
    truth_under φ (λ c. ρ (number m c)) ≡ value ρ (formula m φ)
unfolding truth_under value formula
truth-formula m ρ (compare r a b) = refl
truth-formula m ρ (truth t) = refl
truth-formula m ρ (and b c) = ap₂ ◌&&◌ (truth-formula m ρ b) (truth-formula m ρ c)
truth-formula m ρ (or b c) = ap₂ ◌||◌ (truth-formula m ρ b) (truth-formula m ρ c)
truth-formula m ρ (neg b) = ap not (truth-formula m ρ b)

-- assignments that agree on what m lists
abbrev SameOn : List (List Word) → (List Word → Bool) → (List Word → Bool) → Type 0
SameOn m u v = (c : List Word) → among_words c m ≡ true → u c ≡ v c

truth-agrees : (φ : Expr Boolean) (l m : List (List Word)) → Extends (comparisons φ l) m → (u v : List Word → Bool) →
    SameOn m u v → truth_under φ u ≡ truth_under φ v
unfolding comparisons truth_under
truth-agrees (compare r a b) l m x u v f =
    let c = words (compare r a b) in f c (x.kept c (listed c l)).0
truth-agrees (truth t) l m x u v f = refl
truth-agrees (and b c) l m x u v f =
    ap₂ ◌&&◌
    (truth-agrees b l m (extends-trans (extends-comparisons c (comparisons b l)) x) u v f)
    (truth-agrees c (comparisons b l) m x u v f)
truth-agrees (or b c) l m x u v f =
    ap₂ ◌||◌
    (truth-agrees b l m (extends-trans (extends-comparisons c (comparisons b l)) x) u v f)
    (truth-agrees c (comparisons b l) m x u v f)
truth-agrees (neg b) l m x u v f = ap not (truth-agrees b l m x u v f)

-- ---- the law
module _ (φ ψ : Expr Boolean) where
  -- the formula of an implication
  abbrev pub implies : List (List Word) → Formula
  implies m = disj (negated (formula m φ)) (formula m ψ)

  by-leaves : (k : ℕ) → value (numbered k) (implies (distinct φ ψ)) ≡
      (not (truth_under φ (λ c. numbered k (number (distinct φ ψ) c))) ||
      truth_under ψ (λ c. numbered k (number (distinct φ ψ) c)))
  unfolding value
  by-leaves k =
      let m = distinct φ ψ in
      ap₂ (λ (a b : Bool). not a || b)
      (sym (truth-formula m (numbered k) φ))
      (sym (truth-formula m (numbered k) ψ))

  module _ (b : ℕ) (enough : 2 ^ length (distinct φ ψ) ≤ 64 * b) where
    holds : Settles (64 * b) (implies (distinct φ ψ)) true → (v : List Word → Bool) → truth_under φ v ≡ true →
        truth_under ψ v ≡ true
    holds S v h =
        let m = distinct φ ψ in
        let k = assignment_number (length m) (λ i. v (entry m i)) in
        let u : List Word → Bool = λ c. numbered k.0 (number m c) in
        let f : SameOn m u v = λ c e. k.2 (number m c) (number-low m c e) ∙ ap v (entry-number m c e) in
        let left = truth-agrees φ [] m (extends-comparisons ψ (comparisons φ [])) u v f in
        let right = truth-agrees ψ (comparisons φ []) m (extends-self m) u v f in
        sym right ∙
        (decides_implies (truth_under φ u) (truth_under ψ u)).sound
        (sym (by-leaves k.0) ∙ S.sound refl k.0 (omega (arith, k.1))) (left ∙ h)

    pub table-settled : (r : Bool) → Settles (64 * b) (implies (distinct φ ψ)) r → truth_table (distinct φ ψ) φ ψ ≡ r
    table-settled true S = (table-decides φ ψ).complete (holds S)
    table-settled false S =
        let s = S.witness refl in
        let u : List Word → Bool = λ c. numbered s.0 (number (distinct φ ψ) c) in
        by-test (truth_table (distinct φ ψ) φ ψ)
        (λ e. clash (by-leaves s.0 ∙
        (decides_implies (truth_under φ u) (truth_under ψ u)).complete ((table-decides φ ψ).sound e u)) s.1)
        (λ e. e)

pub too_many : (Γ : Context) (φ ψ : Expr Boolean) → Γ.limits.comparisons < length (distinct φ ψ) →
    implication Γ φ ψ ≡ too_large
unfolding implication
too_many Γ φ ψ h = rw (lt-leb (length (distinct φ ψ)) Γ.limits.comparisons h, implication)

pub few-enough : (Γ : Context) (φ ψ : Expr Boolean) (r : Bool) → length (distinct φ ψ) ≤ Γ.limits.comparisons →
    truth_table (distinct φ ψ) φ ψ ≡ r → implication Γ φ ψ ≡ test r
unfolding implication
few-enough Γ φ ψ r h e = rw (le-leb (length (distinct φ ψ)) Γ.limits.comparisons h, implication) (ap test e)
