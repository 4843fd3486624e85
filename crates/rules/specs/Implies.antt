-- "Implies" of document 01's rules: over the distinct comparisons of both sides, by words, no more than the limit.
-- Trusted. Assumes nothing.
--     truth_under          a boolean's value where each comparison, by its words, is given true or false
--     among_words          words that are listed
--     comparisons         the comparisons of a boolean that are not yet listed, with the list
--     distinct            the distinct comparisons of two booleans
--     Implies             the sentence
--     EachImpliesFalse    each antecedent of a set implies false (rule 14 of the sets)
use Rattle.std.specs.Prelude.{◌≡◌, Bool, true, false, not, ◌&&◌, ◌||◌, cond, List, [], ◌∷◌, ◌≤◌, length}
use Rattle.language.specs.Syntax.{Boolean, Expr, compare, truth, and, or, neg}
use Rattle.rules.specs.Words.{Word, words, same_words}
use Rattle.rules.specs.Assertion.{Members}
use Rattle.rules.specs.Context.{Context}

-- a comparison, x = x too, is worth what it is given
unfoldable pub truth_under : Expr Boolean → (List Word → Bool) → Bool
truth_under (compare r a b) v = v (words (compare r a b))
truth_under (truth t) v = t
truth_under (and b c) v = truth_under b v && truth_under c v
truth_under (or b c) v = truth_under b v || truth_under c v
truth_under (neg b) v = not (truth_under b v)

abbrev pub among_words : List Word → List (List Word) → Bool
among_words w [] = false
among_words w (v ∷ l) = same_words w v || among_words w l

-- the comparisons of a boolean that are not yet in l, with l
unfoldable pub comparisons : Expr Boolean → List (List Word) → List (List Word)
comparisons (compare r a b) l =
    let w = words (compare r a b) in cond (among_words w l) l (w ∷ l)
comparisons (truth t) l = l
comparisons (and b c) l = comparisons c (comparisons b l)
comparisons (or b c) l = comparisons c (comparisons b l)
comparisons (neg b) l = comparisons b l

abbrev pub distinct : Expr Boolean → Expr Boolean → List (List Word)
distinct φ ψ = comparisons ψ (comparisons φ [])

pub record Implies (Γ : Context) (φ ψ : Expr Boolean) : Type 0 where
  pub few : length (distinct φ ψ) ≤ Γ.limits.comparisons
  pub implied : (v : List Word → Bool) → truth_under φ v ≡ true → truth_under ψ v ≡ true

abbrev pub EachImpliesFalse : Context → Members → Type 0
EachImpliesFalse Γ [] = Unit {0}
EachImpliesFalse Γ (m ∷ q) = Implies Γ m.antecedent (truth false) × EachImpliesFalse Γ q
