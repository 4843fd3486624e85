-- The truth table of `Tests` decides the sentence of `Implies`. Under an assignment v the two sides are worth what they are
-- under the list of v's values of their comparisons, since every comparison of both sides is listed.
-- Assumes nothing.
--     given-map, truth-agrees    a listed comparison's value; assignments that agree on the comparisons of a boolean
--     every_map, every-each      every list of values is tried
--     table-decides              the law
use mathlib.Core.Path.{◌≡◌, refl, sym, ◌∙◌, ap, ap₂}
use mathlib.Core.Bool.{Bool, true, false, not, ◌&&◌, ◌||◌, cond}
use mathlib.Core.Logic.{◌⊎◌, inl, inr}
use mathlib.Core.List.{List, [], ◌∷◌, map}
use Prim.Native.Nat.{ℕ, zero, suc}
use lib.ListN.{length}
use Rattle.laws.proofs.Bools.{and_left, and_right, and_both, or_cases, or-first, or-second, clash}
use Rattle.laws.proofs.Decides.{Decides, decides_implies}
use Rattle.language.specs.Syntax.{Boolean, Expr, compare, truth, and, or, neg}
use Rattle.rules.specs.Words.{Word, words, same_words}
use Rattle.rules.specs.Implies.{truth_under, among_words, comparisons, distinct}
use Rattle.rules.specs.Tests.{assignment_of, every, truth_table}
use Rattle.rules.proofs.Decides.{same_words-decides}

-- a comparison that is listed stays listed
still-listed : (t : Bool) (w c : List Word) (l : List (List Word)) →
    among_words w l ≡ true → among_words w (cond t l (c ∷ l)) ≡ true
still-listed true w c l h = h
still-listed false w c l h = or-second (same_words w c) h

comparisons-keep : (φ : Expr Boolean) (w : List Word) (l : List (List Word)) →
    among_words w l ≡ true → among_words w (comparisons φ l) ≡ true
unfolding comparisons
comparisons-keep (compare r a b) w l h =
    let c = words (compare r a b) in still-listed (among_words c l) w c l h
comparisons-keep (truth t) w l h = h
comparisons-keep (and b c) w l h = comparisons-keep c w (comparisons b l) (comparisons-keep b w l h)
comparisons-keep (or b c) w l h = comparisons-keep c w (comparisons b l) (comparisons-keep b w l h)
comparisons-keep (neg b) w l h = comparisons-keep b w l h

-- and one that is not is added
now_listed : (t : Bool) (w : List Word) (l : List (List Word)) →
    among_words w l ≡ t → among_words w (cond t l (w ∷ l)) ≡ true
now_listed true w l h = h
now_listed false w l h = or-first (among_words w l) ((same_words-decides w w).complete refl)

-- assignments that agree on the comparisons of a boolean
truth-agrees : (φ : Expr Boolean) (l : List (List Word)) (u v : List Word → Bool) →
    ((w : List Word) → among_words w (comparisons φ l) ≡ true → u w ≡ v w) → truth_under φ u ≡ truth_under φ v
unfolding comparisons truth_under
truth-agrees (compare r a b) l u v h =
    let w = words (compare r a b) in h w (now_listed (among_words w l) w l refl)
truth-agrees (truth t) l u v h = refl
truth-agrees (and b c) l u v h =
    ap₂ ◌&&◌
    (truth-agrees b l u v (λ w k. h w (comparisons-keep c w (comparisons b l) k)))
    (truth-agrees c (comparisons b l) u v h)
truth-agrees (or b c) l u v h =
    ap₂ ◌||◌
    (truth-agrees b l u v (λ w k. h w (comparisons-keep c w (comparisons b l) k)))
    (truth-agrees c (comparisons b l) u v h)
truth-agrees (neg b) l u v h = ap not (truth-agrees b l u v h)

-- the values of v, written as a list, give a listed comparison its value
given-map : (v : List Word → Bool) (l : List (List Word)) (w : List Word) →
    among_words w l ≡ true → assignment_of l (map v l) w ≡ v w
given-map v [] w h = clash h refl
given-map v (c ∷ l) w h = go (same_words c w) refl (or_cases (same_words w c) (among_words w l) h) (given-map v l w)
  where
    go : (t : Bool) → same_words c w ≡ t → (same_words w c ≡ true) ⊎ (among_words w l ≡ true) →
        (among_words w l ≡ true → assignment_of l (map v l) w ≡ v w) → cond t (v c) (assignment_of l (map v l) w) ≡ v w
    go true e k r = ap v ((same_words-decides c w).sound e)
    go false e (inl k) r =
        clash ((same_words-decides c w).complete (sym ((same_words-decides w c).sound k))) e
    go false e (inr k) r = r k

-- every list of values is tried
every_map : (v : List Word → Bool) (l : List (List Word)) (f : List Bool → Bool) →
    every (length l) f ≡ true → f (map v l) ≡ true
unfolding every
every_map v [] f h = h
every_map v (c ∷ l) f h = go (v c) (every_map v l)
  where
    go : (t : Bool) → ((g : List Bool → Bool) → every (length l) g ≡ true → g (map v l) ≡ true) →
        f (t ∷ map v l) ≡ true
    go true r = r (λ x. f (true ∷ x)) (and_left _ _ h)
    go false r = r (λ x. f (false ∷ x)) (and_right (every (length l) (λ x. f (true ∷ x))) _ h)

every-each : (n : ℕ) (f : List Bool → Bool) → ((x : List Bool) → f x ≡ true) → every n f ≡ true
unfolding every
every-each zero f h = h []
every-each (suc n) f h =
    and_both (every-each n (λ x. f (true ∷ x)) (λ x. h (true ∷ x)))
    (every-each n (λ x. f (false ∷ x)) (λ x. h (false ∷ x)))

pub table-decides : (φ ψ : Expr Boolean) →
    Decides (truth_table (distinct φ ψ) φ ψ) ((v : List Word → Bool) → truth_under φ v ≡ true → truth_under ψ v ≡ true)
unfolding truth_table
table-decides φ ψ = record { sound = by_map; complete = by-each }
  where
    l : List (List Word)
    l = distinct φ ψ

    by_map : truth_table l φ ψ ≡ true → (v : List Word → Bool) → truth_under φ v ≡ true → truth_under ψ v ≡ true
    by_map h v k =
        let u = assignment_of l (map v l) in
        let tried = every_map v l (λ x. not (truth_under φ (assignment_of l x)) || truth_under ψ (assignment_of l x)) h in
        let left = truth-agrees φ [] u v (λ w e. given-map v l w (comparisons-keep ψ w (comparisons φ []) e)) in
        let right = truth-agrees ψ (comparisons φ []) u v (given-map v l) in
        sym right ∙ (decides_implies (truth_under φ u) (truth_under ψ u)).sound tried (left ∙ k)

    by-each : ((v : List Word → Bool) → truth_under φ v ≡ true → truth_under ψ v ≡ true) → truth_table l φ ψ ≡ true
    by-each h =
        every-each (length l) _
        (λ x. (decides_implies (truth_under φ (assignment_of l x)) (truth_under ψ (assignment_of l x))).complete (h (assignment_of l x)))
