-- Comparisons by number: a listed comparison keeps its number as others are put before it.
-- Assumes nothing.
--     Listed, include, by-test                  comparisons; one put in; a test in both ways
--     number-low, number-new, entry-number      the number of what is listed, of what is new; the one with that number
--     number-found, number-missed               the first entry that is a comparison has its number; none is
--     extends-self, extends-trans               numbers stay
--     extends-include, extends-comparisons      as comparisons are listed
--     listed, grown                             a comparison that is put in is listed; the list does not shrink
--     small, depth-formula                      a formula's leaves and depth
use mathlib.Core.Path.{◌≡◌, refl, sym, ap, ◌∙◌}
use mathlib.Core.Bool.{Bool, true, false, cond}
use mathlib.Core.List.{List, [], ◌∷◌}
use mathlib.Core.Logic.{⊎_elim}
use Prim.Native.Nat.{ℕ, zero, suc, ◌<◌, ◌≤◌}
use native.Mathlib.Nat.{eq-or-lt_of_le}
use native.Mathlib.Omega.{arith}
use borrow.Author.Tests.{eq-eqb, ne_eqb}
use lib.ListN.{length}
use Rattle.laws.proofs.Bools.{or_cases, or-first, or-second, clash}
use Rattle.language.specs.Syntax.{Boolean, Expr, compare, truth, and, or, neg}
use Rattle.rules.specs.Words.{Word, words, same_words}
use Rattle.rules.specs.Implies.{among_words, comparisons}
use Rattle.rules.proofs.Decides.{same_words-decides}
use Rattle.layout.specs.Spelling.{FitsExpression}
use Rattle.truth_table.specs.Formula.{depth, Small}
use Rattle.implication.specs.Compiling.{number, entry, Extends, formula}

abbrev pub Listed : Type 0
Listed = List (List Word)

-- a comparison put before others, unless it is one of them
abbrev pub include : List Word → Listed → Listed
include c l = cond (among_words c l) l (c ∷ l)

-- a test in both ways
pub by-test : {A : Type 0} (b : Bool) → (b ≡ true → A) → (b ≡ false → A) → A
by-test true f g = f refl
by-test false f g = g refl

number-old : (a c : List Word) (l : Listed) → among_words c l ≡ true → number (a ∷ l) c ≡ number l c
unfolding number
number-old a c l h = rw h

pub number-new : (a c : List Word) (l : Listed) → among_words c l ≡ false → number (a ∷ l) c ≡ length l
unfolding number
number-new a c l h = rw h

pub entry-last : (a : List Word) (l : Listed) → entry (a ∷ l) (length l) ≡ a
unfolding entry
entry-last a l = rw (eq-eqb (length l) (length l) refl)

pub entry_old : (a : List Word) (l : Listed) (i : ℕ) → i < length l → entry (a ∷ l) i ≡ entry l i
unfolding entry
entry_old a l i h = rw (ne_eqb i (length l) (λ e. omega arith))

pub number-low : (l : Listed) (c : List Word) → among_words c l ≡ true → number l c < length l
number-low [] c h = clash h refl
number-low (a ∷ l) c h =
    by-test (among_words c l)
    (λ e. let n = number-old a c l e in let k = number-low l c e in omega arith)
    (λ e. let n = number-new a c l e in omega arith)

pub entry-number : (l : Listed) (c : List Word) → among_words c l ≡ true → entry l (number l c) ≡ c
entry-number [] c h = clash h refl
entry-number (a ∷ l) c h =
    by-test (among_words c l)
    (λ e. ap (entry (a ∷ l)) (number-old a c l e) ∙ entry_old a l (number l c) (number-low l c e) ∙ entry-number l c e)
    (λ e. ap (entry (a ∷ l)) (number-new a c l e) ∙ entry-last a l ∙ sym ((same_words-decides c a).sound (first e)))
  where
    first : among_words c l ≡ false → same_words c a ≡ true
    first e = ⊎_elim (λ x. x) (λ x. clash x e) (or_cases (same_words c a) (among_words c l) h)

-- no entry below r is c
abbrev pub NoneBelow : Listed → List Word → ℕ → Type 0
NoneBelow l c r = (i : ℕ) → i < r → entry l i ≡ c → ⊥

pub number-missed : (l : Listed) (c : List Word) → NoneBelow l c (length l) → among_words c l ≡ false
number-missed l c f =
    by-test (among_words c l) (λ e. absurd (f (number l c) (number-low l c e) (entry-number l c e))) (λ e. e)

pub number-found : (l : Listed) (c : List Word) (r : ℕ) → r < length l → entry l r ≡ c → NoneBelow l c r →
    (among_words c l ≡ true) × (number l c ≡ r)
number-found [] c r h e f = absurd (omega arith)
number-found (a ∷ l) c r h e f =
    ⊎_elim
    (λ (k : r ≡ length l).
    let m = number-missed l c (λ i b x. f i (omega arith) (entry_old a l i b ∙ x)) in
    let s : a ≡ c = sym (entry-last a l) ∙ ap (entry (a ∷ l)) (sym k) ∙ e in (
      or-first (among_words c l) ((same_words-decides c a).complete (sym s)),
      number-new a c l m ∙ sym k,
    ))
    (λ (k : r < length l).
    let x = number-found l c r k (sym (entry_old a l r k) ∙ e) (λ i b y. f i b (entry_old a l i (omega arith) ∙ y)) in
    (or-second (same_words c a) x.0, number-old a c l x.0 ∙ x.1))
    (eq-or-lt_of_le (le r (length l) h))
  where
    le : (r n : ℕ) → r < suc n → r ≤ n
    le r n h = omega arith

-- ---- numbers stay
pub extends-self : (l : Listed) → Extends l l
extends-self l = record { kept = λ c h. (h, refl) }

pub extends-trans : {l m n : Listed} → Extends l m → Extends m n → Extends l n
extends-trans x y = record {
  kept = λ c h.
      let p = x.kept c h in
      let q = y.kept c p.0 in
      (q.0, q.1 ∙ p.1);
}

extends-cons : (a : List Word) (l : Listed) → Extends l (a ∷ l)
extends-cons a l = record { kept = λ c h. (or-second (same_words c a) h, number-old a c l h) }

pub extends-include : (c : List Word) (l : Listed) → Extends l (include c l)
extends-include c l = go (among_words c l)
  where
    go : (b : Bool) → Extends l (cond b l (c ∷ l))
    go true = extends-self l
    go false = extends-cons c l

pub extends-comparisons : (φ : Expr Boolean) (l : Listed) → Extends l (comparisons φ l)
unfolding comparisons
extends-comparisons (compare r a b) l = extends-include (words (compare r a b)) l
extends-comparisons (truth t) l = extends-self l
extends-comparisons (and b c) l =
    extends-trans (extends-comparisons b l) (extends-comparisons c (comparisons b l))
extends-comparisons (or b c) l =
    extends-trans (extends-comparisons b l) (extends-comparisons c (comparisons b l))
extends-comparisons (neg b) l = extends-comparisons b l

-- what is put in is listed
pub listed : (c : List Word) (l : Listed) → among_words c (include c l) ≡ true
listed c l = go (among_words c l) refl
  where
    go : (b : Bool) → among_words c l ≡ b → among_words c (cond b l (c ∷ l)) ≡ true
    go true e = e
    go false e = or-first (among_words c l) ((same_words-decides c c).complete refl)

pub grown-include : (c : List Word) (l : Listed) → length l ≤ length (include c l)
grown-include c l = go (among_words c l)
  where
    go : (b : Bool) → length l ≤ length (cond b l (c ∷ l))
    go true = omega arith
    go false = omega arith

pub grown : (φ : Expr Boolean) (l : Listed) → length l ≤ length (comparisons φ l)
unfolding comparisons
grown (compare r a b) l = grown-include (words (compare r a b)) l
grown (truth t) l = omega arith
grown (and b c) l = let x = grown b l in let y = grown c (comparisons b l) in omega arith
grown (or b c) l = let x = grown b l in let y = grown c (comparisons b l) in omega arith
grown (neg b) l = grown b l

-- ---- formulas
pub small : (φ : Expr Boolean) (l m : Listed) → Extends (comparisons φ l) m → length m ≤ 16 → Small (formula m φ)
unfolding comparisons formula Small
small (compare r a b) l m x h =
    let c = words (compare r a b) in
    let k = number-low m c (x.kept c (listed c l)).0 in
    omega arith
small (truth t) l m x h = tt
small (and b c) l m x h =
    (small b l m (extends-trans (extends-comparisons c (comparisons b l)) x) h, small c (comparisons b l) m x h)
small (or b c) l m x h =
    (small b l m (extends-trans (extends-comparisons c (comparisons b l)) x) h, small c (comparisons b l) m x h)
small (neg b) l m x h = small b l m x h

pub depth-formula : (φ : Expr Boolean) (d : ℕ) (m : Listed) → FitsExpression φ d → depth (formula m φ) ≤ d
unfolding FitsExpression formula depth
depth-formula φ zero m h = absurd h
depth-formula (compare r a b) (suc d) m h = omega arith
depth-formula (truth t) (suc d) m h = omega arith
depth-formula (and b c) (suc d) m h =
    let x = depth-formula b d m h.0 in
    let y = depth-formula c d m h.1 in
    omega arith
depth-formula (or b c) (suc d) m h =
    let x = depth-formula b d m h.0 in
    let y = depth-formula c d m h.1 in
    omega arith
depth-formula (neg b) (suc d) m h = let x = depth-formula b d m h in omega arith
