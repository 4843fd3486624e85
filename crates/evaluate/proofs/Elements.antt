-- The values of an array at 0 to 63, as a list.
-- Assumes nothing.
--     elements-length, elements-at    how many; the value at an index
--     fetched, fetched-next           the values of an array of the store; one more of them
--     cleared                         zero everywhere
--     set-elements                    a value replaced
use mathlib.Core.Path.{◌≡◌, refl, sym, ap, ap₂, subst, ◌∙◌}
use mathlib.Core.Bool.{Bool, true, false, cond}
use mathlib.Core.List.{List, [], ◌∷◌, ◌++◌}
use Prim.Native.Nat.{ℕ, zero, suc, ◌+◌, ◌*◌, ◌<◌}
use native.Mathlib.Omega.{arith}
use native.Mathlib.Numerals.{add-one}
use borrow.Author.Tests.{eqb-true, eqb-false}
use lib.Dec.{eqb}
use lib.IntN.{ℤ, pos}
use lib.ListN.{length, get_or, take, drop, set, replicate, length-take, length-drop, length-set}
use lib.ListN.{get_or-replicate}
use lib.Seq.{take-suc, take-suc-set, ext_get_or, get_or-take, get_or-drop, get_or-set_same, get_or-set_other}
use Rattle.language.specs.Store.{same_integer, put}
use Rattle.execution.specs.Lent.{element_at, elements_from, elements}

length_from : (n i : ℕ) (f : ℤ → ℤ) → length (elements_from n i f) ≡ n
unfolding elements_from
length_from zero i f = refl
length_from (suc n) i f = ap suc (length_from n (suc i) f)

get_or-from : (n i : ℕ) (f : ℤ → ℤ) (j : ℕ) → j < n → get_or (elements_from n i f) j (pos 0) ≡ f (pos (i + j))
unfolding elements_from
get_or-from zero i f j h = absurd (omega arith)
get_or-from (suc n) i f zero h = ap (λ k. f (pos k)) (omega arith)
get_or-from (suc n) i f (suc j) h = get_or-from n (suc i) f j (omega arith) ∙ ap (λ k. f (pos k)) (omega arith)

pub elements-length : (f : ℤ → ℤ) → length (elements f) ≡ 64
elements-length f = length_from 64 0 f

pub elements-at : (f : ℤ → ℤ) (j : ℕ) → j < 64 → get_or (elements f) j (pos 0) ≡ f (pos j)
elements-at f j h = get_or-from 64 0 f j h ∙ ap (λ k. f (pos k)) (omega arith)

-- a list of 64 values is that of a map if it has its values
listed : (l : List ℤ) (f : ℤ → ℤ) → length l ≡ 64 → ((j : ℕ) → j < 64 → get_or l j (pos 0) ≡ f (pos j)) → l ≡ elements f
listed l f e h =
    ext_get_or (pos 0) l (elements f) (e ∙ sym (elements-length f))
    (λ j k. h j (omega arith) ∙ sym (elements-at f j (omega arith)))

pub fetched : (vs : List ℤ) (a : ℕ) {n : ℕ} → n ≡ 64 → a < 32 → length vs ≡ 2048 →
    take n (drop (64 * a) vs) ≡ elements (element_at vs a)
fetched vs a e ha hv =
    ap (λ n. take n (drop (64 * a) vs)) e
    ∙ listed (take 64 (drop (64 * a) vs)) (element_at vs a)
    (simp (length-take, length-drop) (omega arith))
    (λ j h. get_or-take 64 (drop (64 * a) vs) j (pos 0) h ∙ get_or-drop (64 * a) vs j (pos 0))

-- one value more
pub fetched-next : (s vs : List ℤ) (a n : ℕ) (v : ℤ) → n < length s → 64 * a + n < length vs → v ≡ get_or vs (64 * a + n) (pos 0) →
    take n s ≡ take n (drop (64 * a) vs) → take (n + 1) (set s n v) ≡ take (n + 1) (drop (64 * a) vs)
fetched-next s vs a n v h k e f =
    let m : n + 1 ≡ suc n = add-one n in
    rw m
    (take-suc-set s n v h ∙ ap₂ (λ l x. l ++ (x ∷ [])) f (e ∙ sym (get_or-drop (64 * a) vs n (pos 0)))
    ∙ sym (take-suc (drop (64 * a) vs) n (pos 0) (rw length-drop (omega arith))))

pub cleared : replicate 64 (pos 0) ≡ elements (λ i. pos 0)
cleared = listed (replicate 64 (pos 0)) (λ i. pos 0) refl (λ j k. get_or-replicate 64 j (pos 0) (pos 0) k)

pub set-elements : (f : ℤ → ℤ) (n : ℕ) (v : ℤ) → n < 64 → set (elements f) n v ≡ elements (put same_integer f (pos n) v)
set-elements f n v h =
    listed (set (elements f) n v) (put same_integer f (pos n) v) (length-set (elements f) n v ∙ elements-length f)
    (λ j k. go j k (eqb n j) refl)
  where
    go : (j : ℕ) → j < 64 → (b : Bool) → eqb n j ≡ b →
        get_or (set (elements f) n v) j (pos 0) ≡ cond (eqb n j) v (f (pos j))
    go j k true e =
        rw e (subst (λ i. get_or (set (elements f) n v) i (pos 0) ≡ v) (eqb-true n j e)
        (get_or-set_same (elements f) n v (pos 0) (omega (arith, elements-length f))))
    go j k false e =
        rw e (get_or-set_other (elements f) n j v (pos 0) (λ q. eqb-false n j e (sym q)) ∙ elements-at f j k)
