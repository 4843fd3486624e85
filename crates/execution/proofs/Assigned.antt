-- An assignment of the runner gives the store that the language's definition gives, or stops by the refusal that its
-- right side meets first.
-- Assumes nothing.
--     Sized, Represents    32 scalars and 2,048 values; a lent store that is sized, held by a store
--     held-set             a scalar is set
--     held-paste           an array's 64 values are replaced
--     given_holds          the law
use mathlib.Core.Path.{◌≡◌, refl, sym, ap, subst, ◌∙◌}
use mathlib.Core.List.{List, ◌++◌}
use mathlib.Core.Bool.{Bool, true, false, cond}
use Prim.Native.Nat.{ℕ, zero, suc, ◌+◌, ◌*◌, ◌-◌, ◌<◌, ◌≤◌}
use native.Mathlib.Omega.{arith}
use borrow.Author.Tests.{ltb-true, ltb-false, eqb-true, eqb-false}
use lib.Dec.{eqb, ltb}
use lib.IntN.{ℤ, pos}
use lib.ListN.{get_or-append, length, get_or, set, take, drop, length-set}
use lib.Seq.{get_or-append-add, length_paste_head, length-paste, paste, get_or-take, get_or-drop}
use lib.Seq.{get_or-set_same, get_or-set_other, length-take-le}
use Rattle.language.specs.Syntax.{Array, Assignment, to_scalar, to_array}
use Rattle.language.specs.Store.{Store, value, put}
use Rattle.language.specs.Runs.{assigned}
use Rattle.execution.specs.Lent.{Lent, elements_from, elements, HeldBy}
use Rattle.execution.specs.Run.{given}
use Rattle.execution.specs.Refusal.{step_refusal}
use Rattle.execution.specs.Due.{gives}
use Rattle.execution.proofs.Small.{SmallAssignment}
use Rattle.execution.proofs.Evaluated.{Near, WorkedOut, mapped, evaluated}

pub record Sized (m : Lent) : Type 0 where
  pub scalars-sized : length m.scalars ≡ 32
  pub values-sized : length m.values ≡ 2048

pub record Represents (m : Lent) (s : Store) : Type 0 where
  pub sized : Sized m
  pub held : HeldBy m s

-- the values at indexes
length-elements : (n i : ℕ) (f : ℤ → ℤ) → length (elements_from n i f) ≡ n
unfolding elements_from
length-elements zero i f = refl
length-elements (suc n) i f = ap suc (length-elements n (suc i) f)

get_or-elements : (n i : ℕ) (f : ℤ → ℤ) (j : ℕ) → j < n → get_or (elements_from n i f) j (pos 0) ≡ f (pos (i + j))
unfolding elements_from
get_or-elements zero i f j h = absurd (omega arith)
get_or-elements (suc n) i f zero h = ap (λ k. f (pos k)) (omega arith)
get_or-elements (suc n) i f (suc j) h =
    get_or-elements n (suc i) f j (omega arith) ∙ ap (λ k. f (pos k)) (omega arith)

-- n elements of s, from at on in d
module _ (d : List ℤ) (at : ℕ) (s : List ℤ) (n : ℕ) (hd : at + n ≤ length d) (hs : n ≤ length s) where
  head-long : length (take at d ++ take n s) ≡ at + n
  head-long = length_paste_head d at s n (omega arith) hs

  paste-below : (j : ℕ) → j < at → get_or (paste d at s n) j (pos 0) ≡ get_or d j (pos 0)
  paste-below j h =
      let l = head-long in
      let m = length-take-le at d (omega arith) in
      get_or-append (take at d ++ take n s) (drop (at + n) d) (pos 0) j (omega arith)
      ∙ get_or-append (take at d) (take n s) (pos 0) j (omega arith)
      ∙ get_or-take at d j (pos 0) h

  paste-within : (i : ℕ) → i < n → get_or (paste d at s n) (at + i) (pos 0) ≡ get_or s i (pos 0)
  paste-within i h =
      let l = head-long in
      let m : length (take at d) ≡ at = length-take-le at d (omega arith) in
      get_or-append (take at d ++ take n s) (drop (at + n) d) (pos 0) (at + i) (omega arith)
      ∙ subst (λ (k : ℕ). get_or (take at d ++ take n s) (k + i) (pos 0) ≡ get_or (take n s) i (pos 0)) m
      (get_or-append-add (take at d) (take n s) i (pos 0))
      ∙ get_or-take n s i (pos 0) h

  paste-above : (j : ℕ) → at + n ≤ j → get_or (paste d at s n) j (pos 0) ≡ get_or d j (pos 0)
  paste-above j h =
      let e : length (take at d ++ take n s) + (j - (at + n)) ≡ j = (let l = head-long in omega arith) in
      let e' : at + n + (j - (at + n)) ≡ j = omega arith in
      subst (λ (k : ℕ). get_or (paste d at s n) k (pos 0) ≡ get_or (drop (at + n) d) (j - (at + n)) (pos 0)) e
      (get_or-append-add (take at d ++ take n s) (drop (at + n) d) (j - (at + n)) (pos 0))
      ∙ get_or-drop (at + n) d (j - (at + n)) (pos 0) ∙ ap (λ (k : ℕ). get_or d k (pos 0)) e'

-- a scalar is set
pub held-set : (m : Lent) (s : Store) → Represents m s → (x : ℕ) → x < 32 → (v w : ℤ) → v ≡ w →
    Represents (record { scalars = set m.scalars x v; values = m.values })
    (record { scalars = put eqb s.scalars x w; arrays = s.arrays })
held-set m s h x l v w e = record {
  sized = record {
    scalars-sized = length-set m.scalars x v ∙ h.sized.scalars-sized;
    values-sized = h.sized.values-sized;
  };
  held = record { scalars-held = λ y k. at-scalar y k (eqb x y) refl; arrays-held = h.held.arrays-held };
}
  where
    at-scalar : (y : ℕ) → y < 32 → (b : Bool) → eqb x y ≡ b →
        get_or (set m.scalars x v) y (pos 0) ≡ cond b w (s.scalars y)
    at-scalar y k true t =
        let long = h.sized.scalars-sized in
        ap (λ z. get_or (set m.scalars x v) z (pos 0)) (sym (eqb-true x y t))
        ∙ get_or-set_same m.scalars x v (pos 0) (omega arith) ∙ e
    at-scalar y k false t =
        get_or-set_other m.scalars x y v (pos 0) (λ q. eqb-false x y t (sym q)) ∙ h.held.scalars-held y k

-- an array's values at 0 to 63 are replaced
pub held-paste : (m : Lent) (s : Store) → Represents m s → (a : ℕ) → a < 32 → (f g : ℤ → ℤ) → Near Array f g →
    Represents (record { scalars = m.scalars; values = paste m.values (64 * a) (elements f) 64 })
    (record { scalars = s.scalars; arrays = put eqb s.arrays a g })
held-paste m s h a l f g near = record {
  sized = record {
    scalars-sized = h.sized.scalars-sized;
    values-sized = length-paste m.values (64 * a) (elements f) 64 room long ∙ h.sized.values-sized;
  };
  held = record { scalars-held = h.held.scalars-held; arrays-held = λ b i k j. at-array b i k j (eqb a b) refl };
}
  where
    room : 64 * a + 64 ≤ length m.values
    room = let e = h.sized.values-sized in omega arith

    long : 64 ≤ length (elements f)
    long = let e = length-elements 64 0 f in omega arith

    other : (b i : ℕ) → i < 64 → (a ≡ b → ⊥) → (t : Bool) → ltb b a ≡ t →
        get_or (paste m.values (64 * a) (elements f) 64) (64 * b + i) (pos 0) ≡ get_or m.values (64 * b + i) (pos 0)
    other b i j ne true t =
        let o = ltb-true b a t in paste-below m.values (64 * a) (elements f) 64 room long (64 * b + i) (omega arith)
    other b i j ne false t =
        let o = ltb-false b a t in paste-above m.values (64 * a) (elements f) 64 room long (64 * b + i) (omega arith)

    at-array : (b i : ℕ) → b < 32 → i < 64 → (t : Bool) → eqb a b ≡ t →
        get_or (paste m.values (64 * a) (elements f) 64) (64 * b + i) (pos 0) ≡ (cond t g (s.arrays b)) (pos i)
    at-array b i k j true t =
        ap (λ z. get_or (paste m.values (64 * a) (elements f) 64) (64 * z + i) (pos 0)) (sym (eqb-true a b t))
        ∙ paste-within m.values (64 * a) (elements f) 64 room long i j
        ∙ get_or-elements 64 0 f i j ∙ ap (λ z. f (pos z)) (omega arith) ∙ near i j
    at-array b i k j false t = other b i j (eqb-false a b t) (ltb b a) refl ∙ h.held.arrays-held b i k j

-- THE LAW of assignments
pub given_holds : (a : Assignment) → SmallAssignment a → (m : Lent) (s : Store) → Represents m s →
    WorkedOut (λ m'. Represents m' (assigned a s)) (step_refusal (gives a) s) (given a m)
unfolding SmallAssignment step_refusal
given_holds (to_scalar x e) small m s h =
    mapped (λ v. record { scalars = set m.scalars x v; values = m.values })
    (evaluated m s h.held e small.1) λ v n. held-set m s h x small.0 v (value e s) n
given_holds (to_array a e) small m s h =
    mapped (λ f. record { scalars = m.scalars; values = paste m.values (64 * a) (elements f) 64 })
    (evaluated m s h.held e small.1) λ f n. held-paste m s h a small.0 f (value e s) n
