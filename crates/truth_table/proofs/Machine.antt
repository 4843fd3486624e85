-- The stack on which a spelled formula is worked out from its last byte to its first. What stands on it after the bytes
-- from a place on is a fold of those bytes, so one equation is the loop's invariant.
-- Assumes nothing.
--     run, run-spell                   the stack after some bytes; after those of a formula, its word is on top
--     height, Good, good               the height of the stack; it stays within bounds
--     State, begin, finish             the loop's state in one lane; at its start, at its end
--     push-room, pop_room              a stack that is not full, not empty
--     push, flip, meet, join           one byte: a leaf, not, and, or
--     short-formula                    a stack as long as the formula has room
use mathlib.Core.Path.{◌≡◌, refl, sym, ap, ap₂, ◌∙◌}
use mathlib.Core.Bool.{Bool, true, false, cond}
use mathlib.Core.List.{List, [], ◌∷◌}
use Prim.Native.Nat.{ℕ, zero, suc, ◌+◌, ◌-◌, ◌^◌, ◌<◌, ◌≤◌}
use native.Mathlib.Numerals.{add-one}
use native.Mathlib.Omega.{arith}
use borrow.Author.Tests.{ne_eqb, lt-ltb, le-ltb}
use lib.Bits.{bit_and, bit_or}
use lib.Dec.{eqb, ltb}
use lib.ListN.{length, get_or, take, drop, set, length-take, length-set}
use lib.Seq.{drop-cons, drop-length, get_or-take, get_or-set_same, get_or-set_other, length-take-le}
use Rattle.truth_table.specs.Formula.{Formula, leaf, fixed, conj, disj, negated, fixed_byte, spell, depth, Small}
use Rattle.truth_table.specs.Formula.{IsFormula, word, Gives}

abbrev unary : List ℕ → List ℕ
unary [] = []
unary (x ∷ s) = (2 ^ 64 - 1 - x) ∷ s

abbrev binary : (ℕ → ℕ → ℕ) → List ℕ → List ℕ
binary f [] = []
binary f (x ∷ []) = []
binary f (x ∷ y ∷ s) = f x y ∷ s

step : List ℕ → ℕ → List ℕ → List ℕ
step tb op s =
    cond (ltb op 18) (get_or tb op 0 ∷ s)
    (cond (eqb op 20) (unary s) (cond (eqb op 18) (binary bit_and s) (binary bit_or s)))

run : List ℕ → List ℕ → List ℕ
run tb [] = 0 ∷ []
run tb (op ∷ p) = step tb op (run tb p)

raise : ℕ → ℕ → ℕ
raise op h = cond (ltb op 18) (suc h) (cond (eqb op 20) h (h - 1))

height : List ℕ → ℕ
height [] = 1
height (op ∷ p) = raise op (height p)

Good : ℕ → List ℕ → Type 0
Good room [] = Unit {0}
Good room (op ∷ p) = Good room p × (op < 18 → height p ≤ room) × (18 ≤ op → (op ≡ 20 → ⊥) → 2 ≤ height p)

step-leaf : (tb : List ℕ) (op : ℕ) (s : List ℕ) → op < 18 → step tb op s ≡ get_or tb op 0 ∷ s
unfolding step
step-leaf tb op s h = rw (lt-ltb op 18 h)

raise-leaf : (op h : ℕ) → op < 18 → raise op h ≡ suc h
unfolding raise
raise-leaf op h l = rw (lt-ltb op 18 l)

step_other : (tb : List ℕ) (op : ℕ) (s : List ℕ) → 18 ≤ op → (op ≡ 20 → ⊥) → (op ≡ 18 → ⊥) →
    step tb op s ≡ binary bit_or s
unfolding step
step_other tb op s h n m = rw (le-ltb op 18 h, ne_eqb op 20 n, ne_eqb op 18 m)

raise-other : (op h : ℕ) → 18 ≤ op → (op ≡ 20 → ⊥) → raise op h ≡ h - 1
unfolding raise
raise-other op h l n = rw (le-ltb op 18 l, ne_eqb op 20 n)

fixed-low : (b : Bool) → fixed_byte b < 18
fixed-low true = omega arith
fixed-low false = omega arith

run-spell : (tb : List ℕ) (f : Formula) (p : List ℕ) → Small f → run tb (spell f p) ≡ word tb f ∷ run tb p
unfolding run spell word Small step
run-spell tb (leaf i) p s = step-leaf tb i (run tb p) (omega arith)
run-spell tb (fixed b) p s = step-leaf tb (fixed_byte b) (run tb p) (fixed-low b)
run-spell tb (conj f g) p s =
    ap (binary bit_and)
    (run-spell tb f (spell g p) s.0 ∙ ap (λ (r : List ℕ). word tb f ∷ r) (run-spell tb g p s.1))
run-spell tb (disj f g) p s =
    ap (binary bit_or)
    (run-spell tb f (spell g p) s.0 ∙ ap (λ (r : List ℕ). word tb f ∷ r) (run-spell tb g p s.1))
run-spell tb (negated f) p s = ap unary (run-spell tb f p s)

height-spell : (f : Formula) (p : List ℕ) → Small f → height (spell f p) ≡ suc (height p)
unfolding height spell Small raise
height-spell (leaf i) p s = raise-leaf i (height p) (omega arith)
height-spell (fixed b) p s = raise-leaf (fixed_byte b) (height p) (fixed-low b)
height-spell (conj f g) p s =
    let x = height-spell f (spell g p) s.0 in
    let y = height-spell g p s.1 in
    omega arith
height-spell (disj f g) p s =
    let x = height-spell f (spell g p) s.0 in
    let y = height-spell g p s.1 in
    omega arith
height-spell (negated f) p s = height-spell f p s

good-spell : (room : ℕ) (f : Formula) (p : List ℕ) → Small f → height p + depth f ≤ suc room → Good room p →
    Good room (spell f p)
unfolding Good spell depth Small
good-spell room (leaf i) p s h g = (g, λ l. omega arith, λ l n. absurd (omega arith))
good-spell room (fixed b) p s h g = (g, λ l. omega arith, λ l n. let k = fixed-low b in absurd (omega arith))
good-spell room (conj f k) p s h g =
    let x = height-spell f (spell k p) s.0 in
    let y = height-spell k p s.1 in (
      good-spell room f (spell k p) s.0 (omega arith) (good-spell room k p s.1 (omega arith) g),
      λ l. absurd (omega arith),
      λ l n. omega arith,
    )
good-spell room (disj f k) p s h g =
    let x = height-spell f (spell k p) s.0 in
    let y = height-spell k p s.1 in (
      good-spell room f (spell k p) s.0 (omega arith) (good-spell room k p s.1 (omega arith) g),
      λ l. absurd (omega arith),
      λ l n. omega arith,
    )
good-spell room (negated f) p s h g =
    (good-spell room f p s (omega arith) g, λ l. absurd (omega arith), λ l n. absurd (n refl))

good-drop : (room i : ℕ) (p : List ℕ) → Good room p → Good room (drop i p)
unfolding Good
good-drop room zero p g = g
good-drop room (suc i) [] g = g
good-drop room (suc i) (x ∷ p) g = good-drop room i p g.0

good : {p : List ℕ} {n room : ℕ} → IsFormula p n room → Good room (take n p)
unfolding height Good
good {room = room} x =
    rw x.is.bytes (good-spell room x.formula [] x.is.small (let h = x.low in omega arith) tt)

-- the first k words of the stack, the last first
under : List ℕ → ℕ → List ℕ
under s zero = []
under s (suc k) = get_or s k 0 ∷ under s k

under-set : (s : List ℕ) (j v k : ℕ) → k ≤ j → under (set s j v) k ≡ under s k
unfolding under
under-set s j v zero h = refl
under-set s j v (suc k) h =
    ap₂ (λ (x : ℕ) (r : List ℕ). x ∷ r)
    (get_or-set_other s j k v 0 (λ e. omega arith))
    (under-set s j v k (omega arith))

-- the bytes from i on have been worked out: w is on top, the rest of the stack below it
pub record State (room : ℕ) (tb p : List ℕ) (i : ℕ) (stack : List ℕ) (top w : ℕ) : Type 0 where
  size : length stack ≡ room
  pub low : top ≤ room
  holds : run tb (drop i p) ≡ w ∷ under stack top
  high : height (drop i p) ≡ suc top

pub begin : {room n : ℕ} {tb p stack : List ℕ} → length stack ≡ room → length p ≡ n → State room tb p n stack 0 0
unfolding run height under
begin {n = n} {tb = tb} {p = p} h e = record {
  size = h;
  low = omega arith;
  holds = ap (run tb) (gone p n e);
  high = ap height (gone p n e);
}
  where
    gone : (p : List ℕ) (n : ℕ) → length p ≡ n → drop n p ≡ []
    gone p n e = ap (λ (k : ℕ). drop k p) (sym e) ∙ drop-length p

pub finish : {tb prog stack : List ℕ} {room n i top w : ℕ} → i ≤ 0 → State room tb (take n prog) i stack top w →
    Gives prog n tb w
finish {tb} {prog} {n = n} {i = i} z st = record {
  gives = λ f sp.
      head-is
      (sym st.holds ∙ ap (λ (k : ℕ). run tb (drop k (take n prog))) (zeroed i z) ∙ ap (run tb) sp.bytes ∙
      run-spell tb f [] sp.small);
}
  where
    zeroed : (i : ℕ) → i ≤ 0 → i ≡ 0
    zeroed i h = omega arith

    head-is : {a b : ℕ} {r s : List ℕ} → ◌≡◌ {A = List ℕ} (a ∷ r) (b ∷ s) → a ≡ b
    head-is e = cc

module _ {tb prog stack : List ℕ} {room n i top w : ℕ}
    (is : IsFormula prog n room) (pos : 0 < i) (le : i ≤ n) (st : State room tb (take n prog) i stack top w) where
  abbrev op : ℕ
  op = get_or prog (i - 1) 0

  next : drop (i - 1) (take n prog) ≡ op ∷ drop i (take n prog)
  next =
      drop-cons (take n prog) (i - 1) 0 inside ∙
      ap₂ (λ (x : ℕ) (j : ℕ). x ∷ drop j (take n prog)) (get_or-take n prog (i - 1) 0 (omega arith)) one
    where
      inside : i - 1 < length (take n prog)
      inside = simp length-take (let h = is.within in omega arith)

      one : suc (i - 1) ≡ i
      one = omega arith

  here : Good room (op ∷ drop i (take n prog))
  here = rw next at (good-drop room (i - 1) (take n prog) (good is))

  pub push-room : op < 18 → top < room
  unfolding Good
  push-room l = let h = here.1 l in let k = st.high in omega arith

  pub pop_room : 18 ≤ op → (op ≡ 20 → ⊥) → 0 < top
  unfolding Good
  pop_room l m = let h = here.2 l m in let k = st.high in omega arith

  ran : run tb (drop (i - 1) (take n prog)) ≡ step tb op (w ∷ under stack top)
  unfolding run
  ran = ap (run tb) next ∙ ap (step tb op) st.holds

  rose : height (drop (i - 1) (take n prog)) ≡ raise op (suc top)
  unfolding height
  rose = ap height next ∙ ap (raise op) st.high

  pub push : op < 18 → State room tb (take n prog) (i - 1) (set stack top w) (top + 1) (get_or tb op 0)
  unfolding under
  push l = record {
    size = length-set stack top w ∙ st.size;
    low = let h = push-room l in omega arith;
    holds =
        ran ∙ step-leaf tb op (w ∷ under stack top) l ∙ ap (λ (r : List ℕ). get_or tb op 0 ∷ r) (sym stored);
    high = rose ∙ raise-leaf op (suc top) l ∙ ap suc (sym (add-one top));
  }
    where
      inside : top < length stack
      inside = let h = push-room l in let k = st.size in omega arith

      stored : under (set stack top w) (top + 1) ≡ w ∷ under stack top
      stored =
          ap (under (set stack top w)) (add-one top) ∙
          ap₂ (λ (x : ℕ) (r : List ℕ). x ∷ r)
          (get_or-set_same stack top w 0 inside)
          (under-set stack top w top (omega arith))

  pub flip : op ≡ 20 → State room tb (take n prog) (i - 1) stack top (2 ^ 64 - 1 - w)
  unfolding step raise
  flip e = record {
    size = st.size;
    low = st.low;
    holds = ran ∙ ap (λ (x : ℕ). step tb x (w ∷ under stack top)) e;
    high = rose ∙ ap (λ (x : ℕ). raise x (suc top)) e;
  }

  popped : 0 < top → under stack top ≡ get_or stack (top - 1) 0 ∷ under stack (top - 1)
  unfolding under
  popped h = ap (under stack) (up h) ∙ shown (top - 1)
    where
      up : 0 < top → top ≡ suc (top - 1)
      up h = omega arith

      shown : (k : ℕ) → under stack (suc k) ≡ get_or stack k 0 ∷ under stack k
      shown k = refl

  module _ (l : 18 ≤ op) (m : op ≡ 20 → ⊥) where
    lower : height (drop (i - 1) (take n prog)) ≡ suc (top - 1)
    lower = let h = rose ∙ raise-other op (suc top) l m in let k = pop_room l m in omega arith

    pub meet : op ≡ 18 → State room tb (take n prog) (i - 1) stack (top - 1) (bit_and w (get_or stack (top - 1) 0))
    unfolding step
    meet e = record {
      size = st.size;
      low = let h = st.low in omega arith;
      holds = ran ∙ ap₂ (λ (x : ℕ) (s : List ℕ). step tb x (w ∷ s)) e (popped (pop_room l m));
      high = lower;
    }

    pub join : (op ≡ 18 → ⊥) → State room tb (take n prog) (i - 1) stack (top - 1) (bit_or w (get_or stack (top - 1) 0))
    join k = record {
      size = st.size;
      low = let h = st.low in omega arith;
      holds =
          ran ∙ step_other tb op (w ∷ under stack top) l m k ∙
          ap (λ (s : List ℕ). binary bit_or (w ∷ s)) (popped (pop_room l m));
      high = lower;
    }

-- ---- a formula is no deeper than it is long
depth-spell : (f : Formula) (p : List ℕ) → depth f + length p ≤ length (spell f p)
unfolding depth spell
depth-spell (leaf i) p = omega arith
depth-spell (fixed b) p = omega arith
depth-spell (conj f g) p =
    let x = depth-spell f (spell g p) in
    let y = depth-spell g p in
    omega arith
depth-spell (disj f g) p =
    let x = depth-spell f (spell g p) in
    let y = depth-spell g p in
    omega arith
depth-spell (negated f) p = let x = depth-spell f p in omega arith

pub short-formula : {p : List ℕ} {n room : ℕ} (most : ℕ) → n ≤ most → IsFormula p n room → IsFormula p n most
short-formula {p} {n} most h x = record {
  formula = x.formula;
  is = x.is;
  within = x.within;
  low =
      let e : length (take n p) ≡ n = length-take-le _ _ x.within in
      let d = depth-spell x.formula [] in
      let l = ap length x.is.bytes in
      omega arith;
}
