-- What the words of the blocks say of the assignments: a word of ones says that 64 of them make the formula true, and
-- another word has one that does not.
-- Assumes nothing.
--     UpTo, upto-none, upto-more    every assignment of the first blocks makes the formula true
--     upto-end, upto-stuck          at the last block; at a word that is not all ones
--     four_more, four_stuck         four blocks
use mathlib.Core.Path.{◌≡◌, sym, ap, subst, ◌∙◌}
use mathlib.Core.Bool.{Bool, true, false, false≢true, true≢false}
use mathlib.Core.List.{List}
use mathlib.Core.Logic.{⊎_elim}
use Prim.Native.Nat.{ℕ, suc, ◌+◌, ◌*◌, ◌-◌, ◌^◌, ◌<◌, ◌≤◌}
use native.Mathlib.Omega.{arith}
use Rattle.truth_table.specs.Formula.{Formula, value, bit, numbered, Small, word, Block, Spelled, Gives, Every}
use Rattle.truth_table.specs.Formula.{FourBlocks, GivesFour, Full}
use Rattle.truth_table.proofs.Bits.{below, bit-ones, some-zero, num, num-true, num-false, word_fits, word-bit}

module _ {b : ℕ} {tb : List ℕ} (B : Block b tb) (f : Formula) {x : ℕ} (s : Small f) (e : x ≡ word tb f) where
  bits : (j : ℕ) → j < 64 → bit x j ≡ num (value (numbered (64 * b + j)) f)
  bits j l = ap (λ (z : ℕ). bit z j) e ∙ word-bit B f j s l

  clear : x ≡ 2 ^ 64 - 1 → (j : ℕ) → j < 64 → value (numbered (64 * b + j)) f ≡ true
  clear z j l = num-true _ (sym (bits j l) ∙ ap (λ (q : ℕ). bit q j) z ∙ bit-ones j l)

  stuck : (x ≡ 2 ^ 64 - 1 → ⊥) → (k : ℕ) × (value (numbered k) f ≡ false)
  stuck z =
      let r = some-zero x (rw e (word_fits B f)) z in
      (64 * b + r.0, num-false _ (sym (bits r.0 r.1) ∙ r.2))

pub record UpTo (p : List ℕ) (n b : ℕ) : Type 0 where
  upto : (f : Formula) → Spelled p n f → (k : ℕ) → k < 64 * b → value (numbered k) f ≡ true

module _ {p : List ℕ} {n : ℕ} where
  pub upto-none : UpTo p n 0
  upto-none = record { upto = λ f s k l. absurd (omega arith) }

  pub upto-end : {b c : ℕ} → c ≤ b → UpTo p n b → Every p n c true
  upto-end {b} {c} h u = record {
    every = λ f s. record {
      sound = λ _ k l. u.upto f s k (omega arith);
      witness = λ e. absurd (true≢false e);
    };
  }

  module _ {b : ℕ} {tb : List ℕ} {x : ℕ} (B : Block b tb) (g : Gives p n tb x) where
    pub upto-more : x ≡ 2 ^ 64 - 1 → UpTo p n b → UpTo p n (b + 1)
    upto-more z u = record {
      upto = λ f s k l.
          ⊎_elim
          (λ (h : k < 64 * b). u.upto f s k h)
          (λ (h : 64 * b ≤ k).
          subst (λ (i : ℕ). value (numbered i) f ≡ true) (back k h)
          (clear B f s.small (g.gives f s) z (k - 64 * b) (omega arith)))
          (below k (64 * b));
    }
      where
        back : (k : ℕ) → 64 * b ≤ k → 64 * b + (k - 64 * b) ≡ k
        back k h = omega arith

    pub upto-stuck : {c : ℕ} → (x ≡ 2 ^ 64 - 1 → ⊥) → Every p n c false
    upto-stuck z = record {
      every = λ f s. record {
        sound = λ e. absurd (false≢true e);
        witness = λ _. stuck B f s.small (g.gives f s) z;
      };
    }

-- ---- four blocks
module _ {p : List ℕ} {n b : ℕ} {t : List (List ℕ)} {x : List ℕ} {r : Bool}
    (B : FourBlocks b t) (g : GivesFour p n t x) (f : Full x r) where
  pub four_more : r ≡ true → UpTo p n b → UpTo p n (b + 4)
  four_more e u = to (omega arith) (next 3 (omega arith) (next 2 (omega arith) (next 1 (omega arith) (next 0 (omega arith) (to (omega arith) u)))))
    where
      to : {i j : ℕ} → i ≡ j → UpTo p n i → UpTo p n j
      to e v = subst (UpTo p n) e v

      next : (j : ℕ) → j < 4 → UpTo p n (b + j) → UpTo p n (b + suc j)
      next j l v = to (omega arith) (upto-more (B.each j l) (g.each j l) (f.all e j l) v)

  pub four_stuck : {c : ℕ} → r ≡ false → Every p n c false
  four_stuck e = let s = f.some e in upto-stuck (B.each s.0 s.1) (g.each s.0 s.1) s.2
