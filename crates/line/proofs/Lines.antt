-- Bytes put one after the other, and numbers in decimal.
-- Assumes nothing.
--     decimal-digits, decimal-short, put-digits
--                          the digits that crate io makes are those of the definition, 20 at most
--     put_both             bytes put behind others
--     number_short         a number and one byte more
--     accepted-line, refused-line
--                          the line, piece by piece
use mathlib.Core.Path.{◌≡◌, refl, sym, ◌∙◌, ap, subst}
use mathlib.Core.Bool.{Bool, true, false}
use mathlib.Core.List.{List, [], ◌∷◌, ◌++◌, append_assoc}
use Prim.Native.Nat.{ℕ, zero, suc, ◌+◌, ◌/◌, ◌%◌, ◌-◌, ◌^◌, ◌<◌, ◌≤◌}
use native.Mathlib.Omega.{arith}
use native.Mathlib.Nat.{pow-succ', pow-le-pow_right}
use borrow.Author.Tests.{lt-ltb, le-ltb, leb-true, leb-false}
use lib.Dec.{ltb, leb}
use lib.ListN.{length, take, length-append}
use lib.Seq.{length-take-le}
use Rattle.io.specs.Digits.{hex_digit_ascii, last_digits, IsDigitCount}
use Rattle.rules.specs.Judge.{accepted, refused}
use Rattle.line.specs.Line.{decimal_by, decimal, accepted_text, refused_text, line_of, Written}
use Rattle.line.specs.Putting.{TextPut}

-- ---- decimal digits
small-glyph : (d : ℕ) → d < 10 → hex_digit_ascii d ≡ 48 + d
small-glyph d h = simp (lt-ltb d 10 h)

one-digit : (k n : ℕ) → n < 10 → decimal_by (suc k) n ≡ (48 + n) ∷ []
unfolding decimal_by
one-digit k n h = rw (lt-ltb n 10 h, decimal_by) refl

more-digits : (k n : ℕ) → 10 ≤ n → decimal_by (suc k) n ≡ decimal_by k (n / 10) ++ ((48 + n % 10) ∷ [])
unfolding decimal_by
more-digits k n h = rw (le-ltb n 10 h, decimal_by) refl

positive : (r : ℕ) → 1 ≤ 10 ^ r
positive zero = omega arith
positive (suc r) = let h = positive r in let e = pow-succ' 10 r in omega arith

by_digits : (r k n : ℕ) → r ≤ k → IsDigitCount 10 1 n r → decimal_by k n ≡ last_digits 10 r n
by_digits zero k n h f = absurd (omega (arith, f.0))
by_digits (suc r) zero n h f = absurd (omega arith)
by_digits (suc zero) (suc k) n h f =
    let small : n < 10 = omega (arith, f.1) in
    let same : n % 10 ≡ n = omega arith in
    one-digit k n small
    ∙ ap (λ (d : ℕ). d ∷ []) (sym (small-glyph n small) ∙ ap (λ (d : ℕ). hex_digit_ascii d) (sym same))
by_digits (suc (suc r)) (suc k) n h f =
    let e : suc (suc r) - 1 ≡ suc r = omega arith in
    let large = f.2 (omega arith) in
    let p = pow-succ' 10 (suc r) in
    let q = pow-succ' 10 r in
    let one = positive r in
    let low : 10 ^ suc r ≤ n = subst (λ (z : ℕ). 10 ^ z ≤ n) e large in
    let ten : 10 ≤ n = omega arith in
    let d : suc r - 1 ≡ r = omega arith in
    let half : 10 ^ r ≤ n / 10 = omega arith in
    let lower : 1 < suc r → 10 ^ (suc r - 1) ≤ n / 10 = λ l. subst (λ (z : ℕ). 10 ^ z ≤ n / 10) (sym d) half in
    let digit : n % 10 < 10 = omega arith in
    let rest : decimal_by k (n / 10) ≡ last_digits 10 (suc r) (n / 10) =
    by_digits (suc r) k (n / 10) (omega arith) (omega arith, omega (arith, f.1), λ l. lower l) in
    more-digits k n ten
    ∙ ap (λ (z : List ℕ). z ++ ((48 + n % 10) ∷ [])) rest
    ∙ ap (λ (d : ℕ). last_digits 10 (suc r) (n / 10) ++ (d ∷ [])) (sym (small-glyph (n % 10) digit))

pub decimal-digits : (r n : ℕ) → r ≤ 20 → IsDigitCount 10 1 n r → last_digits 10 r n ≡ decimal n
unfolding decimal
decimal-digits r n h f = sym (by_digits r 20 n h f)

-- a number of 64 bits has at most 20 digits
pub fewest_short : (n k : ℕ) → n < 18446744073709551616 → IsDigitCount 10 1 n k → k ≤ 20
fewest_short n k h f = go (leb k 20) refl
  where
    go : (t : Bool) → leb k 20 ≡ t → k ≤ 20
    go true t = leb-true k 20 t
    go false t =
        let l = leb-false k 20 t in
        let low = f.2 (omega arith) in
        let p : 100000000000000000000 ≤ 10 ^ (k - 1) =
        pow-le-pow_right {n = 10} (omega arith) {i = 20} {j = k - 1} (omega arith) in
        absurd (omega arith)

short-by : (k n : ℕ) → length (decimal_by k n) ≤ k
unfolding decimal_by
short-by zero n = omega arith
short-by (suc k) n = go (ltb n 10) (short-by k (n / 10))
  where
    go : (t : Bool) → length (decimal_by k (n / 10)) ≤ k →
        length {A = ℕ} (elim t [ true ↦ (48 + n) ∷ [] | false ↦ decimal_by k (n / 10) ++ ((48 + n % 10) ∷ []) ]) ≤ suc k
    go true h = omega arith
    go false h = let e = length-append (decimal_by k (n / 10)) ((48 + n % 10) ∷ []) in omega arith

pub decimal-short : (n : ℕ) → length (decimal n) ≤ 20
unfolding decimal
decimal-short n = short-by 20 n

-- what crate io puts into an array of 20 bytes
pub put-digits : {before after : List ℕ} (text : List ℕ) {at r n k : ℕ} → k ≤ 20 → IsDigitCount 10 1 n k →
    take k text ≡ last_digits 10 k n → TextPut before at (take k text) after r → TextPut before at (decimal n) after r
put-digits {before} {after} text {at} {r} {n} {k} h f e p =
    subst (λ (z : List ℕ). TextPut before at z after r) (e ∙ decimal-digits k n h f) p

-- ---- lines
more : {a b s t : List ℕ} {at r : ℕ} → TextPut a at t b r → take at a ≡ s → take r b ≡ s ++ t
more {t = t} p e = p.content ∙ ap (λ (z : List ℕ). z ++ t) e

pub put_both : {a b c s t : List ℕ} {at q r : ℕ} → TextPut a at s b q → TextPut b q t c r → TextPut a at (s ++ t) c r
put_both {a} {s = s} {t} {at} p q =
    let l = length-append s t in
    record {
      end = omega (arith, p.end, q.end);
      content = q.content ∙ ap (λ (z : List ℕ). z ++ t) p.content ∙ append_assoc (take at a) s t;
      size = q.size ∙ p.size;
    }

-- a number and one byte more
pub number_short : (n x : ℕ) → length (decimal n ++ (x ∷ [])) ≤ 21
number_short n x = let h = decimal-short n in let l = length-append (decimal n) (x ∷ []) in omega arith

pub accepted-line : {o₀ o₁ o₂ : List ℕ} {a r : ℕ} (n : ℕ) → 64 ≤ length o₀ →
    TextPut o₀ 0 accepted_text o₁ a → TextPut o₁ a (decimal n ++ (10 ∷ [])) o₂ r → Written (accepted n) o₂ r
unfolding line_of
accepted-line {o₂ = o₂} {r = r} n h p q =
    let l = number_short n 10 in
    let inside : r ≤ length o₂ = omega (arith, p.end, p.size, q.end, q.size) in
    record { inside = inside; count = sym (length-take-le _ _ inside); content = more q (more p refl) }

pub refused-line : {o₀ o₁ o₂ o₃ : List ℕ} {a b r : ℕ} (k i : ℕ) → 64 ≤ length o₀ →
    TextPut o₀ 0 refused_text o₁ a → TextPut o₁ a (decimal k ++ (32 ∷ [])) o₂ b → TextPut o₂ b (decimal i ++ (10 ∷ [])) o₃ r →
    Written (refused k i) o₃ r
unfolding line_of
refused-line {o₃ = o₃} {r = r} k i h p q s =
    let l = number_short k 32 in
    let m = number_short i 10 in
    let inside : r ≤ length o₃ = omega (arith, p.end, p.size, q.end, q.size, s.end, s.size) in
    record { inside = inside; count = sym (length-take-le _ _ inside); content = more s (more q (more p refl)) }
