-- Where the operands of an expression stand, and that they can be worked out.
-- Assumes nothing.
--     left                                              the words left from a place on, four times
--     Operand                                           an operand stands at a place, which the list of ends has
--     end_is, moved                                     the end of an expression is in the list of ends; what stands behind it
--     only-operand, first-operand, second-operand       the operands, by the parts
--     first_of-three, second-of_three, third-of_three
use mathlib.Core.Path.{◌≡◌, sym, subst, ◌∙◌}
use mathlib.Core.List.{List}
use Prim.Native.Nat.{ℕ, ◌+◌, ◌-◌, ◌*◌, ◌<◌}
use native.Mathlib.Omega.{arith}
use lib.ListN.{length, get_or}
use Rattle.language.specs.Syntax.{Sort, Expr}
use Rattle.layout.specs.EvidenceWords.{Part, expression_part}
use Rattle.heads.specs.Stands.{PartAt, ExpressionStands}
use Rattle.heads.proofs.Parts.{expression-inside, One, Two, Three}

abbrev pub left : List ℕ → ℕ → ℕ
left w at = 4 * (length w - at)

-- an expression of any sort
abbrev pub part : (k : Sort) → Expr k → Part
part k e = expression_part e

pub end_is : {w ends : List ℕ} {k : Sort} (e : Expr k) {at p : ℕ} → PartAt w ends (expression_part e) at p →
    p ≡ get_or ends at 0
end_is e {at} {p} s = sym (s.ends_of.expression-end e s.levels at p s.stands)

-- what stands where an expression ends
pub moved : {w ends : List ℕ} {k : Sort} (e : Expr k) {x : Part} {at m q p : ℕ} → q ≡ get_or ends at 0 →
    PartAt w ends (expression_part e) at m → PartAt w ends x m p → PartAt w ends x q p
moved {w} {ends} e {x} {p = p} next s t = subst (λ z. PartAt w ends x z p) (end_is e s ∙ sym next) t

-- the operand at q of what stands before it, at `at`
pub record Operand (w ends : List ℕ) (k : Sort) (at q : ℕ) : Type 0 where
  pub can : ExpressionStands w ends k q
  pub later : at < q
  pub inside : q < length w
  pub listed : q < length ends

module _ {w ends : List ℕ} {at : ℕ} where
  operand : {k : Sort} (e : Expr k) {q p : ℕ} → PartAt w ends (expression_part e) q p → at < q → Operand w ends k at q
  operand e {q} {p} s h =
      let x = expression-inside e s in
      record {
        can = record { tree = e; past = p; there = s };
        later = h;
        inside = omega arith;
        listed = omega arith;
      }

  pub only-operand : {j : Sort} {A : Type 0} {make : Expr j → A} {e : A} {p : ℕ} → One w ends (part j) make e (at + 1) p →
      Operand w ends j at (at + 1)
  only-operand t = operand t.first t.first-at (omega arith)

  module _ {j k : Sort} {A : Type 0} {make : Expr j → Expr k → A} {e : A} {p : ℕ}
      (t : Two w ends (part j) (part k) make e (at + 1) p) where
    pub first-operand : Operand w ends j at (at + 1)
    first-operand = operand t.first t.first-at (omega arith)

    pub second-operand : {q : ℕ} → q ≡ get_or ends (at + 1) 0 → Operand w ends k at q
    second-operand n =
        let m = end_is t.first t.first-at in
        let x = expression-inside t.first t.first-at in
        operand t.second (moved t.first n t.first-at t.second_at) (omega arith)

  module _ {j k l : Sort} {A : Type 0} {make : Expr j → Expr k → Expr l → A} {e : A} {p : ℕ}
      (t : Three w ends (part j) (part k) (part l) make e (at + 1) p) where
    pub first_of-three : Operand w ends j at (at + 1)
    first_of-three = operand t.first t.first-at (omega arith)

    pub second-of_three : {q : ℕ} → q ≡ get_or ends (at + 1) 0 → Operand w ends k at q
    second-of_three n =
        let m = end_is t.first t.first-at in
        let x = expression-inside t.first t.first-at in
        operand t.second (moved t.first n t.first-at t.second_at) (omega arith)

    pub third-of_three : {q r : ℕ} → q ≡ get_or ends (at + 1) 0 → r ≡ get_or ends q 0 → Operand w ends l at r
    third-of_three n o =
        let second = moved t.first n t.first-at t.second_at in
        let m = end_is t.first t.first-at in
        let i = end_is t.second second in
        let x = expression-inside t.first t.first-at in
        let y = expression-inside t.second second in
        operand t.third (moved t.second o second t.third_at) (omega arith)
