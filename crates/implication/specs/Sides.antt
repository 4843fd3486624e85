-- What an implication compares (document 01, rules 14, 18, 21 and 28), and the contract of `implies`.
-- Working: `answered`, `left-full` and `right-full` of proofs/Answers tie it to `implication` of rules/specs/Condition.
-- Assumes nothing.
--     Condition, result_of       what trying a condition gives; its result
--     PairStands, SideStands    the boolean that a side is
--     RangeFits, SideFits       the ranges of a side are within a file
--     side_room                  as many bytes as its formula may take
--     CanImply, Implied         the contract
use Rattle.std.specs.Prelude.{◌≡◌, false, List, ℕ, ◌+◌, ◌-◌, ◌≤◌, length, Ok, Err}
use Rattle.std.specs.Prelude as std
use Rattle.language.specs.Syntax.{Boolean, Expr, truth, and, neg}
use Rattle.rules.specs.Context.{Context}
use Rattle.rules.specs.Condition.{Result, passes, fails, too_large, implication}
use Rattle.layout.specs.EvidenceWords.{expression_part}
use Rattle.layout.specs.Standing.{PartStands}
use Rattle.implication.specs.declared.Failure.{Failure}
use Rattle.implication.specs.declared.Failure.TheVariants.{Fails, TooLarge}
use Rattle.implication.specs.declared.Side.{Side}
use Rattle.implication.specs.declared.Side.TheVariants.{One, Both, BothNot, False}

abbrev pub Condition : Type 0
Condition = std.Result (Unit {0}) Failure

abbrev pub result_of : Condition → Result
result_of (Ok done) = passes
result_of (Err Fails) = fails
result_of (Err TooLarge) = too_large

-- two booleans stand from a up to p and from b up to q, and χ is made of them
pub record PairStands
    (w : List ℕ) (d a p b q : ℕ) (make : Expr Boolean → Expr Boolean → Expr Boolean) (χ : Expr Boolean) : Type 0 where
  pub first : Expr Boolean
  pub second : Expr Boolean
  pub is : χ ≡ make first second
  pub left : PartStands w (expression_part first) d a p
  pub right : PartStands w (expression_part second) d b q

-- with d levels left, a side is the boolean χ
abbrev pub SideStands : List ℕ → ℕ → Side → Expr Boolean → Type 0
SideStands w d (One a p) χ = PartStands w (expression_part χ) d a p
SideStands w d (Both a p b q) χ = PairStands w d a p b q (λ φ ψ. and φ ψ) χ
SideStands w d (BothNot a p b q) χ = PairStands w d a p b q (λ φ ψ. and φ (neg ψ)) χ
SideStands w d False χ = χ ≡ truth false

abbrev pub RangeFits : ℕ → ℕ → ℕ → Type 0
RangeFits n a p = (a ≤ p) × (p ≤ n)

-- the ranges of a side are within n words
abbrev pub SideFits : ℕ → Side → Type 0
SideFits n (One a p) = RangeFits n a p
SideFits n (Both a p b q) = RangeFits n a p × RangeFits n b q
SideFits n (BothNot a p b q) = RangeFits n a p × RangeFits n b q
SideFits n False = Unit {0}

abbrev pub side_room : Side → ℕ
side_room (One a p) = p - a
side_room (Both a p b q) = 1 + (p - a) + (q - b)
side_room (BothNot a p b q) = 2 + (p - a) + (q - b)
side_room False = 1

-- booleans stand at both sides, no deeper than the stack of the table has room for
pub record CanImply (w : List ℕ) (left right : Side) (limit : ℕ) : Type 0 where
  pub φ : Expr Boolean
  pub ψ : Expr Boolean
  pub levels : ℕ
  pub low : levels ≤ 256
  pub left_stands : SideStands w levels left φ
  pub right_stands : SideStands w levels right ψ
  pub size : length w ≤ 8192
  pub few : limit ≤ 16

pub record Implied (w : List ℕ) (left right : Side) (limit : ℕ) (r : Condition) : Type 0 where
  pub is : (φ ψ : Expr Boolean) (d e : ℕ) → SideStands w d left φ → SideStands w e right ψ →
      (Γ : Context) → Γ.limits.comparisons ≡ limit → result_of r ≡ implication Γ φ ψ
