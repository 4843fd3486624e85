-- What the functions that walk an expression ask for and promise.
-- Working: `written-any` of proofs/Operands says that a written expression stands so; `replaces` of proofs/Replaced ties
-- what is matched to the rules' `replace`. Assumes nothing.
--     part                            the numbers of what starts at a place, up to its end in the list of ends
--     ExpressionAt, AnyAt, Chained    an expression of a sort; one of any sort; so many of them, one after the other
--     CanMatch, CanMatchAny           what the functions ask for
--     Matched                         what they promise: past its numbers too, with others in the place of a word
use Rattle.std.specs.Prelude.{◌≡◌, Result, List, ℕ, zero, suc, ◌≤◌, length}
use Rattle.language.specs.Syntax.{Sort, Expr}
use Rattle.ends.specs.Ends.{EndsOf}
use Rattle.ends.specs.Places.{end_at, WrittenAt}
use Rattle.matching.specs.Matching.{between, matched, exchanged}
use Rattle.matching.specs.declared.cursor.Put.{Put}

module _ (file ends : List ℕ) where
  abbrev pub part : ℕ → List ℕ
  part at = between file at (end_at ends at)

  pub record ExpressionAt (k : Sort) (at : ℕ) : Type 0 where
    pub tree : Expr k
    pub there : WrittenAt file ends tree at

  pub record AnyAt (at : ℕ) : Type 0 where
    pub sort : Sort
    pub expression : ExpressionAt sort at

  abbrev pub Chained : ℕ → ℕ → ℕ → Type 0
  Chained zero at p = at ≡ p
  Chained (suc n) at p = AnyAt at × Chained n (end_at ends at) p

  pub record CanMatch (k : Sort) (at : ℕ) (put : Put) : Type 0 where
    pub ends_of : EndsOf file ends
    pub expression : ExpressionAt k at
    pub inside : put.to ≤ length file

  pub record CanMatchAny (at : ℕ) (put : Put) : Type 0 where
    pub ends_of : EndsOf file ends
    pub any : AnyAt at
    pub inside : put.to ≤ length file

pub record Matched (file ends : List ℕ) (m : Result ℕ ℕ) (b : ℕ) (put : Put) (r : Result ℕ ℕ) : Type 0 where
  pub is : r ≡ matched file m (exchanged file put (between file b (end_at ends b)))
