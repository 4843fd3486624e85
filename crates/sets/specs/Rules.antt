-- What the rules ask of sets (document 01, "Rules"), in the terms of the trees that stand at the places.
-- Working: `rule-written`, `rule-replaced`, `rule-under`, `rule-branches`, `rule-union` and `rule-test` of proofs/Rules
-- tie it to the sets that are compared. Assumes nothing.
--     CanTwo, SameWritten          rules 1, 10, 13, 31: P same as Q
--     CanReplaced, SameReplaced    rules 3, 4: with the right side for the identifier
--     CanUnder, SameUnder          rules 5, 12: under B
--     CanBranches, SameBranches    rule 6
--     CanThree, SameUnion          rules 9, 16: S ∪ T
--     CanTest, TestStands          rule 13: true ⇒ B stands in P
use Rattle.std.specs.Prelude.{◌≡◌, Bool, true, List, ◌++◌, ℕ}
use Rattle.language.specs.Syntax.{Boolean, Expr, truth, neg, Assignment}
use Rattle.rules.specs.Assertion.{Members, member, one}
use Rattle.rules.specs.Context.{Context}
use Rattle.rules.specs.Replace.{replacement, replace_members}
use Rattle.rules.specs.Sets.{under}
use Rattle.rules.specs.Tests.{stands, same}
use Rattle.ends.specs.Ends.{EndsOf}
use Rattle.ends.specs.Places.{WrittenAt, SetAt}
use Rattle.matching.specs.Places.{ExpressionAt}
use Rattle.matching.specs.declared.cursor.Put.{Put}
use Rattle.compare.specs.Trees.{PutStands, HasPut}
use Rattle.sets.specs.Trees.{HasSet}

module _ (file ends : List ℕ) where
  pub record CanTwo (p q : ℕ) : Type 0 where
    pub ends_of : EndsOf file ends
    pub first-set : HasSet file ends p
    pub second-set : HasSet file ends q

  pub record CanReplaced (p q : ℕ) (put : Put) : Type 0 where
    pub ends_of : EndsOf file ends
    pub first-set : HasSet file ends p
    pub second-set : HasSet file ends q
    pub right_side : HasPut file ends put

  pub record CanUnder (p q b : ℕ) : Type 0 where
    pub ends_of : EndsOf file ends
    pub first-set : HasSet file ends p
    pub second-set : HasSet file ends q
    pub test : ExpressionAt file ends Boolean b

  pub record CanBranches (p s t b f : ℕ) : Type 0 where
    pub ends_of : EndsOf file ends
    pub first-set : HasSet file ends p
    pub then-set : HasSet file ends s
    pub else_set : HasSet file ends t
    pub test : ExpressionAt file ends Boolean b
    pub before : ExpressionAt file ends Boolean f

  pub record CanThree (p s t : ℕ) : Type 0 where
    pub ends_of : EndsOf file ends
    pub first-set : HasSet file ends p
    pub second-set : HasSet file ends s
    pub third-set : HasSet file ends t

  pub record CanTest (p b : ℕ) : Type 0 where
    pub ends_of : EndsOf file ends
    pub first-set : HasSet file ends p
    pub test : ExpressionAt file ends Boolean b

  pub record SameWritten (p q : ℕ) (r : Bool) : Type 0 where
    pub does : {Γ : Context} (x y : Members) → SetAt file ends Γ x p → SetAt file ends Γ y q → r ≡ same x y

  pub record SameReplaced (p q : ℕ) (put : Put) (r : Bool) : Type 0 where
    pub does : {Γ : Context} (x y : Members) (a : Assignment) → SetAt file ends Γ x p → SetAt file ends Γ y q → PutStands file ends put a →
        r ≡ same x (replace_members y (replacement a))

  pub record SameUnder (p q b : ℕ) (r : Bool) : Type 0 where
    pub does : {Γ : Context} (x y : Members) (β : Expr Boolean) → SetAt file ends Γ x p → SetAt file ends Γ y q → WrittenAt file ends β b →
        r ≡ same x (under y β)

  pub record SameBranches (p s t b f : ℕ) (r : Bool) : Type 0 where
    pub does : {Γ : Context} (x y z : Members) (β φ₀ : Expr Boolean) → SetAt file ends Γ x p → SetAt file ends Γ y s → SetAt file ends Γ z t →
        WrittenAt file ends β b → WrittenAt file ends φ₀ f →
        r ≡ same x (under y β ++ (under z (neg β) ++ one φ₀ β))

  pub record SameUnion (p s t : ℕ) (r : Bool) : Type 0 where
    pub does : {Γ : Context} (x y z : Members) → SetAt file ends Γ x p → SetAt file ends Γ y s → SetAt file ends Γ z t → r ≡ same x (y ++ z)

  pub record TestStands (p b : ℕ) (r : Bool) : Type 0 where
    pub does : {Γ : Context} (x : Members) (β : Expr Boolean) → SetAt file ends Γ x p → WrittenAt file ends β b →
        r ≡ stands (member (truth true) β) x
