-- The rules' tests of assertions: what each asks for, and what it promises (document 01, rules 20 to 29; document 02, request [2]).
-- Working: `split_at`, `join-at`, `replaced-at` and `true-at` of proofs/Assertions, `repeats_first` and `repeats_both`
-- of proofs/Implications say that the code's answers are those of the rules on trees. Assumes nothing.
--     CanSplit, SplitAt          rule 20: φ is (φ1 ∧ B) ∨ (φ2 ∧ ¬B)
--     CanJoin, JoinAt            rule 26: φ is φ' ∧ B
--     right_at, CanReplace, ReplacedAt
--                                rules 24 and 25: φ is φ' with the right side for the identifier
--     CanTrue, TrueAt            rule 29: φ is true
--     CanRepeat, RepeatsAt       rule 21: φ0 ∧ B implies φ, and φ' ∧ ¬B implies φ
use Rattle.std.specs.Prelude.{◌≡◌, Bool, true, List, ℕ, ◌≤◌, length}
use Rattle.language.specs.Syntax.{Boolean, Expr, truth, and, or, neg, Assignment}
use Rattle.rules.specs.Context.{Context}
use Rattle.rules.specs.Condition.{implication, ◌then◌}
use Rattle.rules.specs.Replace.{replacement, replace}
use Rattle.rules.specs.Tests.{same_antecedent}
use Rattle.ends.specs.Ends.{EndsOf}
use Rattle.matching.specs.Places.{ExpressionAt}
use Rattle.compare.specs.Trees.{PutStands, HasPut}
use Rattle.matching.specs.declared.cursor.Put.{Put}
use Rattle.implication.specs.Sides.{Condition, result_of}
use Rattle.ends.specs.Places.{end_at, WrittenAt}

-- the right side at a, for the identifier that the word is
abbrev pub right_at : List ℕ → ℕ → ℕ → Put
right_at ends word a = record { word = word; from = a; to = end_at ends a }

module _ (file ends : List ℕ) where
  abbrev BooleanAt : ℕ → Type 0
  BooleanAt at = ExpressionAt file ends Boolean at

  -- φ at f, the test at b, φ1 at p, φ2 at q
  pub record CanSplit (f b p q : ℕ) : Type 0 where
    pub ends_of : EndsOf file ends
    pub whole : BooleanAt f
    pub test : BooleanAt b
    pub first : BooleanAt p
    pub second : BooleanAt q

  pub record SplitAt (f b p q : ℕ) (r : Bool) : Type 0 where
    pub is : (φ t φ₁ φ₂ : Expr Boolean) → WrittenAt file ends φ f → WrittenAt file ends t b → WrittenAt file ends φ₁ p →
        WrittenAt file ends φ₂ q → r ≡ same_antecedent φ (or (and φ₁ t) (and φ₂ (neg t)))

  -- φ at f, φ' at g, the test at b
  pub record CanJoin (f g b : ℕ) : Type 0 where
    pub ends_of : EndsOf file ends
    pub whole : BooleanAt f
    pub first : BooleanAt g
    pub test : BooleanAt b

  pub record JoinAt (f g b : ℕ) (r : Bool) : Type 0 where
    pub is : (φ φ' t : Expr Boolean) → WrittenAt file ends φ f → WrittenAt file ends φ' g → WrittenAt file ends t b →
        r ≡ same_antecedent φ (and φ' t)

  -- φ at f, φ' at g
  pub record CanReplace (f g word a : ℕ) : Type 0 where
    pub ends_of : EndsOf file ends
    pub whole : BooleanAt f
    pub replaced : BooleanAt g
    pub right : HasPut file ends (right_at ends word a)

  pub record ReplacedAt (f g word a : ℕ) (r : Bool) : Type 0 where
    pub is : (φ φ' : Expr Boolean) (assignment : Assignment) → WrittenAt file ends φ f → WrittenAt file ends φ' g →
        PutStands file ends (right_at ends word a) assignment → r ≡ same_antecedent φ (replace φ' (replacement assignment))

  pub record CanTrue (f : ℕ) : Type 0 where
    pub ends_of : EndsOf file ends
    pub whole : BooleanAt f

  pub record TrueAt (f : ℕ) (r : Bool) : Type 0 where
    pub is : (φ : Expr Boolean) → WrittenAt file ends φ f → r ≡ same_antecedent φ (truth true)

  -- φ0 at a, the test at b, φ' at g, φ at f
  pub record CanRepeat (limit a b g f : ℕ) : Type 0 where
    pub ends_of : EndsOf file ends
    pub size : length file ≤ 8192
    pub few : limit ≤ 16
    pub first : ExpressionAt file ends Boolean a
    pub test : ExpressionAt file ends Boolean b
    pub second : ExpressionAt file ends Boolean g
    pub whole : ExpressionAt file ends Boolean f

  pub record RepeatsAt (limit a b g f : ℕ) (r : Condition) : Type 0 where
    pub is : (φ₀ t φ' φ : Expr Boolean) → WrittenAt file ends φ₀ a → WrittenAt file ends t b →
        WrittenAt file ends φ' g → WrittenAt file ends φ f → (Γ : Context) → Γ.limits.comparisons ≡ limit →
        result_of r ≡ (implication Γ (and φ₀ t) φ then implication Γ (and φ' (neg t)) φ)
