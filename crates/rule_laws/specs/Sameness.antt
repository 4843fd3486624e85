-- Sameness of what stands at two places; nothing of what stands at a place is modified.
-- Working: `assertion-at` and `consequent-at` of proofs/Passing, `meaning-at` of proofs/Meaning and `kept_at` of proofs/Keeping tie it to the
-- tests of the trees that stand there. Assumes nothing.
--     CanSame, CanSameAssertion
--                             two written expressions, two written assertions: what the tests of them ask for
--     SameAssertionAt, SameAt two assertions; two consequents: what the tests promise
--     start_numbers, next_numbers, meaning_numbers
--                             the words before and after the body in the meaning of a `for`, and all of them
--     CanMean, MeaningAt      a written command and the meaning of a written `for` (document 01, rules 14 and 30)
--     CanKeep, KeptAt         a command modifies no identifier of a written expression or set
use Rattle.std.specs.Prelude.{◌≡◌, Bool, List, [], ◌∷◌, ◌++◌, ℕ, ◌+◌, ◌/◌, ◌%◌, ◌<◌, length}
use Rattle.language.specs.Syntax.{Sort, Boolean, Expr, Command, for}
use Rattle.language.specs.Runs.{meaning}
use Rattle.language.specs.Modifies.{identifiers}
use Rattle.rules.specs.Assertion.{Members}
use Rattle.rules.specs.Context.{Context}
use Rattle.rules.specs.Sets.{set_identifiers}
use Rattle.rules.specs.Tests.{same_antecedent, same_consequent, unmodified}
use Rattle.rules.specs.Words.{command_words, same_words}
use Rattle.layout.specs.Bytes.{payload_at, word_of}
use Rattle.ends.specs.Ends.{EndsOf}
use Rattle.ends.specs.Places.{WrittenAt, CommandAt, SetAt, PartKnown}
use Rattle.ends.specs.Procedures.{Procedures}
use Rattle.masks.specs.Filled.{MasksOf}
use Rattle.matching.specs.Places.{part, ExpressionAt}
use Rattle.goals.specs.Resolved.{ResolvedAt}

-- 25:0 27:q 1:1 30:0 8:2 2:q 2:m 25:0
unfoldable pub start_numbers : ℕ → ℕ → List ℕ
start_numbers q m =
    (word_of 25 0) ∷ (word_of 27 q) ∷ (word_of 1 1) ∷ (word_of 30 0) ∷ (word_of 8 2) ∷ (word_of 2 q) ∷ (word_of 2 m)
    ∷ (word_of 25 0) ∷ []

-- 27:q 3:0 2:q 1:1
unfoldable pub next_numbers : ℕ → List ℕ
next_numbers q = (word_of 27 q) ∷ (word_of 3 0) ∷ (word_of 2 q) ∷ (word_of 1 1) ∷ []

module _ (file ends : List ℕ) where
  -- of the `for` at c, with its body's words between them
  unfoldable pub meaning_numbers : ℕ → List ℕ
  meaning_numbers c =
      start_numbers (payload_at file c % 32) (payload_at file c / 32) ++ (part file ends (c + 1) ++ next_numbers (payload_at file c % 32))

  pub record CanSame (f g : ℕ) : Type 0 where
    pub first : PartKnown file ends f
    pub second : PartKnown file ends g

  pub record CanSameAssertion (f g : ℕ) : Type 0 where
    pub ends_of : EndsOf file ends
    pub first : ExpressionAt file ends Boolean f
    pub second : ExpressionAt file ends Boolean g

  pub record SameAssertionAt (f g : ℕ) (r : Bool) : Type 0 where
    pub is : (φ ψ : Expr Boolean) → WrittenAt file ends φ f → WrittenAt file ends ψ g → r ≡ same_antecedent φ ψ

  pub record SameAt (f g : ℕ) (r : Bool) : Type 0 where
    pub is : {j k : Sort} (d : Expr j) (e : Expr k) → WrittenAt file ends d f → WrittenAt file ends e g →
        r ≡ same_consequent d e

  -- a `for` at c has its body after its word
  pub record CanMean (d c : ℕ) : Type 0 where
    pub ends_of : EndsOf file ends
    pub command : PartKnown file ends d
    pub head : c < length file
    pub body : PartKnown file ends (c + 1)

  pub record MeaningAt (d c : ℕ) (r : Bool) : Type 0 where
    pub is : (Γ : Context) (e : Command) (q m : ℕ) (body : Command) → CommandAt file ends Γ e d →
        CommandAt file ends Γ (for q m body) c → r ≡ same_words (command_words e) (command_words (meaning q m body))

  pub record CanKeep (masks : List ℕ) (e c : ℕ) : Type 0 where
    pub ends_of : EndsOf file ends
    pub masks-of : MasksOf file ends masks
    pub part : PartKnown file ends e
    pub command : PartKnown file ends c

  pub record KeptAt (e c : ℕ) (r : Bool) : Type 0 where
    pub expression : (Γ : Context) → Procedures file ends Γ → {k : Sort} (d : Expr k) (p : Command) → WrittenAt file ends d e →
        ResolvedAt file ends Γ p c → r ≡ unmodified (identifiers d) p
    pub set : (Γ : Context) → Procedures file ends Γ → (q : Members) (p : Command) → SetAt file ends Γ q e →
        ResolvedAt file ends Γ p c → r ≡ unmodified (set_identifiers q) p
