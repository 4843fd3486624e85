-- Expressions, commands and sets, read at a place with so many levels left (document 01, "Layout"; document 02, request [3]).
-- Trusted. Assumes nothing.
--     operator_of, comparison_of, truth_of        payloads of kinds 3, 8 and 9
--     arithmetic_word, boolean_word, array_word   the layout's lists, by kind and payload
--     expression_word, command_word              the same by the sort; of commands
--     sort_of, consequent_at                     a consequent's sort by its first word; a consequent
--     expression, command, member_at, set       the readers
use Rattle.std.specs.Prelude.{Bool, true, false, cond, ◌&&◌, List, [], ◌∷◌, ℕ, zero, suc, ◌/◌, ◌%◌, leb}
use Rattle.std.proofs.Math.Option.{Option, some}
use Rattle.language.specs.Syntax.{Operator, plus, minus, times, Comparison, equal, less, at_most}
use Rattle.language.specs.Syntax.{Sort, Arithmetic, Boolean, Array, Expr, constant, scalar, operation, select}
use Rattle.language.specs.Syntax.{compare, truth, and, or, neg, array, zeros, update, to_scalar, to_array}
use Rattle.language.specs.Syntax.{Command, skip, sequence, assert, assign, if_else, while, for}
use Rattle.rules.specs.Assertion.{Member, Members, member}
use Rattle.rules.specs.Context.{Context, called}
use Rattle.layout.specs.Bytes.{kind_at}
use Rattle.layout.specs.Constant.{constant_of}
use Rattle.layout.specs.Reading.{Reader, pure, ◌⊛◌, several, no_level, word_due, allow, up_to, on_option}

abbrev pub operator_of : ℕ → Option Operator
operator_of p = allow p ((0, some plus) ∷ (1, some minus) ∷ (2, some times) ∷ [])

abbrev pub comparison_of : ℕ → Option Comparison
comparison_of p = allow p ((0, some equal) ∷ (1, some less) ∷ (2, some at_most) ∷ [])

abbrev pub truth_of : ℕ → Option Bool
truth_of p = allow p ((0, some false) ∷ (1, some true) ∷ [])

-- `part j` reads an operand of sort j
module _ (part : (j : Sort) → Reader (Expr j)) where
  abbrev pub arithmetic_word : ℕ → ℕ → Option (Reader (Expr Arithmetic))
  arithmetic_word k p = allow k (
      (1, some (pure (constant (constant_of p))))
      ∷ (2, up_to 31 p (pure (scalar p)))
      ∷ (3, on_option (operator_of p) λ o. pure (operation o) ⊛ part Arithmetic ⊛ part Arithmetic)
      ∷ (4, up_to 0 p (pure select ⊛ part Array ⊛ part Arithmetic))
      ∷ [])

  abbrev pub boolean_word : ℕ → ℕ → Option (Reader (Expr Boolean))
  boolean_word k p = allow k (
      (8, on_option (comparison_of p) λ r. pure (compare r) ⊛ part Arithmetic ⊛ part Arithmetic)
      ∷ (9, on_option (truth_of p) λ t. pure (truth t))
      ∷ (10, up_to 0 p (pure and ⊛ part Boolean ⊛ part Boolean))
      ∷ (11, up_to 0 p (pure or ⊛ part Boolean ⊛ part Boolean))
      ∷ (12, up_to 0 p (pure neg ⊛ part Boolean))
      ∷ [])

  abbrev pub array_word : ℕ → ℕ → Option (Reader (Expr Array))
  array_word k p = allow k (
      (16, up_to 31 p (pure (array p)))
      ∷ (17, up_to 0 p (pure zeros))
      ∷ (18, up_to 0 p (pure update ⊛ part Array ⊛ part Arithmetic ⊛ part Arithmetic))
      ∷ [])

  abbrev pub expression_word : (j : Sort) → ℕ → ℕ → Option (Reader (Expr j))
  expression_word Arithmetic k p = arithmetic_word k p
  expression_word Boolean k p = boolean_word k p
  expression_word Array k p = array_word k p

unfoldable pub expression : List ℕ → ℕ → (j : Sort) → Reader (Expr j)
expression file zero j at = no_level file at
expression file (suc d) j at = word_due file (λ _ k p. expression_word (λ i q. expression file d i q) j k p) at

-- `part j` reads an operand, `body` a command; a call of any number is read
abbrev pub command_word :
    Context → ((j : Sort) → Reader (Expr j)) → Reader Command → ℕ → ℕ → Option (Reader Command)
command_word Γ part body k p = allow k (
    (24, up_to 0 p (pure skip))
    ∷ (25, up_to 0 p (pure sequence ⊛ body ⊛ body))
    ∷ (26, up_to 0 p (pure assert ⊛ part Boolean))
    ∷ (27, up_to 31 p (pure (λ e. assign (to_scalar p e)) ⊛ part Arithmetic))
    ∷ (28, up_to 31 p (pure (λ e. assign (to_array p e)) ⊛ part Array))
    ∷ (29, up_to 0 p (pure if_else ⊛ part Boolean ⊛ body ⊛ body))
    ∷ (30, up_to 0 p (pure while ⊛ part Boolean ⊛ body))
    ∷ (31, up_to 1023 p (pure (for (p % 32) (p / 32)) ⊛ body))
    ∷ (38, some (pure (called Γ p)))
    ∷ [])

unfoldable pub command : Context → List ℕ → ℕ → Reader Command
command Γ file zero at = no_level file at
command Γ file (suc d) at =
    word_due file (λ _ k p. command_word Γ (expression file d) (λ q. command Γ file d q) k p) at

-- the sort of an expression by its first word's kind; a word of no expression is refused as arithmetic refuses it
abbrev pub sort_of : ℕ → Sort
sort_of k = cond (leb 8 k && leb k 12) Boolean (cond (leb 16 k && leb k 18) Array Arithmetic)

-- a consequent, read as the member that it makes of an antecedent
abbrev pub consequent_at : List ℕ → ℕ → Reader (Expr Boolean → Member)
consequent_at file d at = (pure (λ e φ. member φ e) ⊛ expression file d (sort_of (kind_at file at))) at

abbrev pub member_at : List ℕ → ℕ → Reader Member
member_at file d = pure (λ φ f. f φ) ⊛ expression file d Boolean ⊛ consequent_at file d

unfoldable pub set : Context → List ℕ → ℕ → Reader Members
set Γ file zero at = no_level file at
set Γ file (suc d) at =
    word_due file (λ _ k p. allow k ((32, up_to Γ.limits.members p (several p (member_at file d))) ∷ [])) at
