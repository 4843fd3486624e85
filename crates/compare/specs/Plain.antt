-- Where the plain form of a boolean starts (document 02, request [2]): past each side that is true. A boolean's plain form is true
-- exactly when each of its words is and or true.
-- Working: `true-words` and `words-true` of proofs/Starts say so, `left-dropped`, `right-dropped` and `and-settled` which side is
-- dropped. Assumes nothing.
--     AndOrTrue, FirstOther    a word is and or true; the first of some words that is neither
--     Settled                  a boolean that drops nothing at its first word
--     PlainFrom                such a one stands at a place, with the plain form of the boolean at another
--     CanStart, StartOf        what the search for that place asks for and promises
use Rattle.std.specs.Prelude.{◌≡◌, false, List, ◌⊎◌, ℕ, ◌+◌, ◌<◌, ◌≤◌, get_or}
use Rattle.language.specs.Syntax.{Boolean, Expr, compare, truth, and, or, neg}
use Rattle.rules.specs.Plain.{is_true, plain}
use Rattle.layout.specs.Bytes.{word_of}
use Rattle.ends.specs.Ends.{EndsOf}
use Rattle.ends.specs.Places.{end_at, WrittenAt}
use Rattle.matching.specs.Places.{ExpressionAt}
use Rattle.compare.specs.Trees.{boolean_at}

abbrev pub AndOrTrue : List ℕ → ℕ → Type 0
AndOrTrue file at = (get_or file at 0 ≡ word_of 10 0) ⊎ (get_or file at 0 ≡ word_of 9 1)

-- of the words from a place up to another; that other place if there is none
pub record FirstOther (file : List ℕ) (from to r : ℕ) : Type 0 where
  pub low : from ≤ r
  pub high : r ≤ to
  pub passed : (at : ℕ) → from ≤ at → at < r → AndOrTrue file at
  pub stopped : r < to → AndOrTrue file r → ⊥

-- no side is true
abbrev pub Settled : Expr Boolean → Type 0
Settled (compare r a b) = Unit {0}
Settled (truth t) = Unit {0}
Settled (and b c) = (is_true (plain b) ≡ false) × (is_true (plain c) ≡ false)
Settled (or b c) = Unit {0}
Settled (neg b) = Unit {0}

module _ (file ends : List ℕ) where
  -- of true ∧ true, either word
  pub record PlainFrom (f s : ℕ) : Type 0 where
    pub further : f ≤ s
    pub inside : end_at ends s ≤ end_at ends f
    pub tree : Expr Boolean
    pub there : WrittenAt file ends tree s
    pub same : plain tree ≡ plain (boolean_at file f)
    pub settled : Settled tree

  -- p is the first word of the boolean at f that is neither and nor true, or its end
  pub record CanStart (f p : ℕ) : Type 0 where
    pub ends_of : EndsOf file ends
    pub whole : ExpressionAt file ends Boolean f
    pub other : FirstOther file f (end_at ends f) p

  -- of an and that stays, p is the same for its left side
  pub record StartOf (f p s : ℕ) : Type 0 where
    pub from : PlainFrom f s
    pub left_other : get_or file s 0 ≡ word_of 10 0 → FirstOther file (s + 1) (end_at ends (s + 1)) p
