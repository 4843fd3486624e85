-- Comparisons by number, formulas over them, and what compiling a boolean gives: the ranges of its distinct comparisons
-- and the bytes of its formula.
-- Working: `table-settled` of proofs/Meaning and `answered` of proofs/Answers say that the table of the formulas
-- decides what `implication` does. Assumes nothing.
--     number, entry, Extends         the number of a listed comparison; the one with a number; numbers stay
--     formula                        the formula of a boolean
--     Compared, Known                a comparison stands in a range of words; all that are listed do
--     FormulaWritten, SideWritten    a boolean stands there, at some depth; the boolean that a side is
--     CanCompile, Coded              what compiling requires; the bytes of what stands somewhere
--     Compiled, Overfull, Compiles   the contract of compiling it
use Rattle.std.specs.Prelude.{Result, MatchResult}
use Rattle.std.specs.Prelude.{◌≡◌, true, cond, List, [], ◌∷◌, ◌++◌, ℕ, ◌+◌, ◌<◌, ◌≤◌, eqb, length, take}
use Rattle.language.specs.Syntax.{Boolean, Expr, compare, truth, and, or, neg}
use Rattle.rules.specs.Words.{Word, words}
use Rattle.rules.specs.Implies.{among_words, comparisons}
use Rattle.layout.specs.EvidenceWords.{expression_part}
use Rattle.layout.specs.Nodes.{AllInRange}
use Rattle.layout.specs.Standing.{StandsTo, PartStands}
use Rattle.truth_table.specs.Formula.{Formula, leaf, fixed, conj, disj, negated, spell}
use Rattle.implication.specs.declared.Failure.{Failure}
use Rattle.implication.specs.declared.Failure.TheVariants.{TooLarge}
use Rattle.implication.specs.declared.Side.{Side}
use Rattle.implication.specs.Sides.{SideStands}
use Rattle.implication.specs.Scanning.{span_at, Ranges}

-- the last listed has number 0
unfoldable pub number : List (List Word) → List Word → ℕ
number [] c = 0
number (a ∷ l) c = cond (among_words c l) (number l c) (length l)

unfoldable pub entry : List (List Word) → ℕ → List Word
entry [] i = []
entry (a ∷ l) i = cond (eqb i (length l)) a (entry l i)

-- what l lists is in m by the same number
pub record Extends (l m : List (List Word)) : Type 0 where
  pub kept : (c : List Word) → among_words c l ≡ true → (among_words c m ≡ true) × (number m c ≡ number l c)

unfoldable pub formula : List (List Word) → Expr Boolean → Formula
formula l (compare r a b) = leaf (number l (words (compare r a b)))
formula l (truth t) = fixed t
formula l (and b c) = conj (formula l b) (formula l c)
formula l (or b c) = disj (formula l b) (formula l c)
formula l (neg b) = negated (formula l b)

-- the comparison with the words c stands from k up to m
pub record Compared (w : List ℕ) (k : ℕ) (c : List Word) (m : ℕ) : Type 0 where
  pub stand : StandsTo w k c m
  pub fits : AllInRange c

-- the comparisons of l stand at the ranges of their numbers
pub record Known (w : List ℕ) (t : List (ℕ × ℕ)) (l : List (List Word)) : Type 0 where
  pub count : length l ≡ length t
  pub each : (i : ℕ) → i < length t → Compared w (span_at t i).0 (entry l i) (span_at t i).1

pub record FormulaWritten (w : List ℕ) (a p : ℕ) (φ : Expr Boolean) : Type 0 where
  pub levels : ℕ
  pub stands : PartStands w (expression_part φ) levels a p

pub record SideWritten (w : List ℕ) (s : Side) (χ : Expr Boolean) : Type 0 where
  pub levels : ℕ
  pub stands : SideStands w levels s χ

-- there is room for so many more bytes, and the known comparisons are within the limit
pub record CanCompile (w : List ℕ) (limit len most : ℕ) (t : List (ℕ × ℕ)) (prog : List ℕ) : Type 0 where
  pub few : limit ≤ 16
  pub within : length t ≤ limit
  pub ranges : Ranges w t
  pub room : len + most ≤ length prog

pub record Coded
    (w : List ℕ) (φ : Expr Boolean) (l : List (List Word)) (len : ℕ) (prog₀ : List ℕ) (t : List (ℕ × ℕ))
    (prog : List ℕ) (r : ℕ) : Type 0 where
  pub known : Known w t (comparisons φ l)
  pub coded : (m : List (List Word)) → Extends (comparisons φ l) m →
      take r prog ≡ take len prog₀ ++ spell (formula m φ) []

-- the formula of what stands is after the first bytes, its new comparisons after the known ones
pub record Compiled
    (w : List ℕ) (Stands : Expr Boolean → Type 0) (limit len most : ℕ)
    (t₀ : List (ℕ × ℕ)) (prog₀ : List ℕ) (t : List (ℕ × ℕ)) (prog : List ℕ) (r : ℕ) : Type 0 where
  pub ranges : Ranges w t
  pub within : length t ≤ limit
  pub least : len ≤ r
  pub short : r ≤ len + most
  pub room : length prog ≡ length prog₀
  pub fitting : (φ : Expr Boolean) (l : List (List Word)) → Stands φ → Known w t₀ l → Coded w φ l len prog₀ t prog r

-- the comparisons of what stands are more than the limit
pub record Overfull
    (w : List ℕ) (Stands : Expr Boolean → Type 0) (limit : ℕ)
    (t₀ : List (ℕ × ℕ)) (prog₀ : List ℕ) (t : List (ℕ × ℕ)) (prog : List ℕ) : Type 0 where
  pub ranges : Ranges w t
  pub within : length t ≤ limit
  pub room : length prog ≡ length prog₀
  pub full : (φ : Expr Boolean) (l : List (List Word)) → Stands φ → Known w t₀ l → limit < length (comparisons φ l)

abbrev pub Compiles : List ℕ → (Expr Boolean → Type 0) → ℕ → ℕ → ℕ → List (ℕ × ℕ) → List ℕ → List (ℕ × ℕ) → List ℕ →
    Result ℕ Failure → Type 0
Compiles w Stands limit len most t₀ prog₀ t prog r =
    MatchResult r (λ n. Compiled w Stands limit len most t₀ prog₀ t prog n)
    (λ e. (e ≡ TooLarge) × Overfull w Stands limit t₀ prog₀ t prog)
