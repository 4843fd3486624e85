-- What the tests of consequents answer, and what a form names.
-- Assumes nothing.
--     of-verbatim, of-exchanged                 what a form of a consequent names stands there
--     consequent-written, consequent-replaced   what the tests answer
use mathlib.Core.Path.{◌≡◌}
use mathlib.Core.Bool.{Bool}
use mathlib.Core.List.{List}
use Prim.Native.Nat.{ℕ}
use Rattle.std.specs.Prelude.{Result, Ok}
use Rattle.matching.specs.Matching.{came, same_numbers, exchanged}
use Rattle.ends.specs.Places.{end_at, PartKnown}
use Rattle.matching.specs.Places.{part, CanMatchAny, Matched}
use Rattle.compare.specs.Forms.{consequent_numbers, ConsequentAt}
use Rattle.matching.specs.declared.cursor.Put.{Put}
use Rattle.compare.specs.declared.consequent.Consequent.{Consequent}
use Rattle.compare.specs.declared.consequent.Consequent.TheVariants.{Written as Verbatim, Replaced as Exchanged}
use Rattle.matching.proofs.SameNumbers.{came-to}

-- what a form names stands there
module _ {file ends : List ℕ} where
  module _ {form : Consequent} (p : ConsequentAt file ends form) where
    pub of-verbatim : {a : ℕ} → form ≡ Verbatim a → PartKnown file ends a
    unfolding ConsequentAt
    of-verbatim e = rw e at p

    pub of-exchanged : {a : ℕ} {put : Put} → form ≡ Exchanged a put → CanMatchAny file ends a put
    unfolding ConsequentAt
    of-exchanged e = rw e at p

-- what the tests answer
module _ (file ends : List ℕ) (at : ℕ) (p : PartKnown file ends at) {r : Bool} where
  pub consequent-written : (form : Consequent) (a : ℕ) → form ≡ Verbatim a →
      r ≡ same_numbers (part file ends at) (part file ends a) →
      r ≡ same_numbers (part file ends at) (consequent_numbers file ends form)
  unfolding consequent_numbers
  consequent-written form a e h = rw e h

  pub consequent-replaced : (form : Consequent) (a : ℕ) (put : Put) (m : Result ℕ ℕ) → form ≡ Exchanged a put →
      Matched file ends (Ok at) a put m → r ≡ came m (end_at ends at) →
      r ≡ same_numbers (part file ends at) (consequent_numbers file ends form)
  unfolding consequent_numbers
  consequent-replaced form a put m e h g = rw e (came-to file ends at p m (exchanged file put (part file ends a)) h.is g)
