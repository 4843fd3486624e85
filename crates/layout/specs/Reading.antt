-- What reading gives, and readers one after the other (document 01, "Judging order" 3 to 5).
-- Trusted. Assumes nothing.
--     Reading, Reader      what was read with the place after it, or a refusal's number and place
--     on_read, pure, _⊛_    going on from what was read; what takes no word; a reader, and then the next part
--     here                 the place at hand, read as a part
--     several              the same part so many times
--     no_level, word_due     a word that is due too deep; a word that is due
--     allowed, allow       a word that may stand there; the entry of a table
--     up_to, on_option       a payload up to a bound; an entry made of another
--     first_place           the first place, of so many from a place on, that passes a test
use Rattle.std.specs.Prelude.{Bool, true, false, cond, List, [], ◌∷◌, ℕ, zero, suc, ◌+◌, eqb, ltb, leb}
use Rattle.std.proofs.Math.Option.{Option, none, some}
use Rattle.layout.specs.Bytes.{word_count, kind_at, payload_at}

pub data Reading (A : Type 0) : Type 0 where
  read : A → ℕ → Reading A
  fault : ℕ → ℕ → Reading A

abbrev pub Reader : Type 0 → Type 0
Reader A = ℕ → Reading A

abbrev pub on_read : {A B : Type 0} → Reading A → (A → ℕ → Reading B) → Reading B
on_read (read a p) f = f a p
on_read (fault n p) f = fault n p

abbrev pub pure : {A : Type 0} → A → Reader A
pure a at = read a at

-- the place at hand
abbrev pub here : Reader ℕ
here at = read at at

infixl 50 ◌⊛◌
unfoldable pub ◌⊛◌ : {A B : Type 0} → Reader (A → B) → Reader A → Reader B
◌⊛◌ r t at = on_read (r at) λ f p. on_read (t p) λ a q. read (f a) q

unfoldable pub several : {A : Type 0} → ℕ → Reader A → Reader (List A)
several zero r at = read [] at
several (suc n) r at = on_read (r at) λ a p. on_read (several n r p) λ l q. read (a ∷ l) q

-- a word is due with no level left: refusal 4, or 3 if the file ends there
abbrev pub no_level : {A : Type 0} → List ℕ → Reader A
no_level file at = cond (ltb at (word_count file)) (fault 4 at) (fault 3 (word_count file))

-- refusal 5: the word's kind or payload isn't allowed there
abbrev pub allowed : {A : Type 0} → Option (Reader A) → Reader A
allowed none at = fault 5 at
allowed (some r) at = r (at + 1)

-- refusal 3 if the file ends there; else what `step` makes of the word's place, kind and payload
unfoldable pub word_due : {A : Type 0} → List ℕ → (ℕ → ℕ → ℕ → Option (Reader A)) → Reader A
word_due file step at =
    elim (ltb at (word_count file)) [
      | true ↦ allowed (step at (kind_at file at) (payload_at file at)) at
      | false ↦ fault 3 (word_count file)
    ]

abbrev pub allow : {A : Type 0} → ℕ → List (ℕ × Option A) → Option A
allow n [] = none
allow n (e ∷ l) = cond (eqb n e.0) e.1 (allow n l)

abbrev pub up_to : {A : Type 0} → ℕ → ℕ → A → Option A
up_to n p a = cond (leb p n) (some a) none

abbrev pub on_option : {A B : Type 0} → Option A → (A → B) → Option B
on_option none f = none
on_option (some a) f = some (f a)

unfoldable pub first_place : (ℕ → Bool) → ℕ → ℕ → Option ℕ
first_place test zero at = none
first_place test (suc n) at = elim (test at) [ true ↦ some at | false ↦ first_place test n (suc at) ]
