-- The places of a file's parts, and refusals 2 to 6 (document 01, "Judging order"; document 02, request [3]).
-- Working: `words-read` of proofs/Whole says that the layout's `words_read` is `read_of`, then refusals 16 and 7.
--     places_of                the places of the main program, of a file that was read
--     starts_from, starts_of    where procedures and a main program start
--     StartsRoom, Located     room for the starts; what the reader answers, and leaves in that room
--     ended, end_of            6, of a file and of its places
--     headed, read_of          2; 2 to 6
--     Headed                  what is asked of word 0
use Rattle.std.specs.Prelude.{◌≡◌, Bool, true, false, cond, List, [], ◌∷◌, ℕ, ◌+◌, ◌*◌, ◌<◌, ◌≤◌, eqb, ltb, length, take, Ok, Err}
use Rattle.rules.specs.Context.{Limits}
use Rattle.layout.specs.Bytes.{word_count, number_at, payloads}
use Rattle.layout.specs.Reading.{Reading, read, fault, on_read}
use Rattle.layout.specs.Program.{Program}
use Rattle.layout.specs.File as file
use Rattle.context.specs.Contexts.{refusal}
use Rattle.reader.specs.Program.{places, Layout}
use Rattle.reader.specs.declared.Places.{Places}

abbrev pub places_of : Reading file.File → Layout
places_of (read f p) = Ok (places f.main.start f.main.pre_at f.main.post_at f.main.evidence_at p)
places_of (fault n p) = Err (refusal n p)

abbrev pub starts_from : List Program → Program → List ℕ
starts_from [] f = f.start ∷ []
starts_from (g ∷ l) f = g.start ∷ starts_from l f

-- the procedures in their order, then the main program
abbrev pub starts_of : file.File → List ℕ
starts_of f = starts_from f.procedures f.main

-- of so many procedures and the main program, from `at` on
pub record StartsRoom (w starts : List ℕ) (count at : ℕ) : Type 0 where
  pub inside : at ≤ word_count w
  pub few : word_count w < payloads
  pub room : count < length starts

-- x is what is read; `before` and `after` are the room that was lent for the starts
pub record Located (x : Reading file.File) (before after : List ℕ) (r : Layout) : Type 0 where
  pub places : r ≡ places_of x
  pub size : length after ≡ length before
  pub starts : (f : file.File) (p : ℕ) → x ≡ read f p → take (length (starts_of f)) after ≡ starts_of f

unfoldable pub ended : List ℕ → file.File → ℕ → Reading file.File
ended w f p = elim (ltb p (word_count w)) [ true ↦ fault 6 p | false ↦ read f p ]

-- the same, of places
abbrev pub end_of : List ℕ → Places → Layout
end_of w s = cond (ltb s.end (word_count w)) (Err (refusal 6 s.end)) (Ok s)

-- word 0 is 63:n
abbrev pub headed : List ℕ → Bool
headed w = eqb (number_at w 0) (63 * payloads + word_count w)

unfoldable pub read_of : Limits → List ℕ → Reading file.File
read_of limits w =
    elim (headed w) [
      | true ↦ on_read (file.parts limits w) (ended w)
      | false ↦ fault 2 0
    ]

-- 63:n is a number of 32 bits, so there are fewer words than payloads
pub record Headed (w : List ℕ) (r : Bool) : Type 0 where
  pub is : r ≡ headed w
  pub few : r ≡ true → word_count w < payloads
  pub some : r ≡ true → 0 < word_count w
