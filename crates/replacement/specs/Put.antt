-- The workbench call (document 02, requests [5] and [6]): another skip, assert or assignment of equal length in the place of one such command.
-- Trusted. Assumes nothing.
--     changed                the file with the new bytes in the place of as many
--     replaceable            the command at the place and the new one are as described
--     or_unread, read_put      refusals 19, 1, 2, 17, 3 to 7 and 16 of the file; then 18; else the changed file
--     Replaced, answer_of    the answer
--     file_after             the file afterwards
--     PutDone                the answer, the file and the lent numbers afterwards
use Rattle.std.specs.Prelude.{◌≡◌, Bool, true, false, ◌&&◌, List, ℕ, ◌+◌, ◌*◌, ◌/◌, ◌%◌, eqb, length, Result, Ok, Err}
use Rattle.rules.specs.Context.{Limits, alone}
use Rattle.layout.specs.Bytes.{words_of}
use Rattle.layout.specs.Reading.{Reading, read, fault, on_read}
use Rattle.layout.specs.Read.{command}
use Rattle.layout.specs.File.{File, bytes_read}
use Rattle.masks.specs.Masks.{command_at}
use Rattle.masks.specs.WithMasks.{read_lent, stored_if}
use Rattle.context.specs.Contexts.{refusal}
use Rattle.context.specs.declared.Refusal.{Refusal}
use Rattle.splice.specs.Simple.{simple_to}
use Rattle.splice.specs.Splice.{spliced}

-- word w is bytes 4 × w to 4 × w + 3
abbrev pub changed : List ℕ → ℕ → List ℕ → List ℕ
changed bytes place new = spliced bytes (4 * place) new

-- the command that starts at the place and the one whose words the new bytes are, read by itself: each a skip, an assert or an assignment,
-- whole, and as long as the new bytes
unfoldable pub replaceable : Limits → List ℕ → File → ℕ → List ℕ → Bool
replaceable limits bytes f place new =
    eqb (length new % 4) 0
    && (simple_to (command_at limits (words_of bytes) f place) (place + length new / 4)
    && simple_to (command (alone limits) (words_of new) limits.depth 0) (length new / 4))

-- 18 also if the changed file would not be read
abbrev pub or_unread : Reading File → Reading File
or_unread (read f p) = read f p
or_unread (fault n p) = fault 18 0

-- n numbers are lent; 18 comes after reading, at place 0
unfoldable pub read_put : Limits → List ℕ → ℕ → ℕ → List ℕ → Reading File
read_put limits bytes n place new = on_read (read_lent limits bytes n) λ f p.
    elim (replaceable limits bytes f place new) [
      | true ↦ or_unread (bytes_read limits (changed bytes place new))
      | false ↦ fault 18 0
    ]

-- the new command stands in the file; or the refusal
abbrev pub Replaced : Type 0
Replaced = Result (Unit {0}) Refusal

abbrev pub answer_of : Reading File → Replaced
answer_of (read f p) = Ok tt
answer_of (fault n p) = Err (refusal n p)

abbrev pub file_after : Reading File → List ℕ → List ℕ → List ℕ
file_after (read f p) before after = after
file_after (fault n p) before after = before

-- a refused call changes neither the file nor the numbers; else the masks are those of the changed file, and numbers past its words stay
pub record PutDone (limits : Limits) (bytes lent : List ℕ) (place : ℕ) (new : List ℕ) (r : Replaced) (left numbers : List ℕ) : Type 0 where
  pub answer : r ≡ answer_of (read_put limits bytes (length lent) place new)
  pub file : left ≡ file_after (read_put limits bytes (length lent) place new) bytes (changed bytes place new)
  pub masks : numbers ≡ stored_if limits (words_of (changed bytes place new)) (read_put limits bytes (length lent) place new) lent
