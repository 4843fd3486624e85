-- The masks of a file's words (document 02, request [5]): at each command word what the command modifies, as a number of 64 bits.
-- Trusted. Assumes nothing.
--     identifier_of, bits_of, mask_of    the identifier of a bit; a number by its bits; what a command modifies
--     command_at                       the command that starts at a place of a file that was read
--     mask_read, mask_at                the mask of the word at a place
--     masks_from, stored               those of some words; a lent list in which those of all words are stored
use Rattle.std.specs.Prelude.{Bool, cond, List, [], ◌∷◌, ◌++◌, ℕ, zero, suc, ◌+◌, ◌-◌, ◌^◌, ltb, drop}
use Rattle.language.specs.Syntax.{Command}
use Rattle.language.specs.Modifies.{Identifier, scalar_of, array_of, modifies}
use Rattle.rules.specs.Context.{Limits, alone}
use Rattle.layout.specs.Bytes.{word_count}
use Rattle.layout.specs.Reading.{Reading, read, fault, Reader}
use Rattle.layout.specs.Read.{command}
use Rattle.layout.specs.Program.{after_all}
use Rattle.layout.specs.File.{File}

-- bit i is scalar i, bit 32 + i array i
abbrev pub identifier_of : ℕ → Identifier
identifier_of i = cond (ltb i 32) (scalar_of i) (array_of (i - 32))

-- the number of n bits whose bit i is f i
unfoldable pub bits_of : (ℕ → Bool) → ℕ → ℕ
bits_of f zero = 0
bits_of f (suc n) = bits_of f n + cond (f n) (2 ^ n) 0

abbrev pub mask_of : Command → ℕ
mask_of c = bits_of (λ i. modifies c (identifier_of i)) 64

-- of a program or carried by evidence; a call holds the body of its procedure, one of all in the file
abbrev pub command_at : Limits → List ℕ → File → Reader Command
command_at limits file f at = command (after_all (alone limits) f.procedures) file limits.depth at

abbrev pub mask_read : Reading Command → ℕ
mask_read (read c p) = mask_of c
mask_read (fault n p) = 0

-- 0 at a word that starts no command: none is read there
unfoldable pub mask_at : Limits → List ℕ → File → ℕ → ℕ
mask_at limits file f at = mask_read (command_at limits file f at)

-- of n words from `at` on
unfoldable pub masks_from : Limits → List ℕ → File → ℕ → ℕ → List ℕ
masks_from limits file f zero at = []
masks_from limits file f (suc n) at = mask_at limits file f at ∷ masks_from limits file f n (suc at)

-- numbers past the words stay
abbrev pub stored : Limits → List ℕ → File → List ℕ → List ℕ
stored limits file f lent = masks_from limits file f (word_count file) 0 ++ drop (word_count file) lent
