-- The words of a file (document 01, "Layout"): 32 bits, low byte first; the top 6 bits are the kind, the low 26 the
-- payload.
-- Trusted. Assumes nothing.
--     payloads, word_of       as many as there are payloads; the word of a kind and a payload
--     words_of                the words that bytes make
--     word_count, number_at    how many words there are; the word at a place
--     kind_at, payload_at      its kind and its payload
use Rattle.std.specs.Prelude.{List, [], ◌∷◌, ℕ, ◌+◌, ◌*◌, ◌/◌, ◌%◌, length, get_or}

-- as many as there are payloads, of 26 bits
abbrev pub payloads : ℕ
payloads = 67108864

-- the word k:p
abbrev pub word_of : ℕ → ℕ → ℕ
word_of k p = k * payloads + p

-- four bytes a word; a rest of fewer makes none
unfoldable pub words_of : List ℕ → List ℕ
words_of [] = []
words_of (a ∷ []) = []
words_of (a ∷ (b ∷ [])) = []
words_of (a ∷ (b ∷ (c ∷ []))) = []
words_of (a ∷ (b ∷ (c ∷ (d ∷ l)))) = (a + 256 * b + 65536 * c + 16777216 * d) ∷ words_of l

abbrev pub word_count : List ℕ → ℕ
word_count file = length file

abbrev pub number_at : List ℕ → ℕ → ℕ
number_at file at = get_or file at 0

abbrev pub kind_at : List ℕ → ℕ → ℕ
kind_at file at = number_at file at / payloads

abbrev pub payload_at : List ℕ → ℕ → ℕ
payload_at file at = number_at file at % payloads
