-- Words loaded from bytes (document 01, "Layout": 32 bits, low byte first).
-- Working: `loaded-words` of proofs/Loading ties it to the layout's `words_of`. Assumes nothing.
--     word_at    the number that the four bytes of a place make
--     lesser    the lesser of two numbers
--     Loaded    the words of the bytes, as many as there is room for, stand in front; all else is as it was
use Rattle.std.specs.Prelude.{◌≡◌, cond, List, ◌++◌, ℕ, ◌+◌, ◌*◌, ◌/◌, leb, length, get_or, take, drop}
use Rattle.layout.specs.Bytes.{words_of}

abbrev pub word_at : List ℕ → ℕ → ℕ
word_at bytes place =
    get_or bytes (4 * place) 0 + 256 * get_or bytes (4 * place + 1) 0 + 65536 * get_or bytes (4 * place + 2) 0
    + 16777216 * get_or bytes (4 * place + 3) 0

unfoldable pub lesser : ℕ → ℕ → ℕ
lesser a b = cond (leb a b) a b

pub record Loaded (bytes before after : List ℕ) (n : ℕ) : Type 0 where
  pub count : n ≡ lesser (length bytes / 4) (length before)
  pub content : after ≡ take n (words_of bytes) ++ drop n before
