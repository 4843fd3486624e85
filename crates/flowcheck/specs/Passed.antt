-- What the program reads of its input and writes of a line, where the bytes of the one and of the other are known.
-- Trusted. Assumes nothing.
--     ReadAll     the first bytes of the input, as many as there is room for; or none
--     WrittenOf   what was written is a front part of the line
use Rattle.std.specs.Prelude.{◌≡◌, ◌⊎◌, List, [], ℕ, take, IfSome, Option}
use Rattle.std.specs.Io.KnownBytes.{Appends}

abbrev pub ReadAll : Option (List ℕ) → ℕ → List ℕ → Type 0
ReadAll known room file = IfSome known (λ xs. (file ≡ take room xs) ⊎ (file ≡ []))

abbrev pub WrittenOf : Option (List ℕ) → Option (List ℕ) → List ℕ → Type 0
WrittenOf old new line = (k : ℕ) × Appends old new (take k line)
