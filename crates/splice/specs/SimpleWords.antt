-- A skip, an assert or an assignment by its first word and the list of ends.
-- Working: `simple-here`, `simple-other` and `simple-past` of proofs/SimpleWords tie it to `simple_to`, and `read-simple_to` of
-- proofs/ReadTo `read_to`. Assumes nothing.
--     is_simple_kind    the kinds of these commands
--     SimpleAt        whether one stands at a place up to another, in a file that was read
--     ends_at, read_to  a walk goes on from a place; whether such a command is read with so many levels, up to a place
use Rattle.std.specs.Prelude.{◌≡◌, Bool, false, ◌&&◌, ◌||◌, List, ℕ, eqb, Ok, Err}
use Rattle.rules.specs.Context.{Limits}
use Rattle.layout.specs.Bytes.{kind_at}
use Rattle.layout.specs.File.{File}
use Rattle.reader.specs.Walk.{Walk, command_walk}
use Rattle.scan.specs.Steady.{MaskedFile}
use Rattle.masks.specs.Masks.{command_at}
use Rattle.splice.specs.Simple.{simple_to}

unfoldable pub is_simple_kind : ℕ → Bool
is_simple_kind k = eqb k 24 || (eqb k 26 || (eqb k 27 || eqb k 28))

pub record SimpleAt (file ends : List ℕ) (at to : ℕ) (r : Bool) : Type 0 where
  pub is : (limits : Limits) (f : File) → MaskedFile file ends limits f → r ≡ simple_to (command_at limits file f at) to

abbrev pub ends_at : Walk → ℕ → Bool
ends_at (Ok p) to = eqb p to
ends_at (Err x) to = false

unfoldable pub read_to : List ℕ → ℕ → ℕ → ℕ → Bool
read_to file d at to = is_simple_kind (kind_at file at) && ends_at (command_walk file d at) to
