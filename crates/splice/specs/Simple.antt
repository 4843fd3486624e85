-- The commands that the workbench call takes (document 02, request [5]): "another skip, assert or assignment".
-- Trusted. Assumes nothing.
--     is_simple    a skip, an assert or an assignment
--     simple_to    what was read is one, and ends at a place
use Rattle.std.specs.Prelude.{Bool, true, false, ◌&&◌, ℕ, eqb}
use Rattle.language.specs.Syntax.{Command, skip, sequence, assert, assign, if_else, while, for, call}
use Rattle.layout.specs.Reading.{Reading, read, fault}

abbrev pub is_simple : Command → Bool
is_simple skip = true
is_simple (sequence c d) = false
is_simple (assert b) = true
is_simple (assign a) = true
is_simple (if_else b c d) = false
is_simple (while b c) = false
is_simple (for q m c) = false
is_simple (call p c) = false

abbrev pub simple_to : Reading Command → ℕ → Bool
simple_to (read c p) to = is_simple c && eqb p to
simple_to (fault n p) to = false
