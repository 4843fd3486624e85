-- A command in which every call holds the body of its procedure, in one table of procedures (document 02, request [3]).
-- Working: `command-unique` of proofs/Unique says that such commands are one if their words are; what is read is such a command by
-- `file-resolved` of layout/proofs/Resolved. Assumes nothing.
--     Resolved    of a command
--     Carried     of each command that evidence carries
use Rattle.std.specs.Prelude.{◌≡◌, List}
use Rattle.std.proofs.Math.Option.{some}
use Rattle.language.specs.Syntax.{Command, skip, sequence, assert, assign, if_else, while, for, call}
use Rattle.rules.specs.Context.{Procedure, item_at}
use Rattle.rules.specs.Evidence.{Standing, Tree, by, assertion, command, members, child, done, ◌&◌}

abbrev pub Resolved : List Procedure → Command → Type 0
Resolved l skip = Unit {0}
Resolved l (sequence c d) = Resolved l c × Resolved l d
Resolved l (assert b) = Unit {0}
Resolved l (assign a) = Unit {0}
Resolved l (if_else b c d) = Resolved l c × Resolved l d
Resolved l (while b c) = Resolved l c
Resolved l (for q m c) = Resolved l c
Resolved l (call n c) = (k : Procedure) × (item_at l n ≡ some k) × (c ≡ k.body) × Resolved l c

abbrev pub Carried : List Procedure → {s : Standing} → Tree s → Type 0
Carried l (by r i t) = Carried l t
Carried l (assertion φ) = Unit {0}
Carried l (command c) = Resolved l c
Carried l (members p) = Unit {0}
Carried l (child k) = Carried l k
Carried l done = Unit {0}
Carried l (x & t) = Carried l x × Carried l t
