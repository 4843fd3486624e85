-- `truth_table::every` meets its contract: a formula of 32 bytes is at most 32 deep. Assumes nothing.
use native.Mathlib.Omega.{arith}
use Rattle.truth_table.proofs.Machine.{short-formula}
use Rattle.truth_table.proofs.every.Goals as goal

pub every_within-requires : goal.every_within-requires
every_within-requires c = (short-formula 32 (omega arith) c.requires.0, omega arith, c.requires.1)
