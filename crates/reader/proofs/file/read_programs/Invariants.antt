-- `reader::file::read_programs` meets its contract: after i turns the first i procedures are read, up to p, and their starts are
-- stored. The measure is how many are left.
-- Assumes nothing.
use Rattle.context.specs.Contexts.{limits_of}
use Rattle.reader.proofs.Programs.{ProgramReached}
use Rattle.reader.proofs.file.read_programs.Given as goal

abbrev pub invariant-loop-i : goal.invariant-loop-i
invariant-loop-i l = ProgramReached (limits_of l.context) l.w l.count l.at l.initial.starts l.starts l.i l.p
