-- `flowcheck::print_line`: each write starts where the last one stopped. The measure is what is left of the line.
use Rattle.std.proofs.Common.{◌-◌, ◌≤◌, length, take}
use Rattle.std.specs.Io.KnownBytes.{Appends}
use Rattle.flowcheck.proofs.print_line.Given as goal

abbrev pub invariant-loop-from : goal.invariant-loop-from
invariant-loop-from g l = (l.from ≤ length l.line) × Appends (g.W.Write.contents l.fn.writer) (g.W.Write.contents l.writer) (take l.from l.line)

abbrev pub decreases-loop-from : goal.decreases-loop-from
decreases-loop-from g l = length l.line - l.from
