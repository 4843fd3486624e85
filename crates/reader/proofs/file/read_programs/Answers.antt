-- `reader::file::read_programs` meets its contract: after i turns the first i procedures are read, up to p, and their starts are
-- stored.
-- Assumes nothing.
use native.Mathlib.Omega.{arith}
use lib.ListN.{length-set}
use Rattle.reader.proofs.Programs.{programs-start, programs-next, programs-stop, programs-done}
use Rattle.reader.proofs.file.read_programs.Goals as goal

pub loop-i-init : goal.loop-i-init
loop-i-init c = programs-start _ _ _ _ _ c.requires.inside

pub returns-in_err-p : goal.returns-in_err-p
returns-in_err-p c =
    programs-stop _ _ _ _ c.loop-i.invariant c.in_err-p.ensures c.from_residual.ensures.1 (omega arith)
    (simp length-set c.loop-i.invariant.size)

pub loop-i-preserved : goal.loop-i-preserved
loop-i-preserved c = programs-next _ _ _ _ c.loop-i.invariant c.in_ok-p.ensures (omega arith) (omega arith)

pub returns : goal.returns
returns c = programs-done _ _ _ _ c.loop-i.invariant c.read_program-2.ensures c.loop-i-test.false (omega arith)
