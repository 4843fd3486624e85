-- `scan::calls::callable` meets its contract: what is left to count from the procedure at hand gives what is asked from the first.
-- Assumes nothing.
use mathlib.Core.Path.{◌≡◌}
use Prim.Native.Nat.{◌-◌}
use Rattle.ends.specs.Procedures.{start_at}
use Rattle.scan.specs.Programs.{procedure_count}
use Rattle.scan.specs.Calls.{callable_from}
use Rattle.scan.proofs.calls.callable.Given as goal

abbrev pub invariant-loop-i : goal.invariant-loop-i
invariant-loop-i l =
    callable_from (start_at l.w l.table) (procedure_count l.w - l.i) l.i l.at
    ≡ callable_from (start_at l.w l.table) (procedure_count l.w) 0 l.at
