-- `changed_file::table::assigns_any` meets its contract, kind by kind.
-- Assumes nothing.
use mathlib.Core.Path.{sym, subst}
use native.Mathlib.Omega.{arith}
use Rattle.changed_file.specs.Tables.{AssignsAny}
use Rattle.changed_file.proofs.Tables.{assigns-nothing, assigns-scalar, assigns-array, assigns-unknown}
use Rattle.changed_file.proofs.table.assigns_any.Goals as goal

pub returns-in-24 : goal.returns-in-24
returns-in-24 c = assigns-nothing c.in-24.is (omega arith)

pub returns-in-26 : goal.returns-in-26
returns-in-26 c = assigns-nothing c.in-26.is (omega arith)

pub returns-in-27 : goal.returns-in-27
returns-in-27 c = subst (AssignsAny _ _ _) (sym c.has_bit.ensures) (assigns-scalar c.in-27.is)

pub returns-in-28 : goal.returns-in-28
returns-in-28 c = subst (AssignsAny _ _ _) (sym c.has_bit-in-28.ensures) (assigns-array c.in-28.is)

pub returns-in_default : goal.returns-in_default
returns-in_default c = assigns-unknown
