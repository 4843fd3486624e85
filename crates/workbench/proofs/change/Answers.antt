-- `workbench::change` meets its contract: the new command is one, by as many levels as are known or by all, or the call is refused as 18.
-- Assumes nothing.
use native.Mathlib.Omega.{arith}
use mathlib.Core.Path.{sym, ◌∙◌}
use Rattle.splice.proofs.ReadTo.{read-deeper}
use Rattle.changed_file.proofs.Tables.{tabled_again}
use Rattle.replacement.proofs.Puts.{change-not, settled}
use Rattle.workbench.proofs.change.Goals as goal

pub is_known-requires : goal.is_known-requires
is_known-requires c = c.requires.1.known

pub read_mended-layout-requires : goal.read_mended-layout-requires
read_mended-layout-requires c = (c.requires.1, sym c.is_known.ensures ∙ c.if-is_known.true)

pub settle-requires : goal.settle-requires
settle-requires c =
    record {
      change = settled c.args.context c.args.masks.now c.requires.0 (omega arith);
      new-read = read-deeper _ _ _ _ _ c.requires.1.few (sym c.is_known.ensures ∙ c.if-is_known.true);
      remarked = c.read_mended-layout.ensures;
    }

pub returns-then-not-is_read_to : goal.returns-then-not-is_read_to
returns-then-not-is_read_to c =
    change-not c.args.context c.args.masks.now c.requires.0 c.is_read_to.ensures
    c.if-not-is_read_to.true c.refused.ensures

pub settle-requires-2 : goal.settle-requires-2
settle-requires-2 c =
    record {
      change = settled c.args.context c.args.masks.now c.requires.0 (omega arith);
      new-read = sym c.is_read_to.ensures ∙ c.if-not-is_read_to.false;
      remarked = tabled_again c.read_table-layout.ensures;
    }
