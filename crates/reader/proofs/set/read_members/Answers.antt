-- `reader::set::read_members` meets its contract: after i turns, `count` less i members are left to read, from p on.
-- Assumes nothing.
use mathlib.Core.Path.{sym, ◌∙◌}
use Rattle.reader.proofs.Walks.{exit}
use Rattle.reader.proofs.Sets.{members-all, members-next, members-stop, members-done}
use Rattle.reader.proofs.set.read_members.Goals as goal

pub loop-init : goal.loop-init
loop-init c = members-all _ _ _

pub returns-in_err-p : goal.returns-in_err-p
returns-in_err-p c =
    exit c.from_residual.ensures.1 (members-stop _ _ _ _ c.loop-test.true c.in_err-p.ensures ∙ sym c.loop.invariant)

pub loop-preserved : goal.loop-preserved
loop-preserved c = c.loop.invariant ∙ members-next _ _ _ _ c.loop-test.true c.in_ok-p.ensures

pub returns : goal.returns
returns c = sym (c.loop.invariant ∙ members-done _ _ _ _ c.loop-test.false)
