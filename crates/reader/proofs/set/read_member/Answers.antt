-- `reader::set::read_member` meets its contract: a boolean, then an expression of any sort.
-- Assumes nothing.
use Rattle.layout.specs.Read.{consequent_at}
use Rattle.reader.proofs.Walks.{exit, first-part, after-part, refused-part}
use Rattle.reader.proofs.set.read_member.Goals as goal

pub returns-in_err-consequent : goal.returns-in_err-consequent
returns-in_err-consequent c =
    exit c.from_residual.ensures.1 (refused-part _ (consequent_at c.args.w.now c.args.left) _ (first-part _ _ _ c.in_err-consequent.ensures))

pub returns : goal.returns
returns c =
    after-part _ (consequent_at c.args.w.now c.args.left) _ (first-part _ _ _ c.in_ok-consequent.ensures) c.read_consequent.ensures
