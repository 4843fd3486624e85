-- `scan::calls::wrong_at` meets its contract, by the word's kind.
-- Assumes nothing.
use Rattle.scan.proofs.WrongCalls.{wrong_other, wrong-call}
use Rattle.scan.proofs.calls.wrong_at.Goals as goal

pub returns-then-word-ne-CALL : goal.returns-then-word-ne-CALL
returns-then-word-ne-CALL c = wrong_other _ _ _ c.if-word-ne-CALL.true

pub returns : goal.returns
returns c = wrong-call _ _ _ c.if-word-ne-CALL.false c.callable.ensures
