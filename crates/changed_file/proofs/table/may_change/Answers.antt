-- `changed_file::table::may_change` meets its contract.
-- Assumes nothing.
use Rattle.changed_file.proofs.Tables.{change-behind, change-start, change-same, change-past}
use Rattle.changed_file.proofs.table.may_change.Goals as goal

pub returns-then-to-start : goal.returns-then-to-start
returns-then-to-start c = change-behind c.if-to-start.true

pub returns-then-from-start : goal.returns-then-from-start
returns-then-from-start c = change-start

pub returns-then-same : goal.returns-then-same
returns-then-same c = change-same c.if-from-start.false c.if-same.true

pub returns : goal.returns
returns c = change-past c.if-from-start.false
