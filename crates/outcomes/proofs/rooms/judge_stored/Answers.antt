-- `outcomes::rooms::judge_stored` meets its contract: no masks are lent, or those of the words are stored.
-- Assumes nothing.
use native.Mathlib.Omega.{arith}
use Rattle.outcomes.proofs.Outcomes.{none_of, none-stored, can_store, stored_of, stored-count, stored-done}
use Rattle.outcomes.proofs.rooms.judge_stored.Goals as goal

pub judge_file-requires : goal.judge_file-requires
judge_file-requires c = (c.requires, none_of c.args.masks.now)

pub returns-then-masks-n : goal.returns-then-masks-n
returns-then-masks-n c = none-stored c.requires c.args.masks.now c.if-masks-n.true c.judge_file.ensures

pub fill-requires : goal.fill-requires
fill-requires c = can_store c.requires c.args.masks.now (omega arith)

pub slice_bounds-judge_file-end-3 : goal.slice_bounds-judge_file-end-3
slice_bounds-judge_file-end-3 c = stored-count c.requires c.args.masks.now (omega arith) c.fill.ensures

pub judge_file-requires-2 : goal.judge_file-requires-2
judge_file-requires-2 c = (c.requires, stored_of c.requires c.args.masks.now (omega arith) c.fill.ensures)

pub returns : goal.returns
returns c = stored-done c.requires c.args.masks.now (omega arith) c.fill.ensures c.judge_file-2.ensures
