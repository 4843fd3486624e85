-- Reading evidence, its items and an item meet their contracts: evidence goes by the row of the word that is due, and the
-- loop by the row's digits. The words left and the levels left both fall: the measure is their sum, three times; one more for
-- an item, two more for all items.
-- Assumes nothing.
use Rattle.context.specs.Contexts.{context_of}
use Rattle.layout.specs.Bytes.{word_count}
use Rattle.reader.proofs.Items.{Reached}
use Prim.Native.Nat.{◌+◌, ◌-◌, ◌*◌}
use Rattle.reader.proofs.evidence.+read_evidence_read_item_read_items.Given as goal

abbrev pub decreases-read_evidence : goal.decreases-read_evidence
decreases-read_evidence l = 3 * (word_count l.w.now - l.at + l.left)

abbrev pub decreases-read_item : goal.decreases-read_item
decreases-read_item l = 3 * (word_count l.w.now - l.at + l.left) + 1

abbrev pub decreases-read_items : goal.decreases-read_items
decreases-read_items l = 3 * (word_count l.w.now - l.at + l.left) + 2

abbrev pub invariant-read_items-loop-item : goal.invariant-read_items-loop-item
invariant-read_items-loop-item l = Reached (context_of l.context) l.w l.left l.row l.at l.item-index l.p
