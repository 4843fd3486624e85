-- The readers of the three sorts meet their contracts: each goes by the word that is due. The measure is the words left
-- from the expression on, twice; one more for an operand.
-- Assumes nothing.
use Prim.Native.Nat.{◌+◌, ◌-◌, ◌*◌}
use Rattle.layout.specs.Bytes.{word_count}
use Rattle.reader.proofs.expression.+operand_at_read_arithmetic_read_array_read_boolean.Given as goal

abbrev pub decreases-read_arithmetic : goal.decreases-read_arithmetic
decreases-read_arithmetic l = 2 * (word_count l.w.now - l.at)

abbrev pub decreases-read_array : goal.decreases-read_array
decreases-read_array l = 2 * (word_count l.w.now - l.at)

abbrev pub decreases-read_boolean : goal.decreases-read_boolean
decreases-read_boolean l = 2 * (word_count l.w.now - l.at)

abbrev pub decreases-operand_at : goal.decreases-operand_at
decreases-operand_at l = 2 * (word_count l.w.now - l.at) + 1
