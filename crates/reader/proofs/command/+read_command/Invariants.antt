-- The reader of commands meets its contract: it goes by the word that is due. The measure is the words left from the command on.
-- Assumes nothing.
use Prim.Native.Nat.{◌-◌}
use Rattle.layout.specs.Bytes.{word_count}
use Rattle.reader.proofs.command.+read_command.Given as goal

abbrev pub decreases-read_command : goal.decreases-read_command
decreases-read_command l = word_count l.w.now - l.at
