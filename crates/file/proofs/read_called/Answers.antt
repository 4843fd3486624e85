-- `file::read_called` meets its contract: refusal 16 by the scan.
-- Assumes nothing.
use Rattle.file.proofs.Files.{wrong_called}
use Rattle.file.proofs.read_called.Goals as goal

pub returns-in-Some : goal.returns-in-Some
returns-in-Some c = wrong_called c.requires.0 _ c.in-Some.ensures
