-- `words::load::load` meets its contract: after i turns the first i words stand in front.
-- Assumes nothing.
use mathlib.Core.Path.{◌≡◌}
use Rattle.words.proofs.Loading.{front}
use Rattle.words.proofs.load.load.Given as goal

abbrev pub invariant-loop-i : goal.invariant-loop-i
invariant-loop-i l = l.words ≡ front l.file l.initial.words l.i
