-- `matching::cursor::match_words` meets its contract: the words left lead on from the place at hand.
-- Assumes nothing.
use mathlib.Core.Path.{◌≡◌}
use lib.ListN.{drop}
use Rattle.std.specs.Prelude.{Ok}
use Rattle.matching.specs.Matching.{matched}
use Rattle.matching.proofs.cursor.match_words.Given as goal

abbrev pub invariant-loop-x : goal.invariant-loop-x
invariant-loop-x l = matched l.w (Ok l.at) (drop l.x-index l.words) ≡ matched l.w l.fn.m l.words
