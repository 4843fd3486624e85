-- `words::load::load` meets its contract: after i turns the first i words stand in front.
-- Assumes nothing.
use native.Mathlib.Omega.{arith}
use mathlib.Core.Path.{◌≡◌, ◌∙◌}
use Prim.Native.Nat.{◌+◌, ◌*◌, ◌<◌}
use lib.ListN.{length}
use Rattle.words.proofs.Loading.{front-more, lesser-min}
use Rattle.words.proofs.load.load.Goals as goal

pub loop-i-preserved : goal.loop-i-preserved
loop-i-preserved c =
    let l = c.loop-i in
    let a = c.args in
    let h : 4 * l.i + 3 < length a.file.now = omega arith in
    let k : l.i < length a.words.now = omega arith in
    rw (l.invariant, c.word_at.ensures) (front-more a.file.now a.words.now l.i h k)

pub returns : goal.returns
returns c =
    let l = c.loop-i in
    let e : c.min-n.result ≡ l.i = omega arith in
    record { count = c.min-n.ensures ∙ lesser-min _ _; content = rw e l.invariant }
