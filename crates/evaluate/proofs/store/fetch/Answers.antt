-- `evaluate::store::fetch` meets its contract: the first n values are those of the array. Assumes nothing.
use borrow.Author.Rules.{rules}
use mathlib.Core.Path.{◌≡◌, sym, ◌∙◌}
use Prim.Native.Nat.{◌+◌, ◌*◌}
use native.Mathlib.Omega.{arith}
use lib.IntN.{pos}
use lib.ListN.{get_or}
use lib.Seq.{take_all}
use mir.Syntax.{w64}
use mir.Val.{SFits}
use Rattle.arithmetic.proofs.Signed.{back}
use Rattle.evaluate.proofs.Elements.{fetched, fetched-next}
use Rattle.evaluate.proofs.store.fetch.Goals as goal

pub loop-n-preserved : goal.loop-n-preserved
loop-n-preserved c =
    let r = c.requires in
    let s = c.loop-n.auto in
    let f : SFits w64 (get_or c.args.values.now (64 * c.args.array + c.loop-n.n) (pos 0)) = search rules in
    fetched-next c.loop-n.scratch c.args.values.now c.args.array c.loop-n.n _ (omega arith) (omega arith) (back f) c.loop-n.invariant

pub returns : goal.returns
returns c =
    let r = c.requires in
    let s = c.loop-n.auto in
    let e : c.loop-n.n ≡ 64 = omega arith in
    sym (take_all c.loop-n.n c.loop-n.scratch (omega arith)) ∙ c.loop-n.invariant
    ∙ fetched c.args.values.now c.args.array e r.0 r.1
