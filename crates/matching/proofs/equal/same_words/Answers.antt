-- `matching::equal::same_words` meets its contract: ranges of one length are the same if all their words are.
-- Assumes nothing.
use mathlib.Core.Path.{◌∙◌}
use native.Mathlib.Omega.{arith}
use borrow.Author.Tests.{eq-eqb, ne_eqb}
use Rattle.matching.proofs.CommonPrefix.{same-ranges, no-ranges, other-ranges}
use Rattle.matching.proofs.equal.same_words.Goals as goal

pub returns-else-b-a : goal.returns-else-b-a
returns-else-b-a c =
    let p = c.requires in
    ne_eqb _ _ c.if-b-a.false ∙ other-ranges c.args.w.now c.args.a c.args.b c.args.c c.args.d p.1 p.3 c.if-b-a.false

pub returns-then-a-b : goal.returns-then-a-b
returns-then-a-b c =
    let p = c.requires in
    eq-eqb _ _ c.if-a-b.true
    ∙ no-ranges c.args.w.now c.args.a c.args.b c.args.c c.args.d (omega (arith, c.if-a-b.true)) (omega (arith, c.if-a-b.true, c.if-b-a.true))

pub returns-else-a-b : goal.returns-else-a-b
returns-else-a-b c =
    let p = c.requires in
    same-ranges c.args.w.now c.args.a c.args.b c.args.c c.args.d p.0 p.1 p.2 p.3 c.if-b-a.true c.common_prefix.ensures
