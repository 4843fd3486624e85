-- `matching::equal::common_prefix` meets its contract: by blocks, and from there on one by one.
-- Assumes nothing.
use mathlib.Core.Path.{◌∙◌}
use native.Mathlib.Omega.{arith}
use lib.ListN.{take, length-take}
use Rattle.std.proofs.Common.{rules}
use Rattle.matching.proofs.CommonPrefix.{blocks-skipped, common-cut}
use Rattle.matching.proofs.equal.common_prefix.Goals as goal

pub overflow_mul-common_blocks : goal.overflow_mul-common_blocks
overflow_mul-common_blocks c =
    let h = (blocks-skipped (take c.min-count.result c.args.a.now) (take c.min-count.result c.args.b.now) c.common_blocks.ensures).left in
    search rules

pub first_difference-requires : goal.first_difference-requires
first_difference-requires c =
    let m = c.min-count.ensures in
    let s = blocks-skipped (take c.min-count.result c.args.a.now) (take c.min-count.result c.args.b.now) c.common_blocks.ensures in
    (grind (arith, length-take), s.left)

pub returns : goal.returns
returns c =
    let s = blocks-skipped (take c.min-count.result c.args.a.now) (take c.min-count.result c.args.b.now) c.common_blocks.ensures in
    c.first_difference.ensures ∙ s.rest ∙ common-cut c.args.a.now c.args.b.now c.min-count.result c.min-count.ensures
