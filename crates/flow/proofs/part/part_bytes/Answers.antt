-- `flow::part::part_bytes` meets its contract: the places of an accepted file are in order and inside its bytes.
-- Assumes nothing.
use mathlib.Core.Path.{◌∙◌, ap}
use Rattle.layout.specs.Verdict.{bytes_between}
use Rattle.flow.proofs.Parts.{range-of, accepted-bytes, refused-bytes}
use Rattle.flow.proofs.part.part_bytes.Goals as goal

pub between-requires : goal.between-requires
between-requires c =
    let h = range-of _ _ c.args.part c.range-from.ensures c.in-Ok.ensures in
    (h.order, h.inside)

pub returns-in-Ok : goal.returns-in-Ok
returns-in-Ok c =
    c.between.ensures ∙ ap (λ r. bytes_between c.args.file.now r.0 r.1) c.range-from.ensures
    ∙ accepted-bytes _ _ c.args.part _ c.in-Ok.ensures

pub returns-in-Err : goal.returns-in-Err
returns-in-Err c = refused-bytes _ _ c.args.part _ c.in-Err.ensures
