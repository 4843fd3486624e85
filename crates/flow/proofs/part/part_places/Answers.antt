-- `flow::part::part_places` meets its contract: the places of an accepted file are at most 8,192.
-- Assumes nothing.
use mathlib.Core.Path.{◌∙◌, ap}
use native.Mathlib.Omega.{arith}
use Rattle.layout.specs.Verdict.{packed_places}
use Rattle.flow.proofs.Parts.{range-of, accepted-places, refused-places}
use Rattle.flow.proofs.part.part_places.Goals as goal

pub packed_places-requires : goal.packed_places-requires
packed_places-requires c =
    let h = range-of _ _ c.args.part c.range-first.ensures c.in-Ok.ensures in
    (omega (arith, h.order, h.few), h.few)

pub returns-in-Ok : goal.returns-in-Ok
returns-in-Ok c =
    c.packed_places.ensures ∙ ap (λ r. packed_places r.0 r.1) c.range-first.ensures
    ∙ accepted-places _ _ c.args.part _ c.in-Ok.ensures

pub returns-in-Err : goal.returns-in-Err
returns-in-Err c = refused-places _ _ c.args.part _ c.in-Err.ensures
