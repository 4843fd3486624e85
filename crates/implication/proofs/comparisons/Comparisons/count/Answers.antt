-- `implication::comparisons::Comparisons::count` meets its contract. Assumes nothing.
use mathlib.Core.Path.{sym, ap, ◌∙◌}
use native.Mathlib.Omega.{arith}
use lib.ListN.{length}
use Rattle.std.proofs.lemmas.List.{length-take-le}
use Rattle.implication.proofs.comparisons.Comparisons.count.Goals as goal

pub returns : goal.returns
returns c =
    let i = c.self.invariant in
    sym (length-take-le c.self.inside.count c.self.inside.spans (omega arith)) ∙ ap length c.self.view_is
