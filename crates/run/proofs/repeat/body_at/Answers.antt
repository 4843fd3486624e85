-- `run::repeat::body_at` meets its contract. Assumes nothing.
use mathlib.Core.Path.{sym, ap, ◌∙◌}
use Rattle.run.specs.Turns.{body_place}
use Rattle.run.proofs.repeat.body_at.Goals as goal

pub returns-in-Test : goal.returns-in-Test
returns-in-Test c = c.end_at.ensures ∙ ap (body_place c.args.ends.now c.args.at) (sym c.in-Test.is)

pub returns-in-Count : goal.returns-in-Count
returns-in-Count c =
    ap (body_place c.args.ends.now c.args.at) (sym
    c.in-Count.is)
