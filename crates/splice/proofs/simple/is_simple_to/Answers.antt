-- `splice::simple::is_simple_to` meets its contract: past the file, by the kind of the word there, by the end of what starts there.
-- Assumes nothing.
use mathlib.Core.Path.{sym, ◌∙◌}
use native.Mathlib.Omega.{arith}
use Rattle.splice.proofs.SimpleWords.{simple-past, simple-other, simple-here}
use Rattle.splice.proofs.simple.is_simple_to.Goals as goal

pub returns-then-w-at : goal.returns-then-w-at
returns-then-w-at c = simple-past _ _ c.if-w-at.true

pub returns-then-not-is_simple : goal.returns-then-not-is_simple
returns-then-not-is_simple c = simple-other c.requires c.if-w-at.false _ (sym c.is_simple.ensures ∙ c.if-not-is_simple.true)

pub end_at-requires : goal.end_at-requires
end_at-requires c = omega (arith, c.if-w-at.false, c.requires.room)

pub returns : goal.returns
returns c =
    simple-here c.requires c.if-w-at.false _ (sym c.is_simple.ensures ∙ c.if-not-is_simple.false)
    c.end_at.ensures
