-- `splice::simple::is_read_to` meets its contract: past the file, by the kind of the word there, by the walk.
-- Assumes nothing.
use mathlib.Core.Path.{sym, ◌∙◌}
use borrow.Author.Rules.{rules}
use Rattle.splice.proofs.ReadTo.{read_past, read-other, read_next}
use Rattle.splice.proofs.simple.is_read_to.Goals as goal

pub returns-then-w-at : goal.returns-then-w-at
returns-then-w-at c = read_past _ _ _ _ c.if-w-at.true

pub returns-then-not-is_simple : goal.returns-then-not-is_simple
returns-then-not-is_simple c = read-other _ _ _ _ (sym c.is_simple.ensures ∙ c.if-not-is_simple.true)

pub returns : goal.returns
returns c =
    read_next _ _ _ _ (sym c.is_simple.ensures ∙ c.if-not-is_simple.false) c.read_command.ensures c.is_ok_and.ensures (λ p h. search rules)
