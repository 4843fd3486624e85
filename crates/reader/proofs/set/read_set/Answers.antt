-- `reader::set::read_set` meets its contract: it goes by the word that is due, and the context bounds its members.
-- Assumes nothing.
use borrow.Author.Tests.{eq-eqb, ne_eqb, le-leb, lt-leb}
use mathlib.Core.Path.{refl}
use Rattle.context.specs.Contexts.{context_of}
use Rattle.reader.proofs.Walks.{set-goes, exit, stop, arm, none-arm}
use Rattle.reader.proofs.set.read_set.Goals as goal
use Rattle.reader.proofs.set.read_set.Goals.{else-first-eq-SET-via-then-first-eq-SET+else-first-most, else-first-eq-SET-via-else-first-eq-SET}

pub returns-in_err-first : goal.returns-in_err-first
returns-in_err-first c =
    let a = c.args in
    exit c.from_residual.ensures.1 (stop (set-goes a.w.now (context_of a.context) a.left a.at) c.in_err-first.ensures)

pub returns-then-first-most : goal.returns-then-first-most
returns-then-first-most c =
    let a = c.args in
    arm (set-goes a.w.now (context_of a.context) a.left a.at) c.in_ok-first.ensures refl refl
    (simp (eq-eqb _ _ c.if-first-eq-SET.true, le-leb _ _ c.if-first-most.true) c.read_members.ensures)

pub returns : goal.returns
returns c =
    let a = c.args in
    none-arm (set-goes a.w.now (context_of a.context) a.left a.at) c.in_ok-first.ensures refl
    (elim c.else-first-eq-SET.branch [
      | else-first-eq-SET-via-then-first-eq-SET+else-first-most w ↦
          simp (eq-eqb _ _ w.if-first-eq-SET.true, lt-leb _ _ w.if-first-most.false)
      | else-first-eq-SET-via-else-first-eq-SET w ↦ simp (ne_eqb _ _ w.if-first-eq-SET.false)
    ])
