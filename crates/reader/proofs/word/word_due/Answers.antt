-- `reader::word::word_due` meets its contract: the tests pick the case.
-- Assumes nothing.
use mathlib.Core.Path.{sym, ◌∙◌, ap₂}
use Prim.Native.Nat.{ℕ, ◌+◌, ◌-◌}
use Rattle.std.specs.Prelude.{Result, Ok}
use Rattle.context.specs.declared.Refusal.{Refusal}
use Rattle.reader.specs.declared.FirstWord.{FirstWord}
use Rattle.reader.proofs.Walks.{due-ends, due-deep, due-there}
use Rattle.reader.proofs.word.word_due.Goals as goal

abbrev word_there : ℕ → ℕ → ℕ → ℕ → Result FirstWord Refusal
word_there k p q b = Ok (record { kind = k; payload = p; next = q; below = b })

pub returns-then-n-at : goal.returns-then-n-at
returns-then-n-at c = let a = c.args in sym (due-ends a.w.now a.left a.at c.if-n-at.true)

pub returns-then-left-eq0 : goal.returns-then-left-eq0
returns-then-left-eq0 c =
    let a = c.args in
    sym (due-deep a.w.now a.left a.at c.if-n-at.false c.if-left-eq0.true)

pub returns : goal.returns
returns c =
    let a = c.args in
    ap₂ (λ (k p : ℕ). word_there k p (a.at + 1) (a.left - 1)) c.kind.ensures c.payload.ensures
    ∙ sym (due-there a.w.now a.left a.at c.if-n-at.false c.if-left-eq0.false)
