-- `masks::lent::few_numbers` meets its contract: refusals 1 and 2 are tried first, and then the count of numbers.
-- Assumes nothing.
use mathlib.Core.Path.{sym, ◌∙◌}
use native.Mathlib.Omega.{arith}
use Rattle.masks.proofs.FewNumbers.{four_bytes, bad-many, uncounted-many, counted-few}
use Rattle.masks.proofs.lent.few_numbers.Goals as goal

pub returns-then-bad_length : goal.returns-then-bad_length
returns-then-bad_length c = bad-many _ _ (sym c.bad_length.ensures ∙ c.if-bad_length.true)

pub word_at-requires : goal.word_at-requires
word_at-requires c =
    let four = four_bytes c.args.file.now (sym c.bad_length.ensures ∙ c.if-bad_length.false) in
    omega arith

pub returns-then-word_at-due : goal.returns-then-word_at-due
returns-then-word_at-due c =
    let good = sym c.bad_length.ensures ∙ c.if-bad_length.false in
    uncounted-many _ good _ c.word_at.ensures c.if-word_at-due.true

pub returns : goal.returns
returns c =
    let good = sym c.bad_length.ensures ∙ c.if-bad_length.false in
    counted-few _ good _ c.word_at.ensures c.if-word_at-due.false
