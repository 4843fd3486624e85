-- `reader::file::read_procedures` meets its contract, by the payload of word 1.
-- Assumes nothing.
use native.Mathlib.Omega.{arith}
use mathlib.Core.Path.{refl}
use mathlib.Core.Logic.{inl, inr}
use Rattle.context.specs.Contexts.{limits_of}
use Rattle.reader.proofs.Whole.{some-table, wrong_table}
use Rattle.reader.proofs.file.read_procedures.Goals as goal

pub returns-then-count-le16 : goal.returns-then-count-le16
returns-then-count-le16 c =
    some-table (limits_of c.args.context) c.args.w.now c.requires.1 c.payload-count.ensures
    (omega arith) (omega arith) c.read_programs.ensures

pub returns : goal.returns
returns c =
    wrong_table (limits_of c.args.context) c.args.w.now c.requires.1 c.payload-count.ensures
    (λ a b. elim c.else-count-ge1.either [ inl h ↦ omega (arith, h.1) | inr h ↦ omega arith ]) refl
