-- `reader::file::read_parts` meets its contract, by the kind of word 1.
-- Assumes nothing.
use native.Mathlib.Omega.{arith}
use mathlib.Core.Path.{sym, ◌∙◌}
use Rattle.context.specs.Contexts.{limits_of}
use Rattle.reader.proofs.Whole.{word-inside, no_table}
use Rattle.reader.proofs.file.read_parts.Goals as goal

pub read_procedures-requires : goal.read_procedures-requires
read_procedures-requires c =
    let k = sym c.kind_at-kind.ensures ∙ c.if-kind-eq-PROCEDURES.true in
    let h = word-inside c.args.w.now 1 _ k in
    (record { inside = omega arith; few = omega arith; room = omega arith }, k)

pub returns-else-kind-eq-PROCEDURES : goal.returns-else-kind-eq-PROCEDURES
returns-else-kind-eq-PROCEDURES c =
    let a = c.args in
    no_table (limits_of a.context) a.w.now c.kind_at-kind.ensures c.if-kind-eq-PROCEDURES.false
    c.read_programs.ensures
