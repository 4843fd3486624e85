-- `runner::program::run_bytes` meets its contract: refusals 1 to 7 and 16, then the run of the words that were read.
-- Assumes nothing.
use native.Mathlib.Omega.{arith}
use Rattle.execution.specs.Lent.{lent}
use Rattle.words.proofs.Lengths.{good_length}
use Rattle.runner.proofs.Files.{refused-file_by, can-run_file, ran-file}
use borrow.Author.Rules.{rules}
use Rattle.runner.proofs.program.run_bytes.Goals as goal

pub read_file-layout-requires : goal.read_file-layout-requires
read_file-layout-requires c =
    record {
      fits = λ g. omega (arith, good_length c.args.file.now g);
      wide = search rules;
    }

pub run_program-requires : goal.run_program-requires
run_program-requires c =
    can-run_file c.read_file-layout.ensures
    c.in-Ok.is

pub returns-in-Ok : goal.returns-in-Ok
returns-in-Ok c =
    ran-file c.read_file-layout.ensures c.in-Ok.is
    c.run_program.ensures

pub returns-in-Err : goal.returns-in-Err
returns-in-Err c =
    refused-file_by c.read_file-layout.ensures c.args.budget (lent
    c.args.scalars.now c.args.values.now) c.in-Err.is c.refused.ensures
