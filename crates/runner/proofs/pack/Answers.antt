-- `runner::pack` meets its contract: the steps and the place are small. Assumes nothing.
use native.Mathlib.Omega.{arith}
use Rattle.runner.proofs.Small.{packs-done, packs-refused, refused-near}
use Rattle.runner.proofs.pack.Goals as goal

pub overflow_add-result : goal.overflow_add-result
overflow_add-result c =
    let h = refused-near c.requires.near c.in-Err.is in
    let f = c.requires.few in
    omega arith

pub overflow_add-result-in-Err : goal.overflow_add-result-in-Err
overflow_add-result-in-Err c =
    let h = refused-near c.requires.near c.in-Err.is in
    let f = c.requires.few in
    omega arith

pub returns-in-Ok : goal.returns-in-Ok
returns-in-Ok c = λ m. packs-done c.args.ran.steps c.in-Ok.is

pub returns-in-Err : goal.returns-in-Err
returns-in-Err c =
    λ m.
    packs-refused c.args.ran.steps c.in-Err.is
