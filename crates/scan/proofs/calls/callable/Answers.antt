-- `scan::calls::callable` meets its contract: what is left to count from the procedure at hand gives what is asked from the first.
-- Assumes nothing.
use mathlib.Core.Path.{◌≡◌, sym, ◌∙◌}
use native.Mathlib.Omega.{arith}
use Rattle.scan.specs.Programs.{procedure_count}
use Rattle.scan.proofs.ProcedureMasks.{count_most}
use Rattle.scan.proofs.WrongCalls.{callable-stop, callable-here, callable-next}
use Rattle.scan.proofs.calls.callable.Goals as goal

pub start_at-requires : goal.start_at-requires
start_at-requires c = omega (arith, c.requires.room, c.loop-i-test.true, c.procedure_count-count.ensures, count_most c.args.w.now)

pub returns-then-at-start_at : goal.returns-then-at-start_at
returns-then-at-start_at c =
    sym (callable-here _ (procedure_count c.args.w.now) _ _ (omega (arith, c.procedure_count-count.ensures))
    (omega (arith, c.if-at-start_at.true, c.start_at.ensures)))
    ∙ c.loop-i.invariant

pub loop-i-preserved : goal.loop-i-preserved
loop-i-preserved c =
    sym (callable-next _ (procedure_count c.args.w.now) _ _ (omega (arith, c.procedure_count-count.ensures))
    (omega (arith, c.if-at-start_at.false, c.start_at.ensures)))
    ∙ c.loop-i.invariant

pub returns : goal.returns
returns c =
    let last : c.procedure_count-count.result ≡ c.loop-i.i = omega arith in
    last ∙ sym (callable-stop _ (procedure_count c.args.w.now) _ _ (omega (arith, c.procedure_count-count.ensures)))
    ∙ c.loop-i.invariant
