-- `outcomes::programs::judge_programs` meets its contract: the verdict is that of the count so far and of the programs that are left.
-- Assumes nothing.
use mathlib.Core.Path.{◌≡◌, subst}
use native.Mathlib.Omega.{arith}
use Rattle.std.proofs.lemmas.Result.{err_from_is_err_and}
use Rattle.outcomes.proofs.FilePrograms.{ProgramsGoing, going_start, going_step, going_refused, can-procedure, can-main}
use Rattle.outcomes.proofs.FilePrograms.{count_fits, main-fits, main-accepted, main-refused}
use Rattle.outcomes.proofs.programs.judge_programs.Goals as goal

pub loop-i-init : goal.loop-i-init
loop-i-init c = (c.procedure_count-procedures.ensures, omega arith, λ h. going_start _ h)

pub judge_at-requires : goal.judge_at-requires
judge_at-requires c =
    let pre = c.requires in
    can-procedure _ pre (c.loop-i.invariant.2 pre) (omega (arith, c.loop-i.invariant.0, c.loop-i-test.true))

pub returns-in_err-judged : goal.returns-in_err-judged
returns-in_err-judged c =
    let pre = c.requires in
    going_refused _ pre (c.loop-i.invariant.2 pre) (omega (arith, c.loop-i.invariant.0, c.loop-i-test.true))
    c.in_err-judged.ensures (err_from_is_err_and _ c.from_residual.ensures.1)

pub overflow_add-count : goal.overflow_add-count
overflow_add-count c =
    let pre = c.requires in
    let n = count_fits _ pre (c.loop-i.invariant.2 pre) (omega (arith, c.loop-i.invariant.0, c.loop-i-test.true))
    c.in_ok-judged.ensures in
    record { fits = omega (arith, n) }

pub loop-i-preserved : goal.loop-i-preserved
loop-i-preserved c = (
  c.loop-i.invariant.0,
  omega (arith, c.loop-i-test.true),
  λ h. going_step _ h (c.loop-i.invariant.2 h) (omega (arith, c.loop-i.invariant.0, c.loop-i-test.true)) c.in_ok-judged.ensures,
)

pub judge_at-requires-2 : goal.judge_at-requires-2
judge_at-requires-2 c =
    let pre = c.requires in
    let last : c.loop-i.i ≡ c.procedure_count-procedures.result = omega (arith, c.loop-i.invariant.1, c.loop-i-test.false) in
    let going = subst (λ k. ProgramsGoing c.args.file.now.context pre k c.loop-i.count) last (c.loop-i.invariant.2 pre) in
    can-main _ pre going (omega (arith, c.loop-i.invariant.0))

pub returns-in_err-main : goal.returns-in_err-main
returns-in_err-main c =
    let pre = c.requires in
    let last : c.loop-i.i ≡ c.procedure_count-procedures.result = omega (arith, c.loop-i.invariant.1, c.loop-i-test.false) in
    let going = subst (λ k. ProgramsGoing c.args.file.now.context pre k c.loop-i.count) last (c.loop-i.invariant.2 pre) in
    main-refused _ pre going (omega (arith, c.loop-i.invariant.0)) c.in_err-main.ensures
    (err_from_is_err_and _ c.from_residual-in_err-main.ensures.1)

pub overflow_add-result : goal.overflow_add-result
overflow_add-result c =
    let pre = c.requires in
    let last : c.loop-i.i ≡ c.procedure_count-procedures.result = omega (arith, c.loop-i.invariant.1, c.loop-i-test.false) in
    let going = subst (λ k. ProgramsGoing c.args.file.now.context pre k c.loop-i.count) last (c.loop-i.invariant.2 pre) in
    let n = main-fits _ pre going (omega (arith, c.loop-i.invariant.0)) c.in_ok-main.ensures in
    record { fits = omega (arith, n) }

pub returns : goal.returns
returns c =
    let pre = c.requires in
    let last : c.loop-i.i ≡ c.procedure_count-procedures.result = omega (arith, c.loop-i.invariant.1, c.loop-i-test.false) in
    let going = subst (λ k. ProgramsGoing c.args.file.now.context pre k c.loop-i.count) last (c.loop-i.invariant.2 pre) in
    main-accepted _ pre going (omega (arith, c.loop-i.invariant.0)) c.in_ok-main.ensures
