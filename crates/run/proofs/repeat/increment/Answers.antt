-- `run::repeat::increment` meets its contract. Assumes nothing.
use borrow.Author.Rules.{rules}
use mathlib.Core.Path.{ap, ◌∙◌}
use lib.IntN.{pos, ◌+ℤ◌}
use lib.ListN.{get_or, set}
use mir.Syntax.{w64}
use mir.Val.{SFits}
use Rattle.execution.specs.Lent.{lent}
use Rattle.execution.specs.Run.{ended}
use Rattle.arithmetic.specs.Worked.{checked}
use Rattle.arithmetic.proofs.Signed.{back}
use Rattle.run.proofs.Steps.{refused}
use Rattle.run.proofs.Commands.{incremented}
use Rattle.run.proofs.repeat.increment.Goals as goal

pub returns-in_err-next : goal.returns-in_err-next
returns-in_err-next c =
    let f : SFits w64 (get_or c.args.scalars.now c.args.q (pos 0)) = search rules in
    record {
      is = λ vs.
          refused _ c.in_err-next.field-0.0 _ _ c.from_residual.ensures.1
          ∙ incremented c.args.scalars.now vs c.args.q (c.sum.ensures ∙ ap (λ z. checked (z +ℤ pos 1)) (back f))
          c.in_err-next.ensures;
    }

pub returns : goal.returns
returns c =
    let f : SFits w64 (get_or c.args.scalars.now c.args.q (pos 0)) = search rules in
    let g : SFits w64 c.in_ok-next.next = search rules in
    record {
      is = λ vs.
          ap (λ z. ended c.take_step.new.progress.left (lent (set c.args.scalars.now c.args.q z) vs)) (back g)
          ∙ incremented c.args.scalars.now vs c.args.q (c.sum.ensures ∙ ap (λ z. checked (z +ℤ pos 1)) (back f))
          c.in_ok-next.ensures;
    }
