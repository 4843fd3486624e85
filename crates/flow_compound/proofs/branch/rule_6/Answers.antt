-- `flow_compound::branch::rule_6` meets its contract.
-- Assumes nothing.
use mathlib.Core.Path.{sym, ◌∙◌}
use native.Mathlib.Omega.{arith}
use Rattle.std.proofs.lemmas.Result.{err_from_is_err_and}
use Rattle.goals.proofs.Ensured.{is-equal, exits-unequal}
use Rattle.flow_compound.proofs.Goal.{command-head, after-head}
use Rattle.flow_compound.proofs.BranchRules.{not-if, not-one_after, can-branch, if_comes}
use Rattle.flow_compound.proofs.branch.rule_6.Goals as goal

pub offset_bounds-file-c : goal.offset_bounds-file-c
offset_bounds-file-c c = let i = command-head c.requires.can in omega arith

pub bounds-file-c : goal.bounds-file-c
bounds-file-c c = command-head c.requires.can

pub returns-in_err-ensure : goal.returns-in_err-ensure
returns-in_err-ensure c =
    exits-unequal (err_from_is_err_and _ c.from_residual.ensures.1) c.in_err-ensure.ensures (not-if c.requires)

pub count-requires : goal.count-requires
count-requires c = after-head c.requires.can

pub returns-in_err-ensure-2 : goal.returns-in_err-ensure-2
returns-in_err-ensure-2 c =
    exits-unequal (err_from_is_err_and _ c.from_residual-in_err-ensure-2.ensures.1) c.in_err-ensure-2.ensures
    (λ n. not-one_after c.requires (is-equal c.in_ok-ensure.ensures) (λ e. n (c.count.ensures ∙ e)))

pub same_branches-requires : goal.same_branches-requires
same_branches-requires c =
    rw (c.end_or_zero-f.ensures, c.end_or_zero-t.ensures)
    (can-branch c.requires (is-equal c.in_ok-ensure.ensures))

pub returns : goal.returns
returns c =
    rw c.ensure-3.ensures
    (if_comes c.requires (is-equal c.in_ok-ensure.ensures)
    (sym c.count.ensures ∙ is-equal c.in_ok-ensure-2.ensures)
    (rw (c.end_or_zero-f.ensures, c.end_or_zero-t.ensures) at c.same_branches.ensures))
