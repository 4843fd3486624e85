-- `set_rules::empty::each_implies_false` meets its contract. The invariant: what the members that are left come to, all come to.
-- Assumes nothing.
use Rattle.std.proofs.Common.{sym, subst}
use Rattle.std.proofs.lemmas.Result.{err_from_is_err_and}
use Rattle.sets.specs.Members.{StartsAt}
use Rattle.sets.proofs.Steps.{start-passes, start-places}
use Rattle.set_rules.proofs.EmptySets.{Remains, remains_start, members_at, can-try_first, remains_stop, remains_exit, remains_on, remains_end}
use Rattle.set_rules.proofs.empty.each_implies_false.Goals as goal

pub loop-i-init : goal.loop-i-init
loop-i-init c =
    let p = c.requires in
    let s = subst (StartsAt _ _ _) (sym c.into_iter-i-iterator.ensures.into_iter_gives) c.new-i-items.ensures in
    (start-passes s (members_at p) p.ends_of, tt, subst (Remains _ _ _ _ _) (sym (start-places s)) (remains_start p))

pub implies_false-requires : goal.implies_false-requires
implies_false-requires c =
    can-try_first (subst (Remains _ _ _ _ _) c.in-Some.ensures.steps c.loop-i.invariant.2) c.requires

pub returns-in_err-implies_false : goal.returns-in_err-implies_false
returns-in_err-implies_false c =
    remains_exit (err_from_is_err_and _ c.from_residual.ensures.1)
    (remains_stop (subst (Remains _ _ _ _ _) c.in-Some.ensures.steps c.loop-i.invariant.2) c.in_err-implies_false.ensures)

pub loop-i-preserved : goal.loop-i-preserved
loop-i-preserved c = (
  c.in-Some.ensures.goes.keeps,
  tt,
  remains_on (subst (Remains _ _ _ _ _) c.in-Some.ensures.steps c.loop-i.invariant.2) c.in_ok-implies_false.ensures,
)

pub returns : goal.returns
returns c = remains_end (subst (Remains _ _ _ _ _) c.in-None.ensures.steps.0 c.loop-i.invariant.2)
