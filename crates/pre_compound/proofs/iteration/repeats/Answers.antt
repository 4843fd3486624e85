-- `pre_compound::iteration::repeats` meets its contract: the second condition is tried where the first passes.
-- Assumes nothing.
use Rattle.std.proofs.lemmas.Result.{err_from_is_err_and}
use Rattle.rule_laws.proofs.Implying.{assertion-known}
use Rattle.pre_compound.proofs.Implications.{can-first, can-second, repeats_first, repeats_both}
use Rattle.pre_compound.proofs.iteration.repeats.Goals as goal

pub end_at-p-requires : goal.end_at-p-requires
end_at-p-requires c = let p = c.requires in (assertion-known p.ends_of p.first).listed

pub end_at-q-requires : goal.end_at-q-requires
end_at-q-requires c = let p = c.requires in (assertion-known p.ends_of p.test).listed

pub end_at-to-requires : goal.end_at-to-requires
end_at-to-requires c = let p = c.requires in (assertion-known p.ends_of p.whole).listed

pub implies-first-requires : goal.implies-first-requires
implies-first-requires c = can-first c.end_at-p.ensures c.end_at-q.ensures c.end_at-to.ensures c.requires

pub returns-in_err-first : goal.returns-in_err-first
returns-in_err-first c =
    repeats_first c.end_at-p.ensures c.end_at-q.ensures c.end_at-to.ensures
    c.implies-first.ensures c.in_err-first.was (err_from_is_err_and _ c.from_residual.ensures.1)

pub end_at-past-requires : goal.end_at-past-requires
end_at-past-requires c = let p = c.requires in (assertion-known p.ends_of p.second).listed

pub implies-requires : goal.implies-requires
implies-requires c =
    can-second c.end_at-p.ensures c.end_at-q.ensures c.end_at-to.ensures
    c.implies-first.ensures c.end_at-past.ensures c.requires

pub returns : goal.returns
returns c =
    repeats_both c.end_at-p.ensures c.end_at-q.ensures c.end_at-to.ensures
    c.implies-first.ensures c.end_at-past.ensures c.in_ok-first.was c.implies.ensures
