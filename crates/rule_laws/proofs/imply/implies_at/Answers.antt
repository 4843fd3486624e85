-- `rule_laws::imply::implies_at` meets its contract.
-- Assumes nothing.
use Rattle.context.proofs.Limits.{most-comparisons}
use Rattle.rule_laws.proofs.Implying.{assertion-known, can-imply, implies-at}
use Rattle.rule_laws.proofs.imply.implies_at.Goals as goal

pub end_at-p-requires : goal.end_at-p-requires
end_at-p-requires c = let p = c.requires in (assertion-known p.ends_of p.left).listed

pub end_at-q-requires : goal.end_at-q-requires
end_at-q-requires c = let p = c.requires in (assertion-known p.ends_of p.right).listed

pub implies-requires : goal.implies-requires
implies-requires c = can-imply (most-comparisons c.args.file.now.context c.args.file.now.words.now) c.end_at-p.ensures c.end_at-q.ensures c.requires

pub returns : goal.returns
returns c =
    implies-at (most-comparisons c.args.file.now.context c.args.file.now.words.now) c.end_at-p.ensures
    c.end_at-q.ensures c.implies.ensures
