-- `compare::start::is_true` meets its contract: each word is and or true.
-- Assumes nothing.
use Rattle.compare.proofs.PlainForms.{boolean-known}
use Rattle.compare.proofs.Starts.{true-test}
use Rattle.compare.proofs.start.is_true.Goals as goal

pub end_at-to-requires : goal.end_at-to-requires
end_at-to-requires c = let p = c.requires in (boolean-known p.ends_of p.whole).listed

pub returns : goal.returns
returns c =
    let p = c.requires in
    true-test p.ends_of p.whole c.other_of-other.ensures c.end_at-to.ensures
