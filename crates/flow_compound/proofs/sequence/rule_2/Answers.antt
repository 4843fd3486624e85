-- `flow_compound::sequence::rule_2` meets its contract.
-- Assumes nothing.
use native.Mathlib.Omega.{arith}
use Rattle.goals.proofs.Ensured.{by-test}
use Rattle.flow_compound.proofs.Goal.{command-head}
use Rattle.flow_compound.proofs.SequenceRules.{not-sequence, sequence-comes}
use Rattle.flow_compound.proofs.sequence.rule_2.Goals as goal

pub offset_bounds-file-c : goal.offset_bounds-file-c
offset_bounds-file-c c = let i = command-head c.requires.can in omega arith

pub bounds-file-c : goal.bounds-file-c
bounds-file-c c = command-head c.requires.can

pub returns : goal.returns
returns c = by-test c.ensure.ensures (not-sequence c.requires) (sequence-comes c.requires)
