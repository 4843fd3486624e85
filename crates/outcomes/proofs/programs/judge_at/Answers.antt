-- `outcomes::programs::judge_at` meets its contract: the list of ends has the places of a program's parts, one from the other.
-- Assumes nothing.
use Rattle.outcomes.proofs.ProgramGoal.{start-listed, pre-listed, post-listed, can-judge, judged-at}
use Rattle.outcomes.proofs.programs.judge_at.Goals as goal

pub end_at-pre-requires : goal.end_at-pre-requires
end_at-pre-requires c = start-listed c.requires c.end_at-at.ensures

pub end_at-post-requires : goal.end_at-post-requires
end_at-post-requires c = pre-listed c.requires c.end_at-at.ensures c.end_at-pre.ensures

pub end_at-evidence-requires : goal.end_at-evidence-requires
end_at-evidence-requires c = post-listed c.requires c.end_at-at.ensures c.end_at-pre.ensures c.end_at-post.ensures

pub judge-requires : goal.judge-requires
judge-requires c =
    can-judge c.requires c.end_at-at.ensures c.end_at-pre.ensures c.end_at-post.ensures c.end_at-evidence.ensures

pub returns : goal.returns
returns c =
    judged-at c.requires c.end_at-at.ensures c.end_at-pre.ensures c.end_at-post.ensures
    c.end_at-evidence.ensures c.judge.ensures
