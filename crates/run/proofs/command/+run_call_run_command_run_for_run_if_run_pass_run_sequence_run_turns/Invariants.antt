-- The cycle of calls in which commands are run meets its contracts: what comes of a command is what comes of its
-- parts, and a loop goes on as long as one turn after the other is due. The measure is made of the steps left, which never
-- grow and of which a call takes one, and then the words left from the command on, five times, so that the functions for
-- parts of a command come between it and its own parts; a loop's is the steps left.
-- Assumes nothing.
use Prim.Native.Nat.{ℕ, ◌+◌, ◌*◌, ◌-◌}
use Rattle.execution.specs.Lent.{lent}
use Rattle.run.proofs.Turns.{LoopGoing}
use Rattle.run.proofs.command.+run_call_run_command_run_for_run_if_run_pass_run_sequence_run_turns.Given as goal

-- of n steps left, and a place below 8,192: a step is more than all words
abbrev pub left : ℕ → ℕ → ℕ
left n at = 40965 * n + 5 * (8192 - at)

abbrev pub decreases-run_call : goal.decreases-run_call
decreases-run_call l = left l.progress.now.left l.at + 1

abbrev pub decreases-run_command : goal.decreases-run_command
decreases-run_command l = left l.progress.now.left l.at + 5

abbrev pub decreases-run_for : goal.decreases-run_for
decreases-run_for l = left l.progress.now.left l.at + 4

abbrev pub decreases-run_if : goal.decreases-run_if
decreases-run_if l = left l.progress.now.left l.at + 1

abbrev pub decreases-run_pass : goal.decreases-run_pass
decreases-run_pass l = left l.progress.now.left l.at + 1

abbrev pub decreases-run_sequence : goal.decreases-run_sequence
decreases-run_sequence l = left l.progress.now.left l.at + 1

abbrev pub decreases-run_turns : goal.decreases-run_turns
decreases-run_turns l = left l.progress.now.left l.at + 3

abbrev pub invariant-run_turns-loop-scalars : goal.invariant-run_turns-loop-scalars
invariant-run_turns-loop-scalars l = LoopGoing l.w l.ends l.at (lent l.initial.scalars l.initial.values) l.initial.progress.left (lent l.scalars l.values) l.progress.left

abbrev pub decreases-run_turns-loop-scalars : goal.decreases-run_turns-loop-scalars
decreases-run_turns-loop-scalars l = l.progress.left
