-- What running the command at a place asks for, and what it promises.
-- Working: `reports-done` and `reports-refused` of runner/proofs/Programs tie it to the definition's `run_file`. Assumes nothing.
--     CanRunAt    a command stands at a place, and its first word is known
--     RunsAs      the end and the store then are those of the definition, of the command that stands there
use Rattle.std.specs.Prelude.{◌≡◌, List, ℕ}
use Rattle.language.specs.Syntax as syntax
use Rattle.execution.specs.Lent.{Lent}
use Rattle.execution.specs.Run.{End, run}
use Rattle.words.specs.declared.CommandWord.{CommandWord}
use Rattle.heads.specs.Stands.{command_at, Runnable, CommandStands}

pub record CanRunAt (w ends : List ℕ) (at : ℕ) (h : CommandWord) : Type 0 where
  pub command : CommandStands w ends at
  pub head : command_at w at ≡ h

-- from m with n steps left, to the end e
pub record RunsAs (w ends : List ℕ) (at : ℕ) (m : Lent) (n : ℕ) (e : End) : Type 0 where
  pub is : (c : syntax.Command) (p : ℕ) (x : Runnable w ends c at p) → e ≡ run x.body_at c at n m
