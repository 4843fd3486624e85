-- A while, and a `for` from its test on: turns, one after the other.
-- Working: `turns-again`, `turns-over` and `turns-stopped` of proofs/Turns tie one turn to the definition's `turns`. Assumes nothing.
--     loop_word, loop_test, loop_body    the word, the test and the body of a loop
--     body_place, CountsIn             the body's place; the scalars of a `for` exist
--     after_body                       what follows the body
--     TestsLoop, Increments, EndsPass  what the parts of a turn promise
--     TurnsAs, PassAs                  what all turns and the body of one promise, of the loop that stands at a place
use Rattle.std.specs.Prelude.{◌≡◌, Bool, false, List, ℕ, ◌+◌, ◌<◌, ℤ, length, get_or, Result}
use Rattle.language.specs.Syntax as syntax
use Rattle.language.specs.Syntax.{Expr, scalar, compare, truth, at_most}
use Rattle.language.specs.Syntax.{skip, sequence, assert, assign, if_else, while, for, call}
use Rattle.language.specs.Runs.{increment}
use Rattle.rules.specs.Words.{words}
use Rattle.execution.specs.Lent.{Lent, lent, store_of}
use Rattle.execution.specs.Evaluate.{Evaluation, evaluate}
use Rattle.execution.specs.Run as definition
use Rattle.execution.specs.Run.{ended, on_ended, assigns, turns, run}
use Rattle.words.specs.declared.CommandWord.{CommandWord}
use Rattle.words.specs.declared.CommandWord.TheVariants.{While, For}
use Rattle.heads.specs.Stands.{Runnable}
use Rattle.run.specs.Steps.{end_of}
use Rattle.run.specs.declared.Halt.{Halt}
use Rattle.run.specs.declared.Progress.{Progress}
use Rattle.run.specs.declared.Loop.{Loop}
use Rattle.run.specs.declared.Loop.TheVariants.{Test, Count}

abbrev pub loop_word : Loop → CommandWord
loop_word Test = While
loop_word (Count q m) = For q m

-- of a command that is no loop: none
abbrev pub loop_test : syntax.Command → Expr syntax.Boolean
loop_test skip = truth false
loop_test (sequence c d) = truth false
loop_test (assert b) = truth false
loop_test (assign a) = truth false
loop_test (if_else b c d) = truth false
loop_test (while b c) = b
loop_test (for q r c) = compare at_most (scalar q) (scalar r)
loop_test (call n c) = truth false

abbrev pub loop_body : (ℕ → ℕ) → syntax.Command → ℕ → ℕ → Lent → definition.End
loop_body body_at skip at n m = ended n m
loop_body body_at (sequence c d) at n m = ended n m
loop_body body_at (assert b) at n m = ended n m
loop_body body_at (assign a) at n m = ended n m
loop_body body_at (if_else b c d) at n m = ended n m
loop_body body_at (while b c) at n m = run body_at c (at + 1 + length (words b)) n m
loop_body body_at (for q r c) at n m = on_ended (run body_at c (at + 1) n m) (assigns (increment q) at)
loop_body body_at (call p c) at n m = ended n m

abbrev pub body_place : List ℕ → ℕ → Loop → ℕ
body_place ends at Test = get_or ends (at + 1) 0
body_place ends at (Count q m) = at + 1

abbrev pub CountsIn : Loop → Type 0
CountsIn Test = Unit {0}
CountsIn (Count q m) = q < 32

-- what follows the body
abbrev pub after_body : Loop → ℕ → ℕ → Lent → definition.End
after_body Test at n m = ended n m
after_body (Count q r) at n m = assigns (increment q) at n m

pub record TestsLoop (w ends : List ℕ) (at : ℕ) (m : Lent) (o : Evaluation Bool) : Type 0 where
  pub is : (c : syntax.Command) (p : ℕ) (x : Runnable w ends c at p) → o ≡ evaluate (loop_test c) (store_of m)

pub record Increments {A : Type 0} (ss : List ℤ) (q at n : ℕ) (r : Result A Halt) (s : Progress) (after : List ℤ) : Type 0 where
  pub is : (vs : List ℤ) → end_of r s (lent after vs) ≡ assigns (increment q) at n (lent ss vs)

pub record EndsPass {A : Type 0} (ss : List ℤ) (at : ℕ) (kind : Loop) (n : ℕ) (r : Result A Halt) (s : Progress) (after : List ℤ) : Type 0 where
  pub is : (vs : List ℤ) → end_of r s (lent after vs) ≡ after_body kind at n (lent ss vs)

module _ (w ends : List ℕ) (at : ℕ) (m : Lent) (n : ℕ) (e : definition.End) where
  pub record TurnsAs : Type 0 where
    pub is : (c : syntax.Command) (p : ℕ) (x : Runnable w ends c at p) →
        e ≡ turns n (loop_test c) (loop_body x.body_at c at) at n m

  pub record PassAs : Type 0 where
    pub is : (c : syntax.Command) (p : ℕ) (x : Runnable w ends c at p) → e ≡ loop_body x.body_at c at n m
