-- Request [1] of document 02 against the order before it: where both sides of and and or have a value, the runner's result is what it was.
-- Trusted. Assumes nothing.
--     AsBefore    the claim
use Rattle.std.specs.Prelude.{ℕ, ◌≤◌, List}
use Rattle.language.specs.Store.{Store}
use Rattle.rules.specs.Context.{Limits}
use Rattle.layout.specs.File.{File}
use Rattle.execution.specs.Lent.{Lent, HeldBy}
use Rattle.execution.specs.Ran.{Answer, run_of}
use Rattle.execution.specs.Executes.{Executes, Reports}
use Rattle.execution.specs.Strict.{strict_refusal, Valued, KeptAnswer}
use Rattle.claims.specs.Runner.{Starts}

pub record AsBefore (limits : Limits) (bytes : List ℕ) (budget : ℕ) (m : Lent) : Type 0 where
  -- where both sides have a value at every step, the order before came to what the runner reports
  pub same-result : (f : File) → Starts limits bytes budget m f → (s : Store) → HeldBy m s →
      Valued f s budget (run_of limits bytes budget m).steps →
      (a : Answer) × (n : ℕ) × (t : Store)
      × Executes (strict_refusal budget) f s a n t × Reports (run_of limits bytes budget m) a n t
  -- an end, 12 and 13 of the order before are reported still; 14 and 15 where both sides have a value
  pub still-reported : (f : File) → Starts limits bytes budget m f → (s : Store) → HeldBy m s → (a : Answer) (n : ℕ) (t : Store) →
      Executes (strict_refusal budget) f s a n t → KeptAnswer f s budget a n →
      Reports (run_of limits bytes budget m) a n t
  -- no run stops after fewer steps than before
  pub no-fewer_steps : (f : File) → Starts limits bytes budget m f → (s : Store) → HeldBy m s → (a : Answer) (n : ℕ)
      (t : Store) → Executes (strict_refusal budget) f s a n t → n ≤ (run_of limits bytes budget m).steps
