-- What a run comes to by the language's definition and an order of refusals (document 01, "Runner"; document 02, requests [1] and [3]): it
-- ends, or stops at the first step that is refused.
-- Trusted. Assumes nothing.
--     DueIn           the step that is due in the main program of a file
--     RefusalOrder    the number, if any, that is said of a step after so many steps in a store
--     Unrefused       nothing is said of the steps before a count
--     Executes        `Executes said f s a n t`: from s, the main program of f comes to the answer a after n steps, in the store t
--     Reports         the runner reports this answer, this count and the values of this store
use Rattle.std.specs.Prelude.{◌≡◌, true, ℕ, ◌<◌}
use Rattle.std.proofs.Math.Option.{Option, none, some}
use Rattle.language.specs.Store.{Store}
use Rattle.language.specs.Runs.{Runs}
use Rattle.layout.specs.File.{File}
use Rattle.execution.specs.Lent.{HeldBy}
use Rattle.execution.specs.Ran.{Answer, done, refused, Ran, well_sized, body_place}
use Rattle.execution.specs.Due.{Step, Due}

-- the step that is due in the main program
abbrev pub DueIn : File → Store → ℕ → Step → ℕ → Store → Type 0
DueIn f s n d p t = Due (body_place f) f.main.command f.main.start s n d p t

-- the runner's is `refusal budget`, that before request [1] `strict_refusal budget`
abbrev pub RefusalOrder : Type 0
RefusalOrder = ℕ → Step → Store → Option ℕ

pub record Unrefused (said : RefusalOrder) (f : File) (s : Store) (n : ℕ) : Type 0 where
  pub unrefused : {k : ℕ} {d : Step} {p : ℕ} {t : Store} → DueIn f s k d p t → k < n → said k d t ≡ none

-- at a refusal the store is as before the step that was due
pub data Executes (said : RefusalOrder) (f : File) (s : Store) : Answer → ℕ → Store → Type 0 where
  ends : {n : ℕ} {t : Store} → Unrefused said f s n → Runs f.main.command n s t → Executes said f s done n t
  stops : {n k p : ℕ} {d : Step} {t : Store} → Unrefused said f s n → DueIn f s n d p t → said n d t ≡ some k →
      Executes said f s (refused k p) n t

pub record Reports (r : Ran) (a : Answer) (n : ℕ) (t : Store) : Type 0 where
  pub answer : r.answer ≡ a
  pub steps : r.steps ≡ n
  pub held : HeldBy r.store t
  pub sized : well_sized r.store ≡ true
