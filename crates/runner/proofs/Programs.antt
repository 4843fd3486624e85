-- Refusals 10 and 11, and the run of a file's command.
-- Assumes nothing.
--     over-budget, ill_scalars, ill_values    10 and 11
--     left-within                             the steps left are within the budget
--     reports-done, reports-refused           what a run came to
use mathlib.Core.Path.{◌≡◌, refl, sym, ap, ap₂, subst, ◌∙◌}
use mathlib.Core.Bool.{Bool, true, false}
use mathlib.Core.List.{List}
use Prim.Native.Nat.{ℕ, ◌-◌, ◌<◌, ◌≤◌}
use borrow.Author.Tests.{lt-ltb, le-ltb, eq-eqb, ne_eqb}
use lib.ListN.{length}
use Rattle.std.specs.Prelude.{Result, Ok, Err}
use Rattle.layout.specs.File.{File}
use Rattle.execution.specs.Lent.{Lent}
use Rattle.execution.specs.Run.{stopped, run}
use Rattle.execution.specs.Ran.{not_run, ran_of, well_sized, body_place, run_file}
use Rattle.context.specs.Contexts.{refusal}
use Rattle.heads.specs.Stands.{Runnable}
use Rattle.run.specs.declared.Halt.{Halt}
use Rattle.run.specs.declared.Progress.{Progress}
use Rattle.run.specs.Steps.{halt_number, end_of}
use Rattle.run.specs.Places.{RunsAs}
use Rattle.run.proofs.Bounds.{Bounded, command-bounded}
use Rattle.runner.specs.Running.{ran_at, refused_at, RanFile, CanRunCopied}
use Rattle.runner.specs.declared.Ran.{Ran}

-- by a test's result
taken : {A : Type 0} {t : Bool} (a b : A) → t ≡ true → elim t [ true ↦ a | false ↦ b ] ≡ a
taken {t = t} a b e = subst (λ t. elim t [ true ↦ a | false ↦ b ] ≡ a) (sym e) refl

passed : {A : Type 0} {t : Bool} (a b : A) → t ≡ false → elim t [ true ↦ a | false ↦ b ] ≡ b
passed {t = t} a b e = subst (λ t. elim t [ true ↦ a | false ↦ b ] ≡ b) (sym e) refl

module _ (f : File) (budget : ℕ) (m : Lent) where
  over-is : 1000000 < budget → run_file f budget m ≡ not_run 10 0 m
  unfolding run_file
  over-is l = taken _ _ (lt-ltb 1000000 budget l)

  ill_is : budget ≤ 1000000 → well_sized m ≡ false → run_file f budget m ≡ not_run 11 0 m
  unfolding run_file
  ill_is l h = passed _ _ (le-ltb 1000000 budget l) ∙ passed _ _ h

  run_is : budget ≤ 1000000 → well_sized m ≡ true →
      run_file f budget m ≡ ran_of budget (run (body_place f) f.main.command f.main.start budget m)
  unfolding run_file
  run_is l h = passed _ _ (le-ltb 1000000 budget l) ∙ taken _ _ h

no-scalars : (m : Lent) → (length m.scalars ≡ 32 → ⊥) → well_sized m ≡ false
no-scalars m h = rw (ne_eqb (length m.scalars) 32 h)

no-values : (m : Lent) → length m.scalars ≡ 32 → (length m.values ≡ 2048 → ⊥) → well_sized m ≡ false
no-values m k h = rw (eq-eqb (length m.scalars) 32 k) (rw (ne_eqb (length m.values) 2048 h))

both-sized : (m : Lent) → length m.scalars ≡ 32 → length m.values ≡ 2048 → well_sized m ≡ true
both-sized m k h = rw (eq-eqb (length m.scalars) 32 k) (rw (eq-eqb (length m.values) 2048 h))

module _ {w ends : List ℕ} {start : ℕ} (budget : ℕ) (m : Lent) {r : Ran} where
  pub over-budget : 1000000 < budget → r ≡ refused_at 10 0 → RanFile w ends start budget m r m
  over-budget l e = record { is = λ f p x i j. ap (λ r. ran_at r m) e ∙ sym (over-is f budget m l) }

  pub ill_scalars : budget ≤ 1000000 → (length m.scalars ≡ 32 → ⊥) → r ≡ refused_at 11 0 → RanFile w ends start budget m r m
  ill_scalars l h e = record { is = λ f p x i j. ap (λ r. ran_at r m) e ∙ sym (ill_is f budget m l (no-scalars m h)) }

  pub ill_values : budget ≤ 1000000 → length m.scalars ≡ 32 → (length m.values ≡ 2048 → ⊥) → r ≡ refused_at 11 0 →
      RanFile w ends start budget m r m
  ill_values l k h e = record { is = λ f p x i j. ap (λ r. ran_at r m) e ∙ sym (ill_is f budget m l (no-values m k h)) }

-- ---- a run, by its end
left-bounded : {A : Type 0} (r : Result A Halt) (b n : ℕ) (s : Progress) (m : Lent) → Bounded b n (end_of r s m) → s.left ≤ n
left-bounded (Ok a) b n s m h = h
left-bounded (Err x) b n s m h = h.0

-- the run from the copies m₁ of the store to m₂, which are put back as m₃
module _ {w ends : List ℕ} {start : ℕ} {m m₁ : Lent} {budget : ℕ} (c : CanRunCopied w ends start m budget) (to : m₁ ≡ m)
    {A : Type 0} (r : Result A Halt) (s : Progress) (m₂ : Lent) (f : RunsAs w ends start m₁ budget (end_of r s m₂)) where
  pub left-within : s.left ≤ budget
  left-within =
      let d = c.command in
      left-bounded r 8192 budget s m₂
      (subst (Bounded 8192 budget) (sym (f.is d.tree d.past d.there)) (command-bounded d.tree d.there budget m₁))

  ran : (y : File) (p : ℕ) (x : Runnable w ends y.main.command start p) → x.body_at ≡ body_place y → y.main.start ≡ start →
      ran_of budget (end_of r s m₂) ≡ run_file y budget m
  ran y p x e h =
      ap (ran_of budget) (f.is y.main.command p x ∙ ap (run x.body_at y.main.command start budget) to)
      ∙ ap₂ (λ i at. ran_of budget (run i y.main.command at budget m)) e (sym h)
      ∙ sym (run_is y budget m c.few (both-sized m c.scalars-sized c.values-sized))

  module _ {m₃ : Lent} (back : m₃ ≡ m₂) where
    pub reports-done : {a : A} → r ≡ Ok a → RanFile w ends start budget m (record { answer = Ok tt; steps = budget - s.left }) m₃
    reports-done e = record {
      is = λ y p x i h.
          ap (ran_at (record { answer = Ok tt; steps = budget - s.left })) back
          ∙ ap (λ r. ran_of budget (end_of r s m₂)) (sym e) ∙ ran y p x i h;
    }

    pub reports-refused : {d : Halt} {k : ℕ} → r ≡ Err d → k ≡ halt_number d →
        RanFile w ends start budget m (record { answer = Err (refusal k s.place); steps = budget - s.left }) m₃
    reports-refused {k = k} e q = record {
      is = λ y p x i h.
          ap (ran_at (record { answer = Err (refusal k s.place); steps = budget - s.left })) back
          ∙ ap (λ k. ran_of budget (stopped k s.place s.left m₂)) q
          ∙ ap (λ r. ran_of budget (end_of r s m₂)) (sym e) ∙ ran y p x i h;
    }
