-- The answer's steps and place are small, so that one number holds them.
-- Assumes nothing.
--     small-ran               the answer
--     can-pack, packed-run    the code's answer; the number for C
use mathlib.Core.Path.{◌≡◌, refl, sym, ap, ap₂, subst, ◌∙◌}
use mathlib.Core.Bool.{Bool, true, false}
use mathlib.Core.List.{List}
use Prim.Native.Nat.{ℕ, ◌+◌, ◌*◌, ◌≤◌}
use native.Mathlib.Omega.{arith}
use Rattle.std.specs.Prelude.{Result, Ok, Err}
use Rattle.rules.specs.Context.{Limits}
use Rattle.layout.specs.Bytes.{words_of}
use Rattle.layout.specs.Reading.{read}
use Rattle.layout.specs.File.{File, bad_length, bytes_read, file_of}
use Rattle.layout.proofs.Settings.{settings_read}
use Rattle.execution.specs.Lent.{Lent}
use Rattle.execution.specs.Run.{End, ended, stopped, run}
use Rattle.execution.specs.Ran as definition
use Rattle.execution.specs.Ran.{ran_of, body_place, run_of}
use Rattle.execution.proofs.Order.{StepJudged, not-read, over-budget, ill_sized, is-run, judged}
use Rattle.context.specs.declared.Refusal.{Refusal}
use Rattle.run.proofs.Bounds.{Bounded, calls-within, run-bounded}
use Rattle.runner.specs.Ran.{answer_meant, RunOf}
use Rattle.runner.specs.Packed.{code_of, packed_ran, PackedRun}
use Rattle.runner.specs.Running.{ran_at, SmallAnswer, SmallRan, CanPack}
use Rattle.runner.specs.declared.Ran.{Ran}
use Rattle.words.proofs.Lengths.{bad-file, good-file}
use Rattle.file.proofs.Faults.{FaultBy, few_words, file-fault}
use Rattle.runner.proofs.Procedures.{body-within, whole, main_body, body_of}
use Rattle.runner.proofs.Files.{never}

module _ (limits : Limits) (bytes : List ℕ) where
  -- the programs of a file that was read stand within 8,192 words
  run_small : (f : File) (p : ℕ) → file_of limits bytes ≡ read f p → (budget : ℕ) (m : Lent) →
      Bounded 8192 budget (run (body_place f) f.main.command f.main.start budget m)
  run_small f p e budget m = go (bad_length bytes) refl
    where
      was_read : bytes_read limits bytes ≡ read f p
      was_read = (settings_read limits bytes f p e).was_read

      go : (t : Bool) → bad_length bytes ≡ t →
          Bounded 8192 budget (run (body_place f) f.main.command f.main.start budget m)
      go true t = let h = sym (bad-file limits bytes t) ∙ was_read in never (cc)
      go false t =
          let h = sym (good-file limits bytes t) ∙ was_read in
          let l = few_words bytes t in
          let Γ = whole limits f in
          let x = main_body limits (words_of bytes) f p h in
          let i = (body-within (words_of bytes) Γ f.main.command f.main.start x).1 in
          run-bounded 8192 (body_place f) f.main.command f.main.start budget m (omega (arith, i, l))
          (calls-within Γ.procedures 8192 (body_place f) (λ n k j.
          let o = (body-within (words_of bytes) Γ k.body (body_place f n) (body_of limits (words_of bytes) f p h n k j)).1 in
          omega (arith, l, o)) f.main.command x.stands.fit.1)

ran-small : (budget : ℕ) (e : End) → budget ≤ 1000000 → Bounded 8192 budget e → SmallRan (ran_of budget e)
ran-small budget (ended n m) l h = record { few = omega arith; near = tt }
ran-small budget (stopped k p n m) l h = record { few = omega arith; near = omega (arith, h.1) }

pub small-ran : (limits : Limits) (bytes : List ℕ) (budget : ℕ) (m : Lent) → SmallRan (run_of limits bytes budget m)
small-ran limits bytes budget m = go (judged limits bytes budget m)
  where
    go : {r : definition.Ran} → StepJudged limits bytes budget m r → SmallRan r
    go (not-read e) = record { few = omega arith; near = (subst (FaultBy 8192) e (file-fault limits bytes)).1 }
    go (over-budget e l) = record { few = omega arith; near = omega arith }
    go (ill_sized e l h) = record { few = omega arith; near = omega arith }
    go (is-run {f} {p} e l h) =
        ran-small budget (run (body_place f) f.main.command f.main.start budget m) l (run_small limits bytes f p e budget m)

module _ {limits : Limits} {bytes : List ℕ} {budget : ℕ} {m m' : Lent} {r : Ran} (f : RunOf limits bytes budget m r m') where
  pub can-pack : CanPack r
  can-pack =
      let x = small-ran limits bytes budget m in
      record {
        few = subst (λ n. n ≤ 1000000) (sym f.steps) x.few;
        near = subst SmallAnswer (sym f.answer) x.near;
      }

  pub packed-run : {n : ℕ} → ((m : Lent) → n ≡ packed_ran (ran_at r m)) → PackedRun limits bytes budget m n m'
  packed-run h = record {
    answer = h m' ∙ ap₂ (λ k a. k * 4294967296 + code_of a) f.steps f.answer;
    scalars-left = f.scalars-left;
    values-left = f.values-left;
  }

-- the code's number
packs : {A : Type 0} (s : ℕ) {a b : Result A Refusal} → a ≡ b →
    s * 4294967296 + code_of (answer_meant b) ≡ s * 4294967296 + code_of (answer_meant a)
packs s e = ap (λ a. s * 4294967296 + code_of (answer_meant a)) (sym e)

pub packs-done : {A : Type 0} (s : ℕ) {a : Result A Refusal} {x : A} → a ≡ Ok x →
    s * 4294967296 ≡ s * 4294967296 + code_of (answer_meant a)
packs-done s e = more (s * 4294967296) ∙ packs s e
  where
    more : (n : ℕ) → n ≡ n + 0
    more n = omega arith

pub packs-refused : {A : Type 0} (s : ℕ) {a : Result A Refusal} {x : Refusal} → a ≡ Err x →
    s * 4294967296 + (x.number * 65536 + x.place) ≡ s * 4294967296 + code_of (answer_meant a)
packs-refused s e = packs s e

pub refused-near : {A : Type 0} {a : Result A Refusal} {x : Refusal} → SmallAnswer (answer_meant a) → a ≡ Err x → x.place ≤ 8192
refused-near h e = subst (λ a. SmallAnswer (answer_meant a)) e h
