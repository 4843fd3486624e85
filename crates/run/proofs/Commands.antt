-- What comes of the parts of a command is what the definition says of the command that stands there.
-- Assumes nothing.
--     becomes, passed                                               an end that is another; a refusal that `?` hands on
--     skip_runs, assert-runs, scalar-runs, array_runs, while-runs   simple commands, and a while by its turns
--     for-ended, for-stopped, sequence-ended, sequence-stopped      the others
--     then_runs, else_runs, if_stopped, call-ended, call-stopped
--     turns-passed, body-stopped, pass_runs                         the turns of a loop, and the body of one
--     while-tests, for-tests, incremented                           the parts of a turn
--     chosen, passed-over                                           by a test
use mathlib.Core.Path.{◌≡◌, sym, ap, ◌∙◌}
use mathlib.Core.Bool.{Bool, true, false, cond}
use mathlib.Core.List.{List}
use Prim.Native.Nat.{ℕ, ◌+◌, ◌*◌}
use lib.IntN.{ℤ, pos, ◌+ℤ◌}
use lib.Signed.{le_z}
use lib.ListN.{length, get_or, set}
use lib.Seq.{paste}
use mir.Syntax.{w64}
use mir.Val.{SFits, to_z, of_z}
use Rattle.std.specs.Prelude.{Result, Ok, Err, IsErrAnd}
use Rattle.language.specs.Syntax as syntax
use Rattle.language.specs.Runs.{start, increment}
use Rattle.rules.specs.Words.{words, command_words}
use Rattle.layout.specs.EvidenceWords.{expression_part}
use Rattle.execution.specs.Lent.{Lent, lent, store_of, elements}
use Rattle.execution.specs.Evaluate.{Evaluation, worked, on_worked, evaluate}
use Rattle.execution.specs.Run as definition
use Rattle.execution.specs.Run.{ended, stopped, on_ended, step, assigns, turns, run}
use Rattle.words.specs.declared.CommandWord.TheVariants.{Skip, Sequence, Assert, AssignScalar, AssignArray, If, While}
use Rattle.words.specs.declared.CommandWord.TheVariants.{For, Call}
use Rattle.run.specs.declared.Halt.{Halt}
use Rattle.run.specs.declared.Progress.{Progress}
use Rattle.heads.specs.Stands.{command_at, start_place, resolved_part}
use Rattle.heads.proofs.Parts.{runnable, command-parts}
use Rattle.arithmetic.specs.Worked.{outcome, checked}
use Rattle.arithmetic.specs.declared.Stop.{Stop}
use Rattle.arithmetic.proofs.Signed.{back}
use Rattle.evaluate.specs.Evaluated.{filled, Evaluates, Fills}
use Rattle.evaluate.proofs.Places.{end_is}
use Rattle.evaluate.proofs.Results.{after_both}
use Rattle.run.specs.Steps.{halt_number, end_of, after_step, Stepped}
use Rattle.run.specs.Places.{RunsAs}
use Rattle.run.specs.Turns.{loop_word, loop_test, loop_body, body_place}
use Rattle.run.specs.Turns.{TestsLoop, EndsPass, TurnsAs, PassAs}
use Rattle.run.specs.declared.Loop.{Loop}
use Rattle.run.specs.declared.Loop.TheVariants.{Test, Count}
use Rattle.run.proofs.Steps.{refused, ended_as, given-step, step-worked, filled-step}
use Rattle.run.proofs.Bodies.{command-end_is, part_end, placed}

-- ---- by a test
pub chosen : {A : Type 0} {v : Bool} (x y : A) → v ≡ true → x ≡ cond v x y
chosen x y e = ap (λ v. cond v x y) (sym e)

pub passed-over : {A : Type 0} {v : Bool} (x y : A) → v ≡ false → y ≡ cond v x y
passed-over x y e = ap (λ v. cond v x y) (sym e)

-- ---- ends
module _ {w ends : List ℕ} {at : ℕ} {m : Lent} {n : ℕ} where
  pub becomes : {e d : definition.End} → e ≡ d → RunsAs w ends at m n d → RunsAs w ends at m n e
  becomes q f = record { is = λ c p x. q ∙ f.is c p x }

  -- what `?` hands on
  pub passed : {A : Type 0} (r : Result A Halt) (e : Halt) {l : Progress} {m' : Lent} → IsErrAnd r (λ d. d ≡ e) →
      RunsAs w ends at m n (stopped (halt_number e) l.place l.left m') → RunsAs w ends at m n (end_of r l m')
  passed r e {l} {m'} h f = becomes (refused r e l m' h) f

  pub turns-passed : {A : Type 0} (r : Result A Halt) (e : Halt) {l : Progress} {m' : Lent} → IsErrAnd r (λ d. d ≡ e) →
      TurnsAs w ends at m n (stopped (halt_number e) l.place l.left m') → TurnsAs w ends at m n (end_of r l m')
  turns-passed r e {l} {m'} h f = record { is = λ c p x. refused r e l m' h ∙ f.is c p x }

started : {at n : ℕ} {l : Progress} (ss vs : List ℤ) (q : ℕ) {s : Result ℤ Halt} → Stepped at n (worked (pos 1)) s l →
    after_step s l (lent ss vs) (λ z k. ended k (lent (set ss q z) vs)) ≡ assigns (start q) at n (lent ss vs)
unfolding evaluate
started {at} {n} ss vs q g =
    g.is (lent ss vs) (λ z k. ended k (lent (set ss q z) vs))
    ∙ given-step at n (lent ss vs) (worked (pos 1)) (λ z. lent (set ss q z) vs)

module _ {w ends : List ℕ} {at n : ℕ} {l : Progress} where
  pub skip_runs : {A : Type 0} (a : A) {m : Lent} {r : Result A Halt} → command_at w at ≡ Skip → Stepped at n (worked a) r l →
      RunsAs w ends at m n (end_of r l m)
  unfolding run
  skip_runs a {m} {r} h g = record {
    is = λ c p x.
        ended_as r l m ∙ g.is m (λ a l. ended l m) ∙ given-step at n m (worked a) (λ a. m)
        ∙ sym (ap (λ y. run x.body_at y at n m) (command-parts c x h));
  }

  module _ {ss vs : List ℤ} where
    pub assert-runs : {o : Evaluation Bool} {r : Result Bool Halt} → command_at w at ≡ Assert →
        Evaluates syntax.Boolean w ends ss vs (at + 1) o → Stepped at n o r l →
        RunsAs w ends at (lent ss vs) n
        (after_step r l (lent ss vs) λ v k. cond v (ended k (lent ss vs)) (stopped 12 at n (lent ss vs)))
    unfolding run
    assert-runs h f g = record {
      is = λ c p x.
          let y = command-parts c x h in
          let m = lent ss vs in
          let go : Bool → ℕ → definition.End = λ v k. cond v (ended k m) (stopped 12 at n m) in
          g.is m go ∙ ap (λ o. step at n m o go) (f.is y.first p y.first-at)
          ∙ sym (ap (λ y. run x.body_at y at n m) y.is);
    }

    pub scalar-runs : {x : ℕ} {o : Evaluation ℤ} {r : Result ℤ Halt} → command_at w at ≡ AssignScalar x →
        Evaluates syntax.Arithmetic w ends ss vs (at + 1) o → Stepped at n o r l →
        RunsAs w ends at (lent ss vs) n (after_step r l (lent ss vs) λ v k. ended k (lent (set ss x v) vs))
    unfolding run
    scalar-runs {x} h f g = record {
      is = λ c p i.
          let t = (command-parts c i h).0 in
          let m = lent ss vs in
          let to : ℤ → Lent = λ z. lent (set ss x z) vs in
          g.is m (λ z k. ended k (to z))
          ∙ ap (λ o. step at n m o λ z k. ended k (to z)) (f.is t.first p t.first-at)
          ∙ given-step at n m (evaluate t.first (store_of m)) to
          ∙ sym (ap (λ y. run i.body_at y at n m) t.is);
    }

    pub array_runs : {A : Type 0} {a : ℕ} (q : Result A Stop) (s : List ℤ) {r : Result A Halt} →
        command_at w at ≡ AssignArray a → Fills w ends ss vs (at + 1) (filled q s) → Stepped at n (outcome q) r l →
        RunsAs w ends at (lent ss vs) n (after_step r l (lent ss vs) λ v k. ended k (lent ss (paste vs (64 * a) s 64)))
    unfolding run
    array_runs {a = a} q s h f g = record {
      is = λ c p i.
          let t = (command-parts c i h).0 in
          let m = lent ss vs in
          let o = evaluate t.first (store_of m) in
          let to : List ℤ → Lent = λ z. lent ss (paste vs (64 * a) z 64) in
          g.is m (λ z k. ended k (to s))
          ∙ filled-step at n m q s (λ z k. ended k (to z))
          ∙ ap (λ o. step at n m o λ z k. ended k (to z)) (f.is t.first p t.first-at)
          ∙ given-step at n m (on_worked o λ f. worked (elements f)) to
          ∙ ap (λ y. step at n m y λ m l. ended l m)
          (after_both o (λ f. worked (elements f)) (λ l. worked (to l)))
          ∙ sym (ap (λ y. run i.body_at y at n m) t.is);
    }

  -- the start of a `for`
  module _ {ss vs : List ℤ} {q r : ℕ} (h : command_at w at ≡ For q r) where
    pub for-ended : {e : definition.End} {v : ℤ} → SFits w64 v → Stepped at n (worked (pos 1)) (Ok v) l →
        TurnsAs w ends at (lent (set ss q (to_z w64 (of_z w64 v))) vs) l.left e → RunsAs w ends at (lent ss vs) n e
    unfolding run
    for-ended {v = v} k g f = record {
      is = λ c p x.
          let t = (command-parts c x h).0 in
          let go : ℕ → Lent → definition.End = λ l m. turns l (loop_test (syntax.for q r t.first))
          (loop_body x.body_at (syntax.for q r t.first) at) at l m in
          f.is c p x
          ∙ ap (λ y. turns l.left (loop_test y) (loop_body x.body_at y at) at l.left (lent (set ss q (to_z w64 (of_z w64 v))) vs)) t.is
          ∙ ap (λ z. go l.left (lent (set ss q z) vs)) (back k)
          ∙ ap (λ y. on_ended y go) (started ss vs q g)
          ∙ sym (ap (λ y. run x.body_at y at n (lent ss vs)) t.is);
    }

    pub for-stopped : {d : Halt} → Stepped at n (worked (pos 1)) (Err d) l →
        RunsAs w ends at (lent ss vs) n (stopped (halt_number d) l.place l.left (lent ss vs))
    unfolding run
    for-stopped g = record {
      is = λ c p x.
          let t = (command-parts c x h).0 in
          let go : ℕ → Lent → definition.End = λ l m. turns l (loop_test (syntax.for q r t.first))
          (loop_body x.body_at (syntax.for q r t.first) at) at l m in
          ap (λ y. on_ended y go) (started ss vs q g)
          ∙ sym (ap (λ y. run x.body_at y at n (lent ss vs)) t.is);
    }

module _ {w ends : List ℕ} {at n : ℕ} {m : Lent} where
  pub while-runs : {e : definition.End} → command_at w at ≡ While → TurnsAs w ends at m n e → RunsAs w ends at m n e
  unfolding run
  while-runs h f = record {
    is = λ c p x.
        let t = command-parts c x h in
        f.is c p x ∙ ap (λ y. turns n (loop_test y) (loop_body x.body_at y at) at n m) t.is
        ∙ sym (ap (λ y. run x.body_at y at n m) t.is);
  }

  module _ (h : command_at w at ≡ Sequence) where
    pub sequence-ended : {q l : ℕ} {m₁ : Lent} {e : definition.End} → RunsAs w ends (at + 1) m n (ended l m₁) →
        q ≡ get_or ends (at + 1) 0 → RunsAs w ends q m₁ l e → RunsAs w ends at m n e
    unfolding run
    sequence-ended {q} {l} {m₁} f j z = record {
      is = λ c p x.
          let t = command-parts c x h in
          let same : t.middle ≡ q = command-end_is x.context t.first t.first-at ∙ sym j in
          let k = part_end (resolved_part x.context t.first) t.first-at in
          let go = run x.body_at t.second (at + 1 + length (command_words t.first)) in
          z.is t.second p (runnable x t.second (placed same t.second_at))
          ∙ ap (λ y. run x.body_at t.second y l m₁) (sym same ∙ k)
          ∙ ap (λ y. on_ended y go) (f.is t.first t.middle (runnable x t.first t.first-at))
          ∙ sym (ap (λ y. run x.body_at y at n m) t.is);
    }

    pub sequence-stopped : {k p l : ℕ} {m₁ : Lent} → RunsAs w ends (at + 1) m n (stopped k p l m₁) →
        RunsAs w ends at m n (stopped k p l m₁)
    unfolding run
    sequence-stopped f = record {
      is = λ c p x.
          let t = command-parts c x h in
          let go = run x.body_at t.second (at + 1 + length (command_words t.first)) in
          ap (λ y. on_ended y go) (f.is t.first t.middle (runnable x t.first t.first-at))
          ∙ sym (ap (λ y. run x.body_at y at n m) t.is);
    }

  -- a call: one step, then the body of its procedure, which stands at q
  module _ {A : Type 0} {a : A} {k : ℕ} (h : command_at w at ≡ Call k) where
    pub call-ended : {q : ℕ} {l : Progress} {e : definition.End} → Stepped at n (worked a) (Ok a) l →
        q ≡ get_or ends (start_place w k) 0 → RunsAs w ends q m l.left e → RunsAs w ends at m n e
    unfolding run
    call-ended {q} {l} g j r = record {
      is = λ c p x.
          let t = command-parts c x h in
          let d = t.procedure.body in
          let b = x.bodies.known k t.procedure t.listed in
          let here : q ≡ x.body_at k = j ∙ b.start in
          r.is d b.past (runnable x d (placed (sym here) b.there))
          ∙ ap (λ y. run x.body_at d y l.left m) here
          ∙ g.is m (λ z l. run x.body_at d (x.body_at k) l m)
          ∙ step-worked at n m a m (λ m' l. run x.body_at d (x.body_at k) l m')
          ∙ sym (ap (λ y. run x.body_at y at n m) t.is);
    }

    pub call-stopped : {l : Progress} {d : Halt} → Stepped at n (worked a) (Err d) l →
        RunsAs w ends at m n (stopped (halt_number d) l.place l.left m)
    unfolding run
    call-stopped g = record {
      is = λ c p x.
          let t = command-parts c x h in
          let go : Lent → ℕ → definition.End = λ m' l. run x.body_at t.procedure.body (x.body_at k) l m' in
          g.is m (λ z l. go m l) ∙ step-worked at n m a m go
          ∙ sym (ap (λ y. run x.body_at y at n m) t.is);
    }

module _ {w ends : List ℕ} {at n : ℕ} {l : Progress} {ss vs : List ℤ} {o : Evaluation Bool} (h : command_at w at ≡ If)
    (f : Evaluates syntax.Boolean w ends ss vs (at + 1) o) where
  module _ {v : Bool} (g : Stepped at n o (Ok v) l) where
    pub then_runs : {q : ℕ} {e : definition.End} → v ≡ true → q ≡ get_or ends (at + 1) 0 →
        RunsAs w ends q (lent ss vs) l.left e → RunsAs w ends at (lent ss vs) n e
    unfolding run
    then_runs {q} e j r = record {
      is = λ d p x.
          let t = command-parts d x h in
          let m = lent ss vs in
          let same : t.middle ≡ q = end_is t.first t.first-at ∙ sym j in
          let k = part_end (expression_part t.first) t.first-at in
          let go : Bool → ℕ → definition.End = λ y l. elim y [
            | true ↦ run x.body_at t.second (at + 1 + length (words t.first)) l m
            | false ↦ run x.body_at t.third (at + 1 + length (words t.first) + length (command_words t.second)) l m
          ] in
          r.is t.second t.last (runnable x t.second (placed same t.second_at))
          ∙ ap (λ y. run x.body_at t.second y l.left m) (sym same ∙ k)
          ∙ ap (λ y. go y l.left) (sym e)
          ∙ g.is m go ∙ ap (λ o. step at n m o go) (f.is t.first t.middle t.first-at)
          ∙ sym (ap (λ y. run x.body_at y at n m) t.is);
    }

    pub else_runs : {q o : ℕ} {e : definition.End} → v ≡ false → q ≡ get_or ends (at + 1) 0 → o ≡ get_or ends q 0 →
        RunsAs w ends o (lent ss vs) l.left e → RunsAs w ends at (lent ss vs) n e
    unfolding run
    else_runs {q} {o} e j u r = record {
      is = λ d p x.
          let t = command-parts d x h in
          let m = lent ss vs in
          let same : t.middle ≡ q = end_is t.first t.first-at ∙ sym j in
          let last : t.last ≡ o =
          command-end_is x.context t.second t.second_at ∙ ap (λ z. get_or ends z 0) same ∙ sym u in
          let i = part_end (expression_part t.first) t.first-at in
          let k = part_end (resolved_part x.context t.second) t.second_at in
          let go : Bool → ℕ → definition.End = λ y l. elim y [
            | true ↦ run x.body_at t.second (at + 1 + length (words t.first)) l m
            | false ↦ run x.body_at t.third (at + 1 + length (words t.first) + length (command_words t.second)) l m
          ] in
          r.is t.third p (runnable x t.third (placed last t.third_at))
          ∙ ap (λ y. run x.body_at t.third y l.left m)
          (sym last ∙ k ∙ ap (λ y. y + length (command_words t.second)) i)
          ∙ ap (λ y. go y l.left) (sym e)
          ∙ g.is m go ∙ ap (λ o. step at n m o go) (f.is t.first t.middle t.first-at)
          ∙ sym (ap (λ y. run x.body_at y at n m) t.is);
    }

  pub if_stopped : {d : Halt} → Stepped at n o (Err d) l →
      RunsAs w ends at (lent ss vs) n (stopped (halt_number d) l.place l.left (lent ss vs))
  unfolding run
  if_stopped g = record {
    is = λ d p x.
        let t = command-parts d x h in
        let m = lent ss vs in
        let go : Bool → ℕ → definition.End = λ y l. elim y [
          | true ↦ run x.body_at t.second (at + 1 + length (words t.first)) l m
          | false ↦ run x.body_at t.third (at + 1 + length (words t.first) + length (command_words t.second)) l m
        ] in
        g.is m go ∙ ap (λ o. step at n m o go) (f.is t.first t.middle t.first-at)
        ∙ sym (ap (λ y. run x.body_at y at n m) t.is);
  }

-- the body of a loop, and what follows it
module _ {w ends : List ℕ} {at n : ℕ} {m : Lent} where
  pub pass_runs : (kind : Loop) → command_at w at ≡ loop_word kind → {q l : ℕ} {ss vs : List ℤ} →
      q ≡ body_place ends at kind → RunsAs w ends q m n (ended l (lent ss vs)) →
      {A : Type 0} {r : Result A Halt} {k : Progress} {after : List ℤ} → EndsPass ss at kind l r k after →
      PassAs w ends at m n (end_of r k (lent after vs))
  pass_runs Test h {q} {vs = vs} j f g = record {
    is = λ c p x.
        let t = command-parts c x h in
        let same : t.middle ≡ q = end_is t.first t.first-at ∙ sym j in
        let k = part_end (expression_part t.first) t.first-at in
        g.is vs ∙ f.is t.second p (runnable x t.second (placed same t.second_at))
        ∙ ap (λ y. run x.body_at t.second y n m) (sym same ∙ k)
        ∙ sym (ap (λ y. loop_body x.body_at y at n m) t.is);
  }
  pass_runs (Count z o) h {q} {vs = vs} j f g = record {
    is = λ c p x.
        let t = (command-parts c x h).0 in
        g.is vs
        ∙ ap (λ y. on_ended y (λ l k. assigns (increment z) at l k))
        (f.is t.first p (runnable x t.first (placed (sym j) t.first-at)) ∙ ap (λ y. run x.body_at t.first y n m) j)
        ∙ sym (ap (λ y. loop_body x.body_at y at n m) t.is);
  }

  pub body-stopped : (kind : Loop) → command_at w at ≡ loop_word kind → {q k p l : ℕ} {m' : Lent} →
      q ≡ body_place ends at kind → RunsAs w ends q m n (stopped k p l m') → PassAs w ends at m n (stopped k p l m')
  body-stopped Test h {q} j f = record {
    is = λ c p x.
        let t = command-parts c x h in
        let same : t.middle ≡ q = end_is t.first t.first-at ∙ sym j in
        let k = part_end (expression_part t.first) t.first-at in
        f.is t.second p (runnable x t.second (placed same t.second_at))
        ∙ ap (λ y. run x.body_at t.second y n m) (sym same ∙ k)
        ∙ sym (ap (λ y. loop_body x.body_at y at n m) t.is);
  }
  body-stopped (Count z o) h {q} j f = record {
    is = λ c p x.
        let t = (command-parts c x h).0 in
        ap (λ y. on_ended y (λ l k. assigns (increment z) at l k))
        (f.is t.first p (runnable x t.first (placed (sym j) t.first-at)) ∙ ap (λ y. run x.body_at t.first y n m) j)
        ∙ sym (ap (λ y. loop_body x.body_at y at n m) t.is);
  }

  pub pass-passed : {A : Type 0} (r : Result A Halt) (e : Halt) {l : Progress} {m' : Lent} → IsErrAnd r (λ d. d ≡ e) →
      PassAs w ends at m n (stopped (halt_number e) l.place l.left m') → PassAs w ends at m n (end_of r l m')
  pass-passed r e {l} {m'} h f = record { is = λ c p x. refused r e l m' h ∙ f.is c p x }

module _ {w ends : List ℕ} {at : ℕ} {ss vs : List ℤ} where
  pub while-tests : {o : Evaluation Bool} → command_at w at ≡ While →
      Evaluates syntax.Boolean w ends ss vs (at + 1) o → TestsLoop w ends at (lent ss vs) o
  while-tests h f = record {
    is = λ c p x.
        let t = command-parts c x h in
        f.is t.first t.middle t.first-at ∙ sym (ap (λ y. evaluate (loop_test y) (store_of (lent ss vs))) t.is);
  }

  pub for-tests : {q r : ℕ} {b : Bool} → command_at w at ≡ For q r → b ≡ le_z (get_or ss q (pos 0)) (get_or ss r (pos 0)) →
      TestsLoop w ends at (lent ss vs) (worked b)
  unfolding evaluate
  for-tests h e = record {
    is = λ c p x.
        let t = (command-parts c x h).0 in
        ap worked e ∙ sym (ap (λ y. evaluate (loop_test y) (store_of (lent ss vs))) t.is);
  }

-- the increment, by the step that it is
pub incremented : (ss : List ℤ) {at n : ℕ} {o : Evaluation ℤ} {s : Result ℤ Halt} {l : Progress} (vs : List ℤ) (q : ℕ) →
    o ≡ checked (get_or ss q (pos 0) +ℤ pos 1) → Stepped at n o s l →
    (after_step s l (lent ss vs) λ z k. ended k (lent (set ss q z) vs)) ≡ assigns (increment q) at n (lent ss vs)
unfolding evaluate checked
incremented ss {at} {n} vs q e g =
    let m = lent ss vs in
    let to : ℤ → Lent = λ z. lent (set ss q z) vs in
    g.is m (λ z k. ended k (to z))
    ∙ ap (λ o. step at n m o λ z k. ended k (to z)) e
    ∙ given-step at n m (checked (get_or ss q (pos 0) +ℤ pos 1)) to
