-- Walks by the word that is due: what the layout's readers give at a place, by the decoded word that stands there.
-- Assumes nothing.
--     due-ends, due-deep, due-there    the three cases of the word that is due
--     room                             where a word is due, it is inside the file and a level is left
--     onto, alone                      a part after another, as a reader and as a walk; a part alone
--     first-part, after-part, refused-part
--                                      as the code has them: a part alone, after what was read, after a refusal
--     exit, on, off                    the exit of a `?`; going on from what was read, and from a refusal
--     level-walk, due-walk             walks of `no_level` and `word_due`
--     GoesBy                           a walk goes by the word that is due
--     arithmetic-goes, boolean-goes, array-goes, command-goes, set-goes, evidence-goes
--                                      so do those of the readers
--     stop, arm, none-arm              as the code has them: a refusal, a word that is allowed, a word that is not
use mathlib.Core.Path.{◌≡◌, refl, sym, ◌∙◌, ap}
use mathlib.Core.Bool.{Bool, true, false, cond}
use mathlib.Core.List.{List, [], ◌∷◌}
use mathlib.Core.Option.{Option, none, some}
use Prim.Native.Nat.{ℕ, zero, suc, ◌+◌, ◌-◌, ◌<◌, ◌≤◌}
use native.Mathlib.Omega.{arith}
use native.Mathlib.Numerals.{sub-one}
use borrow.Author.Tests.{ltb-true, lt-ltb, le-ltb}
use lib.Dec.{eqb, ltb}
use Rattle.std.specs.Prelude.{Result, Ok, Err}
use Rattle.std.specs.Result.{IsErrAnd}
use Rattle.language.specs.Syntax.{Arithmetic, Boolean, Array, Expr, Command}
use Rattle.rules.specs.Assertion.{Members}
use Rattle.rules.specs.Context as context
use Rattle.rules.specs.Context.{Context, standard}
use Rattle.rules.specs.Evidence.{Judgement, Row, rules, by, Evidence}
use Rattle.layout.specs.Bytes.{word_count, kind_at, payload_at}
use Rattle.layout.specs.Reading.{Reading, read, fault, Reader, on_read, pure, ◌⊛◌, several, no_level, allowed}
use Rattle.layout.specs.Reading.{word_due, allow, up_to, on_option}
use Rattle.layout.specs.Read.{expression, command, member_at, set}
use Rattle.layout.specs.ReadEvidence.{evidence_kind, rule_of, parts_reader, evidence}
use Rattle.words.specs.Decode.{arithmetic_of, boolean_of, array_of, command_of}
use Rattle.words.specs.Meaning.{arithmetic_meaning, boolean_meaning, array_meaning, command_meaning}
use Rattle.words.specs.Rows.{rule_due}
use Rattle.words.proofs.Tables.{arithmetic-of, boolean-of, array-of, command-of}
use Rattle.context.specs.Contexts.{refusal}
use Rattle.context.specs.declared.Refusal.{Refusal}
use Rattle.reader.specs.Walk.{Walk, walk_of, onward, command_walk, due_of, after}
use Rattle.reader.specs.declared.FirstWord.{FirstWord}

-- ---- the word that is due
module _ (file : List ℕ) where
  pub due-ends : (d at : ℕ) → word_count file ≤ at → due_of file d at ≡ Err (refusal 3 (word_count file))
  unfolding due_of
  due-ends zero at h = simp (le-ltb at (word_count file) h)
  due-ends (suc d) at h = simp (le-ltb at (word_count file) h)

  pub due-deep : (d at : ℕ) → at < word_count file → d ≡ 0 → due_of file d at ≡ Err (refusal 4 at)
  unfolding due_of
  due-deep d at h e = rw e (simp (lt-ltb at (word_count file) h))

  pub due-there : (d at : ℕ) → at < word_count file → (d ≡ 0 → ⊥) →
      due_of file d at ≡ Ok (record { kind = kind_at file at; payload = payload_at file at; next = at + 1; below = d - 1 })
  unfolding due_of
  due-there zero at h f = absurd (f refl)
  due-there (suc d) at h f = simp (lt-ltb at (word_count file) h, sub-one)

  -- where a word is due, it is inside the file and a level is left
  pub room : (d at : ℕ) {f : FirstWord} → Ok f ≡ due_of file d at →
      (at < word_count file) × (f.next ≡ at + 1) × (d ≡ suc f.below)
  unfolding due_of
  room zero at {f} e = go (ltb at (word_count file)) e
    where
      go : (t : Bool) → Ok f ≡ cond t (Err (refusal 4 at)) (Err (refusal 3 (word_count file))) →
          (at < word_count file) × (f.next ≡ at + 1) × (0 ≡ suc f.below)
      go true e = let z : ◌≡◌ {A = ℕ} 0 1 = cc in absurd (omega arith)
      go false e = let z : ◌≡◌ {A = ℕ} 0 1 = cc in absurd (omega arith)
  room (suc d) at {f} e = go (ltb at (word_count file)) refl e
    where
      go : (t : Bool) → ltb at (word_count file) ≡ t →
          Ok f ≡ cond t (Ok (record { kind = kind_at file at; payload = payload_at file at; next = at + 1; below = d }))
          (Err (refusal 3 (word_count file))) →
          (at < word_count file) × (f.next ≡ at + 1) × (suc d ≡ suc f.below)
      go true t e = (ltb-true _ _ t, (cc), (cc))
      go false t e = let z : ◌≡◌ {A = ℕ} 0 1 = cc in absurd (omega arith)

-- ---- parts one after the other
then-walk : {A B : Type 0} (x : Reading (A → B)) (y : Reader A) →
    walk_of (on_read x λ f p. on_read (y p) λ a q. read (f a) q) ≡ onward (walk_of x) (λ p. walk_of (y p))
then-walk {A} (read f p) y = go (y p)
  where
    go : (z : Reading A) → walk_of (on_read z λ a q. read (f a) q) ≡ walk_of z
    go (read a q) = refl
    go (fault n q) = refl
then-walk (fault n p) y = refl

pub onto : {A B : Type 0} (x : Reader (A → B)) (y : Reader A) (q : ℕ) {r s : Walk} →
    r ≡ onward s (λ p. walk_of (y p)) → s ≡ walk_of (x q) → r ≡ walk_of ((x ⊛ y) q)
unfolding ◌⊛◌
onto x y q e h = e ∙ ap (λ (z : Walk). onward z (λ p. walk_of (y p))) h ∙ sym (then-walk (x q) y)

pub alone : {A B : Type 0} (f : A → B) (y : Reader A) (q : ℕ) → walk_of (y q) ≡ walk_of ((pure f ⊛ y) q)
alone f y q = onto (pure f) y q {s = Ok q} refl refl

-- as the code has them: a part alone; a part after what was read up to p; a part behind one that was refused
module _ {A B : Type 0} where
  pub first-part : (f : A → B) (y : Reader A) (q : ℕ) {r : Walk} → r ≡ walk_of (y q) → r ≡ walk_of ((pure f ⊛ y) q)
  first-part f y q e = e ∙ alone f y q

  pub after-part : (x : Reader (A → B)) (y : Reader A) (q : ℕ) {p : ℕ} {r : Walk} → Ok p ≡ walk_of (x q) → r ≡ walk_of (y p) →
      r ≡ walk_of ((x ⊛ y) q)
  after-part x y q {p} e h = onto x y q {s = Ok p} h e

  pub refused-part : (x : Reader (A → B)) (y : Reader A) (q : ℕ) {r : Refusal} → Err r ≡ walk_of (x q) →
      Err r ≡ walk_of ((x ⊛ y) q)
  refused-part x y q {r} e = onto x y q {s = Err r} refl e

-- what the exit of a `?` returns
pub exit : {B : Type 0} {x : Refusal} {r w : Result B Refusal} → IsErrAnd r (λ y. y ≡ x) → Err x ≡ w → r ≡ w
exit {r = Ok b} h e = absurd h
exit {r = Err y} h e = ap Err h ∙ e

-- going on from what was read, and from a refusal
pub on : {A B : Type 0} {p : A} {r : Result A Refusal} {x : Result B Refusal} (k : A → Result B Refusal) → Ok p ≡ r → x ≡ k p →
    x ≡ onward r k
on k e h = h ∙ ap (λ z. onward z k) e

pub off : {A B : Type 0} {x : Refusal} {r : Result A Refusal} (k : A → Result B Refusal) → Err x ≡ r → Err x ≡ onward r k
off k e = ap (λ z. onward z k) e

-- ---- by the word that is due
allowed-after : {A : Type 0} (o : Option (Reader A)) (at : ℕ) → allowed o at ≡ after o at (at + 1)
allowed-after none at = refl
allowed-after (some r) at = refl

pub level-walk : (A : Type 0) (file : List ℕ) (at : ℕ) (f : FirstWord → Walk) →
    walk_of (no_level {A = A} file at) ≡ onward (due_of file zero at) f
unfolding due_of
level-walk A file at f = go (ltb at (word_count file))
  where
    go : (t : Bool) →
        walk_of {A = A} (cond t (fault 4 at) (fault 3 (word_count file)))
        ≡ onward (cond t (Err (refusal 4 at)) (Err (refusal 3 (word_count file)))) f
    go true = refl
    go false = refl

pub due-walk :
    {A W : Type 0} (file : List ℕ) (d at : ℕ) (step : ℕ → ℕ → ℕ → Option (Reader A)) (of : ℕ → ℕ → W)
    (meaning : ℕ → W → Option (Reader A)) →
    step at (kind_at file at) (payload_at file at) ≡ meaning d (of (kind_at file at) (payload_at file at)) →
    walk_of (word_due file step at)
    ≡ onward (due_of file (suc d) at) (λ f. walk_of (after (meaning f.below (of f.kind f.payload)) at f.next))
unfolding word_due due_of
due-walk {A} {W} file d at step of meaning e = go (ltb at (word_count file))
  where
    go : (t : Bool) →
        walk_of {A = A} (elim t [
          | true ↦ allowed (step at (kind_at file at) (payload_at file at)) at
          | false ↦ fault 3 (word_count file)
        ])
        ≡ onward (cond t
        (Ok (record { kind = kind_at file at; payload = payload_at file at; next = at + 1; below = d }))
        (Err (refusal 3 (word_count file))))
        (λ (f : FirstWord). walk_of (after (meaning f.below (of f.kind f.payload)) at f.next))
    go true =
        ap walk_of (allowed-after (step at (kind_at file at) (payload_at file at)) at)
        ∙ ap (λ (o : Option (Reader A)). walk_of (after o at (at + 1))) e
    go false = refl

-- `walk` goes by the word that is due: what it decodes to gives the parts that follow it
pub record GoesBy
    {A W : Type 0} (walk : Walk) (file : List ℕ) (d at : ℕ) (of : ℕ → ℕ → W) (meaning : ℕ → W → Option (Reader A))
    : Type 0 where
  pub goes : walk ≡ onward (due_of file d at) (λ f. walk_of (after (meaning f.below (of f.kind f.payload)) at f.next))

module _ (file : List ℕ) where
  pub arithmetic-goes : (d at : ℕ) →
      GoesBy (walk_of (expression file d Arithmetic at)) file d at arithmetic_of (λ b w. arithmetic_meaning (expression file b) w)
  unfolding expression
  arithmetic-goes zero at = record { goes = level-walk (Expr Arithmetic) file at _ }
  arithmetic-goes (suc d) at = record {
    goes =
        due-walk file d at _ arithmetic_of (λ b w. arithmetic_meaning (expression file b) w)
        (arithmetic-of (expression file d) (kind_at file at) (payload_at file at));
  }

  pub boolean-goes : (d at : ℕ) →
      GoesBy (walk_of (expression file d Boolean at)) file d at boolean_of (λ b w. boolean_meaning (expression file b) w)
  unfolding expression
  boolean-goes zero at = record { goes = level-walk (Expr Boolean) file at _ }
  boolean-goes (suc d) at = record {
    goes =
        due-walk file d at _ boolean_of (λ b w. boolean_meaning (expression file b) w)
        (boolean-of (expression file d) (kind_at file at) (payload_at file at));
  }

  pub array-goes : (d at : ℕ) →
      GoesBy (walk_of (expression file d Array at)) file d at array_of (λ b w. array_meaning (expression file b) w)
  unfolding expression
  array-goes zero at = record { goes = level-walk (Expr Array) file at _ }
  array-goes (suc d) at = record {
    goes =
        due-walk file d at _ array_of (λ b w. array_meaning (expression file b) w)
        (array-of (expression file d) (kind_at file at) (payload_at file at));
  }

  pub command-goes : (d at : ℕ) →
      GoesBy (command_walk file d at) file d at command_of
      (λ b w. command_meaning (context.alone standard) (expression file b) (command (context.alone standard) file b) w)
  unfolding command
  command-goes zero at = record { goes = level-walk Command file at _ }
  command-goes (suc d) at = record {
    goes =
        due-walk file d at _ command_of
        (λ b w. command_meaning (context.alone standard) (expression file b) (command (context.alone standard) file b) w)
        (command-of (expression file d) (kind_at file at) (payload_at file at) (context.alone standard)
        (command (context.alone standard) file d));
  }

  module _ (Γ : Context) where
    -- kind 32, its payload the count
    abbrev set_reader : ℕ → ℕ × ℕ → Option (Reader Members)
    set_reader b x = allow x.0 ((32, up_to Γ.limits.members x.1 (several x.1 (member_at file b))) ∷ [])

    pub set-goes : (d at : ℕ) → GoesBy {W = ℕ × ℕ} (walk_of (set Γ file d at)) file d at (λ k p. (k, p)) set_reader
    unfolding set
    set-goes zero at = record { goes = level-walk Members file at _ }
    set-goes (suc d) at = record { goes = due-walk {W = ℕ × ℕ} file d at _ (λ k p. (k, p)) set_reader refl }

    -- the rule's parts stand after the word
    abbrev pub rule_reader : (j : Judgement) → ℕ → ℕ → Row j → Reader (Evidence j)
    rule_reader j at b r = pure (by r.rule at) ⊛ parts_reader Γ file b (evidence Γ file b) r.after

    pub evidence-goes : (d : ℕ) (j : Judgement) (at : ℕ) →
        GoesBy (walk_of (evidence Γ file d j at)) file d at (rule_due j) (λ b o. on_option o (rule_reader j at b))
    unfolding evidence
    evidence-goes zero j at = record { goes = level-walk (Evidence j) file at _ }
    evidence-goes (suc d) j at = record {
      goes = due-walk file d at _ (rule_due j) (λ b o. on_option o (rule_reader j at b)) (go (eqb (kind_at file at) (evidence_kind j)));
    }
      where
        go : (t : Bool) →
            cond t (on_option (rule_of (payload_at file at) (rules j)) (rule_reader j at d)) none
            ≡ on_option (cond t (rule_of (payload_at file at) (rules j)) none) (rule_reader j at d)
        go true = refl
        go false = refl

-- ---- as the code has them: f is the word that is due, v what it decodes to
module _
    {A W : Type 0} {walk : Walk} {file : List ℕ} {d at : ℕ} {of : ℕ → ℕ → W} {meaning : ℕ → W → Option (Reader A)}
    (law : GoesBy walk file d at of meaning)
  where
    pub stop : {x : Refusal} → Err x ≡ due_of file d at → Err x ≡ walk
    stop e = off (λ f. walk_of (after (meaning f.below (of f.kind f.payload)) at f.next)) e ∙ sym law.goes

    module _ {f : FirstWord} (due : Ok f ≡ due_of file d at) where
      pub arm : {v u : W} {x : Walk} → v ≡ of f.kind f.payload → v ≡ u → x ≡ walk_of (after (meaning f.below u) at f.next) → x ≡ walk
      arm word g h =
          on (λ f. walk_of (after (meaning f.below (of f.kind f.payload)) at f.next)) due
          (h ∙ ap (λ (y : W). walk_of (after (meaning f.below y) at f.next)) (sym g ∙ word))
          ∙ sym law.goes

      pub none-arm : {v : W} → v ≡ of f.kind f.payload → meaning f.below v ≡ none → Err (refusal 5 at) ≡ walk
      none-arm word g = arm word refl (ap (λ (o : Option (Reader A)). walk_of (after o at f.next)) (sym g))
