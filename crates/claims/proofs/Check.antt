-- Demands 2 and 3 of the check, from the laws of the judge and of the rules.
-- Assumes nothing.
--     demand_2    accepted exactly when the file reads and its evidence is a derivation
--     demand_3    every accepted file is secure: each program under the procedures before it, whose contracts hold
use mathlib.Core.Path.{◌≡◌, refl, sym, subst}
use mathlib.Core.List.{List, [], ◌∷◌}
use mathlib.Core.Logic.{inl, inr}
use Prim.Native.Nat.{ℕ}
use native.Mathlib.Omega.{arith}
use Rattle.rules.specs.Assertion.{Secure}
use Rattle.rules.specs.Context.{Limits, Context, alone, item_at}
use Rattle.rules.specs.Sets.{SamePlain}
use Rattle.rules.specs.Judge.{Verdict, accepted, refused}
use Rattle.rules.proofs.Judged.{Accepts, also_is, also_accepts, flow-judged}
use Rattle.rules.proofs.Stores.{Valid}
use Rattle.rules.proofs.Sound.{flow-secure}
use Rattle.layout.specs.Bytes.{words_of}
use Rattle.layout.specs.Reading.{Reading, read, fault}
use Rattle.layout.specs.Program.{Program, procedure_of, after}
use Rattle.layout.specs.File.{File, file_of}
use Rattle.layout.specs.Counted.{count_evidence}
use Rattle.layout.specs.Verdict.{judge_programs, judged, verdict_of}
use Rattle.layout.proofs.Resolved.{item-last, ProgramResolved, ProgramsResolved, right-calls, file-resolved}
use Rattle.layout.proofs.WholeFile.{FilePassed, file-stood}
use Rattle.layout.proofs.Counted.{file-counted}
use Rattle.execution.proofs.ReadFile.{file-words, counted-some}
use Rattle.claims.specs.Check.{Derivation, Derivations, Derives, Demand2, Contracts, Demand3}

acceptance : (v : Verdict) → Accepts v → (n : ℕ) × (v ≡ accepted n)
acceptance (accepted n) h = (n, refl)
acceptance (refused k i) h = absurd h

programs-derived : (Γ : Context) (l : List Program) (f : Program) → Accepts (judge_programs Γ l f) → Derivations SamePlain Γ l f
unfolding judge_programs
programs-derived Γ [] f a = (flow-judged Γ f.evidence f.pre f.command f.post).sound a
programs-derived Γ (g ∷ l) f a = also_is _ _ a λ x y.
    ((flow-judged Γ g.evidence g.pre g.command g.post).sound x, programs-derived (after Γ g) l f y)

programs-accepted : (Γ : Context) (l : List Program) (f : Program) → Derivations SamePlain Γ l f → Accepts (judge_programs Γ l f)
unfolding judge_programs
programs-accepted Γ [] f d = (flow-judged Γ f.evidence f.pre f.command f.post).complete d
programs-accepted Γ (g ∷ l) f d =
    also_accepts _ _ ((flow-judged Γ g.evidence g.pre g.command g.post).complete d.0)
    (programs-accepted (after Γ g) l f d.1)

-- ---- demand 3, on trees
program-secure : (Γ : Context) (f : Program) → Valid Γ → ProgramResolved Γ f → Derivation SamePlain Γ f →
    Secure f.pre f.command f.post
program-secure Γ f v r d = flow-secure Γ v d r.carried (record { calls = r.command })

-- a contract that holds joins those that do
valid_after : (Γ : Context) (f : Program) → Valid Γ → Secure f.pre f.command f.post → Valid (after Γ f)
valid_after Γ f v s = record {
  secure = λ n k e. elim (item-last Γ.procedures (procedure_of f) n k e) [
    | inl h ↦ v.secure n k h
    | inr h ↦ subst (λ j. Secure j.pre j.body j.post) (sym h) s
  ];
}

programs-secure : (Γ : Context) (l : List Program) (f : Program) → Valid Γ → ProgramsResolved Γ l f → Derivations SamePlain Γ l f →
    Contracts l f
programs-secure Γ [] f v r d = program-secure Γ f v r d
programs-secure Γ (g ∷ l) f v r d =
    let own = program-secure Γ g v r.0 d.0 in
    (own, programs-secure (after Γ g) l f (valid_after Γ g v own) r.1 d.1)

valid_none : (limits : Limits) → Valid (alone limits)
unfolding item_at
valid_none limits = record { secure = λ n k e. absurd (let z : ◌≡◌ {A = ℕ} 0 1 = cc in omega (arith, z)) }

module _ (limits : Limits) (bytes : List ℕ) where
  -- what refusals 2 to 7 leave of its words
  stood : (f : File) (end : ℕ) → file_of limits bytes ≡ read f end → FilePassed limits (words_of bytes) f end
  stood f end e = file-stood limits (words_of bytes) f end (file-words limits bytes f end e)

  -- what is read, when it is accepted, derives its contracts
  derives : (r : Reading File) → file_of limits bytes ≡ r → Accepts (judged limits r) → Derives SamePlain limits bytes
  derives (read f end) h a = record {
    file = f;
    end = end;
    reads = h;
    derivations = programs-derived (alone limits) f.procedures f.main a;
  }
  derives (fault k p) h a = absurd a

  -- the count of what is read, when it is accepted, is that of the file's words
  counted : (r : Reading File) → file_of limits bytes ≡ r → (n : ℕ) → judged limits r ≡ accepted n →
      n ≡ count_evidence (words_of bytes)
  counted (read f end) e n h =
      let s = (stood f end e).stands in
      (file-counted limits (words_of bytes) f s (counted-some (words_of bytes) s.count)).counted n h
  counted (fault k p) e n h = absurd (let z : ◌≡◌ {A = ℕ} 0 1 = cc in omega arith)

  pub demand_2 : Demand2 limits bytes
  unfolding verdict_of
  demand_2 = record {
    sound = λ n h. derives (file_of limits bytes) refl (subst Accepts (sym h) tt);
    complete = λ d. acceptance _ (subst (λ r. Accepts (judged limits r)) (sym d.reads)
        (programs-accepted (alone limits) d.file.procedures d.file.main d.derivations));
    counted = λ n h. counted (file_of limits bytes) refl n h;
  }

  pub demand_3 : Demand3 limits bytes
  unfolding verdict_of
  demand_3 = record {
    secure = λ n h f end e.
        let x = stood f end e in
        let r = file-resolved (words_of bytes) limits f.procedures f.main _ x.stands.programs
        (right-calls (words_of bytes) f.procedures x.called) in
        programs-secure (alone limits) f.procedures f.main (valid_none limits) r
        (programs-derived (alone limits) f.procedures f.main
        (subst (λ r. Accepts (judged limits r)) e (subst Accepts (sym h) tt)));
  }
