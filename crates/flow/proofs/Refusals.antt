-- Where the judge refuses (document 01, "Judging order" 8 and 9): at the place of a word of the file, with 8 or 9.
-- Assumes nothing.
--     PlaceInside        a refused verdict has a number up to 9 and the place of one of n words
--     programs-inside    the programs of a file that stands, judged
use mathlib.Core.Path.{◌≡◌}
use mathlib.Core.List.{List, [], ◌∷◌}
use Prim.Native.Nat.{ℕ, zero, suc, ◌+◌, ◌<◌, ◌≤◌}
use native.Mathlib.Omega.{arith}
use Rattle.rules.specs.Context.{Context}
use Rattle.rules.specs.Evidence.{Standing, Tree, by, assertion, command, members, child, done, ◌&◌}
use Rattle.rules.specs.Judge.{Verdict, accepted, refused, one_more, ◌also◌}
use Rattle.rules.proofs.Holds.{Everywhere, Holding, flow-holds}
use Rattle.layout.specs.Bytes.{word_count}
use Rattle.layout.specs.EvidenceWords.{spelled_tree, FitsTree}
use Rattle.layout.specs.Program.{Program, after}
use Rattle.layout.specs.FileWords.{ProgramStands, ProgramsStand}
use Rattle.layout.specs.Verdict.{judge_program, judge_programs}
use Rattle.layout.proofs.SpelledEvidence.{TreeAt, parted-trees}

pub record PlaceInside (n : ℕ) (v : Verdict) : Type 0 where
  pub inside : (k i : ℕ) → v ≡ refused k i → (k ≤ 9) × (i < n)

accepted-inside : (n m : ℕ) → PlaceInside n (accepted m)
accepted-inside n m = record { inside = λ k i e. absurd (let z : ◌≡◌ {A = ℕ} 0 1 = cc in omega arith) }

refused-inside : {n : ℕ} (k i : ℕ) → k ≤ 9 → i < n → PlaceInside n (refused k i)
refused-inside k i h l = record {
  inside = λ m j e. let x : k ≡ m = cc in let y : i ≡ j = cc in (omega arith, omega arith);
}

inside : (n : ℕ) → Holding (λ i. i < n) (λ v m. PlaceInside n v)
unfolding ◌also◌ one_more
inside n = record {
  nothing = accepted-inside n 0;
  both = λ v w _ _ g h. both v w g h;
  passed = λ v _ h. passed v h;
  failed = λ i _ h. refused-inside 8 i (omega arith) h;
  large = λ i _ h. refused-inside 9 i (omega arith) h;
}
  where
    both : (v w : Verdict) → PlaceInside n v → PlaceInside n w → PlaceInside n (v also w)
    both (accepted a) (accepted b) g h = accepted-inside n (a + b)
    both (accepted a) (refused k i) g h = h
    both (refused k i) w g h = g

    passed : (v : Verdict) → PlaceInside n v → PlaceInside n (one_more v)
    passed (accepted a) h = accepted-inside n (suc a)
    passed (refused k i) h = h

-- the words of evidence that stands are in the file
standing : (Γ : Context) (file : List ℕ) {s : Standing} (t : Tree s) (d at p : ℕ) → TreeAt Γ file d at t p →
    Everywhere (λ i. i < word_count file) t
unfolding spelled_tree FitsTree
standing Γ file (by r i t) zero at p s = absurd s.fit
standing Γ file (by r i t) (suc d) at p s = (
  omega (arith, s.stand.0, s.fit.0),
  standing Γ file t d (at + 1) p (record { stand = s.stand.2; fit = s.fit.1 }),
)
standing Γ file (assertion φ) d at p s = tt
standing Γ file (command c) d at p s = tt
standing Γ file (members m) d at p s = tt
standing Γ file (child k) d at p s = standing Γ file k d at p s
standing Γ file done d at p s = tt
standing Γ file (x & t) d at p s =
    let y = parted-trees Γ file x t d at p s in
    (standing Γ file x d at y.0 y.1, standing Γ file t d y.0 p y.2)

flow-inside : (Γ : Context) (file : List ℕ) (f : Program) → ProgramStands Γ file f → PlaceInside (word_count file) (judge_program Γ f)
flow-inside Γ file f h =
    flow-holds (inside (word_count file)) Γ f.evidence f.pre f.command f.post
    (standing Γ file f.evidence Γ.limits.depth f.evidence_at f.past h.evidence)

pub programs-inside : (Γ : Context) (file : List ℕ) (l : List Program) (f : Program) (at p : ℕ) → ProgramsStand Γ file l f at p →
    PlaceInside (word_count file) (judge_programs Γ l f)
unfolding judge_programs
programs-inside Γ file [] f at p h = flow-inside Γ file f h.1
programs-inside Γ file (g ∷ l) f at p h =
    (inside (word_count file)).both _ _ 0 0 (flow-inside Γ file g h.1) (programs-inside (after Γ g) file l f g.past p h.2)
