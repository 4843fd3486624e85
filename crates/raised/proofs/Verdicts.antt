-- A file that was read, judged: under more comparisons a verdict stays as it is, unless it is a refusal 9 (document 02, request [6]); and
-- judging refuses by 8 and 9 alone.
-- Assumes nothing.
--     programs-kept, judged-kept    procedures and the main program, under more comparisons; a file
--     judged-number                 the number of a refusal by judging
use mathlib.Core.Path.{◌≡◌, refl, subst}
use mathlib.Core.List.{List, [], ◌∷◌, ◌++◌}
use mathlib.Core.Logic.{◌⊎◌, inl, inr}
use Prim.Native.Nat.{ℕ, ◌≤◌}
use Rattle.rules.specs.Context.{Limits, Procedure, Context, alone}
use Rattle.rules.specs.Judge.{Verdict, accepted, refused, one_more, ◌also◌}
use Rattle.rules.proofs.Holds.{anywhere, Holding, flow-holds}
use Rattle.layout.specs.Reading.{Reading, read, fault}
use Rattle.layout.specs.Program.{Program, procedure_of, after}
use Rattle.layout.specs.File.{File}
use Rattle.layout.specs.Verdict.{judge_program, judge_programs, judged}
use Rattle.raised.proofs.Judged.{limited, Kept, kept, also_kept, flow-kept}

module _ (low high : Limits) (more : low.comparisons ≤ high.comparisons) where
  program-kept : (l : List Procedure) (f : Program) → Kept (judge_program (limited low l) f) (judge_program (limited high l) f)
  program-kept l f = flow-kept low high more l f.evidence f.pre f.command f.post

  pub programs-kept : (l : List Procedure) (gs : List Program) (f : Program) →
      Kept (judge_programs (limited low l) gs f) (judge_programs (limited high l) gs f)
  unfolding judge_programs
  programs-kept l [] f = program-kept l f
  programs-kept l (g ∷ gs) f = also_kept (program-kept l g) (programs-kept (l ++ (procedure_of g ∷ [])) gs f)

  pub judged-kept : (r : Reading File) → Kept (judged low r) (judged high r)
  judged-kept (read f p) = programs-kept [] f.procedures f.main
  judged-kept (fault k p) = kept

-- a verdict that, if it is a refusal, is 8 or 9
abbrev ByJudging : Verdict → Type 0
ByJudging (accepted n) = Unit {0}
ByJudging (refused k i) = (k ≡ 8) ⊎ (k ≡ 9)

also_by : (v w : Verdict) → ByJudging v → ByJudging w → ByJudging (v also w)
unfolding ◌also◌
also_by (accepted m) (accepted n) g h = tt
also_by (accepted m) (refused k i) g h = h
also_by (refused k i) w g h = g

numbering : Holding (λ i. Unit {0}) (λ v m. ByJudging v)
unfolding one_more
numbering = record {
  nothing = tt;
  both = λ v w m n g h. also_by v w g h;
  passed = λ v m h. passed v h;
  failed = λ i m h. inl refl;
  large = λ i m h. inr refl;
}
  where
    passed : (v : Verdict) → ByJudging v → ByJudging (one_more v)
    passed (accepted n) h = tt
    passed (refused k i) h = h

programs-by : (Γ : Context) (l : List Program) (f : Program) → ByJudging (judge_programs Γ l f)
unfolding judge_programs
programs-by Γ [] f = flow-holds numbering Γ f.evidence f.pre f.command f.post (anywhere (λ i. tt) f.evidence)
programs-by Γ (g ∷ l) f =
    also_by _ _ (flow-holds numbering Γ g.evidence g.pre g.command g.post (anywhere (λ i. tt) g.evidence))
    (programs-by (after Γ g) l f)

pub judged-number : (limits : Limits) (f : File) (p k i : ℕ) → judged limits (read f p) ≡ refused k i → (k ≡ 8) ⊎ (k ≡ 9)
judged-number limits f p k i e = subst ByJudging e (programs-by (alone limits) f.procedures f.main)
