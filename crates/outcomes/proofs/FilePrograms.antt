-- The programs of a file, judged one after the other: the verdict of those that are left.
-- Assumes nothing.
--     ProgramsGoing                             the procedures from number i on and the main program, in the code's loop
--     going_start, going_step, going_refused    at the start; past a procedure; a procedure refused
--     can-procedure, can-main                   what judging the next procedure, and the main program, asks for
--     count_fits, main-fits                     no sum of counts is over the words of a file
--     main-accepted, main-refused               the main program
use mathlib.Core.Path.{◌≡◌, refl, sym, ap, subst, ◌∙◌}
use mathlib.Core.List.{List, [], ◌∷◌}
use Prim.Native.Nat.{ℕ, zero, suc, ◌+◌, ◌<◌, ◌≤◌}
use native.Mathlib.Omega.{arith}
use lib.ListN.{length, drop}
use Rattle.std.specs.Prelude.{Ok, Err}
use Rattle.rules.specs.Context as rules
use Rattle.rules.specs.Context.{Limits, alone}
use Rattle.rules.specs.Judge.{Verdict, accepted, refused, ◌also◌}
use Rattle.layout.specs.Bytes.{word_count}
use Rattle.layout.specs.Program.{Program, after}
use Rattle.layout.specs.File.{File, words_read}
use Rattle.layout.specs.FileWords.{ProgramStands, ProgramsStand, table_words, FileStands}
use Rattle.layout.specs.EvidenceWords.{command_part, set_part}
use Rattle.layout.specs.Before.{context_before}
use Rattle.layout.specs.Verdict.{judge_program, judge_programs}
use Rattle.layout.proofs.Stands.{stands-end}
use Rattle.layout.proofs.WholeFile.{program-stand, program-inside, FilePassed, file-stood}
use Rattle.layout.proofs.Resolved.{ProgramsResolved, right-calls, file-resolved}
use Rattle.scan.specs.Programs.{procedure_count, StartsFrom}
use Rattle.scan.proofs.FilePrograms.{count-procedures}
use Rattle.context.specs.Contexts.{limits_of}
use Rattle.context.specs.declared.Context.{Context}
use Rattle.context.specs.declared.Refusal.{Refusal}
use Rattle.goals.specs.declared.Judged.{Judged}
use Rattle.goals.specs.Goals as goals
use Rattle.judge.proofs.Counts.{goal-counts}
use Rattle.judge.proofs.Going.{also_sum, accepted-is, refused-is}
use Rattle.outcomes.specs.Programs.{context_at, ProgramAt, CanJudgeAt, JudgedAt, CanJudgePrograms, judged_file}
use Rattle.outcomes.proofs.ProgramGoal.{evidence-is, goal-stands}

-- ---- the context of the next program
drop-next : {A : Type 0} (l : List A) (k : ℕ) {g : A} {m : List A} → drop k l ≡ g ∷ m → drop (suc k) l ≡ m
drop-next [] zero e = absurd (let z = ap length e in omega (arith, z))
drop-next [] (suc k) e = absurd (let z = ap length e in omega (arith, z))
drop-next (a ∷ l) zero e = (cc)
drop-next (a ∷ l) (suc k) e = drop-next l k e

before-next : (Γ : rules.Context) (file : List ℕ) (l : List Program) (f : Program) (at p k : ℕ) {g : Program} {m : List Program} →
    ProgramsStand Γ file l f at p → drop k l ≡ g ∷ m →
    context_before Γ file (suc k) at ≡ after (context_before Γ file k at) g
unfolding context_before
before-next Γ file [] f at p zero h e = absurd (let z = ap length e in omega (arith, z))
before-next Γ file [] f at p (suc k) h e = absurd (let z = ap length e in omega (arith, z))
before-next Γ file (a ∷ l) f at p zero {g} (s, h, x) e =
    rw (← s) (rw (program-stand Γ file a h).back (let z : a ≡ g = cc in ap (λ y. after Γ y) z))
before-next Γ file (a ∷ l) f at p (suc k) (s, h, x) e =
    rw (← s) (rw (program-stand Γ file a h).back (before-next (after Γ a) file l f a.past p k x e))

-- procedures stand from place 2 on
next-context : (limits : Limits) (file : List ℕ) (f : File) (i : ℕ) {g : Program} {m : List Program} → FileStands limits file f →
    drop i f.procedures ≡ g ∷ m →
    context_before (alone limits) file (suc i) 2 ≡ after (context_before (alone limits) file i 2) g
next-context limits file f i {g} {m} h e = go f.procedures f.main h.programs e
  where
    go : (l : List Program) (main : Program) →
        ProgramsStand (alone limits) file l main (1 + length (table_words l)) (word_count file) → drop i l ≡ g ∷ m →
        context_before (alone limits) file (suc i) 2 ≡ after (context_before (alone limits) file i 2) g
    go [] main s e = absurd (none_left i e)
      where
        none_left : (k : ℕ) → drop k [] ≡ g ∷ m → ⊥
        none_left zero z = let u = ap length z in omega (arith, u)
        none_left (suc k) z = let u = ap length z in omega (arith, u)
    go (a ∷ l) main s e = before-next (alone limits) file (a ∷ l) main 2 (word_count file) i s e

-- ---- the loop
nothing-also : (v : Verdict) → accepted 0 also v ≡ v
unfolding ◌also◌
nothing-also (accepted n) = ap accepted (omega arith)
nothing-also (refused k i) = refl

-- evidence stands behind the program's first word
evidence-behind : (Γ : rules.Context) (file : List ℕ) (g : Program) → ProgramStands Γ file g → g.start ≤ g.evidence_at
evidence-behind Γ file g h =
    let a = stands-end file g.start (command_part Γ g.command).spelling g.pre_at h.command.stand in
    let b = stands-end file g.pre_at (set_part Γ g.pre).spelling g.post_at h.pre.stand in
    let c = stands-end file g.post_at (set_part Γ g.post).spelling g.evidence_at h.post.stand in
    omega (arith, a, b, c)

-- a verdict that was written as a refusal stays one
refused-last : (v : Verdict) (m end last : ℕ) {y : Refusal} → ◌≡◌ {A = goals.Answer} (Err y) (goals.judged_of v end) →
    ◌≡◌ {A = goals.Answer} (Err y) (goals.judged_of (accepted m also v) last)
unfolding ◌also◌
refused-last (accepted n) m end last h = absurd (let u : ◌≡◌ {A = ℕ} 0 1 = cc in omega (arith, u))
refused-last (refused k i) m end last h = h

module _ {file ends : List ℕ} (x : Context) (h : CanJudgePrograms file ends x) where
  abbrev f : File
  f = h.contents

  was : FilePassed (limits_of x) file f h.end
  was = file-stood (limits_of x) file f h.end h.was_read

  abbrev total : Verdict
  total = judge_programs (alone (limits_of x)) f.procedures f.main

  abbrev FileJudged : goals.Answer → Type 0
  FileJudged r = r ≡ judged_file (limits_of x) (words_read (limits_of x) file)

  all-judged : {r : goals.Answer} → r ≡ goals.judged_of total h.end → FileJudged r
  all-judged e = e ∙ ap (judged_file (limits_of x)) (sym h.was_read)

  -- of the procedures from number i on, with the count of those before
  pub record ProgramsGoing (i count : ℕ) : Type 0 where
    pub left : List Program
    pub at : ℕ
    pub from : drop i f.procedures ≡ left
    pub many : i + length left ≡ length f.procedures
    pub stand : ProgramsStand (context_at x file i) file left f.main at (word_count file)
    pub resolved : ProgramsResolved (context_at x file i) left f.main
    pub starts : StartsFrom file ends left f.main i
    pub judged : total ≡ accepted count also judge_programs (context_at x file i) left f.main
    pub few : count ≤ at

  pub going_start : ProgramsGoing 0 0
  unfolding context_before ◌also◌
  going_start = record {
    left = f.procedures;
    at = _;
    from = refl;
    many = omega arith;
    stand = was.stands.programs;
    resolved = file-resolved file (limits_of x) f.procedures f.main _ was.stands.programs
        (right-calls file f.procedures was.called);
    starts = h.known.starts.starts;
    judged = sym (nothing-also total);
    few = omega arith;
  }

  module _ {i count : ℕ} (going : ProgramsGoing i count) where
    abbrev Δ : rules.Context
    Δ = context_at x file i

    -- the program at a place has a count that is at most its words
    counted : {g : Program} (p : ProgramAt file ends x i g) {n : ℕ} → judge_program Δ g ≡ accepted n → g.start + n ≤ g.past
    counted {g} p {n} e =
        let c = goal-counts Δ file ends (goal-stands h.ends_of p h.within.low) n e in
        let b = evidence-behind Δ file g p.stands in
        omega (arith, c, b, evidence-is h.ends_of p)

    can-at : {g : Program} → ProgramAt file ends x i g → CanJudgeAt file ends x i
    can-at {g} p =
        let m = going.many in
        let few = was.stands.few in
        record {
          size = h.size;
          within = h.within;
          ends_of = h.ends_of;
          low = omega arith;
          procedures = h.known.procedures h.within.low i (omega arith);
          program = g;
          there = p;
        }

    module _ (below : i < procedure_count file) where
      record Next : Type 0 where
        g : Program
        others : List Program
        is : going.left ≡ g ∷ others

      next : Next
      next = go going.left refl
        where
          go : (l : List Program) → going.left ≡ l → Next
          go [] e =
              let m = going.many in
              let c = count-procedures (limits_of x) file f was.stands in
              absurd (omega (arith, below, c, m, ap length e))
          go (g ∷ l) e = record { g = g; others = l; is = e }

      stand : ProgramsStand Δ file (next.g ∷ next.others) f.main going.at (word_count file)
      stand = subst (λ l. ProgramsStand Δ file l f.main going.at (word_count file)) next.is going.stand

      resolved : ProgramsResolved Δ (next.g ∷ next.others) f.main
      resolved = subst (λ l. ProgramsResolved Δ l f.main) next.is going.resolved

      starts : StartsFrom file ends (next.g ∷ next.others) f.main i
      starts = subst (λ l. StartsFrom file ends l f.main i) next.is going.starts

      there : ProgramAt file ends x i next.g
      there = record { start = starts.0; stands = stand.1; resolved = resolved.0.command; carried = resolved.0.carried }

      pub can-procedure : CanJudgeAt file ends x i
      can-procedure = can-at there

      judged-next : total ≡ accepted count also (judge_program Δ next.g also judge_programs (after Δ next.g) next.others f.main)
      unfolding judge_programs
      judged-next = going.judged ∙ ap (λ l. accepted count also judge_programs Δ l f.main) next.is

      pub going_refused : {y : Refusal} {r : goals.Answer} → JudgedAt file ends x i (Err y) →
          (z : Refusal) × (r ≡ Err z) × (z ≡ y) → FileJudged r
      going_refused j out = all-judged
          (out.1 ∙ ap Err out.2
          ∙ refused-is (judge_program Δ next.g) (judge_programs (after Δ next.g) next.others f.main) count next.g.past
          h.end (j.judged next.g there) ∙ ap (λ v. goals.judged_of v h.end) (sym judged-next))

      module _ {a : Judged} (j : JudgedAt file ends x i (Ok a)) where
        is-accepted : judge_program Δ next.g ≡ accepted a.count
        is-accepted = (accepted-is (judge_program Δ next.g) (j.judged next.g there)).0

        pub count_fits : count + a.count ≤ 8192
        count_fits =
            let c = counted there is-accepted in
            let l = program-inside Δ file next.g stand.1 in
            omega (arith, c, l, h.size, going.few, stand.0)

        at_next : ProgramsGoing (suc i) (count + a.count)
        at_next =
            let e = next-context (limits_of x) file f i was.stands (going.from ∙ next.is) in
            let c = counted there is-accepted in
            record {
              left = next.others;
              at = next.g.past;
              from = drop-next f.procedures i (going.from ∙ next.is);
              many = (let m = going.many in let z = ap length next.is in omega arith);
              stand = subst (λ Θ. ProgramsStand Θ file next.others f.main next.g.past (word_count file)) (sym e) stand.2;
              resolved = subst (λ Θ. ProgramsResolved Θ next.others f.main) (sym e) resolved.1;
              starts = starts.1;
              judged = judged-next
                  ∙ ap (λ v. accepted count also (v also judge_programs (after Δ next.g) next.others f.main)) is-accepted
                  ∙ also_sum count a.count (judge_programs (after Δ next.g) next.others f.main)
                  ∙ ap (λ Θ. accepted (count + a.count) also judge_programs Θ next.others f.main) (sym e);
              few = omega (arith, c, going.few, stand.0);
            }

        pub going_step : ProgramsGoing (i + 1) (count + a.count)
        going_step = let z : suc i ≡ i + 1 = omega arith in subst (λ k. ProgramsGoing k (count + a.count)) z at_next

    module _ (end : procedure_count file ≤ i) where
      none_left : going.left ≡ []
      none_left = go going.left refl
        where
          go : (l : List Program) → going.left ≡ l → going.left ≡ []
          go [] e = e
          go (g ∷ l) e =
              let m = going.many in
              let c = count-procedures (limits_of x) file f was.stands in
              absurd (omega (arith, end, c, m, ap length e))

      main-stands : ProgramsStand Δ file [] f.main going.at (word_count file)
      main-stands = subst (λ l. ProgramsStand Δ file l f.main going.at (word_count file)) none_left going.stand

      main-resolved : ProgramsResolved Δ [] f.main
      main-resolved = subst (λ l. ProgramsResolved Δ l f.main) none_left going.resolved

      main-there : ProgramAt file ends x i f.main
      main-there = record {
        start = subst (λ l. StartsFrom file ends l f.main i) none_left going.starts;
        stands = main-stands.1;
        resolved = main-resolved.command;
        carried = main-resolved.carried;
      }

      pub can-main : CanJudgeAt file ends x i
      can-main = can-at main-there

      judged-main : total ≡ accepted count also judge_program Δ f.main
      unfolding judge_programs
      judged-main = going.judged ∙ ap (λ l. accepted count also judge_programs Δ l f.main) none_left

      pub main-refused : {y : Refusal} {r : goals.Answer} → JudgedAt file ends x i (Err y) →
          (z : Refusal) × (r ≡ Err z) × (z ≡ y) → FileJudged r
      main-refused j out = all-judged
          (out.1 ∙ ap Err out.2
          ∙ refused-last (judge_program Δ f.main) count f.main.past h.end (j.judged f.main main-there)
          ∙ ap (λ v. goals.judged_of v h.end) (sym judged-main))

      module _ {a : Judged} (j : JudgedAt file ends x i (Ok a)) where
        main-is : (judge_program Δ f.main ≡ accepted a.count) × (a.end ≡ f.main.past)
        main-is = accepted-is (judge_program Δ f.main) (j.judged f.main main-there)

        pub main-fits : count + a.count ≤ 8192
        main-fits =
            let c = counted main-there main-is.0 in
            let l = program-inside Δ file f.main main-stands.1 in
            omega (arith, c, l, h.size, going.few, main-stands.0)

        pub main-accepted : FileJudged (Ok (record { count = count + a.count; end = a.end }))
        unfolding ◌also◌
        main-accepted =
            let past : a.end ≡ h.end = main-is.1 ∙ main-stands.2 ∙ sym was.end in
            all-judged (ap (λ k. Ok (record { count = count + a.count; end = k })) past
            ∙ ap (λ v. goals.judged_of v h.end) (sym (judged-main ∙ ap (λ v. accepted count also v) main-is.0)))
