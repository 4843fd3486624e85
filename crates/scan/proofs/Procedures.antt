-- What the list of ends has of the procedures of a file: in the order of the procedures, each under those before it.
-- Assumes nothing.
--     MasksKnown                       of the procedures of a context: their masks, and what stands at their places
--     procedure-moved                  a procedure under a context with more procedures
--     known-after                      with one procedure more
--     procedures-known, masks-known    for each program of a file; the masks of all
use mathlib.Core.Path.{◌≡◌, refl, sym, ap, subst, ◌∙◌}
use mathlib.Core.List.{List, [], ◌∷◌, ◌++◌}
use mathlib.Core.Logic.{◌⊎◌, inl, inr}
use mathlib.Core.Option.{none, some}
use Prim.Native.Nat.{ℕ, zero, suc, ◌+◌, ◌<◌, ◌≤◌}
use native.Mathlib.Omega.{arith}
use lib.ListN.{length, take, length-append, length-take}
use lib.Seq.{take-length}
use Rattle.rules.specs.Context.{Limits, Procedure, Context, alone, item_at}
use Rattle.layout.specs.Bytes.{word_count}
use Rattle.layout.specs.Reading.{first_place}
use Rattle.layout.specs.Program.{Program, procedure_of, after, after_all}
use Rattle.layout.specs.Call.{wrong_call}
use Rattle.layout.specs.File.{File}
use Rattle.layout.specs.FileWords.{ProgramStands, ProgramsStand, table_words, FileStands}
use Rattle.layout.specs.Before.{context_before}
use Rattle.layout.specs.Nodes.{command_node, set_node}
use Rattle.layout.proofs.Nodes.{node_inside}
use Rattle.layout.proofs.Before.{context-before}
use Rattle.layout.proofs.Resolved.{Grows, grows_after, command-moved, set-moved, resolved-more}
use Rattle.layout.proofs.Resolved.{ProgramResolved, ProgramsResolved, right-calls, file-resolved}
use Rattle.ends.specs.Mask.{ModifiedBy}
use Rattle.ends.specs.Ends.{EndsListed}
use Rattle.ends.specs.Places.{end_at}
use Rattle.ends.specs.Procedures.{start_at, mask_at, ProcedureAt, Procedures}
use Rattle.ends.proofs.Table.{node_listed, listed_at}
use Rattle.ends.proofs.Places.{at_place}
use Rattle.scan.specs.Programs.{procedure_count, StartsFrom, StartsListed, MaskMade, Masks}
use Rattle.scan.specs.Steady.{file_context}
use Rattle.scan.proofs.Trees.{CallsKnown, marked-command, item-inside}
use Rattle.scan.proofs.FilePrograms.{count-procedures}

-- what stands in a list with one thing more stands in the list, or is that thing
item-end : {A : Type 0} (l : List A) (x : A) (n : ℕ) (k : A) → item_at (l ++ (x ∷ [])) n ≡ some k →
    (item_at l n ≡ some k) ⊎ ((length l ≡ n) × (x ≡ k))
unfolding item_at
item-end [] x zero k e = inr (refl, (cc))
item-end [] x (suc n) k e = absurd (let z : ◌≡◌ {A = ℕ} 0 1 = cc in omega (arith, z))
item-end (y ∷ l) x zero k e = inl e
item-end (y ∷ l) x (suc n) k e = elim (item-end l x n k e) [ inl h ↦ inl h | inr h ↦ inr (ap suc h.0, h.1) ]

no_item : {A : Type 0} {C : Type 0} (n : ℕ) (k : A) → item_at [] n ≡ some k → C
unfolding item_at
no_item n k e = absurd (let z : ◌≡◌ {A = ℕ} 0 1 = cc in omega (arith, z))

pub procedure-moved : {file ends : List ℕ} {Γ Δ : Context} {n : ℕ} {k : Procedure} → Grows Γ Δ → ProcedureAt file ends Γ n k →
    ProcedureAt file ends Δ n k
procedure-moved {k = k} g x = record {
  body = record {
    levels = x.body.levels;
    low = x.body.low;
    stands = command-moved g x.body.levels k.body x.body.stands x.resolved;
  };
  pre = record { levels = x.pre.levels; low = x.pre.low; stands = set-moved g x.pre.levels k.pre x.pre.stands };
  post = record { levels = x.post.levels; low = x.post.low; stands = set-moved g x.post.levels k.post x.post.stands };
  resolved = resolved-more g.extends k.body x.resolved;
  mask = x.mask;
}

module _ (file ends : List ℕ) (o : EndsListed file ends) where
  pub record MasksKnown (Γ : Context) : Type 0 where
    pub mask : (n : ℕ) (k : Procedure) → item_at Γ.procedures n ≡ some k → ModifiedBy k.body (mask_at file ends n)
    pub at : Γ.limits.depth ≤ 256 → (n : ℕ) (k : Procedure) → item_at Γ.procedures n ≡ some k → ProcedureAt file ends Γ n k

  -- the program g follows i procedures
  module _
      (Γ : Context) (g : Program) (i : ℕ) (many : length Γ.procedures ≡ i) (h : ProgramStands Γ file g)
      (r : ProgramResolved Γ g) (start : start_at file ends i ≡ g.start)
    where
      past-command : end_at ends g.start ≡ g.pre_at
      past-command = node_listed o (command_node Γ g.command) Γ.limits.depth g.start g.pre_at h.command

      own-mask : MasksKnown Γ → MaskMade file ends i → ModifiedBy g.command (mask_at file ends i)
      own-mask known x =
          let s = node_inside (command_node Γ g.command) h.command in
          let calls : CallsKnown x.called Γ.procedures = record {
            known = λ n k e.
                let l = item-inside Γ.procedures n k e in
                subst (ModifiedBy k.body) (sym (x.lower n (omega arith))) (known.mask n k e);
          } in
          let marks = x.marks g.start g.pre_at start (omega (arith, s.start, s.within)) past-command s.within in
          marked-command Γ calls marks g.command Γ.limits.depth h.command r.command

      own_at : Γ.limits.depth ≤ 256 → ModifiedBy g.command (mask_at file ends i) →
          ProcedureAt file ends (after Γ g) i (procedure_of g)
      own_at low m =
          let d = Γ.limits.depth in
          let Δ = after Γ g in
          let grown = grows_after Γ g in
          let pre : end_at ends (start_at file ends i) ≡ g.pre_at = ap (end_at ends) start ∙ past-command in
          let post : end_at ends (end_at ends (start_at file ends i)) ≡ g.post_at =
          ap (end_at ends) pre ∙ node_listed o (set_node Γ g.pre) d g.pre_at g.post_at h.pre in
          record {
            body = at_place start (listed_at o (command_node Δ g.command) d g.start g.pre_at low
                (command-moved grown d g.command h.command r.command));
            pre = at_place pre (listed_at o (set_node Δ g.pre) d g.pre_at g.post_at low (set-moved grown d g.pre h.pre));
            post = at_place post (listed_at o (set_node Δ g.post) d g.post_at g.evidence_at low
                (set-moved grown d g.post h.post));
            resolved = resolved-more grown.extends g.command r.command;
            mask = m;
          }

      pub known-after : MasksKnown Γ → MaskMade file ends i → MasksKnown (after Γ g)
      known-after known x =
          let m = own-mask known x in
          record {
            mask = λ n k e. elim (item-end Γ.procedures (procedure_of g) n k e) [
              | inl l ↦ known.mask n k l
              | inr l ↦
                  let same : i ≡ n = sym many ∙ l.0 in
                  subst (λ j. ModifiedBy k.body (mask_at file ends j)) same
                  (subst (λ y. ModifiedBy y.body (mask_at file ends i)) l.1 m)
            ];
            at = λ low n k e. elim (item-end Γ.procedures (procedure_of g) n k e) [
              | inl l ↦ procedure-moved (grows_after Γ g) (known.at low n k l)
              | inr l ↦
                  let same : i ≡ n = sym many ∙ l.0 in
                  subst (λ j. ProcedureAt file ends (after Γ g) j k) same
                  (subst (λ y. ProcedureAt file ends (after Γ g) i y) l.1 (own_at low m))
            ];
          }

  -- from a program on that follows i procedures
  programs-known : (Γ : Context) (l : List Program) (f : Program) (at p i n : ℕ) → ProgramsStand Γ file l f at p →
      ProgramsResolved Γ l f → StartsFrom file ends l f i → length Γ.procedures ≡ i →
      ((j : ℕ) → j < i + length l → MaskMade file ends j) → MasksKnown Γ → n ≤ length l → MasksKnown (after_all Γ (take n l))
  programs-known Γ l f at p i zero h r s many made known e = known
  programs-known Γ [] f at p i (suc n) h r s many made known e = absurd (omega arith)
  programs-known Γ (g ∷ l) f at p i (suc n) (a, h, x) r s many made known e =
      let more : length (after Γ g).procedures ≡ suc i =
      length-append Γ.procedures (procedure_of g ∷ []) ∙ (let z : length Γ.procedures + 1 ≡ suc i = omega arith in z) in
      programs-known (after Γ g) l f g.past p (suc i) n x r.1 s.1 more (λ j k. made j (omega arith))
      (known-after Γ g i many h r.0 s.0 known (made i (omega arith))) (omega arith)

  module _
      (limits : Limits) (f : File) (stands : FileStands limits file f)
      (called : first_place (wrong_call file f.procedures) (word_count file) 0 ≡ none) (starts : StartsListed file ends f)
      (made : (j : ℕ) → j < procedure_count file → MaskMade file ends j)
    where
      -- under the first n procedures
      known-first : (n : ℕ) → n ≤ length f.procedures → MasksKnown (after_all (alone limits) (take n f.procedures))
      known-first n e =
          let c = count-procedures limits file f stands in
          programs-known (alone limits) f.procedures f.main _ (word_count file) 0 n stands.programs
          (file-resolved file limits f.procedures f.main _ stands.programs (right-calls file f.procedures called))
          starts.starts refl (λ j h. made j (omega arith))
          (record { mask = λ n k e. no_item n k e; at = λ low n k e. no_item n k e }) e

      all-length : (Γ : Context) (l : List Program) → length (after_all Γ l).procedures ≡ length Γ.procedures + length l
      all-length Γ [] = omega arith
      all-length Γ (g ∷ l) =
          let e = all-length (after Γ g) l in
          let k = length-append Γ.procedures (procedure_of g ∷ []) in
          omega arith

      all-limits : (Γ : Context) (l : List Program) → (after_all Γ l).limits ≡ Γ.limits
      all-limits Γ [] = refl
      all-limits Γ (g ∷ l) = all-limits (after Γ g) l

      few-first : (n : ℕ) → n ≤ length f.procedures →
          length (after_all (alone limits) (take n f.procedures)).procedures ≤ 16
      few-first n e =
          let k = all-length (alone limits) (take n f.procedures) in
          let t = length-take n f.procedures in
          omega (arith, k, t, stands.few)

      before-first : (n : ℕ) → n ≤ length f.procedures →
          context_before (alone limits) file n 2 ≡ after_all (alone limits) (take n f.procedures)
      unfolding context_before
      before-first n e = go f.procedures f.main n stands.programs e
        where
          go : (l : List Program) (m : Program) (n : ℕ) →
              ProgramsStand (alone limits) file l m (1 + length (table_words l)) (word_count file) → n ≤ length l →
              context_before (alone limits) file n 2 ≡ after_all (alone limits) (take n l)
          go l m zero h e = refl
          go [] m (suc n) h e = absurd (omega arith)
          go (g ∷ l) m (suc n) h e = context-before (alone limits) file (g ∷ l) m 2 (word_count file) (suc n) h e

      pub procedures-known : limits.depth ≤ 256 → (n : ℕ) → n ≤ length f.procedures →
          Procedures file ends (context_before (alone limits) file n 2)
      procedures-known low n e =
          let Δ = after_all (alone limits) (take n f.procedures) in
          let same = all-limits (alone limits) (take n f.procedures) in
          subst (Procedures file ends) (sym (before-first n e)) (record {
            few = few-first n e;
            room = o.room;
            known = λ i k h. (known-first n e).at (omega (arith, ap (λ l. l.depth) same)) i k h;
          })

      pub masks-known : Masks file ends (file_context limits f)
      masks-known =
          let n = length f.procedures in
          subst (λ l. Masks file ends (after_all (alone limits) l)) (take-length f.procedures) (record {
            few = few-first n (omega arith);
            mask = λ i k h. (known-first n (omega arith)).mask i k h;
          })
