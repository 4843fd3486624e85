-- In a file that was read, the body of each procedure and the command of the main program stand at their places, under the context
-- of all procedures (document 02, request [3]).
-- Assumes nothing.
--     BodyStands, body-within    a command whose calls hold their bodies stands at a place; it ends inside the file
--     whole                      the context of the main program
--     main_body, body_of         the main program's command; the body of a procedure
--     start-of                   where the list of ends has its start
--     count_of                   word 0 has the count of words
use mathlib.Core.Path.{◌≡◌, refl, sym, ap, subst, ◌∙◌}
use mathlib.Core.List.{List, [], ◌∷◌, ◌++◌, map, append-nil, append_assoc}
use mathlib.Core.Option.{some}
use Prim.Native.Nat.{ℕ, zero, suc, ◌+◌, ◌<◌, ◌≤◌}
use native.Mathlib.Omega.{arith}
use lib.ListN.{length}
use Rattle.language.specs.Syntax.{Command}
use Rattle.rules.specs.Words.{command_words}
use Rattle.rules.specs.Context.{Limits, Procedure, Context, alone, item_at}
use Rattle.layout.specs.Bytes.{word_count, payload_at, payloads}
use Rattle.layout.specs.Reading.{read}
use Rattle.layout.specs.Program.{Program, procedure_of, after, after_all}
use Rattle.layout.specs.File.{File, words_read}
use Rattle.layout.specs.FileWords.{ProgramStands, ProgramsStand}
use Rattle.layout.specs.Nodes.{command_node}
use Rattle.layout.specs.Standing.{PartStands}
use Rattle.layout.proofs.Words.{remainder}
use Rattle.layout.proofs.Stands.{stands-end}
use Rattle.layout.proofs.Nodes.{node_inside}
use Rattle.layout.proofs.Resolved.{Grows, grows_itself, grows_all, command-moved, resolved-more}
use Rattle.layout.proofs.Resolved.{ProgramResolved, ProgramsResolved, right-calls, file-resolved}
use Rattle.layout.proofs.WholeFile.{file-stood}
use Rattle.execution.specs.Ran.{start_of, body_place}
use Rattle.ends.specs.Procedures.{start_at}
use Rattle.scan.specs.Programs.{StartsFrom, StartsListed}
use Rattle.heads.specs.Stands.{resolved_part}

-- nothing stands in an empty list
no_item : {A C : Type 0} (n : ℕ) (k : A) → item_at [] n ≡ some k → C
unfolding item_at
no_item n k e = absurd (let z : ◌≡◌ {A = ℕ} 0 1 = cc in omega (arith, z))

-- a program that is listed, and what it is to those who call it
record ProgramListed (l : List Program) (n : ℕ) (k : Procedure) : Type 0 where
  program : Program
  there : item_at l n ≡ some program
  same : procedure_of program ≡ k

listed : (l : List Program) (n : ℕ) (k : Procedure) → item_at (map procedure_of l) n ≡ some k → ProgramListed l n k
unfolding item_at
listed [] n k e = no_item n k e
listed (g ∷ l) zero k e = record { program = g; there = refl; same = (cc) }
listed (g ∷ l) (suc n) k e = let x = listed l n k e in record { program = x.program; there = x.there; same = x.same }

all-procedures : (Γ : Context) (l : List Program) → (after_all Γ l).procedures ≡ Γ.procedures ++ map procedure_of l
all-procedures Γ [] = sym (append-nil Γ.procedures)
all-procedures Γ (g ∷ l) = all-procedures (after Γ g) l ∙ append_assoc Γ.procedures (procedure_of g ∷ []) (map procedure_of l)

-- the start of a procedure
starts-at : (file ends : List ℕ) (l : List Program) (f : Program) (i : ℕ) → StartsFrom file ends l f i → (n : ℕ) (g : Program) →
    item_at l n ≡ some g → start_at file ends (i + n) ≡ g.start
unfolding item_at
starts-at file ends [] f i s n g e = no_item n g e
starts-at file ends (k ∷ l) f i s zero g e =
    let z : i + 0 ≡ i = omega arith in
    let same : k ≡ g = cc in
    ap (start_at file ends) z ∙ s.0 ∙ ap (λ y. y.start) same
starts-at file ends (k ∷ l) f i s (suc n) g e =
    let z : i + suc n ≡ suc i + n = omega arith in
    ap (start_at file ends) z ∙ starts-at file ends l f (suc i) s.1 n g e

module _ (file : List ℕ) where
  pub record BodyStands (Γ : Context) (c : Command) (at : ℕ) : Type 0 where
    pub levels : ℕ
    pub past : ℕ
    pub stands : PartStands file (resolved_part Γ c) levels at past

  pub body-within : (Γ : Context) (c : Command) (at : ℕ) → BodyStands Γ c at →
      (at < word_count file) × (at + length (command_words c) ≤ word_count file)
  body-within Γ c at x =
      let i = node_inside (command_node Γ c) x.stands in
      let e = stands-end file at (command_words c) x.past x.stands.stand in
      (omega (arith, i.start, i.within), omega (arith, i.within, e))

  program-stands : (Γ Δ : Context) → Grows Γ Δ → (g : Program) → ProgramStands Γ file g → ProgramResolved Γ g →
      BodyStands Δ g.command g.start
  program-stands Γ Δ w g h r = record {
    levels = Γ.limits.depth;
    past = g.pre_at;
    stands = record {
      stand = h.command.stand;
      fit = (
        (command-moved w Γ.limits.depth g.command h.command r.command).fit,
        resolved-more w.extends g.command r.command,
      );
    };
  }

  procedure-stands : (Γ : Context) (l : List Program) (f : Program) (at p : ℕ) → ProgramsStand Γ file l f at p →
      ProgramsResolved Γ l f → (n : ℕ) (g : Program) → item_at l n ≡ some g → BodyStands (after_all Γ l) g.command g.start
  unfolding item_at
  procedure-stands Γ [] f at p h r n g e = no_item n g e
  procedure-stands Γ (k ∷ l) f at p (s, h, x) r zero g e =
      let same : k ≡ g = cc in
      subst (λ y. BodyStands (after_all Γ (k ∷ l)) y.command y.start) same
      (program-stands Γ (after_all Γ (k ∷ l)) (grows_all Γ (k ∷ l)) k h r.0)
  procedure-stands Γ (k ∷ l) f at p (s, h, x) r (suc n) g e = procedure-stands (after Γ k) l f k.past p x r.1 n g e

  main-stands : (Γ : Context) (l : List Program) (f : Program) (at p : ℕ) → ProgramsStand Γ file l f at p →
      ProgramsResolved Γ l f → BodyStands (after_all Γ l) f.command f.start
  main-stands Γ [] f at p (s, h, e) r = program-stands Γ Γ (grows_itself Γ) f h r
  main-stands Γ (g ∷ l) f at p (s, h, x) r = main-stands (after Γ g) l f g.past p x r.1

abbrev pub whole : Limits → File → Context
whole limits f = after_all (alone limits) f.procedures

module _ (limits : Limits) (file : List ℕ) (f : File) (p : ℕ) (e : words_read limits file ≡ read f p) where
  resolved : ProgramsResolved (alone limits) f.procedures f.main
  resolved =
      let x = file-stood limits file f p e in
      file-resolved file limits f.procedures f.main _ x.stands.programs (right-calls file f.procedures x.called)

  pub main_body : BodyStands file (whole limits f) f.main.command f.main.start
  main_body =
      main-stands file (alone limits) f.procedures f.main _ (word_count file) (file-stood limits file f p e).stands.programs
      resolved

  listed_at : (n : ℕ) (k : Procedure) → item_at (whole limits f).procedures n ≡ some k → ProgramListed f.procedures n k
  listed_at n k h =
      listed f.procedures n k (subst (λ l. item_at l n ≡ some k) (all-procedures (alone limits) f.procedures) h)

  pub body_of : (n : ℕ) (k : Procedure) → item_at (whole limits f).procedures n ≡ some k →
      BodyStands file (whole limits f) k.body (body_place f n)
  body_of n k h =
      let x = listed_at n k h in
      subst (λ y. BodyStands file (whole limits f) y.body (body_place f n)) x.same
      (subst (λ at. BodyStands file (whole limits f) x.program.command at) (sym (ap start_of x.there))
      (procedure-stands file (alone limits) f.procedures f.main _ (word_count file)
      (file-stood limits file f p e).stands.programs resolved n x.program x.there))

  pub start-of : {ends : List ℕ} → StartsListed file ends f → (n : ℕ) (k : Procedure) → item_at (whole limits f).procedures n ≡ some k →
      start_at file ends n ≡ body_place f n
  start-of {ends} s n k h =
      let x = listed_at n k h in
      let z : n ≡ 0 + n = omega arith in
      ap (start_at file ends) z ∙ starts-at file ends f.procedures f.main 0 s.starts n x.program x.there
      ∙ sym (ap start_of x.there)

  pub count_of : word_count file < payloads → payload_at file 0 ≡ word_count file
  count_of h = remainder 63 (word_count file) _ (file-stood limits file f p e).stands.count h
