-- A whole file is read exactly when its parts stand in it by their words (document 01, "Judging order" 2 to 7; document 02, request [3]).
-- Assumes nothing.
--     program-yields, program-stand      what is read of a program, and back
--     programs-yields, programs-stand    of procedures and the main program
--     PartsStand                         the word of a table of procedures, and the programs
--     parts-yields, parts-stood          what is read of the parts after the first word
--     parts-fault                        a refusal
--     parts-stand                        and back
--     program-inside, programs-inside, parts-inside
--                                        they end inside the file
--     FilePassed                         what refusals 2 to 7 leave
--     file-stood, file-back              a file that is read, and back
use mathlib.Core.Path.{◌≡◌, refl, sym, ◌∙◌, ap, subst}
use mathlib.Core.Bool.{Bool, true, false, ◌&&◌, cond}
use mathlib.Core.List.{List, [], ◌∷◌}
use mathlib.Core.Option.{Option, none, some}
use Prim.Native.Nat.{ℕ, zero, suc, ◌+◌, ◌*◌, ◌<◌, ◌≤◌}
use native.Mathlib.Omega.{arith}
use borrow.Author.Tests.{eqb-true, eq-eqb, ne_eqb, ltb-true, ltb-false, le-ltb, leb-true, le-leb}
use lib.Dec.{eqb, ltb, leb}
use lib.IntN.{pos}
use lib.ListN.{length, get_or-eq_default}
use Rattle.language.specs.Syntax.{to_scalar, to_array, Command, skip, sequence, assert, assign, if_else, while, for, call}
use Rattle.rules.specs.Words.{word}
use Rattle.rules.specs.Context.{Limits, Context, alone}
use Rattle.rules.specs.Evidence.{flow}
use Rattle.layout.specs.Bytes.{word_count, number_at, kind_at, payload_at, payloads}
use Rattle.layout.specs.Reading.{Reading, read, fault, on_read, here, allowed, first_place}
use Rattle.layout.specs.Read.{command, set}
use Rattle.layout.specs.ReadEvidence as reading
use Rattle.layout.specs.Program.{Program, program, after, after_all}
use Rattle.layout.specs.Call.{wrong_call}
use Rattle.layout.specs.For.{unsteady_at}
use Rattle.layout.specs.File.{File, programs, procedure_table, parts, steady_file, calls_tested, finish, words_read}
use Rattle.layout.specs.Spelling.{SpelledAt}
use Rattle.layout.specs.EvidenceWords.{command_part, tree_part}
use Rattle.layout.specs.Nodes.{command_node, head_of, kind_of}
use Rattle.layout.specs.FileWords.{ProgramStands, ProgramsStand, table_words, FileStands}
use Rattle.layout.specs.Standing.{PartStands}
use Rattle.layout.proofs.Stands.{stands-inside}
use Rattle.layout.proofs.Words.{found_at}
use Rattle.layout.proofs.Nodes.{kind-at, content-at, with_levels}
use Rattle.layout.proofs.Yields.{FaultAt, Yields, YieldsBy, past-yields, start, ◌▹◌}
use Rattle.layout.proofs.Yields.{yields-here, then-yields, reach_here}
use Rattle.layout.proofs.Spelled.{CommandSpelled, SetSpelled, command-past, set_past}
use Rattle.layout.proofs.SpelledEvidence.{TreeAt, head-inside, evidence-past}
use Rattle.layout.proofs.Back.{Back, begun, ◌⊲◌, command-stands, set-stands}
use Rattle.layout.proofs.BackEvidence.{evidence-stands}

there : (at : ℕ) → Back here at at at
there at = record { back = refl }

module _ (Γ : Context) (file : List ℕ) where
  -- a program that was read from a place up to another
  pub record ProgramTo (at : ℕ) (f : Program) (p : ℕ) : Type 0 where
    pub starts : f.start ≡ at
    pub stands : ProgramStands Γ file f
    pub ends : f.past ≡ p

  pub program-yields : (at : ℕ) → Yields file at (ProgramTo at) (program Γ file)
  program-yields at =
      let d = Γ.limits.depth in
      let body : (q : ℕ) → Yields file q (CommandSpelled file Γ d q) (command Γ file d) =
      λ q. past-yields (command-past file Γ d q) in
      let members : (q : ℕ) → Yields file q (SetSpelled file Γ d q) (set Γ file d) = λ q. past-yields (set_past file Γ d q) in
      let evidence : (q : ℕ) → Yields file q (TreeAt Γ file d q) (reading.evidence Γ file d flow) =
      λ q. past-yields (evidence-past Γ file d flow q) in
      yields-here (yields-here (yields-here (yields-here (yields-here
      (start _ (λ c a s m b t n e u k z v. record {
        starts = refl;
        stands = record { command = s; pre = t; post = u; evidence = v };
        ends = refl;
      })) ▹ body) ▹ members) ▹ members) ▹ evidence)

  pub program-stand : (f : Program) → ProgramStands Γ file f → Back (program Γ file) f.start f f.past
  program-stand f h =
      let d = Γ.limits.depth in
      begun refl ⊲ there _ ⊲ command-stands file Γ d f.command f.start f.pre_at h.command ⊲ there _
      ⊲ set-stands file Γ d f.pre f.pre_at f.post_at h.pre ⊲ there _
      ⊲ set-stands file Γ d f.post f.post_at f.evidence_at h.post ⊲ there _
      ⊲ evidence-stands Γ file d f.evidence f.evidence_at f.past h.evidence ⊲ there _

  pub program-inside : (f : Program) → ProgramStands Γ file f → f.past ≤ word_count file
  program-inside f h =
      stands-inside file f.evidence_at (tree_part Γ f.evidence).spelling f.past h.evidence.stand
      (omega (arith, head-inside Γ file f.evidence Γ.limits.depth f.evidence_at f.past h.evidence))

-- k procedures and the main program
pub record ProgramsTo (Γ : Context) (file : List ℕ) (k at : ℕ) (f : File) (p : ℕ) : Type 0 where
  pub many : length f.procedures ≡ k
  pub stand : ProgramsStand Γ file f.procedures f.main at p

pub programs-yields : (Γ : Context) (file : List ℕ) (k at : ℕ) → Yields file at (ProgramsTo Γ file k at) (programs Γ file k)
unfolding programs
programs-yields Γ file zero at = record {
  yields =
      then-yields file _ _ at (program Γ file at) _ (program-yields Γ file at).yields λ f p h.
      (reach_here p, record { many = refl; stand = (h.starts, h.stands, h.ends) });
}
programs-yields Γ file (suc k) at = record {
  yields =
      then-yields file _ _ at (program Γ file at) _ (program-yields Γ file at).yields λ g p h.
      then-yields file _ _ p (programs (after Γ g) file k p) _ (programs-yields (after Γ g) file k p).yields λ f q x. (
        reach_here q,
        record {
          many = ap suc x.many;
          stand = (h.starts, h.stands, rw h.ends x.stand);
        },
      );
}

pub programs-stand : (Γ : Context) (file : List ℕ) (l : List Program) (f : Program) (at p : ℕ) →
    ProgramsStand Γ file l f at p →
    programs Γ file (length l) at ≡ read (record { procedures = l; main = f }) p
unfolding programs
programs-stand Γ file [] f at p (s, h, e) =
    rw (← s, ← e) (rw (program-stand Γ file f h).back refl)
programs-stand Γ file (g ∷ l) f at p (s, h, x) =
    rw (← s) (rw (program-stand Γ file g h).back (rw (programs-stand (after Γ g) file l f g.past p x) refl))

pub programs-inside : (Γ : Context) (file : List ℕ) (l : List Program) (f : Program) (at p : ℕ) →
    ProgramsStand Γ file l f at p → p ≤ word_count file
programs-inside Γ file [] f at p (s, h, e) = let i = program-inside Γ file f h in omega arith
programs-inside Γ file (g ∷ l) f at p (s, h, x) = programs-inside (after Γ g) file l f g.past p x

-- a word that is not 0 stands inside the file
kind-inside : (file : List ℕ) (at k : ℕ) → kind_at file at ≡ k → 0 < k → at < word_count file
kind-inside file at k e h = go (ltb at (word_count file)) refl
  where
    go : (b : Bool) → ltb at (word_count file) ≡ b → at < word_count file
    go true t = ltb-true at (word_count file) t
    go false t =
        let z = get_or-eq_default file 0 (ltb-false at (word_count file) t) in
        absurd (omega (arith, e, h, z))

module _ (limits : Limits) (file : List ℕ) where
  -- the parts after the first word, up to p: procedures and a main program
  pub record PartsStand (l : List Program) (f : Program) (p : ℕ) : Type 0 where
    pub table : SpelledAt file 1 (table_words l)
    pub few : length l ≤ 16
    pub programs : ProgramsStand (alone limits) file l f (1 + length (table_words l)) p

  abbrev pub PartsTo : File → ℕ → Type 0
  PartsTo f p = PartsStand f.procedures f.main p

  none-stand : (l : List Program) (f : Program) (p : ℕ) → length l ≡ 0 → ProgramsStand (alone limits) file l f 1 p →
      PartsStand l f p
  none-stand [] f p e h = record { table = tt; few = omega arith; programs = h }
  none-stand (g ∷ l) f p e h = absurd (omega (arith, e))

  some-stand : (k : ℕ) (l : List Program) (f : Program) (p : ℕ) → length l ≡ k → 1 ≤ k → k ≤ 16 →
      number_at file 1 ≡ 62 * payloads + k → 1 < word_count file → ProgramsStand (alone limits) file l f 2 p → PartsStand l f p
  some-stand k [] f p e least most n i h = absurd (omega (arith, e, least))
  some-stand k (g ∷ l) f p e least most n i h =
      record { table = (i, n ∙ ap (λ j. 62 * payloads + j) (sym e), tt); few = omega (arith, e, most); programs = h }

  -- a table of procedures
  table-yields : kind_at file 1 ≡ 62 → YieldsBy file 1 PartsTo (allowed (procedure_table limits file (payload_at file 1)) 1)
  table-yields e = go (leb 1 k) (leb k 16) refl refl
    where
      k : ℕ
      k = payload_at file 1

      inside : 1 < word_count file
      inside = kind-inside file 1 62 e (omega arith)

      number : number_at file 1 ≡ 62 * payloads + k
      number = (found_at file 1 inside).number ∙ ap (λ j. j * payloads + k) e

      bad : YieldsBy file 1 PartsTo (fault 5 1)
      bad = λ h. record { least = omega arith; most = omega arith; from = omega arith; inside = h }

      good : 1 ≤ k → k ≤ 16 → (x : Reading File) → YieldsBy file 2 (ProgramsTo (alone limits) file k 2) x →
          YieldsBy file 1 PartsTo x
      good a b (read f p) y = (
        record { from = omega (arith, y.0.from); inside = λ _. y.0.inside inside },
        some-stand k f.procedures f.main p y.1.many a b number inside y.1.stand,
      )
      good a b (fault n p) y = λ _.
          let x = y inside in
          record { least = x.least; most = x.most; from = omega (arith, x.from); inside = x.inside }

      go : (a b : Bool) → leb 1 k ≡ a → leb k 16 ≡ b →
          YieldsBy file 1 PartsTo (allowed (cond (a && b) (some (programs (alone limits) file k)) none) 1)
      go true true a b =
          good (leb-true 1 k a) (leb-true k 16 b) (programs (alone limits) file k 2)
          (programs-yields (alone limits) file k 2).yields
      go true false a b = bad
      go false b a c = bad

  pub parts-yields : YieldsBy file 1 PartsTo (parts limits file)
  unfolding parts
  parts-yields = go (eqb (kind_at file 1) 62) refl
    where
      main : (x : Reading File) → YieldsBy file 1 (ProgramsTo (alone limits) file 0 1) x → YieldsBy file 1 PartsTo x
      main (read f p) y = (y.0, none-stand f.procedures f.main p y.1.many y.1.stand)
      main (fault n p) y = y

      go : (b : Bool) → eqb (kind_at file 1) 62 ≡ b → YieldsBy file 1 PartsTo (elim b [
        | true ↦ allowed (procedure_table limits file (payload_at file 1)) 1
        | false ↦ programs (alone limits) file 0 1
      ])
      go true e = table-yields (eqb-true _ _ e)
      go false e = main (programs (alone limits) file 0 1) (programs-yields (alone limits) file 0 1).yields

  pub parts-stood : (f : File) (p : ℕ) → parts limits file ≡ read f p → PartsTo f p
  parts-stood f p e = (subst (λ x. YieldsBy file 1 PartsTo x) e parts-yields).1

  -- a refusal 3, 4 or 5
  pub parts-fault : (n p : ℕ) → parts limits file ≡ fault n p → 1 ≤ word_count file → FaultAt file 1 n p
  parts-fault n p e = subst (λ x. YieldsBy file 1 PartsTo x) e parts-yields

  pub parts-inside : (f : File) (p : ℕ) → PartsTo f p → p ≤ word_count file
  parts-inside f p h = programs-inside (alone limits) file f.procedures f.main _ p h.programs

  -- a program begins with a command, whose word is not 62:k
  command-kind : (Γ : Context) (c : Command) → kind_of (head_of (command_node Γ c)) < 62
  command-kind Γ skip = omega arith
  command-kind Γ (sequence c d) = omega arith
  command-kind Γ (assert b) = omega arith
  command-kind Γ (assign (to_scalar x e)) = omega arith
  command-kind Γ (assign (to_array a e)) = omega arith
  command-kind Γ (if_else b c d) = omega arith
  command-kind Γ (while b c) = omega arith
  command-kind Γ (for q m c) = omega arith
  command-kind Γ (call n c) = omega arith

  command-first : (c : Command) (d p : ℕ) → PartStands file (command_part (alone limits) c) d 1 p → kind_at file 1 ≡ 62 → ⊥
  command-first c d p s e =
      with_levels (command_node (alone limits) c) d s λ n l o. let k = command-kind (alone limits) c in omega (arith, e, o.kind, k)

  pub parts-stand : (l : List Program) (f : Program) (p : ℕ) → PartsStand l f p →
      parts limits file ≡ read (record { procedures = l; main = f }) p
  unfolding parts
  parts-stand [] f p h =
      let x = h.programs in
      let s = subst (λ i. PartStands file (command_part (alone limits) f.command) limits.depth i f.pre_at) x.0 x.1.command in
      rw (ne_eqb (kind_at file 1) 62 (command-first f.command limits.depth f.pre_at s), parts)
      (programs-stand (alone limits) file [] f 1 p x)
  parts-stand (g ∷ l) f p h =
      let k : ℕ = length (g ∷ l) in
      let small : k < payloads = omega (arith, h.few) in
      rw (eq-eqb (kind_at file 1) 62 (kind-at file 1 (word 62 (pos k)) h.table.1 (small, refl, refl)), parts)
      (rw (content-at file 1 (word 62 (pos k)) h.table.1 (small, refl, refl))
      (rw (le-leb 1 k (omega arith), le-leb k 16 h.few) (programs-stand (alone limits) file (g ∷ l) f 2 p h.programs)))

  -- no call is wrong, no `for` is not well formed
  abbrev pub CallsAllowed : File → Type 0
  CallsAllowed f = first_place (wrong_call file f.procedures) (word_count file) 0 ≡ none

  abbrev pub Steady : File → Type 0
  Steady f = first_place (unsteady_at (after_all (alone limits) f.procedures) file) (word_count file) 0 ≡ none

  -- what refusals 2 to 7 leave of a file
  pub record FilePassed (f : File) (p : ℕ) : Type 0 where
    pub stands : FileStands limits file f
    pub called : CallsAllowed f
    pub steady : Steady f
    pub end : p ≡ word_count file

  -- T holds of what was read
  abbrev IfRead : (File → ℕ → Type 0) → Reading File → Type 0
  IfRead T (read f p) = T f p
  IfRead T (fault n p) = Unit {0}

  -- 7
  steady-read : (f : File) (p : ℕ) → (Steady f → FilePassed f p) → IfRead FilePassed (steady_file limits file f p)
  unfolding steady_file
  steady-read f p k = go (first_place (unsteady_at (after_all (alone limits) f.procedures) file) (word_count file) 0) k
    where
      go : (o : Option ℕ) → (o ≡ none → FilePassed f p) → IfRead FilePassed (elim o [ none ↦ read f p | some at ↦ fault 7 at ])
      go none e = e refl
      go (some at) e = tt

  -- 16
  called-read : (f : File) (p : ℕ) → (CallsAllowed f → Steady f → FilePassed f p) → IfRead FilePassed (calls_tested limits file f p)
  unfolding calls_tested
  called-read f p k = go (first_place (wrong_call file f.procedures) (word_count file) 0) k
    where
      go : (o : Option ℕ) → (o ≡ none → Steady f → FilePassed f p) →
          IfRead FilePassed (elim o [ none ↦ steady_file limits file f p | some at ↦ fault 16 at ])
      go none e = steady-read f p (e refl)
      go (some at) e = tt

  -- 6
  finish-read : (f : File) (p : ℕ) → number_at file 0 ≡ 63 * payloads + word_count file →
      PartsTo f p → IfRead FilePassed (finish limits file f p)
  unfolding finish
  finish-read f p e h = go (ltb p (word_count file)) refl
    where
      go : (t : Bool) → ltb p (word_count file) ≡ t →
          IfRead FilePassed (elim t [ true ↦ fault 6 p | false ↦ calls_tested limits file f p ])
      go true t = tt
      go false t =
          let k = ltb-false p (word_count file) t in
          let i = parts-inside f p h in
          let end : p ≡ word_count file = omega arith in
          called-read f p λ c u. record {
            stands = record { count = e; table = h.table; few = h.few; programs = rw end at h.programs };
            called = c;
            steady = u;
            end = end;
          }

  -- 3 to 7
  parts-read : (x : Reading File) → number_at file 0 ≡ 63 * payloads + word_count file →
      YieldsBy file 1 PartsTo x → IfRead FilePassed (on_read x (finish limits file))
  parts-read (read f p) e h = finish-read f p e h.1
  parts-read (fault n p) e h = tt

  -- 2 to 7
  words-read : IfRead FilePassed (words_read limits file)
  unfolding words_read
  words-read = go (eqb (number_at file 0) (63 * payloads + word_count file)) refl
    where
      go : (t : Bool) → eqb (number_at file 0) (63 * payloads + word_count file) ≡ t →
          IfRead FilePassed (elim t [ true ↦ on_read (parts limits file) (finish limits file) | false ↦ fault 2 0 ])
      go true e = parts-read (parts limits file) (eqb-true _ _ e) parts-yields
      go false e = tt

  pub file-stood : (f : File) (p : ℕ) → words_read limits file ≡ read f p → FilePassed f p
  file-stood f p e = subst (λ x. IfRead FilePassed x) e words-read

  finish-back : (f : File) → CallsAllowed f → Steady f → finish limits file f (word_count file) ≡ read f (word_count file)
  unfolding finish calls_tested steady_file
  finish-back f c e =
      rw (le-ltb (word_count file) (word_count file) (omega arith), finish) (rw (c, calls_tested) (rw (e, steady_file) refl))

  pub file-back : (f : File) (p : ℕ) → FilePassed f p → words_read limits file ≡ read f p
  unfolding words_read
  file-back f p h =
      let x : PartsTo f (word_count file) =
      record { table = h.stands.table; few = h.stands.few; programs = h.stands.programs } in
      rw (eq-eqb _ _ h.stands.count, words_read)
      (rw (parts-stand f.procedures f.main (word_count file) x, h.end) (finish-back f h.called h.steady))
