-- A whole file under raised limits (document 02, request [6]): it is read alike, and a refusal that is not 4 or the 5 of a set's count
-- stays. A 5 that is not there with any count of members is at a set's word whose count is over the limit.
-- Assumes nothing.
--     programs-raised, parts-raised    procedures and the main program; the parts after the first word
--     read-after                       a command after procedures
--     FileRaised, bytes-raised         what raised limits leave of a reading; of bytes
use mathlib.Core.Path.{◌≡◌, refl, sym, ◌∙◌, ap, ap₂, subst}
use mathlib.Core.Bool.{Bool, true, false, ◌&&◌, cond}
use mathlib.Core.List.{List, [], ◌∷◌, ◌++◌}
use mathlib.Core.Logic.{◌⊎◌, inl, inr}
use mathlib.Core.Option.{Option, none, some}
use Prim.Native.Nat.{ℕ, zero, suc, ◌+◌, ◌*◌, ◌<◌}
use native.Mathlib.Omega.{arith}
use borrow.Author.Tests.{eqb-true, ltb-false}
use lib.Dec.{eqb, ltb, leb}
use Rattle.language.specs.Syntax.{Command}
use Rattle.rules.specs.Context.{Limits, Procedure, alone}
use Rattle.layout.specs.Bytes.{words_of, word_count, number_at, kind_at, payload_at, payloads}
use Rattle.layout.specs.Reading.{Reading, read, fault, on_read, allowed, first_place}
use Rattle.layout.specs.Read.{command}
use Rattle.layout.specs.Program.{Program, procedure_of, after_all}
use Rattle.layout.specs.Call.{wrong_call}
use Rattle.layout.specs.For.{unsteady, unsteady_at}
use Rattle.layout.specs.File.{File, programs, procedure_table, parts, steady_file, calls_tested, finish, words_read, bad_length, bytes_read}
use Rattle.layout.specs.FileWords.{FileStands}
use Rattle.layout.proofs.Yields.{YieldsBy, yields-map}
use Rattle.layout.proofs.WholeFile.{programs-yields, PartsTo, parts-yields, parts-inside, CallsAllowed}
use Rattle.layout.proofs.Fors.{for-read, file-fors}
use Rattle.raised.proofs.Judged.{limited}
use Rattle.raised.proofs.Readings.{Any, OverMost, RaisedBy, alike, too-deep, too_many, ReadersRaised, RaisedAt, none-may, all-may}
use Rattle.raised.proofs.Readings.{then-raised, made-raised, made-onward, allowed-raised}
use Rattle.raised.proofs.Readers.{RaisedLimits, command-raised, program-raised}

-- r is read under some limits, t with any count of members, s under raised limits; `most` is the most members at first
pub record FileRaised (file : List ℕ) (most : ℕ) (r t s : Reading File) : Type 0 where
  pub read-still : (f : File) (p : ℕ) → r ≡ read f p → s ≡ read f p
  pub refused-still : (k p : ℕ) → r ≡ fault k p → (k ≡ 4 → ⊥) → (k ≡ 5 → t ≡ fault 5 p) → s ≡ fault k p
  pub count : (p : ℕ) → r ≡ fault 5 p → (t ≡ fault 5 p) ⊎ ((kind_at file p ≡ 32) × (most < payload_at file p))

module _ {file : List ℕ} {most : ℕ} where
  same-raised : {r t s : Reading File} → r ≡ s → ((p : ℕ) → r ≡ fault 5 p → t ≡ fault 5 p) → FileRaised file most r t s
  same-raised e g = record {
    read-still = λ f p x. sym e ∙ x;
    refused-still = λ k p x _ _. sym e ∙ x;
    count = λ p x. inl (g p x);
  }

  deep-raised : {p : ℕ} {t s : Reading File} → FileRaised file most (fault 4 p) t s
  deep-raised = record {
    read-still = λ f q x. absurd (let z : ◌≡◌ {A = ℕ} 0 1 = cc in omega (arith, z));
    refused-still = λ k q x n _. absurd (n (cc));
    count = λ q x. absurd (let z : ◌≡◌ {A = ℕ} 4 5 = cc in omega (arith, z));
  }

  many-raised : {p : ℕ} {t s : Reading File} → OverMost file most p → (t ≡ fault 5 p → ⊥) → FileRaised file most (fault 5 p) t s
  many-raised {p} c n = record {
    read-still = λ f q x. absurd (let z : ◌≡◌ {A = ℕ} 0 1 = cc in omega (arith, z));
    refused-still = λ k q x _ five. absurd (let y = five (cc) in n (cc));
    count = λ q x. let e : p ≡ q = cc in inr (subst (λ i. (kind_at file i ≡ 32) × (most < payload_at file i)) e (c.set_word, c.many));
  }

  -- what was read
  read_again : {A : Type 0} {x y z : Reading A} (a : A) (p : ℕ) → RaisedBy file most x y z → x ≡ read a p → z ≡ read a p
  read_again a p alike e = e
  read_again a p too-deep e = absurd (let z : ◌≡◌ {A = ℕ} 0 1 = cc in omega (arith, z))
  read_again a p (too_many c y) e = absurd (let z : ◌≡◌ {A = ℕ} 0 1 = cc in omega (arith, z))

-- of two tests that agree
first_alike : (t u : ℕ → Bool) (n at : ℕ) → ((i : ℕ) → i < at + n → t i ≡ u i) → first_place t n at ≡ first_place u n at
unfolding first_place
first_alike t u zero at f = refl
first_alike t u (suc n) at f =
    ap₂ (λ b x. elim b [ true ↦ some at | false ↦ x ]) (f at (omega arith)) (first_alike t u n (suc at) λ i l. f i (omega arith))

-- after the parts no refusal is 5
abbrev NotFive : Reading File → Type 0
NotFive (read f p) = Unit {0}
NotFive (fault n p) = n ≡ 5 → ⊥

finish-other : (limits : Limits) (file : List ℕ) (f : File) (p : ℕ) → NotFive (finish limits file f p)
unfolding finish calls_tested steady_file
finish-other limits file f p =
    go (ltb p (word_count file)) (first_place (wrong_call file f.procedures) (word_count file) 0)
    (first_place (unsteady_at (after_all (alone limits) f.procedures) file) (word_count file) 0)
  where
    go : (b : Bool) (o u : Option ℕ) → NotFive (elim b [
      | true ↦ fault 6 p
      | false ↦ elim o [ none ↦ elim u [ none ↦ read f p | some at ↦ fault 7 at ] | some at ↦ fault 16 at ]
    ])
    go true o u = λ e. omega (arith, e)
    go false (some at) u = λ e. omega (arith, e)
    go false none (some at) = λ e. omega (arith, e)
    go false none none = tt

not_five : (r : Reading File) (p : ℕ) → NotFive r → r ≡ fault 5 p → ⊥
not_five (read f q) p h e = let z : ◌≡◌ {A = ℕ} 0 1 = cc in omega (arith, z)
not_five (fault n q) p h e = h (cc)

module _ (file : List ℕ) {low any high : Limits} (h : RaisedLimits low any high) where
  abbrev most : ℕ
  most = low.members

  pub programs-raised : (l : List Procedure) (k : ℕ) →
      ReadersRaised file most (programs (limited low l) file k) (programs (limited any l) file k) (programs (limited high l) file k)
  unfolding programs
  programs-raised l zero = record {
    raised = λ at. made-raised (λ f. record { procedures = []; main = f }) ((program-raised file h l).raised at);
    onward = λ at. yields-map (λ f p _. tt) (programs-yields (limited any l) file zero at);
  }
  programs-raised l (suc k) = record {
    raised = λ at.
        then-raised _ _ _ ((program-raised file h l).raised at)
        (λ g p. made-raised (λ f. record { procedures = g ∷ f.procedures; main = f.main })
        ((programs-raised (l ++ (procedure_of g ∷ [])) k).raised p))
        (λ g p. made-onward _ p ((programs-raised (l ++ (procedure_of g ∷ [])) k).onward p));
    onward = λ at. yields-map (λ f p _. tt) (programs-yields (limited any l) file (suc k) at);
  }

  table-raised : (k : ℕ) → RaisedAt file most 1 (procedure_table low file k) (procedure_table any file k) (procedure_table high file k)
  table-raised k = go (leb 1 k && leb k 16)
    where
      go : (b : Bool) → RaisedAt file most 1 (cond b (some (programs (alone low) file k)) none)
          (cond b (some (programs (alone any) file k)) none) (cond b (some (programs (alone high) file k)) none)
      go true = all-may (programs-raised [] k)
      go false = none-may

  pub parts-raised : RaisedBy file most (parts low file) (parts any file) (parts high file)
  unfolding parts
  parts-raised = go (eqb (kind_at file 1) 62)
    where
      step : Bool → Limits → Reading File
      step b limits = elim b [
        | true ↦ allowed (procedure_table limits file (payload_at file 1)) 1
        | false ↦ programs (alone limits) file 0 1
      ]

      go : (b : Bool) → RaisedBy file most (step b low) (step b any) (step b high)
      go true = allowed-raised (table-raised (payload_at file 1))
      go false = (programs-raised [] 0).raised 1

  -- a command that is read under a context with procedures
  pub read-after : (l : List Procedure) (g : List Program) (at : ℕ) (c : Command) (p : ℕ) →
      command (after_all (limited low l) g) file (after_all (limited low l) g).limits.depth at ≡ read c p →
      command (after_all (limited high l) g) file (after_all (limited high l) g).limits.depth at ≡ read c p
  read-after l [] at c p e = read_again c p ((command-raised file h l low.depth high.depth h.depth).raised at) e
  read-after l (f ∷ g) at c p e = read-after (l ++ (procedure_of f ∷ [])) g at c p e

  module _ (f : File) (s : FileStands low file f) (called : CallsAllowed low file f) where
    unsteady-alike : (at : ℕ) → at < word_count file →
        unsteady_at (after_all (alone low) f.procedures) file at ≡ unsteady_at (after_all (alone high) f.procedures) file at
    unfolding unsteady_at
    unsteady-alike at l = go (eqb (kind_at file at) 31) refl
      where
        test : Bool → Limits → Bool
        test b limits = let Γ = after_all (alone limits) f.procedures in
            elim b [ true ↦ unsteady (command Γ file Γ.limits.depth at) | false ↦ false ]

        go : (b : Bool) → eqb (kind_at file at) 31 ≡ b → test b low ≡ test b high
        go true e =
            let x = file-fors file low f s called at l (eqb-true (kind_at file at) 31 e) in
            let r = for-read file (after_all (alone low) f.procedures) x in
            ap unsteady (r ∙ sym (read-after [] f.procedures at _ _ r))
        go false e = refl

    steady_alike : (p : ℕ) → steady_file low file f p ≡ steady_file high file f p
    unfolding steady_file
    steady_alike p = ap (λ o. elim o [ none ↦ read f p | some at ↦ fault 7 at ])
        (first_alike _ _ (word_count file) 0 λ i l. unsteady-alike i (omega (arith, l)))

  calls-alike : (f : File) (p : ℕ) → FileStands low file f → calls_tested low file f p ≡ calls_tested high file f p
  unfolding calls_tested
  calls-alike f p s = go (first_place (wrong_call file f.procedures) (word_count file) 0) refl
    where
      test : Option ℕ → Limits → Reading File
      test o limits = elim o [ none ↦ steady_file limits file f p | some at ↦ fault 16 at ]

      go : (o : Option ℕ) → first_place (wrong_call file f.procedures) (word_count file) 0 ≡ o → test o low ≡ test o high
      go none e = steady_alike f s e p
      go (some at) e = refl

  module _ (word : number_at file 0 ≡ 63 * payloads + word_count file) where
    finish-alike : (f : File) (p : ℕ) → PartsTo low file f p → finish low file f p ≡ finish high file f p
    unfolding finish
    finish-alike f p x = go (ltb p (word_count file)) refl
      where
        test : Bool → Limits → Reading File
        test b limits = elim b [ true ↦ fault 6 p | false ↦ calls_tested limits file f p ]

        go : (b : Bool) → ltb p (word_count file) ≡ b → test b low ≡ test b high
        go true e = refl
        go false e =
            let k = ltb-false p (word_count file) e in
            let i = parts-inside low file f p x in
            let end : p ≡ word_count file = omega arith in
            calls-alike f p (record { count = word; table = x.table; few = x.few; programs = rw end at x.programs })

    -- past a set's count no refusal is there
    gone-past : (p : ℕ) (t : Reading File) → p < word_count file → YieldsBy file (p + 1) Any t → on_read t (finish any file) ≡ fault 5 p → ⊥
    gone-past p (read f q) l y e = not_five (finish any file f q) p (finish-other any file f q) e
    gone-past p (fault n q) l y e = let z : q ≡ p = cc in omega (arith, z, (y (omega arith)).from)

    finish-raised : {x y z : Reading File} → RaisedBy file most x y z → YieldsBy file 1 (PartsTo low file) x →
        FileRaised file most (on_read x (finish low file)) (on_read y (finish any file)) (on_read z (finish high file))
    finish-raised (alike {r = read f p}) k =
        same-raised (finish-alike f p k.1) (λ q e. absurd (not_five (finish low file f p) q (finish-other low file f p) e))
    finish-raised (alike {r = fault n p}) k = same-raised refl (λ q e. e)
    finish-raised too-deep k = deep-raised
    finish-raised (too_many {p = p} {t = t} c y) k = many-raised c (gone-past p t c.inside y)

  words-raised : FileRaised file most (words_read low file) (words_read any file) (words_read high file)
  unfolding words_read
  words-raised = go (eqb (number_at file 0) (63 * payloads + word_count file)) refl
    where
      test : Bool → Limits → Reading File
      test b limits = elim b [ true ↦ on_read (parts limits file) (finish limits file) | false ↦ fault 2 0 ]

      go : (b : Bool) → eqb (number_at file 0) (63 * payloads + word_count file) ≡ b →
          FileRaised file most (test b low) (test b any) (test b high)
      go true e = finish-raised (eqb-true _ _ e) parts-raised (parts-yields low file)
      go false e = same-raised refl (λ p e. e)

pub bytes-raised : {low any high : Limits} → RaisedLimits low any high → (bytes : List ℕ) →
    FileRaised (words_of bytes) low.members (bytes_read low bytes) (bytes_read any bytes) (bytes_read high bytes)
unfolding bytes_read
bytes-raised {low} {any} {high} h bytes = go (bad_length bytes)
  where
    test : Bool → Limits → Reading File
    test b limits = elim b [ true ↦ fault 1 0 | false ↦ words_read limits (words_of bytes) ]

    go : (b : Bool) → FileRaised (words_of bytes) low.members (test b low) (test b any) (test b high)
    go true = same-raised refl (λ p e. e)
    go false = words-raised (words_of bytes) h
