-- What the bytes of a file give: a program whose identifiers are below 32, or a refusal: 1 to 7, 16 or 19.
-- Assumes nothing.
--     expression-small, command-small    what fits the layout's ranges
--     file-words                         a file that is read, by its words
--     file-small                         a file's program
--     ReadingNumber, file-refused        a file's refusal
--     counted-some                       a file whose first word counts its words has one
use mathlib.Core.Path.{◌≡◌, refl, sym, subst}
use mathlib.Core.Bool.{Bool, true, false}
use mathlib.Core.List.{List, [], ◌∷◌, ◌++◌}
use mathlib.Core.Logic.{◌⊎◌, inl, inr}
use mathlib.Core.Option.{Option, none, some}
use Prim.Native.Nat.{ℕ, zero, suc, ◌+◌, ◌*◌, ◌≤◌}
use native.Mathlib.Omega.{arith}
use borrow.Author.Tests.{eqb-true}
use lib.Dec.{eqb, ltb}
use Rattle.language.specs.Syntax.{Sort, Expr, constant, scalar, operation, select, compare, truth, and, or, neg}
use Rattle.language.specs.Syntax.{array, zeros, update, to_scalar, to_array}
use Rattle.language.specs.Syntax.{Command, skip, sequence, assert, assign, if_else, while, for, call}
use Rattle.rules.specs.Context.{Limits, within_ranges, Procedure, Context, alone, item_at, body_of}
use Rattle.layout.specs.Bytes.{words_of, word_count, number_at, payloads}
use Rattle.layout.specs.Reading.{Reading, read, fault, on_read, first_place}
use Rattle.layout.specs.Program.{Program, procedure_of, after, after_all}
use Rattle.layout.specs.Call.{wrong_call}
use Rattle.layout.specs.For.{unsteady_at}
use Rattle.layout.specs.Spelling.{FitsExpression, FitsCommand}
use Rattle.layout.specs.FileWords.{ProgramsStand}
use Rattle.layout.specs.File.{File, parts, steady_file, calls_tested, finish, bad_length, words_read, bytes_read, file_of}
use Rattle.layout.proofs.WholeFile.{parts-fault, file-stood}
use Rattle.layout.proofs.Resolved.{item-last}
use Rattle.layout.proofs.Settings.{settings_read}
use Rattle.execution.proofs.Small.{SmallExpression, SmallAssignment, SmallCommand}

expression-small : {k : Sort} (e : Expr k) (d : ℕ) → FitsExpression e d → SmallExpression e
unfolding FitsExpression SmallExpression
expression-small e zero h = absurd h
expression-small (constant z) (suc d) h = tt
expression-small (scalar x) (suc d) h = omega (arith, h)
expression-small (operation o a b) (suc d) h = (expression-small a d h.0, expression-small b d h.1)
expression-small (select f i) (suc d) h = (expression-small f d h.0, expression-small i d h.1)
expression-small (compare r a b) (suc d) h = (expression-small a d h.0, expression-small b d h.1)
expression-small (truth t) (suc d) h = tt
expression-small (and b c) (suc d) h = (expression-small b d h.0, expression-small c d h.1)
expression-small (or b c) (suc d) h = (expression-small b d h.0, expression-small c d h.1)
expression-small (neg b) (suc d) h = expression-small b d h
expression-small (array a) (suc d) h = omega (arith, h)
expression-small zeros (suc d) h = tt
expression-small (update f i a) (suc d) h =
    (expression-small f d h.0, expression-small i d h.1.0, expression-small a d h.1.1)

-- the bodies of a context's procedures
record SmallBodies (l : List Procedure) : Type 0 where
  body : (n : ℕ) (k : Procedure) → item_at l n ≡ some k → SmallCommand k.body

module _ (Γ : Context) (bodies : SmallBodies Γ.procedures) where
  body-small : (n : ℕ) (o : Option Procedure) → item_at Γ.procedures n ≡ o → SmallCommand (body_of o)
  unfolding SmallCommand
  body-small n none e = tt
  body-small n (some k) e = bodies.body n k e

  command-small : (c : Command) (d : ℕ) → FitsCommand Γ c d → SmallCommand c
  unfolding FitsCommand SmallCommand SmallAssignment
  command-small c zero h = absurd h
  command-small skip (suc d) h = tt
  command-small (sequence c₁ c₂) (suc d) h = (command-small c₁ d h.0, command-small c₂ d h.1)
  command-small (assert b) (suc d) h = expression-small b d h
  command-small (assign (to_scalar x e)) (suc d) h = (omega (arith, h.0), expression-small e d h.1)
  command-small (assign (to_array a e)) (suc d) h = (omega (arith, h.0), expression-small e d h.1)
  command-small (if_else b c₁ c₂) (suc d) h =
      (expression-small b d h.0, command-small c₁ d h.1.0, command-small c₂ d h.1.1)
  command-small (while b c) (suc d) h = (expression-small b d h.0, command-small c d h.1)
  command-small (for q m c) (suc d) h = (omega (arith, h.0.0), omega (arith, h.0.1), command-small c d h.1)
  command-small (call n c) (suc d) h = rw h.1 (body-small n (item_at Γ.procedures n) refl)

bodies-after : (l : List Procedure) (x : Procedure) → SmallBodies l → SmallCommand x.body → SmallBodies (l ++ (x ∷ []))
bodies-after l x b s = record {
  body = λ n k e. elim (item-last l x n k e) [ inl h ↦ b.body n k h | inr h ↦ subst (λ y. SmallCommand y.body) (sym h) s ];
}

no-bodies : SmallBodies []
unfolding item_at
no-bodies = record { body = λ n k e. absurd (let z : ◌≡◌ {A = ℕ} 0 1 = cc in omega (arith, z)) }

programs-small : (Γ : Context) (file : List ℕ) (l : List Program) (f : Program) (at p : ℕ) → SmallBodies Γ.procedures →
    ProgramsStand Γ file l f at p → SmallCommand f.command
programs-small Γ file [] f at p b h = command-small Γ b f.command Γ.limits.depth h.1.command.fit
programs-small Γ file (g ∷ l) f at p b h =
    let own = command-small Γ b g.command Γ.limits.depth h.1.command.fit in
    programs-small (after Γ g) file l f g.past p (bodies-after Γ.procedures (procedure_of g) b own) h.2

module _ (limits : Limits) (bytes : List ℕ) where
  -- what was read was read from words
  pub file-words : (f : File) (p : ℕ) → file_of limits bytes ≡ read f p → words_read limits (words_of bytes) ≡ read f p
  unfolding bytes_read
  file-words f p e = go (bad_length bytes) (settings_read limits bytes f p e).was_read
    where
      go : (t : Bool) → elim t [ true ↦ fault 1 0 | false ↦ words_read limits (words_of bytes) ] ≡ read f p →
          words_read limits (words_of bytes) ≡ read f p
      go true e = absurd (let z : ◌≡◌ {A = ℕ} 0 1 = cc in omega (arith, z))
      go false e = e

  pub file-small : (f : File) (p : ℕ) → file_of limits bytes ≡ read f p → SmallCommand f.main.command
  file-small f p e =
      let h = (file-stood limits (words_of bytes) f p (file-words f p e)).stands.programs in
      programs-small (alone limits) (words_of bytes) f.procedures f.main _ _ no-bodies h

-- 1 to 7, 16 or 19
abbrev pub ReadingNumber : ℕ → Type 0
ReadingNumber n = (1 ≤ n) × ((n ≤ 7) ⊎ (16 ≤ n))

abbrev Numbered : Reading File → Type 0
Numbered (read f p) = Unit {0}
Numbered (fault n p) = ReadingNumber n

-- a file whose first word counts its words has one
pub counted-some : (file : List ℕ) → number_at file 0 ≡ 63 * payloads + word_count file → 1 ≤ word_count file
counted-some file e = go file e
  where
    go : (l : List ℕ) → number_at l 0 ≡ 63 * payloads + word_count l → 1 ≤ word_count l
    go [] e = omega (arith, e)
    go (x ∷ l) e = omega arith

module _ (limits : Limits) (file : List ℕ) where
  steady-numbered : (f : File) (p : ℕ) → Numbered (steady_file limits file f p)
  unfolding steady_file
  steady-numbered f p = go (first_place (unsteady_at (after_all (alone limits) f.procedures) file) (word_count file) 0)
    where
      go : (o : Option ℕ) → Numbered (elim o [ none ↦ read f p | some at ↦ fault 7 at ])
      go none = tt
      go (some at) = (omega arith, inl (omega arith))

  called-numbered : (f : File) (p : ℕ) → Numbered (calls_tested limits file f p)
  unfolding calls_tested
  called-numbered f p = go (first_place (wrong_call file f.procedures) (word_count file) 0)
    where
      go : (o : Option ℕ) → Numbered (elim o [ none ↦ steady_file limits file f p | some at ↦ fault 16 at ])
      go none = steady-numbered f p
      go (some at) = (omega arith, inr (omega arith))

  finish-numbered : (f : File) (p : ℕ) → Numbered (finish limits file f p)
  unfolding finish
  finish-numbered f p = go (ltb p (word_count file))
    where
      go : (t : Bool) → Numbered (elim t [ true ↦ fault 6 p | false ↦ calls_tested limits file f p ])
      go true = (omega arith, inl (omega arith))
      go false = called-numbered f p

  parts-numbered : (r : Reading File) → parts limits file ≡ r → 1 ≤ word_count file →
      Numbered (on_read r (finish limits file))
  parts-numbered (read f p) e h = finish-numbered f p
  parts-numbered (fault n p) e h =
      let f = parts-fault limits file n p e h in
      let least = f.least in
      let most = f.most in
      (omega arith, inl (omega arith))

  words-numbered : Numbered (words_read limits file)
  unfolding words_read
  words-numbered = go (eqb (number_at file 0) (63 * payloads + word_count file)) refl
    where
      go : (t : Bool) → eqb (number_at file 0) (63 * payloads + word_count file) ≡ t →
          Numbered (elim t [ true ↦ on_read (parts limits file) (finish limits file) | false ↦ fault 2 0 ])
      go true e = parts-numbered (parts limits file) refl (counted-some file (eqb-true _ _ e))
      go false e = (omega arith, inl (omega arith))

module _ (limits : Limits) (bytes : List ℕ) where
  bytes-numbered : Numbered (bytes_read limits bytes)
  unfolding bytes_read
  bytes-numbered = go (bad_length bytes)
    where
      go : (t : Bool) → Numbered (elim t [ true ↦ fault 1 0 | false ↦ words_read limits (words_of bytes) ])
      go true = (omega arith, inl (omega arith))
      go false = words-numbered limits (words_of bytes)

  file-numbered : Numbered (file_of limits bytes)
  unfolding file_of
  file-numbered = go (within_ranges limits)
    where
      go : (t : Bool) → Numbered (elim t [ true ↦ bytes_read limits bytes | false ↦ fault 19 0 ])
      go true = bytes-numbered
      go false = (omega arith, inr (omega arith))

  pub file-refused : (n p : ℕ) → file_of limits bytes ≡ fault n p → ReadingNumber n
  file-refused n p e = subst Numbered e file-numbered
