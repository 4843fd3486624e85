-- A skip, an assert or an assignment read by itself is the one that is read where its words stand in a file.
-- Assumes nothing.
--     SimpleRead, simple-read     what was read is such a command
--     read-stands       what is read stands there
--     simple-inside     where it ends
--     shifted-simple    the law
use mathlib.Core.Path.{◌≡◌, refl, sym, ap, subst, ◌∙◌}
use mathlib.Core.Bool.{Bool, true, false}
use mathlib.Core.List.{List, [], ◌∷◌}
use Prim.Native.Nat.{ℕ, zero, suc, ◌+◌, ◌<◌, ◌≤◌}
use native.Mathlib.Omega.{arith}
use borrow.Author.Tests.{eq-eqb, eqb-true}
use lib.Dec.{eqb}
use lib.ListN.{length}
use Rattle.laws.proofs.Bools.{and_left, and_right, and_both, clash}
use Rattle.language.specs.Syntax.{Command, skip, sequence, assert, assign, to_scalar, to_array, if_else, while, for, call}
use Rattle.rules.specs.Words.{Word, command_words}
use Rattle.rules.specs.Context.{Limits, Context}
use Rattle.layout.specs.Bytes.{word_count, number_at}
use Rattle.layout.specs.Reading.{Reading, read, fault}
use Rattle.layout.specs.Read.{command}
use Rattle.layout.specs.Spelling.{FitsCommand}
use Rattle.layout.specs.Standing.{StandsTo}
use Rattle.layout.proofs.Stands.{stands-end}
use Rattle.layout.proofs.Back.{command-stands}
use Rattle.layout.proofs.Yields.{PastBy}
use Rattle.layout.proofs.Spelled.{CommandSpelled, command-past}
use Rattle.layout.specs.File.{File}
use Rattle.scan.specs.Steady.{file_context}
use Rattle.masks.specs.Masks.{command_at}
use Rattle.splice.specs.Simple.{is_simple, simple_to}

-- what was read is such a command, and ends at a place
pub record SimpleRead (x : Reading Command) (to : ℕ) : Type 0 where
  pub command : Command
  pub is : x ≡ read command to
  pub simple : is_simple command ≡ true

pub simple-read : (x : Reading Command) (to : ℕ) → simple_to x to ≡ true → SimpleRead x to
simple-read (read c p) to h = record {
  command = c;
  is = ap (read c) (eqb-true p to (and_right (is_simple c) (eqb p to) h));
  simple = and_left (is_simple c) (eqb p to) h;
}
simple-read (fault n p) to h = clash refl (sym h)

read-simple : {x : Reading Command} {to : ℕ} (c : Command) → x ≡ read c to → is_simple c ≡ true → simple_to x to ≡ true
read-simple {to = to} c e h = ap (λ y. simple_to y to) e ∙ and_both h (eq-eqb to to refl)

-- no such command holds a call, so any context will do
any-context : (Γ Δ : Context) (c : Command) (d : ℕ) → is_simple c ≡ true → FitsCommand Γ c d → FitsCommand Δ c d
unfolding FitsCommand
any-context Γ Δ c zero h f = absurd f
any-context Γ Δ skip (suc d) h f = f
any-context Γ Δ (sequence c₁ c₂) (suc d) h f = clash refl (sym h)
any-context Γ Δ (assert b) (suc d) h f = f
any-context Γ Δ (assign (to_scalar x e)) (suc d) h f = f
any-context Γ Δ (assign (to_array x e)) (suc d) h f = f
any-context Γ Δ (if_else b c₁ c₂) (suc d) h f = clash refl (sym h)
any-context Γ Δ (while b c) (suc d) h f = clash refl (sym h)
any-context Γ Δ (for q m c) (suc d) h f = clash refl (sym h)
any-context Γ Δ (call n c) (suc d) h f = clash refl (sym h)

-- what is read stands there
pub read-stands : (file : List ℕ) (Γ : Context) (d at : ℕ) {c : Command} {p : ℕ} → command Γ file d at ≡ read c p →
    CommandSpelled file Γ d at c p × (p ≤ word_count file)
read-stands file Γ d at {c} {p} e =
    let x = subst (PastBy file at (CommandSpelled file Γ d at)) e (command-past file Γ d at).past in
    (x.2, x.1)

-- it ends inside the file
pub simple-inside : (file : List ℕ) (limits : Limits) (f : File) (at : ℕ) {to : ℕ} → simple_to (command_at limits file f at) to ≡ true →
    to ≤ word_count file
simple-inside file limits f at {to} h =
    let s = simple-read (command_at limits file f at) to h in
    (read-stands file (file_context limits f) limits.depth at s.is).1

same_truth : (a b : Bool) → (a ≡ true → b ≡ true) → (b ≡ true → a ≡ true) → a ≡ b
same_truth true b f g = sym (f refl)
same_truth false true f g = g refl
same_truth false false f g = refl

-- the words stand in the file from a place on
module _ (words file : List ℕ) (place : ℕ) (room : place + length words ≤ length file)
    (there : (i : ℕ) → i < length words → number_at file (place + i) ≡ number_at words i) where
  forth : (l : List Word) (i p : ℕ) → StandsTo words i l p → StandsTo file (place + i) l (place + p)
  forth [] i p h = ap (λ k. place + k) h
  forth (w ∷ l) i p h =
      let e : place + (i + 1) ≡ place + i + 1 = omega arith in
      (omega (arith, h.0), there i h.0 ∙ h.1, subst (λ k. StandsTo file k l (place + p)) e (forth l (i + 1) p h.2))

  back : (l : List Word) (i p : ℕ) → p ≤ length words → StandsTo file (place + i) l (place + p) → StandsTo words i l p
  back [] i p k h = omega arith
  back (w ∷ l) i p k h =
      let e : place + i + 1 ≡ place + (i + 1) = omega arith in
      let n = stands-end file (place + i) (w ∷ l) (place + p) h in
      let inside : i < length words = omega arith in
      (inside, sym (there i inside) ∙ h.1, back l (i + 1) p k (subst (λ q. StandsTo file q l (place + p)) e h.2))

  module _ (Γ Δ : Context) (d : ℕ) where
    into : simple_to (command Γ words d 0) (length words) ≡ true → simple_to (command Δ file d place) (place + length words) ≡ true
    into h =
        let s = simple-read (command Γ words d 0) (length words) h in
        let c = s.command in
        let t = (read-stands words Γ d 0 s.is).0 in
        let z : place + 0 ≡ place = omega arith in
        read-simple c
        (command-stands file Δ d c place (place + length words) (record {
          stand = subst (λ k. StandsTo file k (command_words c) (place + length words)) z (forth (command_words c) 0 (length words) t.stand);
          fit = any-context Γ Δ c d s.simple t.fit;
        })).back s.simple

    out_of : simple_to (command Δ file d place) (place + length words) ≡ true → simple_to (command Γ words d 0) (length words) ≡ true
    out_of h =
        let s = simple-read (command Δ file d place) (place + length words) h in
        let c = s.command in
        let t = (read-stands file Δ d place s.is).0 in
        let z : place ≡ place + 0 = omega arith in
        read-simple c
        (command-stands words Γ d c 0 (length words) (record {
          stand = back (command_words c) 0 (length words) (omega arith)
              (subst (λ k. StandsTo file k (command_words c) (place + length words)) z t.stand);
          fit = any-context Δ Γ c d s.simple t.fit;
        })).back s.simple

    pub shifted-simple : simple_to (command Γ words d 0) (length words) ≡ simple_to (command Δ file d place) (place + length words)
    shifted-simple = same_truth _ _ into out_of
