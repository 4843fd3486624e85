-- The workbench call under raised settings (document 02, request [6]): what is put is put, with the same changed file and masks, and the file's
-- own refusals stay but 4 and the 5 of a set's count.
-- Assumes nothing.
--     put-raised, put_refused-raised    what is put; what is refused
--     put_under                         what the call promises
use mathlib.Core.Path.{◌≡◌, refl, sym, ap, ◌∙◌}
use mathlib.Core.Bool.{Bool, true, false}
use mathlib.Core.List.{List, []}
use Prim.Native.Nat.{ℕ, ◌+◌, ◌/◌, ◌%◌}
use native.Mathlib.Omega.{arith}
use lib.Dec.{eqb}
use lib.ListN.{length}
use Rattle.laws.proofs.Bools.{and_left, and_right, and_both, clash}
use Rattle.language.specs.Syntax.{Command}
use Rattle.rules.specs.Context.{Limits, alone}
use Rattle.layout.specs.Bytes.{words_of}
use Rattle.layout.specs.Reading.{Reading, read, fault, on_read}
use Rattle.layout.specs.Read.{command}
use Rattle.layout.specs.File.{File, bytes_read}
use Rattle.layout.proofs.Settings.{in_ranges}
use Rattle.raised.proofs.Files.{read-after, bytes-raised}
use Rattle.claims.specs.Settings.{Raises, Stays}
use Rattle.masks.specs.Masks.{command_at, stored}
use Rattle.masks.specs.WithMasks.{read_lent}
use Rattle.masks.proofs.Raised.{command-raised}
use Rattle.splice.specs.Simple.{simple_to}
use Rattle.replacement.specs.Put.{Replaced, changed, replaceable, or_unread, read_put, PutDone}
use Rattle.flow.specs.CheckedMasks.{PutUnder}
use Rattle.flow.proofs.MasksAfter.{lent-before, raises_limits, lent-refused, lent_still, stored-still}

-- what was not read, and what was
unread : {A B : Type 0} {n p q : ℕ} {b : B} → fault n p ≡ read b q → A
unread e = absurd (let z : ◌≡◌ {A = ℕ} 0 1 = cc in omega (arith, z))

-- a simple command that is read alike
simple-still : (x y : Reading Command) (to : ℕ) → ((c : Command) (p : ℕ) → x ≡ read c p → y ≡ read c p) → simple_to x to ≡ true → simple_to y to ≡ true
simple-still (read c p) y to f h = ap (λ z. simple_to z to) (f c p refl) ∙ h
simple-still (fault n p) y to f h = clash h refl

-- what was read of the changed file is what was said of it
of-changed : (x : Reading File) (f : File) (p : ℕ) → or_unread x ≡ read f p → x ≡ read f p
of-changed (read g q) f p e = e
of-changed (fault k q) f p e = unread e

-- else it is refused by 18
not-changed : (x : Reading File) (k p : ℕ) → or_unread x ≡ fault k p → k ≡ 18
not-changed (read g q) k p e = unread (sym e)
not-changed (fault j q) k p e = let z : 18 ≡ k = cc in sym z

module _ (low high : Limits) (r : Raises low high) (bytes : List ℕ) (place : ℕ) (new : List ℕ) where
  replaceable-still : (f : File) → replaceable low bytes f place new ≡ true → replaceable high bytes f place new ≡ true
  unfolding replaceable
  replaceable-still f h =
      let k = and_right (eqb (length new % 4) 0) _ h in
      let to = place + length new / 4 in
      let old = command_at low (words_of bytes) f place in
      and_both (and_left (eqb (length new % 4) 0) _ h)
      (and_both
      (simple-still old _ to (command-raised (raises_limits r) (words_of bytes) f place) (and_left (simple_to old to) _ k))
      (simple-still (command (alone low) (words_of new) low.depth 0) _ (length new / 4)
      (read-after (words_of new) (raises_limits r) [] [] 0) (and_right (simple_to old to) _ k)))

  -- 18, or the changed file
  abbrev tested : Limits → Bool → Reading File
  tested limits b = elim b [ true ↦ or_unread (bytes_read limits (changed bytes place new)) | false ↦ fault 18 0 ]

  -- what is put: the file was read, and so was the changed one
  pub record WasPut (n : ℕ) (f : File) (p : ℕ) : Type 0 where
    pub contents : File
    pub end : ℕ
    pub was_read : read_lent low bytes n ≡ read contents end
    pub fits : replaceable low bytes contents place new ≡ true
    pub now_read : bytes_read low (changed bytes place new) ≡ read f p

  was-put : (n : ℕ) (f : File) (p : ℕ) → read_put low bytes n place new ≡ read f p → WasPut n f p
  unfolding read_put
  was-put n f p = go (read_lent low bytes n) refl
    where
      by-test : (g : File) (q : ℕ) → read_lent low bytes n ≡ read g q → (b : Bool) → replaceable low bytes g place new ≡ b →
          tested low b ≡ read f p → WasPut n f p
      by-test g q e true h k = record { contents = g; end = q; was_read = e; fits = h; now_read = of-changed _ f p k }
      by-test g q e false h k = unread k

      go : (x : Reading File) → read_lent low bytes n ≡ x → on_read x (λ g q. tested low (replaceable low bytes g place new)) ≡ read f p →
          WasPut n f p
      go (read g q) e h = by-test g q e (replaceable low bytes g place new) refl h
      go (fault k q) e h = unread h

  pub put-raised : (n : ℕ) (f : File) (p : ℕ) → read_put low bytes n place new ≡ read f p → read_put high bytes n place new ≡ read f p
  unfolding read_put
  put-raised n f p e =
      let x = was-put n f p e in
      rw (lent_still low high r bytes n x.contents x.end x.was_read)
      (ap (tested high) (replaceable-still x.contents x.fits)
      ∙ ap or_unread ((bytes-raised (raises_limits r) (changed bytes place new)).read-still f p x.now_read))

  masks-put : (lent : List ℕ) (f : File) (p : ℕ) → read_put low bytes (length lent) place new ≡ read f p →
      stored high (words_of (changed bytes place new)) f lent ≡ stored low (words_of (changed bytes place new)) f lent
  masks-put lent f p e =
      stored-still low high r (changed bytes place new) lent f p
      (in_ranges low (changed bytes place new) r.low-within ∙ (was-put (length lent) f p e).now_read)

  pub put_refused-raised : (n k p : ℕ) → read_put low bytes n place new ≡ fault k p → (k ≡ 18 → ⊥) → Stays low bytes k p →
      read_put high bytes n place new ≡ fault k p
  unfolding read_put
  put_refused-raised n k p = go (read_lent low bytes n) refl
    where
      eighteen : (b : Bool) → tested low b ≡ fault k p → k ≡ 18
      eighteen true e = not-changed (bytes_read low (changed bytes place new)) k p e
      eighteen false e = let z : 18 ≡ k = cc in sym z

      go : (x : Reading File) → read_lent low bytes n ≡ x → on_read x (λ g q. tested low (replaceable low bytes g place new)) ≡ fault k p →
          (k ≡ 18 → ⊥) → Stays low bytes k p → read_put high bytes n place new ≡ fault k p
      go (read g q) e h other s = absurd (other (eighteen (replaceable low bytes g place new) h))
      go (fault j q) e h other s = rw (lent-refused low high r bytes n k p (e ∙ h) s) refl

pub put_under : {limits : Limits} {bytes lent : List ℕ} {place : ℕ} {new : List ℕ} {r : Replaced} {left numbers : List ℕ} →
    PutDone limits bytes lent place new r left numbers → PutUnder limits bytes lent place new r left numbers
put_under {limits} {bytes} {lent} {place} {new} d = record {
  done = d;
  old-answers = lent-before bytes (length lent);
  raised = λ high x. put-raised limits high x bytes place new (length lent);
  masks-raised = λ high x. masks-put limits high x bytes place new lent;
  refused-raised = λ high x. put_refused-raised limits high x bytes place new (length lent);
}
