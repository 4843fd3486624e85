-- A whole file: the places of its parts and the starts of its programs as the readers find them, and refusals 2 to 7 and 16 in
-- order.
-- Assumes nothing.
--     word-inside                            a word that is not 0 stands inside the file
--     located_fault                          a file that is refused
--     no_table, some-table, wrong_table      with no table of procedures; with one; with 62:k and a k that is not allowed
--     ended-read, not-headed, headed-read    refusals 2 and 6, as the code has them
--     words-read                             the layout's `words_read` is `read_of`, then refusals 16 and 7
--     refused-file                           what a refusal says of what was read
use mathlib.Core.Path.{◌≡◌, refl, ◌∙◌, ap}
use mathlib.Core.Bool.{Bool, true, false, ◌&&◌, cond}
use mathlib.Core.List.{List}
use mathlib.Core.Option.{none, some}
use Prim.Native.Nat.{ℕ, suc, ◌<◌, ◌≤◌}
use native.Mathlib.Omega.{arith}
use borrow.Author.Tests.{eq-eqb, ne_eqb, ltb-true, ltb-false, le-leb, leb-true}
use lib.Dec.{ltb, leb}
use lib.ListN.{length, get_or-eq_default}
use Rattle.std.specs.Prelude.{Err}
use Rattle.rules.specs.Context.{Limits, alone}
use Rattle.layout.specs.Bytes.{word_count, kind_at, payload_at}
use Rattle.layout.specs.Reading.{Reading, read, fault, on_read, allowed}
use Rattle.layout.specs.File.{File, programs, parts, calls_tested, finish, words_read}
use Rattle.context.specs.Contexts.{refusal}
use Rattle.context.specs.declared.Refusal.{Refusal}
use Rattle.reader.specs.Walk.{onward}
use Rattle.reader.specs.Program.{Layout}
use Rattle.reader.specs.File.{places_of, Located, ended, end_of, headed, read_of}

-- a word that is not 0 stands inside the file
pub word-inside : (w : List ℕ) (at k : ℕ) → kind_at w at ≡ suc k → at < word_count w
word-inside w at k e = go (ltb at (word_count w)) refl
  where
    go : (t : Bool) → ltb at (word_count w) ≡ t → at < word_count w
    go true t = ltb-true at (word_count w) t
    go false t =
        let z = get_or-eq_default w 0 (ltb-false at (word_count w) t) in
        absurd (omega (arith, e, z))

pub located_fault : {lent left : List ℕ} (n p : ℕ) → length left ≡ length lent →
    Located (fault n p) lent left (Err (refusal n p))
located_fault n p e = record {
  places = refl;
  size = e;
  starts = λ f q h. absurd (let z : ◌≡◌ {A = ℕ} 0 1 = cc in omega arith);
}

-- ---- the table of procedures, as the code has it: k is the kind of word 1, n its payload
module _ (limits : Limits) (w : List ℕ) {lent left : List ℕ} where
  pub no_table : {r : Layout} {k : ℕ} → k ≡ kind_at w 1 → (k ≡ 62 → ⊥) → Located (programs (alone limits) w 0 1) lent left r →
      Located (parts limits w) lent left r
  unfolding parts
  no_table e h l =
      let z : parts limits w ≡ programs (alone limits) w 0 1 = rw (ne_eqb (kind_at w 1) 62 (λ f. h (e ∙ f)), parts) refl in
      rw z l

  module _ (table : kind_at w 1 ≡ 62) {n : ℕ} (e : n ≡ payload_at w 1) where
    pub some-table : {r : Layout} → 1 ≤ n → n ≤ 16 → Located (programs (alone limits) w n 2) lent left r →
        Located (parts limits w) lent left r
    unfolding parts
    some-table a b l =
        let z : parts limits w ≡ programs (alone limits) w n 2 =
        rw (eq-eqb _ _ table, parts, ← e) (simp (le-leb _ _ a, le-leb _ _ b)) in
        rw z l

    pub wrong_table : (1 ≤ n → n ≤ 16 → ⊥) → length left ≡ length lent →
        Located (parts limits w) lent left (Err (refusal 5 1))
    unfolding parts
    wrong_table h size =
        let z : parts limits w ≡ fault 5 1 =
        rw (eq-eqb _ _ table, parts, ← e) (go (leb 1 n) refl (leb n 16) refl) in
        rw z (located_fault 5 1 size)
      where
        go : (t : Bool) → leb 1 n ≡ t → (u : Bool) → leb n 16 ≡ u →
            allowed (cond (t && u) (some (programs (alone limits) w n)) none) 1 ≡ fault 5 1
        go true a true b = absurd (h (leb-true _ _ a) (leb-true _ _ b))
        go true a false b = refl
        go false a u b = refl

-- ---- refusals 2 and 6
pub ended-read : (w : List ℕ) (x : Reading File) (f : File) (p : ℕ) → on_read x (ended w) ≡ read f p →
    (x ≡ read f p) × (word_count w ≤ p)
unfolding ended
ended-read w (read g q) f p h = go (ltb q (word_count w)) refl h
  where
    go : (t : Bool) → ltb q (word_count w) ≡ t →
        elim t [ true ↦ fault 6 q | false ↦ read g q ] ≡ read f p → (read g q ≡ read f p) × (word_count w ≤ p)
    go true t k = absurd (let z : ◌≡◌ {A = ℕ} 0 1 = cc in omega arith)
    go false t k =
        let l = ltb-false q (word_count w) t in
        let e : q ≡ p = cc in
        (k, omega arith)
ended-read w (fault n q) f p h = absurd (let z : ◌≡◌ {A = ℕ} 0 1 = cc in omega arith)

module _ (limits : Limits) (w : List ℕ) where
  read-unheaded : headed w ≡ false → read_of limits w ≡ fault 2 0
  unfolding read_of
  read-unheaded h = rw (h, read_of) refl

  read-headed : headed w ≡ true → read_of limits w ≡ on_read (parts limits w) (ended w)
  unfolding read_of
  read-headed h = rw (h, read_of) refl

  pub not-headed : {l : List ℕ} → headed w ≡ false → Located (read_of limits w) l l (Err (refusal 2 0))
  not-headed h = rw (read-unheaded h) (located_fault 2 0 refl)

  end-places : (x : Reading File) → onward (places_of x) (end_of w) ≡ places_of (on_read x (ended w))
  unfolding ended
  end-places (read f p) = go (ltb p (word_count w))
    where
      go : (t : Bool) →
          cond t (Err (refusal 6 p)) (places_of (read f p))
          ≡ places_of (elim t [ true ↦ fault 6 p | false ↦ read f p ])
      go true = refl
      go false = refl
  end-places (fault n p) = refl

  -- r is what was found of the parts, k what is left of it by the end of the file
  pub headed-read : {lent left : List ℕ} {r k : Layout} → headed w ≡ true → Located (parts limits w) lent left r →
      k ≡ onward r (end_of w) → Located (read_of limits w) lent left k
  headed-read {lent} {left} {r} {k} h l e = rw (read-headed h) (record {
    places = e ∙ ap (λ (z : Layout). onward z (end_of w)) l.places ∙ end-places (parts limits w);
    size = l.size;
    starts = λ f p x. l.starts f p (ended-read w (parts limits w) f p x).0;
  })

  -- refusals 16 and 7 come behind refusals 2 to 6
  finish-called : (x : Reading File) →
      on_read x (finish limits w) ≡ on_read (on_read x (ended w)) (calls_tested limits w)
  unfolding finish ended
  finish-called (read f p) = go (ltb p (word_count w))
    where
      go : (t : Bool) →
          elim t [ true ↦ fault 6 p | false ↦ calls_tested limits w f p ]
          ≡ on_read (elim t [ true ↦ fault 6 p | false ↦ read f p ]) (calls_tested limits w)
      go true = refl
      go false = refl
  finish-called (fault n p) = refl

  pub words-read : words_read limits w ≡ on_read (read_of limits w) (calls_tested limits w)
  unfolding words_read read_of
  words-read = go (headed w)
    where
      go : (t : Bool) →
          elim t [ true ↦ on_read (parts limits w) (finish limits w) | false ↦ fault 2 0 ]
          ≡ on_read (elim t [ true ↦ on_read (parts limits w) (ended w) | false ↦ fault 2 0 ]) (calls_tested limits w)
      go true = finish-called (parts limits w)
      go false = refl

pub refused-file : (x : Reading File) (r : Refusal) → Err r ≡ places_of x → x ≡ fault r.number r.place
refused-file (read f q) r e = let z : ◌≡◌ {A = ℕ} 0 1 = cc in absurd (omega arith)
refused-file (fault m q) r e = cc
