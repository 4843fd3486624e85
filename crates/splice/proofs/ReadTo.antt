-- A skip, an assert or an assignment that is read from a place up to another.
-- Assumes nothing.
--     read-simple_to    such a command is read up to a place, by the kind of its first word and a walk
--     read_past, read-other, read_next
--                       the same as the code has it: past the file; at a word of another kind; by a walk that goes on; by one that is refused
--     read-is_simple, read_walk
--                       the kind and the walk of one that is
--     walk-stands, walk-deeper, read-deeper
--                       it stands there; what is read with some levels is read with more
--     kind-bounds       the kinds of these commands
--     low-rest, kinds-below, no-calls, read-ends
--                       its words but for the first are those of an expression; the kinds of all; none is a call; where it ends
use mathlib.Core.Path.{◌≡◌, refl, sym, ap, ap₂, subst, ◌∙◌}
use Rattle.std.specs.Prelude.{Ok, Err, MatchResult}
use mathlib.Core.Bool.{Bool, true, false, ◌&&◌, ◌||◌}
use mathlib.Core.List.{List, [], ◌∷◌, ◌++◌}
use mathlib.Core.Logic.{inl, inr}
use Prim.Native.Nat.{ℕ, ◌+◌, ◌<◌, ◌≤◌}
use native.Mathlib.Omega.{arith}
use borrow.Author.Tests.{eq-eqb, eqb-true}
use lib.Dec.{eqb}
use lib.ListN.{length, get_or, get_or-eq_default}
use Rattle.laws.proofs.Bools.{and_left, and_right, or_cases, clash}
use Rattle.language.specs.Syntax.{Sort, Expr, constant, scalar, operation, select, compare, truth, and, or, neg}
use Rattle.language.specs.Syntax.{array, zeros, update, to_scalar, to_array}
use Rattle.language.specs.Syntax.{Command, skip, sequence, assert, assign, if_else, while, for, call}
use Rattle.rules.specs.Words.{Word, words, command_words}
use Rattle.rules.specs.Context.{Context, alone, standard}
use Rattle.layout.specs.Bytes.{kind_at}
use Rattle.layout.specs.Reading.{Reading, read, fault}
use Rattle.layout.specs.Read.{command}
use Rattle.layout.specs.Nodes.{command_node, kind_of, AllInRange}
use Rattle.layout.specs.Standing.{StandsTo}
use Rattle.layout.proofs.Nodes.{node_deeper, node_range, with_levels, kind-at, node_inside}
use Rattle.layout.proofs.Back.{command-stands}
use Rattle.layout.proofs.Spelled.{CommandSpelled}
use Rattle.reader.specs.Walk.{Walk, walk_of, command_walk}
use Rattle.reader.proofs.Contexts.{command-walk}
use Rattle.reader.proofs.Kept.{walk-read}
use Rattle.ends.specs.Sizes.{sizes}
use Rattle.ends.proofs.Ends.{node_sized}
use Rattle.ends.proofs.Sizes.{lt_or_le}
use Rattle.splice.specs.Simple.{is_simple, simple_to}
use Rattle.splice.specs.SimpleWords.{is_simple_kind, ends_at, read_to}
use Rattle.splice.proofs.SimpleWords.{kind-simple}
use Rattle.splice.proofs.Shift.{SimpleRead, simple-read, read-stands}

-- ---- such a command, by a walk
module _ (file : List ℕ) (Γ : Context) (d at : ℕ) where
  read-kind : {c : Command} {p : ℕ} → command Γ file d at ≡ read c p → is_simple_kind (kind_at file at) ≡ is_simple c
  read-kind {c} e =
      with_levels (command_node Γ c) d (read-stands file Γ d at e).0 λ n m o. ap is_simple_kind o.kind ∙ kind-simple Γ c

  pub read-simple_to : (to : ℕ) → read_to file d at to ≡ simple_to (command Γ file d at) to
  unfolding read_to
  read-simple_to to = ap (λ (x : Walk). is_simple_kind (kind_at file at) && ends_at x to) (command-walk Γ file d at) ∙ go (command Γ file d at) refl
    where
      none_left : (b : Bool) → (b && false) ≡ false
      none_left true = refl
      none_left false = refl

      go : (x : Reading Command) → command Γ file d at ≡ x → (is_simple_kind (kind_at file at) && ends_at (walk_of x) to) ≡ simple_to x to
      go (read c p) e = ap (λ b. b && eqb p to) (read-kind e)
      go (fault n p) e = none_left (is_simple_kind (kind_at file at))

walk-to : (x : Walk) (to : ℕ) → ends_at x to ≡ true → x ≡ Ok to
walk-to (Ok p) to e = ap Ok (eqb-true p to e)
walk-to (Err x) to e = clash refl (sym e)

module _ (file : List ℕ) (d at to : ℕ) (h : read_to file d at to ≡ true) where
  pub read-is_simple : is_simple_kind (kind_at file at) ≡ true
  unfolding read_to
  read-is_simple = and_left (is_simple_kind (kind_at file at)) (ends_at (command_walk file d at) to) h

  pub read_walk : command_walk file d at ≡ Ok to
  unfolding read_to
  read_walk = walk-to (command_walk file d at) to (and_right (is_simple_kind (kind_at file at)) (ends_at (command_walk file d at) to) h)

-- as the code has them: r is what was returned for the walk
module _ (file : List ℕ) (d at to : ℕ) where
  pub read-other : is_simple_kind (kind_at file at) ≡ false → false ≡ read_to file d at to
  unfolding read_to
  read-other h = sym (ap (λ b. b && ends_at (command_walk file d at) to) h)

  pub read_past : length file ≤ at → false ≡ read_to file d at to
  unfolding is_simple_kind
  read_past h = read-other (rw (get_or-eq_default file 0 h) refl)

  module _ (h : is_simple_kind (kind_at file at) ≡ true) {r : Walk} (e : r ≡ command_walk file d at) where
    pub read_next : {P : ℕ → Type 0} {b : Bool} → MatchResult r P (λ _. b ≡ false) → ((p : ℕ) → P p → b ≡ eqb p to) →
        b ≡ read_to file d at to
    unfolding read_to
    read_next {P} {b} m f = go r m ∙ ap₂ (λ a (x : Walk). a && ends_at x to) (sym h) e
      where
        go : (x : Walk) → MatchResult x P (λ _. b ≡ false) → b ≡ ends_at x to
        go (Ok p) m = f p m
        go (Err x) m = m

-- what is read with some levels is read with more, and stands there
pub walk-stands : (file : List ℕ) (d at p : ℕ) → command_walk file d at ≡ Ok p →
    (c : Command) × (command (alone standard) file d at ≡ read c p)
walk-stands file d at p e = walk-read (command (alone standard) file d at) p e

pub walk-deeper : (file : List ℕ) (d n at p : ℕ) → d ≤ n → command_walk file d at ≡ Ok p → command_walk file n at ≡ Ok p
walk-deeper file d n at p l e =
    let x = walk-stands file d at p e in
    let s = (read-stands file (alone standard) d at x.1).0 in
    ap walk_of (command-stands file (alone standard) n x.0 at p (record {
      stand = s.stand;
      fit = node_deeper d n l (command_node (alone standard) x.0) s.fit;
    })).back

pub read-deeper : (file : List ℕ) (d n at to : ℕ) → d ≤ n → read_to file d at to ≡ true → read_to file n at to ≡ true
unfolding read_to
read-deeper file d n at to l h =
    ap₂ (λ a (x : Walk). a && ends_at x to) (read-is_simple file d at to h) (walk-deeper file d n at to l (read_walk file d at to h))
    ∙ eq-eqb to to refl

pub kind-bounds : (k : ℕ) → is_simple_kind k ≡ true → (24 ≤ k) × (k ≤ 28)
unfolding is_simple_kind
kind-bounds k h = elim (or_cases (eqb k 24) (eqb k 26 || (eqb k 27 || eqb k 28)) h) [
  | inl a ↦ let e = eqb-true k 24 a in (omega arith, omega arith)
  | inr b ↦ elim (or_cases (eqb k 26) (eqb k 27 || eqb k 28) b) [
    | inl a ↦ let e = eqb-true k 26 a in (omega arith, omega arith)
    | inr c ↦ elim (or_cases (eqb k 27) (eqb k 28) c) [
      | inl a ↦ let e = eqb-true k 27 a in (omega arith, omega arith)
      | inr a ↦ let e = eqb-true k 28 a in (omega arith, omega arith)
    ]
  ]
]

-- ---- the words of such a command but for its first are those of an expression
-- words of kinds below those of commands
abbrev Low : List Word → Type 0
Low [] = Unit {0}
Low (x ∷ l) = (kind_of x < 24) × Low l

low-append : (l m : List Word) → Low l → Low m → Low (l ++ m)
low-append [] m h k = k
low-append (x ∷ l) m h k = (h.0, low-append l m h.1 k)

expression-low : {j : Sort} (e : Expr j) → Low (words e)
unfolding words
expression-low (constant z) = (omega arith, tt)
expression-low (scalar x) = (omega arith, tt)
expression-low (operation o a b) = (omega arith, low-append (words a) (words b) (expression-low a) (expression-low b))
expression-low (select a i) = (omega arith, low-append (words a) (words i) (expression-low a) (expression-low i))
expression-low (compare r a b) = (omega arith, low-append (words a) (words b) (expression-low a) (expression-low b))
expression-low (truth t) = (omega arith, tt)
expression-low (and a b) = (omega arith, low-append (words a) (words b) (expression-low a) (expression-low b))
expression-low (or a b) = (omega arith, low-append (words a) (words b) (expression-low a) (expression-low b))
expression-low (neg b) = (omega arith, expression-low b)
expression-low (array a) = (omega arith, tt)
expression-low zeros = (omega arith, tt)
expression-low (update a i b) = (
  omega arith,
  low-append (words a) (words i ++ words b) (expression-low a)
      (low-append (words i) (words b) (expression-low i) (expression-low b)),
)

-- all but the first
abbrev LowRest : List Word → Type 0
LowRest [] = Unit {0}
LowRest (x ∷ l) = Low l

simple-low : (c : Command) → is_simple c ≡ true → LowRest (command_words c)
unfolding command_words
simple-low skip h = tt
simple-low (sequence c d) h = clash refl (sym h)
simple-low (assert b) h = expression-low b
simple-low (assign (to_scalar x e)) h = expression-low e
simple-low (assign (to_array x e)) h = expression-low e
simple-low (if_else b c d) h = clash refl (sym h)
simple-low (while b c) h = clash refl (sym h)
simple-low (for q m c) h = clash refl (sym h)
simple-low (call n c) h = clash refl (sym h)

low-at : (file : List ℕ) (l : List Word) (at p : ℕ) → StandsTo file at l p → Low l → AllInRange l → (i : ℕ) → at ≤ i → i < p →
    kind_at file i < 24
low-at file [] at p s h r i k m = absurd (omega arith)
low-at file (x ∷ l) at p s h r i k m = elim (lt_or_le at i) [
  | inl n ↦ low-at file l (at + 1) p s.2 h.1 r.1 i (omega arith) m
  | inr n ↦
      let e : at ≡ i = omega arith in
      subst (λ j. kind_at file j < 24) e (let z = kind-at file at x s.1 r.0 in omega (arith, z, h.0))
]

rest_at : (file : List ℕ) (l : List Word) (at p : ℕ) → StandsTo file at l p → LowRest l → AllInRange l → (i : ℕ) → at < i → i < p →
    kind_at file i < 24
rest_at file [] at p s h r i k m = absurd (omega arith)
rest_at file (x ∷ l) at p s h r i k m = low-at file l (at + 1) p s.2 h r.1 i (omega arith) m

module _ (file : List ℕ) (d at to : ℕ) (h : read_to file d at to ≡ true) where
  abbrev Γ : Context
  Γ = alone standard

  it : SimpleRead (command Γ file d at) to
  it = simple-read (command Γ file d at) to (sym (read-simple_to file Γ d at to) ∙ h)

  stood : CommandSpelled file Γ d at it.command to
  stood = (read-stands file Γ d at it.is).0

  pub low-rest : (i : ℕ) → at < i → i < to → kind_at file i < 24
  low-rest i l m =
      let c = it.command in
      rest_at file (command_words c) at to stood.stand (simple-low c it.simple) (node_range d (command_node Γ c) stood.fit) i l m

  pub kinds-below : (i : ℕ) → at ≤ i → i < to → kind_at file i ≤ 28
  kinds-below i l m = elim (lt_or_le at i) [
    | inl n ↦ let z = low-rest i n m in omega arith
    | inr n ↦
        let e : at ≡ i = omega arith in
        let b = kind-bounds (kind_at file at) (read-is_simple file d at to h) in
        let y : kind_at file at ≡ kind_at file i = ap (kind_at file) e in
        omega (arith, b.1, y)
  ]

  pub no-calls : (i : ℕ) → at ≤ i → i < to → kind_at file i ≡ 38 → ⊥
  no-calls i l m k = let z = kinds-below i l m in omega (arith, z, k)

  -- it ends in the file, where its size says
  pub read-ends : (at < to) × (to ≤ length file) × (at + get_or (sizes file) at 0 ≡ to)
  read-ends =
      let x = command_node Γ it.command in
      let i = node_inside x stood in
      (i.start, i.within, (node_sized file d x at to stood).size)
