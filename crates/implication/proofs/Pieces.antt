-- The words of a boolean, one after the other: connectives and truths, and the ranges of its comparisons. Comparisons
-- do not nest, and the words after a comparison's first are no boolean's.
-- Assumes nothing.
--     Piece, pieces                        a boolean's connectives, truths and comparisons, in order
--     collected, code                      the comparisons and the bytes of pieces
--     collected-pieces, code-pieces        those of a boolean's pieces
--     extends-collected, grown-collected   numbers stay, and the list does not shrink
--     Scan, scan-boolean                   words that have these pieces; those of a boolean
--     is-mark, is-test, is-end             the first piece, by the first word
use mathlib.Core.Path.{◌≡◌, refl, sym, ap, subst, ◌∙◌}
use mathlib.Core.Bool.{Bool, true, false}
use mathlib.Core.List.{List, [], ◌∷◌, ◌++◌}
use mathlib.Core.Logic.{⊎_elim}
use Prim.Native.Nat.{ℕ, zero, suc, ◌+◌, ◌<◌, ◌≤◌}
use native.Mathlib.Omega.{arith}
use lib.IntN.{ℤ, pos}
use lib.ListN.{length, get_or}
use Rattle.language.specs.Syntax.{Sort, Arithmetic, Boolean, Array}
use Rattle.language.specs.Syntax.{Expr, constant, scalar, operation, select, compare, truth, and, or, neg}
use Rattle.language.specs.Syntax.{array, zeros, update}
use Rattle.rules.specs.Words.{Word, word, words, operator_payload, comparison_payload, truth_payload}
use Rattle.rules.specs.Implies.{comparisons}
use Rattle.layout.specs.Bytes.{payloads}
use Rattle.layout.specs.Spelling.{payload_of, encode, FitsExpression}
use Rattle.layout.specs.Nodes.{expression_node}
use Rattle.layout.specs.Standing.{StandsTo, Stands}
use Rattle.layout.proofs.Constant.{payload-small}
use Rattle.layout.proofs.Stands.{stands-end, parted}
use Rattle.layout.proofs.Nodes.{operator_range, comparison_range, node_range}
use Rattle.truth_table.specs.Formula.{fixed_byte, spell}
use Rattle.implication.specs.Scanning.{byte_of, byte_at, Skipped}
use Rattle.implication.specs.Compiling.{Extends, formula, number, Compared}
use Rattle.implication.proofs.WordBytes.{by-low, by_high, by-compare, by-false, by-true, by-other, byte_word}
use Rattle.implication.proofs.Spans.{below, Bare, bare-none, bare-one, bare-join}
use Rattle.implication.proofs.Numbers.{include, extends-self, extends-trans, extends-include, grown-include}

pub data Piece : Type 0 where
  mark : ℕ → Piece
  test : List Word → Piece

-- the pieces of a boolean, in front of others
unfoldable pub pieces : Expr Boolean → List Piece → List Piece
pieces (compare r a b) ps = test (words (compare r a b)) ∷ ps
pieces (truth t) ps = mark (fixed_byte t) ∷ ps
pieces (and b c) ps = mark 18 ∷ pieces b (pieces c ps)
pieces (or b c) ps = mark 19 ∷ pieces b (pieces c ps)
pieces (neg b) ps = mark 20 ∷ pieces b ps

unfoldable pub collected : List Piece → List (List Word) → List (List Word)
collected [] l = l
collected (mark o ∷ ps) l = collected ps l
collected (test c ∷ ps) l = collected ps (include c l)

unfoldable pub code : List (List Word) → List Piece → List ℕ
code m [] = []
code m (mark o ∷ ps) = o ∷ code m ps
code m (test c ∷ ps) = number m c ∷ code m ps

pub collected-pieces : (φ : Expr Boolean) (ps : List Piece) (l : List (List Word)) →
    collected (pieces φ ps) l ≡ collected ps (comparisons φ l)
unfolding pieces collected comparisons
collected-pieces (compare r a b) ps l = refl
collected-pieces (truth t) ps l = refl
collected-pieces (and b c) ps l = collected-pieces b (pieces c ps) l ∙ collected-pieces c ps (comparisons b l)
collected-pieces (or b c) ps l = collected-pieces b (pieces c ps) l ∙ collected-pieces c ps (comparisons b l)
collected-pieces (neg b) ps l = collected-pieces b ps l

pub code-pieces : (m : List (List Word)) (φ : Expr Boolean) (ps : List Piece) →
    code m (pieces φ ps) ≡ spell (formula m φ) (code m ps)
unfolding pieces code formula spell
code-pieces m (compare r a b) ps = refl
code-pieces m (truth t) ps = refl
code-pieces m (and b c) ps =
    ap (λ z. 18 ∷ z) (code-pieces m b (pieces c ps) ∙ ap (spell (formula m b)) (code-pieces m c ps))
code-pieces m (or b c) ps =
    ap (λ z. 19 ∷ z) (code-pieces m b (pieces c ps) ∙ ap (spell (formula m b)) (code-pieces m c ps))
code-pieces m (neg b) ps = ap (λ z. 20 ∷ z) (code-pieces m b ps)

pub extends-collected : (ps : List Piece) (l : List (List Word)) → Extends l (collected ps l)
unfolding collected
extends-collected [] l = extends-self l
extends-collected (mark o ∷ ps) l = extends-collected ps l
extends-collected (test c ∷ ps) l = extends-trans (extends-include c l) (extends-collected ps (include c l))

pub grown-collected : (ps : List Piece) (l : List (List Word)) → length l ≤ length (collected ps l)
unfolding collected
grown-collected [] l = omega arith
grown-collected (mark o ∷ ps) l = grown-collected ps l
grown-collected (test c ∷ ps) l =
    let x = grown-include c l in
    let y = grown-collected ps (include c l) in
    omega arith

-- ---- words of arithmetic and of arrays are no boolean's
unfoldable BareWords : List Word → Type 0
BareWords [] = Unit {0}
BareWords (v ∷ l) = (byte_of (encode v) ≡ 21) × BareWords l

bare-append : (l m : List Word) → BareWords l → BareWords m → BareWords (l ++ m)
unfolding BareWords
bare-append [] m h k = k
bare-append (v ∷ l) m h k = (h.0, bare-append l m h.1 k)

bare-stands : (w : List ℕ) (l : List Word) (a b : ℕ) → StandsTo w a l b → BareWords l → Bare w a b
unfolding BareWords
bare-stands w [] a b s h = bare-none (omega arith)
bare-stands w (v ∷ l) a b s h =
    bare-join (a + 1) (bare-one a (ap byte_of s.1 ∙ h.0)) (bare-stands w l (a + 1) b s.2 h.1)

low_word : (k : ℕ) (z : ℤ) → k < 8 → payload_of z < payloads → byte_of (encode (word k z)) ≡ 21
low_word k z l h = byte_word k z h ∙ by-low k _ l

high_word : (k : ℕ) (z : ℤ) → 12 < k → payload_of z < payloads → byte_of (encode (word k z)) ≡ 21
high_word k z l h = byte_word k z h ∙ by_high k _ l

abbrev NotBoolean : Sort → Type 0
NotBoolean Arithmetic = Unit {0}
NotBoolean Boolean = ⊥
NotBoolean Array = Unit {0}

bare-expression : {k : Sort} (e : Expr k) (d : ℕ) → NotBoolean k → FitsExpression e d → BareWords (words e)
unfolding FitsExpression words BareWords
bare-expression e zero n h = absurd h
bare-expression (constant z) (suc d) n h = (low_word 1 z (omega arith) (payload-small z h), tt)
bare-expression (scalar x) (suc d) n h = (low_word 2 (pos x) (omega arith) (omega arith), tt)
bare-expression (operation o a b) (suc d) n h = (
  low_word 3 (operator_payload o) (omega arith) (operator_range o).0,
  bare-append (words a) (words b) (bare-expression a d tt h.0) (bare-expression b d tt h.1),
)
bare-expression (select a b) (suc d) n h = (
  low_word 4 (pos 0) (omega arith) (omega arith),
  bare-append (words a) (words b) (bare-expression a d tt h.0) (bare-expression b d tt h.1),
)
bare-expression (compare r a b) (suc d) n h = absurd n
bare-expression (truth t) (suc d) n h = absurd n
bare-expression (and a b) (suc d) n h = absurd n
bare-expression (or a b) (suc d) n h = absurd n
bare-expression (neg a) (suc d) n h = absurd n
bare-expression (array a) (suc d) n h = (high_word 16 (pos a) (omega arith) (omega arith), tt)
bare-expression zeros (suc d) n h = (high_word 17 (pos 0) (omega arith) (omega arith), tt)
bare-expression (update a i b) (suc d) n h = (
  high_word 18 (pos 0) (omega arith) (omega arith),
  bare-append (words a) (words i ++ words b) (bare-expression a d tt h.0)
      (bare-append (words i) (words b) (bare-expression i d tt h.1.0) (bare-expression b d tt h.1.1)),
)

-- ---- the words from k up to n have these pieces
pub data Scan (w : List ℕ) (n : ℕ) : ℕ → List Piece → Type 0 where
  scan-end : {k : ℕ} → k ≡ n → Scan w n k []
  scan-mark : {k o : ℕ} {ps : List Piece} → byte_at w k ≡ o → o < 21 → Scan w n (k + 1) ps → Scan w n k (mark o ∷ ps)
  scan-test : {k : ℕ} {ps : List Piece} {c : List Word} (m : ℕ) → k < m → byte_at w k ≡ 22 → Compared w k c m →
      Bare w (k + 1) m → Scan w n m ps → Scan w n k (test c ∷ ps)

module _ (w : List ℕ) (n : ℕ) where
  from : {i j : ℕ} {ps : List Piece} → j ≡ i → Scan w n i ps → Scan w n j ps
  from e s = rw e s

  up-to : {k : ℕ} {ps : List Piece} → Scan w n k ps → k ≤ n
  up-to (scan-end e) = omega arith
  up-to (scan-mark e f s) = let h = up-to s in omega arith
  up-to (scan-test m l e c b s) = let h = up-to s in omega arith

  -- a walk over words of no boolean stops where a piece starts, or at the end
  halts : {k : ℕ} {ps : List Piece} → Scan w n k ps → k < n → byte_at w k ≡ 21 → ⊥
  halts (scan-end e) l h = omega arith
  halts (scan-mark e f s) l h = omega arith
  halts (scan-test m _ e c b s) l h = omega arith

  fixed-sign : (t : Bool) → fixed_byte t < 21
  fixed-sign true = omega arith
  fixed-sign false = omega arith

  fixed-byte : (t : Bool) → byte_of (encode (word 9 (truth_payload t))) ≡ fixed_byte t
  fixed-byte true = byte_word 9 (pos 1) (omega arith) ∙ by-true 9 1 refl (λ e. omega arith)
  fixed-byte false = byte_word 9 (pos 0) (omega arith) ∙ by-false 9 0 refl refl

  connective : (k i : ℕ) → get_or w i 0 ≡ encode (word k (pos 0)) → 10 ≤ k → k ≤ 12 → byte_at w i ≡ k + 8
  connective k i e h l = ap byte_of e ∙ byte_word k (pos 0) (omega arith) ∙ by-other k 0 h l

  pub scan-boolean : (φ : Expr Boolean) (d i j : ℕ) (ps : List Piece) → Stands w (words φ) (FitsExpression φ d) i j →
      Scan w n j ps → Scan w n i (pieces φ ps)
  unfolding words FitsExpression pieces
  scan-boolean φ zero i j ps s t = absurd s.fit
  scan-boolean (compare r a b) (suc d) i j ps s t =
      let e = stands-end w i (words (compare r a b)) j s.stand in
      let l : i < j = omega arith in
      scan-test j l
      (ap byte_of s.stand.1 ∙ byte_word 8 (comparison_payload r) (comparison_range r).0 ∙ by-compare 8 _ refl)
      (record { stand = s.stand; fits = node_range (suc d) (expression_node (compare r a b)) s.fit })
      (bare-stands w (words a ++ words b) (i + 1) j s.stand.2
      (bare-append (words a) (words b)
      (bare-expression a d tt s.fit.0)
      (bare-expression b d tt s.fit.1)))
      t
  scan-boolean (truth v) (suc d) i j ps s t =
      scan-mark (ap byte_of s.stand.1 ∙ fixed-byte v) (fixed-sign v) (from s.stand.2 t)
  scan-boolean (and b c) (suc d) i j ps s t =
      parted (words b) (words c) (record { stand = s.stand.2; fit = s.fit })
      (λ q x y. scan-mark (connective 10 i s.stand.1 (omega arith) (omega arith)) (omega arith)
      (scan-boolean b d (i + 1) q (pieces c ps) x (scan-boolean c d q j ps y t)))
  scan-boolean (or b c) (suc d) i j ps s t =
      parted (words b) (words c) (record { stand = s.stand.2; fit = s.fit })
      (λ q x y. scan-mark (connective 11 i s.stand.1 (omega arith) (omega arith)) (omega arith)
      (scan-boolean b d (i + 1) q (pieces c ps) x (scan-boolean c d q j ps y t)))
  scan-boolean (neg b) (suc d) i j ps s t =
      scan-mark (connective 12 i s.stand.1 (omega arith) (omega arith)) (omega arith)
      (scan-boolean b d (i + 1) j ps (record { stand = s.stand.2; fit = s.fit }) t)

  -- by the word at k
  pub is-mark : {k : ℕ} {ps : List Piece} → Scan w n k ps → k < n → byte_at w k < 21 →
      (qs : List Piece) × (ps ≡ mark (byte_at w k) ∷ qs) × Scan w n (k + 1) qs
  is-mark (scan-end e) l h = absurd (omega arith)
  is-mark (scan-mark {ps = qs} e f s) l h = (qs, ap (λ (o : ℕ). mark o ∷ qs) (sym e), s)
  is-mark (scan-test m _ e c b s) l h = absurd (omega arith)

  -- a comparison's words end where the walk stops
  meet : {k m q : ℕ} {ps : List Piece} → k < m → Bare w (k + 1) m → Scan w n m ps → Skipped w (k + 1) n q → m ≡ q
  meet {k} {m} {q} l b s t =
      ⊎_elim
      (λ (h : m < q). absurd (halts s (let u = t.upto in omega arith) (t.over m (omega arith) h)))
      (λ (h : q ≤ m).
      ⊎_elim
      (λ (g : q < m). absurd (t.stops (let u = up-to s in omega arith) (b.bare q t.from g)))
      (λ (g : m ≤ q). omega arith)
      (below q m))
      (below m q)

  pub is-test : {k q : ℕ} {ps : List Piece} → Scan w n k ps → k < n → 21 ≤ byte_at w k → Skipped w (k + 1) n q →
      (c : List Word) × Compared w k c q × ((qs : List Piece) × (ps ≡ test c ∷ qs) × Scan w n q qs)
  is-test (scan-end e) l h t = absurd (omega arith)
  is-test (scan-mark e g s) l h t = absurd (omega arith)
  is-test {k} {q} (scan-test {ps = qs} {c = c} m g e x b s) l h t =
      let z = meet {k = k} {m = m} {q = q} g b s t in
      (c, subst (λ (i : ℕ). Compared w k c i) z x, (qs, refl, subst (λ (i : ℕ). Scan w n i qs) z s))

  pub is-end : {k : ℕ} {ps : List Piece} → Scan w n k ps → n ≤ k → ps ≡ []
  is-end (scan-end e) l = refl
  is-end (scan-mark e f s) l = let h = up-to s in absurd (omega arith)
  is-end (scan-test m g e c b s) l = let h = up-to s in absurd (omega arith)
