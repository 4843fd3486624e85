-- The walk that compiles a boolean: what holds when the place k is reached, and each step.
-- Assumes nothing.
--     known-found, known-missed, known-new    a comparison among those known
--     other-word                              a word that is no connective and no truth
--     Mid, Compilation                        the pieces from k on are still to come; for every boolean there
--     walk_start, walk_end, walk-full         the walk's start and its ends
--     walk-mark, walk-find                    one piece; what finding a comparison requires
--     walk-old, walk-new                      a comparison that is known, or is not
use mathlib.Core.Path.{◌≡◌, refl, sym, ap, subst, ◌∙◌}
use mathlib.Core.Bool.{true, false}
use mathlib.Core.List.{List, [], ◌∷◌, ◌++◌, append_assoc, append-nil}
use mathlib.Core.Logic.{◌⊎◌, ⊎_elim}
use Prim.Native.Nat.{ℕ, ◌+◌, ◌-◌, ◌<◌, ◌≤◌}
use native.Mathlib.Nat.{eq-or-lt_of_le}
use native.Mathlib.Numerals.{add-one}
use native.Mathlib.Omega.{arith}
use lib.ListN.{length, get_or, take, set, length-set, length-append, get_or-append}
use lib.Seq.{take-suc-set, get_or-append_seam}
use Rattle.std.specs.Prelude.{◌≢◌}
use Rattle.language.specs.Syntax.{Boolean, Expr}
use Rattle.rules.specs.Words.{Word}
use Rattle.rules.specs.Implies.{among_words, comparisons}
use Rattle.truth_table.specs.Formula.{spell}
use Rattle.implication.specs.declared.scan.Role.{Role}
use Rattle.implication.specs.declared.scan.Role.TheVariants.{Byte, Comparison, Inside}
use Rattle.implication.specs.Sides.{RangeFits}
use Rattle.implication.specs.Scanning.{byte_of, byte_at, IsRole, Skipped, span_at, Ranges, CanFind, Missed, FoundAt}
use Rattle.implication.specs.Compiling.{number, entry, Extends, formula, Compared, Known, FormulaWritten}
use Rattle.implication.specs.Compiling.{CanCompile, Coded, Compiled, Overfull}
use Rattle.implication.proofs.Encodings.{same-comparison, comparison_same}
use Rattle.implication.proofs.Numbers.{include, entry-last, entry_old, number-new, number-found, number-missed}
use Rattle.implication.proofs.Numbers.{Listed, extends-trans, listed}
use Rattle.implication.proofs.Pieces.{Piece, pieces, collected, code, collected-pieces, code-pieces}
use Rattle.implication.proofs.Pieces.{extends-collected, grown-collected, Scan, scan-end, scan-boolean}
use Rattle.implication.proofs.Pieces.{is-mark, is-test, is-end}

-- ---- a comparison among those known
module _ {w : List ℕ} {t : List (ℕ × ℕ)} {k q : ℕ} {l : Listed} {c : List Word}
    (K : Known w t l) (x : Compared w k c q) where
  none_below : {n : ℕ} → n ≤ length t → Missed w k q t n → (i : ℕ) → i < n → entry l i ≡ c → ⊥
  none_below m F i h e = F.missed i h (comparison_same (K.each i (omega arith)) x e)

  known-found : {j : ℕ} → FoundAt w k q t j → (among_words c l ≡ true) × (number l c ≡ j)
  known-found {j} F =
      let i = F.inside in
      number-found l c j (let e = K.count in omega arith) (same-comparison (K.each j F.inside) x F.found)
      (none_below (omega arith) F.first)

  known-missed : Missed w k q t (length t) → among_words c l ≡ false
  known-missed F = number-missed l c (λ i b. none_below (omega arith) F i (let e = K.count in omega arith))

at_most : {i n : ℕ} → i < n + 1 → i ≤ n
at_most h = omega arith

-- with one more range, that of the last is the new one, and the others stay
span_last : (t : List (ℕ × ℕ)) (x : ℕ × ℕ) (i : ℕ) → i ≡ length t → span_at (t ++ x ∷ []) i ≡ x
span_last t x i e = ap (span_at (t ++ x ∷ [])) e ∙ get_or-append_seam t x [] (0, 0)

span_old : (t : List (ℕ × ℕ)) (x : ℕ × ℕ) (i : ℕ) → i < length t → span_at (t ++ x ∷ []) i ≡ span_at t i
span_old t x i h = get_or-append t (x ∷ []) (0, 0) i h

longer : (t : List (ℕ × ℕ)) (x : ℕ × ℕ) → length (t ++ x ∷ []) ≡ length t + 1
longer t x = length-append t (x ∷ [])

known-new : {w : List ℕ} {t : List (ℕ × ℕ)} {k q : ℕ} {l : Listed} {c : List Word} → Known w t l →
    Compared w k c q → Known w (t ++ (k, q) ∷ []) (c ∷ l)
known-new {w} {t} {k} {q} {l} {c} K x = record {
  count = let e = K.count in omega (arith, longer t (k, q));
  each = λ i h.
      ⊎_elim
      (λ (e : i ≡ length t).
      compared (span_last t (k, q) i e) (ap (entry (c ∷ l)) (e ∙ sym K.count) ∙ entry-last c l) x)
      (λ (e : i < length t).
      compared (span_old t (k, q) i e) (entry_old c l i (let f = K.count in omega arith)) (K.each i e))
      (eq-or-lt_of_le (at_most (rw longer at h)));
}
  where
    compared : {s r : ℕ × ℕ} {d e : List Word} → s ≡ r → d ≡ e → Compared w r.0 e r.1 → Compared w s.0 d s.1
    compared u v y = rw (u, v) y

ranges-new : {w : List ℕ} {t : List (ℕ × ℕ)} {k q : ℕ} → Ranges w t → length t < 16 → k ≤ q → q ≤ length w →
    Ranges w (t ++ (k, q) ∷ [])
ranges-new {w} {t} {k} {q} R h l m = record {
  few = omega (arith, longer t (k, q));
  each = λ i b.
      ⊎_elim
      (λ (e : i ≡ length t). range (span_last t (k, q) i e) (l, m))
      (λ (e : i < length t). range (span_old t (k, q) i e) (R.each i e))
      (eq-or-lt_of_le (at_most (rw longer at b)));
}
  where
    range : {s r : ℕ × ℕ} → s ≡ r → (r.0 ≤ r.1) × (r.1 ≤ length w) → (s.0 ≤ s.1) × (s.1 ≤ length w)
    range u y = rw u y

include-old : (c : List Word) (l : Listed) → among_words c l ≡ true → include c l ≡ l
include-old c l h = rw h

include-new : (c : List Word) (l : Listed) → among_words c l ≡ false → include c l ≡ c ∷ l
include-new c l h = rw h

-- a word that is no connective and no truth
pub other-word : (x : ℕ) (r : Role) → IsRole x r → (r ≡ Comparison) ⊎ (r ≡ Inside) → 21 ≤ byte_of x
other-word x r h u =
    ⊎_elim
    (λ e. let y : IsRole x Comparison = subst (IsRole x) e h in omega arith)
    (λ e. let y : IsRole x Inside = subst (IsRole x) e h in omega arith) u

-- ---- the pieces from k on are still to come
record Mid
    (w : List ℕ) (end len₀ : ℕ) (prog₀ : List ℕ) (φ : Expr Boolean) (l₀ : Listed) (len k : ℕ)
    (t : List (ℕ × ℕ)) (prog : List ℕ) : Type 0 where
  rest : List Piece
  l : Listed
  scan : Scan w end k rest
  known : Known w t l
  gathered : collected rest l ≡ comparisons φ l₀
  coded : (m : Listed) → Extends (collected rest l) m →
      take len prog ++ code m rest ≡ take len₀ prog₀ ++ spell (formula m φ) []

-- the bytes with one more
more_bytes : (prog : List ℕ) (len v : ℕ) (r : List ℕ) → len < length prog →
    take (len + 1) (set prog len v) ++ r ≡ take len prog ++ v ∷ r
more_bytes prog len v r l =
    ap (λ (z : List ℕ). z ++ r) (ap (λ (j : ℕ). take j (set prog len v)) (add-one len) ∙ take-suc-set prog len v l) ∙
    append_assoc (take len prog) (v ∷ []) r

module _ {w : List ℕ} {end len₀ : ℕ} {prog₀ : List ℕ} {φ : Expr Boolean} {l₀ : Listed} {len k : ℕ}
    {t : List (ℕ × ℕ)} {prog : List ℕ} (M : Mid w end len₀ prog₀ φ l₀ len k t prog) where
  mid-end : end ≤ k → Coded w φ l₀ len₀ prog₀ t prog len
  unfolding collected code
  mid-end h =
      let e = is-end w end M.scan h in
      let c : M.l ≡ comparisons φ l₀ = ap (λ (z : List Piece). collected z M.l) (sym e) ∙ M.gathered in record {
        known = rw (← c) M.known;
        coded = λ m x.
            sym (append-nil (take len prog)) ∙
            ap (λ (z : List Piece). take len prog ++ code m z) (sym e) ∙ M.coded m (rw M.gathered x);
      }

  module _ (space : len < length prog) (h : k < end) where
    mid-mark : byte_at w k < 21 → Mid w end len₀ prog₀ φ l₀ (len + 1) (k + 1) t (set prog len (byte_at w k))
    unfolding collected code
    mid-mark b = let s = is-mark w end M.scan h b in record {
      rest = s.0;
      l = M.l;
      scan = s.2;
      known = M.known;
      gathered = ap (λ (z : List Piece). collected z M.l) (sym s.1) ∙ M.gathered;
      coded = λ m x.
          more_bytes prog len (byte_at w k) (code m s.0) space ∙
          ap (λ (z : List Piece). take len prog ++ code m z) (sym s.1) ∙ M.coded m (rw s.1 x);
    }

    module _ (b : 21 ≤ byte_at w k) {q : ℕ} (S : Skipped w (k + 1) end q) where
      mid-old : {j : ℕ} → FoundAt w k q t j → Mid w end len₀ prog₀ φ l₀ (len + 1) q t (set prog len j)
      unfolding collected code
      mid-old {j} F =
          let s = is-test w end M.scan h b S in
          let f = known-found M.known s.1 F in
          let e : collected M.rest M.l ≡ collected s.2.0 M.l =
          ap (λ (z : List Piece). collected z M.l) s.2.1 ∙
          ap (collected s.2.0) (include-old s.0 M.l f.0) in record {
            rest = s.2.0;
            l = M.l;
            scan = s.2.2;
            known = M.known;
            gathered = sym e ∙ M.gathered;
            coded = λ m x.
                more_bytes prog len j (code m s.2.0) space ∙
                ap (λ (z : ℕ). take len prog ++ z ∷ code m s.2.0)
                (sym f.1 ∙ sym ((extends-trans (extends-collected s.2.0 M.l) x).kept s.0 f.0).1) ∙
                ap (λ (z : List Piece). take len prog ++ code m z) (sym s.2.1) ∙ M.coded m (rw e x);
          }

      module _ (F : Missed w k q t (length t)) where
        more : collected M.rest M.l ≡
            collected (is-test w end M.scan h b S).2.0 ((is-test w end M.scan h b S).0 ∷ M.l)
        unfolding collected
        more =
            let s = is-test w end M.scan h b S in
            ap (λ (z : List Piece). collected z M.l) s.2.1 ∙
            ap (collected s.2.0) (include-new s.0 M.l (known-missed M.known s.1 F))

        mid-full : length t < length (comparisons φ l₀)
        mid-full =
            let s = is-test w end M.scan h b S in
            let x = grown-collected s.2.0 (s.0 ∷ M.l) in
            let y = ap length (sym more ∙ M.gathered) in
            let z = M.known.count in
            omega arith

        mid-new : Mid w end len₀ prog₀ φ l₀ (len + 1) q (t ++ (k, q) ∷ []) (set prog len (length t))
        unfolding code
        mid-new =
            let s = is-test w end M.scan h b S in
            let u = known-missed M.known s.1 F in
            let v : among_words s.0 (s.0 ∷ M.l) ≡ true =
            subst (λ (z : Listed). among_words s.0 z ≡ true) (include-new s.0 M.l u) (listed s.0 M.l) in
            record {
              rest = s.2.0;
              l = s.0 ∷ M.l;
              scan = s.2.2;
              known = known-new M.known s.1;
              gathered = sym more ∙ M.gathered;
              coded = λ m x.
                  more_bytes prog len (length t) (code m s.2.0) space ∙
                  ap (λ (z : ℕ). take len prog ++ z ∷ code m s.2.0)
                  (sym M.known.count ∙ sym (number-new s.0 s.0 M.l u) ∙
                  sym ((extends-trans (extends-collected s.2.0 (s.0 ∷ M.l)) x).kept s.0 v).1) ∙
                  ap (λ (z : List Piece). take len prog ++ code m z) (sym s.2.1) ∙ M.coded m (rw more x);
            }

-- ---- the same for every boolean that stands there, with what keeps the walk within bounds
pub record Compilation
    (w : List ℕ) (a end limit len₀ : ℕ) (t₀ : List (ℕ × ℕ)) (prog₀ : List ℕ) (t : List (ℕ × ℕ)) (prog : List ℕ)
    (len k : ℕ) : Type 0 where
  pub ranges : Ranges w t
  pub within : length t ≤ limit
  pub few : limit ≤ 16
  pub inside : end ≤ length w
  pub upto : k ≤ end
  pub least : len₀ ≤ len
  pub short : len + (end - k) ≤ len₀ + (end - a)
  pub space : len₀ + (end - a) ≤ length prog
  pub room : length prog ≡ length prog₀
  mid : (φ : Expr Boolean) (l : Listed) → FormulaWritten w a end φ → Known w t₀ l →
      Mid w end len₀ prog₀ φ l len k t prog

pub walk_start : {w : List ℕ} {a end limit len : ℕ} {t : List (ℕ × ℕ)} {prog : List ℕ} →
    RangeFits (length w) a end → CanCompile w limit len (end - a) t prog →
    Compilation w a end limit len t prog t prog len a
unfolding collected code
walk_start {w} {a} {end} {limit} {len} {t} {prog} R C = record {
  ranges = C.ranges;
  within = C.within;
  few = C.few;
  inside = R.1;
  upto = R.0;
  least = omega arith;
  short = omega arith;
  space = C.room;
  room = refl;
  mid = λ φ l s K. record {
    rest = pieces φ [];
    l = l;
    scan = scan-boolean w end φ s.levels a end [] s.stands (scan-end refl);
    known = K;
    gathered = collected-pieces φ [] l;
    coded = λ m x. ap (λ (z : List ℕ). take len prog ++ z) (code-pieces m φ []);
  };
}

module _ {w : List ℕ} {a end limit len₀ : ℕ} {t₀ : List (ℕ × ℕ)} {prog₀ : List ℕ} {t : List (ℕ × ℕ)} {prog : List ℕ}
    {len k : ℕ} (W : Compilation w a end limit len₀ t₀ prog₀ t prog len k) where
  pub walk_end : end ≤ k → Compiled w (FormulaWritten w a end) limit len₀ (end - a) t₀ prog₀ t prog len
  walk_end h = record {
    ranges = W.ranges;
    within = W.within;
    least = W.least;
    short = let s = W.short in omega arith;
    room = W.room;
    fitting = λ φ l s K. mid-end (W.mid φ l s K) h;
  }

  module _ (h : k < end) where
    pub walk-space : len < length prog
    walk-space = let s = W.short in let r = W.space in omega arith

    pub walk-mark : {v : ℕ} → IsRole (get_or w k 0) (Byte v) →
        Compilation w a end limit len₀ t₀ prog₀ t (set prog len v) (len + 1) (k + 1)
    walk-mark {v} (e, b) = record {
      ranges = W.ranges;
      within = W.within;
      few = W.few;
      inside = W.inside;
      upto = omega arith;
      least = let g = W.least in omega arith;
      short = let s = W.short in omega arith;
      space = rw (length-set prog len v) W.space;
      room = length-set prog len v ∙ W.room;
      mid = λ φ l s K.
          subst (λ (z : ℕ). Mid w end len₀ prog₀ φ l (len + 1) (k + 1) t (set prog len z)) (sym e)
          (mid-mark (W.mid φ l s K) walk-space h (omega arith));
    }

    module _ {q : ℕ} (high : 21 ≤ byte_at w k) (S : Skipped w (k + 1) end q) where
      pub walk-find : CanFind w k q t
      walk-find = record {
        from = omega (arith, S.from);
        inside = omega (arith, S.upto, W.inside);
        ranges = W.ranges;
      }

      pub walk-old : {j : ℕ} → FoundAt w k q t j →
          Compilation w a end limit len₀ t₀ prog₀ t (set prog len j) (len + 1) q
      walk-old {j} F = record {
        ranges = W.ranges;
        within = W.within;
        few = W.few;
        inside = W.inside;
        upto = S.upto;
        least = let g = W.least in omega arith;
        short = let s = W.short in let f = S.from in let u = S.upto in omega arith;
        space = rw (length-set prog len j) W.space;
        room = length-set prog len j ∙ W.room;
        mid = λ φ l s K. mid-old (W.mid φ l s K) walk-space h high S F;
      }

      module _ (F : Missed w k q t (length t)) where
        pub walk-full : {t' : List (ℕ × ℕ)} → length t ≡ limit → t' ≡ t →
            Overfull w (FormulaWritten w a end) limit t₀ prog₀ t' prog
        walk-full e f = rw f (record {
          ranges = W.ranges;
          within = W.within;
          room = W.room;
          full = λ φ l s K. let x = mid-full (W.mid φ l s K) walk-space h high S F in omega arith;
        })

        pub walk-new : {t' : List (ℕ × ℕ)} {j : ℕ} → (length t ≢ limit) × (j ≡ length t) × (t' ≡ t ++ (k, q) ∷ []) →
            Compilation w a end limit len₀ t₀ prog₀ t' (set prog len j) (len + 1) q
        walk-new {j} (g, e, f) = rw (e, f) (record {
          ranges = ranges-new W.ranges fresh walk-find.from walk-find.inside;
          within = let p = W.within in omega (arith, longer t (k, q));
          few = W.few;
          inside = W.inside;
          upto = S.upto;
          least = let x = W.least in omega arith;
          short = let s = W.short in let x = S.from in let u = S.upto in omega arith;
          space = rw (length-set prog len (length t)) W.space;
          room = length-set prog len (length t) ∙ W.room;
          mid = λ φ l s K. mid-new (W.mid φ l s K) walk-space h high S F;
        })
          where
            fresh : length t < 16
            fresh = let p = W.within in let r = W.few in omega arith
