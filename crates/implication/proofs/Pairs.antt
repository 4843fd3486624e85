-- Two booleans compiled one after the other, with bytes in front of each; and the boolean that a side is.
-- Assumes nothing.
--     Adds, adds_none, adds_one                       bytes put after the first ones
--     spell-append                                    the bytes of a formula before others
--     Joint, joint_and, joint_and_not                 a boolean made of two, by its bytes and its comparisons
--     PairWritten                                     two booleans stand there
--     after_first, pair_full, pair_result             the two calls
--     overfull_as, compiles_false                     what stands, said in another way; false
--     both_sides, both_not_sides, false_side          what a side is made of
--     side_can                                        what a side requires, known by its case
use mathlib.Core.Path.{◌≡◌, refl, sym, ap, subst, ◌∙◌}
use Rattle.std.specs.Prelude.{Result, Ok, Err}
use mathlib.Core.Bool.{false}
use mathlib.Core.List.{List, [], ◌∷◌, ◌++◌, append_assoc, append-nil}
use Prim.Native.Nat.{ℕ, ◌+◌, ◌-◌, ◌<◌, ◌≤◌}
use native.Mathlib.Numerals.{add-one}
use native.Mathlib.Omega.{arith}
use lib.ListN.{length, take, set, length-set}
use lib.Seq.{take-suc-set}
use Rattle.language.specs.Syntax.{Boolean, Expr, truth, and, neg}
use Rattle.rules.specs.Implies.{comparisons}
use Rattle.truth_table.specs.Formula.{Formula, leaf, fixed, conj, disj, negated, spell}
use Rattle.implication.specs.declared.Failure.{Failure}
use Rattle.implication.specs.declared.Side.{Side}
use Rattle.implication.specs.declared.Side.TheVariants.{Both, BothNot, False}
use Rattle.implication.specs.Sides.{PairStands, SideFits, side_room}
use Rattle.implication.specs.Compiling.{Extends, formula, Known, FormulaWritten, SideWritten}
use Rattle.implication.specs.Compiling.{CanCompile, Coded, Compiled, Overfull, Compiles}
use Rattle.implication.proofs.Numbers.{Listed, extends-trans, extends-comparisons, grown}

-- ---- bytes put after the first ones
pub record Adds (prog : List ℕ) (len : ℕ) (u prog' : List ℕ) (len' : ℕ) : Type 0 where
  pub bytes : take len' prog' ≡ take len prog ++ u
  pub long : len' ≡ len + length u
  pub room : length prog' ≡ length prog

pub adds_none : (prog : List ℕ) (len : ℕ) → Adds prog len [] prog len
adds_none prog len = record { bytes = sym (append-nil (take len prog)); long = omega arith; room = refl }

pub adds_one : (prog : List ℕ) (len v : ℕ) → len < length prog → Adds prog len (v ∷ []) (set prog len v) (len + 1)
adds_one prog len v l = record {
  bytes = ap (λ (j : ℕ). take j (set prog len v)) (add-one len) ∙ take-suc-set prog len v l;
  long = omega arith;
  room = length-set prog len v;
}

pub spell-append : (f : Formula) (p : List ℕ) → spell f p ≡ spell f [] ++ p
unfolding spell
spell-append (leaf i) p = refl
spell-append (fixed b) p = refl
spell-append (conj f g) p =
    ap (λ (z : List ℕ). 18 ∷ z)
    (spell-append f (spell g p) ∙ ap (λ (z : List ℕ). spell f [] ++ z) (spell-append g p) ∙
    sym (append_assoc (spell f []) (spell g []) p) ∙
    ap (λ (z : List ℕ). z ++ p) (sym (spell-append f (spell g []))))
spell-append (disj f g) p =
    ap (λ (z : List ℕ). 19 ∷ z)
    (spell-append f (spell g p) ∙ ap (λ (z : List ℕ). spell f [] ++ z) (spell-append g p) ∙
    sym (append_assoc (spell f []) (spell g []) p) ∙
    ap (λ (z : List ℕ). z ++ p) (sym (spell-append f (spell g []))))
spell-append (negated f) p = ap (λ (z : List ℕ). 20 ∷ z) (spell-append f p)

-- ---- a boolean made of two: u in front of the first, v in front of the second
abbrev Make : Type 0
Make = Expr Boolean → Expr Boolean → Expr Boolean

pub record Joint (make : Make) (u v : List ℕ) : Type 0 where
  spelled : (m : Listed) (φ ψ : Expr Boolean) →
      spell (formula m (make φ ψ)) [] ≡ u ++ (spell (formula m φ) [] ++ (v ++ spell (formula m ψ) []))
  gathers : (φ ψ : Expr Boolean) (l : Listed) → comparisons (make φ ψ) l ≡ comparisons ψ (comparisons φ l)

pub joint_and : Joint (λ φ ψ. and φ ψ) (18 ∷ []) []
unfolding comparisons formula spell
joint_and = record {
  spelled = λ m φ ψ. ap (λ (z : List ℕ). 18 ∷ z) (spell-append (formula m φ) (spell (formula m ψ) []));
  gathers = λ φ ψ l. refl;
}

pub joint_and_not : Joint (λ φ ψ. and φ (neg ψ)) (18 ∷ []) (20 ∷ [])
unfolding comparisons formula spell
joint_and_not = record {
  spelled = λ m φ ψ. ap (λ (z : List ℕ). 18 ∷ z) (spell-append (formula m φ) (20 ∷ spell (formula m ψ) []));
  gathers = λ φ ψ l. refl;
}

-- two booleans stand there, at some depth, and χ is made of them
pub record PairWritten (w : List ℕ) (a p b q : ℕ) (make : Make) (χ : Expr Boolean) : Type 0 where
  pub levels : ℕ
  pub stands : PairStands w levels a p b q make χ

-- ---- what stands, said in another way
module _ {w : List ℕ} {P Q : Expr Boolean → Type 0} {limit : ℕ} {t₀ : List (ℕ × ℕ)} {prog₀ : List ℕ}
    {t : List (ℕ × ℕ)} {prog : List ℕ} (f : (χ : Expr Boolean) → Q χ → P χ) where
  compiled_as : {len most r : ℕ} → Compiled w P limit len most t₀ prog₀ t prog r →
      Compiled w Q limit len most t₀ prog₀ t prog r
  compiled_as C = record {
    ranges = C.ranges;
    within = C.within;
    least = C.least;
    short = C.short;
    room = C.room;
    fitting = λ χ l s K. C.fitting χ l (f χ s) K;
  }

  pub overfull_as : Overfull w P limit t₀ prog₀ t prog → Overfull w Q limit t₀ prog₀ t prog
  overfull_as C = record {
    ranges = C.ranges;
    within = C.within;
    room = C.room;
    full = λ χ l s K. C.full χ l (f χ s) K;
  }

-- ---- the two calls
module _ {w : List ℕ} {P : Expr Boolean → Type 0} {limit len most len₁ first : ℕ}
    {t₀ : List (ℕ × ℕ)} {prog₀ u prog₁ : List ℕ} {t₁ : List (ℕ × ℕ)} {prog₂ : List ℕ} {x : ℕ}
    (C : CanCompile w limit len most t₀ prog₀) (U : Adds prog₀ len u prog₁ len₁)
    (A : Compiled w P limit len₁ first t₀ prog₁ t₁ prog₂ x) where
  pub after_first : (n : ℕ) → length u + first + n ≤ most → x + n ≤ length prog₂
  after_first n h =
      let r = C.room in let l = U.long in let e = U.room in let s = A.short in let t = A.room in omega arith

module _ {w : List ℕ} {make : Make} {limit len len₁ a p b q : ℕ}
    {t₀ : List (ℕ × ℕ)} {prog₀ u v prog₁ : List ℕ} (J : Joint make u v) (U : Adds prog₀ len u prog₁ len₁) where
  pub pair_full : {t₁ : List (ℕ × ℕ)} {prog₂ : List ℕ} →
      Overfull w (FormulaWritten w a p) limit t₀ prog₁ t₁ prog₂ →
      Overfull w (PairWritten w a p b q make) limit t₀ prog₀ t₁ prog₂
  pair_full A = record {
    ranges = A.ranges;
    within = A.within;
    room = A.room ∙ U.room;
    full = λ χ l s K.
        let φ = s.stands.first in
        let ψ = s.stands.second in
        let f = A.full φ l (record { levels = s.levels; stands = s.stands.left }) K in
        let g = grown ψ (comparisons φ l) in
        let e = ap (λ z. length (comparisons z l)) s.stands.is ∙ ap length (J.gathers φ ψ l) in
        omega arith;
  }

  module _ {t₁ : List (ℕ × ℕ)} {prog₂ : List ℕ} {x : ℕ}
      (A : Compiled w (FormulaWritten w a p) limit len₁ (p - a) t₀ prog₁ t₁ prog₂ x)
      {len₃ : ℕ} {prog₃ : List ℕ} (G : Adds prog₂ x v prog₃ len₃) where
    done : {t₂ : List (ℕ × ℕ)} {prog₄ : List ℕ} {r : ℕ} →
        Compiled w (FormulaWritten w b q) limit len₃ (q - b) t₁ prog₃ t₂ prog₄ r →
        (φ ψ : Expr Boolean) (l : Listed) → FormulaWritten w a p φ → FormulaWritten w b q ψ →
        Known w t₀ l → Coded w (make φ ψ) l len prog₀ t₂ prog₄ r
    done B φ ψ l s t K =
        let f = A.fitting φ l s K in
        let g = B.fitting ψ (comparisons φ l) t f.known in
        let e = J.gathers φ ψ l in record {
          known = rw e g.known;
          coded = λ m X.
              let Y : Extends (comparisons ψ (comparisons φ l)) m = rw e at X in
              let F = f.coded m (extends-trans (extends-comparisons ψ (comparisons φ l)) Y) in
              g.coded m Y ∙
              laid (take len prog₀) (spell (formula m φ) []) (spell (formula m ψ) []) G.bytes F U.bytes ∙
              ap (λ (k : List ℕ). take len prog₀ ++ k) (sym (J.spelled m φ ψ));
        }
      where
        laid : {c d e : List ℕ} (k f g : List ℕ) → c ≡ d ++ v → d ≡ e ++ f → e ≡ k ++ u →
            c ++ g ≡ k ++ (u ++ (f ++ (v ++ g)))
        laid k f g h i j = rw (h, i, j) (simp append_assoc)

    pair-done : {most : ℕ} {t₂ : List (ℕ × ℕ)} {prog₄ : List ℕ} {r : ℕ} →
        length u + (p - a) + (length v + (q - b)) ≤ most → Compiled w (FormulaWritten w b q) limit len₃ (q - b) t₁ prog₃ t₂ prog₄ r →
        Compiled w (PairWritten w a p b q make) limit len most t₀ prog₀ t₂ prog₄ r
    pair-done {t₂ = t₂} {prog₄ = prog₄} {r = r} most-is B = record {
      ranges = B.ranges;
      within = B.within;
      least =
          let l = U.long in let s = A.least in let k = G.long in let t = B.least in omega arith;
      short =
          let l = U.long in let s = A.short in let k = G.long in let t = B.short in omega arith;
      room = B.room ∙ G.room ∙ A.room ∙ U.room;
      fitting = λ χ l s K.
          subst (λ (k : Expr Boolean). Coded w k l len prog₀ t₂ prog₄ r) (sym s.stands.is)
          (done B s.stands.first s.stands.second l
          (record { levels = s.levels; stands = s.stands.left })
          (record { levels = s.levels; stands = s.stands.right }) K);
    }

    pair_over : {t₂ : List (ℕ × ℕ)} {prog₄ : List ℕ} →
        Overfull w (FormulaWritten w b q) limit t₁ prog₃ t₂ prog₄ →
        Overfull w (PairWritten w a p b q make) limit t₀ prog₀ t₂ prog₄
    pair_over B = record {
      ranges = B.ranges;
      within = B.within;
      room = B.room ∙ G.room ∙ A.room ∙ U.room;
      full = λ χ l s K.
          let φ = s.stands.first in
          let ψ = s.stands.second in
          let f = A.fitting φ l (record { levels = s.levels; stands = s.stands.left }) K in
          let g = B.full ψ (comparisons φ l) (record { levels = s.levels; stands = s.stands.right }) f.known in
          let e = ap (λ k. length (comparisons k l)) s.stands.is ∙ ap length (J.gathers φ ψ l) in
          omega arith;
    }

    pub pair_result : {Q : Expr Boolean → Type 0} → ((χ : Expr Boolean) → Q χ → PairWritten w a p b q make χ) →
        (most : ℕ) → length u + (p - a) + (length v + (q - b)) ≤ most →
        (t₂ : List (ℕ × ℕ)) (prog₄ : List ℕ) (r : Result ℕ Failure) →
        Compiles w (FormulaWritten w b q) limit len₃ (q - b) t₁ prog₃ t₂ prog₄ r →
        Compiles w Q limit len most t₀ prog₀ t₂ prog₄ r
    pair_result f most h t₂ prog₄ (Ok r) B = compiled_as f (pair-done h B)
    pair_result f most h t₂ prog₄ (Err e) (z, B) = (z, overfull_as f (pair_over B))

-- ---- the boolean that a side is
-- two booleans that stand there are a side
pub both_sides : {w : List ℕ} {a p b q : ℕ} (χ : Expr Boolean) → SideWritten w (Both a p b q) χ →
    PairWritten w a p b q (λ φ ψ. and φ ψ) χ
both_sides χ s = record { levels = s.levels; stands = s.stands }

pub both_not_sides : {w : List ℕ} {a p b q : ℕ} (χ : Expr Boolean) → SideWritten w (BothNot a p b q) χ →
    PairWritten w a p b q (λ φ ψ. and φ (neg ψ)) χ
both_not_sides χ s = record { levels = s.levels; stands = s.stands }

pub false_side : {w : List ℕ} (χ : Expr Boolean) → SideWritten w False χ → χ ≡ truth false
false_side χ s = s.stands

-- the constant false is one byte, and has no comparisons
pub compiles_false : {w : List ℕ} {Q : Expr Boolean → Type 0} {limit len most : ℕ} {t : List (ℕ × ℕ)} {prog : List ℕ} →
    ((χ : Expr Boolean) → Q χ → χ ≡ truth false) → CanCompile w limit len most t prog → 1 ≤ most →
    Compiled w Q limit len most t prog t (set prog len 16) (len + 1)
unfolding comparisons formula spell
compiles_false {w} {len = len} {t = t} {prog = prog} f C h = record {
  ranges = C.ranges;
  within = C.within;
  least = omega arith;
  short = omega arith;
  room = length-set prog len 16;
  fitting = λ χ l s K.
      rw (f χ s) (record {
        known = K;
        coded = λ m X. (adds_one prog len 16 (let r = C.room in omega arith)).bytes;
      });
}

-- what a side requires, known by its case
pub side_can : {w : List ℕ} {limit len : ℕ} {s s' : Side} {t : List (ℕ × ℕ)} {prog : List ℕ} → s ≡ s' →
    SideFits (length w) s × CanCompile w limit len (side_room s) t prog →
    CanCompile w limit len (side_room s') t prog
side_can {w} {limit} {len} {s} {s'} {t} {prog} e h =
    subst (λ (z : Side). CanCompile w limit len (side_room z) t prog) e h.1
