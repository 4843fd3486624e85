-- What the two compiled sides and the table say of the implication.
-- Assumes nothing.
--     left-small, right-small                the ranges of the sides are within 8,192 words
--     first-can, second-can                  the sides can be compiled
--     left-full, right-full                  too many comparisons
--     is-formula, answered                   the formula of both; what its table says
--     begun, begun-start, begun-room         the first two bytes
use Rattle.std.specs.Prelude.{Err}
use mathlib.Core.Path.{◌≡◌, refl, sym, ap, ◌∙◌}
use mathlib.Core.Bool.{Bool}
use mathlib.Core.List.{List, [], ◌∷◌, ◌++◌}
use Prim.Native.Nat.{ℕ, ◌+◌, ◌*◌, ◌^◌, ◌≤◌}
use native.Mathlib.Omega.{arith}
use lib.ListN.{length, take, set, length-set}
use Rattle.language.specs.Syntax.{Boolean, Expr}
use Rattle.rules.specs.Words.{Word}
use Rattle.rules.specs.Implies.{comparisons, distinct}
use Rattle.rules.specs.Condition.{test}
use Rattle.layout.specs.EvidenceWords.{expression_part}
use Rattle.layout.specs.Nodes.{expression_node}
use Rattle.layout.specs.Standing.{PartStands}
use Rattle.layout.proofs.Nodes.{node_inside}
use Rattle.truth_table.specs.Formula.{spell, depth, Small, Spelled, IsFormula, Every}
use Rattle.implication.specs.declared.Failure.TheVariants.{TooLarge}
use Rattle.implication.specs.declared.Side.{Side}
use Rattle.implication.specs.declared.Side.TheVariants.{One, Both, BothNot, False}
use Rattle.implication.specs.Sides.{Condition, result_of, SideStands, RangeFits, SideFits, side_room}
use Rattle.implication.specs.Sides.{CanImply, Implied}
use Rattle.implication.specs.Scanning.{Ranges}
use Rattle.implication.specs.Compiling.{formula, Known, SideWritten, CanCompile, Coded, Compiled, Overfull}
use Rattle.implication.proofs.Numbers.{extends-self, extends-comparisons, grown, small, depth-formula}
use Rattle.implication.proofs.Pairs.{spell-append}
use Rattle.implication.proofs.Meaning.{implies, table-settled, few-enough, too_many}

-- ---- the ranges of a side
range-fits : (w : List ℕ) (φ : Expr Boolean) (d a p : ℕ) → PartStands w (expression_part φ) d a p →
    RangeFits (length w) a p
range-fits w φ d a p s = let i = node_inside (expression_node φ) s in (omega arith, i.within)

side_fits : (w : List ℕ) (d : ℕ) (s : Side) (χ : Expr Boolean) → SideStands w d s χ → SideFits (length w) s
side_fits w d (One a p) χ s = range-fits w χ d a p s
side_fits w d (Both a p b q) χ s =
    (range-fits w s.first d a p s.left, range-fits w s.second d b q s.right)
side_fits w d (BothNot a p b q) χ s =
    (range-fits w s.first d a p s.left, range-fits w s.second d b q s.right)
side_fits w d False χ s = tt

side_within : (n m : ℕ) (s : Side) → n ≤ m → SideFits n s → SideFits m s
side_within n m (One a p) l h = (h.0, omega arith)
side_within n m (Both a p b q) l h = ((h.0.0, omega arith), (h.1.0, omega arith))
side_within n m (BothNot a p b q) l h = ((h.0.0, omega arith), (h.1.0, omega arith))
side_within n m False l h = tt

-- a side is at most two levels deeper than what it is made of
side_depth : (w : List ℕ) (d : ℕ) (s : Side) (χ : Expr Boolean) (m : List (List Word)) → SideStands w d s χ →
    depth (formula m χ) ≤ d + 2
unfolding formula depth
side_depth w d (One a p) χ m s = let h = depth-formula χ d m s.fit in omega arith
side_depth w d (Both a p b q) χ m s =
    let h = depth-formula s.first d m s.left.fit in
    let k = depth-formula s.second d m s.right.fit in
    let e = ap (λ (z : Expr Boolean). depth (formula m z)) s.is in
    omega arith
side_depth w d (BothNot a p b q) χ m s =
    let h = depth-formula s.first d m s.left.fit in
    let k = depth-formula s.second d m s.right.fit in
    let e = ap (λ (z : Expr Boolean). depth (formula m z)) s.is in
    omega arith
side_depth w d False χ m s = let e = ap (λ (z : Expr Boolean). depth (formula m z)) s in omega arith

-- ---- no comparison is known
known-none : {w : List ℕ} {t : List (ℕ × ℕ)} → t ≡ [] → Known w t []
known-none e = rw e (record { count = refl; each = λ i h. absurd (omega arith) })

ranges-none : {w : List ℕ} {t : List (ℕ × ℕ)} → t ≡ [] → Ranges w t
ranges-none e = rw e (record { few = omega arith; each = λ i l. absurd (omega arith) })

-- ---- the sides
module _ {w : List ℕ} {left right : Side} {limit : ℕ} (can : CanImply w left right limit) where
  left-fits : SideFits (length w) left
  left-fits = side_fits w can.levels left can.φ can.left_stands

  right-fits : SideFits (length w) right
  right-fits = side_fits w can.levels right can.ψ can.right_stands

  pub left-small : SideFits 8192 left
  left-small = side_within (length w) 8192 left can.size left-fits

  pub right-small : SideFits 8192 right
  right-small = side_within (length w) 8192 right can.size right-fits

  pub first-can : {t : List (ℕ × ℕ)} {prog : List ℕ} → t ≡ [] → 2 + side_room left + side_room right ≤ length prog →
      SideFits (length w) left × CanCompile w limit 2 (side_room left) t prog
  first-can e l = (
    left-fits,
    record {
      few = can.few;
      within = let n = ap length e in omega arith;
      ranges = ranges-none e;
      room = omega arith;
    },
  )

  module _ {t₀ : List (ℕ × ℕ)} {prog₁ : List ℕ} {t₁ : List (ℕ × ℕ)} {prog₂ : List ℕ} (none : t₀ ≡ []) where
    pub left-full : Overfull w (SideWritten w left) limit t₀ prog₁ t₁ prog₂ → Implied w left right limit (Err TooLarge)
    left-full A = record {
      is = λ φ ψ d e s t Γ g.
          let f = A.full φ [] (record { levels = d; stands = s }) (known-none none) in
          let k = grown ψ (comparisons φ []) in
          sym (too_many Γ φ ψ (omega arith));
    }

    module _ {x : ℕ} (space : 2 + side_room left + side_room right ≤ length prog₁)
        (A : Compiled w (SideWritten w left) limit 2 (side_room left) t₀ prog₁ t₁ prog₂ x) where
      pub second-can : SideFits (length w) right × CanCompile w limit x (side_room right) t₁ prog₂
      second-can = (
        right-fits,
        record {
          few = can.few;
          within = A.within;
          ranges = A.ranges;
          room = let s = A.short in let r = A.room in omega arith;
        },
      )

      module _ (φ ψ : Expr Boolean) (d e : ℕ) (s : SideStands w d left φ) (t : SideStands w e right ψ) where
        first : Coded w φ [] 2 prog₁ t₁ prog₂ x
        first = A.fitting φ [] (record { levels = d; stands = s }) (known-none none)

      pub right-full : {t₂ : List (ℕ × ℕ)} {prog₃ : List ℕ} →
          Overfull w (SideWritten w right) limit t₁ prog₂ t₂ prog₃ → Implied w left right limit (Err TooLarge)
      right-full B = record {
        is = λ φ ψ d e s t Γ g.
            let f = B.full ψ (comparisons φ []) (record { levels = e; stands = t }) (first φ ψ d e s t).known in
            sym (too_many Γ φ ψ (omega arith));
      }

      module _ {t₂ : List (ℕ × ℕ)} {prog₃ : List ℕ} {z : ℕ}
          (B : Compiled w (SideWritten w right) limit x (side_room right) t₁ prog₂ t₂ prog₃ z)
          (start : take 2 prog₁ ≡ 19 ∷ 20 ∷ []) where
        module _ (φ ψ : Expr Boolean) (d e : ℕ) (s : SideStands w d left φ) (t : SideStands w e right ψ) where
          second : Coded w ψ (comparisons φ []) x prog₂ t₂ prog₃ z
          second = B.fitting ψ (comparisons φ []) (record { levels = e; stands = t }) (first φ ψ d e s t).known

          count : length (distinct φ ψ) ≡ length t₂
          count = second.known.count

          spelled : Spelled prog₃ z (implies φ ψ (distinct φ ψ))
          unfolding spell Small
          spelled =
              let m = distinct φ ψ in
              let h : length m ≤ 16 = (let k = count in let n = B.ranges.few in omega arith) in
              let left-later = extends-comparisons ψ (comparisons φ []) in record {
                bytes =
                    second.coded m (extends-self m) ∙
                    ap (λ (k : List ℕ). k ++ spell (formula m ψ) [])
                    ((first φ ψ d e s t).coded m left-later ∙
                    ap (λ (k : List ℕ). k ++ spell (formula m φ) []) start) ∙
                    ap (λ (k : List ℕ). 19 ∷ 20 ∷ k) (sym (spell-append (formula m φ) (spell (formula m ψ) [])));
                small = (small φ [] m left-later h, small ψ (comparisons φ []) m (extends-self m) h);
              }

        pub is-formula : IsFormula prog₃ z 260
        unfolding depth
        is-formula =
            let φ = can.φ in
            let ψ = can.ψ in
            let m = distinct φ ψ in
            let h = side_depth w can.levels left φ m can.left_stands in
            let k = side_depth w can.levels right ψ m can.right_stands in
            let l = can.low in record {
              formula = implies φ ψ m;
              is = spelled φ ψ can.levels can.levels can.left_stands can.right_stands;
              within =
                  let a = A.short in let b = B.short in let c = A.room in let f = B.room in omega arith;
              low = omega arith;
            }

        pub answered : {b : ℕ} {r : Bool} {c : Condition} → 2 ^ length t₂ ≤ 64 * b → Every prog₃ z b r →
            result_of c ≡ test r → Implied w left right limit c
        answered {b} {r} {c} h E f = record {
          is = λ φ ψ d e s t Γ g.
              let k = count φ ψ d e s t in
              let l = B.within in
              f ∙
              sym (few-enough Γ φ ψ r (omega arith)
              (table-settled φ ψ b (rw k h) r (E.every (implies φ ψ (distinct φ ψ)) (spelled φ ψ d e s t))));
        }

-- ---- the first two bytes: not the left, or the right
abbrev pub begun : List ℕ → List ℕ
begun prog = set (set prog 0 19) 1 20

pub begun-start : (prog : List ℕ) → 2 ≤ length prog → take 2 (begun prog) ≡ 19 ∷ 20 ∷ []
begun-start [] h = absurd (omega arith)
begun-start (x ∷ []) h = absurd (omega arith)
begun-start (x ∷ (y ∷ l)) h = refl

pub begun-room : (prog : List ℕ) (n : ℕ) → n ≤ length prog → n ≤ length (begun prog)
begun-room prog n h = simp length-set h
