-- Judging under more comparisons (document 02, request [6]): a verdict stays as it is, unless it is a refusal 9.
-- Assumes nothing.
--     limited                          limits and procedures, as a context
--     Kept                             a verdict stays, or it was a refusal 9
--     accepted-kept, refused-kept      so an acceptance stays, and so does a refusal that is not 9
--     also_kept                        of two verdicts, one after the other
--     pre-kept, set-kept, flow-kept    evidence, judged under limits with at least as many comparisons
use mathlib.Core.Path.{◌≡◌, refl}
use mathlib.Core.Bool.{Bool, true, false}
use mathlib.Core.List.{List, [], ◌∷◌}
use Prim.Native.Nat.{ℕ, ◌≤◌}
use native.Mathlib.Omega.{arith}
use borrow.Author.Tests.{leb-true, le-leb}
use lib.Dec.{leb}
use lib.ListN.{length}
use Rattle.laws.proofs.Bools.{clash}
use Rattle.language.specs.Syntax.{Arithmetic, Boolean, Array, Expr, to_scalar, to_array}
use Rattle.language.specs.Syntax.{Command, skip, sequence, assert, assign, if_else, while, for, call}
use Rattle.rules.specs.Assertion.{Member, Members}
use Rattle.rules.specs.Context.{Limits, Procedure, Context}
use Rattle.rules.specs.Implies.{distinct}
use Rattle.rules.specs.Tests.{truth_table}
use Rattle.rules.specs.Evidence.{FlowEvidence, SetEvidence, PreEvidence, by, assertion, command, members, child}
use Rattle.rules.specs.Evidence.{done, ◌&◌, flow1, flow2, flow3, flow4, flow5, flow6, flow7, flow8, flow9}
use Rattle.rules.specs.Evidence.{flow10, flow11, flow12, flow13, flow14, flow31, set13, set14, set15, set16, set17, set18}
use Rattle.rules.specs.Evidence.{set19, pre20, pre21, pre22, pre23, pre24, pre25, pre26, pre27, pre28, pre29}
use Rattle.rules.specs.Evidence.{pre30, pre32}
use Rattle.rules.specs.Condition.{Result, passes, fails, too_large, test, ◌then◌, implication, each_implies_false, by_form}
use Rattle.rules.specs.Condition.{on_sequence, on_if, on_while, on_for, on_call, on_empty, on_one}
use Rattle.rules.specs.Judge.{Verdict, accepted, refused, one_more, ◌also◌, RuleStep, step, misfit, childless, judge_word}
use Rattle.rules.specs.Judge.{pre_rule, set_rule, flow_rule, judge}

abbrev pub limited : Limits → List Procedure → Context
limited limits l = record { limits = limits; procedures = l }

pub data Kept : Verdict → Verdict → Type 0 where
  kept : {v : Verdict} → Kept v v
  nine : {i : ℕ} {w : Verdict} → Kept (refused 9 i) w

pub accepted-kept : {v w : Verdict} {n : ℕ} → Kept v w → v ≡ accepted n → w ≡ accepted n
accepted-kept kept e = e
accepted-kept nine e = absurd (let z : ◌≡◌ {A = ℕ} 0 1 = cc in omega arith)

pub refused-kept : {v w : Verdict} {k i : ℕ} → Kept v w → v ≡ refused k i → (k ≡ 9 → ⊥) → w ≡ refused k i
refused-kept kept e h = e
refused-kept {k = k} nine e h = absurd (h (let z : 9 ≡ k = cc in omega arith))

pub also_kept : {v v' w w' : Verdict} → Kept v v' → Kept w w' → Kept (v also w) (v' also w')
unfolding ◌also◌
also_kept {v = accepted m} kept kept = kept
also_kept {v = accepted m} kept nine = nine
also_kept {v = refused k i} kept h = kept
also_kept nine h = nine

-- ---- conditions, and what a rule comes to
-- a result stays, or it was that a condition is too large
data KeptResult : Result → Result → Type 0 where
  kept_result : {r : Result} → KeptResult r r
  too_large_kept : {r : Result} → KeptResult too_large r

then-kept : {q q' r r' : Result} → KeptResult q q' → KeptResult r r' → KeptResult (q then r) (q' then r')
unfolding ◌then◌
then-kept {q = passes} kept_result h = h
then-kept {q = fails} kept_result h = kept_result
then-kept {q = too_large} kept_result h = kept_result
then-kept too_large_kept h = too_large_kept

data KeptStep : RuleStep → RuleStep → Type 0 where
  both-kept : {r r' : Result} {v v' : Verdict} → KeptResult r r' → Kept v v' → KeptStep (step r v) (step r' v')

-- the children, where the conditions are alike
children-kept : {r : Result} {v v' : Verdict} → Kept v v' → KeptStep (step r v) (step r v')
children-kept h = both-kept kept_result h

-- the conditions of a rule with no children
childless-kept : {r r' : Result} → KeptResult r r' → KeptStep (childless r) (childless r')
childless-kept h = both-kept h kept

more-kept : {v w : Verdict} → Kept v w → Kept (one_more v) (one_more w)
unfolding one_more
more-kept kept = kept
more-kept nine = nine

word_kept : (i : ℕ) {s s' : RuleStep} → KeptStep s s' → Kept (judge_word i s) (judge_word i s')
unfolding judge_word
word_kept i (both-kept {r = passes} kept_result h) = more-kept h
word_kept i (both-kept {r = fails} kept_result h) = kept
word_kept i (both-kept {r = too_large} kept_result h) = kept
word_kept i (both-kept too_large_kept h) = nine

-- ---- a command or a set, by its form: what is the same in both contexts is kept as it is
form-kept : (c : Command) {s s' : RuleStep} {q q' : Command → Command → RuleStep} {t t' : Expr Boolean → RuleStep}
    {x x' : ℕ → Expr Arithmetic → RuleStep} {a a' : ℕ → Expr Array → RuleStep}
    {f f' : Expr Boolean → Command → Command → RuleStep} {w w' : Expr Boolean → Command → RuleStep}
    {o o' : ℕ → ℕ → Command → RuleStep} {l l' : ℕ → Command → RuleStep} →
    KeptStep s s' → ((c d : Command) → KeptStep (q c d) (q' c d)) → ((b : Expr Boolean) → KeptStep (t b) (t' b)) →
    ((y : ℕ) (e : Expr Arithmetic) → KeptStep (x y e) (x' y e)) → ((y : ℕ) (e : Expr Array) → KeptStep (a y e) (a' y e)) →
    ((b : Expr Boolean) (c d : Command) → KeptStep (f b c d) (f' b c d)) →
    ((b : Expr Boolean) (c : Command) → KeptStep (w b c) (w' b c)) →
    ((y n : ℕ) (c : Command) → KeptStep (o y n c) (o' y n c)) → ((y : ℕ) (c : Command) → KeptStep (l y c) (l' y c)) →
    KeptStep (by_form s q t x a f w o l c) (by_form s' q' t' x' a' f' w' o' l' c)
unfolding by_form
form-kept skip s q t x a f w o l = s
form-kept (sequence c d) s q t x a f w o l = q c d
form-kept (assert b) s q t x a f w o l = t b
form-kept (assign (to_scalar y e)) s q t x a f w o l = x y e
form-kept (assign (to_array y e)) s q t x a f w o l = a y e
form-kept (if_else b c d) s q t x a f w o l = f b c d
form-kept (while b c) s q t x a f w o l = w b c
form-kept (for y n c) s q t x a f w o l = o y n c
form-kept (call y c) s q t x a f w o l = l y c

no : KeptStep misfit misfit
no = childless-kept kept_result

sequence-kept : (c : Command) {f g : Command → Command → RuleStep} → ((c₁ c₂ : Command) → KeptStep (f c₁ c₂) (g c₁ c₂)) →
    KeptStep (on_sequence c misfit f) (on_sequence c misfit g)
sequence-kept c h = form-kept c no h (λ b. no) (λ y e. no) (λ y e. no) (λ b c d. no) (λ b c. no) (λ y n c. no) (λ y c. no)

if_kept : (c : Command) {f g : Expr Boolean → Command → Command → RuleStep} →
    ((b : Expr Boolean) (c₁ c₂ : Command) → KeptStep (f b c₁ c₂) (g b c₁ c₂)) → KeptStep (on_if c misfit f) (on_if c misfit g)
if_kept c h = form-kept c no (λ c d. no) (λ b. no) (λ y e. no) (λ y e. no) h (λ b c. no) (λ y n c. no) (λ y c. no)

while-kept : (c : Command) {f g : Expr Boolean → Command → RuleStep} →
    ((b : Expr Boolean) (c₁ : Command) → KeptStep (f b c₁) (g b c₁)) → KeptStep (on_while c misfit f) (on_while c misfit g)
while-kept c h = form-kept c no (λ c d. no) (λ b. no) (λ y e. no) (λ y e. no) (λ b c d. no) h (λ y n c. no) (λ y c. no)

for-kept : (c : Command) {f g : ℕ → ℕ → Command → RuleStep} →
    ((q n : ℕ) (c₁ : Command) → KeptStep (f q n c₁) (g q n c₁)) → KeptStep (on_for c misfit f) (on_for c misfit g)
for-kept c h = form-kept c no (λ c d. no) (λ b. no) (λ y e. no) (λ y e. no) (λ b c d. no) (λ b c. no) h (λ y c. no)

call_kept : (c : Command) {f g : ℕ → Command → RuleStep} → ((n : ℕ) (c₁ : Command) → KeptStep (f n c₁) (g n c₁)) →
    KeptStep (on_call c misfit f) (on_call c misfit g)
call_kept c h = form-kept c no (λ c d. no) (λ b. no) (λ y e. no) (λ y e. no) (λ b c d. no) (λ b c. no) (λ y n c. no) h

empty_kept : (p : Members) {s s' : RuleStep} → KeptStep s s' → KeptStep (on_empty p misfit s) (on_empty p misfit s')
unfolding on_empty
empty_kept [] h = h
empty_kept (x ∷ p) h = no

one_kept : (p : Members) {f g : Member → RuleStep} → ((x : Member) → KeptStep (f x) (g x)) →
    KeptStep (on_one p misfit f) (on_one p misfit g)
unfolding on_one
one_kept [] h = no
one_kept (x ∷ []) h = h x
one_kept (x ∷ (y ∷ p)) h = no

-- ---- evidence
module _ (low high : Limits) (more : low.comparisons ≤ high.comparisons) where
  implication-kept : (l : List Procedure) (φ ψ : Expr Boolean) →
      KeptResult (implication (limited low l) φ ψ) (implication (limited high l) φ ψ)
  unfolding implication
  implication-kept l φ ψ = go (leb n low.comparisons) (leb n high.comparisons) refl refl
    where
      n : ℕ
      n = length (distinct φ ψ)

      fits : Bool → Result
      fits b = elim b [ true ↦ test (truth_table (distinct φ ψ) φ ψ) | false ↦ too_large ]

      go : (a b : Bool) → leb n low.comparisons ≡ a → leb n high.comparisons ≡ b → KeptResult (fits a) (fits b)
      go false b e h = too_large_kept
      go true true e h = kept_result
      go true false e h = clash (le-leb n high.comparisons (omega (arith, leb-true n low.comparisons e))) h

  module _ (l : List Procedure) where
    each-kept : (q : Members) → KeptResult (each_implies_false (limited low l) q) (each_implies_false (limited high l) q)
    unfolding each_implies_false
    each-kept [] = kept_result
    each-kept (m ∷ q) = then-kept (implication-kept l _ _) (each-kept q)

    pub pre-kept : (k : PreEvidence) (φ : Expr Boolean) (c : Command) (φ' : Expr Boolean) →
        Kept (judge (limited low l) k φ c φ') (judge (limited high l) k φ c φ')
    unfolding judge pre_rule
    pre-kept (by pre20 i (assertion φ₁ & assertion φ₂ & child k & child n & done)) φ c φ' = word_kept i
        (if_kept c λ b c₁ c₂. children-kept (also_kept (pre-kept k φ₁ c₁ φ') (pre-kept n φ₂ c₂ φ')))
    pre-kept (by pre21 i (assertion φ₀ & child k & done)) φ c φ' = word_kept i
        (while-kept c λ b c₁. both-kept (then-kept (implication-kept l _ _) (implication-kept l _ _)) (pre-kept k φ₀ c₁ φ))
    pre-kept (by pre22 i done) φ c φ' = kept
    pre-kept (by pre23 i (assertion φ₁ & child k & child n & done)) φ c φ' = word_kept i
        (sequence-kept c λ c₁ c₂. children-kept (also_kept (pre-kept k φ c₁ φ₁) (pre-kept n φ₁ c₂ φ')))
    pre-kept (by pre24 i done) φ c φ' = kept
    pre-kept (by pre25 i done) φ c φ' = kept
    pre-kept (by pre26 i done) φ c φ' = kept
    pre-kept (by pre27 i done) φ c φ' = kept
    pre-kept (by pre28 i (assertion φ₁ & child k & done)) φ c φ' = word_kept i
        (both-kept (implication-kept l _ _) (pre-kept k φ₁ c φ'))
    pre-kept (by pre29 i done) φ c φ' = kept
    pre-kept (by pre30 i (command d & child k & done)) φ c φ' = word_kept i
        (for-kept c λ q m c₁. children-kept (pre-kept k φ d φ'))
    pre-kept (by pre32 i (child k & done)) φ c φ' = word_kept i
        (call_kept c λ n d. children-kept (pre-kept k φ d φ'))

    pub set-kept : (k : SetEvidence) (p q : Members) → Kept (judge (limited low l) k p q) (judge (limited high l) k p q)
    unfolding judge set_rule
    set-kept (by set13 i done) p q = kept
    set-kept (by set14 i done) p q = word_kept i (empty_kept p (childless-kept (each-kept q)))
    set-kept (by set15 i done) p q = kept
    set-kept (by set16 i (members s & members s' & members t & members t' & child k & child n & done)) p q = word_kept i
        (children-kept (also_kept (set-kept k s s') (set-kept n t t')))
    set-kept (by set17 i (members s & members s' & members t & child k & child n & done)) p q = word_kept i
        (children-kept (also_kept (set-kept k s s') (set-kept n t q)))
    set-kept (by set18 i done) p q = word_kept i
        (one_kept p λ x. one_kept q λ y. childless-kept (then-kept kept_result (implication-kept l _ _)))
    set-kept (by set19 i done) p q = kept

    pub flow-kept : (k : FlowEvidence) (p : Members) (c : Command) (q : Members) →
        Kept (judge (limited low l) k p c q) (judge (limited high l) k p c q)
    unfolding judge flow_rule
    flow-kept (by flow1 i done) p c q = kept
    flow-kept (by flow2 i (members s & child k & child n & done)) p c q = word_kept i
        (sequence-kept c λ c₁ c₂. children-kept (also_kept (flow-kept k p c₁ s) (flow-kept n s c₂ q)))
    flow-kept (by flow3 i done) p c q = kept
    flow-kept (by flow4 i done) p c q = kept
    flow-kept (by flow5 i done) p c q = kept
    flow-kept (by flow6 i (members s & members t & assertion φ₀ & child k & child m & child n & done)) p c q = word_kept i
        (if_kept c λ b c₁ c₂. one_kept q λ x. children-kept
        (also_kept (flow-kept k s c₁ q) (also_kept (flow-kept m t c₂ q) (pre-kept n φ₀ c x.antecedent))))
    flow-kept (by flow7 i (members s & child n & child k & done)) p c q = word_kept i
        (children-kept (also_kept (set-kept n p s) (flow-kept k s c q)))
    flow-kept (by flow8 i (members s & child k & child n & done)) p c q = word_kept i
        (children-kept (also_kept (flow-kept k p c s) (set-kept n s q)))
    flow-kept (by flow9 i (members s & members s' & members t & members t' & child k & child n & done)) p c q = word_kept i
        (children-kept (also_kept (flow-kept k s c s') (flow-kept n t c t')))
    flow-kept (by flow10 i done) p c q = kept
    flow-kept (by flow11 i (child n & done)) p c q = word_kept i
        (one_kept p λ x. one_kept q λ y. children-kept (pre-kept n x.antecedent c y.antecedent))
    flow-kept (by flow12 i (members s & members s' & assertion φ & assertion φ' & child k & child n & done)) p c q = word_kept i
        (children-kept (also_kept (flow-kept k s c s') (pre-kept n φ c φ')))
    flow-kept (by flow13 i (child k & done)) p c q = word_kept i (while-kept c λ b c₁. children-kept (flow-kept k p c₁ q))
    flow-kept (by flow14 i (command d & child k & done)) p c q = word_kept i (for-kept c λ v m c₁. children-kept (flow-kept k p d q))
    flow-kept (by flow31 i done) p c q = kept
