-- What holds of every verdict, from what holds of a word's own and of its children's in order.
-- Assumes nothing.
--     tally, Everywhere, anywhere        the count of evidence words; a statement about the place of each; one that holds of any place
--     Holding                            what is asked of a statement about verdicts with a number
--     pre-holds, set_holds, flow-holds   it holds of the verdict of evidence, with its count
use mathlib.Core.Path.{◌≡◌, refl, ap, subst, sym}
use mathlib.Core.List.{List, [], ◌∷◌}
use mathlib.Core.Option.{Option, none, some}
use Prim.Native.Nat.{ℕ, suc, ◌+◌}
use native.Mathlib.Omega.{arith}
use Rattle.language.specs.Syntax.{Arithmetic, Boolean, Array, Expr, to_scalar, to_array}
use Rattle.language.specs.Syntax.{Command, skip, sequence, assert, assign, if_else, while, for, call}
use Rattle.rules.specs.Assertion.{Member, Members}
use Rattle.rules.specs.Context.{Context, item_at}
use Rattle.rules.specs.Sets.{operands}
use Rattle.rules.specs.Evidence.{Judgement, flow, implication, precondition, Item, assertion_item, command_item}
use Rattle.rules.specs.Evidence.{members_item, child_item, Rule, Standing, evidence, item, items, Tree, by}
use Rattle.rules.specs.Evidence.{assertion, command, members, child, done, ◌&◌, Parts, FlowEvidence, SetEvidence}
use Rattle.rules.specs.Evidence.{PreEvidence, flow1, flow2, flow3, flow4, flow5, flow6, flow7, flow8, flow9}
use Rattle.rules.specs.Evidence.{flow10, flow11, flow12, flow13, flow14, flow31, set13, set14, set15, set16, set17, set18}
use Rattle.rules.specs.Evidence.{set19, pre20, pre21, pre22, pre23, pre24, pre25, pre26, pre27, pre28, pre29}
use Rattle.rules.specs.Evidence.{pre30, pre32}
use Rattle.rules.specs.Condition.{Result, passes, fails, too_large, by_form, on_skip, on_sequence, on_assert, on_scalar}
use Rattle.rules.specs.Condition.{on_array, on_if, on_while, on_for, on_call, on_empty, on_one, on_some}
use Rattle.rules.specs.Judge.{Verdict, accepted, refused, one_more, ◌also◌, RuleStep, step, misfit, childless, judge_word}
use Rattle.rules.specs.Judge.{Judge, GivenItem, GivenItems, Given, applied, pre_rule, set_rule, flow_rule, judge}

-- the count of evidence: what is carried has none
abbrev pub tally : {s : Standing} → Tree s → ℕ
tally (by r i t) = suc (tally t)
tally (assertion φ) = 0
tally (command c) = 0
tally (members p) = 0
tally (child k) = tally k
tally done = 0
tally (x & t) = tally x + tally t

-- the counts of parts, and their sum: a last child's is not added to 0, as its verdict is joined with no other
abbrev PartCounts : List Item → Type 0
PartCounts [] = Unit {0}
PartCounts (x ∷ l) = ℕ × PartCounts l

abbrev total : (l : List Item) → PartCounts l → ℕ
total [] n = 0
total (assertion_item ∷ l) n = total l n.1
total (command_item ∷ l) n = total l n.1
total (members_item ∷ l) n = total l n.1
total (child_item j ∷ []) n = n.0
total (child_item j ∷ (x ∷ l)) n = n.0 + total (x ∷ l) n.1

abbrev counts : {l : List Item} → Parts l → PartCounts l
counts done = tt
counts (x & t) = (tally x, counts t)

tally-total : {l : List Item} (t : Parts l) → tally t ≡ total l (counts t)
tally-total done = refl
tally-total (assertion φ & t) = let e = tally-total t in omega (arith, e)
tally-total (command c & t) = let e = tally-total t in omega (arith, e)
tally-total (members p & t) = let e = tally-total t in omega (arith, e)
tally-total (child k & done) = omega arith
tally-total (child k & (x & t)) = let e = tally-total (x & t) in omega (arith, e)

-- H holds of the place of each evidence word
abbrev pub Everywhere : (ℕ → Type 0) → {s : Standing} → Tree s → Type 0
Everywhere H (by r i t) = H i × Everywhere H t
Everywhere H (assertion φ) = Unit {0}
Everywhere H (command c) = Unit {0}
Everywhere H (members p) = Unit {0}
Everywhere H (child k) = Everywhere H k
Everywhere H done = Unit {0}
Everywhere H (x & t) = Everywhere H x × Everywhere H t

pub anywhere : {H : ℕ → Type 0} → ((i : ℕ) → H i) → {s : Standing} (t : Tree s) → Everywhere H t
anywhere h (by r i t) = (h i, anywhere h t)
anywhere h (assertion φ) = tt
anywhere h (command c) = tt
anywhere h (members p) = tt
anywhere h (child k) = anywhere h k
anywhere h done = tt
anywhere h (x & t) = (anywhere h x, anywhere h t)

-- P holds of no evidence, of evidence after other evidence, and of a word at a place of which H holds
pub record Holding (H : ℕ → Type 0) (P : Verdict → ℕ → Type 0) : Type 0 where
  pub nothing : P (accepted 0) 0
  pub both : (v w : Verdict) (m n : ℕ) → P v m → P w n → P (v also w) (m + n)
  pub passed : (v : Verdict) (m : ℕ) → P v m → P (one_more v) (suc m)
  pub failed : (i m : ℕ) → H i → P (refused 8 i) m
  pub large : (i m : ℕ) → H i → P (refused 9 i) m

module _ {H : ℕ → Type 0} {P : Verdict → ℕ → Type 0} (holding : Holding H P) where
  -- what a rule comes to, whose children have m where its conditions pass
  abbrev HoldsBy : RuleStep → ℕ → Type 0
  HoldsBy (step passes v) m = P v m
  HoldsBy (step fails v) m = Unit {0}
  HoldsBy (step too_large v) m = Unit {0}

  record StepHolds (s : RuleStep) (m : ℕ) : Type 0 where
    children : HoldsBy s m

  word_holds : (i : ℕ) → H i → {s : RuleStep} {m n : ℕ} → StepHolds s m → n ≡ suc m → P (judge_word i s) n
  unfolding judge_word
  word_holds i h {s} {m} {n} x e = go s x.children
    where
      go : (s : RuleStep) → HoldsBy s m → P (judge_word i s) n
      go (step passes v) c = subst (P (one_more v)) (sym e) (holding.passed v m c)
      go (step fails v) c = holding.failed i n h
      go (step too_large v) c = holding.large i n h

  also_holds : {v w : Verdict} {m n : ℕ} → P v m → P w n → P (v also w) (m + n)
  also_holds {v} {w} {m} {n} g h = holding.both v w m n g h

  passing : (r : Result) {v : Verdict} {m : ℕ} → P v m → StepHolds (step r v) m
  passing passes h = record { children = h }
  passing fails h = record { children = tt }
  passing too_large h = record { children = tt }

  leaf-holds : (r : Result) → StepHolds (childless r) 0
  leaf-holds r = passing r holding.nothing

  -- a command, a set or operands, by their form: it holds in every case
  module _ (m : ℕ) where
    form-holds : (c : Command) {s : RuleStep} {q : Command → Command → RuleStep} {t : Expr Boolean → RuleStep}
        {x : ℕ → Expr Arithmetic → RuleStep} {a : ℕ → Expr Array → RuleStep}
        {f : Expr Boolean → Command → Command → RuleStep} {w : Expr Boolean → Command → RuleStep}
        {o : ℕ → ℕ → Command → RuleStep} {l : ℕ → Command → RuleStep} → StepHolds s m → ((c d : Command) → StepHolds (q c d) m) →
        ((b : Expr Boolean) → StepHolds (t b) m) → ((y : ℕ) (e : Expr Arithmetic) → StepHolds (x y e) m) →
        ((y : ℕ) (e : Expr Array) → StepHolds (a y e) m) →
        ((b : Expr Boolean) (c d : Command) → StepHolds (f b c d) m) →
        ((b : Expr Boolean) (c : Command) → StepHolds (w b c) m) → ((y n : ℕ) (c : Command) → StepHolds (o y n c) m) →
        ((y : ℕ) (c : Command) → StepHolds (l y c) m) → StepHolds (by_form s q t x a f w o l c) m
    unfolding by_form
    form-holds skip s q t x a f w o l = s
    form-holds (sequence c d) s q t x a f w o l = q c d
    form-holds (assert b) s q t x a f w o l = t b
    form-holds (assign (to_scalar y e)) s q t x a f w o l = x y e
    form-holds (assign (to_array y e)) s q t x a f w o l = a y e
    form-holds (if_else b c d) s q t x a f w o l = f b c d
    form-holds (while b c) s q t x a f w o l = w b c
    form-holds (for y n c) s q t x a f w o l = o y n c
    form-holds (call y c) s q t x a f w o l = l y c

    no : StepHolds misfit m
    no = record { children = tt }

    skip-holds : (c : Command) {f : RuleStep} → StepHolds f m →
        StepHolds (on_skip c misfit f) m
    skip-holds c h = form-holds c h (λ c d. no) (λ b. no) (λ y e. no) (λ y e. no) (λ b c d. no) (λ b c. no) (λ y n c. no) (λ y c. no)

    sequence-holds : (c : Command) {f : Command → Command → RuleStep} → ((c₁ c₂ : Command) → StepHolds (f c₁ c₂) m) →
        StepHolds (on_sequence c misfit f) m
    sequence-holds c h = form-holds c no h (λ b. no) (λ y e. no) (λ y e. no) (λ b c d. no) (λ b c. no) (λ y n c. no) (λ y c. no)

    assert-holds : (c : Command) {f : Expr Boolean → RuleStep} → ((b : Expr Boolean) → StepHolds (f b) m) →
        StepHolds (on_assert c misfit f) m
    assert-holds c h = form-holds c no (λ c d. no) h (λ y e. no) (λ y e. no) (λ b c d. no) (λ b c. no) (λ y n c. no) (λ y c. no)

    scalar-holds : (c : Command) {f : ℕ → Expr Arithmetic → RuleStep} → ((x : ℕ) (e : Expr Arithmetic) → StepHolds (f x e) m) →
        StepHolds (on_scalar c misfit f) m
    scalar-holds c h = form-holds c no (λ c d. no) (λ b. no) h (λ y e. no) (λ b c d. no) (λ b c. no) (λ y n c. no) (λ y c. no)

    array-holds : (c : Command) {f : ℕ → Expr Array → RuleStep} → ((a : ℕ) (e : Expr Array) → StepHolds (f a e) m) →
        StepHolds (on_array c misfit f) m
    array-holds c h = form-holds c no (λ c d. no) (λ b. no) (λ y e. no) h (λ b c d. no) (λ b c. no) (λ y n c. no) (λ y c. no)

    if_holds : (c : Command) {f : Expr Boolean → Command → Command → RuleStep} → ((b : Expr Boolean) (c₁ c₂ : Command) → StepHolds (f b c₁ c₂) m) →
        StepHolds (on_if c misfit f) m
    if_holds c h = form-holds c no (λ c d. no) (λ b. no) (λ y e. no) (λ y e. no) h (λ b c. no) (λ y n c. no) (λ y c. no)

    while-holds : (c : Command) {f : Expr Boolean → Command → RuleStep} → ((b : Expr Boolean) (c₁ : Command) → StepHolds (f b c₁) m) →
        StepHolds (on_while c misfit f) m
    while-holds c h = form-holds c no (λ c d. no) (λ b. no) (λ y e. no) (λ y e. no) (λ b c d. no) h (λ y n c. no) (λ y c. no)

    for-holds : (c : Command) {f : ℕ → ℕ → Command → RuleStep} → ((q n : ℕ) (c₁ : Command) → StepHolds (f q n c₁) m) →
        StepHolds (on_for c misfit f) m
    for-holds c h = form-holds c no (λ c d. no) (λ b. no) (λ y e. no) (λ y e. no) (λ b c d. no) (λ b c. no) h (λ y c. no)

    call-holds : (c : Command) {f : ℕ → Command → RuleStep} → ((n : ℕ) (c₁ : Command) → StepHolds (f n c₁) m) →
        StepHolds (on_call c misfit f) m
    call-holds c h = form-holds c no (λ c d. no) (λ b. no) (λ y e. no) (λ y e. no) (λ b c d. no) (λ b c. no) (λ y n c. no) h

    empty_holds : (p : Members) {v : RuleStep} → StepHolds v m → StepHolds (on_empty p misfit v) m
    unfolding on_empty
    empty_holds [] h = h
    empty_holds (x ∷ p) h = no

    one_holds : (p : Members) {f : Member → RuleStep} → ((x : Member) → StepHolds (f x) m) →
        StepHolds (on_one p misfit f) m
    unfolding on_one
    one_holds [] h = no
    one_holds (x ∷ []) h = h x
    one_holds (x ∷ (y ∷ p)) h = no

    some_holds : {B : Type 0} (o : Option B) {f : B → RuleStep} → ((r : B) → StepHolds (f r) m) →
        StepHolds (on_some o misfit f) m
    unfolding on_some
    some_holds none h = no
    some_holds (some r) h = h r

  -- what is judged, with its count: every verdict holds
  abbrev JudgeHolds : (j : Judgement) → Judge j → ℕ → Type 0
  JudgeHolds flow k n = (p : Members) (c : Command) (q : Members) → P (k p c q) n
  JudgeHolds implication k n = (p q : Members) → P (k p q) n
  JudgeHolds precondition k n = (φ : Expr Boolean) (c : Command) (φ' : Expr Boolean) → P (k φ c φ') n

  abbrev PartHolds : (x : Item) → GivenItem x → ℕ → Type 0
  PartHolds assertion_item g n = Unit {0}
  PartHolds command_item g n = Unit {0}
  PartHolds members_item g n = Unit {0}
  PartHolds (child_item j) g n = JudgeHolds j g n

  abbrev PartsHold : (l : List Item) → GivenItems l → PartCounts l → Type 0
  PartsHold [] g n = Unit {0}
  PartsHold (x ∷ l) g n = PartHolds x g.0 n.0 × PartsHold l g.1 n.1

  abbrev TreeHolds : (s : Standing) → Given s → Tree s → Type 0
  TreeHolds (evidence j) g t = JudgeHolds j g (tally t)
  TreeHolds (item x) g t = PartHolds x g (tally t)
  TreeHolds (items l) g t = PartsHold l g (counts t)

  module _ (Γ : Context) where
    pre-rule : {n : ℕ} {l : List Item} (r : Rule precondition n l) (g : GivenItems l) (m : PartCounts l) → PartsHold l g m →
        (φ : Expr Boolean) (c : Command) (φ' : Expr Boolean) → StepHolds (applied l (pre_rule Γ r) g φ c φ') (total l m)
    unfolding pre_rule
    pre-rule pre20 (φ₁, (φ₂, _)) m (_, (_, (k, (l, _)))) φ c φ' =
        if_holds _ c λ b c₁ c₂. passing _ (also_holds (k φ₁ c₁ φ') (l φ₂ c₂ φ'))
    pre-rule pre21 (φ₀, _) m (_, (k, _)) φ c φ' = while-holds _ c λ b c₁. passing _ (k φ₀ c₁ φ)
    pre-rule pre22 g m h φ c φ' = skip-holds _ c (leaf-holds _)
    pre-rule pre23 (φ₁, _) m (_, (k, (l, _))) φ c φ' =
        sequence-holds _ c λ c₁ c₂. passing _ (also_holds (k φ c₁ φ₁) (l φ₁ c₂ φ'))
    pre-rule pre24 g m h φ c φ' = scalar-holds _ c λ x e. leaf-holds _
    pre-rule pre25 g m h φ c φ' = array-holds _ c λ a e. leaf-holds _
    pre-rule pre26 g m h φ c φ' = assert-holds _ c λ b. leaf-holds _
    pre-rule pre27 g m h φ c φ' = leaf-holds _
    pre-rule pre28 (φ₁, _) m (_, (k, _)) φ c φ' = passing _ (k φ₁ c φ')
    pre-rule pre29 g m h φ c φ' = leaf-holds _
    pre-rule pre30 (d, _) m (_, (k, _)) φ c φ' = for-holds _ c λ q n c₁. passing _ (k φ d φ')
    pre-rule pre32 g m (k, _) φ c φ' = call-holds _ c λ n d. passing _ (k φ d φ')

    set-rule : {n : ℕ} {l : List Item} (r : Rule implication n l) (g : GivenItems l) (m : PartCounts l) → PartsHold l g m →
        (p q : Members) → StepHolds (applied l (set_rule Γ r) g p q) (total l m)
    unfolding set_rule
    set-rule set13 g m h p q = leaf-holds _
    set-rule set14 g m h p q = empty_holds _ p (leaf-holds _)
    set-rule set15 g m h p q = empty_holds _ p (one_holds _ q λ n. leaf-holds _)
    set-rule set16 (s, (s', (t, (t', _)))) m (_, (_, (_, (_, (k, (l, _)))))) p q = passing _ (also_holds (k s s') (l t t'))
    set-rule set17 (s, (s', (t, _))) m (_, (_, (_, (k, (l, _))))) p q = passing _ (also_holds (k s s') (l t q))
    set-rule set18 g m h p q = one_holds _ p λ x. one_holds _ q λ y. leaf-holds _
    set-rule set19 g m h p q = one_holds _ q λ x. some_holds _ (operands x.antecedent x.consequent) λ r. leaf-holds _

    flow-rule : {n : ℕ} {l : List Item} (r : Rule flow n l) (g : GivenItems l) (m : PartCounts l) → PartsHold l g m →
        (p : Members) (c : Command) (q : Members) → StepHolds (applied l (flow_rule Γ r) g p c q) (total l m)
    unfolding flow_rule
    flow-rule flow1 g m h p c q = skip-holds _ c (leaf-holds _)
    flow-rule flow2 (s, _) m (_, (k, (l, _))) p c q =
        sequence-holds _ c λ c₁ c₂. passing _ (also_holds (k p c₁ s) (l s c₂ q))
    flow-rule flow3 g m h p c q = scalar-holds _ c λ x e. leaf-holds _
    flow-rule flow4 g m h p c q = array-holds _ c λ a e. leaf-holds _
    flow-rule flow5 g m h p c q = assert-holds _ c λ b. leaf-holds _
    flow-rule flow6 (s, (t, (φ₀, _))) m (_, (_, (_, (k, (l, (n, _)))))) p c q =
        if_holds _ c λ b c₁ c₂. one_holds _ q λ x.
        passing _ (also_holds (k s c₁ q) (also_holds (l t c₂ q) (n φ₀ c x.antecedent)))
    flow-rule flow7 (s, _) m (_, (n, (k, _))) p c q = passing _ (also_holds (n p s) (k s c q))
    flow-rule flow8 (s, _) m (_, (k, (n, _))) p c q = passing _ (also_holds (k p c s) (n s q))
    flow-rule flow9 (s, (s', (t, (t', _)))) m (_, (_, (_, (_, (k, (l, _)))))) p c q = passing _ (also_holds (k s c s') (l t c t'))
    flow-rule flow10 g m h p c q = leaf-holds _
    flow-rule flow11 g m (n, _) p c q =
        one_holds _ p λ x. one_holds _ q λ y. passing _ (n x.antecedent c y.antecedent)
    flow-rule flow12 (s, (s', (φ, (φ', _)))) m (_, (_, (_, (_, (k, (n, _)))))) p c q = passing _ (also_holds (k s c s') (n φ c φ'))
    flow-rule flow13 g m (k, _) p c q = while-holds _ c λ b c₁. passing _ (k p c₁ q)
    flow-rule flow14 (d, _) m (_, (k, _)) p c q = for-holds _ c λ v n c₁. passing _ (k p d q)
    flow-rule flow31 g m h p c q = call-holds _ c λ n d. some_holds _ (item_at Γ.procedures n) λ k. leaf-holds _

    tree-holds : {s : Standing} (t : Tree s) → Everywhere H t → TreeHolds s (judge Γ t) t
    unfolding judge
    tree-holds (by {j = flow} r i t) (h, a) = λ p c q.
        word_holds i h (flow-rule r _ _ (tree-holds t a) p c q) (ap suc (tally-total t))
    tree-holds (by {j = implication} r i t) (h, a) = λ p q.
        word_holds i h (set-rule r _ _ (tree-holds t a) p q) (ap suc (tally-total t))
    tree-holds (by {j = precondition} r i t) (h, a) = λ φ c φ'.
        word_holds i h (pre-rule r _ _ (tree-holds t a) φ c φ') (ap suc (tally-total t))
    tree-holds (assertion φ) a = tt
    tree-holds (command c) a = tt
    tree-holds (members p) a = tt
    tree-holds (child k) a = tree-holds k a
    tree-holds done a = tt
    tree-holds (x & t) (a, b) = (tree-holds x a, tree-holds t b)

    pub pre-holds : (k : PreEvidence) (φ : Expr Boolean) (c : Command) (φ' : Expr Boolean) → Everywhere H k →
        P (judge Γ k φ c φ') (tally k)
    pre-holds k φ c φ' a = tree-holds k a φ c φ'

    pub set_holds : (k : SetEvidence) (p q : Members) → Everywhere H k → P (judge Γ k p q) (tally k)
    set_holds k p q a = tree-holds k a p q

    pub flow-holds : (k : FlowEvidence) (p : Members) (c : Command) (q : Members) → Everywhere H k →
        P (judge Γ k p c q) (tally k)
    flow-holds k p c q a = tree-holds k a p c q
