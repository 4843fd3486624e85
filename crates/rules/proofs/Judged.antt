-- The judge accepts exactly the derivations: evidence is accepted for a goal when, and only when, it derives the goal.
-- Assumes nothing.
--     Accepts                                          a verdict that is an acceptance
--     also_is, also_accepts                            two verdicts that are
--     Exact                                            accepted exactly when a statement holds
--     necessary-judged, follows_judged, flow-judged    accepted exactly when derived
use mathlib.Core.Path.{◌≡◌, refl, sym, subst}
use mathlib.Core.List.{[], ◌∷◌}
use Prim.Native.Nat.{ℕ}
use Rattle.language.specs.Syntax.{Boolean, Expr, Command, if_else}
use Rattle.language.specs.Modifies.{identifiers}
use Rattle.rules.specs.Assertion.{Members}
use Rattle.rules.specs.Context.{Context, item_at}
use Rattle.rules.specs.Sets.{SamePlain, operands, set_identifiers}
use Rattle.rules.specs.Tests.{same}
use Rattle.rules.specs.Evidence.{FlowEvidence, SetEvidence, PreEvidence, by, assertion, command, members, child}
use Rattle.rules.specs.Evidence.{done, ◌&◌, flow1, flow2, flow3, flow4, flow5, flow6, flow7, flow8, flow9, flow10}
use Rattle.rules.specs.Evidence.{flow11, flow12, flow13, flow14, flow31, set13, set14, set15, set16, set17, set18, set19}
use Rattle.rules.specs.Evidence.{pre20, pre21, pre22, pre23, pre24, pre25, pre26, pre27, pre28, pre29, pre30, pre32}
use Rattle.rules.specs.Derivation as derivation
use Rattle.rules.specs.Derivation.{rule-20, rule-21, rule-22, rule-23, rule-24, rule-25, rule-26}
use Rattle.rules.specs.Derivation.{rule-27, rule-28, rule-29, rule-30, rule-32, set_rule-13, set_rule-14}
use Rattle.rules.specs.Derivation.{set_rule-15, set_rule-16, set_rule-17, set_rule-18, set_rule-19}
use Rattle.rules.specs.Derivation.{rule-1, rule-2, rule-3, rule-4, rule-5, rule-6, rule-7, rule-8, rule-9}
use Rattle.rules.specs.Derivation.{rule-10, rule-11, rule-12, rule-13, rule-14, rule-31}
use Rattle.rules.specs.Condition.{Result, passes, fails, too_large, test, ◌then◌, by_form, on_empty, on_one, on_some}
use Rattle.rules.specs.Judge.{Verdict, accepted, refused, one_more, ◌also◌, RuleStep, step, childless, misfit, judge_word}
use Rattle.rules.specs.Judge.{pre_rule, set_rule, flow_rule, judge}
use Rattle.rules.proofs.Decides.{same_words-decides, same_antecedent-decides, same_consequent-decides}
use Rattle.rules.proofs.Decides.{stands-decides, within-decides, same-decides, unmodified-decides}
use Rattle.rules.proofs.Decides.{is_empty-decides}
use Rattle.rules.proofs.Passes.{Passes, test-passes, then-passes}
use Rattle.rules.proofs.Implication.{implication-passes, each_implies_false-passes}
use Rattle.rules.proofs.Forms.{skip_is, sequence-is, assert-is, scalar_is, array-is, if_is, while-is, for-is}
use Rattle.rules.proofs.Forms.{call-is, empty_is, one-is, some_is}

-- by the rules with request [2]
abbrev Necessary : Context → PreEvidence → Expr Boolean → Command → Expr Boolean → Type 0
Necessary = derivation.Necessary SamePlain

abbrev Follows : Context → SetEvidence → Members → Members → Type 0
Follows = derivation.Follows SamePlain

abbrev Flow : Context → FlowEvidence → Members → Command → Members → Type 0
Flow = derivation.Flow SamePlain

abbrev pub Accepts : Verdict → Type 0
Accepts (accepted n) = Unit {0}
Accepts (refused k i) = ⊥

-- a word at place i whose rule comes to a step that is accepted
abbrev WordAccepted : ℕ → RuleStep → Type 0
WordAccepted i s = Accepts (judge_word i s)

misfits : (i : ℕ) → WordAccepted i misfit → ⊥
unfolding judge_word
misfits i h = h

-- what the acceptance of a word says, and what it takes
module _ {R : Type 0} where
  word-is : (i : ℕ) (r : Result) (v : Verdict) → Accepts (judge_word i (step r v)) → (Passes r → Accepts v → R) → R
  unfolding judge_word one_more
  word-is i passes (accepted n) h k = k tt tt
  word-is i passes (refused j l) h k = absurd h
  word-is i fails v h k = absurd h
  word-is i too_large v h k = absurd h

  pub also_is : (v w : Verdict) → Accepts (v also w) → (Accepts v → Accepts w → R) → R
  unfolding ◌also◌
  also_is (accepted m) (accepted n) h k = k tt tt
  also_is (accepted m) (refused j l) h k = absurd h
  also_is (refused j l) w h k = absurd h

word-accepts : (i : ℕ) (r : Result) (v : Verdict) → Passes r → Accepts v → Accepts (judge_word i (step r v))
unfolding judge_word one_more
word-accepts i passes (accepted n) g h = tt
word-accepts i passes (refused j l) g h = h
word-accepts i fails v g h = g
word-accepts i too_large v g h = g

leaf-accepts : (i : ℕ) (r : Result) → Passes r → Accepts (judge_word i (childless r))
leaf-accepts i r h = word-accepts i r (accepted 0) h tt

pub also_accepts : (v w : Verdict) → Accepts v → Accepts w → Accepts (v also w)
unfolding ◌also◌
also_accepts (accepted m) (accepted n) g h = tt
also_accepts (accepted m) (refused j l) g h = h
also_accepts (refused j l) w g h = g

module _ (Γ : Context) where
  necessary-sound : (k : PreEvidence) (φ : Expr Boolean) (c : Command) (φ' : Expr Boolean) →
      Accepts (judge Γ k φ c φ') → Necessary Γ k φ c φ'
  unfolding judge pre_rule
  necessary-sound (by pre20 i (assertion φ₁ & assertion φ₂ & child k & child l & done)) φ c φ' h =
      if_is (WordAccepted i) _ (misfits i) (λ c. Necessary Γ (by pre20 i (assertion φ₁ & assertion φ₂ & child k & child l & done)) φ c φ') c _ h λ b c₁ c₂ h.
      word-is i _ _ h λ g h. also_is _ _ h λ u v.
      rule-20 ((test-passes (same_antecedent-decides φ _)).sound g) (necessary-sound k φ₁ c₁ φ' u)
      (necessary-sound l φ₂ c₂ φ' v)
  necessary-sound (by pre21 i (assertion φ₀ & child k & done)) φ c φ' h =
      while-is (WordAccepted i) _ (misfits i) (λ c. Necessary Γ (by pre21 i (assertion φ₀ & child k & done)) φ c φ') c _ h λ b c₁ h.
      word-is i _ _ h λ g u.
      let both = (then-passes (implication-passes Γ _ φ) (implication-passes Γ _ φ)).sound g in
      rule-21 both.0 both.1 (necessary-sound k φ₀ c₁ φ u)
  necessary-sound (by pre22 i done) φ c φ' h =
      skip_is (WordAccepted i) _ (misfits i) (λ c. Necessary Γ (by pre22 i done) φ c φ') c _ h λ h.
      word-is i _ _ h λ g u. rule-22 ((test-passes (same_antecedent-decides φ φ')).sound g)
  necessary-sound (by pre23 i (assertion φ₁ & child k & child l & done)) φ c φ' h =
      sequence-is (WordAccepted i) _ (misfits i) (λ c. Necessary Γ (by pre23 i (assertion φ₁ & child k & child l & done)) φ c φ') c _ h λ c₁ c₂ h.
      word-is i _ _ h λ g h. also_is _ _ h λ u v.
      rule-23 (necessary-sound k φ c₁ φ₁ u) (necessary-sound l φ₁ c₂ φ' v)
  necessary-sound (by pre24 i done) φ c φ' h =
      scalar_is (WordAccepted i) _ (misfits i) (λ c. Necessary Γ (by pre24 i done) φ c φ') c _ h λ x e h.
      word-is i _ _ h λ g u. rule-24 ((test-passes (same_antecedent-decides φ _)).sound g)
  necessary-sound (by pre25 i done) φ c φ' h =
      array-is (WordAccepted i) _ (misfits i) (λ c. Necessary Γ (by pre25 i done) φ c φ') c _ h λ a e h.
      word-is i _ _ h λ g u. rule-25 ((test-passes (same_antecedent-decides φ _)).sound g)
  necessary-sound (by pre26 i done) φ c φ' h =
      assert-is (WordAccepted i) _ (misfits i) (λ c. Necessary Γ (by pre26 i done) φ c φ') c _ h λ b h.
      word-is i _ _ h λ g u. rule-26 ((test-passes (same_antecedent-decides φ _)).sound g)
  necessary-sound (by pre27 i done) φ c φ' h = word-is i _ _ h λ g u.
      let both = (then-passes (test-passes (same_antecedent-decides φ φ'))
      (test-passes (unmodified-decides (identifiers φ) c))).sound g in
      rule-27 both.0 both.1
  necessary-sound (by pre28 i (assertion φ₁ & child k & done)) φ c φ' h = word-is i _ _ h λ g u.
      rule-28 ((implication-passes Γ φ₁ φ).sound g) (necessary-sound k φ₁ c φ' u)
  necessary-sound (by pre29 i done) φ c φ' h = word-is i _ _ h λ g u.
      rule-29 ((test-passes (same_antecedent-decides φ _)).sound g)
  necessary-sound (by pre30 i (command d & child k & done)) φ c φ' h =
      for-is (WordAccepted i) _ (misfits i) (λ c. Necessary Γ (by pre30 i (command d & child k & done)) φ c φ') c _ h λ q m c₁ h.
      word-is i _ _ h λ g u. rule-30 ((test-passes (same_words-decides _ _)).sound g) (necessary-sound k φ d φ' u)
  necessary-sound (by pre32 i (child k & done)) φ c φ' h =
      call-is (WordAccepted i) _ (misfits i) (λ c. Necessary Γ (by pre32 i (child k & done)) φ c φ') c _ h λ n d h.
      word-is i _ _ h λ g u. rule-32 (necessary-sound k φ d φ' u)

  necessary-complete : {k : PreEvidence} {φ : Expr Boolean} {c : Command} {φ' : Expr Boolean} →
      Necessary Γ k φ c φ' → Accepts (judge Γ k φ c φ')
  unfolding judge pre_rule by_form
  necessary-complete (rule-20 {i = i} g u v) =
      word-accepts i _ _ ((test-passes (same_antecedent-decides _ _)).complete g)
      (also_accepts _ _ (necessary-complete u) (necessary-complete v))
  necessary-complete (rule-21 {i = i} g h u) =
      word-accepts i _ _
      ((then-passes (implication-passes Γ _ _) (implication-passes Γ _ _)).complete (g, h)) (necessary-complete u)
  necessary-complete (rule-22 {i = i} g) = leaf-accepts i _ ((test-passes (same_antecedent-decides _ _)).complete g)
  necessary-complete (rule-23 {i = i} u v) =
      word-accepts i _ _ tt (also_accepts _ _ (necessary-complete u) (necessary-complete v))
  necessary-complete (rule-24 {i = i} g) = leaf-accepts i _ ((test-passes (same_antecedent-decides _ _)).complete g)
  necessary-complete (rule-25 {i = i} g) = leaf-accepts i _ ((test-passes (same_antecedent-decides _ _)).complete g)
  necessary-complete (rule-26 {i = i} g) = leaf-accepts i _ ((test-passes (same_antecedent-decides _ _)).complete g)
  necessary-complete (rule-27 {i = i} {φ = φ} {φ' = φ'} {c = c} g h) =
      leaf-accepts i _
      ((then-passes (test-passes (same_antecedent-decides φ φ')) (test-passes (unmodified-decides (identifiers φ) c))
      ).complete (g, h))
  necessary-complete (rule-28 {i = i} g u) =
      word-accepts i _ _ ((implication-passes Γ _ _).complete g) (necessary-complete u)
  necessary-complete (rule-29 {i = i} g) = leaf-accepts i _ ((test-passes (same_antecedent-decides _ _)).complete g)
  necessary-complete (rule-30 {i = i} g u) =
      word-accepts i _ _ ((test-passes (same_words-decides _ _)).complete g) (necessary-complete u)
  necessary-complete (rule-32 {i = i} u) = word-accepts i _ _ tt (necessary-complete u)

  follows_sound : (k : SetEvidence) (p q : Members) → Accepts (judge Γ k p q) → Follows Γ k p q
  unfolding judge set_rule
  follows_sound (by set13 i done) p q h = word-is i _ _ h λ g u. set_rule-13 ((test-passes (within-decides q p)).sound g)
  follows_sound (by set14 i done) p q h =
      empty_is (WordAccepted i) _ (misfits i) (λ p. Follows Γ (by set14 i done) p q) p _ h λ h.
      word-is i _ _ h λ g u. set_rule-14 ((each_implies_false-passes Γ q).sound g)
  follows_sound (by set15 i done) p q h =
      empty_is (WordAccepted i) _ (misfits i) (λ p. Follows Γ (by set15 i done) p q) p _ h λ h.
      one-is (WordAccepted i) _ (misfits i) (λ q. Follows Γ (by set15 i done) [] q) q _ h λ n h.
      word-is i _ _ h λ g u. set_rule-15 ((test-passes (is_empty-decides _)).sound g)
  follows_sound (by set16 i (members s & members s' & members t & members t' & child k & child l & done)) p q h = word-is i _ _ h λ g h. also_is _ _ h λ u v.
      let both = (then-passes (test-passes (same-decides p _)) (test-passes (same-decides q _))).sound g in
      set_rule-16 both.0 both.1 (follows_sound k s s' u) (follows_sound l t t' v)
  follows_sound (by set17 i (members s & members s' & members t & child k & child l & done)) p q h = word-is i _ _ h λ g h. also_is _ _ h λ u v.
      set_rule-17 ((test-passes (same-decides p _)).sound g) (follows_sound k s s' u) (follows_sound l t q v)
  follows_sound (by set18 i done) p q h =
      one-is (WordAccepted i) _ (misfits i) (λ p. Follows Γ (by set18 i done) p q) p _ h λ m h.
      one-is (WordAccepted i) _ (misfits i) (λ q. Follows Γ (by set18 i done) (m ∷ []) q) q _ h λ n h.
      word-is i _ _ h λ g u.
      let both = (then-passes (test-passes (same_consequent-decides m.consequent n.consequent))
      (implication-passes Γ _ _)).sound g in
      set_rule-18 both.0 both.1
  follows_sound (by set19 i done) p q h =
      one-is (WordAccepted i) _ (misfits i) (λ q. Follows Γ (by set19 i done) p q) q _ h λ n h.
      some_is (WordAccepted i) _ (misfits i) (operands n.antecedent n.consequent) _ h λ r e h.
      word-is i _ _ h λ g u. set_rule-19 e ((test-passes (same-decides p r)).sound g)

  follows_complete : {k : SetEvidence} {p q : Members} → Follows Γ k p q → Accepts (judge Γ k p q)
  unfolding judge set_rule on_empty on_one on_some
  follows_complete (set_rule-13 {i = i} {p = p} {q = q} g) =
      leaf-accepts i _ ((test-passes (within-decides q p)).complete g)
  follows_complete (set_rule-14 {i = i} {q = q} g) = leaf-accepts i _ ((each_implies_false-passes Γ q).complete g)
  follows_complete (set_rule-15 {i = i} g) = leaf-accepts i _ ((test-passes (is_empty-decides _)).complete g)
  follows_complete (set_rule-16 {i = i} g h u v) =
      word-accepts i _ _
      ((then-passes (test-passes (same-decides _ _)) (test-passes (same-decides _ _))).complete (g, h))
      (also_accepts _ _ (follows_complete u) (follows_complete v))
  follows_complete (set_rule-17 {i = i} g u v) =
      word-accepts i _ _ ((test-passes (same-decides _ _)).complete g)
      (also_accepts _ _ (follows_complete u) (follows_complete v))
  follows_complete (set_rule-18 {i = i} {e = e} {e' = e'} g h) =
      leaf-accepts i _
      ((then-passes (test-passes (same_consequent-decides e e')) (implication-passes Γ _ _)).complete (g, h))
  follows_complete (set_rule-19 {i = i} {p = p} e g) =
      subst (λ o. WordAccepted i (on_some o misfit (λ r. childless (test (same p r))))) (sym e)
      (leaf-accepts i _ ((test-passes (same-decides _ _)).complete g))

  flow-sound : (k : FlowEvidence) (p : Members) (c : Command) (q : Members) →
      Accepts (judge Γ k p c q) → Flow Γ k p c q
  unfolding judge flow_rule
  flow-sound (by flow1 i done) p c q h =
      skip_is (WordAccepted i) _ (misfits i) (λ c. Flow Γ (by flow1 i done) p c q) c _ h λ h.
      word-is i _ _ h λ g u. rule-1 ((test-passes (same-decides p q)).sound g)
  flow-sound (by flow2 i (members m & child k & child l & done)) p c q h =
      sequence-is (WordAccepted i) _ (misfits i) (λ c. Flow Γ (by flow2 i (members m & child k & child l & done)) p c q) c _ h λ c₁ c₂ h.
      word-is i _ _ h λ g h. also_is _ _ h λ u v. rule-2 (flow-sound k p c₁ m u) (flow-sound l m c₂ q v)
  flow-sound (by flow3 i done) p c q h =
      scalar_is (WordAccepted i) _ (misfits i) (λ c. Flow Γ (by flow3 i done) p c q) c _ h λ x e h.
      word-is i _ _ h λ g u. rule-3 ((test-passes (same-decides p _)).sound g)
  flow-sound (by flow4 i done) p c q h =
      array-is (WordAccepted i) _ (misfits i) (λ c. Flow Γ (by flow4 i done) p c q) c _ h λ a e h.
      word-is i _ _ h λ g u. rule-4 ((test-passes (same-decides p _)).sound g)
  flow-sound (by flow5 i done) p c q h =
      assert-is (WordAccepted i) _ (misfits i) (λ c. Flow Γ (by flow5 i done) p c q) c _ h λ b h.
      word-is i _ _ h λ g u. rule-5 ((test-passes (same-decides p _)).sound g)
  flow-sound (by flow6 i (members s & members t & assertion φ₀ & child k & child l & child n & done)) p c q h =
      if_is (WordAccepted i) _ (misfits i)
      (λ d. c ≡ d → Flow Γ (by flow6 i (members s & members t & assertion φ₀ & child k & child l & child n & done)) p d q)
      c _ h (λ b c₁ c₂ h e.
      one-is (WordAccepted i) _ (misfits i)
      (λ r. q ≡ r → Flow Γ (by flow6 i (members s & members t & assertion φ₀ & child k & child l & child n & done)) p (if_else b c₁ c₂) r)
      q _ h (λ m h e'.
      word-is i _ _ h λ g h. also_is _ _ h λ u h. also_is _ _ h λ v w.
      rule-6 ((test-passes (same-decides p _)).sound g)
      (subst (Flow Γ k s c₁) e' (flow-sound k s c₁ q u)) (subst (Flow Γ l t c₂) e' (flow-sound l t c₂ q v))
      (subst (λ d. Necessary Γ n φ₀ d m.antecedent) e (necessary-sound n φ₀ c m.antecedent w))) refl) refl
  flow-sound (by flow7 i (members m & child n & child k & done)) p c q h = word-is i _ _ h λ g h. also_is _ _ h λ u v.
      rule-7 (follows_sound n p m u) (flow-sound k m c q v)
  flow-sound (by flow8 i (members m & child k & child n & done)) p c q h = word-is i _ _ h λ g h. also_is _ _ h λ u v.
      rule-8 (flow-sound k p c m u) (follows_sound n m q v)
  flow-sound (by flow9 i (members s & members s' & members t & members t' & child k & child l & done)) p c q h = word-is i _ _ h λ g h. also_is _ _ h λ u v.
      let both = (then-passes (test-passes (same-decides p _)) (test-passes (same-decides q _))).sound g in
      rule-9 both.0 both.1 (flow-sound k s c s' u) (flow-sound l t c t' v)
  flow-sound (by flow10 i done) p c q h = word-is i _ _ h λ g u.
      let both = (then-passes (test-passes (same-decides p q))
      (test-passes (unmodified-decides (set_identifiers q) c))).sound g in
      rule-10 both.0 both.1
  flow-sound (by flow11 i (child n & done)) p c q h =
      one-is (WordAccepted i) _ (misfits i) (λ p. Flow Γ (by flow11 i (child n & done)) p c q) p _ h λ m h.
      one-is (WordAccepted i) _ (misfits i) (λ q. Flow Γ (by flow11 i (child n & done)) (m ∷ []) c q) q _ h λ m' h.
      word-is i _ _ h λ g u.
      let both = (then-passes (test-passes (same_consequent-decides m.consequent m'.consequent))
      (test-passes (unmodified-decides (identifiers m.consequent) c))).sound g in
      rule-11 both.0 both.1 (necessary-sound n _ c _ u)
  flow-sound (by flow12 i (members s & members s' & assertion φ & assertion φ' & child k & child n & done)) p c q h =
      word-is i _ _ h λ g h. also_is _ _ h λ u v.
      let both = (then-passes (test-passes (same-decides p _)) (test-passes (same-decides q _))).sound g in
      rule-12 both.0 both.1 (flow-sound k s c s' u) (necessary-sound n φ c φ' v)
  flow-sound (by flow13 i (child k & done)) p c q h =
      while-is (WordAccepted i) _ (misfits i) (λ c. Flow Γ (by flow13 i (child k & done)) p c q) c _ h λ b c₁ h.
      word-is i _ _ h λ g u.
      let both = (then-passes (test-passes (same-decides p q)) (test-passes (stands-decides _ p))).sound g in
      rule-13 both.0 both.1 (flow-sound k p c₁ q u)
  flow-sound (by flow14 i (command d & child k & done)) p c q h =
      for-is (WordAccepted i) _ (misfits i) (λ c. Flow Γ (by flow14 i (command d & child k & done)) p c q) c _ h λ v m c₁ h.
      word-is i _ _ h λ g u. rule-14 ((test-passes (same_words-decides _ _)).sound g) (flow-sound k p d q u)
  flow-sound (by flow31 i done) p c q h =
      call-is (WordAccepted i) _ (misfits i) (λ c. Flow Γ (by flow31 i done) p c q) c _ h λ n d h.
      some_is (WordAccepted i) _ (misfits i) (item_at Γ.procedures n) _ h λ k e h.
      word-is i _ _ h λ g u.
      let both = (then-passes (test-passes (same-decides p _)) (test-passes (same-decides q _))).sound g in
      rule-31 e both.0 both.1

  flow-complete : {k : FlowEvidence} {p q : Members} {c : Command} →
      Flow Γ k p c q → Accepts (judge Γ k p c q)
  unfolding judge flow_rule by_form on_one on_some
  flow-complete (rule-1 {i = i} g) = leaf-accepts i _ ((test-passes (same-decides _ _)).complete g)
  flow-complete (rule-2 {i = i} u v) = word-accepts i _ _ tt (also_accepts _ _ (flow-complete u) (flow-complete v))
  flow-complete (rule-3 {i = i} g) = leaf-accepts i _ ((test-passes (same-decides _ _)).complete g)
  flow-complete (rule-4 {i = i} g) = leaf-accepts i _ ((test-passes (same-decides _ _)).complete g)
  flow-complete (rule-5 {i = i} g) = leaf-accepts i _ ((test-passes (same-decides _ _)).complete g)
  flow-complete (rule-6 {i = i} g u v w) =
      word-accepts i _ _ ((test-passes (same-decides _ _)).complete g)
      (also_accepts _ _ (flow-complete u) (also_accepts _ _ (flow-complete v) (necessary-complete w)))
  flow-complete (rule-7 {i = i} u v) = word-accepts i _ _ tt (also_accepts _ _ (follows_complete u) (flow-complete v))
  flow-complete (rule-8 {i = i} u v) = word-accepts i _ _ tt (also_accepts _ _ (flow-complete u) (follows_complete v))
  flow-complete (rule-9 {i = i} g h u v) =
      word-accepts i _ _
      ((then-passes (test-passes (same-decides _ _)) (test-passes (same-decides _ _))).complete (g, h))
      (also_accepts _ _ (flow-complete u) (flow-complete v))
  flow-complete (rule-10 {i = i} {p = p} {q = q} {c = c} g h) =
      leaf-accepts i _
      ((then-passes (test-passes (same-decides p q)) (test-passes (unmodified-decides (set_identifiers q) c))
      ).complete (g, h))
  flow-complete (rule-11 {i = i} {e = e} {e' = e'} {c = c} g h u) =
      word-accepts i _ _
      ((then-passes (test-passes (same_consequent-decides e e')) (test-passes (unmodified-decides (identifiers e) c))
      ).complete (g, h))
      (necessary-complete u)
  flow-complete (rule-12 {i = i} g h u v) =
      word-accepts i _ _
      ((then-passes (test-passes (same-decides _ _)) (test-passes (same-decides _ _))).complete (g, h))
      (also_accepts _ _ (flow-complete u) (necessary-complete v))
  flow-complete (rule-13 {i = i} g h u) =
      word-accepts i _ _
      ((then-passes (test-passes (same-decides _ _)) (test-passes (stands-decides _ _))).complete (g, h))
      (flow-complete u)
  flow-complete (rule-14 {i = i} g u) =
      word-accepts i _ _ ((test-passes (same_words-decides _ _)).complete g) (flow-complete u)
  flow-complete (rule-31 {i = i} {p = p} {q = q} e g h) =
      subst (λ o. WordAccepted i (on_some o misfit (λ k. childless (test (same p k.pre) then test (same q k.post))))) (sym e)
      (leaf-accepts i _ ((then-passes (test-passes (same-decides _ _)) (test-passes (same-decides _ _))).complete (g, h)))

-- evidence of each kind is accepted for a goal exactly when it derives the goal
pub record Exact (v : Verdict) (P : Type 0) : Type 0 where
  pub sound : Accepts v → P
  pub complete : P → Accepts v

module _ (Γ : Context) where
  pub necessary-judged : (k : PreEvidence) (φ : Expr Boolean) (c : Command) (φ' : Expr Boolean) →
      Exact (judge Γ k φ c φ') (Necessary Γ k φ c φ')
  necessary-judged k φ c φ' = record { sound = necessary-sound Γ k φ c φ'; complete = necessary-complete Γ }

  pub follows_judged : (k : SetEvidence) (p q : Members) → Exact (judge Γ k p q) (Follows Γ k p q)
  follows_judged k p q = record { sound = follows_sound Γ k p q; complete = follows_complete Γ }

  pub flow-judged : (k : FlowEvidence) (p : Members) (c : Command) (q : Members) →
      Exact (judge Γ k p c q) (Flow Γ k p c q)
  flow-judged k p c q = record { sound = flow-sound Γ k p c q; complete = flow-complete Γ }
