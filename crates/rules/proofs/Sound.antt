-- The rules are sound: a derivation of (P, C, Q) makes the ends of two runs of C agree as Q demands, where their starts
-- agree as P demands. Each case is a rule of document 01. Rule 6 needs φ0 ⇒ B only where the two runs part.
-- Assumes nothing.
--     necessary-sound    rules 20 to 30 and 32: where φ' is true after a run, φ was true before it
--     follows_sound      rules 13 to 19 of sets: stores that agree as P demands agree as Q demands
--     flow-sound         rules 1 to 14, and 31 where the contracts of the procedures hold
--     flow-secure        demand 3, on trees
use mathlib.Core.Path.{◌≡◌, refl, sym, ◌∙◌, ap, subst}
use mathlib.Core.Bool.{true, false, not, ◌&&◌}
use mathlib.Core.List.{◌++◌}
use mathlib.Core.Option.{some}
use Prim.Native.Nat.{ℕ}
use Rattle.laws.proofs.Bools.{and_both, or-first, or-second, clash}
use Rattle.language.specs.Syntax.{Boolean, Expr, truth, and, neg}
use Rattle.language.specs.Syntax.{Command, while, call}
use Rattle.language.specs.Store.{Store, value}
use Rattle.language.specs.Runs.{Runs, runs_skip, runs_sequence, runs_assert, runs_assign}
use Rattle.language.specs.Runs.{runs_then, runs_else, runs_done, runs_again, runs_for, runs_call}
use Rattle.language.proofs.Values.{AllInBoth, same-value}
use Rattle.language.proofs.Loops.{both-loops}
use Rattle.rules.specs.Words.{command_words}
use Rattle.rules.specs.Assertion.{Members, member, one, Holds, Agree, Secure}
use Rattle.rules.specs.Context.{Procedure, Context, item_at}
use Rattle.rules.specs.Resolved.{Resolved, Carried}
use Rattle.rules.specs.Sets.{SamePlain, Same, under, without}
use Rattle.rules.specs.Implies.{Implies}
use Rattle.rules.specs.Evidence.{PreEvidence, SetEvidence, FlowEvidence}
use Rattle.rules.specs.Derivation.{Necessary, rule-20, rule-21, rule-22, rule-23, rule-24, rule-25, rule-26}
use Rattle.rules.specs.Derivation.{rule-27, rule-28, rule-29, rule-30, rule-32, Follows, set_rule-13, set_rule-14}
use Rattle.rules.specs.Derivation.{set_rule-15, set_rule-16, set_rule-17, set_rule-18, set_rule-19, Flow}
use Rattle.rules.specs.Derivation.{rule-1, rule-2, rule-3, rule-4, rule-5, rule-6, rule-7, rule-8, rule-9}
use Rattle.rules.specs.Derivation.{rule-10, rule-11, rule-12, rule-13, rule-14, rule-31}
use Rattle.rules.proofs.Unique.{command-unique}
use Rattle.rules.proofs.Implication.{implies-holds, each_implies_false-agree}
use Rattle.rules.proofs.Replaced.{replaced-assigned}
use Rattle.rules.proofs.Stores.{Fits, fits-first, fits-second, fits-then, fits-else, fits-body, fits-meaning}
use Rattle.rules.proofs.Stores.{fits-called, Valid, StoreFits, Start, inside-kept, start-kept}
use Rattle.rules.proofs.Agreement.{antecedent-value, consequent-value, one_value, standing, agree_within}
use Rattle.rules.proofs.Agreement.{agree_same, agree_back, agree_left, agree_right, agree_both, agree_under}
use Rattle.rules.proofs.Agreement.{under-agree, agree_without, agree_operands, agree_replaced, kept-value}
use Rattle.rules.proofs.Agreement.{consequent-kept, agree_kept}

run-of : {c d : Command} {n : ℕ} {s t : Store} → c ≡ d → Runs c n s t → Runs d n s t
run-of {n = n} {s = s} {t = t} e r = subst (λ c. Runs c n s t) e r

module _ (Γ : Context) where
  -- a command that is, by words, the one that a `for` means
  meant : {d e : Command} {n : ℕ} {s t : Store} → Resolved Γ.procedures d → Fits Γ e →
      command_words d ≡ command_words e → Runs e n s t → Runs d n s t
  meant {d} {e} k w h r = run-of (sym (command-unique Γ.procedures d e k w.calls h)) r

  -- what a necessary precondition means
  abbrev Needs : Expr Boolean → Command → Expr Boolean → Type 0
  Needs φ c φ' = (n : ℕ) (s t : Store) → StoreFits Γ s → Runs c n s t → value φ' t ≡ true → value φ s ≡ true

  needs_while : (b φ φ₀ φ' : Expr Boolean) (c : Command) → Implies Γ (and φ₀ b) φ → Implies Γ (and φ' (neg b)) φ →
      Fits Γ c → Needs φ₀ c φ → {n : ℕ} {s t : Store} → StoreFits Γ s → Runs (while b c) n s t →
      value φ' t ≡ true → value φ s ≡ true
  unfolding value
  needs_while b φ φ₀ φ' c h k w f i (runs_done {s = s} e) v = implies-holds Γ _ _ k s (and_both v (ap not e))
  needs_while b φ φ₀ φ' c h k w f i (runs_again {s = s} e r q) v =
      let after = needs_while b φ φ₀ φ' c h k w f (inside-kept w r i) q v in
      implies-holds Γ _ _ h s (and_both (f _ _ _ i r after) e)

  pub necessary-sound : {k : PreEvidence} {φ φ' : Expr Boolean} {c : Command} → Necessary SamePlain Γ k φ c φ' →
      Carried Γ.procedures k → Fits Γ c →
      (n : ℕ) (s t : Store) → StoreFits Γ s → Runs c n s t → value φ' t ≡ true → value φ s ≡ true
  unfolding value
  necessary-sound (rule-20 {φ = φ} h f g) (_, (_, (x, (y, _)))) w n s t i (runs_then e r) v =
      antecedent-value φ _ h s ∙ or-first _ (and_both (necessary-sound f x (fits-then w) _ s t i r v) e)
  necessary-sound (rule-20 {φ = φ} {φ₁ = φ₁} {b = b} h f g) (_, (_, (x, (y, _)))) w n s t i (runs_else e r) v =
      antecedent-value φ _ h s
      ∙ or-second (value φ₁ s && value b s) (and_both (necessary-sound g y (fits-else w) _ s t i r v) (ap not e))
  necessary-sound (rule-21 {φ = φ} {φ₀ = φ₀} {φ' = φ'} {b = b} {c₁ = c} h k f) (_, (x, _)) w n s t i r v =
      needs_while b φ φ₀ φ' c h k (fits-body w) (λ n u' u'' j r v. necessary-sound f x (fits-body w) n u' u'' j r v) i r v
  necessary-sound (rule-22 {φ = φ} h) _ w n s t i runs_skip v = antecedent-value φ _ h s ∙ v
  necessary-sound (rule-23 f g) (_, (x, (y, _))) w n s t i (runs_sequence {t = m} r q) v =
      necessary-sound f x (fits-first w) _ s m i r
      (necessary-sound g y (fits-second w) _ m t (inside-kept (fits-first w) r i) q v)
  necessary-sound (rule-24 {φ = φ} {φ' = φ'} h) _ w n s t i (runs_assign {a = a}) v =
      antecedent-value φ _ h s ∙ replaced-assigned a s φ' ∙ v
  necessary-sound (rule-25 {φ = φ} {φ' = φ'} h) _ w n s t i (runs_assign {a = a}) v =
      antecedent-value φ _ h s ∙ replaced-assigned a s φ' ∙ v
  necessary-sound (rule-26 {φ = φ} h) _ w n s t i (runs_assert e) v = antecedent-value φ _ h s ∙ and_both v e
  necessary-sound (rule-27 {φ = φ} {φ' = φ'} {c = c} h k) _ w n s t i r v =
      kept-value c r φ k ∙ antecedent-value φ φ' h t ∙ v
  necessary-sound (rule-28 {φ = φ} {φ₁ = φ₁} h f) (_, (x, _)) w n s t i r v =
      implies-holds Γ φ₁ φ h s (necessary-sound f x w _ s t i r v)
  necessary-sound (rule-29 {φ = φ} h) _ w n s t i r v = antecedent-value φ _ h s
  necessary-sound (rule-30 h f) (d, (x, _)) w n s t i (runs_for r) v =
      necessary-sound f x (record { calls = d }) _ s t i (meant d (fits-meaning w) h r) v
  necessary-sound (rule-32 f) (x, _) w n s t i (runs_call r) v = necessary-sound f x (fits-called w) _ s t i r v

  pub follows_sound : {k : SetEvidence} {p q : Members} → Follows SamePlain Γ k p q → (s t : Store) → Start Γ s t →
      Agree p s t → Agree q s t
  follows_sound (set_rule-13 {p = p} {q = q} h) s t g a = agree_within s t q p h a
  follows_sound (set_rule-14 {q = q} h) s t g a = each_implies_false-agree Γ q h s t
  follows_sound (set_rule-15 {k = k} {e = e} h) s t g a =
      (λ i j. one_value k (same-value s t e (subst (AllInBoth s t) (sym h) tt)), tt)
  follows_sound (set_rule-16 {p = p} {q = q} {s = s₁} {s' = s₂} {t = t₁} {t' = t₂} h k f f') s t g a =
      let b = agree_same s t p (s₁ ++ t₁) h a in
      let first = follows_sound f s t g (agree_left s t s₁ t₁ b) in
      let second = follows_sound f' s t g (agree_right s t s₁ t₁ b) in
      agree_back s t q (s₂ ++ t₂) k (agree_both s t s₂ t₂ first second)
  follows_sound (set_rule-17 {p = p} {s = s₁} {s' = s₂} {t = t₁} h f f') s t g a =
      let b = agree_same s t p (without t₁ s₂ ++ s₁) h a in
      let added = follows_sound f s t g (agree_right s t (without t₁ s₂) s₁ b) in
      follows_sound f' s t g (agree_without s t t₁ s₂ added (agree_left s t (without t₁ s₂) s₁ b))
  follows_sound (set_rule-18 {φ = φ} {φ' = φ'} {e = e} {e' = e'} h k) s t g a =
      (λ i j. consequent-value e e' h s t (a.0 (implies-holds Γ φ' φ k s i) (implies-holds Γ φ' φ k t j)), tt)
  follows_sound (set_rule-19 {p = p} {r = r} {φ = φ} {e = e} h k) s t g a =
      (agree_operands s t φ e r h (agree_same s t p r k a), tt)

-- the parts of rule 6's P
module _ (s t : Store) (p s₁ t₁ : Members) (b φ₀ : Expr Boolean)
    (h : Same SamePlain p (under s₁ b ++ (under t₁ (neg b) ++ one φ₀ b))) (a : Agree p s t) where
  all : Agree (under s₁ b ++ (under t₁ (neg b) ++ one φ₀ b)) s t
  all = agree_same s t p _ h a

  then-part : Agree (under s₁ b) s t
  then-part = agree_left s t (under s₁ b) _ all

  else_part : Agree (under t₁ (neg b)) s t
  else_part = agree_left s t (under t₁ (neg b)) _ (agree_right s t (under s₁ b) _ all)

  test-part : Holds (member φ₀ b) s t
  test-part = (agree_right s t (under t₁ (neg b)) _ (agree_right s t (under s₁ b) _ all)).0

untrue : (b : Expr Boolean) (s : Store) → value b s ≡ false → value (neg b) s ≡ true
unfolding value
untrue b s e = ap not e

-- rule 13's test has one value in both
loop-test : (b : Expr Boolean) (s t : Store) → Holds (member (truth true) b) s t → value b s ≡ value b t
unfolding value
loop-test b s t h = h refl refl

-- a call of procedure n runs its body
called-body : {Γ : Context} {n : ℕ} {c : Command} {k : Procedure} → Fits Γ (call n c) → item_at Γ.procedures n ≡ some k →
    c ≡ k.body
called-body w e = let f = w.calls.1 in let b = w.calls.2 in cc

module _ (Γ : Context) (valid : Valid Γ) where
  pub flow-sound : {k : FlowEvidence} {p q : Members} {c : Command} → Flow SamePlain Γ k p c q →
      Carried Γ.procedures k → Fits Γ c →
      (i j : ℕ) (s t s' t' : Store) → Start Γ s t → Runs c i s s' → Runs c j t t' → Agree p s t → Agree q s' t'
  flow-sound (rule-1 {p = p} {q = q} h) _ w i j s t s' t' g runs_skip runs_skip a = agree_same s t p q h a
  flow-sound (rule-2 f f') (_, (x, (y, _))) w i j s t s' t' g (runs_sequence r r') (runs_sequence u u') a =
      flow-sound f' y (fits-second w) _ _ _ _ _ _ (start-kept (fits-first w) r u g) r' u'
      (flow-sound f x (fits-first w) _ _ _ _ _ _ g r u a)
  flow-sound (rule-3 {p = p} {q = q} h) _ w i j s t s' t' g (runs_assign {a = e}) runs_assign a =
      agree_replaced e s t q (agree_same s t p _ h a)
  flow-sound (rule-4 {p = p} {q = q} h) _ w i j s t s' t' g (runs_assign {a = e}) runs_assign a =
      agree_replaced e s t q (agree_same s t p _ h a)
  flow-sound (rule-5 {p = p} {q = q} {b = b} h) _ w i j s t s' t' g (runs_assert e) (runs_assert e') a =
      agree_under s t q b e e' (agree_same s t p _ h a)
  flow-sound (rule-6 {p = p} {s = s₁} {t = t₁} {b = b} {φ₀ = φ₀} h f f' n) (_, (_, (_, (x, (y, (z, _)))))) w i j s t s' t' g
      (runs_then e r) (runs_then e' u) a =
      flow-sound f x (fits-then w) _ _ s t s' t' g r u (agree_under s t s₁ b e e' (then-part s t p s₁ t₁ b φ₀ h a))
  flow-sound (rule-6 {p = p} {s = s₁} {t = t₁} {b = b} {φ₀ = φ₀} h f f' n) (_, (_, (_, (x, (y, (z, _)))))) w i j s t s' t' g
      (runs_then e r) (runs_else e' u) a =
      let left = necessary-sound Γ n z w i s s' g.first (runs_then e r) in
      let right = necessary-sound Γ n z w j t t' g.second (runs_else e' u) in
      (λ v v'. clash e (test-part s t p s₁ t₁ b φ₀ h a (left v) (right v') ∙ e'), tt)
  flow-sound (rule-6 {p = p} {s = s₁} {t = t₁} {b = b} {φ₀ = φ₀} h f f' n) (_, (_, (_, (x, (y, (z, _)))))) w i j s t s' t' g
      (runs_else e r) (runs_then e' u) a =
      let left = necessary-sound Γ n z w i s s' g.first (runs_else e r) in
      let right = necessary-sound Γ n z w j t t' g.second (runs_then e' u) in
      (λ v v'. clash e' (sym (test-part s t p s₁ t₁ b φ₀ h a (left v) (right v')) ∙ e), tt)
  flow-sound (rule-6 {p = p} {s = s₁} {t = t₁} {b = b} {φ₀ = φ₀} h f f' n) (_, (_, (_, (x, (y, (z, _)))))) w i j s t s' t' g
      (runs_else e r) (runs_else e' u) a =
      flow-sound f' y (fits-else w) _ _ s t s' t' g r u
      (agree_under s t t₁ (neg b) (untrue b s e) (untrue b t e') (else_part s t p s₁ t₁ b φ₀ h a))
  flow-sound (rule-7 n f) (_, (_, (x, _))) w i j s t s' t' g r u a =
      flow-sound f x w _ _ s t s' t' g r u (follows_sound Γ n s t g a)
  flow-sound (rule-8 f n) (_, (x, (_, _))) w i j s t s' t' g r u a =
      follows_sound Γ n s' t' (start-kept w r u g) (flow-sound f x w _ _ s t s' t' g r u a)
  flow-sound (rule-9 {p = p} {q = q} {s = s₁} {s' = s₂} {t = t₁} {t' = t₂} h k f f') (_, (_, (_, (_, (x, (y, _)))))) w i j s t s' t' g r u a =
      let b = agree_same s t p (s₁ ++ t₁) h a in
      let first = flow-sound f x w _ _ s t s' t' g r u (agree_left s t s₁ t₁ b) in
      let second = flow-sound f' y w _ _ s t s' t' g r u (agree_right s t s₁ t₁ b) in
      agree_back s' t' q (s₂ ++ t₂) k (agree_both s' t' s₂ t₂ first second)
  flow-sound (rule-10 {p = p} {q = q} {c = c} h k) _ w i j s t s' t' g r u a =
      agree_kept c r u q k (agree_same s t p q h a)
  flow-sound (rule-11 {e = e} {e' = e'} {c = c} h k n) (x, _) w i j s t s' t' g r u a =
      let left = necessary-sound Γ n x w i s s' g.first r in
      let right = necessary-sound Γ n x w j t t' g.second u in
      (λ v v'. consequent-value e e' h s' t' (consequent-kept c r u e k (a.0 (left v) (right v'))), tt)
  flow-sound (rule-12 {p = p} {q = q} {s = s₁} {s' = s₂} {φ = φ} {φ' = φ'} h k f n) (_, (_, (_, (_, (x, (y, _)))))) w i j s t s' t' g r u a =
      let left = necessary-sound Γ n y w i s s' g.first r in
      let right = necessary-sound Γ n y w j t t' g.second u in
      agree_back s' t' q (under s₂ φ') k (under-agree s' t' s₂ φ' (λ v v'.
      flow-sound f x w _ _ s t s' t' g r u (agree_under s t s₁ φ (left v) (right v') (agree_same s t p _ h a))))
  flow-sound (rule-13 {p = p} {q = q} {b = b} {c₁ = c} h k f) (e, _) w i j s t s' t' g r u a =
      agree_same s' t' p q h (both-loops b c (λ x y. Start Γ x y × Agree p x y)
      (λ x y d. loop-test b x y (standing x y k d.1))
      (λ m n x y x' y' v v' d. (
        start-kept (fits-body w) v v' d.0,
        agree_back x' y' p q h (flow-sound f e (fits-body w) m n x y x' y' d.0 v v' d.1),
      ))
      r u (g, a)).1
  flow-sound (rule-14 h f) (d, (x, _)) w i j s t s' t' g (runs_for r) (runs_for u) a =
      flow-sound f x (record { calls = d }) _ _ s t s' t' g (meant Γ d (fits-meaning w) h r) (meant Γ d (fits-meaning w) h u) a
  flow-sound (rule-31 {n = n} {p = p} {q = q} {k = k} e h h') _ w i j s t s' t' g (runs_call r) (runs_call u) a =
      let body = called-body w e in
      agree_back s' t' q k.post h' ((valid.secure n k e).secure _ _ s t s' t' (agree_same s t p k.pre h a)
      (run-of body r) (run-of body u))

  pub flow-secure : {k : FlowEvidence} {p q : Members} {c : Command} → Flow SamePlain Γ k p c q → Carried Γ.procedures k →
      Fits Γ c → Secure p c q
  flow-secure f e w = record {
    secure = λ i j s t s' t' a r u.
        flow-sound f e w i j s t s' t'
        (record { first = record { nothing = tt }; second = record { nothing = tt } }) r u a;
  }
