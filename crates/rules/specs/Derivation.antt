-- The rules of document 01 and of request [3] of document 02, a constructor each, for any sameness of antecedents and assertions: by
-- `SamePlain` they are the rules with request [2], by `SameByWords` those before it. `Flow SamePlain Γ k p c q` says that the evidence k
-- derives the goal (p, c, q).
-- Trusted. Assumes nothing.
--     StandsIn, Within, Same    of `Sets`, by the sameness that the rules are given
--     Necessary                 rules 20 to 30 and 32: φ is a necessary precondition of φ' for C
--     Follows                   rules 13 to 19 of sets: P implies Q
--     Flow                      rules 1 to 14 and 31
use Rattle.std.specs.Prelude.{◌≡◌, true, [], ◌++◌, ℕ}
use Rattle.std.proofs.Math.Option.{some}
use Rattle.language.specs.Syntax.{Sort, Arithmetic, Boolean, Array, Expr, truth, and, or, neg}
use Rattle.language.specs.Syntax.{to_scalar, to_array, Command, skip, sequence, assert, assign, if_else, while, for, call}
use Rattle.language.specs.Runs.{meaning}
use Rattle.language.specs.Modifies.{identifiers}
use Rattle.rules.specs.Words.{command_words}
use Rattle.rules.specs.Assertion.{Member, Members, member, one}
use Rattle.rules.specs.Context.{Procedure, Context, item_at}
use Rattle.rules.specs.Replace.{replacement, replace, replace_members}
use Rattle.rules.specs.Sets as sets
use Rattle.rules.specs.Sets.{Sameness, SameConsequent, under, without, operands, set_identifiers, Unmodified}
use Rattle.rules.specs.Implies.{Implies, EachImpliesFalse}
use Rattle.rules.specs.Evidence.{FlowEvidence, SetEvidence, PreEvidence, by, assertion, command, members, child}
use Rattle.rules.specs.Evidence.{done, ◌&◌, flow1, flow2, flow3, flow4, flow5, flow6, flow7, flow8, flow9, flow10}
use Rattle.rules.specs.Evidence.{flow11, flow12, flow13, flow14, flow31, set13, set14, set15, set16, set17, set18, set19}
use Rattle.rules.specs.Evidence.{pre20, pre21, pre22, pre23, pre24, pre25, pre26, pre27, pre28, pre29, pre30, pre32}

module _ (SameAntecedent : Sameness) where
  abbrev StandsIn : Member → Members → Type 0
  StandsIn = sets.StandsIn SameAntecedent

  abbrev Within : Members → Members → Type 0
  Within = sets.Within SameAntecedent

  abbrev Same : Members → Members → Type 0
  Same = sets.Same SameAntecedent

  -- goal (φ, C, φ')
  pub data Necessary (Γ : Context) : PreEvidence → Expr Boolean → Command → Expr Boolean → Type 0 where
    -- 20 if; carries φ1, φ2; φ is (φ1 ∧ B) ∨ (φ2 ∧ ¬B); (φ1, C1, φ'), (φ2, C2, φ')
    rule-20 : {i : ℕ} {φ φ₁ φ₂ φ' b : Expr Boolean} {c₁ c₂ : Command} {k l : PreEvidence} →
        SameAntecedent φ (or (and φ₁ b) (and φ₂ (neg b))) →
        Necessary Γ k φ₁ c₁ φ' → Necessary Γ l φ₂ c₂ φ' →
        Necessary Γ (by pre20 i (assertion φ₁ & assertion φ₂ & child k & child l & done)) φ (if_else b c₁ c₂) φ'
    -- 21 while; carries φ0; φ0 ∧ B implies φ; φ' ∧ ¬B implies φ; (φ0, C1, φ)
    rule-21 : {i : ℕ} {φ φ₀ φ' b : Expr Boolean} {c₁ : Command} {k : PreEvidence} →
        Implies Γ (and φ₀ b) φ → Implies Γ (and φ' (neg b)) φ →
        Necessary Γ k φ₀ c₁ φ → Necessary Γ (by pre21 i (assertion φ₀ & child k & done)) φ (while b c₁) φ'
    -- 22 skip, φ is φ'
    rule-22 : {i : ℕ} {φ φ' : Expr Boolean} → SameAntecedent φ φ' → Necessary Γ (by pre22 i done) φ skip φ'
    -- 23 sequence, carries the middle φ1; (φ, C1, φ1), (φ1, C2, φ')
    rule-23 : {i : ℕ} {φ φ₁ φ' : Expr Boolean} {c₁ c₂ : Command} {k l : PreEvidence} →
        Necessary Γ k φ c₁ φ₁ → Necessary Γ l φ₁ c₂ φ' →
        Necessary Γ (by pre23 i (assertion φ₁ & child k & child l & done)) φ (sequence c₁ c₂) φ'
    -- 24 scalar assignment, 25 array assignment: φ is φ' with the right side for the identifier
    rule-24 : {i x : ℕ} {φ φ' : Expr Boolean} {e : Expr Arithmetic} →
        SameAntecedent φ (replace φ' (replacement (to_scalar x e))) →
        Necessary Γ (by pre24 i done) φ (assign (to_scalar x e)) φ'
    rule-25 : {i a : ℕ} {φ φ' : Expr Boolean} {e : Expr Array} →
        SameAntecedent φ (replace φ' (replacement (to_array a e))) →
        Necessary Γ (by pre25 i done) φ (assign (to_array a e)) φ'
    -- 26 assert, φ is φ' ∧ B
    rule-26 : {i : ℕ} {φ φ' b : Expr Boolean} → SameAntecedent φ (and φ' b) → Necessary Γ (by pre26 i done) φ (assert b) φ'
    -- 27 φ is φ', nothing in it modified
    rule-27 : {i : ℕ} {φ φ' : Expr Boolean} {c : Command} →
        SameAntecedent φ φ' → Unmodified (identifiers φ) c → Necessary Γ (by pre27 i done) φ c φ'
    -- 28 carries φ1; φ1 implies φ; (φ1, C, φ')
    rule-28 : {i : ℕ} {φ φ₁ φ' : Expr Boolean} {c : Command} {k : PreEvidence} →
        Implies Γ φ₁ φ → Necessary Γ k φ₁ c φ' → Necessary Γ (by pre28 i (assertion φ₁ & child k & done)) φ c φ'
    -- 29 φ is true
    rule-29 : {i : ℕ} {φ φ' : Expr Boolean} {c : Command} →
        SameAntecedent φ (truth true) → Necessary Γ (by pre29 i done) φ c φ'
    -- 30 for, carries D as rule 14; (φ, D, φ')
    rule-30 : {i q m : ℕ} {φ φ' : Expr Boolean} {c₁ d : Command} {k : PreEvidence} →
        command_words d ≡ command_words (meaning q m c₁) →
        Necessary Γ k φ d φ' → Necessary Γ (by pre30 i (command d & child k & done)) φ (for q m c₁) φ'
    -- 32 the one child is (φ, body, φ')
    rule-32 : {i n : ℕ} {φ φ' : Expr Boolean} {d : Command} {k : PreEvidence} →
        Necessary Γ k φ d φ' → Necessary Γ (by pre32 i (child k & done)) φ (call n d) φ'

  -- goal (P, Q)
  pub data Follows (Γ : Context) : SetEvidence → Members → Members → Type 0 where
    -- 13 each of Q stands in P
    set_rule-13 : {i : ℕ} {p q : Members} → Within q p → Follows Γ (by set13 i done) p q
    -- 14 P empty; each antecedent of Q implies false
    set_rule-14 : {i : ℕ} {q : Members} → EachImpliesFalse Γ q → Follows Γ (by set14 i done) [] q
    -- 15 P empty; Q one member, no identifier in E
    set_rule-15 : {i : ℕ} {k : Sort} {φ : Expr Boolean} {e : Expr k} →
        identifiers e ≡ [] → Follows Γ (by set15 i done) [] (one φ e)
    -- 16 as rule 9, for sets
    set_rule-16 : {i : ℕ} {p q s s' t t' : Members} {k l : SetEvidence} →
        Same p (s ++ t) → Same q (s' ++ t') →
        Follows Γ k s s' → Follows Γ l t t' →
        Follows Γ (by set16 i (members s & members s' & members t & members t' & child k & child l & done)) p q
    -- 17 carries S, S', T; P same as (T without S') ∪ S; (S, S'), (T, Q)
    set_rule-17 : {i : ℕ} {p q s s' t : Members} {k l : SetEvidence} →
        Same p (without t s' ++ s) →
        Follows Γ k s s' → Follows Γ l t q → Follows Γ (by set17 i (members s & members s' & members t & child k & child l & done)) p q
    -- 18 one member each, same E; Q's antecedent implies P's
    set_rule-18 : {i : ℕ} {j k : Sort} {φ φ' : Expr Boolean} {e : Expr j} {e' : Expr k} →
        SameConsequent e e' → Implies Γ φ' φ → Follows Γ (by set18 i done) (one φ e) (one φ' e')
    -- 19 Q one member φ ⇒ E, E of kind 3, 8, 10, 11 or 12; P same as φ ⇒ each operand
    set_rule-19 : {i : ℕ} {k : Sort} {p r : Members} {φ : Expr Boolean} {e : Expr k} →
        operands φ e ≡ some r → Same p r → Follows Γ (by set19 i done) p (one φ e)

  -- goal (P, C, Q)
  pub data Flow (Γ : Context) : FlowEvidence → Members → Command → Members → Type 0 where
    -- 1 skip: P same as Q
    rule-1 : {i : ℕ} {p q : Members} → Same p q → Flow Γ (by flow1 i done) p skip q
    -- 2 sequence; carries M; (P, C1, M), (M, C2, Q)
    rule-2 : {i : ℕ} {p m q : Members} {c₁ c₂ : Command} {k l : FlowEvidence} →
        Flow Γ k p c₁ m → Flow Γ l m c₂ q → Flow Γ (by flow2 i (members m & child k & child l & done)) p (sequence c₁ c₂) q
    -- 3, 4 scalar assignment (3), array assignment (4): P same as Q with the right side for the identifier
    rule-3 : {i x : ℕ} {p q : Members} {e : Expr Arithmetic} →
        Same p (replace_members q (replacement (to_scalar x e))) → Flow Γ (by flow3 i done) p (assign (to_scalar x e)) q
    rule-4 : {i a : ℕ} {p q : Members} {e : Expr Array} →
        Same p (replace_members q (replacement (to_array a e))) → Flow Γ (by flow4 i done) p (assign (to_array a e)) q
    -- 5 assert: P same as Q under B
    rule-5 : {i : ℕ} {p q : Members} {b : Expr Boolean} → Same p (under q b) → Flow Γ (by flow5 i done) p (assert b) q
    -- 6 if; Q one written member φ ⇒ E; carries S, T, φ0; P same as S under B, T under ¬B and φ0 ⇒ B together;
    -- (S, C1, Q), (T, C2, Q), precondition (φ0, C, φ)
    rule-6 : {i : ℕ} {j : Sort} {p s t : Members} {b φ φ₀ : Expr Boolean} {e : Expr j} {c₁ c₂ : Command}
        {k l : FlowEvidence} {n : PreEvidence} →
        Same p (under s b ++ (under t (neg b) ++ one φ₀ b)) →
        Flow Γ k s c₁ (one φ e) → Flow Γ l t c₂ (one φ e) → Necessary Γ n φ₀ (if_else b c₁ c₂) φ →
        Flow Γ (by flow6 i (members s & members t & assertion φ₀ & child k & child l & child n & done)) p (if_else b c₁ c₂) (one φ e)
    -- 7 carries M; set (P, M), flow (M, C, Q)
    rule-7 : {i : ℕ} {p m q : Members} {c : Command} {n : SetEvidence} {k : FlowEvidence} →
        Follows Γ n p m → Flow Γ k m c q → Flow Γ (by flow7 i (members m & child n & child k & done)) p c q
    -- 8 carries M; flow (P, C, M), set (M, Q)
    rule-8 : {i : ℕ} {p m q : Members} {c : Command} {k : FlowEvidence} {n : SetEvidence} →
        Flow Γ k p c m → Follows Γ n m q → Flow Γ (by flow8 i (members m & child k & child n & done)) p c q
    -- 9 carries S, S', T, T'; P same as S ∪ T, Q as S' ∪ T'; (S, C, S'), (T, C, T')
    rule-9 : {i : ℕ} {p q s s' t t' : Members} {c : Command} {k l : FlowEvidence} →
        Same p (s ++ t) → Same q (s' ++ t') →
        Flow Γ k s c s' → Flow Γ l t c t' →
        Flow Γ (by flow9 i (members s & members s' & members t & members t' & child k & child l & done)) p c q
    -- 10 P same as Q; no identifier of Q is modified
    rule-10 : {i : ℕ} {p q : Members} {c : Command} →
        Same p q → Unmodified (set_identifiers q) c → Flow Γ (by flow10 i done) p c q
    -- 11 P one written member φ ⇒ E, Q one φ' ⇒ E; none of E modified; precondition (φ, C, φ')
    rule-11 : {i : ℕ} {j k : Sort} {φ φ' : Expr Boolean} {e : Expr j} {e' : Expr k} {c : Command} {n : PreEvidence} →
        SameConsequent e e' → Unmodified (identifiers e) c →
        Necessary Γ n φ c φ' → Flow Γ (by flow11 i (child n & done)) (one φ e) c (one φ' e')
    -- 12 carries S, S', φ, φ'; P same as S under φ, Q as S' under φ'; (S, C, S'), precondition (φ, C, φ')
    rule-12 : {i : ℕ} {p q s s' : Members} {φ φ' : Expr Boolean} {c : Command} {k : FlowEvidence} {n : PreEvidence} →
        Same p (under s φ) → Same q (under s' φ') →
        Flow Γ k s c s' → Necessary Γ n φ c φ' →
        Flow Γ (by flow12 i (members s & members s' & assertion φ & assertion φ' & child k & child n & done)) p c q
    -- 13 while: P same as Q; true ⇒ B stands in P; (P, C1, Q)
    rule-13 : {i : ℕ} {p q : Members} {b : Expr Boolean} {c₁ : Command} {k : FlowEvidence} →
        Same p q → StandsIn (member (truth true) b) p → Flow Γ k p c₁ q → Flow Γ (by flow13 i (child k & done)) p (while b c₁) q
    -- 14 for; carries the command D that the `for` means; (P, D, Q). D is compared by words: a call's word does not spell its body, so
    -- the words tell the command for one table of procedures (`Resolved`), and what is read is such
    rule-14 : {i v m : ℕ} {p q : Members} {c₁ d : Command} {k : FlowEvidence} →
        command_words d ≡ command_words (meaning v m c₁) → Flow Γ k p d q → Flow Γ (by flow14 i (command d & child k & done)) p (for v m c₁) q
    -- 31 C calls procedure n, P is the same as its precondition, Q as its postcondition
    rule-31 : {i n : ℕ} {p q : Members} {d : Command} {k : Procedure} →
        item_at Γ.procedures n ≡ some k → Same p k.pre → Same q k.post → Flow Γ (by flow31 i done) p (call n d) q
