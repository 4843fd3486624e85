-- What is read stands in the file by its words and fits (document 01, "Layout"): expressions, commands and sets.
-- Assumes nothing.
--     ExpressionSpelled, CommandSpelled, SetSpelled    it stands from a place up to another and fits
--     expression-past, command-past, set_past          by cases on the reading, refusals too
--     spelled                                          of what was read, by any reader
use mathlib.Core.Path.{◌≡◌, refl, sym}
use mathlib.Core.List.{List, [], ◌∷◌}
use Prim.Native.Nat.{ℕ, zero, suc, ◌+◌, ◌/◌, ◌%◌, ◌≤◌}
use native.Mathlib.Omega.{arith}
use lib.IntN.{ℤ}
use lib.ListN.{length}
use Rattle.language.specs.Syntax.{Sort, Arithmetic, Boolean, Array, Expr, Command}
use Rattle.rules.specs.Words.{Word, word, words, command_words, operator_payload, comparison_payload, truth_payload}
use Rattle.rules.specs.Assertion.{Member, Members}
use Rattle.rules.specs.Context.{Context}
use Rattle.layout.specs.Bytes.{kind_at}
use Rattle.layout.specs.Reading.{Reader, several}
use Rattle.layout.specs.Read.{operator_of, comparison_of, truth_of}
use Rattle.layout.specs.Read.{arithmetic_word, boolean_word, array_word, expression_word}
use Rattle.layout.specs.Read.{expression, command_word, command, sort_of, consequent_at, member_at, set}
use Rattle.layout.specs.Spelling.{payload_of, SpelledAt, FitsExpression, FitsCommand}
use Rattle.layout.specs.Spelling.{member_words, members_words, set_words, FitsMembers, FitsSet}
use Rattle.layout.proofs.Constant.{payload_of-constant, constant-fits}
use Rattle.layout.proofs.Words.{WordFound, word-found, for-found}
use Rattle.layout.specs.Standing.{Stands}
use Rattle.layout.proofs.Stands.{first, both, stands-spelled, stands-end}
use Rattle.layout.proofs.Yields.{Optional, nothing, something, entry, up-to, on-option}
use Rattle.layout.proofs.Yields.{Yields, Past, past-yields, yields-map, start, ◌▹◌}
use Rattle.layout.proofs.Yields.{several-yields, level-past, due-past}

-- what a payload's table allows has that payload
operators : (p : ℕ) → Optional (λ o. payload_of (operator_payload o) ≡ p) (operator_of p)
operators p =
    entry p 0 (λ e. something (sym e))
    (entry p 1 (λ e. something (sym e))
    (entry p 2 (λ e. something (sym e)) nothing))

comparisons : (p : ℕ) → Optional (λ r. payload_of (comparison_payload r) ≡ p) (comparison_of p)
comparisons p =
    entry p 0 (λ e. something (sym e))
    (entry p 1 (λ e. something (sym e))
    (entry p 2 (λ e. something (sym e)) nothing))

truths : (p : ℕ) → Optional (λ t. payload_of (truth_payload t) ≡ p) (truth_of p)
truths p = entry p 0 (λ e. something (sym e)) (entry p 1 (λ e. something (sym e)) nothing)

none_left : {p : ℕ} → p ≤ 0 → 0 ≡ p
none_left h = omega arith

for-range : (p : ℕ) → p ≤ 1023 → (p % 32 ≤ 31) × (p / 32 ≤ 31)
for-range p h = omega arith

module _ (file : List ℕ) where
  -- no word
  alone : {F : Type 0} {at : ℕ} → F → Stands file [] F at at
  alone h = record { stand = refl; fit = h }

  -- a word with its kind and payload before others
  after : {k p n : ℕ} {z : ℤ} {l : List Word} {F : Type 0} {at q : ℕ} → WordFound file at k p → k ≡ n → payload_of z ≡ p →
      Stands file l F (at + 1) q → Stands file (word n z ∷ l) F at q
  after {n} {z} f e x s = first f.inside (word-found n z f e x) s

  -- with a fact that is at hand
  too : {l : List Word} {F G : Type 0} {at p : ℕ} → F → Stands file l G at p → Stands file l (F × G) at p
  too h s = record { stand = s.stand; fit = (h, s.fit) }

  abbrev pub ExpressionSpelled : {j : Sort} → ℕ → ℕ → Expr j → ℕ → Type 0
  ExpressionSpelled d at e p = Stands file (words e) (FitsExpression e d) at p

  abbrev pub CommandSpelled : Context → ℕ → ℕ → Command → ℕ → Type 0
  CommandSpelled Γ d at c p = Stands file (command_words c) (FitsCommand Γ c d) at p

  -- a word's table: `part` reads operands, `a` is the law of `part`, and f is the word that was found
  module _ (d : ℕ) (part : (j : Sort) → Reader (Expr j))
      (a : (j : Sort) (q : ℕ) → Yields file q (ExpressionSpelled d q) (part j))
      (at k p : ℕ) (f : WordFound file at k p) where
    arithmetic-word : Optional (λ r. Yields file (at + 1) (ExpressionSpelled (suc d) at) r) (arithmetic_word part k p)
    unfolding words FitsExpression
    arithmetic-word =
        let small = f.small in
        entry k 1 (λ e. something (start _ (after f e (payload_of-constant p small) (alone (constant-fits p small)))))
        (entry k 2 (λ e. up-to 31 p _ λ h. start _ (after f e refl (alone h)))
        (entry k 3 (λ e. on-option (operator_of p) _ (operators p) λ o x.
        start _ (λ _ _ s _ _ t. after f e x (both s t)) ▹ a Arithmetic ▹ a Arithmetic)
        (entry k 4 (λ e. up-to 0 p _ λ h.
        start _ (λ _ _ s _ _ t. after f e (none_left h) (both s t)) ▹ a Array ▹ a Arithmetic)
        nothing)))

    boolean-word : Optional (λ r. Yields file (at + 1) (ExpressionSpelled (suc d) at) r) (boolean_word part k p)
    unfolding words FitsExpression
    boolean-word =
        entry k 8 (λ e. on-option (comparison_of p) _ (comparisons p) λ o x.
        start _ (λ _ _ s _ _ t. after f e x (both s t)) ▹ a Arithmetic ▹ a Arithmetic)
        (entry k 9 (λ e. on-option (truth_of p) _ (truths p) λ t x. start _ (after f e x (alone tt)))
        (entry k 10 (λ e. up-to 0 p _ λ h.
        start _ (λ _ _ s _ _ t. after f e (none_left h) (both s t)) ▹ a Boolean ▹ a Boolean)
        (entry k 11 (λ e. up-to 0 p _ λ h.
        start _ (λ _ _ s _ _ t. after f e (none_left h) (both s t)) ▹ a Boolean ▹ a Boolean)
        (entry k 12 (λ e. up-to 0 p _ λ h. start _ (λ _ _ s. after f e (none_left h) s) ▹ a Boolean)
        nothing))))

    array-word : Optional (λ r. Yields file (at + 1) (ExpressionSpelled (suc d) at) r) (array_word part k p)
    unfolding words FitsExpression
    array-word =
        entry k 16 (λ e. up-to 31 p _ λ h. start _ (after f e refl (alone h)))
        (entry k 17 (λ e. up-to 0 p _ λ h. start _ (after f e (none_left h) (alone tt)))
        (entry k 18 (λ e. up-to 0 p _ λ h.
        start _ (λ _ _ s _ _ t _ _ u. after f e (none_left h) (both s (both t u)))
        ▹ a Array ▹ a Arithmetic ▹ a Arithmetic)
        nothing))

    expression-word :
        (j : Sort) → Optional (λ r. Yields file (at + 1) (ExpressionSpelled (suc d) at) r) (expression_word part j k p)
    expression-word Arithmetic = arithmetic-word
    expression-word Boolean = boolean-word
    expression-word Array = array-word

    module _ (Γ : Context) (body : Reader Command) (b : (q : ℕ) → Yields file q (CommandSpelled Γ d q) body) where
      command_here : Optional (λ r. Yields file (at + 1) (CommandSpelled Γ (suc d) at) r) (command_word Γ part body k p)
      unfolding command_words FitsCommand
      command_here =
          entry k 24 (λ e. up-to 0 p _ λ h. start _ (after f e (none_left h) (alone tt)))
          (entry k 25 (λ e. up-to 0 p _ λ h. start _ (λ _ _ s _ _ t. after f e (none_left h) (both s t)) ▹ b ▹ b)
          (entry k 26 (λ e. up-to 0 p _ λ h. start _ (λ _ _ s. after f e (none_left h) s) ▹ a Boolean)
          (entry k 27 (λ e. up-to 31 p _ λ h. start _ (λ _ _ s. after f e refl (too h s)) ▹ a Arithmetic)
          (entry k 28 (λ e. up-to 31 p _ λ h. start _ (λ _ _ s. after f e refl (too h s)) ▹ a Array)
          (entry k 29 (λ e. up-to 0 p _ λ h.
          start _ (λ _ _ s _ _ t _ _ u. after f e (none_left h) (both s (both t u))) ▹ a Boolean ▹ b ▹ b)
          (entry k 30 (λ e. up-to 0 p _ λ h.
          start _ (λ _ _ s _ _ t. after f e (none_left h) (both s t)) ▹ a Boolean ▹ b)
          (entry k 31 (λ e. up-to 1023 p _ λ h.
          start _ (λ _ _ s. first f.inside (for-found f e) (too (for-range p h) s)) ▹ b)
          (entry k 38 (λ e. something (start _ (after f e refl (alone (f.small, refl)))))
          nothing))))))))

  pub expression-past : (d : ℕ) (j : Sort) (at : ℕ) → Past file at (ExpressionSpelled d at) (expression file d j)
  unfolding expression
  expression-past zero j at = level-past at _
  expression-past (suc d) j at =
      due-past at _ λ k p f.
      expression-word d (expression file d) (λ i q. past-yields (expression-past d i q)) at k p f j

  pub command-past : (Γ : Context) (d at : ℕ) → Past file at (CommandSpelled Γ d at) (command Γ file d)
  unfolding command
  command-past Γ zero at = level-past at _
  command-past Γ (suc d) at =
      due-past at _ λ k p f.
      command_here d (expression file d) (λ i q. past-yields (expression-past d i q)) at k p f Γ (command Γ file d)
      (λ q. past-yields (command-past Γ d q))

  -- what a consequent makes of an antecedent
  abbrev ConsequentSpelled : ℕ → ℕ → (Expr Boolean → Member) → ℕ → Type 0
  ConsequentSpelled d at m p = (φ : Expr Boolean) → ExpressionSpelled d at (m φ).consequent p × ((m φ).antecedent ≡ φ)

  abbrev MemberSpelled : ℕ → ℕ → Member → ℕ → Type 0
  MemberSpelled d at m p =
      Stands file (member_words m) (FitsExpression m.antecedent d × FitsExpression m.consequent d) at p

  consequent-yields : (d at : ℕ) → Yields file at (ConsequentSpelled d at) (consequent_at file d)
  consequent-yields d at = let j = sort_of (kind_at file at) in record {
    yields =
        (start {T = λ m q. (e : Expr j) (p : ℕ) → ExpressionSpelled d q e p → ConsequentSpelled d at (m e) p} _
        (λ e p s φ. (s, refl)) ▹ (λ q. past-yields (expression-past d j q))).yields;
  }

  member-yields : (d at : ℕ) → Yields file at (MemberSpelled d at) (member_at file d)
  member-yields d at =
      start _ (λ φ q s m p t. rw (t φ).1 (both s (t φ).0))
      ▹ (λ q. past-yields (expression-past d Boolean q)) ▹ consequent-yields d

  abbrev pub SetSpelled : Context → ℕ → ℕ → Members → ℕ → Type 0
  SetSpelled Γ d at m p = Stands file (set_words m) (FitsSet Γ m d) at p

  abbrev MembersSpelled : ℕ → Members → ℕ → ℕ → Type 0
  MembersSpelled d m at p = Stands file (members_words m) (FitsMembers m d) at p

  members-yields :
      (d n at : ℕ) →
      Yields file at (λ m p. MembersSpelled d m at p × (length m ≡ n)) (several n (member_at file d))
  members-yields d n at =
      several-yields (MembersSpelled d) (λ q. alone tt) (λ m l q r p s t. both s t) (member-yields d) n at

  -- a set's word before its members
  set_after : (Γ : Context) (d at k p : ℕ) → WordFound file at k p → k ≡ 32 → p ≤ Γ.limits.members →
      (m : Members) (q : ℕ) → MembersSpelled d m (at + 1) q × (length m ≡ p) → SetSpelled Γ (suc d) at m q
  unfolding FitsSet
  set_after Γ d at k p f e h m q s =
      after f e s.1 (too (rw s.1 h, rw s.1 f.small) s.0)

  pub set_past : (Γ : Context) (d at : ℕ) → Past file at (SetSpelled Γ d at) (set Γ file d)
  unfolding set
  set_past Γ zero at = level-past at _
  set_past Γ (suc d) at =
      due-past at _ λ k p f.
      entry k 32 (λ e. up-to Γ.limits.members p _ λ h.
      yields-map (set_after Γ d at k p f e h) (members-yields d p (at + 1))) nothing

-- of what was read, by any reader
pub spelled : {file : List ℕ} {l : List Word} {F : Type 0} {at p : ℕ} → Stands file l F at p →
    SpelledAt file at l × (p ≡ at + length l) × F
spelled {file} {l} {at} {p} s = (stands-spelled file at l p s.stand, stands-end file at l p s.stand, s.fit)
