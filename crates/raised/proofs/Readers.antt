-- What is read under some limits is read alike under raised ones, and so is a refusal that is not 4 or the 5 of a set's count
-- (document 02, request [6]): expressions, commands, sets, evidence and programs.
-- Assumes nothing.
--     RaisedLimits                                     limits, those with any count of members and the same depth, raised ones
--     RaisedUnder                                      the law of readers under the three limits
--     expression-raised, command-raised, set-raised    of these readers
--     evidence-raised, program-raised                  of evidence; of a program
use mathlib.Core.Path.{◌≡◌, sym, subst}
use mathlib.Core.List.{List, [], ◌∷◌}
use Prim.Native.Nat.{ℕ, zero, suc, ◌≤◌}
use native.Mathlib.Omega.{arith}
use Rattle.language.specs.Syntax.{Sort, Arithmetic, Boolean, Array, Expr, Command}
use Rattle.rules.specs.Assertion.{Member, member}
use Rattle.rules.specs.Context.{Limits, Procedure, Context}
use Rattle.rules.specs.Evidence.{Judgement, flow, Item, assertion_item, command_item, members_item, child_item, rules, Evidence}
use Rattle.layout.specs.Bytes.{kind_at, payloads}
use Rattle.layout.specs.Reading.{Reader, pure, ◌⊛◌}
use Rattle.layout.specs.Read.{operator_of, comparison_of, truth_of}
use Rattle.layout.specs.Read.{arithmetic_word, boolean_word, array_word, expression_word}
use Rattle.layout.specs.Read.{expression, command_word, command, sort_of, consequent_at, member_at, set}
use Rattle.layout.specs.ReadEvidence.{evidence_kind, rule_of, item_reader, parts_reader, evidence}
use Rattle.layout.specs.Program.{program}
use Rattle.layout.proofs.Words.{WordFound}
use Rattle.layout.proofs.Spelled.{expression-past, command-past, set_past}
use Rattle.layout.proofs.SpelledEvidence.{evidence-past}
use Rattle.raised.proofs.Judged.{limited}
use Rattle.raised.proofs.Readings.{alike, ReadersRaised, RaisedAt, none-may, all-may, past-raised, begin, ◌▸◌, here-raised}
use Rattle.raised.proofs.Readings.{several-raised, entry, up-to, on-option, counted, due-raised, level-due}

pub record RaisedLimits (low any high : Limits) : Type 0 where
  pub depth : low.depth ≤ high.depth
  pub members : low.members ≤ high.members
  pub same-depth : any.depth ≡ low.depth
  pub every-count : payloads ≤ any.members

module _ (file : List ℕ) (most : ℕ) where
  -- a word's table: r, t and s read operands
  module _ (r t s : (j : Sort) → Reader (Expr j)) (a : (j : Sort) → ReadersRaised file most (r j) (t j) (s j)) (at k p : ℕ) where
    arithmetic-word : RaisedAt file most at (arithmetic_word r k p) (arithmetic_word t k p) (arithmetic_word s k p)
    arithmetic-word =
        entry k 1 (λ e. all-may (begin _))
        (entry k 2 (λ e. up-to 31 p (begin _))
        (entry k 3 (λ e. on-option (operator_of p) _ _ _ λ o. begin _ ▸ a Arithmetic ▸ a Arithmetic)
        (entry k 4 (λ e. up-to 0 p (begin _ ▸ a Array ▸ a Arithmetic))
        none-may)))

    boolean-word : RaisedAt file most at (boolean_word r k p) (boolean_word t k p) (boolean_word s k p)
    boolean-word =
        entry k 8 (λ e. on-option (comparison_of p) _ _ _ λ o. begin _ ▸ a Arithmetic ▸ a Arithmetic)
        (entry k 9 (λ e. on-option (truth_of p) _ _ _ λ o. begin _)
        (entry k 10 (λ e. up-to 0 p (begin _ ▸ a Boolean ▸ a Boolean))
        (entry k 11 (λ e. up-to 0 p (begin _ ▸ a Boolean ▸ a Boolean))
        (entry k 12 (λ e. up-to 0 p (begin _ ▸ a Boolean))
        none-may))))

    array-word : RaisedAt file most at (array_word r k p) (array_word t k p) (array_word s k p)
    array-word =
        entry k 16 (λ e. up-to 31 p (begin _))
        (entry k 17 (λ e. up-to 0 p (begin _))
        (entry k 18 (λ e. up-to 0 p (begin _ ▸ a Array ▸ a Arithmetic ▸ a Arithmetic))
        none-may))

    expression-word : (j : Sort) → RaisedAt file most at (expression_word r j k p) (expression_word t j k p) (expression_word s j k p)
    expression-word Arithmetic = arithmetic-word
    expression-word Boolean = boolean-word
    expression-word Array = array-word

    -- x, y and z read a command; the procedures are the same
    module _ (low any high : Limits) (l : List Procedure) (x y z : Reader Command) (b : ReadersRaised file most x y z) where
      command_here : RaisedAt file most at (command_word (limited low l) r x k p) (command_word (limited any l) t y k p)
          (command_word (limited high l) s z k p)
      command_here =
          entry k 24 (λ e. up-to 0 p (begin _))
          (entry k 25 (λ e. up-to 0 p (begin _ ▸ b ▸ b))
          (entry k 26 (λ e. up-to 0 p (begin _ ▸ a Boolean))
          (entry k 27 (λ e. up-to 31 p (begin _ ▸ a Arithmetic))
          (entry k 28 (λ e. up-to 31 p (begin _ ▸ a Array))
          (entry k 29 (λ e. up-to 0 p (begin _ ▸ a Boolean ▸ b ▸ b))
          (entry k 30 (λ e. up-to 0 p (begin _ ▸ a Boolean ▸ b))
          (entry k 31 (λ e. up-to 1023 p (begin _ ▸ b))
          (entry k 38 (λ e. all-may (begin _))
          none-may))))))))

  pub expression-raised : (d n : ℕ) → d ≤ n → (j : Sort) →
      ReadersRaised file most (expression file d j) (expression file d j) (expression file n j)
  unfolding expression
  expression-raised zero zero l j = past-raised (λ at. alike) (expression-past file zero j)
  expression-raised zero (suc n) l j = past-raised (λ at. level-due at _) (expression-past file zero j)
  expression-raised (suc d) zero l j = absurd (omega arith)
  expression-raised (suc d) (suc n) l j =
      past-raised (λ at. due-raised at _ _ _ λ k p f.
      expression-word (expression file d) (expression file d) (expression file n) (λ i. expression-raised d n (omega arith) i) at k p j)
      (expression-past file (suc d) j)

  -- a consequent of a sort
  abbrev consequent_of : ℕ → (j : Sort) → Reader (Expr Boolean → Member)
  consequent_of d j = pure (λ e φ. member φ e) ⊛ expression file d j

  of-sort : (d n : ℕ) → d ≤ n → (j : Sort) → ReadersRaised file most (consequent_of d j) (consequent_of d j) (consequent_of n j)
  of-sort d n l j = begin _ ▸ expression-raised d n l j

  consequent-raised : (d n : ℕ) → d ≤ n → ReadersRaised file most (consequent_at file d) (consequent_at file d) (consequent_at file n)
  consequent-raised d n l = record {
    raised = λ at. (of-sort d n l (sort_of (kind_at file at))).raised at;
    onward = λ at. record { yields = ((of-sort d n l (sort_of (kind_at file at))).onward at).yields };
  }

  member-raised : (d n : ℕ) → d ≤ n → ReadersRaised file most (member_at file d) (member_at file d) (member_at file n)
  member-raised d n l = begin _ ▸ expression-raised d n l Boolean ▸ consequent-raised d n l

module _ (file : List ℕ) {low any high : Limits} (h : RaisedLimits low any high) (l : List Procedure) where
  -- r under some limits and under those with any count of members, s under raised ones
  abbrev pub RaisedUnder : {A : Type 0} → (Context → Reader A) → (Context → Reader A) → Type 0
  RaisedUnder r s = ReadersRaised file low.members (r (limited low l)) (r (limited any l)) (s (limited high l))

  pub command-raised : (d n : ℕ) → d ≤ n → RaisedUnder (λ Γ. command Γ file d) (λ Γ. command Γ file n)
  unfolding command
  command-raised zero zero i = past-raised (λ at. alike) (command-past file (limited any l) zero)
  command-raised zero (suc n) i = past-raised (λ at. level-due at _) (command-past file (limited any l) zero)
  command-raised (suc d) zero i = absurd (omega arith)
  command-raised (suc d) (suc n) i =
      past-raised (λ at. due-raised at _ _ _ λ k p f.
      command_here file low.members (expression file d) (expression file d) (expression file n)
      (λ j. expression-raised file low.members d n (omega arith) j) at k p low any high l _ _ _ (command-raised d n (omega arith)))
      (command-past file (limited any l) (suc d))

  pub set-raised : (d n : ℕ) → d ≤ n → RaisedUnder (λ Γ. set Γ file d) (λ Γ. set Γ file n)
  unfolding set
  set-raised zero zero i = past-raised (λ at. alike) (set_past file (limited any l) zero)
  set-raised zero (suc n) i = past-raised (λ at. level-due at _) (set_past file (limited any l) zero)
  set-raised (suc d) zero i = absurd (omega arith)
  set-raised (suc d) (suc n) i =
      past-raised (λ at. due-raised at _ _ _ λ k p f.
      entry k 32 (λ e. counted any.members high.members p (subst (λ j. WordFound file at j p) e f) h.every-count h.members
      (several-raised p (member-raised file low.members d n (omega arith)))) none-may)
      (set_past file (limited any l) (suc d))

  module _ (d n : ℕ) (i : d ≤ n) (r t s : (j : Judgement) → Reader (Evidence j))
      (c : (j : Judgement) → ReadersRaised file low.members (r j) (t j) (s j)) where
    item-raised : (x : Item) → ReadersRaised file low.members (item_reader (limited low l) file d r x) (item_reader (limited any l) file d t x)
        (item_reader (limited high l) file n s x)
    item-raised assertion_item = begin _ ▸ expression-raised file low.members d n i Boolean
    item-raised command_item = begin _ ▸ command-raised d n i
    item-raised members_item = begin _ ▸ set-raised d n i
    item-raised (child_item j) = begin _ ▸ c j

    items-raised : (x : List Item) → ReadersRaised file low.members (parts_reader (limited low l) file d r x)
        (parts_reader (limited any l) file d t x) (parts_reader (limited high l) file n s x)
    items-raised [] = begin _
    items-raised (x ∷ y) = begin _ ▸ item-raised x ▸ items-raised y

  pub evidence-raised : (d n : ℕ) → d ≤ n → (j : Judgement) → RaisedUnder (λ Γ. evidence Γ file d j) (λ Γ. evidence Γ file n j)
  unfolding evidence
  evidence-raised zero zero i j = past-raised (λ at. alike) (evidence-past (limited any l) file zero j)
  evidence-raised zero (suc n) i j = past-raised (λ at. level-due at _) (evidence-past (limited any l) file zero j)
  evidence-raised (suc d) zero i j = absurd (omega arith)
  evidence-raised (suc d) (suc n) i j =
      past-raised (λ at. due-raised at _ _ _ λ k p f.
      entry k (evidence_kind j) (λ e. on-option (rule_of p (rules j)) _ _ _ λ r.
      begin _ ▸ items-raised d n (omega arith) _ _ _ (λ j. evidence-raised d n (omega arith) j) r.after) none-may)
      (evidence-past (limited any l) file (suc d) j)

  -- each with as many levels as its limits have
  outermost : {A : Type 0} (r : Context → ℕ → Reader A) → ((d n : ℕ) → d ≤ n → RaisedUnder (λ Γ. r Γ d) (λ Γ. r Γ n)) →
      RaisedUnder (λ Γ. r Γ Γ.limits.depth) (λ Γ. r Γ Γ.limits.depth)
  outermost r f =
      subst (λ d. ReadersRaised file low.members (r (limited low l) low.depth) (r (limited any l) d) (r (limited high l) high.depth))
      (sym h.same-depth) (f low.depth high.depth h.depth)

  pub program-raised : RaisedUnder (λ Γ. program Γ file) (λ Γ. program Γ file)
  program-raised =
      let of-set = outermost (λ Γ d. set Γ file d) set-raised in
      begin _ ▸ here-raised ▸ outermost (λ Γ d. command Γ file d) command-raised ▸ here-raised ▸ of-set ▸ here-raised ▸ of-set
      ▸ here-raised ▸ outermost (λ Γ d. evidence Γ file d flow) (λ d n i. evidence-raised d n i flow) ▸ here-raised
