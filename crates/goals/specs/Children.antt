-- The goals of a rule's children, by the places of its goal and of its evidence word (document 01, "Rules"; document 02, request [3]).
-- Working: `flow-rule`, `set-rule` and `pre-rule` of proofs/Comes tie them to the contract of a rule, by which the children
-- of the trees that stand there have these goals. Assumes nothing.
--     flow_children, set_children, pre_children    by rule
--     flow_child, set_child                       one of them
--     children_at, child_at                       of a goal by its rule's number; one of them
--     judgement_of                               the judgement of a goal
--     carried_off, past_carried                   the items after an evidence word past what is carried; their place
use Rattle.std.specs.Prelude.{cond, List, [], ◌∷◌, ℕ, ◌+◌, eqb, get_or}
use Rattle.rules.specs.Evidence.{Judgement, flow, implication, precondition}
use Rattle.rules.specs.Evidence.{Item, assertion_item, command_item, members_item, child_item}
use Rattle.layout.specs.Bytes.{payload_at}
use Rattle.ends.specs.Places.{end_at}
use Rattle.ends.specs.Procedures.{start_at}
use Rattle.goals.specs.declared.Goal.{Goal}
use Rattle.goals.specs.declared.Goal.TheVariants.{Flow, Set, Pre}

abbrev pub of_rule : ℕ → List (ℕ × List Goal) → List Goal
of_rule n [] = []
of_rule n (x ∷ l) = cond (eqb n x.0) x.1 (of_rule n l)

abbrev pub judgement_of : Goal → Judgement
judgement_of (Flow p c q) = flow
judgement_of (Set p q) = implication
judgement_of (Pre f c g) = precondition

abbrev pub carried_off : List Item → List Item
carried_off [] = []
carried_off (assertion_item ∷ l) = carried_off l
carried_off (command_item ∷ l) = carried_off l
carried_off (members_item ∷ l) = carried_off l
carried_off (child_item j ∷ l) = child_item j ∷ l

module _ (ends : List ℕ) where
  -- P at p, C at c, Q at q; the evidence word at `at`
  abbrev pub flow_children : ℕ → ℕ → ℕ → ℕ → List (ℕ × List Goal)
  flow_children p c q at =
      let a = at + 1 in
      let a2 = end_at ends a in
      let a3 = end_at ends a2 in
      let a4 = end_at ends a3 in
      let c1 = end_at ends (c + 1) in
      (2, Flow p (c + 1) a ∷ Flow a c1 q ∷ [])
      ∷ (6, Flow a c1 q ∷ Flow a2 (end_at ends c1) q ∷ Pre a3 c (q + 1) ∷ [])
      ∷ (7, Set p a ∷ Flow a c q ∷ [])
      ∷ (8, Flow p c a ∷ Set a q ∷ [])
      ∷ (9, Flow a c a2 ∷ Flow a3 c a4 ∷ [])
      ∷ (11, Pre (p + 1) c (q + 1) ∷ [])
      ∷ (12, Flow a c a2 ∷ Pre a3 c a4 ∷ [])
      ∷ (13, Flow p c1 q ∷ [])
      ∷ (14, Flow p a q ∷ [])
      ∷ []

  -- P at p, Q at q
  abbrev pub set_children : ℕ → ℕ → ℕ → List (ℕ × List Goal)
  set_children p q at =
      let a = at + 1 in
      let a2 = end_at ends a in
      let a3 = end_at ends a2 in
      (16, Set a a2 ∷ Set a3 (end_at ends a3) ∷ []) ∷ (17, Set a a2 ∷ Set a3 q ∷ []) ∷ []

  abbrev pub flow_child : ℕ → ℕ → ℕ → ℕ → ℕ → ℕ → Goal
  flow_child p c q rule at k = get_or (of_rule rule (flow_children p c q at)) k (Flow p c q)

  abbrev pub set_child : ℕ → ℕ → ℕ → ℕ → ℕ → Goal
  set_child p q rule at k = get_or (of_rule rule (set_children p q at)) k (Set p q)

  abbrev pub past_carried : List Item → ℕ → ℕ
  past_carried [] at = at
  past_carried (assertion_item ∷ l) at = past_carried l (end_at ends at)
  past_carried (command_item ∷ l) at = past_carried l (end_at ends at)
  past_carried (members_item ∷ l) at = past_carried l (end_at ends at)
  past_carried (child_item j ∷ l) at = at

module _ (file ends : List ℕ) where
  -- φ at f, C at c, φ' at g; the body of the procedure that C calls is found by the number at c
  abbrev pub pre_children : ℕ → ℕ → ℕ → ℕ → List (ℕ × List Goal)
  pre_children f c g at =
      let a = at + 1 in
      let c1 = end_at ends (c + 1) in
      (20, Pre a c1 g ∷ Pre (end_at ends a) (end_at ends c1) g ∷ [])
      ∷ (21, Pre a c1 f ∷ [])
      ∷ (23, Pre f (c + 1) a ∷ Pre a c1 g ∷ [])
      ∷ (28, Pre a c g ∷ [])
      ∷ (30, Pre f a g ∷ [])
      ∷ (32, Pre f (start_at file ends (payload_at file c)) g ∷ [])
      ∷ []

  abbrev pub children_at : Goal → ℕ → ℕ → List Goal
  children_at (Flow p c q) rule at = of_rule rule (flow_children ends p c q at)
  children_at (Set p q) rule at = of_rule rule (set_children ends p q at)
  children_at (Pre f c g) rule at = of_rule rule (pre_children f c g at)

  abbrev pub child_at : Goal → ℕ → ℕ → ℕ → Goal
  child_at goal rule at k = get_or (children_at goal rule at) k goal
