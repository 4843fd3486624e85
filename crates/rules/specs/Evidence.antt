-- Evidence as trees (document 01, "Layout" and "Rules"; document 02, request [3]): an evidence word has its rule and its place in the file; what
-- the rule carries and its children stand after it.
-- Trusted. Assumes nothing.
--     Judgement, Item      the three kinds of evidence; what may stand after an evidence word
--     Rule                 the table of rules
--     Row, row, rules      a row of it, of a rule; every rule of a judgement
--     Standing, Tree       evidence, a part or parts, as trees
--     Evidence, Parts      evidence of a judgement; parts by their items
--     FlowEvidence, SetEvidence, PreEvidence    evidence of kinds 33, 34 and 35
use Rattle.std.specs.Prelude.{List, [], ◌∷◌, ℕ}
use Rattle.language.specs.Syntax.{Boolean, Expr, Command}
use Rattle.rules.specs.Assertion.{Members}

-- kinds 33, 34 and 35
pub data Judgement : Type 0 where
  flow implication precondition : Judgement

pub data Item : Type 0 where
  assertion_item command_item members_item : Item
  child_item : Judgement → Item

-- the table of rules: the number of each, and what stands after its word: what it carries, then its children
pub data Rule : Judgement → ℕ → List Item → Type 0 where
  flow1 : Rule flow 1 []
  flow2 : Rule flow 2 (members_item ∷ child_item flow ∷ child_item flow ∷ [])
  flow3 : Rule flow 3 []
  flow4 : Rule flow 4 []
  flow5 : Rule flow 5 []
  flow6 :
      Rule flow 6
      (members_item ∷ members_item ∷ assertion_item ∷ child_item flow ∷ child_item flow ∷ child_item precondition ∷ [])
  flow7 : Rule flow 7 (members_item ∷ child_item implication ∷ child_item flow ∷ [])
  flow8 : Rule flow 8 (members_item ∷ child_item flow ∷ child_item implication ∷ [])
  flow9 : Rule flow 9 (members_item ∷ members_item ∷ members_item ∷ members_item ∷ child_item flow ∷ child_item flow ∷ [])
  flow10 : Rule flow 10 []
  flow11 : Rule flow 11 (child_item precondition ∷ [])
  flow12 :
      Rule flow 12
      (members_item ∷ members_item ∷ assertion_item ∷ assertion_item ∷ child_item flow ∷ child_item precondition ∷ [])
  flow13 : Rule flow 13 (child_item flow ∷ [])
  flow14 : Rule flow 14 (command_item ∷ child_item flow ∷ [])
  flow31 : Rule flow 31 []
  set13 : Rule implication 13 []
  set14 : Rule implication 14 []
  set15 : Rule implication 15 []
  set16 :
      Rule implication 16
      (members_item ∷ members_item ∷ members_item ∷ members_item ∷ child_item implication ∷ child_item implication ∷ [])
  set17 :
      Rule implication 17
      (members_item ∷ members_item ∷ members_item ∷ child_item implication ∷ child_item implication ∷ [])
  set18 : Rule implication 18 []
  set19 : Rule implication 19 []
  pre20 : Rule precondition 20 (assertion_item ∷ assertion_item ∷ child_item precondition ∷ child_item precondition ∷ [])
  pre21 : Rule precondition 21 (assertion_item ∷ child_item precondition ∷ [])
  pre22 : Rule precondition 22 []
  pre23 : Rule precondition 23 (assertion_item ∷ child_item precondition ∷ child_item precondition ∷ [])
  pre24 : Rule precondition 24 []
  pre25 : Rule precondition 25 []
  pre26 : Rule precondition 26 []
  pre27 : Rule precondition 27 []
  pre28 : Rule precondition 28 (assertion_item ∷ child_item precondition ∷ [])
  pre29 : Rule precondition 29 []
  pre30 : Rule precondition 30 (command_item ∷ child_item precondition ∷ [])
  pre32 : Rule precondition 32 (child_item precondition ∷ [])

-- every rule of a judgement
pub record Row (j : Judgement) : Type 0 where
  pub number : ℕ
  pub after : List Item
  pub rule : Rule j number after

abbrev pub row : {j : Judgement} {n : ℕ} {l : List Item} → Rule j n l → Row j
row {n = n} {l = l} r = record { number = n; after = l; rule = r }

abbrev pub rules : (j : Judgement) → List (Row j)
rules flow =
    row flow1 ∷ row flow2 ∷ row flow3 ∷ row flow4 ∷ row flow5 ∷ row flow6 ∷ row flow7 ∷ row flow8 ∷ row flow9
    ∷ row flow10 ∷ row flow11 ∷ row flow12 ∷ row flow13 ∷ row flow14 ∷ row flow31 ∷ []
rules implication =
    row set13 ∷ row set14 ∷ row set15 ∷ row set16 ∷ row set17 ∷ row set18 ∷ row set19 ∷ []
rules precondition =
    row pre20 ∷ row pre21 ∷ row pre22 ∷ row pre23 ∷ row pre24 ∷ row pre25 ∷ row pre26 ∷ row pre27 ∷ row pre28
    ∷ row pre29 ∷ row pre30 ∷ row pre32 ∷ []

pub data Standing : Type 0 where
  evidence : Judgement → Standing
  item : Item → Standing
  items : List Item → Standing

infixr 20 ◌&◌
pub data Tree : Standing → Type 0 where
  by : {j : Judgement} {n : ℕ} {l : List Item} → Rule j n l → ℕ → Tree (items l) → Tree (evidence j)
  assertion : Expr Boolean → Tree (item assertion_item)
  command : Command → Tree (item command_item)
  members : Members → Tree (item members_item)
  child : {j : Judgement} → Tree (evidence j) → Tree (item (child_item j))
  done : Tree (items [])
  ◌&◌ : {x : Item} {l : List Item} → Tree (item x) → Tree (items l) → Tree (items (x ∷ l))

abbrev pub Evidence : Judgement → Type 0
Evidence j = Tree (evidence j)

abbrev pub Parts : List Item → Type 0
Parts l = Tree (items l)

abbrev pub FlowEvidence : Type 0
FlowEvidence = Evidence flow

abbrev pub SetEvidence : Type 0
SetEvidence = Evidence implication

abbrev pub PreEvidence : Type 0
PreEvidence = Evidence precondition
