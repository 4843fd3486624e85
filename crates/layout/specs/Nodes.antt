-- Expressions, commands and sets as nodes of one kind of tree: a first word, and the nodes that follow it (document 01,
-- "Layout").
-- Working: `node_law` of proofs/Nodes says that a node's words are its first word and then those of its parts, and that a node fits
-- where its payload and its parts do. Assumes nothing.
--     Node, node_words, FitsNode, node_part    an expression, a command or a set
--     head_of, parts_of                        its first word, its parts; a new form has one clause in `shape`
--     kind_of, content_of                      the kind and the payload of a word
--     InRange, AllInRange                    its payload is in the range of its kind, and tells the word; of each of some
--     count_of                                how many parts follow a word, by its kind and payload
use Rattle.std.specs.Prelude.{◌≡◌, false, cond, ◌||◌, List, [], ◌∷◌, ℕ, ◌+◌, ◌*◌, ◌<◌, ◌≤◌, eqb, ℤ, pos, length}
use Rattle.language.specs.Syntax.{Sort, Expr, constant, scalar, operation, select, compare, truth, and, or, neg}
use Rattle.language.specs.Syntax.{array, zeros, update, to_scalar, to_array}
use Rattle.language.specs.Syntax.{Command, skip, sequence, assert, assign, if_else, while, for, call}
use Rattle.rules.specs.Words.{Word, word, for_word, words, command_words}
use Rattle.rules.specs.Words.{operator_payload, comparison_payload, truth_payload}
use Rattle.rules.specs.Assertion.{Members}
use Rattle.rules.specs.Context.{Context}
use Rattle.layout.specs.Bytes.{payloads}
use Rattle.layout.specs.Constant.{constant_of}
use Rattle.layout.specs.Spelling.{payload_of, FitsExpression, FitsCommand, FitsSet, set_words}
use Rattle.layout.specs.EvidenceWords.{Part}

pub data Node : Type 0 where
  expression_node : {k : Sort} → Expr k → Node
  command_node : Context → Command → Node
  set_node : Context → Members → Node

abbrev pub node_words : Node → List Word
node_words (expression_node e) = words e
node_words (command_node Γ c) = command_words c
node_words (set_node Γ p) = set_words p

abbrev pub FitsNode : Node → ℕ → Type 0
FitsNode (expression_node e) d = FitsExpression e d
FitsNode (command_node Γ c) d = FitsCommand Γ c d
FitsNode (set_node Γ p) d = FitsSet Γ p d

abbrev pub node_part : Node → Part
node_part x = record { spelling = node_words x; fits = λ d at. FitsNode x d }

-- the antecedents and consequents of a set, in order
abbrev pub halves : Members → List Node
halves [] = []
halves (m ∷ p) = expression_node m.antecedent ∷ expression_node m.consequent ∷ halves p

abbrev shape : Node → Word × List Node
shape (expression_node (constant z)) = (word 1 z, [])
shape (expression_node (scalar x)) = (word 2 (pos x), [])
shape (expression_node (operation o a b)) = (word 3 (operator_payload o), expression_node a ∷ expression_node b ∷ [])
shape (expression_node (select h i)) = (word 4 (pos 0), expression_node h ∷ expression_node i ∷ [])
shape (expression_node (compare r a b)) = (word 8 (comparison_payload r), expression_node a ∷ expression_node b ∷ [])
shape (expression_node (truth t)) = (word 9 (truth_payload t), [])
shape (expression_node (and b c)) = (word 10 (pos 0), expression_node b ∷ expression_node c ∷ [])
shape (expression_node (or b c)) = (word 11 (pos 0), expression_node b ∷ expression_node c ∷ [])
shape (expression_node (neg b)) = (word 12 (pos 0), expression_node b ∷ [])
shape (expression_node (array a)) = (word 16 (pos a), [])
shape (expression_node zeros) = (word 17 (pos 0), [])
shape (expression_node (update h i a)) = (word 18 (pos 0), expression_node h ∷ expression_node i ∷ expression_node a ∷ [])
shape (command_node Γ skip) = (word 24 (pos 0), [])
shape (command_node Γ (sequence c d)) = (word 25 (pos 0), command_node Γ c ∷ command_node Γ d ∷ [])
shape (command_node Γ (assert b)) = (word 26 (pos 0), expression_node b ∷ [])
shape (command_node Γ (assign (to_scalar x e))) = (word 27 (pos x), expression_node e ∷ [])
shape (command_node Γ (assign (to_array a e))) = (word 28 (pos a), expression_node e ∷ [])
shape (command_node Γ (if_else b c d)) = (word 29 (pos 0), expression_node b ∷ command_node Γ c ∷ command_node Γ d ∷ [])
shape (command_node Γ (while b c)) = (word 30 (pos 0), expression_node b ∷ command_node Γ c ∷ [])
shape (command_node Γ (for q m c)) = (for_word q m, command_node Γ c ∷ [])
shape (command_node Γ (call n c)) = (word 38 (pos n), [])
shape (set_node Γ p) = (word 32 (pos (length p)), halves p)

abbrev pub head_of : Node → Word
head_of x = (shape x).0

abbrev pub parts_of : Node → List Node
parts_of x = (shape x).1

abbrev pub kind_of : Word → ℕ
kind_of (word k z) = k
kind_of (for_word q m) = 31

abbrev pub content_of : Word → ℕ
content_of (word k z) = payload_of z
content_of (for_word q m) = q + 32 * m

-- 27 and 28 assign, 2 and 16 read an identifier, of which there are 32
abbrev pub range_of : ℕ → ℕ
range_of k = cond (eqb k 2 || (eqb k 16 || (eqb k 27 || eqb k 28))) 32 payloads

-- the integer of a word by its payload: a constant's by its two cases, any other's is the payload
abbrev pub integer_of : ℕ → ℕ → ℤ
integer_of k p = cond (eqb k 1) (constant_of p) (pos p)

-- kind 31 is that of a `for` alone
abbrev pub InRange : Word → Type 0
InRange (word k z) = (payload_of z < range_of k) × (integer_of k (payload_of z) ≡ z) × (eqb k 31 ≡ false)
InRange (for_word q m) = (q ≤ 31) × (m ≤ 31)

abbrev pub AllInRange : List Word → Type 0
AllInRange [] = Unit {0}
AllInRange (w ∷ l) = InRange w × AllInRange l

-- the count beside a kind, or 0
abbrev pub count_beside : ℕ → List (ℕ × ℕ) → ℕ
count_beside k [] = 0
count_beside k (e ∷ l) = cond (eqb k e.0) e.1 (count_beside k l)

-- a set has two expressions for each of its members; words of other kinds are taken alone
abbrev pub counts : ℕ → List (ℕ × ℕ)
counts p =
    (32, 2 * p) ∷ (31, 1) ∷ (30, 2) ∷ (29, 3) ∷ (28, 1) ∷ (27, 1) ∷ (26, 1) ∷ (25, 2) ∷ (18, 3) ∷ (12, 1) ∷ (11, 2)
    ∷ (10, 2) ∷ (8, 2) ∷ (4, 2) ∷ (3, 2) ∷ []

unfoldable pub count_of : ℕ → ℕ → ℕ
count_of k p = count_beside k (counts p)
