-- Words taken from the last to the first, on a stack of trees, give back the trees that they spell, a call with the body that its
-- procedure has in a table.
-- Assumes nothing.
--     payload_operator, payload_comparison, payload_truth    payloads back
--     Fields, fields, tree, command_tree                   a tree of any sort
--     tree_at                                              a tree of a stack
--     kinds, replace, push, trees_of                       words by their kinds; a word on a stack; the trees that words spell
--     Spells, spells_before                               words put a tree on any stack; before any other words
--     words_spell, command-spells                         the words of an expression, of a command do so with it
use mathlib.Core.Path.{◌≡◌, refl, sym, ◌∙◌, ap}
use mathlib.Core.Bool.{Bool, true, false, cond}
use mathlib.Core.List.{List, [], ◌∷◌, ◌++◌}
use Prim.Native.Nat.{ℕ, zero, suc}
use lib.Dec.{eqb}
use lib.IntN.{ℤ, pos, negsuc, nat_abs}
use lib.ListN.{get_or, drop}
use Rattle.language.specs.Syntax.{Operator, plus, minus, times, Comparison, equal, less, at_most}
use Rattle.language.specs.Syntax.{Sort, Arithmetic, Boolean, Array, Expr, constant, scalar, operation, select}
use Rattle.language.specs.Syntax.{compare, truth, and, or, neg, array, zeros, update, to_scalar, to_array}
use Rattle.language.specs.Syntax.{Command, skip, sequence, assert, assign, if_else, while, for, call}
use Rattle.rules.specs.Words.{Word, word, for_word, operator_payload, comparison_payload, truth_payload}
use Rattle.rules.specs.Words.{words, command_words}
use Rattle.rules.specs.Context.{Procedure, item_at, body_of}
use Rattle.rules.specs.Resolved.{Resolved}

-- payloads back
abbrev pub payload_operator : ℤ → Operator
payload_operator (pos zero) = plus
payload_operator (pos (suc zero)) = minus
payload_operator (pos (suc (suc n))) = times
payload_operator (negsuc n) = plus

abbrev pub payload_comparison : ℤ → Comparison
payload_comparison (pos zero) = equal
payload_comparison (pos (suc zero)) = less
payload_comparison (pos (suc (suc n))) = at_most
payload_comparison (negsuc n) = equal

abbrev pub payload_truth : ℤ → Bool
payload_truth (pos zero) = false
payload_truth (pos (suc n)) = true
payload_truth (negsuc n) = false

operator_of-payload : (o : Operator) → payload_operator (operator_payload o) ≡ o
operator_of-payload plus = refl
operator_of-payload minus = refl
operator_of-payload times = refl

comparison_of-payload : (r : Comparison) → payload_comparison (comparison_payload r) ≡ r
comparison_of-payload equal = refl
comparison_of-payload less = refl
comparison_of-payload at_most = refl

truth_of-payload : (t : Bool) → payload_truth (truth_payload t) ≡ t
truth_of-payload false = refl
truth_of-payload true = refl

-- an expression of the sort, or a command, in its field; the other fields are of no account
pub record Fields : Type 0 where
  pub sort : Sort
  pub arithmetic : Expr Arithmetic
  pub boolean : Expr Boolean
  pub array : Expr Array
  pub command : Command

abbrev pub fields : Sort → Expr Arithmetic → Expr Boolean → Expr Array → Command → Fields
fields k a b h c = record { sort = k; arithmetic = a; boolean = b; array = h; command = c }

abbrev pub tree : {k : Sort} → Expr k → Fields
tree {k = Arithmetic} e = fields Arithmetic e (truth false) zeros skip
tree {k = Boolean} e = fields Boolean (scalar 0) e zeros skip
tree {k = Array} e = fields Array (scalar 0) (truth false) e skip

abbrev pub command_tree : Command → Fields
command_tree c = fields Arithmetic (scalar 0) (truth false) zeros c

-- a tree on a stack, by its place
abbrev pub tree_at : List Fields → ℕ → Fields
tree_at s i = get_or s i (command_tree skip)

module _ (procedures : List Procedure) where
  -- the kinds of words, each with how many parts it has and with its tree, of the payload p and the parts
  abbrev pub kinds : ℤ → Fields → Fields → Fields → List (ℕ × ℕ × Fields)
  kinds p t u v =
      (1, 0, tree (constant p))
      ∷ (2, 0, tree (scalar (nat_abs p)))
      ∷ (3, 2, tree (operation (payload_operator p) t.arithmetic u.arithmetic))
      ∷ (4, 2, tree (select t.array u.arithmetic))
      ∷ (8, 2, tree (compare (payload_comparison p) t.arithmetic u.arithmetic))
      ∷ (9, 0, tree (truth (payload_truth p)))
      ∷ (10, 2, tree (and t.boolean u.boolean))
      ∷ (11, 2, tree (or t.boolean u.boolean))
      ∷ (12, 1, tree (neg t.boolean))
      ∷ (16, 0, tree (array (nat_abs p)))
      ∷ (17, 0, tree zeros)
      ∷ (18, 3, tree (update t.array u.arithmetic v.arithmetic))
      ∷ (24, 0, command_tree skip)
      ∷ (25, 2, command_tree (sequence t.command u.command))
      ∷ (26, 1, command_tree (assert t.boolean))
      ∷ (27, 1, command_tree (assign (to_scalar (nat_abs p) t.arithmetic)))
      ∷ (28, 1, command_tree (assign (to_array (nat_abs p) t.array)))
      ∷ (29, 3, command_tree (if_else t.boolean u.command v.command))
      ∷ (30, 2, command_tree (while t.boolean u.command))
      ∷ (38, 0, command_tree (call (nat_abs p) (body_of (item_at procedures (nat_abs p)))))
      ∷ []

  -- the stack with the tree of the kind k in the place of its parts
  abbrev pub replace : ℕ → List (ℕ × ℕ × Fields) → List Fields → List Fields
  replace k [] s = s
  replace k (x ∷ l) s = cond (eqb k x.0) (x.2 ∷ drop x.1 s) (replace k l s)

  abbrev pub push : Word → List Fields → List Fields
  push (word k p) s = replace k (kinds p (tree_at s 0) (tree_at s 1) (tree_at s 2)) s
  push (for_word q m) s = command_tree (for q m (tree_at s 0).command) ∷ drop 1 s

  -- the trees that words spell, on a stack
  abbrev pub trees_of : List Word → List Fields → List Fields
  trees_of [] s = s
  trees_of (w ∷ l) s = push w (trees_of l s)

  trees_of-append : (k l : List Word) (s : List Fields) → trees_of (k ++ l) s ≡ trees_of k (trees_of l s)
  trees_of-append [] l s = refl
  trees_of-append (w ∷ k) l s = ap (push w) (trees_of-append k l s)

  -- words spell a tree: they put it on any stack
  pub record Spells (l : List Word) (t : Fields) : Type 0 where
    pub on : (s : List Fields) → trees_of l s ≡ t ∷ s

  -- so before any other words
  pub spells_before : {k : List Word} {t : Fields} → Spells k t → (l : List Word) (s : List Fields) →
      trees_of (k ++ l) s ≡ t ∷ trees_of l s
  spells_before {k} x l s = trees_of-append k l s ∙ x.on (trees_of l s)

  spells_both : {k l : List Word} {t u : Fields} → Spells k t → Spells l u → (s : List Fields) →
      trees_of (k ++ l) s ≡ t ∷ u ∷ s
  spells_both {l} {t} x y s = spells_before x l s ∙ ap (λ q. t ∷ q) (y.on s)

  -- by a word with no part, of one, two and three parts
  module _ {w : Word} {v : Fields} where
    no_part : ((s : List Fields) → push w s ≡ v ∷ s) → Spells (w ∷ []) v
    no_part h = record { on = h }

    one-part : {k : List Word} {t : Fields} →
        Spells k t → ((s : List Fields) → push w (t ∷ s) ≡ v ∷ s) → Spells (w ∷ k) v
    one-part x h = record { on = λ s. ap (push w) (x.on s) ∙ h s }

    two-parts : {k l : List Word} {t u : Fields} →
        Spells k t → Spells l u → ((s : List Fields) → push w (t ∷ u ∷ s) ≡ v ∷ s) → Spells (w ∷ (k ++ l)) v
    two-parts x y h = record { on = λ s. ap (push w) (spells_both x y s) ∙ h s }

    three-parts : {j k l : List Word} {r t u : Fields} →
        Spells j r → Spells k t → Spells l u → ((s : List Fields) → push w (r ∷ t ∷ u ∷ s) ≡ v ∷ s) →
        Spells (w ∷ (j ++ (k ++ l))) v
    three-parts {k} {l} {r} x y z h = record {
      on = λ s. ap (push w) (spells_before x (k ++ l) s ∙ ap (λ q. r ∷ q) (spells_both y z s)) ∙ h s;
    }

  pub words_spell : {k : Sort} (e : Expr k) → Spells (words e) (tree e)
  unfolding words
  words_spell (constant z) = no_part (λ s. refl)
  words_spell (scalar x) = no_part (λ s. refl)
  words_spell (operation o a b) =
      two-parts (words_spell a) (words_spell b) (λ s. ap (λ o. tree (operation o a b) ∷ s) (operator_of-payload o))
  words_spell (select h i) = two-parts (words_spell h) (words_spell i) (λ s. refl)
  words_spell (compare r a b) =
      two-parts (words_spell a) (words_spell b) (λ s. ap (λ r. tree (compare r a b) ∷ s) (comparison_of-payload r))
  words_spell (truth t) = no_part (λ s. ap (λ t. tree (truth t) ∷ s) (truth_of-payload t))
  words_spell (and b c) = two-parts (words_spell b) (words_spell c) (λ s. refl)
  words_spell (or b c) = two-parts (words_spell b) (words_spell c) (λ s. refl)
  words_spell (neg b) = one-part (words_spell b) (λ s. refl)
  words_spell (array a) = no_part (λ s. refl)
  words_spell zeros = no_part (λ s. refl)
  words_spell (update h i a) = three-parts (words_spell h) (words_spell i) (words_spell a) (λ s. refl)

  pub command-spells : (c : Command) → Resolved procedures c → Spells (command_words c) (command_tree c)
  unfolding command_words
  command-spells skip r = no_part (λ s. refl)
  command-spells (sequence c d) r = two-parts (command-spells c r.0) (command-spells d r.1) (λ s. refl)
  command-spells (assert b) r = one-part (words_spell b) (λ s. refl)
  command-spells (assign (to_scalar x e)) r = one-part (words_spell e) (λ s. refl)
  command-spells (assign (to_array a e)) r = one-part (words_spell e) (λ s. refl)
  command-spells (if_else b c d) r =
      three-parts (words_spell b) (command-spells c r.0) (command-spells d r.1) (λ s. refl)
  command-spells (while b c) r = two-parts (words_spell b) (command-spells c r) (λ s. refl)
  command-spells (for q m c) r = one-part (command-spells c r) (λ s. refl)
  command-spells (call n c) (k, e, b, r) =
      no_part (λ s. ap (λ o. command_tree (call n (body_of o)) ∷ s) e ∙ ap (λ d. command_tree (call n d) ∷ s) (sym b))
