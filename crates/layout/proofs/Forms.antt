-- A node by the kind of its first word.
-- Assumes nothing.
--     SortKind, sort-kind, low-kind    the kinds of expressions of a sort; those of expressions
--     Form, form                       the forms of commands, each with its kind
use Prim.Native.Nat.{ℕ, ◌<◌, ◌≤◌}
use native.Mathlib.Omega.{arith}
use Rattle.language.specs.Syntax.{Sort, Arithmetic, Boolean, Array, Expr, constant, scalar, operation, select, compare, truth}
use Rattle.language.specs.Syntax.{and, or, neg, array, zeros, update, to_scalar, to_array}
use Rattle.language.specs.Syntax.{Command, skip, sequence, assert, assign, if_else, while, for, call}
use Rattle.rules.specs.Assertion.{Members}
use Rattle.rules.specs.Context.{Context}
use Rattle.layout.specs.Nodes.{Node, expression_node, command_node, set_node, head_of, kind_of}

abbrev pub SortKind : Sort → ℕ → Type 0
SortKind Arithmetic k = k < 8
SortKind Boolean k = (8 ≤ k) × (k ≤ 12)
SortKind Array k = (16 ≤ k) × (k ≤ 18)

pub sort-kind : {j : Sort} (e : Expr j) → SortKind j (kind_of (head_of (expression_node e)))
sort-kind (constant z) = omega arith
sort-kind (scalar x) = omega arith
sort-kind (operation o a b) = omega arith
sort-kind (select h i) = omega arith
sort-kind (compare r a b) = omega arith
sort-kind (truth t) = omega arith
sort-kind (and b c) = omega arith
sort-kind (or b c) = omega arith
sort-kind (neg b) = omega arith
sort-kind (array a) = omega arith
sort-kind zeros = omega arith
sort-kind (update h i a) = omega arith

pub low-kind : (j : Sort) {k : ℕ} → SortKind j k → k < 24
low-kind Arithmetic h = omega arith
low-kind Boolean h = omega arith
low-kind Array h = omega arith

pub data Form : ℕ → Node → Type 0 where
  form-expression : {j : Sort} {e : Expr j} {n : ℕ} → n < 24 → Form n (expression_node e)
  form-skip : {Γ : Context} → Form 24 (command_node Γ skip)
  form-sequence : {Γ : Context} {c d : Command} → Form 25 (command_node Γ (sequence c d))
  form-assert : {Γ : Context} {b : Expr Boolean} → Form 26 (command_node Γ (assert b))
  form-scalar : {Γ : Context} {x : ℕ} {e : Expr Arithmetic} → Form 27 (command_node Γ (assign (to_scalar x e)))
  form-array : {Γ : Context} {x : ℕ} {e : Expr Array} → Form 28 (command_node Γ (assign (to_array x e)))
  form-if : {Γ : Context} {b : Expr Boolean} {c d : Command} → Form 29 (command_node Γ (if_else b c d))
  form-while : {Γ : Context} {b : Expr Boolean} {c : Command} → Form 30 (command_node Γ (while b c))
  form-for : {Γ : Context} {q m : ℕ} {c : Command} → Form 31 (command_node Γ (for q m c))
  form-call : {Γ : Context} {n : ℕ} {c : Command} → Form 38 (command_node Γ (call n c))
  form-set : {Γ : Context} {p : Members} → Form 32 (set_node Γ p)

pub form : (x : Node) → Form (kind_of (head_of x)) x
form (expression_node {k = j} e) = form-expression (low-kind j (sort-kind e))
form (command_node Γ skip) = form-skip
form (command_node Γ (sequence c d)) = form-sequence
form (command_node Γ (assert b)) = form-assert
form (command_node Γ (assign (to_scalar x e))) = form-scalar
form (command_node Γ (assign (to_array x e))) = form-array
form (command_node Γ (if_else b c d)) = form-if
form (command_node Γ (while b c)) = form-while
form (command_node Γ (for q m c)) = form-for
form (command_node Γ (call n c)) = form-call
form (set_node Γ p) = form-set
