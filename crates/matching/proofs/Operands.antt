-- The operands of an expression that stands in a file, by the kind of its first word.
-- Assumes nothing.
--     written-any, any-inside                  an expression of any sort; it has a word, and ends within the file
--     arithmetic-none, arithmetic-two          no operand, two of them
--     boolean-none, boolean-one, boolean-two
--     array-none, array-three
--     is-arithmetic, is-boolean, is-array      which sort a kind belongs to
--     operands                                 as many as the first word says
use mathlib.Core.Path.{◌≡◌, sym, ap₂, subst, ◌∙◌}
use mathlib.Core.List.{List}
use mathlib.Core.Logic.{◌⊎◌, inl, inr}
use Prim.Native.Nat.{ℕ, ◌+◌, ◌<◌, ◌≤◌}
use native.Mathlib.Omega.{arith}
use lib.ListN.{length}
use Rattle.language.specs.Syntax.{Sort, Arithmetic, Boolean, Array, Expr, constant, scalar, operation, select, compare, truth}
use Rattle.language.specs.Syntax.{and, or, neg, array, zeros, update}
use Rattle.layout.specs.Bytes.{kind_at, payload_at}
use Rattle.layout.specs.Nodes.{expression_node, head_of, parts_of, kind_of, count_of}
use Rattle.layout.proofs.Nodes.{Inside, node_law}
use Rattle.layout.proofs.Forms.{SortKind, sort-kind}
use Rattle.ends.specs.Ends.{EndsOf}
use Rattle.ends.specs.Places.{end_at, WrittenAt, NodesAt}
use Rattle.ends.proofs.Places.{parts_at, node_head, node_inside}
use Rattle.matching.specs.Places.{ExpressionAt, AnyAt, Chained}

module _ {file ends : List ℕ} where
  pub written-any : {k : Sort} {e : Expr k} {at : ℕ} → WrittenAt file ends e at → AnyAt file ends at
  written-any {k} {e} x = record { sort = k; expression = record { tree = e; there = x } }

  pub any-inside : {at : ℕ} → AnyAt file ends at → Inside file at (end_at ends at)
  any-inside x = node_inside x.expression.there

  one : {k : Sort} {a : Expr k} {at p : ℕ} → WrittenAt file ends a at × (end_at ends at ≡ p) → Chained file ends 1 at p
  one y = (written-any y.0, y.1)

  two : {j k : Sort} {a : Expr j} {b : Expr k} {at p : ℕ} →
      WrittenAt file ends a at × (WrittenAt file ends b (end_at ends at) × (end_at ends (end_at ends at) ≡ p)) →
      Chained file ends 2 at p
  two y = (written-any y.0, one y.1)

abbrev kind : {k : Sort} → Expr k → ℕ
kind e = kind_of (head_of (expression_node e))

abbrev Connective : ℕ → Type 0
Connective k = (k < 12) × (k ≡ 9 → ⊥)

module _ (file ends : List ℕ) (at p : ℕ) where
  abbrev OperandsStand : {k : Sort} → Expr k → Type 0
  OperandsStand e = NodesAt file ends (parts_of (expression_node e)) at p

  -- so many operands
  abbrev Case : Type 0 → ℕ → Type 0
  Case K n = K × Chained file ends n at p

  arithmetic-cases : (e : Expr Arithmetic) → OperandsStand e → Case (kind e < 3) 0 ⊎ Case (3 ≤ kind e) 2
  arithmetic-cases (constant z) y = inl (omega arith, y)
  arithmetic-cases (scalar x) y = inl (omega arith, y)
  arithmetic-cases (operation o a b) y = inr (omega arith, two y)
  arithmetic-cases (select h i) y = inr (omega arith, two y)

  boolean-cases : (e : Expr Boolean) → OperandsStand e → Case (kind e ≡ 9) 0 ⊎ (Case (kind e ≡ 12) 1 ⊎ Case (Connective (kind e)) 2)
  boolean-cases (compare r a b) y = inr (inr ((omega arith, λ h. omega arith), two y))
  boolean-cases (truth t) y = inl (omega arith, y)
  boolean-cases (and b c) y = inr (inr ((omega arith, λ h. omega arith), two y))
  boolean-cases (or b c) y = inr (inr ((omega arith, λ h. omega arith), two y))
  boolean-cases (neg b) y = inr (inl (omega arith, one y))

  array-cases : (e : Expr Array) → OperandsStand e → Case (kind e < 18) 0 ⊎ Case (18 ≤ kind e) 3
  array-cases (array a) y = inl (omega arith, y)
  array-cases zeros y = inl (omega arith, y)
  array-cases (update h i a) y = inr (omega arith, (written-any y.0, two y.1))

-- so many operands after the first word, up to the end in the list
abbrev Operands : List ℕ → List ℕ → ℕ → ℕ → Type 0
Operands file ends at n = Chained file ends n (at + 1) (end_at ends at)

module _ {file ends : List ℕ} (o : EndsOf file ends) {at : ℕ} where
  kind-is : {k : Sort} (x : ExpressionAt file ends k at) → kind_at file at ≡ kind_of (head_of (expression_node x.tree))
  kind-is x = (node_head x.there).kind

  pub arithmetic-none : ExpressionAt file ends Arithmetic at → kind_at file at < 3 → Operands file ends at 0
  arithmetic-none x h =
      let k = kind-is x in
      elim (arithmetic-cases _ _ _ _ x.tree (parts_at o x.there)) [
        | inl y ↦ y.1
        | inr y ↦ let z = y.0 in absurd (omega arith)
      ]

  pub arithmetic-two : ExpressionAt file ends Arithmetic at → 3 ≤ kind_at file at → Operands file ends at 2
  arithmetic-two x h =
      let k = kind-is x in
      elim (arithmetic-cases _ _ _ _ x.tree (parts_at o x.there)) [
        | inl y ↦ let z = y.0 in absurd (omega arith)
        | inr y ↦ y.1
      ]

  pub boolean-none : ExpressionAt file ends Boolean at → kind_at file at ≡ 9 → Operands file ends at 0
  boolean-none x h =
      let k = kind-is x in
      elim (boolean-cases _ _ _ _ x.tree (parts_at o x.there)) [
        | inl y ↦ y.1
        | inr v ↦ elim v [ inl y ↦ let z = y.0 in absurd (omega arith) | inr y ↦ absurd (y.0.1 (sym k ∙ h)) ]
      ]

  pub boolean-one : ExpressionAt file ends Boolean at → kind_at file at ≡ 12 → Operands file ends at 1
  boolean-one x h =
      let k = kind-is x in
      elim (boolean-cases _ _ _ _ x.tree (parts_at o x.there)) [
        | inl y ↦ let z = y.0 in absurd (omega arith)
        | inr v ↦ elim v [ inl y ↦ y.1 | inr y ↦ let z = y.0 in absurd (omega arith) ]
      ]

  pub boolean-two : ExpressionAt file ends Boolean at → (kind_at file at ≡ 9 → ⊥) → (kind_at file at ≡ 12 → ⊥) → Operands file ends at 2
  boolean-two x f g =
      let k = kind-is x in
      elim (boolean-cases _ _ _ _ x.tree (parts_at o x.there)) [
        | inl y ↦ absurd (f (k ∙ y.0))
        | inr v ↦ elim v [ inl y ↦ absurd (g (k ∙ y.0)) | inr y ↦ y.1 ]
      ]

  pub array-none : ExpressionAt file ends Array at → kind_at file at < 18 → Operands file ends at 0
  array-none x h =
      let k = kind-is x in
      elim (array-cases _ _ _ _ x.tree (parts_at o x.there)) [
        | inl y ↦ y.1
        | inr y ↦ let z = y.0 in absurd (omega arith)
      ]

  pub array-three : ExpressionAt file ends Array at → 18 ≤ kind_at file at → Operands file ends at 3
  array-three x h =
      let k = kind-is x in
      elim (array-cases _ _ _ _ x.tree (parts_at o x.there)) [
        | inl y ↦ let z = y.0 in absurd (omega arith)
        | inr y ↦ y.1
      ]

  -- which sort a kind belongs to
  of-sort : {k : Sort} → ExpressionAt file ends k at → SortKind k (kind_at file at)
  of-sort {k} x = subst (SortKind k) (sym (kind-is x)) (sort-kind x.tree)

  pub is-arithmetic : (k : Sort) → ExpressionAt file ends k at → kind_at file at < 8 → ExpressionAt file ends Arithmetic at
  is-arithmetic Arithmetic x h = x
  is-arithmetic Boolean x h = let z = of-sort x in absurd (omega arith)
  is-arithmetic Array x h = let z = of-sort x in absurd (omega arith)

  pub is-boolean : (k : Sort) → ExpressionAt file ends k at → 8 ≤ kind_at file at → kind_at file at < 16 →
      ExpressionAt file ends Boolean at
  is-boolean Arithmetic x f g = let z = of-sort x in absurd (omega arith)
  is-boolean Boolean x f g = x
  is-boolean Array x f g = let z = of-sort x in absurd (omega arith)

  pub is-array : (k : Sort) → ExpressionAt file ends k at → 16 ≤ kind_at file at → ExpressionAt file ends Array at
  is-array Arithmetic x f = let z = of-sort x in absurd (omega arith)
  is-array Boolean x f = let z = of-sort x in absurd (omega arith)
  is-array Array x f = x

module _ (file ends : List ℕ) where
  chained : {k : Sort} (e : Expr k) (at p : ℕ) → NodesAt file ends (parts_of (expression_node e)) at p →
      Chained file ends (length (parts_of (expression_node e))) at p
  chained (constant z) at p y = y
  chained (scalar x) at p y = y
  chained (operation o a b) at p y = two y
  chained (select h i) at p y = two y
  chained (compare r a b) at p y = two y
  chained (truth t) at p y = y
  chained (and b c) at p y = two y
  chained (or b c) at p y = two y
  chained (neg b) at p y = one y
  chained (array a) at p y = y
  chained zeros at p y = y
  chained (update h i a) at p y = (written-any y.0, two y.1)

  -- as many as the first word says
  pub operands : (at n : ℕ) → EndsOf file ends → AnyAt file ends at → n ≡ count_of (kind_at file at) (payload_at file at) →
      Chained file ends n (at + 1) (end_at ends at)
  operands at n o x e =
      let h = node_head x.expression.there in
      let c = e ∙ ap₂ count_of h.kind h.content ∙ (node_law (expression_node x.expression.tree)).count in
      subst (λ n. Chained file ends n (at + 1) (end_at ends at)) (sym c)
      (chained x.expression.tree (at + 1) (end_at ends at) (parts_at o x.expression.there))
