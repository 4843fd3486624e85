-- The parts of what stands at a place, by its first word.
-- Assumes nothing.
--     InRoom, expression-inside, resolved-inside, command-inside     it has a word, and ends within the room
--     CallOf                                                         a call of a procedure of the context
--     runnable                                                       a part of a command that can be run
--     One, Two, Three                                                so many parts, one after the other
--     ArithmeticParts, BooleanParts, ArrayParts, CommandParts        the parts by the first word
--     arithmetic-parts, boolean-parts, array_parts, command-parts    are what stands there
--     expression-starts, command-starts                              as callers have them: there is a word
--     expression-early, command-early                                at a place below 8192
--     arithmetic-allowed, boolean-allowed, command-allowed           the word there is of its group
use mathlib.Core.Path.{◌≡◌, refl, sym, ap, ap₂, subst, ◌∙◌}
use mathlib.Core.List.{List, [], ◌∷◌}
use mathlib.Core.Option.{some}
use Prim.Native.Nat.{ℕ, ◌+◌, ◌/◌, ◌%◌, ◌<◌, ◌≤◌}
use native.Mathlib.Omega.{arith}
use lib.ListN.{length}
use Rattle.language.specs.Syntax as syntax
use Rattle.language.specs.Syntax.{plus, minus, times, equal, less, at_most}
use Rattle.language.specs.Syntax.{Sort, Expr, constant, scalar, operation, select, compare, truth, and, or, neg}
use Rattle.language.specs.Syntax.{array, zeros, update, to_scalar, to_array}
use Rattle.language.specs.Syntax.{skip, sequence, assert, assign, if_else, while, for, call}
use Rattle.rules.specs.Context.{Procedure, Context, item_at}
use Rattle.rules.specs.Resolved.{Resolved}
use Rattle.layout.specs.Bytes.{payloads, kind_at, payload_at}
use Rattle.layout.specs.EvidenceWords.{Part, expression_part, command_part}
use Rattle.layout.specs.Nodes.{Node, expression_node, command_node, head_of, kind_of, content_of}
use Rattle.layout.specs.Standing.{PartStands, Chain}
use Rattle.layout.proofs.Nodes as nodes
use Rattle.layout.proofs.Nodes.{Opened, with_levels, one-part, node_inside}
use Rattle.ends.specs.Ends.{EndsOf}
use Rattle.words.specs.Decode.{arithmetic_of, boolean_of, array_of, command_of}
use Rattle.words.specs.Meaning.{operator_meant, comparison_meant}
use Rattle.words.specs.declared.ArithmeticWord.{ArithmeticWord}
use Rattle.words.specs.declared.ArithmeticWord.TheVariants as arithmetic
use Rattle.words.specs.declared.ArithmeticWord.TheVariants.{Constant, Scalar, Operation, Select}
use Rattle.words.specs.declared.BooleanWord.{BooleanWord}
use Rattle.words.specs.declared.BooleanWord.TheVariants as boolean
use Rattle.words.specs.declared.BooleanWord.TheVariants.{Compare, Truth, And, Or, Not}
use Rattle.words.specs.declared.ArrayWord.{ArrayWord}
use Rattle.words.specs.declared.ArrayWord.TheVariants as array
use Rattle.words.specs.declared.ArrayWord.TheVariants.{Identifier, Zeros, Update}
use Rattle.words.specs.declared.CommandWord.{CommandWord}
use Rattle.words.specs.declared.CommandWord.TheVariants as command
use Rattle.words.specs.declared.CommandWord.TheVariants.{Skip, Sequence, Assert, AssignScalar, AssignArray, If, While}
use Rattle.words.specs.declared.CommandWord.TheVariants.{For, Call}
use Rattle.heads.specs.Stands.{arithmetic_at, boolean_at, array_at, command_at, OfGroup, FileInRoom, PartAt}
use Rattle.heads.specs.Stands.{resolved_part, Runnable, ExpressionStands, CommandStands}
use Rattle.heads.proofs.Decoded.{operator_head, comparison_head, arithmetic_head, boolean_head, array_head}
use Rattle.heads.proofs.Decoded.{command_head}
use Rattle.heads.proofs.Decoded.{arithmetic-decoded, boolean-decoded, array-decoded, command-decoded}

pub record InRoom (file w ends : List ℕ) (at p : ℕ) : Type 0 where
  pub start : at < p
  pub in_file : p ≤ length file
  pub small : p ≤ 8192
  pub within : p ≤ length w
  pub listed : p ≤ length ends

abbrev pub arithmetic_part : Expr syntax.Arithmetic → Part
arithmetic_part e = expression_part e

abbrev pub boolean_part : Expr syntax.Boolean → Part
boolean_part e = expression_part e

abbrev pub array_part : Expr syntax.Array → Part
array_part e = expression_part e

-- a call of procedure n
pub record CallOf (Γ : Context) (n : ℕ) (c : syntax.Command) : Type 0 where
  pub procedure : Procedure
  pub listed : item_at Γ.procedures n ≡ some procedure
  pub is : c ≡ call n procedure.body

module _ (w ends : List ℕ) where
  module _ {A X : Type 0} (f : X → Part) (make : X → A) where
    pub record One (e : A) (at p : ℕ) : Type 0 where
      pub first : X
      pub is : e ≡ make first
      pub first-at : PartAt w ends (f first) at p

  module _ {A X Y : Type 0} (f : X → Part) (g : Y → Part) (make : X → Y → A) where
    pub record Two (e : A) (at p : ℕ) : Type 0 where
      pub first : X
      pub second : Y
      pub middle : ℕ
      pub is : e ≡ make first second
      pub first-at : PartAt w ends (f first) at middle
      pub second_at : PartAt w ends (g second) middle p

  module _ {A X Y Z : Type 0} (f : X → Part) (g : Y → Part) (h : Z → Part) (make : X → Y → Z → A) where
    pub record Three (e : A) (at p : ℕ) : Type 0 where
      pub first : X
      pub second : Y
      pub third : Z
      pub middle : ℕ
      pub last : ℕ
      pub is : e ≡ make first second third
      pub first-at : PartAt w ends (f first) at middle
      pub second_at : PartAt w ends (g second) middle last
      pub third_at : PartAt w ends (h third) last p

  abbrev pub ArithmeticParts : ArithmeticWord → Expr syntax.Arithmetic → ℕ → ℕ → Type 0
  ArithmeticParts (Constant z) e at p = e ≡ constant z
  ArithmeticParts (Scalar x) e at p = (e ≡ scalar x) × (x ≤ 31)
  ArithmeticParts (Operation o) e at p = Two arithmetic_part arithmetic_part (operation (operator_meant o)) e (at + 1) p
  ArithmeticParts Select e at p = Two array_part arithmetic_part select e (at + 1) p
  ArithmeticParts arithmetic.Other e at p = ⊥

  abbrev pub BooleanParts : BooleanWord → Expr syntax.Boolean → ℕ → ℕ → Type 0
  BooleanParts (Compare r) e at p = Two arithmetic_part arithmetic_part (compare (comparison_meant r)) e (at + 1) p
  BooleanParts (Truth t) e at p = e ≡ truth t
  BooleanParts And e at p = Two boolean_part boolean_part and e (at + 1) p
  BooleanParts Or e at p = Two boolean_part boolean_part or e (at + 1) p
  BooleanParts Not e at p = One boolean_part neg e (at + 1) p
  BooleanParts boolean.Other e at p = ⊥

  abbrev pub ArrayParts : ArrayWord → Expr syntax.Array → ℕ → ℕ → Type 0
  ArrayParts (Identifier a) e at p = (e ≡ array a) × (a ≤ 31)
  ArrayParts Zeros e at p = e ≡ zeros
  ArrayParts Update e at p = Three array_part arithmetic_part arithmetic_part update e (at + 1) p
  ArrayParts array.Other e at p = ⊥

  abbrev pub CommandParts : Context → CommandWord → syntax.Command → ℕ → ℕ → Type 0
  CommandParts Γ Skip c at p = c ≡ skip
  CommandParts Γ Sequence c at p = Two (resolved_part Γ) (resolved_part Γ) sequence c (at + 1) p
  CommandParts Γ Assert c at p = One boolean_part assert c (at + 1) p
  CommandParts Γ (AssignScalar x) c at p = One arithmetic_part (λ e. assign (to_scalar x e)) c (at + 1) p × (x ≤ 31)
  CommandParts Γ (AssignArray a) c at p = One array_part (λ e. assign (to_array a e)) c (at + 1) p × (a ≤ 31)
  CommandParts Γ If c at p = Three boolean_part (resolved_part Γ) (resolved_part Γ) if_else c (at + 1) p
  CommandParts Γ While c at p = Two boolean_part (resolved_part Γ) while c (at + 1) p
  CommandParts Γ (For q m) c at p = One (resolved_part Γ) (for q m) c (at + 1) p × ((q ≤ 31) × (m ≤ 31))
  CommandParts Γ (Call n) c at p = CallOf Γ n c
  CommandParts Γ command.Other c at p = ⊥

-- with what is said of its calls left out
pub unresolved : {file : List ℕ} (Γ : Context) (c : syntax.Command) (d : ℕ) {at p : ℕ} →
    PartStands file (resolved_part Γ c) d at p → PartStands file (command_part Γ c) d at p
unresolved Γ c d s = record { stand = s.stand; fit = s.fit.0 }

operator-meant : (o : syntax.Operator) → operator_meant (operator_head o) ≡ o
operator-meant plus = refl
operator-meant minus = refl
operator-meant times = refl

comparison-meant : (r : syntax.Comparison) → comparison_meant (comparison_head r) ≡ r
comparison-meant equal = refl
comparison-meant less = refl
comparison-meant at_most = refl

module _ {w ends : List ℕ} where
  inside : {x : Part} {at p : ℕ} (s : PartAt w ends x at p) → nodes.Inside s.file at p → InRoom s.file w ends at p
  inside s i = record {
    start = i.start;
    in_file = i.within;
    small = omega (arith, i.within, s.loaded.size);
    within = omega (arith, i.within, s.loaded.short);
    listed = omega (arith, i.within, s.ends_of.long);
  }

  pub expression-inside : {k : Sort} (e : Expr k) {at p : ℕ} (s : PartAt w ends (expression_part e) at p) →
      InRoom s.file w ends at p
  expression-inside e s = inside s (node_inside (expression_node e) s.stands)

  pub resolved-inside : (Γ : Context) (c : syntax.Command) {at p : ℕ} (s : PartAt w ends (resolved_part Γ c) at p) →
      InRoom s.file w ends at p
  resolved-inside Γ c s = inside s (node_inside (command_node Γ c) s.stands)

  pub command-inside : (c : syntax.Command) {at p : ℕ} (x : Runnable w ends c at p) → InRoom x.there.file w ends at p
  command-inside c x = resolved-inside x.context c x.there

  -- a part of a command that can be run
  abbrev pub runnable : {c : syntax.Command} {at p : ℕ} (x : Runnable w ends c at p) (d : syntax.Command) {a q : ℕ} →
      PartAt w ends (resolved_part x.context d) a q → Runnable w ends d a q
  runnable x d s = record { context = x.context; body_at = x.body_at; bodies = x.bodies; there = s }

-- the parts of what stands in a file
module _ {file w ends : List ℕ} (l : FileInRoom file w) (n : EndsOf file ends) where
  -- so many parts, with d levels left
  one : {A X : Type 0} {f : X → Part} {make : X → A} {e : A} (d : ℕ) (a : X) {at p : ℕ} → e ≡ make a →
      Chain file (f a ∷ []) d at p → One w ends f make e at p
  one d a h c = record {
    first = a;
    is = h;
    first-at = record { file = file; loaded = l; ends_of = n; levels = d; stands = one-part c };
  }

  two : {A X Y : Type 0} {f : X → Part} {g : Y → Part} {make : X → Y → A} {e : A} (d : ℕ) (a : X) (b : Y) {at p : ℕ} →
      e ≡ make a b → Chain file (f a ∷ g b ∷ []) d at p → Two w ends f g make e at p
  two d a b h c = record {
    first = a;
    second = b;
    middle = c.0;
    is = h;
    first-at = record { file = file; loaded = l; ends_of = n; levels = d; stands = c.1 };
    second_at = record { file = file; loaded = l; ends_of = n; levels = d; stands = one-part c.2 };
  }

  three : {A X Y Z : Type 0} {f : X → Part} {g : Y → Part} {h : Z → Part} {make : X → Y → Z → A} {e : A} (d : ℕ) (a : X)
      (b : Y) (i : Z) {at p : ℕ} → e ≡ make a b i → Chain file (f a ∷ g b ∷ h i ∷ []) d at p → Three w ends f g h make e at p
  three d a b i k c = record {
    first = a;
    second = b;
    third = i;
    middle = c.0;
    last = c.2.0;
    is = k;
    first-at = record { file = file; loaded = l; ends_of = n; levels = d; stands = c.1 };
    second_at = record { file = file; loaded = l; ends_of = n; levels = d; stands = c.2.1 };
    third_at = record { file = file; loaded = l; ends_of = n; levels = d; stands = one-part c.2.2 };
  }

  arithmetic-own : (d : ℕ) (e : Expr syntax.Arithmetic) {at p : ℕ} → Opened file (expression_node e) d at p →
      ArithmeticParts w ends (arithmetic_head e) e at p
  arithmetic-own d (constant z) o = refl
  arithmetic-own d (scalar x) o = (refl, omega (arith, o.in-range.0))
  arithmetic-own d (operation i a b) o = two d a b (ap (λ j. operation j a b) (sym (operator-meant i))) o.parts_at
  arithmetic-own d (select h i) o = two d h i refl o.parts_at

  boolean-own : (d : ℕ) (e : Expr syntax.Boolean) {at p : ℕ} → Opened file (expression_node e) d at p →
      BooleanParts w ends (boolean_head e) e at p
  boolean-own d (compare r a b) o = two d a b (ap (λ j. compare j a b) (sym (comparison-meant r))) o.parts_at
  boolean-own d (truth t) o = refl
  boolean-own d (and b c) o = two d b c refl o.parts_at
  boolean-own d (or b c) o = two d b c refl o.parts_at
  boolean-own d (neg b) o = one d b refl o.parts_at

  array-own : (d : ℕ) (e : Expr syntax.Array) {at p : ℕ} → Opened file (expression_node e) d at p →
      ArrayParts w ends (array_head e) e at p
  array-own d (array a) o = (refl, omega (arith, o.in-range.0))
  array-own d zeros o = refl
  array-own d (update h i a) o = three d h i a refl o.parts_at

  with_resolved : (Γ : Context) (c : syntax.Command) (d : ℕ) {at p : ℕ} → PartStands file (command_part Γ c) d at p →
      Resolved Γ.procedures c → PartStands file (resolved_part Γ c) d at p
  with_resolved Γ c d s r = record { stand = s.stand; fit = (s.fit, r) }

  command-own : (Γ : Context) (d : ℕ) (c : syntax.Command) {at p : ℕ} → Opened file (command_node Γ c) d at p →
      Resolved Γ.procedures c → CommandParts w ends Γ (command_head c) c at p
  command-own Γ d skip o r = refl
  command-own Γ d (sequence a b) {at} {p} o r =
      let k = o.parts_at in
      let parts : Chain file (resolved_part Γ a ∷ resolved_part Γ b ∷ []) d (at + 1) p =
      (k.0, with_resolved Γ a d k.1 r.0, (k.2.0, with_resolved Γ b d k.2.1 r.1, k.2.2)) in
      two d a b refl parts
  command-own Γ d (assert b) o r = one d b refl o.parts_at
  command-own Γ d (assign (to_scalar x e)) o r = (one d e refl o.parts_at, omega (arith, o.in-range.0))
  command-own Γ d (assign (to_array a e)) o r = (one d e refl o.parts_at, omega (arith, o.in-range.0))
  command-own Γ d (if_else b c₁ c₂) {at} {p} o r =
      let k = o.parts_at in
      let parts : Chain file (boolean_part b ∷ resolved_part Γ c₁ ∷ resolved_part Γ c₂ ∷ []) d (at + 1) p = (
        k.0,
        k.1,
        (
          k.2.0,
          with_resolved Γ c₁ d k.2.1 r.0,
          (k.2.2.0, with_resolved Γ c₂ d k.2.2.1 r.1, k.2.2.2),
        ),
      ) in
      three d b c₁ c₂ refl parts
  command-own Γ d (while b c) {at} {p} o r =
      let k = o.parts_at in
      let parts : Chain file (boolean_part b ∷ resolved_part Γ c ∷ []) d (at + 1) p =
      (k.0, k.1, (k.2.0, with_resolved Γ c d k.2.1 r, k.2.2)) in
      two d b c refl parts
  command-own Γ d (for q m c) {at} {p} o r =
      let k = o.parts_at in
      let parts : Chain file (resolved_part Γ c ∷ []) d (at + 1) p = (k.0, with_resolved Γ c d k.1 r, k.2) in
      (one d c refl parts, o.in-range)
  command-own Γ d (call n c) o (k, e, b, r) = record { procedure = k; listed = e; is = ap (call n) b }

-- by the word that stands in the room, which is the file's: v is the node's own
module _ {w ends : List ℕ} where
  by_word : {W : Type 0} (of : ℕ → ℕ → W) {x : Node} {y : Part} {d at p : ℕ} {v h : W} (P : W → Type 0) (s : PartAt w ends y at p) →
      InRoom s.file w ends at p → Opened s.file x d at p → of (kind_of (head_of x)) (content_of (head_of x)) ≡ v →
      of (kind_at w at) (payload_at w at) ≡ h → P v → P h
  by_word of {at = at} P s i o e eq y =
      let first = ap (λ z. of (z / payloads) (z % payloads)) (s.loaded.same at (omega arith)) in
      subst P (sym e ∙ sym (ap₂ of o.kind o.content) ∙ sym first ∙ eq) y

  pub arithmetic-parts : (e : Expr syntax.Arithmetic) {at p : ℕ} {h : ArithmeticWord} →
      PartAt w ends (expression_part e) at p → arithmetic_at w at ≡ h → ArithmeticParts w ends h e at p
  arithmetic-parts e {at} {p} s eq =
      with_levels (expression_node e) s.levels s.stands λ n l o.
      by_word arithmetic_of (λ h. ArithmeticParts w ends h e at p) s (expression-inside e s) o (arithmetic-decoded e o.in-range) eq
      (arithmetic-own s.loaded s.ends_of n e o)

  pub boolean-parts : (e : Expr syntax.Boolean) {at p : ℕ} {h : BooleanWord} →
      PartAt w ends (expression_part e) at p → boolean_at w at ≡ h → BooleanParts w ends h e at p
  boolean-parts e {at} {p} s eq =
      with_levels (expression_node e) s.levels s.stands λ n l o.
      by_word boolean_of (λ h. BooleanParts w ends h e at p) s (expression-inside e s) o (boolean-decoded e) eq
      (boolean-own s.loaded s.ends_of n e o)

  pub array_parts : (e : Expr syntax.Array) {at p : ℕ} {h : ArrayWord} →
      PartAt w ends (expression_part e) at p → array_at w at ≡ h → ArrayParts w ends h e at p
  array_parts e {at} {p} s eq =
      with_levels (expression_node e) s.levels s.stands λ n l o.
      by_word array_of (λ h. ArrayParts w ends h e at p) s (expression-inside e s) o (array-decoded e o.in-range) eq
      (array-own s.loaded s.ends_of n e o)

  pub command-parts : (c : syntax.Command) {at p : ℕ} {h : CommandWord} (x : Runnable w ends c at p) → command_at w at ≡ h →
      CommandParts w ends x.context h c at p
  command-parts c {at} {p} x eq =
      with_levels (command_node x.context c) x.there.levels (unresolved x.context c x.there.levels x.there.stands) λ n l o.
      by_word command_of (λ h. CommandParts w ends x.context h c at p) x.there (command-inside c x) o
      (command-decoded x.context c o.in-range) eq
      (command-own x.there.loaded x.there.ends_of x.context n c o x.there.stands.fit.1)

  module _ {at : ℕ} where
    pub expression-starts : {k : Sort} → ExpressionStands w ends k at → at < length w
    expression-starts x = let i = expression-inside x.tree x.there in omega arith

    pub expression-early : {k : Sort} → ExpressionStands w ends k at → at < 8192
    expression-early x = let i = expression-inside x.tree x.there in omega arith

    pub command-starts : CommandStands w ends at → at < length w
    command-starts x = let i = command-inside x.tree x.there in omega arith

    pub command-early : CommandStands w ends at → at < 8192
    command-early x = let i = command-inside x.tree x.there in omega arith

    pub arithmetic-allowed : ExpressionStands w ends syntax.Arithmetic at → OfGroup arithmetic_of arithmetic.Other w at
    arithmetic-allowed x =
        record { inside = expression-starts x; of-group = λ e. arithmetic-parts x.tree x.there e }

    pub boolean-allowed : ExpressionStands w ends syntax.Boolean at → OfGroup boolean_of boolean.Other w at
    boolean-allowed x = record { inside = expression-starts x; of-group = λ e. boolean-parts x.tree x.there e }

    pub command-allowed : CommandStands w ends at → OfGroup command_of command.Other w at
    command-allowed x = record { inside = command-starts x; of-group = λ e. command-parts x.tree x.there e }
