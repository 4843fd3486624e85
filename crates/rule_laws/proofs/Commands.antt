-- The form of a written command by the kind of its first word, and where its parts stand (document 01, "Layout"; document 02,
-- request [3]).
-- Assumes nothing.
--     command_kind                                         the kind of a command's first word
--     SequenceAt, AssertAt, AssignAt, IfAt, WhileAt, ForAt, CallAt
--                                                         a command of that form, and its parts at their places
--     AssignParts, ForParts, parts_of-for                 an assignment, a `for`: payload and parts
--     putting, right_side                                 the right side of an assignment, for the word of its identifier
--     procedure-at, body_at                               the procedure that is called, its body, at their places
--     is-skip, is-sequence .. is_call                     a command has the form that its kind says
--     other-than_skip .. other-than_call, other-kind      or is as all the others
use mathlib.Core.Path.{◌≡◌, refl, sym, ap, subst, ◌∙◌}
use mathlib.Core.List.{List}
use mathlib.Core.Option.{some}
use Prim.Native.Nat.{ℕ, ◌+◌, ◌*◌, ◌≤◌}
use native.Mathlib.Omega.{arith}
use Rattle.language.specs.Syntax.{Sort, Boolean, Arithmetic, Array, Expr, Assignment, to_scalar, to_array}
use Rattle.language.specs.Syntax.{Command, skip, sequence, assert, assign, if_else, while, for, call}
use Rattle.rules.specs.Context.{Procedure, Context, item_at}
use Rattle.rules.specs.Condition.{by_form, on_skip, on_sequence, on_assert, on_scalar, on_array, on_if, on_while, on_for, on_call}
use Rattle.rules.specs.Resolved.{Resolved}
use Rattle.layout.specs.Bytes.{kind_at, payload_at, payloads}
use Rattle.layout.specs.Nodes.{command_node, head_of, parts_of, kind_of}
use Rattle.layout.proofs.Forms.{Form, form-skip, form-sequence, form-assert, form-scalar, form-array, form-if, form-while}
use Rattle.layout.proofs.Forms.{form-for, form-call, form}
use Rattle.ends.specs.Ends.{EndsOf}
use Rattle.ends.specs.Places.{end_at, WrittenAt, CommandAt, NodesAt}
use Rattle.ends.specs.Procedures.{start_at, ProcedureAt, Procedures}
use Rattle.ends.proofs.Places.{NodeHead, node_head, parts_at}
use Rattle.compare.specs.Trees.{RightSide}
use Rattle.matching.specs.declared.cursor.Put.{Put}
use Rattle.goals.specs.Resolved.{ResolvedAt}

abbrev pub command_kind : Context → Command → ℕ
command_kind Γ c = kind_of (head_of (command_node Γ c))

-- an assignment: its payload, and its right side at its place
pub record AssignParts {k : Sort} (file ends : List ℕ) (at x : ℕ) (right : Expr k) : Type 0 where
  pub small : x ≤ 31
  pub payload : payload_at file at ≡ x
  pub right-at : WrittenAt file ends right (at + 1)

-- a `for` over q up to m: its payload, and its body at its place
pub record ForParts (file ends : List ℕ) (Γ : Context) (at q m : ℕ) (body : Command) : Type 0 where
  pub counter-small : q ≤ 31
  pub bound-small : m ≤ 31
  pub payload : payload_at file at ≡ q + 32 * m
  pub body_at : CommandAt file ends Γ body (at + 1)

-- the parts of a command at their places
module _ (file ends : List ℕ) (Γ : Context) (at : ℕ) (c : Command) where
  pub record SequenceAt : Type 0 where
    pub first : Command
    pub second : Command
    pub is : c ≡ sequence first second
    pub first-at : ResolvedAt file ends Γ first (at + 1)
    pub second_at : ResolvedAt file ends Γ second (end_at ends (at + 1))

  pub record AssertAt : Type 0 where
    pub test : Expr Boolean
    pub is : c ≡ assert test
    pub test_at : WrittenAt file ends test (at + 1)

  -- of a scalar or an array by its number
  pub record AssignAt (k : Sort) (to : ℕ → Expr k → Assignment) : Type 0 where
    pub name : ℕ
    pub right : Expr k
    pub is : c ≡ assign (to name right)
    pub parts : AssignParts file ends at name right

  pub record IfAt : Type 0 where
    pub test : Expr Boolean
    pub first : Command
    pub second : Command
    pub is : c ≡ if_else test first second
    pub test_at : WrittenAt file ends test (at + 1)
    pub first-at : ResolvedAt file ends Γ first (end_at ends (at + 1))
    pub second_at : ResolvedAt file ends Γ second (end_at ends (end_at ends (at + 1)))

  pub record WhileAt : Type 0 where
    pub test : Expr Boolean
    pub body : Command
    pub is : c ≡ while test body
    pub test_at : WrittenAt file ends test (at + 1)
    pub body_at : ResolvedAt file ends Γ body (end_at ends (at + 1))

  pub record ForAt : Type 0 where
    pub counter : ℕ
    pub bound : ℕ
    pub body : Command
    pub is : c ≡ for counter bound body
    pub parts : ForParts file ends Γ at counter bound body

  -- the number at its place is that of a procedure
  pub record CallAt : Type 0 where
    pub procedure : Procedure
    pub is : c ≡ call (payload_at file at) procedure.body
    pub listed : item_at Γ.procedures (payload_at file at) ≡ some procedure

module _ {file ends : List ℕ} {Γ : Context} {c : Command} {at : ℕ} (x : ResolvedAt file ends Γ c at) where
  formed : {n : ℕ} → kind_at file at ≡ n → Form n (command_node Γ c)
  formed k = subst (λ n. Form n (command_node Γ c)) (sym (node_head x.there).kind ∙ k) (form (command_node Γ c))

  pub is-skip : kind_at file at ≡ 24 → c ≡ skip
  is-skip k = go (formed k)
    where
      go : {c : Command} → Form 24 (command_node Γ c) → c ≡ skip
      go form-skip = refl

  pub is_call : kind_at file at ≡ 38 → CallAt file ends Γ at c
  is_call k = go (formed k) (node_head x.there) x.resolved
    where
      go : {c : Command} → Form 38 (command_node Γ c) → NodeHead file (command_node Γ c) at → Resolved Γ.procedures c →
          CallAt file ends Γ at c
      go (form-call {n = n}) h (k, e, b, _) = record {
        procedure = k;
        is = ap (call n) b ∙ ap (λ i. call i k.body) (sym h.content);
        listed = ap (item_at Γ.procedures) h.content ∙ e;
      }

-- the procedure that is called, at its places
module _ {file ends : List ℕ} {Γ : Context} {c : Command} {at : ℕ} (known : Procedures file ends Γ)
    (x : CallAt file ends Γ at c) where
  pub procedure-at : ProcedureAt file ends Γ (payload_at file at) x.procedure
  procedure-at = known.known (payload_at file at) x.procedure x.listed

  pub body_at : ResolvedAt file ends Γ x.procedure.body (start_at file ends (payload_at file at))
  body_at = record { there = procedure-at.body; resolved = procedure-at.resolved }

-- by the parts at their places, up to p
module _ (file ends : List ℕ) (Γ : Context) (at p : ℕ) where
  abbrev CommandPartsStand : Command → Type 0
  CommandPartsStand c = NodesAt file ends (parts_of (command_node Γ c)) (at + 1) p

  sequence-at : {c : Command} → Form 25 (command_node Γ c) → CommandPartsStand c → Resolved Γ.procedures c → SequenceAt file ends Γ at c
  sequence-at form-sequence y r = record {
    first = _;
    second = _;
    is = refl;
    first-at = record { there = y.0; resolved = r.0 };
    second_at = record { there = y.1.0; resolved = r.1 };
  }

  assert-at : {c : Command} → Form 26 (command_node Γ c) → CommandPartsStand c → AssertAt file ends Γ at c
  assert-at form-assert y = record { test = _; is = refl; test_at = y.0 }

  scalar-at : {c : Command} → Form 27 (command_node Γ c) → NodeHead file (command_node Γ c) at → CommandPartsStand c →
      AssignAt file ends Γ at c Arithmetic to_scalar
  scalar-at form-scalar h y = record {
    name = _;
    right = _;
    is = refl;
    parts = record { small = omega (arith, h.in-range.0); payload = h.content; right-at = y.0 };
  }

  array_at : {c : Command} → Form 28 (command_node Γ c) → NodeHead file (command_node Γ c) at → CommandPartsStand c →
      AssignAt file ends Γ at c Array to_array
  array_at form-array h y = record {
    name = _;
    right = _;
    is = refl;
    parts = record { small = omega (arith, h.in-range.0); payload = h.content; right-at = y.0 };
  }

  if_at : {c : Command} → Form 29 (command_node Γ c) → CommandPartsStand c → Resolved Γ.procedures c → IfAt file ends Γ at c
  if_at form-if y r = record {
    test = _;
    first = _;
    second = _;
    is = refl;
    test_at = y.0;
    first-at = record { there = y.1.0; resolved = r.0 };
    second_at = record { there = y.1.1.0; resolved = r.1 };
  }

  while-at : {c : Command} → Form 30 (command_node Γ c) → CommandPartsStand c → Resolved Γ.procedures c → WhileAt file ends Γ at c
  while-at form-while y r = record {
    test = _;
    body = _;
    is = refl;
    test_at = y.0;
    body_at = record { there = y.1.0; resolved = r };
  }

module _ {file ends : List ℕ} {Γ : Context} (o : EndsOf file ends) where
  pub parts_of-for : {q m : ℕ} {body : Command} {at : ℕ} → CommandAt file ends Γ (for q m body) at →
      ForParts file ends Γ at q m body
  parts_of-for x =
      let h = node_head x in
      record {
        counter-small = h.in-range.0;
        bound-small = h.in-range.1;
        payload = h.content;
        body_at = (parts_at o x).0;
      }

  for-at : {c : Command} {at : ℕ} → Form 31 (command_node Γ c) → CommandAt file ends Γ c at → ForAt file ends Γ at c
  for-at form-for x = record { counter = _; bound = _; body = _; is = refl; parts = parts_of-for x }

  module _ {c : Command} {at : ℕ} (x : ResolvedAt file ends Γ c at) where
    pub is-sequence : kind_at file at ≡ 25 → SequenceAt file ends Γ at c
    is-sequence k = sequence-at _ _ _ _ _ (formed x k) (parts_at o x.there) x.resolved

    pub is-assert : kind_at file at ≡ 26 → AssertAt file ends Γ at c
    is-assert k = assert-at _ _ _ _ _ (formed x k) (parts_at o x.there)

    pub is-scalar : kind_at file at ≡ 27 → AssignAt file ends Γ at c Arithmetic to_scalar
    is-scalar k = scalar-at _ _ _ _ _ (formed x k) (node_head x.there) (parts_at o x.there)

    pub is-array : kind_at file at ≡ 28 → AssignAt file ends Γ at c Array to_array
    is-array k = array_at _ _ _ _ _ (formed x k) (node_head x.there) (parts_at o x.there)

    pub is-if : kind_at file at ≡ 29 → IfAt file ends Γ at c
    is-if k = if_at _ _ _ _ _ (formed x k) (parts_at o x.there) x.resolved

    pub is-while : kind_at file at ≡ 30 → WhileAt file ends Γ at c
    is-while k = while-at _ _ _ _ _ (formed x k) (parts_at o x.there) x.resolved

    pub is-for : kind_at file at ≡ 31 → ForAt file ends Γ at c
    is-for k = for-at (formed x k) x.there

-- a command of another form
module _ {A : Type 0} (Γ : Context) (other : A) where
  -- by form, where each form that the command can have gives the same
  by_form_lem : (s : A) (q : Command → Command → A) (t : Expr Boolean → A) (x : ℕ → Expr Arithmetic → A)
      (a : ℕ → Expr Array → A) (i : Expr Boolean → Command → Command → A) (w : Expr Boolean → Command → A)
      (f : ℕ → ℕ → Command → A) (l : ℕ → Command → A) (c : Command) → (command_kind Γ c ≡ 24 → s ≡ other) →
      ((c₁ c₂ : Command) → command_kind Γ c ≡ 25 → q c₁ c₂ ≡ other) → ((b : Expr Boolean) → command_kind Γ c ≡ 26 → t b ≡ other) →
      ((y : ℕ) (e : Expr Arithmetic) → command_kind Γ c ≡ 27 → x y e ≡ other) →
      ((y : ℕ) (e : Expr Array) → command_kind Γ c ≡ 28 → a y e ≡ other) →
      ((b : Expr Boolean) (c₁ c₂ : Command) → command_kind Γ c ≡ 29 → i b c₁ c₂ ≡ other) →
      ((b : Expr Boolean) (c₁ : Command) → command_kind Γ c ≡ 30 → w b c₁ ≡ other) →
      ((y m : ℕ) (c₁ : Command) → command_kind Γ c ≡ 31 → f y m c₁ ≡ other) →
      ((y : ℕ) (c₁ : Command) → command_kind Γ c ≡ 38 → l y c₁ ≡ other) → by_form s q t x a i w f l c ≡ other
  unfolding by_form
  by_form_lem s q t x a i w f l skip h₁ h₂ h₃ h₄ h₅ h₆ h₇ h₈ h₉ = h₁ refl
  by_form_lem s q t x a i w f l (sequence c d) h₁ h₂ h₃ h₄ h₅ h₆ h₇ h₈ h₉ = h₂ c d refl
  by_form_lem s q t x a i w f l (assert b) h₁ h₂ h₃ h₄ h₅ h₆ h₇ h₈ h₉ = h₃ b refl
  by_form_lem s q t x a i w f l (assign (to_scalar y e)) h₁ h₂ h₃ h₄ h₅ h₆ h₇ h₈ h₉ = h₄ y e refl
  by_form_lem s q t x a i w f l (assign (to_array y e)) h₁ h₂ h₃ h₄ h₅ h₆ h₇ h₈ h₉ = h₅ y e refl
  by_form_lem s q t x a i w f l (if_else b c d) h₁ h₂ h₃ h₄ h₅ h₆ h₇ h₈ h₉ = h₆ b c d refl
  by_form_lem s q t x a i w f l (while b c) h₁ h₂ h₃ h₄ h₅ h₆ h₇ h₈ h₉ = h₇ b c refl
  by_form_lem s q t x a i w f l (for y m c) h₁ h₂ h₃ h₄ h₅ h₆ h₇ h₈ h₉ = h₈ y m c refl
  by_form_lem s q t x a i w f l (call y c) h₁ h₂ h₃ h₄ h₅ h₆ h₇ h₈ h₉ = h₉ y c refl

  pub other-than_skip : (c : Command) (g : A) → (command_kind Γ c ≡ 24 → ⊥) → on_skip c other g ≡ other
  other-than_skip c g n =
      by_form_lem _ _ _ _ _ _ _ _ _ c
      (λ k. absurd (n k)) (λ _ _ k. refl) (λ _ k. refl) (λ _ _ k. refl)
      (λ _ _ k. refl) (λ _ _ _ k. refl) (λ _ _ k. refl) (λ _ _ _ k. refl) (λ _ _ k. refl)

  pub other-than_sequence : (c : Command) (g : Command → Command → A) → (command_kind Γ c ≡ 25 → ⊥) →
      on_sequence c other g ≡ other
  other-than_sequence c g n =
      by_form_lem _ _ _ _ _ _ _ _ _ c
      (λ k. refl) (λ _ _ k. absurd (n k)) (λ _ k. refl) (λ _ _ k. refl)
      (λ _ _ k. refl) (λ _ _ _ k. refl) (λ _ _ k. refl) (λ _ _ _ k. refl) (λ _ _ k. refl)

  pub other-than_assert : (c : Command) (g : Expr Boolean → A) → (command_kind Γ c ≡ 26 → ⊥) → on_assert c other g ≡ other
  other-than_assert c g n =
      by_form_lem _ _ _ _ _ _ _ _ _ c
      (λ k. refl) (λ _ _ k. refl) (λ _ k. absurd (n k)) (λ _ _ k. refl)
      (λ _ _ k. refl) (λ _ _ _ k. refl) (λ _ _ k. refl) (λ _ _ _ k. refl) (λ _ _ k. refl)

  pub other-than_scalar : (c : Command) (g : ℕ → Expr Arithmetic → A) → (command_kind Γ c ≡ 27 → ⊥) → on_scalar c other g ≡ other
  other-than_scalar c g n =
      by_form_lem _ _ _ _ _ _ _ _ _ c
      (λ k. refl) (λ _ _ k. refl) (λ _ k. refl) (λ _ _ k. absurd (n k))
      (λ _ _ k. refl) (λ _ _ _ k. refl) (λ _ _ k. refl) (λ _ _ _ k. refl) (λ _ _ k. refl)

  pub other-than_array : (c : Command) (g : ℕ → Expr Array → A) → (command_kind Γ c ≡ 28 → ⊥) → on_array c other g ≡ other
  other-than_array c g n =
      by_form_lem _ _ _ _ _ _ _ _ _ c
      (λ k. refl) (λ _ _ k. refl) (λ _ k. refl) (λ _ _ k. refl)
      (λ _ _ k. absurd (n k)) (λ _ _ _ k. refl) (λ _ _ k. refl) (λ _ _ _ k. refl) (λ _ _ k. refl)

  pub other-than_if : (c : Command) (g : Expr Boolean → Command → Command → A) → (command_kind Γ c ≡ 29 → ⊥) →
      on_if c other g ≡ other
  other-than_if c g n =
      by_form_lem _ _ _ _ _ _ _ _ _ c
      (λ k. refl) (λ _ _ k. refl) (λ _ k. refl) (λ _ _ k. refl)
      (λ _ _ k. refl) (λ _ _ _ k. absurd (n k)) (λ _ _ k. refl) (λ _ _ _ k. refl) (λ _ _ k. refl)

  pub other-than_while : (c : Command) (g : Expr Boolean → Command → A) → (command_kind Γ c ≡ 30 → ⊥) →
      on_while c other g ≡ other
  other-than_while c g n =
      by_form_lem _ _ _ _ _ _ _ _ _ c
      (λ k. refl) (λ _ _ k. refl) (λ _ k. refl) (λ _ _ k. refl)
      (λ _ _ k. refl) (λ _ _ _ k. refl) (λ _ _ k. absurd (n k)) (λ _ _ _ k. refl) (λ _ _ k. refl)

  pub other-than_for : (c : Command) (g : ℕ → ℕ → Command → A) → (command_kind Γ c ≡ 31 → ⊥) → on_for c other g ≡ other
  other-than_for c g n =
      by_form_lem _ _ _ _ _ _ _ _ _ c
      (λ k. refl) (λ _ _ k. refl) (λ _ k. refl) (λ _ _ k. refl)
      (λ _ _ k. refl) (λ _ _ _ k. refl) (λ _ _ k. refl) (λ _ _ _ k. absurd (n k)) (λ _ _ k. refl)

  pub other-than_call : (c : Command) (g : ℕ → Command → A) → (command_kind Γ c ≡ 38 → ⊥) → on_call c other g ≡ other
  other-than_call c g n =
      by_form_lem _ _ _ _ _ _ _ _ _ c
      (λ k. refl) (λ _ _ k. refl) (λ _ k. refl) (λ _ _ k. refl)
      (λ _ _ k. refl) (λ _ _ _ k. refl) (λ _ _ k. refl) (λ _ _ _ k. refl) (λ _ _ k. absurd (n k))

-- a command of another kind
pub other-kind : {file ends : List ℕ} {Γ : Context} {c : Command} {at n : ℕ} → ResolvedAt file ends Γ c at →
    (kind_at file at ≡ n → ⊥) → command_kind Γ c ≡ n → ⊥
other-kind x h e = h ((node_head x.there).kind ∙ e)

-- the right side of the assignment at c, for the word n:x (rules 3, 4, 24 and 25)
abbrev pub putting : List ℕ → List ℕ → ℕ → ℕ → Put
putting file ends c n = record { word = n * payloads + payload_at file c; from = c + 1; to = end_at ends (c + 1) }

pub right_side : {file ends : List ℕ} {Γ : Context} {c : ℕ} {e : Command} {k : Sort} {make : ℕ → Expr k → Assignment} (n : ℕ)
    (x : AssignAt file ends Γ c e k make) → RightSide file ends (putting file ends c n) n x.name x.right
right_side n x = record {
  small = x.parts.small;
  word-is = ap (λ i. n * payloads + i) x.parts.payload;
  there = x.parts.right-at;
  end_is = refl;
}
