-- What the scans find where an expression, a command or a set stands.
-- Assumes nothing.
--     any_of, any-stands                        a test passes at one of some words; a scan of where they stand
--     CallsKnown, marked-command               masks of called procedures; the mask of a command's words
--     unmarked_expression, unmarked_set        the mask of the words of an expression, of a set
--     modified_tree, unmarked_tree, closed_tree
--                                              the contracts of the scans
use mathlib.Core.Path.{◌≡◌, refl, sym, ap, ap₂, subst, ◌∙◌}
use mathlib.Core.Bool.{Bool, true, false, not, ◌&&◌, ◌||◌, or_assoc, or-false}
use mathlib.Core.List.{List, [], ◌∷◌, ◌++◌, append_assoc}
use mathlib.Core.Option.{some}
use Prim.Native.Nat.{ℕ, zero, suc, ◌+◌, ◌*◌, ◌-◌, ◌%◌, ◌^◌, ◌<◌, ◌≤◌}
use native.Mathlib.Omega.{arith}
use borrow.Author.Tests.{lt-ltb}
use lib.ListN.{length}
use Rattle.language.specs.Syntax.{Sort, Expr, constant, scalar, operation, select, compare, truth, and, or, neg}
use Rattle.language.specs.Syntax.{array, zeros, update, to_scalar, to_array}
use Rattle.language.specs.Syntax.{Command, skip, sequence, assert, assign, if_else, while, for, call}
use Rattle.language.specs.Modifies.{Identifier, scalar_of, array_of, same_identifier, modifies, identifiers}
use Rattle.rules.specs.Words.{Word, words, command_words}
use Rattle.rules.specs.Assertion.{Members}
use Rattle.rules.specs.Context.{Procedure, Context, item_at}
use Rattle.rules.specs.Resolved.{Resolved}
use Rattle.rules.specs.Sets.{set_identifiers}
use Rattle.rules.specs.Tests.{unmodified, is_empty}
use Rattle.layout.specs.Spelling.{FitsExpression, FitsCommand}
use Rattle.layout.specs.Spelling.{member_words, members_words, set_words, FitsMembers, FitsSet}
use Rattle.layout.specs.Nodes.{expression_node, command_node, set_node, kind_of, content_of, AllInRange}
use Rattle.layout.specs.EvidenceWords.{expression_part, command_part, set_part}
use Rattle.layout.specs.Standing.{StandsTo, PartStands}
use Rattle.layout.proofs.Stands.{stands-end}
use Rattle.layout.proofs.Nodes.{kind-at, content-at, node_range}
use Rattle.ends.specs.Mask.{bit, Low, slot, ModifiedBy}
use Rattle.ends.specs.Blocks.{procedure_mask, called_mask, written, if_any, any_in, assigns, Marks}
use Rattle.ends.specs.Procedures.{mask_at, Procedures}
use Rattle.scan.specs.Scan.{mentioned, marked, Modified, Unmarked, Closed}
use Rattle.scan.specs.Programs.{Masks}
use Rattle.ends.proofs.Bits.{bit-ones}
use Rattle.ends.proofs.Marks.{bit-slot}
use Rattle.scan.proofs.Ranges.{any_none, any_next}

module _ (t : ℕ → ℕ → Bool) where
  abbrev pub any_of : List Word → Bool
  any_of [] = false
  any_of (w ∷ l) = t (kind_of w) (content_of w) || any_of l

  pub any_append : (l m : List Word) → any_of (l ++ m) ≡ (any_of l || any_of m)
  any_append [] m = refl
  any_append (w ∷ l) m =
      ap (λ b. t (kind_of w) (content_of w) || b) (any_append l m)
      ∙ sym (or_assoc (t (kind_of w) (content_of w)) (any_of l) (any_of m))

  -- words one after the other, of which each part is known
  pub appended : (l m : List Word) {a b : Bool} → any_of l ≡ a → any_of m ≡ b → any_of (l ++ m) ≡ (a || b)
  appended l m h k = any_append l m ∙ ap₂ (λ a b. a || b) h k

  pub any-stands : (file : List ℕ) (at : ℕ) (l : List Word) (p : ℕ) → StandsTo file at l p → AllInRange l →
      any_in t file (p - at) at ≡ any_of l
  any-stands file at [] p h k = any_none t file at p (omega arith)
  any-stands file at (w ∷ l) p h k =
      let e = stands-end file at (w ∷ l) p h in
      any_next t file at p (omega arith)
      ∙ ap₂ (λ a b. a || b) (ap₂ t (kind-at file at w h.1 k.0) (content-at file at w h.1 k.0))
      (any-stands file (at + 1) l p h.2 k.1)

-- a number below 32 is its own remainder
low-number : (x : ℕ) → x ≤ 31 → x % 32 ≡ x
low-number x h = omega arith

for-number : (q m : ℕ) → q ≤ 31 → (q + 32 * m) % 32 ≡ q
for-number q m h = omega arith

-- a mask for each procedure that may be called
pub record CallsKnown (called : ℕ → ℕ) (l : List Procedure) : Type 0 where
  pub known : (n : ℕ) (k : Procedure) → item_at l n ≡ some k → ModifiedBy k.body (called n)

module _ (called : ℕ → ℕ) (x : Identifier) where
  abbrev test : ℕ → ℕ → Bool
  test k p = assigns called x k p

  -- no word of an expression assigns
  expression-quiet : {j : Sort} (e : Expr j) → any_of test (words e) ≡ false
  unfolding words written
  expression-quiet (constant z) = refl
  expression-quiet (scalar y) = refl
  expression-quiet (operation o a b) = appended test (words a) (words b) (expression-quiet a) (expression-quiet b)
  expression-quiet (select a i) = appended test (words a) (words i) (expression-quiet a) (expression-quiet i)
  expression-quiet (compare r a b) = appended test (words a) (words b) (expression-quiet a) (expression-quiet b)
  expression-quiet (truth v) = refl
  expression-quiet (and a b) = appended test (words a) (words b) (expression-quiet a) (expression-quiet b)
  expression-quiet (or a b) = appended test (words a) (words b) (expression-quiet a) (expression-quiet b)
  expression-quiet (neg b) = expression-quiet b
  expression-quiet (array a) = refl
  expression-quiet zeros = refl
  expression-quiet (update a i b) =
      appended test (words a) (words i ++ words b) (expression-quiet a)
      (appended test (words i) (words b) (expression-quiet i) (expression-quiet b))

  module _ (low : Low x) where
    -- a word that assigns y, before words of which something is known
    assigned : (y : Identifier) (n : ℕ) {b c : Bool} → Low y → n ≡ slot y → b ≡ c →
        (bit (2 ^ n) (slot x) || b) ≡ (same_identifier y x || c)
    assigned y n l e h = ap₂ (λ a b. a || b) (ap (λ i. bit (2 ^ i) (slot x)) e ∙ bit-slot y x l low) h

    -- before words that assign nothing
    assigned-alone : (y : Identifier) (n : ℕ) {b : Bool} → Low y → n ≡ slot y → b ≡ false →
        (bit (2 ^ n) (slot x) || b) ≡ same_identifier y x
    assigned-alone y n l e h = assigned y n l e h ∙ or-false (same_identifier y x)

    module _ (Γ : Context) (masks : CallsKnown called Γ.procedures) where
      command-assigns : (d : ℕ) (c : Command) → FitsCommand Γ c d → Resolved Γ.procedures c →
          any_of test (command_words c) ≡ modifies c x
      unfolding command_words FitsCommand written
      command-assigns zero c h r = absurd h
      command-assigns (suc d) skip h r = refl
      command-assigns (suc d) (sequence c₁ c₂) h r =
          appended test (command_words c₁) (command_words c₂) (command-assigns d c₁ h.0 r.0)
          (command-assigns d c₂ h.1 r.1)
      command-assigns (suc d) (assert b) h r = expression-quiet b
      command-assigns (suc d) (assign (to_scalar y e)) h r =
          assigned-alone (scalar_of y) (y % 32) h.0 (low-number y h.0) (expression-quiet e)
      command-assigns (suc d) (assign (to_array y e)) h r =
          assigned-alone (array_of y) (32 + y % 32) h.0 (ap (λ i. 32 + i) (low-number y h.0)) (expression-quiet e)
      command-assigns (suc d) (if_else b c₁ c₂) h r =
          appended test (words b) (command_words c₁ ++ command_words c₂) (expression-quiet b)
          (appended test (command_words c₁) (command_words c₂) (command-assigns d c₁ h.1.0 r.0)
          (command-assigns d c₂ h.1.1 r.1))
      command-assigns (suc d) (while b c) h r =
          appended test (words b) (command_words c) (expression-quiet b) (command-assigns d c h.1 r)
      command-assigns (suc d) (for q m c) h r =
          assigned (scalar_of q) ((q + 32 * m) % 32) h.0.0 (for-number q m h.0.0) (command-assigns d c h.1 r)
      command-assigns (suc d) (call n c) h (k, e, b, r) =
          or-false (bit (called n) (slot x)) ∙ (masks.known n k e).marks x low ∙ ap (λ i. modifies i x) (sym b)

pub marked-command : {called : ℕ → ℕ} {file : List ℕ} {from to mask : ℕ} (Γ : Context) → CallsKnown called Γ.procedures →
    Marks called file (to - from) from mask → (c : Command) (d : ℕ) → PartStands file (command_part Γ c) d from to →
    Resolved Γ.procedures c → ModifiedBy c mask
marked-command {called} {file} {from} {to} Γ known m c d s r = record {
  marks = λ x l.
      m.marks x
      ∙ any-stands (assigns called x) file from (command_words c) to s.stand (node_range d (command_node Γ c) s.fit)
      ∙ command-assigns called x l Γ known d c s.fit r;
}

-- ---- the masks of words that assign nothing
members-quiet : (called : ℕ → ℕ) (x : Identifier) (m : Members) → any_of (assigns called x) (members_words m) ≡ false
members-quiet called x [] = refl
members-quiet called x (m ∷ p) =
    appended (assigns called x) (member_words m) (members_words p)
    (appended (assigns called x) (words m.antecedent) (words m.consequent) (expression-quiet called x m.antecedent)
    (expression-quiet called x m.consequent)) (members-quiet called x p)

set-quiet : (called : ℕ → ℕ) (x : Identifier) (m : Members) → any_of (assigns called x) (set_words m) ≡ false
unfolding written
set-quiet called x m = members-quiet called x m

module _ {called : ℕ → ℕ} {file : List ℕ} {from to mask : ℕ} (h : Marks called file (to - from) from mask) where
  pub unmarked_expression : {k : Sort} (e : Expr k) (d : ℕ) → PartStands file (expression_part e) d from to → (x : Identifier) →
      bit mask (slot x) ≡ false
  unmarked_expression e d s x =
      h.marks x
      ∙ any-stands (assigns called x) file from (words e) to s.stand (node_range d (expression_node e) s.fit)
      ∙ expression-quiet called x e

  pub unmarked_set : (Γ : Context) (m : Members) (d : ℕ) → PartStands file (set_part Γ m) d from to → (x : Identifier) →
      bit mask (slot x) ≡ false
  unmarked_set Γ m d s x =
      h.marks x
      ∙ any-stands (assigns called x) file from (set_words m) to s.stand (node_range d (set_node Γ m) s.fit)
      ∙ set-quiet called x m

-- ---- the masks that stand in a list of ends
pub item-inside : {A : Type 0} (l : List A) (n : ℕ) (k : A) → item_at l n ≡ some k → n < length l
unfolding item_at
item-inside [] n k e = absurd (let z : ◌≡◌ {A = ℕ} 0 1 = cc in omega (arith, z))
item-inside (x ∷ l) zero k e = omega arith
item-inside (x ∷ l) (suc n) k e = let h = item-inside l n k e in omega arith

stored : (file ends : List ℕ) (n : ℕ) → n < 16 → called_mask file ends n ≡ mask_at file ends n
unfolding procedure_mask
stored file ends n h = rw (lt-ltb n 16 h, procedure_mask) refl

pub masks-called : {file ends : List ℕ} {Γ : Context} → Masks file ends Γ →
    CallsKnown (called_mask file ends) Γ.procedures
masks-called {file} {ends} {Γ} h = record {
  known = λ n k e.
      let i = item-inside Γ.procedures n k e in
      subst (ModifiedBy k.body) (sym (stored file ends n (omega (arith, i, h.few)))) (h.mask n k e);
}

pub procedure-masks : {file ends : List ℕ} {Γ : Context} → Procedures file ends Γ → Masks file ends Γ
procedure-masks h = record { few = h.few; mask = λ n k e. (h.known n k e).mask }

pub modified_tree : (file ends : List ℕ) {from to r : ℕ} → Marks (called_mask file ends) file (to - from) from r →
    Modified file ends from to r
modified_tree file ends m = record {
  command = λ Γ h c d s r. marked-command Γ (masks-called (procedure-masks h)) m c d s r;
}

-- a test passes at one of some identifiers
abbrev any_id : (Identifier → Bool) → List Identifier → Bool
any_id f [] = false
any_id f (x ∷ l) = f x || any_id f l

id-append : (f : Identifier → Bool) (l m : List Identifier) → any_id f (l ++ m) ≡ (any_id f l || any_id f m)
id-append f [] m = refl
id-append f (x ∷ l) m = ap (λ b. f x || b) (id-append f l m) ∙ sym (or_assoc (f x) (any_id f l) (any_id f m))

-- two tests of identifiers that agree where the numbers are low
module _ (f g : Identifier → Bool) (h : (x : Identifier) → Low x → f x ≡ g x) where
  abbrev mentions : ℕ → ℕ → Bool
  mentions k p = if_any f (mentioned k p)

  two : (l m : List Word) (i j : List Identifier) → any_of mentions l ≡ any_id g i → any_of mentions m ≡ any_id g j →
      any_of mentions (l ++ m) ≡ any_id g (i ++ j)
  two l m i j a b = appended mentions l m a b ∙ sym (id-append g i j)

  alone : (x : Identifier) (k p : ℕ) → Low x → mentions k p ≡ f x → (mentions k p || false) ≡ (g x || false)
  alone x k p l e = ap (λ b. b || false) (e ∙ h x l)

  expression-mentions : (d : ℕ) {j : Sort} (e : Expr j) → FitsExpression e d →
      any_of mentions (words e) ≡ any_id g (identifiers e)
  unfolding words FitsExpression identifiers mentioned
  expression-mentions zero e l = absurd l
  expression-mentions (suc d) (constant z) l = refl
  expression-mentions (suc d) (scalar x) l =
      alone (scalar_of x) 2 x l (ap (λ y. f (scalar_of y)) (low-number x l))
  expression-mentions (suc d) (operation o a b) l =
      two (words a) (words b) (identifiers a) (identifiers b) (expression-mentions d a l.0)
      (expression-mentions d b l.1)
  expression-mentions (suc d) (select a i) l =
      two (words a) (words i) (identifiers a) (identifiers i) (expression-mentions d a l.0)
      (expression-mentions d i l.1)
  expression-mentions (suc d) (compare r a b) l =
      two (words a) (words b) (identifiers a) (identifiers b) (expression-mentions d a l.0)
      (expression-mentions d b l.1)
  expression-mentions (suc d) (truth t) l = refl
  expression-mentions (suc d) (and a b) l =
      two (words a) (words b) (identifiers a) (identifiers b) (expression-mentions d a l.0)
      (expression-mentions d b l.1)
  expression-mentions (suc d) (or a b) l =
      two (words a) (words b) (identifiers a) (identifiers b) (expression-mentions d a l.0)
      (expression-mentions d b l.1)
  expression-mentions (suc d) (neg b) l = expression-mentions d b l
  expression-mentions (suc d) (array a) l =
      alone (array_of a) 16 a l (ap (λ y. f (array_of y)) (low-number a l))
  expression-mentions (suc d) zeros l = refl
  expression-mentions (suc d) (update a i b) l =
      two (words a) (words i ++ words b) (identifiers a) (identifiers i ++ identifiers b)
      (expression-mentions d a l.0)
      (two (words i) (words b) (identifiers i) (identifiers b) (expression-mentions d i l.1.0)
      (expression-mentions d b l.1.1))

  members-mentions : (d : ℕ) (m : Members) → FitsMembers m d →
      any_of mentions (members_words m) ≡ any_id g (set_identifiers m)
  unfolding set_identifiers
  members-mentions d [] l = refl
  members-mentions d (m ∷ p) l =
      let a = m.antecedent in
      let c = m.consequent in
      two (member_words m) (members_words p) (identifiers a ++ identifiers c) (set_identifiers p)
      (two (words a) (words c) (identifiers a) (identifiers c) (expression-mentions d a l.0.0)
      (expression-mentions d c l.0.1)) (members-mentions d p l.1)
      ∙ ap (any_id g) (append_assoc (identifiers a) (identifiers c) (set_identifiers p))

  set-mentions : (Γ : Context) (d : ℕ) (m : Members) → FitsSet Γ m d →
      any_of mentions (set_words m) ≡ any_id g (set_identifiers m)
  unfolding FitsSet mentioned
  set-mentions Γ zero m l = absurd l
  set-mentions Γ (suc d) m l = members-mentions d m l.1

none-modified : (c : Command) (l : List Identifier) → not (any_id (modifies c) l) ≡ unmodified l c
none-modified c [] = refl
none-modified c (x ∷ l) = go (modifies c x) (none-modified c l)
  where
    go : (b : Bool) → not (any_id (modifies c) l) ≡ unmodified l c →
        not (b || any_id (modifies c) l) ≡ (not b && unmodified l c)
    go true h = refl
    go false h = h

none-there : (l : List Identifier) → not (any_id (λ x. true) l) ≡ is_empty l
none-there [] = refl
none-there (x ∷ l) = refl

pub unmarked_tree : (file : List ℕ) (from to mask : ℕ) (b : Bool) → b ≡ any_in (marked mask) file (to - from) from →
    Unmarked file from to mask (not b)
unmarked_tree file from to mask b e = record {
  expression = λ x d s c m.
      ap not
      (e ∙ any-stands (marked mask) file from (words x) to s.stand (node_range d (expression_node x) s.fit)
      ∙ expression-mentions (λ i. bit mask (slot i)) (modifies c) m.marks d x s.fit)
      ∙ none-modified c (identifiers x);
  set = λ Γ q d s c m.
      ap not
      (e ∙ any-stands (marked mask) file from (set_words q) to s.stand (node_range d (set_node Γ q) s.fit)
      ∙ set-mentions (λ i. bit mask (slot i)) (modifies c) m.marks Γ d q s.fit)
      ∙ none-modified c (set_identifiers q);
}

slot_small : (x : Identifier) → Low x → slot x < 64
slot_small (scalar_of x) h = omega arith
slot_small (array_of a) h = omega arith

pub closed_tree : (file : List ℕ) (from to : ℕ) (b : Bool) →
    b ≡ any_in (marked 18446744073709551615) file (to - from) from → Closed file from to (not b)
closed_tree file from to b e = record {
  expression = λ x d s.
      ap not
      (e ∙ any-stands (marked 18446744073709551615) file from (words x) to s.stand (node_range d (expression_node x) s.fit)
      ∙ expression-mentions (λ i. bit 18446744073709551615 (slot i)) (λ i. true)
      (λ i l. bit-ones (slot i) (slot_small i l)) d x s.fit)
      ∙ none-there (identifiers x);
}
