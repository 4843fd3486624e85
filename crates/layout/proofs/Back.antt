-- What stands in the file by its words and fits is read (document 01, "Layout"): expressions, commands and sets.
-- Assumes nothing.
--     Back, begun, _⊲_                                   what is read at a place; pure and _⊛_
--     Allowed, some_back, up_to-back, option_back        a word that may stand there: some, up_to, on_option
--     due-back, word_back                                word_due, of a word by its kind and payload; of what stands
--     expression-stands, command-stands, set-stands      from what stands to what is read
--     stands_from                                        from what is spelled to what stands
use mathlib.Core.Path.{◌≡◌, refl, sym, ◌∙◌, ap, ap₂, subst}
use mathlib.Core.Bool.{Bool, true, false}
use mathlib.Core.List.{List, [], ◌∷◌, ◌++◌}
use mathlib.Core.Option.{Option, some}
use Prim.Native.Nat.{ℕ, zero, suc, ◌+◌, ◌*◌, ◌<◌, ◌≤◌}
use native.Mathlib.Omega.{arith}
use borrow.Author.Tests.{lt-ltb, le-leb, lt-leb}
use lib.ListN.{length}
use Rattle.language.specs.Syntax.{Operator, plus, minus, times, Comparison, equal, less, at_most}
use Rattle.language.specs.Syntax.{Sort, Arithmetic, Boolean, Array, Expr, constant, scalar, operation, select}
use Rattle.language.specs.Syntax.{compare, truth, and, or, neg, array, zeros, update, to_scalar, to_array}
use Rattle.language.specs.Syntax.{Command, skip, sequence, assert, assign, if_else, while, for, call}
use Rattle.rules.specs.Words.{Word, words, command_words}
use Rattle.rules.specs.Words.{operator_payload, comparison_payload, truth_payload}
use Rattle.rules.specs.Assertion.{Member, Members, member}
use Rattle.rules.specs.Context.{Context}
use Rattle.layout.specs.Bytes.{word_count, kind_at, payload_at}
use Rattle.layout.specs.Reading.{read, Reader, pure, ◌⊛◌, several, allowed, word_due, up_to, on_option}
use Rattle.layout.specs.Read.{operator_of, comparison_of, truth_of}
use Rattle.layout.specs.Read.{expression, command, sort_of, consequent_at, member_at, set}
use Rattle.layout.specs.Spelling.{payload_of, SpelledAt, FitsExpression, FitsCommand}
use Rattle.layout.specs.Spelling.{member_words, members_words, set_words, FitsMembers, FitsSet}
use Rattle.layout.proofs.Constant.{constant_of-payload}
use Rattle.layout.proofs.Words.{for-first, for-second}
use Rattle.layout.specs.Nodes.{expression_node, kind_of, content_of, InRange}
use Rattle.layout.specs.Standing.{Stands}
use Rattle.layout.proofs.Stands.{rest, less-fit, parted, spelled-stands}
use Rattle.layout.proofs.Forms.{SortKind, sort-kind}
use Rattle.layout.proofs.Nodes.{kind-at, content-at, with_levels, constant-range, operator_range, comparison_range, truth-range}

-- the reader r reads a from `at` up to p
pub record Back {A : Type 0} (r : Reader A) (at : ℕ) (a : A) (p : ℕ) : Type 0 where
  pub back : r at ≡ read a p

pub begun : {A : Type 0} {a : A} {at p : ℕ} → at ≡ p → Back (pure a) at a p
begun {a} h = record { back = ap (λ q. read a q) h }

infixl 50 ◌⊲◌
pub ◌⊲◌ : {A B : Type 0} {r : Reader (A → B)} {t : Reader A} {at q p : ℕ} {f : A → B} {a : A} →
    Back r at f q → Back t q a p → Back (r ⊛ t) at (f a) p
unfolding ◌⊛◌
◌⊲◌ {r} {t} {at} {q} h k = record { back = rw h.back (rw k.back refl) }

-- what is allowed
pub record Allowed {A : Type 0} (o : Option (Reader A)) (at : ℕ) (a : A) (p : ℕ) : Type 0 where
  pub allows : allowed o at ≡ read a p

pub some_back : {A : Type 0} {r : Reader A} {at : ℕ} {a : A} {p : ℕ} → Back r (at + 1) a p → Allowed (some r) at a p
some_back h = record { allows = h.back }

pub up_to-back : {A : Type 0} {r : Reader A} {at : ℕ} {a : A} {p : ℕ} (n k : ℕ) → k ≤ n → Back r (at + 1) a p →
    Allowed (up_to n k r) at a p
up_to-back n k h b = record { allows = rw (le-leb k n h) b.back }

pub option_back : {A B : Type 0} {b : B} {at : ℕ} {a : A} {p : ℕ} (o : Option B) (f : B → Reader A) → o ≡ some b →
    Back (f b) (at + 1) a p → Allowed (on_option o f) at a p
option_back {at} {a} {p} o f e h = rw e (some_back h)

operator_back : (o : Operator) → operator_of (payload_of (operator_payload o)) ≡ some o
operator_back plus = refl
operator_back minus = refl
operator_back times = refl

comparison_back : (r : Comparison) → comparison_of (payload_of (comparison_payload r)) ≡ some r
comparison_back equal = refl
comparison_back less = refl
comparison_back at_most = refl

truth-back : (t : Bool) → truth_of (payload_of (truth_payload t)) ≡ some t
truth-back false = refl
truth-back true = refl

pub due-back : (file : List ℕ) {A : Type 0} (at k n : ℕ) (step : ℕ → ℕ → ℕ → Option (Reader A)) {a : A} {p : ℕ} →
    at < word_count file → kind_at file at ≡ k → payload_at file at ≡ n → Allowed (step at k n) at a p →
    Back (word_due file step) at a p
unfolding word_due
due-back file {A} at k n step {a} {p} h e x y =
    record { back = rw (lt-ltb at (word_count file) h, word_due) (ap₂ (λ i j. allowed (step at i j) at) e x ∙ y.allows) }

-- a word that stands there
pub word_back : {A : Type 0} {file : List ℕ} {w : Word} {l : List Word} {F : Type 0} {at p : ℕ} {a : A}
    (step : ℕ → ℕ → ℕ → Option (Reader A)) → Stands file (w ∷ l) F at p → InRange w →
    Allowed (step at (kind_of w) (content_of w)) at a p → Back (word_due file step) at a p
word_back {file} {w} {at} step s h y =
    due-back file at (kind_of w) (content_of w) step s.stand.0 (kind-at file at w s.stand.1 h)
    (content-at file at w s.stand.1 h) y

sort-of : (j : Sort) (k : ℕ) → SortKind j k → sort_of k ≡ j
sort-of Arithmetic k h = rw (lt-leb 8 k h, lt-leb 16 k (omega arith))
sort-of Boolean k h = rw (le-leb 8 k h.0, le-leb k 12 h.1)
sort-of Array k h = rw (le-leb 8 k (omega arith), lt-leb k 12 (omega arith), le-leb 16 k h.0, le-leb k 18 h.1)

module _ (file : List ℕ) where
  pub expression-stands : (d : ℕ) {j : Sort} (e : Expr j) (at p : ℕ) →
      Stands file (words e) (FitsExpression e d) at p → Back (expression file d j) at e p
  unfolding expression words FitsExpression
  expression-stands zero e at p s = absurd s.fit
  expression-stands (suc d) (constant z) at p s =
      word_back _ s (constant-range z s.fit) (some_back (rw (constant_of-payload z s.fit) (begun s.stand.2)))
  expression-stands (suc d) (scalar x) at p s =
      word_back _ s (omega (arith, s.fit), refl, refl) (up_to-back 31 x s.fit (begun s.stand.2))
  expression-stands (suc d) (operation o a b) at p s =
      word_back _ s (operator_range o)
      (option_back (operator_of (payload_of (operator_payload o))) _ (operator_back o)
      (parted (words a) (words b) (rest s) λ q x y.
      begun refl ⊲ expression-stands d a (at + 1) q x ⊲ expression-stands d b q p y))
  expression-stands (suc d) (select h i) at p s =
      word_back _ s (omega arith, refl, refl) (some_back (parted (words h) (words i) (rest s) λ q x y.
      begun refl ⊲ expression-stands d h (at + 1) q x ⊲ expression-stands d i q p y))
  expression-stands (suc d) (compare r a b) at p s =
      word_back _ s (comparison_range r)
      (option_back (comparison_of (payload_of (comparison_payload r))) _ (comparison_back r)
      (parted (words a) (words b) (rest s) λ q x y.
      begun refl ⊲ expression-stands d a (at + 1) q x ⊲ expression-stands d b q p y))
  expression-stands (suc d) (truth t) at p s =
      word_back _ s (truth-range t)
      (option_back (truth_of (payload_of (truth_payload t))) _ (truth-back t) (begun s.stand.2))
  expression-stands (suc d) (and b c) at p s =
      word_back _ s (omega arith, refl, refl) (some_back (parted (words b) (words c) (rest s) λ q x y.
      begun refl ⊲ expression-stands d b (at + 1) q x ⊲ expression-stands d c q p y))
  expression-stands (suc d) (or b c) at p s =
      word_back _ s (omega arith, refl, refl) (some_back (parted (words b) (words c) (rest s) λ q x y.
      begun refl ⊲ expression-stands d b (at + 1) q x ⊲ expression-stands d c q p y))
  expression-stands (suc d) (neg b) at p s =
      word_back _ s (omega arith, refl, refl) (some_back (begun refl ⊲ expression-stands d b (at + 1) p (rest s)))
  expression-stands (suc d) (array a) at p s =
      word_back _ s (omega (arith, s.fit), refl, refl) (up_to-back 31 a s.fit (begun s.stand.2))
  expression-stands (suc d) zeros at p s = word_back _ s (omega arith, refl, refl) (some_back (begun s.stand.2))
  expression-stands (suc d) (update h i a) at p s =
      word_back _ s (omega arith, refl, refl) (some_back (parted (words h) (words i ++ words a) (rest s) λ q x t.
      parted (words i) (words a) t λ r y z.
      begun refl ⊲ expression-stands d h (at + 1) q x ⊲ expression-stands d i q r y ⊲ expression-stands d a r p z))

  pub command-stands : (Γ : Context) (d : ℕ) (c : Command) (at p : ℕ) → Stands file (command_words c) (FitsCommand Γ c d) at p →
      Back (command Γ file d) at c p
  unfolding command command_words FitsCommand
  command-stands Γ zero c at p s = absurd s.fit
  command-stands Γ (suc d) skip at p s = word_back _ s (omega arith, refl, refl) (some_back (begun s.stand.2))
  command-stands Γ (suc d) (sequence c₁ c₂) at p s =
      word_back _ s (omega arith, refl, refl) (some_back (parted (command_words c₁) (command_words c₂) (rest s) λ q x y.
      begun refl ⊲ command-stands Γ d c₁ (at + 1) q x ⊲ command-stands Γ d c₂ q p y))
  command-stands Γ (suc d) (assert b) at p s =
      word_back _ s (omega arith, refl, refl) (some_back (begun refl ⊲ expression-stands d b (at + 1) p (rest s)))
  command-stands Γ (suc d) (assign (to_scalar x e)) at p s =
      word_back _ s (omega (arith, s.fit.0), refl, refl)
      (up_to-back 31 x s.fit.0 (begun refl ⊲ expression-stands d e (at + 1) p (less-fit (rest s))))
  command-stands Γ (suc d) (assign (to_array a e)) at p s =
      word_back _ s (omega (arith, s.fit.0), refl, refl)
      (up_to-back 31 a s.fit.0 (begun refl ⊲ expression-stands d e (at + 1) p (less-fit (rest s))))
  command-stands Γ (suc d) (if_else b c₁ c₂) at p s =
      word_back _ s (omega arith, refl, refl) (some_back (parted (words b) (command_words c₁ ++ command_words c₂) (rest s) λ q x t.
      parted (command_words c₁) (command_words c₂) t λ r y z.
      begun refl ⊲ expression-stands d b (at + 1) q x ⊲ command-stands Γ d c₁ q r y ⊲ command-stands Γ d c₂ r p z))
  command-stands Γ (suc d) (while b c) at p s =
      word_back _ s (omega arith, refl, refl) (some_back (parted (words b) (command_words c) (rest s) λ q x y.
      begun refl ⊲ expression-stands d b (at + 1) q x ⊲ command-stands Γ d c q p y))
  command-stands Γ (suc d) (for q m c) at p s =
      word_back _ s s.fit.0 (up_to-back 1023 (q + 32 * m) (omega (arith, s.fit.0.0, s.fit.0.1))
      (rw (for-first q m s.fit.0.0, for-second q m s.fit.0.0)
      (begun refl ⊲ command-stands Γ d c (at + 1) p (less-fit (rest s)))))
  command-stands Γ (suc d) (call n c) at p s =
      word_back _ s (s.fit.0, refl, refl) (some_back (rw s.fit.1 (begun s.stand.2)))

  -- the first word's kind tells the sort
  sort-stands : (d : ℕ) {j : Sort} (e : Expr j) (at p : ℕ) → Stands file (words e) (FitsExpression e d) at p →
      sort_of (kind_at file at) ≡ j
  sort-stands d {j} e at p s = with_levels (expression_node e) d s λ n l o. ap sort_of o.kind ∙ sort-of j _ (sort-kind e)

  abbrev consequent_of : (d : ℕ) (j : Sort) → Reader (Expr Boolean → Member)
  consequent_of d j = pure (λ e φ. member φ e) ⊛ expression file d j

  consequent-stands : (d : ℕ) {j : Sort} (e : Expr j) (at p : ℕ) → Stands file (words e) (FitsExpression e d) at p →
      Back (consequent_at file d) at (λ φ. member φ e) p
  consequent-stands d {j} e at p s =
      let known : Back (consequent_of d j) at (λ φ. member φ e) p = begun refl ⊲ expression-stands d e at p s in
      record {
        back =
            subst (λ i. consequent_of d i at ≡ read (λ φ. member φ e) p) (sym (sort-stands d e at p s)) known.back;
      }

  member-stands : (d : ℕ) (m : Member) (at p : ℕ) →
      Stands file (member_words m) (FitsExpression m.antecedent d × FitsExpression m.consequent d) at p →
      Back (member_at file d) at m p
  member-stands d m at p s =
      parted (words m.antecedent) (words m.consequent) s λ q x y.
      begun refl ⊲ expression-stands d m.antecedent at q x ⊲ consequent-stands d m.consequent q p y

  members-stands : (d : ℕ) (m : Members) (at p : ℕ) → Stands file (members_words m) (FitsMembers m d) at p →
      Back (several (length m) (member_at file d)) at m p
  unfolding several
  members-stands d [] at p s = record { back = ap (λ q. read [] q) s.stand }
  members-stands d (m ∷ l) at p s =
      parted (member_words m) (members_words l) s λ q x y.
      record { back = rw (member-stands d m at q x).back (rw (members-stands d l q p y).back refl) }

  pub set-stands : (Γ : Context) (d : ℕ) (m : Members) (at p : ℕ) →
      Stands file (set_words m) (FitsSet Γ m d) at p → Back (set Γ file d) at m p
  unfolding set FitsSet
  set-stands Γ zero m at p s = absurd s.fit
  set-stands Γ (suc d) m at p s =
      word_back _ s (s.fit.0.1, refl, refl)
      (up_to-back Γ.limits.members (length m) s.fit.0.0 (members-stands d m (at + 1) p (less-fit (rest s))))

-- the same of what is spelled
pub stands_from : {file : List ℕ} {F : Type 0} {at : ℕ} (l : List Word) → SpelledAt file at l → F →
    Stands file l F at (at + length l)
stands_from {file} {at} l h f = record { stand = spelled-stands file at l (at + length l) h refl; fit = f }
