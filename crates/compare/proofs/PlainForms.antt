-- Booleans compared by their plain forms: the first word where a plain form starts tells its form, and its operands stand there.
-- Assumes nothing.
--     boolean-known, start-inside, start-known a boolean's place is known; its plain form starts in the file
--     TwoParts, OnePart, Leaf                  what stands there: an and or an or; a not; a comparison
--     and_parts, or_parts, not-part            by the kind of the first word
--     top-other                                first words differ
--     two-no, two-on, one_on                   compared with an and or an or, with a not
--     same-written, same-by_words              booleans with the same words; plain forms that start with the same words
--     other-head, both-truth, both-comparison, comparisons-at
--                                              two plain forms: by their first words
--     Joined, joined, first-parts, second_parts, first-differ, not_same, second-same
--                                              two ands, two ors, two nots: their operands
--     of-replaced, unchanged-words, replaced-words
--                                              by words, with what is put for an identifier
use mathlib.Core.Path.{◌≡◌, sym, ap, ap₂, subst, ◌∙◌}
use mathlib.Core.Bool.{Bool, true, false, cond}
use mathlib.Core.List.{List}
use mathlib.Core.Logic.{◌⊎◌, inl, inr}
use Prim.Native.Nat.{ℕ, ◌+◌, ◌/◌, ◌<◌}
use native.Mathlib.Omega.{arith}
use lib.ListN.{length, get_or}
use Rattle.laws.proofs.Bools.{clash}
use Rattle.laws.proofs.Decides.{decides_map, decides_yes, decides_no}
use Rattle.language.specs.Syntax.{Boolean, Expr, compare, truth, and, or, neg}
use Rattle.rules.specs.Words.{words}
use Rattle.rules.specs.Plain.{plain}
use Rattle.rules.specs.Replace.{replacement, replace}
use Rattle.rules.specs.Tests.{same_antecedent, same_consequent}
use Rattle.rules.proofs.Unique.{expression-unique}
use Rattle.layout.specs.Bytes.{kind_at, payloads}
use Rattle.ends.specs.Ends.{EndsOf}
use Rattle.ends.specs.Places.{end_at, PartKnown, WrittenAt}
use Rattle.ends.proofs.Places.{parts_at, node_head, node_known, node_inside}
use Rattle.matching.specs.Matching.{exchanged, same_numbers}
use Rattle.matching.specs.Places.{part, ExpressionAt}
use Rattle.compare.specs.Plain.{Settled, PlainFrom}
use Rattle.compare.specs.Forms.{consequent_numbers, CanCompareTwo}
use Rattle.compare.specs.Trees.{boolean_at, HasPut, changed, ChangeAt}
use Rattle.matching.specs.declared.cursor.Put.{Put}
use Rattle.compare.specs.declared.plain.Change.{Change}
use Rattle.compare.specs.declared.plain.Change.TheVariants.{Unchanged, Replaced}
use Rattle.matching.proofs.Numbers.{numbers-tell}
use Rattle.matching.proofs.SameNumbers.{same_numbers-decides}
use Rattle.compare.proofs.Trees.{tree_is, tree-at, part-is, in-range, put_is, put-replaces}
use Rattle.compare.proofs.Halves.{is-verbatim, is-exchanged, consequent-same}
use Rattle.compare.proofs.PlainTests.{plain-answer, plain-told, words-told, top, top-settled, changed-plain}
use Rattle.compare.proofs.PlainTests.{changed-top, changed-truth, changed-and, changed-or, changed-neg, and-inj}
use Rattle.compare.proofs.PlainTests.{or-inj, neg_inj, truth-same}

-- the words that stand at two places
parts-tell : {file ends : List ℕ} {φ ψ : Expr Boolean} {f g : ℕ} → WrittenAt file ends φ f → WrittenAt file ends ψ g →
    part file ends f ≡ part file ends g → φ ≡ ψ
parts-tell {φ = φ} {ψ} x y e =
    expression-unique φ ψ
    (numbers-tell (words φ) (words ψ) (in-range x) (in-range y) (sym (part-is x) ∙ e ∙ part-is y))

-- ---- where a plain form starts
module _ (file ends : List ℕ) where
  -- an and or an or, with its operands
  pub record TwoParts (op : Expr Boolean → Expr Boolean → Expr Boolean) (f s : ℕ) : Type 0 where
    pub left : ExpressionAt file ends Boolean (s + 1)
    pub right : ExpressionAt file ends Boolean (end_at ends (s + 1))
    pub is : plain (boolean_at file f) ≡ op (plain (boolean_at file (s + 1))) (plain (boolean_at file (end_at ends (s + 1))))

  -- a not, with its operand
  pub record OnePart (f s : ℕ) : Type 0 where
    pub operand : ExpressionAt file ends Boolean (s + 1)
    pub is : plain (boolean_at file f) ≡ neg (plain (boolean_at file (s + 1)))

  pub record Leaf (f s : ℕ) : Type 0 where
    pub whole : ExpressionAt file ends Boolean s
    pub is : plain (boolean_at file f) ≡ boolean_at file s

  -- two of one form
  pub data Joined (f s g t : ℕ) : Type 0 where
    ands : kind_at file s ≡ 10 → TwoParts and f s → TwoParts and g t → Joined f s g t
    ors : kind_at file s ≡ 11 → TwoParts or f s → TwoParts or g t → Joined f s g t
    nots : kind_at file s ≡ 12 → OnePart f s → OnePart g t → Joined f s g t

module _ {file ends : List ℕ} (o : EndsOf file ends) where
  abbrev BooleanAt : ℕ → Type 0
  BooleanAt f = ExpressionAt file ends Boolean f

  abbrev boolean : ℕ → Expr Boolean
  boolean f = boolean_at file f

  pub boolean-known : {f : ℕ} → BooleanAt f → PartKnown file ends f
  boolean-known x = node_known o x.there

  module _ {f s : ℕ} (x : PlainFrom file ends f s) where
    pub start-inside : s < length file
    start-inside = let i = node_inside x.there in omega (arith, i.start, i.within)

    pub start-known : PartKnown file ends s
    start-known = node_known o x.there

    top-at : get_or file s 0 ≡ top (plain (boolean f))
    top-at = top-settled x.tree x.settled x.there ∙ ap top x.same

    two-parts : {op : Expr Boolean → Expr Boolean → Expr Boolean} (b c : Expr Boolean) →
        WrittenAt file ends b (s + 1) × (WrittenAt file ends c (end_at ends (s + 1)) × (end_at ends (end_at ends (s + 1)) ≡ end_at ends s)) →
        plain (boolean f) ≡ op (plain b) (plain c) → TwoParts file ends op f s
    two-parts {op} b c z e = record {
      left = record { tree = b; there = z.0 };
      right = record { tree = c; there = z.1.0 };
      is = e ∙ ap₂ (λ b c. op (plain b) (plain c)) (sym (tree_is z.0)) (sym (tree_is z.1.0));
    }

    pub and_parts : kind_at file s ≡ 10 → TwoParts file ends and f s
    unfolding plain
    and_parts h = go x.tree x.settled x.there x.same
      where
        go : (t : Expr Boolean) → Settled t → WrittenAt file ends t s → plain t ≡ plain (boolean f) → TwoParts file ends and f s
        go (compare r a b) i y e = absurd (omega (arith, h, (node_head y).kind))
        go (truth t) i y e = absurd (omega (arith, h, (node_head y).kind))
        go (and b c) i y e =
            two-parts b c (parts_at o y)
            (sym e ∙ ap₂ (λ t u. cond t (plain c) (cond u (plain b) (and (plain b) (plain c)))) i.0 i.1)
        go (or b c) i y e = absurd (omega (arith, h, (node_head y).kind))
        go (neg b) i y e = absurd (omega (arith, h, (node_head y).kind))

    pub or_parts : kind_at file s ≡ 11 → TwoParts file ends or f s
    unfolding plain
    or_parts h = go x.tree x.there x.same
      where
        go : (t : Expr Boolean) → WrittenAt file ends t s → plain t ≡ plain (boolean f) → TwoParts file ends or f s
        go (compare r a b) y e = absurd (omega (arith, h, (node_head y).kind))
        go (truth t) y e = absurd (omega (arith, h, (node_head y).kind))
        go (and b c) y e = absurd (omega (arith, h, (node_head y).kind))
        go (or b c) y e = two-parts b c (parts_at o y) (sym e)
        go (neg b) y e = absurd (omega (arith, h, (node_head y).kind))

    pub not-part : kind_at file s ≡ 12 → OnePart file ends f s
    unfolding plain
    not-part h = go x.tree x.there x.same
      where
        go : (t : Expr Boolean) → WrittenAt file ends t s → plain t ≡ plain (boolean f) → OnePart file ends f s
        go (compare r a b) y e = absurd (omega (arith, h, (node_head y).kind))
        go (truth t) y e = absurd (omega (arith, h, (node_head y).kind))
        go (and b c) y e = absurd (omega (arith, h, (node_head y).kind))
        go (or b c) y e = absurd (omega (arith, h, (node_head y).kind))
        go (neg b) y e =
            let z = parts_at o y in
            record { operand = record { tree = b; there = z.0 }; is = sym e ∙ ap (λ b. neg (plain b)) (sym (tree_is z.0)) }

    leaf : kind_at file s ≡ 8 → Leaf file ends f s
    unfolding plain
    leaf h = go x.tree x.there x.same
      where
        go : (t : Expr Boolean) → WrittenAt file ends t s → plain t ≡ plain (boolean f) → Leaf file ends f s
        go (compare r a b) y e = record { whole = record { tree = compare r a b; there = y }; is = sym e ∙ sym (tree_is y) }
        go (truth t) y e = absurd (omega (arith, h, (node_head y).kind))
        go (and b c) y e = absurd (omega (arith, h, (node_head y).kind))
        go (or b c) y e = absurd (omega (arith, h, (node_head y).kind))
        go (neg b) y e = absurd (omega (arith, h, (node_head y).kind))

    truth-at : kind_at file s ≡ 9 → (t : Bool) × (plain (boolean f) ≡ truth t)
    unfolding plain
    truth-at h = go x.tree x.there x.same
      where
        go : (t : Expr Boolean) → WrittenAt file ends t s → plain t ≡ plain (boolean f) → (u : Bool) × (plain (boolean f) ≡ truth u)
        go (compare r a b) y e = absurd (omega (arith, h, (node_head y).kind))
        go (truth t) y e = (t, sym e)
        go (and b c) y e = absurd (omega (arith, h, (node_head y).kind))
        go (or b c) y e = absurd (omega (arith, h, (node_head y).kind))
        go (neg b) y e = absurd (omega (arith, h, (node_head y).kind))

    -- the kinds of a boolean
    kinds : (kind_at file s ≡ 9 → ⊥) → (kind_at file s ≡ 8 → ⊥) →
        (kind_at file s ≡ 10) ⊎ ((kind_at file s ≡ 11) ⊎ (kind_at file s ≡ 12))
    kinds g h = go x.tree x.there
      where
        go : (t : Expr Boolean) → WrittenAt file ends t s → (kind_at file s ≡ 10) ⊎ ((kind_at file s ≡ 11) ⊎ (kind_at file s ≡ 12))
        go (compare r a b) y = absurd (h (node_head y).kind)
        go (truth t) y = absurd (g (node_head y).kind)
        go (and b c) y = inl (node_head y).kind
        go (or b c) y = inr (inl (node_head y).kind)
        go (neg b) y = inr (inr (node_head y).kind)

    -- first words differ
    pub top-other : {n : ℕ} (ψ : Expr Boolean) → top (plain ψ) ≡ n → (get_or file s 0 ≡ n → ⊥) → false ≡ same_antecedent (boolean f) ψ
    top-other ψ e h = plain-answer (boolean f) ψ (decides_no λ q. h (top-at ∙ ap top q ∙ e))

  -- compared with an and or an or
  module _ {op : Expr Boolean → Expr Boolean → Expr Boolean}
      (inj : (b c b' c' : Expr Boolean) → op b c ≡ op b' c' → (b ≡ b') × (c ≡ c')) {f s : ℕ} (a : TwoParts file ends op f s)
      (ψ β γ : Expr Boolean) (e : plain ψ ≡ op (plain β) (plain γ)) {r : Bool}
      (d : r ≡ same_antecedent (boolean (s + 1)) β) where
    pub two-no : r ≡ false → false ≡ same_antecedent (boolean f) ψ
    two-no h =
        plain-answer (boolean f) ψ
        (decides_no λ q. clash ((plain-told (boolean (s + 1)) β d).complete (inj _ _ _ _ (sym a.is ∙ q ∙ e)).0) h)

    pub two-on : {v : Bool} → r ≡ true → v ≡ same_antecedent (boolean (end_at ends (s + 1))) γ → v ≡ same_antecedent (boolean f) ψ
    two-on h k =
        plain-answer (boolean f) ψ
        (decides_map
        (λ q. a.is ∙ ap₂ op ((plain-told (boolean (s + 1)) β d).sound h) q ∙ sym e)
        (λ q. (inj _ _ _ _ (sym a.is ∙ q ∙ e)).1)
        (plain-told (boolean (end_at ends (s + 1))) γ k))

  -- with a not
  pub one_on : {f s : ℕ} (a : OnePart file ends f s) (ψ β : Expr Boolean) → plain ψ ≡ neg (plain β) → {r : Bool} →
      r ≡ same_antecedent (boolean (s + 1)) β → r ≡ same_antecedent (boolean f) ψ
  one_on {f} {s} a ψ β e d =
      plain-answer (boolean f) ψ
      (decides_map (λ q. a.is ∙ ap neg q ∙ sym e) (λ q. neg_inj (sym a.is ∙ q ∙ e)) (plain-told (boolean (s + 1)) β d))

  -- two booleans, with the same words
  pub same-written : {f g : ℕ} (x : BooleanAt f) (y : BooleanAt g) {r : Bool} →
      r ≡ same_numbers (part file ends f) (part file ends g) → r ≡ true → true ≡ same_antecedent (boolean f) (boolean g)
  same-written {f} {g} x y e h =
      plain-answer (boolean f) (boolean g)
      (decides_yes (ap plain (parts-tell (tree-at x) (tree-at y) ((same_numbers-decides _ _).sound (sym e ∙ h)))))

  -- by where their plain forms start
  module _ {f s g t : ℕ} (x : PlainFrom file ends f s) (y : PlainFrom file ends g t) where
    -- with the same words
    pub same-by_words : {r : Bool} → r ≡ same_numbers (part file ends s) (part file ends t) → r ≡ true →
        true ≡ same_antecedent (boolean f) (boolean g)
    same-by_words e h =
        plain-answer (boolean f) (boolean g)
        (decides_yes
        (sym x.same
        ∙ ap plain (parts-tell x.there y.there ((same_numbers-decides _ _).sound (sym e ∙ h)))
        ∙ y.same))

    module _ (change : Change) where
      pub other-head : (get_or file s 0 ≡ get_or file t 0 → ⊥) → false ≡ same_antecedent (boolean f) (changed file change (boolean g))
      other-head h =
          top-other x (changed file change (boolean g))
          (ap top (changed-plain file change (boolean g)) ∙ changed-top file change (plain (boolean g)) ∙ sym (top-at y)) h

    -- with the same first word
    module _ (h : get_or file s 0 ≡ get_or file t 0) where
      other-kind : {k : ℕ} → kind_at file s ≡ k → kind_at file t ≡ k
      other-kind e = ap (λ n. n / payloads) (sym h) ∙ e

      pub joined : (kind_at file s ≡ 9 → ⊥) → (kind_at file s ≡ 8 → ⊥) → Joined file ends f s g t
      joined i j = elim (kinds x i j) [
        | inl k ↦ ands k (and_parts x k) (and_parts y (other-kind k))
        | inr v ↦ elim v [
          | inl k ↦ ors k (or_parts x k) (or_parts y (other-kind k))
          | inr k ↦ nots k (not-part x k) (not-part y (other-kind k))
        ]
      ]

      module _ (change : Change) where
        pub both-truth : kind_at file s ≡ 9 → true ≡ same_antecedent (boolean f) (changed file change (boolean g))
        both-truth k =
            let u = truth-at x k in
            let v = truth-at y (other-kind k) in
            let e = truth-same u.0 v.0 (ap top (sym u.1) ∙ sym (top-at x) ∙ h ∙ top-at y ∙ ap top v.1) in
            plain-answer (boolean f) (changed file change (boolean g))
            (decides_yes
            (u.1 ∙ ap truth e
            ∙ sym (changed-plain file change (boolean g) ∙ ap (changed file change) v.1 ∙ changed-truth file change v.0)))

        pub both-comparison : kind_at file s ≡ 8 → {r : Bool} → r ≡ same_consequent (boolean s) (changed file change (boolean t)) →
            r ≡ same_antecedent (boolean f) (changed file change (boolean g))
        both-comparison k e =
            let a = leaf x k in
            let b = leaf y (other-kind k) in
            let v = changed-plain file change (boolean g) ∙ ap (changed file change) b.is in
            plain-answer (boolean f) (changed file change (boolean g))
            (decides_map (λ q. a.is ∙ q ∙ sym v) (λ q. sym a.is ∙ q ∙ v)
            (words-told (boolean s) (changed file change (boolean t)) e))

        pub comparisons-at : kind_at file s ≡ 8 → ChangeAt file ends change → CanCompareTwo file ends s t change
        comparisons-at k c = record {
          ends_of = o;
          first = (leaf x k).whole;
          second = (leaf y (other-kind k)).whole;
          change-at = c;
        }

  -- what a change makes of a boolean's operands
  module _ (g t : ℕ) (change : Change) where
    two-changed : {op : Expr Boolean → Expr Boolean → Expr Boolean} →
        ((b c : Expr Boolean) → changed file change (op b c) ≡ op (changed file change b) (changed file change c)) →
        (b : TwoParts file ends op g t) → plain (changed file change (boolean g))
        ≡ op (plain (changed file change (boolean (t + 1)))) (plain (changed file change (boolean (end_at ends (t + 1)))))
    two-changed {op} law b =
        changed-plain file change (boolean g)
        ∙ ap (changed file change) b.is
        ∙ law _ _
        ∙ ap₂ op (sym (changed-plain file change _)) (sym (changed-plain file change _))

    one-changed : (b : OnePart file ends g t) →
        plain (changed file change (boolean g)) ≡ neg (plain (changed file change (boolean (t + 1))))
    one-changed b =
        changed-plain file change (boolean g)
        ∙ ap (changed file change) b.is
        ∙ changed-neg file change _
        ∙ ap neg (sym (changed-plain file change _))

  module _ {f s g t : ℕ} (change : Change) (j : Joined file ends f s g t) where
    pub first-parts : ChangeAt file ends change → CanCompareTwo file ends (s + 1) (t + 1) change
    first-parts c = go j
      where
        go : Joined file ends f s g t → CanCompareTwo file ends (s + 1) (t + 1) change
        go (ands k a b) = record { ends_of = o; first = a.left; second = b.left; change-at = c }
        go (ors k a b) = record { ends_of = o; first = a.left; second = b.left; change-at = c }
        go (nots k a b) = record { ends_of = o; first = a.operand; second = b.operand; change-at = c }

    pub second_parts : {p q : ℕ} → (kind_at file s ≡ 12 → ⊥) → p ≡ end_at ends (s + 1) → q ≡ end_at ends (t + 1) →
        ChangeAt file ends change → CanCompareTwo file ends p q change
    second_parts {p} {q} n d e c =
        subst (λ i. CanCompareTwo file ends i q change) (sym d)
        (subst (λ i. CanCompareTwo file ends (end_at ends (s + 1)) i change) (sym e) (go j))
      where
        go : Joined file ends f s g t → CanCompareTwo file ends (end_at ends (s + 1)) (end_at ends (t + 1)) change
        go (ands k a b) = record { ends_of = o; first = a.right; second = b.right; change-at = c }
        go (ors k a b) = record { ends_of = o; first = a.right; second = b.right; change-at = c }
        go (nots k a b) = absurd (n k)

    module _ {r : Bool} (d : r ≡ same_antecedent (boolean (s + 1)) (changed file change (boolean (t + 1)))) where
      pub first-differ : r ≡ false → false ≡ same_antecedent (boolean f) (changed file change (boolean g))
      first-differ h = go j
        where
          go : Joined file ends f s g t → false ≡ same_antecedent (boolean f) (changed file change (boolean g))
          go (ands k a b) = two-no and-inj a _ _ _ (two-changed g t change (changed-and file change) b) d h
          go (ors k a b) = two-no or-inj a _ _ _ (two-changed g t change (changed-or file change) b) d h
          go (nots k a b) = sym h ∙ one_on a _ _ (one-changed g t change b) d

      pub not_same : r ≡ true → kind_at file s ≡ 12 → true ≡ same_antecedent (boolean f) (changed file change (boolean g))
      not_same h n = go j
        where
          go : Joined file ends f s g t → true ≡ same_antecedent (boolean f) (changed file change (boolean g))
          go (ands k a b) = absurd (omega (arith, k, n))
          go (ors k a b) = absurd (omega (arith, k, n))
          go (nots k a b) = sym h ∙ one_on a _ _ (one-changed g t change b) d

      pub second-same : {p q : ℕ} {v : Bool} → r ≡ true → (kind_at file s ≡ 12 → ⊥) → p ≡ end_at ends (s + 1) → q ≡ end_at ends (t + 1) →
          v ≡ same_antecedent (boolean p) (changed file change (boolean q)) →
          v ≡ same_antecedent (boolean f) (changed file change (boolean g))
      second-same {p} {q} {v} h n i m k = go j (k ∙ ap₂ (λ i m. same_antecedent (boolean i) (changed file change (boolean m))) i m)
        where
          go : Joined file ends f s g t →
              v ≡ same_antecedent (boolean (end_at ends (s + 1))) (changed file change (boolean (end_at ends (t + 1)))) →
              v ≡ same_antecedent (boolean f) (changed file change (boolean g))
          go (ands i a b) k = two-on and-inj a _ _ _ (two-changed g t change (changed-and file change) b) d h k
          go (ors i a b) k = two-on or-inj a _ _ _ (two-changed g t change (changed-or file change) b) d h k
          go (nots i a b) k = absurd (n i)

-- ---- by words, with what is put for an identifier
module _ {file ends : List ℕ} {change : Change} where
  pub of-replaced : {put : Put} → ChangeAt file ends change → change ≡ Replaced put → HasPut file ends put
  unfolding ChangeAt
  of-replaced c e = rw e at c

  module _ {f g : ℕ} (x : ExpressionAt file ends Boolean f) (y : ExpressionAt file ends Boolean g) {r : Bool} where
    pub unchanged-words : change ≡ Unchanged → r ≡ same_numbers (part file ends f) (part file ends g) →
        r ≡ same_consequent (boolean_at file f) (changed file change (boolean_at file g))
    unfolding changed consequent_numbers
    unchanged-words e h = rw e (h ∙ consequent-same (tree-at x) (is-verbatim (tree-at y)))

    pub replaced-words : {put : Put} → change ≡ Replaced put → HasPut file ends put →
        r ≡ same_numbers (part file ends f) (exchanged file put (part file ends g)) →
        r ≡ same_consequent (boolean_at file f) (changed file change (boolean_at file g))
    unfolding changed consequent_numbers
    replaced-words e s h =
        rw e
        (h
        ∙ consequent-same (tree-at x) (is-exchanged (put-replaces s.stands) (tree-at y))
        ∙ ap (λ a. same_consequent (boolean_at file f) (replace (boolean_at file g) (replacement a))) (sym (put_is s.stands)))
