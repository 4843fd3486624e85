-- Where the plain form of a boolean starts: past each side whose words are all and or true.
-- Assumes nothing.
--     true-words, words-true                   a plain form is true exactly when each word is and or true
--     true-test                                as the first other word tells
--     first-low, first-found, first-none, other-until
--                                              the first word that is neither and nor true
--     Descends, descends_start                 the boolean there has the plain form, and what is dropped lies before it
--     AndAt, and_at                            an and, and its operands
--     place_inside, second-boolean, second-further, first-listed
--                                              the places that a turn looks at
--     left-dropped, right-dropped, and-settled, other-settled
--                                              a turn of the search; its end
--     boolean-inside, from-other               a boolean that is no and
use mathlib.Core.Path.{◌≡◌, refl, sym, ap, subst, ◌∙◌}
use mathlib.Core.Bool.{Bool, true, false, not, ◌&&◌, ◌||◌, cond, false≢true, true≢false}
use mathlib.Core.List.{List}
use mathlib.Core.Logic.{◌⊎◌, inl, inr}
use Prim.Native.Nat.{ℕ, ◌+◌, ◌-◌, ◌<◌, ◌≤◌}
use native.Mathlib.Omega.{arith}
use borrow.Author.Tests.{eqb-true, eq-eqb, lt-ltb}
use lib.Dec.{eqb, ltb}
use lib.ListN.{length, get_or, take, drop, length-take, length-drop}
use Rattle.std.specs.Prelude.{Some, None}
use Rattle.std.specs.List.{position, position_or_len}
use Rattle.std.proofs.lemmas.List.{get_or-take, get_or-drop}
use Rattle.std.proofs.lemmas.List.Quantifiers.{position-Some}
use Rattle.std.proofs.lemmas.List.Sums.{fails_before_first}
use Rattle.std.proofs.lemmas.Option.{none-some}
use Rattle.laws.proofs.Bools.{and_left, and_right, and_both, or-second}
use Rattle.language.specs.Syntax.{Boolean, Expr, compare, truth, and, or, neg}
use Rattle.rules.specs.Plain.{is_true, plain_and, plain}
use Rattle.rules.specs.Tests.{same_antecedent}
use Rattle.rules.proofs.Plain.{is_true_lem}
use Rattle.layout.specs.Bytes.{word_of, kind_at}
use Rattle.ends.specs.Ends.{EndsOf}
use Rattle.ends.specs.Places.{end_at, WrittenAt}
use Rattle.ends.proofs.Sizes.{lt_or_le}
use Rattle.ends.proofs.Places.{parts_at, node_head, node_inside}
use Rattle.matching.specs.Places.{ExpressionAt}
use Rattle.compare.specs.Trees.{boolean_at}
use Rattle.compare.specs.Plain.{AndOrTrue, FirstOther, Settled, PlainFrom, StartOf}
use Rattle.compare.proofs.Trees.{tree_is, tree-at}
use Rattle.compare.proofs.PlainTests.{plain-answer, told_true, told_other, and_left-true, and_right-true}

-- ---- words

true-and : (b c : Expr Boolean) → is_true (plain_and b c) ≡ (is_true b && is_true c)
true-and b c = go (is_true b) (is_true c) refl refl
  where
    go : (t u : Bool) → is_true b ≡ t → is_true c ≡ u → is_true (cond t c (cond u b (and b c))) ≡ (t && u)
    go true u h k = k
    go false true h k = h
    go false false h k = refl

-- a word of another kind
other_word : {A : Type 0} (file : List ℕ) (at : ℕ) → (kind_at file at ≡ 10 → ⊥) → (kind_at file at ≡ 9 → ⊥) → AndOrTrue file at → A
other_word file at g h (inl e) = absurd (g (omega (arith, e)))
other_word file at g h (inr e) = absurd (h (omega (arith, e)))

module _ {file ends : List ℕ} (o : EndsOf file ends) where
  -- each word of the part at a place
  abbrev AllAndTrue : ℕ → Type 0
  AllAndTrue at = (p : ℕ) → at ≤ p → p < end_at ends at → AndOrTrue file p

  pub true-words : (φ : Expr Boolean) {at : ℕ} → WrittenAt file ends φ at → is_true (plain φ) ≡ true → AllAndTrue at
  unfolding plain
  true-words (compare r a b) x h p l u = absurd (false≢true h)
  true-words (truth true) {at} x h p l u =
      let y = parts_at o x in
      let e = node_head x in
      let here : p ≡ at = omega arith in
      inr (ap (λ i. get_or file i 0) here ∙ omega (arith, e.kind, e.content))
  true-words (truth false) x h p l u = absurd (false≢true h)
  true-words (and b c) {at} x h p l u =
      let y = parts_at o x in
      let e = node_head x in
      let t = sym (true-and (plain b) (plain c)) ∙ h in
      elim (lt_or_le at p) [
        | inl i ↦ elim (lt_or_le p (end_at ends (at + 1))) [
          | inl j ↦ true-words b y.0 (and_left (is_true (plain b)) _ t) p (omega arith) j
          | inr j ↦ true-words c y.1.0 (and_right (is_true (plain b)) _ t) p j (omega (arith, y.1.1))
        ]
        | inr i ↦ let here : p ≡ at = omega arith in inl (ap (λ i. get_or file i 0) here ∙ omega (arith, e.kind, e.content))
      ]
  true-words (or b c) x h p l u = absurd (false≢true h)
  true-words (neg b) x h p l u = absurd (false≢true h)

  pub words-true : (φ : Expr Boolean) {at : ℕ} → WrittenAt file ends φ at → AllAndTrue at → is_true (plain φ) ≡ true
  unfolding plain
  words-true (compare r a b) {at} x f =
      let e = node_head x in
      other_word file at (λ k. omega (arith, k, e.kind)) (λ k. omega (arith, k, e.kind))
      (f at (omega arith) (node_inside x).start)
  words-true (truth true) x f = refl
  words-true (truth false) {at} x f =
      let e = node_head x in
      elim (f at (omega arith) (node_inside x).start) [
        | inl k ↦ absurd (omega (arith, k, e.kind))
        | inr k ↦ absurd (omega (arith, k, e.content))
      ]
  words-true (and b c) {at} x f =
      let y = parts_at o x in
      let i = node_inside y.0 in
      let j = node_inside y.1.0 in
      true-and (plain b) (plain c)
      ∙ and_both
      (words-true b y.0 (λ p l u. f p (omega arith) (omega (arith, y.1.1, j.start))))
      (words-true c y.1.0 (λ p l u. f p (omega (arith, i.start)) (omega (arith, y.1.1))))
  words-true (or b c) {at} x f =
      let e = node_head x in
      other_word file at (λ k. omega (arith, k, e.kind)) (λ k. omega (arith, k, e.kind))
      (f at (omega arith) (node_inside x).start)
  words-true (neg b) {at} x f =
      let e = node_head x in
      other_word file at (λ k. omega (arith, k, e.kind)) (λ k. omega (arith, k, e.kind))
      (f at (omega arith) (node_inside x).start)

  pub true-test : {f to r : ℕ} → ExpressionAt file ends Boolean f → FirstOther file f (end_at ends f) r → to ≡ end_at ends f →
      eqb r to ≡ same_antecedent (boolean_at file f) (truth true)
  unfolding plain
  true-test {f} {to} {r} x q e =
      plain-answer (boolean_at file f) (truth true)
      (record {
        sound = λ h.
            let same = eqb-true r to h in
            is_true_lem (plain (boolean_at file f)) (words-true (boolean_at file f) (tree-at x) λ p l u. q.passed p l (omega arith));
        complete = λ h.
            eq-eqb r to
            (elim (lt_or_le r (end_at ends f)) [
              | inl l ↦ absurd (q.stopped l (true-words (boolean_at file f) (tree-at x) (ap is_true h) r q.low l))
              | inr l ↦ omega (arith, q.high)
            ]);
      })

-- the test of a word
abbrev is-word : ℕ → Bool
is-word x = not (eqb x (word_of 10 0) || eqb x (word_of 9 1))

-- the test of a word
is-neither : (x : ℕ) → is-word x ≡ true → (x ≡ word_of 10 0) ⊎ (x ≡ word_of 9 1) → ⊥
is-neither x h (inl k) = false≢true (sym (rw (eq-eqb x (word_of 10 0) k) refl) ∙ h)
is-neither x h (inr k) = false≢true (sym (rw (eq-eqb x (word_of 9 1) k) (ap not (or-second (eqb x (word_of 10 0)) refl))) ∙ h)

is-either : (x : ℕ) → is-word x ≡ false → (x ≡ word_of 10 0) ⊎ (x ≡ word_of 9 1)
is-either x h = go (eqb x (word_of 10 0)) (eqb x (word_of 9 1)) refl refl h
  where
    go : (t u : Bool) → eqb x (word_of 10 0) ≡ t → eqb x (word_of 9 1) ≡ u → not (t || u) ≡ false → (x ≡ word_of 10 0) ⊎ (x ≡ word_of 9 1)
    go true u i j k = inl (eqb-true _ _ i)
    go false true i j k = inr (eqb-true _ _ j)
    go false false i j k = absurd (true≢false k)

none-before : (n m : ℕ) → None ≡ cond (ltb n m) (Some n) None → m ≤ n
none-before n m h = elim (lt_or_le n m) [
  | inl l ↦ absurd (none-some n (h ∙ rw (lt-ltb n m l) refl))
  | inr l ↦ l
]

module _ (file : List ℕ) (f to : ℕ) (h : f < to) (k : to ≤ length file) where
  -- the words of the range
  abbrev range : List ℕ
  range = take (to - f) (drop f file)

  range-length : length range ≡ to - f
  range-length = grind (arith, length-take, length-drop)

  at-range : (i : ℕ) → i < to - f → get_or range i 0 ≡ get_or file (f + i) 0
  at-range i l = get_or-take (to - f) (drop f file) i 0 l ∙ get_or-drop f file i 0

  pub first-low : {i : ℕ} → Some i ≡ position is-word range → i < to - f
  first-low {i} e = let p = position-Some is-word range i 0 (sym e) in omega (arith, p.0, range-length)

  pub first-found : {i : ℕ} → Some i ≡ position is-word range → FirstOther file f to (f + i)
  first-found {i} e =
      let p = position-Some is-word range i 0 (sym e) in
      let l = first-low e in
      record {
        low = omega arith;
        high = omega arith;
        passed = λ at m u.
            let n : f + (at - f) ≡ at = omega arith in
            subst (AndOrTrue file) n
            (subst (λ x. (x ≡ word_of 10 0) ⊎ (x ≡ word_of 9 1)) (at-range (at - f) (omega arith))
            (is-either (get_or range (at - f) 0) (p.2 (at - f) (omega arith))));
        stopped = λ m x.
            is-neither (get_or file (f + i) 0) (ap is-word (sym (at-range i l)) ∙ p.1) x;
      }

  pub first-none : None ≡ position is-word range → FirstOther file f to to
  first-none e =
      let l : length range ≤ position_or_len is-word range = none-before (position_or_len is-word range) (length range) e in
      let n : length range ≡ to - f = range-length in
      record {
        low = omega arith;
        high = omega arith;
        passed = λ at m u.
            let same : f + (at - f) ≡ at = omega arith in
            subst (AndOrTrue file) same
            (subst (λ x. (x ≡ word_of 10 0) ⊎ (x ≡ word_of 9 1)) (at-range (at - f) (omega arith))
            (is-either (get_or range (at - f) 0) (fails_before_first is-word range (at - f) 0 (omega arith))));
        stopped = λ m x. absurd (omega arith);
      }

-- up to the end by another name
pub other-until : {file : List ℕ} (ends : List ℕ) {f to r : ℕ} → to ≡ end_at ends f → FirstOther file f to r → FirstOther file f (end_at ends f) r
other-until {file} ends {f} {r = r} e q = subst (λ to. FirstOther file f to r) e q

-- ---- the search
pub record AndAt (file ends : List ℕ) (t : Expr Boolean) (s : ℕ) : Type 0 where
  pub left : Expr Boolean
  pub right : Expr Boolean
  pub is : t ≡ and left right
  pub left_at : WrittenAt file ends left (s + 1)
  pub right-at : WrittenAt file ends right (end_at ends (s + 1))
  pub end_is : end_at ends (end_at ends (s + 1)) ≡ end_at ends s

-- p is the first other word of the boolean at f; the search has come to s
pub record Descends (file ends : List ℕ) (f p s : ℕ) : Type 0 where
  pub further : f ≤ s
  pub before : s ≤ p
  pub inside : end_at ends s ≤ end_at ends f
  pub tree : Expr Boolean
  pub there : WrittenAt file ends tree s
  pub same : plain tree ≡ plain (boolean_at file f)

module _ {file ends : List ℕ} (o : EndsOf file ends) where
  pub and_at : (t : Expr Boolean) {s : ℕ} → WrittenAt file ends t s → get_or file s 0 ≡ word_of 10 0 → AndAt file ends t s
  and_at (compare r a b) x h = absurd (omega (arith, h, (node_head x).kind))
  and_at (truth t) x h = absurd (omega (arith, h, (node_head x).kind))
  and_at (and b c) x h =
      let y = parts_at o x in
      record { left = b; right = c; is = refl; left_at = y.0; right-at = y.1.0; end_is = y.1.1 }
  and_at (or b c) x h = absurd (omega (arith, h, (node_head x).kind))
  and_at (neg b) x h = absurd (omega (arith, h, (node_head x).kind))

  settled-other : (t : Expr Boolean) {s : ℕ} → WrittenAt file ends t s → (get_or file s 0 ≡ word_of 10 0 → ⊥) → Settled t
  settled-other (compare r a b) y h = tt
  settled-other (truth t) y h = tt
  settled-other (and b c) y h = let e = node_head y in absurd (h (omega (arith, e.kind, e.content)))
  settled-other (or b c) y h = tt
  settled-other (neg b) y h = tt

  module _ {f p : ℕ} (q : FirstOther file f (end_at ends f) p) where
    pub descends_start : ExpressionAt file ends Boolean f → Descends file ends f p f
    descends_start x = record {
      further = omega arith;
      before = q.low;
      inside = omega arith;
      tree = boolean_at file f;
      there = tree-at x;
      same = refl;
    }

    module _ {s : ℕ} (d : Descends file ends f p s) where
      pub place_inside : s < length file
      place_inside = let i = node_inside d.there in omega (arith, i.start, i.within)

      -- what stands there is no and
      pub other-settled : (get_or file s 0 ≡ word_of 10 0 → ⊥) → StartOf file ends f p s
      other-settled h = record {
        from = record {
          further = d.further;
          inside = d.inside;
          tree = d.tree;
          there = d.there;
          same = d.same;
          settled = settled-other d.tree d.there h;
        };
        left_other = λ e. absurd (h e);
      }

      module _ (h : get_or file s 0 ≡ word_of 10 0) {second : ℕ} (e : second ≡ end_at ends (s + 1)) where
        operands : AndAt file ends d.tree s
        operands = and_at d.tree d.there h

        -- the first other word lies further on
        past : s + 1 ≤ p
        past = elim (lt_or_le s p) [
          | inl l ↦ omega arith
          | inr l ↦
              let here : s ≡ p = omega (arith, d.before) in
              absurd (q.stopped (omega (arith, (node_inside d.there).start, d.inside)) (subst (AndOrTrue file) here (inl h)))
        ]

        second-end : end_at ends second ≡ end_at ends s
        second-end = ap (end_at ends) e ∙ operands.end_is

        second-start : second < end_at ends s
        second-start = omega (arith, e, operands.end_is, (node_inside operands.right-at).start)

        pub second-boolean : ExpressionAt file ends Boolean second
        second-boolean = subst (ExpressionAt file ends Boolean) (sym e) (record { tree = operands.right; there = operands.right-at })

        pub second-further : s < second
        second-further = omega (arith, e, (node_inside operands.left_at).start)

        pub first-listed : s + 1 < length ends
        first-listed = let i = node_inside operands.left_at in omega (arith, i.start, i.within, o.long)

        left-true : second ≤ p → is_true (plain operands.left) ≡ true
        left-true k = words-true o operands.left operands.left_at λ i l u. q.passed i (omega (arith, d.further)) (omega (arith, e))

        left_other : p < second → is_true (plain operands.left) ≡ false
        left_other k = go (is_true (plain operands.left)) refl
          where
            go : (t : Bool) → is_true (plain operands.left) ≡ t → is_true (plain operands.left) ≡ false
            go true i =
                absurd
                (q.stopped (omega (arith, second-start, d.inside))
                (true-words o operands.left operands.left_at i p past (omega (arith, e))))
            go false i = i

        pub left-dropped : second ≤ p → Descends file ends f p second
        left-dropped k = record {
          further = omega (arith, d.further, e, (node_inside operands.left_at).start);
          before = k;
          inside = omega (arith, second-end, d.inside);
          tree = operands.right;
          there = subst (WrittenAt file ends operands.right) (sym e) operands.right-at;
          same =
              sym (and_left-true operands.left operands.right (left-true k)) ∙ ap plain (sym operands.is) ∙ d.same;
        }

        module _ (k : p < second) {r : Bool} (t : r ≡ same_antecedent (boolean_at file second) (truth true)) where
          right_is : boolean_at file second ≡ operands.right
          right_is = ap (boolean_at file) e ∙ tree_is operands.right-at

          pub right-dropped : r ≡ true → Descends file ends f p (s + 1)
          right-dropped i = record {
            further = omega (arith, d.further);
            before = past;
            inside = omega (arith, e, second-start, d.inside);
            tree = operands.left;
            there = operands.left_at;
            same =
                sym
                (and_right-true operands.left operands.right (left_other k)
                (ap (λ c. is_true (plain c)) (sym right_is) ∙ told_true (boolean_at file second) t i))
                ∙ ap plain (sym operands.is) ∙ d.same;
          }

          pub and-settled : r ≡ false → StartOf file ends f p s
          and-settled i = record {
            from = record {
              further = d.further;
              inside = d.inside;
              tree = and operands.left operands.right;
              there = subst (λ t. WrittenAt file ends t s) operands.is d.there;
              same = ap plain (sym operands.is) ∙ d.same;
              settled = (
                left_other k,
                ap (λ c. is_true (plain c)) (sym right_is) ∙ told_other (boolean_at file second) t i,
              );
            };
            left_other = λ _. record {
              low = past;
              high = omega (arith, e);
              passed = λ i l u. q.passed i (omega (arith, d.further)) u;
              stopped = λ l x. q.stopped (omega (arith, second-start, d.inside)) x;
            };
          }

  pub boolean-inside : {f : ℕ} → ExpressionAt file ends Boolean f → f < length file
  boolean-inside x = let i = node_inside x.there in omega (arith, i.start, i.within)

  -- a boolean that is no and drops nothing at its first word
  pub from-other : {f : ℕ} → ExpressionAt file ends Boolean f → (get_or file f 0 ≡ word_of 10 0 → ⊥) → PlainFrom file ends f f
  from-other {f} x h = record {
    further = omega arith;
    inside = omega arith;
    tree = boolean_at file f;
    there = tree-at x;
    same = refl;
    settled = settled-other (boolean_at file f) (tree-at x) h;
  }
