-- What stands at a place has the kind and the payload of its first word there, and its parts stand one after the other from the
-- next place on (document 01, "Layout"). One law for each form of expression, command and set, and what follows for all.
-- Assumes nothing.
--     constant-range .. truth-range        words of kinds 1, 3, 8 and 9 are in range
--     NodeLaw, node_law                    the words of a node are its first word and its parts'; so is what fits
--     node_deeper                          what fits with some levels left fits with more
--     encode-tells                         a word in range is told by its number
--     kind-at, content-at                  the kind and the payload of a word that stands there
--     Inside, words_inside, node_inside    what stands there has a word, and ends within the file
--     Opened, opened, with_levels          a node that stands there, by its first word and its parts
--     node_range                           each of its words is in range
use mathlib.Core.Path.{◌≡◌, refl, sym, ap, ap₂, subst, ◌∙◌}
use mathlib.Core.Bool.{Bool, true, false, ◌||◌, cond}
use mathlib.Core.List.{List, [], ◌∷◌, ◌++◌, map, append-nil, append_assoc}
use Prim.Native.Nat.{ℕ, zero, suc, ◌+◌, ◌*◌, ◌<◌, ◌≤◌}
use native.Mathlib.Omega.{arith}
use borrow.Author.Tests.{eq-eqb}
use lib.Dec.{eqb}
use lib.IntN.{ℤ, pos}
use lib.ListN.{length}
use Rattle.language.specs.Syntax.{Operator, plus, minus, times, Comparison, equal, less, at_most}
use Rattle.language.specs.Syntax.{constant, scalar, operation, select, compare, truth, and, or, neg}
use Rattle.language.specs.Syntax.{array, zeros, update, to_scalar, to_array}
use Rattle.language.specs.Syntax.{skip, sequence, assert, assign, if_else, while, for, call}
use Rattle.rules.specs.Words.{Word, word, for_word, words, command_words}
use Rattle.rules.specs.Words.{operator_payload, comparison_payload, truth_payload}
use Rattle.rules.specs.Assertion.{Members}
use Rattle.layout.specs.Bytes.{word_count, number_at, kind_at, payload_at, payloads}
use Rattle.layout.specs.Spelling.{payload_of, encode, FitsConstant, FitsExpression, FitsCommand, FitsSet, members_words, FitsMembers}
use Rattle.layout.specs.EvidenceWords.{joined, EachFits}
use Rattle.layout.specs.Nodes.{Node, expression_node, command_node, set_node, node_words, FitsNode, node_part, halves, head_of, parts_of}
use Rattle.layout.specs.Nodes.{kind_of, content_of, range_of, integer_of, InRange, AllInRange, count_of}
use Rattle.layout.specs.Standing.{StandsTo, Stands, PartStands, Chain}
use Rattle.layout.proofs.Constant.{payload-small, constant_of-payload}
use Rattle.layout.proofs.Words.{quotient, remainder}
use Rattle.layout.proofs.Stands.{stands-end, stands-inside, stands-chain}

pub constant-range : (z : ℤ) → FitsConstant z → InRange (word 1 z)
constant-range z h = (payload-small z h, constant_of-payload z h, refl)

pub operator_range : (o : Operator) → InRange (word 3 (operator_payload o))
operator_range plus = (omega arith, refl, refl)
operator_range minus = (omega arith, refl, refl)
operator_range times = (omega arith, refl, refl)

pub comparison_range : (r : Comparison) → InRange (word 8 (comparison_payload r))
comparison_range equal = (omega arith, refl, refl)
comparison_range less = (omega arith, refl, refl)
comparison_range at_most = (omega arith, refl, refl)

pub truth-range : (t : Bool) → InRange (word 9 (truth_payload t))
truth-range false = (omega arith, refl, refl)
truth-range true = (omega arith, refl, refl)

-- w is the first word of x, and l its parts
pub record NodeLaw (x : Node) (w : Word) (l : List Node) : Type 0 where
  pub spelling : node_words x ≡ w ∷ joined (map node_part l)
  pub fits : (d at : ℕ) → FitsNode x (suc d) → InRange w × EachFits (map node_part l) d at
  pub deeper : (d n at : ℕ) → FitsNode x (suc d) → EachFits (map node_part l) n at → FitsNode x (suc n)
  pub count : count_of (kind_of w) (content_of w) ≡ length l

module _ {x : Node} {w : Word} where
  leaf-node : node_words x ≡ w ∷ [] → ((d : ℕ) → FitsNode x (suc d) → InRange w) →
      ((d n : ℕ) → FitsNode x (suc d) → FitsNode x (suc n)) → count_of (kind_of w) (content_of w) ≡ 0 → NodeLaw x w []
  unfolding joined EachFits
  leaf-node e f g n = record { spelling = e; fits = λ d at h. (f d h, tt); deeper = λ d n at h k. g d n h; count = n }

  one : {y : Node} → node_words x ≡ w ∷ node_words y → ((d : ℕ) → FitsNode x (suc d) → InRange w × FitsNode y d) →
      ((d n : ℕ) → FitsNode x (suc d) → FitsNode y n → FitsNode x (suc n)) → count_of (kind_of w) (content_of w) ≡ 1 →
      NodeLaw x w (y ∷ [])
  unfolding joined EachFits
  one {y} e f g n = record {
    spelling = e ∙ ap (λ l. w ∷ l) (sym (append-nil (node_words y)));
    fits = λ d at h. let k = f d h in (k.0, (k.1, tt));
    deeper = λ d n at h k. g d n h k.0;
    count = n;
  }

  two : {y z : Node} → node_words x ≡ w ∷ (node_words y ++ node_words z) →
      ((d : ℕ) → FitsNode x (suc d) → InRange w × (FitsNode y d × FitsNode z d)) →
      ((n : ℕ) → FitsNode y n × FitsNode z n → FitsNode x (suc n)) → count_of (kind_of w) (content_of w) ≡ 2 →
      NodeLaw x w (y ∷ z ∷ [])
  unfolding joined EachFits
  two {y} {z} e f g n = record {
    spelling = e ∙ ap (λ l. w ∷ (node_words y ++ l)) (sym (append-nil (node_words z)));
    fits = λ d at h. let k = f d h in (k.0, (k.1.0, (k.1.1, tt)));
    deeper = λ d n at h k. g n (k.0, k.1.0);
    count = n;
  }

  three : {y z u : Node} → node_words x ≡ w ∷ (node_words y ++ (node_words z ++ node_words u)) →
      ((d : ℕ) → FitsNode x (suc d) → InRange w × (FitsNode y d × (FitsNode z d × FitsNode u d))) →
      ((n : ℕ) → FitsNode y n × (FitsNode z n × FitsNode u n) → FitsNode x (suc n)) →
      count_of (kind_of w) (content_of w) ≡ 3 → NodeLaw x w (y ∷ z ∷ u ∷ [])
  unfolding joined EachFits
  three {y} {z} {u} e f g n = record {
    spelling = e ∙ ap (λ l. w ∷ (node_words y ++ (node_words z ++ l))) (sym (append-nil (node_words u)));
    fits = λ d at h. let k = f d h in (k.0, (k.1.0, (k.1.1.0, (k.1.1.1, tt))));
    deeper = λ d n at h k. g n (k.0, (k.1.0, k.1.1.0));
    count = n;
  }

members-words : (p : Members) → members_words p ≡ joined (map node_part (halves p))
unfolding joined
members-words [] = refl
members-words (m ∷ p) =
    append_assoc (words m.antecedent) (words m.consequent) (members_words p)
    ∙ ap (λ l. words m.antecedent ++ (words m.consequent ++ l)) (members-words p)

members-fit : (p : Members) (d at : ℕ) → FitsMembers p d → EachFits (map node_part (halves p)) d at
unfolding EachFits
members-fit [] d at h = tt
members-fit (m ∷ p) d at h = (h.0.0, (h.0.1, members-fit p d _ h.1))

fit-members : (p : Members) (d at : ℕ) → EachFits (map node_part (halves p)) d at → FitsMembers p d
unfolding EachFits
fit-members [] d at h = tt
fit-members (m ∷ p) d at h = ((h.0, h.1.0), fit-members p d _ h.1.1)

members-count : (p : Members) → 2 * length p ≡ length (halves p)
members-count [] = refl
members-count (m ∷ p) = let e = members-count p in omega arith

pub node_law : (x : Node) → NodeLaw x (head_of x) (parts_of x)
unfolding words command_words FitsExpression FitsCommand FitsSet count_of
node_law (expression_node (constant z)) = leaf-node refl (λ d h. constant-range z h) (λ d n h. h) refl
node_law (expression_node (scalar x)) = leaf-node refl (λ d h. (omega arith, refl, refl)) (λ d n h. h) refl
node_law (expression_node (operation o a b)) = two refl (λ d h. (operator_range o, h)) (λ n g. g) refl
node_law (expression_node (select a i)) = two refl (λ d h. ((omega arith, refl, refl), h)) (λ n g. g) refl
node_law (expression_node (compare r a b)) = two refl (λ d h. (comparison_range r, h)) (λ n g. g) refl
node_law (expression_node (truth t)) = leaf-node refl (λ d h. truth-range t) (λ d n h. h) refl
node_law (expression_node (and b c)) = two refl (λ d h. ((omega arith, refl, refl), h)) (λ n g. g) refl
node_law (expression_node (or b c)) = two refl (λ d h. ((omega arith, refl, refl), h)) (λ n g. g) refl
node_law (expression_node (neg b)) = one refl (λ d h. ((omega arith, refl, refl), h)) (λ d n h g. g) refl
node_law (expression_node (array a)) = leaf-node refl (λ d h. (omega arith, refl, refl)) (λ d n h. h) refl
node_law (expression_node zeros) = leaf-node refl (λ d h. (omega arith, refl, refl)) (λ d n h. h) refl
node_law (expression_node (update a i b)) = three refl (λ d h. ((omega arith, refl, refl), h)) (λ n g. g) refl
node_law (command_node Γ skip) = leaf-node refl (λ d h. (omega arith, refl, refl)) (λ d n h. h) refl
node_law (command_node Γ (sequence c₁ c₂)) = two refl (λ d h. ((omega arith, refl, refl), h)) (λ n g. g) refl
node_law (command_node Γ (assert b)) = one refl (λ d h. ((omega arith, refl, refl), h)) (λ d n h g. g) refl
node_law (command_node Γ (assign (to_scalar x e))) = one refl (λ d h. ((omega (arith, h.0), refl, refl), h.1)) (λ d n h g. (h.0, g)) refl
node_law (command_node Γ (assign (to_array a e))) = one refl (λ d h. ((omega (arith, h.0), refl, refl), h.1)) (λ d n h g. (h.0, g)) refl
node_law (command_node Γ (if_else b c₁ c₂)) = three refl (λ d h. ((omega arith, refl, refl), h)) (λ n g. g) refl
node_law (command_node Γ (while b c)) = two refl (λ d h. ((omega arith, refl, refl), h)) (λ n g. g) refl
node_law (command_node Γ (for q m c)) = one refl (λ d h. h) (λ d n h g. (h.0, g)) refl
node_law (command_node Γ (call n c)) = leaf-node refl (λ d h. (h.0, refl, refl)) (λ d n h. h) refl
node_law (set_node Γ p) = record {
  spelling = ap (λ l. word 32 (pos (length p)) ∷ l) (members-words p);
  fits = λ d at h. ((h.0.1, refl, refl), members-fit p d at h.1);
  deeper = λ d n at h g. (h.0, fit-members p n at g);
  count = members-count p;
}

-- a node needs a level
pub no-level : (x : Node) → FitsNode x zero → ⊥
unfolding FitsExpression FitsCommand FitsSet
no-level (expression_node e) h = h
no-level (command_node Γ c) h = h
no-level (set_node Γ p) h = h

-- what fits with some levels left fits with more
parts-deeper : {d n : ℕ} → ((x : Node) → FitsNode x d → FitsNode x n) → (l : List Node) (at : ℕ) →
    EachFits (map node_part l) d at → EachFits (map node_part l) n at
unfolding EachFits
parts-deeper f [] at h = tt
parts-deeper f (x ∷ l) at h = (f x h.0, parts-deeper f l _ h.1)

pub node_deeper : (d n : ℕ) → d ≤ n → (x : Node) → FitsNode x d → FitsNode x n
node_deeper zero n l x h = absurd (no-level x h)
node_deeper (suc d) zero l x h = absurd (omega arith)
node_deeper (suc d) (suc n) l x h =
    (node_law x).deeper d n 0 h (parts-deeper (λ y g. node_deeper d n (omega arith) y g) (parts_of x) 0 ((node_law x).fits d 0 h).1)

-- ---- words that stand in a file
range_small : (k n : ℕ) → n < range_of k → n < payloads
range_small k n h = go (eqb k 2 || (eqb k 16 || (eqb k 27 || eqb k 28))) h
  where
    go : (b : Bool) → n < cond b 32 payloads → n < payloads
    go true h = omega arith
    go false h = h

pub content-small : (w : Word) → InRange w → content_of w < payloads
content-small (word k z) h = range_small k (payload_of z) h.0
content-small (for_word q m) h = omega arith

no-for : (k : ℕ) → k ≡ 31 → eqb k 31 ≡ false → ⊥
no-for k e f = let t = eq-eqb k 31 e in let z : ◌≡◌ {A = ℕ} 0 1 = cc in omega arith

-- a word in range is told by its number
pub encode-tells : (v w : Word) → InRange v → InRange w → encode v ≡ encode w → v ≡ w
encode-tells (word j y) (word k z) f g e =
    let p = content-small (word j y) f in
    let q = content-small (word k z) g in
    let kinds : j ≡ k = omega arith in
    let payloads : payload_of y ≡ payload_of z = omega arith in
    ap₂ word kinds (sym f.1 ∙ ap₂ integer_of kinds payloads ∙ g.1)
encode-tells (word j y) (for_word q m) f g e =
    let p = content-small (word j y) f in
    absurd (no-for j (omega arith) f.2)
encode-tells (for_word q m) (word k z) f g e =
    let p = content-small (word k z) g in
    absurd (no-for k (omega arith) g.2)
encode-tells (for_word q m) (for_word r n) f g e =
    let a : q ≡ r = omega arith in
    let b : m ≡ n = omega arith in
    ap₂ for_word a b

encoded : (w : Word) → encode w ≡ kind_of w * payloads + content_of w
encoded (word k z) = refl
encoded (for_word q m) = refl

pub kind-at : (file : List ℕ) (at : ℕ) (w : Word) → number_at file at ≡ encode w → InRange w → kind_at file at ≡ kind_of w
kind-at file at w e h = quotient (kind_of w) (content_of w) (number_at file at) (e ∙ encoded w) (content-small w h)

pub content-at : (file : List ℕ) (at : ℕ) (w : Word) → number_at file at ≡ encode w → InRange w →
    payload_at file at ≡ content_of w
content-at file at w e h = remainder (kind_of w) (content_of w) (number_at file at) (e ∙ encoded w) (content-small w h)

pub record Inside (file : List ℕ) (at p : ℕ) : Type 0 where
  pub start : at < p
  pub within : p ≤ word_count file

pub words_inside : (file : List ℕ) (at : ℕ) (w : Word) (l : List Word) (p : ℕ) → StandsTo file at (w ∷ l) p → Inside file at p
words_inside file at w l p s =
    let e = stands-end file (at + 1) l p s.2 in
    record { start = omega arith; within = stands-inside file (at + 1) l p s.2 (omega (arith, s.0)) }

-- ---- nodes that stand in a file
-- the first word has its kind and its payload there; the parts stand after it, with d levels left
pub record Opened (file : List ℕ) (x : Node) (d at p : ℕ) : Type 0 where
  pub inside : at < word_count file
  pub in-range : InRange (head_of x)
  pub kind : kind_at file at ≡ kind_of (head_of x)
  pub content : payload_at file at ≡ content_of (head_of x)
  pub parts_at : Chain file (map node_part (parts_of x)) d (at + 1) p

module _ {file : List ℕ} where
  spelled_at : (x : Node) {F : Type 0} {at p : ℕ} → Stands file (node_words x) F at p →
      StandsTo file at (head_of x ∷ joined (map node_part (parts_of x))) p
  spelled_at x {at = at} {p = p} s = subst (λ l. StandsTo file at l p) (node_law x).spelling s.stand

  pub opened : (x : Node) (d : ℕ) {at p : ℕ} → PartStands file (node_part x) (suc d) at p → Opened file x d at p
  opened x d {at} {p} s =
      let t = spelled_at x s in
      let f = (node_law x).fits d (at + 1) s.fit in
      record {
        inside = t.0;
        in-range = f.0;
        kind = kind-at file at (head_of x) t.1 f.0;
        content = content-at file at (head_of x) t.1 f.0;
        parts_at = stands-chain (map node_part (parts_of x)) d (at + 1) p (record { stand = t.2; fit = f.1 });
      }

  -- with however many levels left
  pub with_levels : {C : Type 0} (x : Node) (d : ℕ) {at p : ℕ} → PartStands file (node_part x) d at p →
      ((n : ℕ) → d ≡ suc n → Opened file x n at p → C) → C
  with_levels x zero s f = absurd (no-level x s.fit)
  with_levels x (suc d) s f = f d refl (opened x d s)

  -- the last of some parts
  pub one-part : {l : List Word} {F : Type 0} {at p : ℕ} → (q : ℕ) × Stands file l F at q × (q ≡ p) → Stands file l F at p
  one-part {l} {F} {at} c = subst (λ q. Stands file l F at q) c.2 c.1

  pub node_inside : (x : Node) {F : Type 0} {at p : ℕ} → Stands file (node_words x) F at p → Inside file at p
  node_inside x {at = at} {p = p} s = words_inside file at (head_of x) (joined (map node_part (parts_of x))) p (spelled_at x s)

-- ---- all its words
pub in_range-append : (l m : List Word) → AllInRange l → AllInRange m → AllInRange (l ++ m)
in_range-append [] m h k = k
in_range-append (w ∷ l) m h k = (h.0, in_range-append l m h.1 k)

parts-range : {d : ℕ} → ((x : Node) → FitsNode x d → AllInRange (node_words x)) → (l : List Node) (at : ℕ) →
    EachFits (map node_part l) d at → AllInRange (joined (map node_part l))
unfolding joined EachFits
parts-range f [] at h = tt
parts-range f (x ∷ l) at h =
    in_range-append (node_words x) (joined (map node_part l)) (f x h.0) (parts-range f l (at + length (node_words x)) h.1)

pub node_range : (d : ℕ) (x : Node) → FitsNode x d → AllInRange (node_words x)
node_range zero x h = absurd (no-level x h)
node_range (suc d) x h =
    let f = (node_law x).fits d 0 h in
    subst AllInRange (sym (node_law x).spelling) (f.0, parts-range (λ y. node_range d y) (parts_of x) 0 f.1)
