-- The count that acceptance reports is the count of the file's words of kinds 33 to 35: only evidence has such words.
-- Assumes nothing.
--     is_evidence_word, evidence_in, count-length   words of these kinds among those of trees
--     node_none                                  expressions, commands and sets have none
--     Counts, tree-tally                         a verdict with this count; the count of evidence by its words
--     pre-counts, set-counts, flow-counts        evidence, as it is judged
--     count-words, file-counted                  a file, as it is judged, by its words
use mathlib.Core.Path.{◌≡◌, refl, ◌∙◌, ap, ap₂}
use mathlib.Core.Bool.{Bool, true, false, ◌&&◌, cond}
use mathlib.Core.List.{List, [], ◌∷◌, ◌++◌, map}
use Prim.Native.Nat.{ℕ, zero, suc, ◌+◌, ◌*◌, ◌/◌, ◌<◌, ◌≤◌}
use native.Mathlib.Omega.{arith}
use native.Mathlib.Numerals.{add-one}
use borrow.Author.Tests.{le-leb, lt-leb}
use lib.Dec.{leb}
use lib.ListN.{length, drop}
use lib.Seq.{drop-cons, drop-length}
use Rattle.laws.proofs.Bools.{clash}
use Rattle.language.specs.Syntax.{Boolean, Expr, to_scalar, to_array}
use Rattle.language.specs.Syntax.{Command, skip, sequence, assert, assign, if_else, while, for, call}
use Rattle.rules.specs.Words.{Word, word, for_word}
use Rattle.rules.specs.Assertion.{Members}
use Rattle.rules.specs.Context.{Limits, Context, alone}
use Rattle.rules.specs.Evidence.{flow, implication, precondition, Standing, Tree, by, assertion, command, members}
use Rattle.rules.specs.Evidence.{child, done, ◌&◌, FlowEvidence, SetEvidence, PreEvidence}
use Rattle.rules.specs.Judge.{Verdict, accepted, refused, one_more, ◌also◌, judge}
use Rattle.rules.proofs.Holds.{tally, anywhere, Holding, pre-holds, set_holds, flow-holds}
use Rattle.layout.specs.EvidenceWords.{Part, joined, EachFits, spelled_tree, FitsTree}
use Rattle.layout.specs.Program.{Program, after}
use Rattle.layout.specs.File.{File}
use Rattle.layout.specs.FileWords.{program_parts, ProgramStands, ProgramsStand, table_words, FileStands}
use Rattle.layout.specs.Verdict.{judge_programs}
use Rattle.layout.specs.Bytes.{word_count, number_at, payloads}
use Rattle.layout.specs.Spelling.{SpelledAt}
use Rattle.layout.specs.Standing.{StandsTo}
use Rattle.layout.specs.Counted.{is_evidence, count_evidence}
use Rattle.layout.specs.Nodes.{Node, expression_node, command_node, set_node, node_words, FitsNode, node_part, head_of, parts_of}
use Rattle.layout.specs.Nodes.{kind_of, AllInRange}
use Rattle.layout.proofs.Nodes.{node_law, no-level, kind-at}
use Rattle.layout.proofs.Forms.{sort-kind, low-kind}
use Rattle.layout.proofs.Range.{program-range}
use Rattle.layout.proofs.Stands.{chain-stands}

abbrev is_evidence_word : Word → Bool
is_evidence_word (word k z) = leb 33 k && leb k 35
is_evidence_word (for_word q m) = false

unfoldable pub evidence_in : List Word → ℕ
evidence_in [] = 0
evidence_in (w ∷ l) = cond (is_evidence_word w) (suc (evidence_in l)) (evidence_in l)

pub count-length : (l : List Word) → evidence_in l ≤ length l
unfolding evidence_in
count-length [] = omega arith
count-length (w ∷ l) = go (is_evidence_word w) (count-length l)
  where
    go : (t : Bool) → evidence_in l ≤ length l → cond t (suc (evidence_in l)) (evidence_in l) ≤ suc (length l)
    go true h = omega arith
    go false h = omega arith

count-append : (l m : List Word) → evidence_in (l ++ m) ≡ evidence_in l + evidence_in m
unfolding evidence_in
count-append [] m = omega arith
count-append (w ∷ l) m = go (is_evidence_word w) (count-append l m)
  where
    go : (t : Bool) → evidence_in (l ++ m) ≡ evidence_in l + evidence_in m →
        cond t (suc (evidence_in (l ++ m))) (evidence_in (l ++ m))
        ≡ cond t (suc (evidence_in l)) (evidence_in l) + evidence_in m
    go true e = omega (arith, e)
    go false e = e

-- expressions, commands and sets have none
low-none : (w : Word) → kind_of w < 24 → is_evidence_word w ≡ false
low-none (word k z) h = rw (lt-leb 33 k (omega arith))
low-none (for_word q m) h = refl

word_none : (x : Node) → is_evidence_word (head_of x) ≡ false
word_none (expression_node {k = j} e) = low-none (head_of (expression_node e)) (low-kind j (sort-kind e))
word_none (command_node Γ skip) = refl
word_none (command_node Γ (sequence c d)) = refl
word_none (command_node Γ (assert b)) = refl
word_none (command_node Γ (assign (to_scalar x e))) = refl
word_none (command_node Γ (assign (to_array a e))) = refl
word_none (command_node Γ (if_else b c d)) = refl
word_none (command_node Γ (while b c)) = refl
word_none (command_node Γ (for q m c)) = refl
word_none (command_node Γ (call n c)) = refl
word_none (set_node Γ p) = refl

parts_none : {d : ℕ} → ((x : Node) → FitsNode x d → evidence_in (node_words x) ≡ 0) → (l : List Node) (at : ℕ) →
    EachFits (map node_part l) d at → evidence_in (joined (map node_part l)) ≡ 0
unfolding joined EachFits evidence_in
parts_none f [] at h = refl
parts_none f (x ∷ l) at h =
    let e = count-append (node_words x) (joined (map node_part l)) in
    omega (arith, e, f x h.0, parts_none f l _ h.1)

node_none : (d : ℕ) (x : Node) → FitsNode x d → evidence_in (node_words x) ≡ 0
unfolding evidence_in
node_none zero x h = absurd (no-level x h)
node_none (suc d) x h =
    rw ((node_law x).spelling, word_none x) (parts_none (λ y g. node_none d y g) (parts_of x) 0 ((node_law x).fits d 0 h).1)

-- the count of parts, one after the other
abbrev counts : List Part → ℕ
counts [] = 0
counts (x ∷ l) = evidence_in x.spelling + counts l

joined-counts : (l : List Part) → evidence_in (joined l) ≡ counts l
unfolding joined evidence_in
joined-counts [] = refl
joined-counts (x ∷ l) =
    count-append x.spelling (joined l) ∙ ap (λ n. evidence_in x.spelling + n) (joined-counts l)

-- a verdict whose count, if it is an acceptance, is m
pub record Counts (v : Verdict) (m : ℕ) : Type 0 where
  pub counted : (n : ℕ) → v ≡ accepted n → n ≡ m

refused-counts : (k i m : ℕ) → Counts (refused k i) m
refused-counts k i m = record { counted = λ n e. absurd (let z : ◌≡◌ {A = ℕ} 0 1 = cc in omega (arith, z)) }

also_counts : (v w : Verdict) {m n : ℕ} → Counts v m → Counts w n → Counts (v also w) (m + n)
unfolding ◌also◌
also_counts (accepted a) (accepted b) g h =
    let x = g.counted a refl in
    let y = h.counted b refl in
    record { counted = λ k e. let z : a + b ≡ k = cc in omega (arith, x, y, z) }
also_counts (accepted a) (refused k i) g h = refused-counts k i _
also_counts (refused k i) w g h = refused-counts k i _

pub tree-tally : (Γ : Context) {s : Standing} (t : Tree s) (d at : ℕ) → FitsTree Γ t d at → evidence_in (spelled_tree t) ≡ tally t
unfolding spelled_tree FitsTree evidence_in
tree-tally Γ (by r i t) zero at h = absurd h
tree-tally Γ (by {j = flow} r i t) (suc d) at h = ap suc (tree-tally Γ t d (at + 1) h.1)
tree-tally Γ (by {j = implication} r i t) (suc d) at h = ap suc (tree-tally Γ t d (at + 1) h.1)
tree-tally Γ (by {j = precondition} r i t) (suc d) at h = ap suc (tree-tally Γ t d (at + 1) h.1)
tree-tally Γ (assertion φ) d at h = node_none d (expression_node φ) h
tree-tally Γ (command c) d at h = node_none d (command_node Γ c) h
tree-tally Γ (members p) d at h = node_none d (set_node Γ p) h
tree-tally Γ (child k) d at h = tree-tally Γ k d at h
tree-tally Γ done d at h = refl
tree-tally Γ (x & t) d at h =
    count-append (spelled_tree x) (spelled_tree t)
    ∙ ap₂ (λ m n. m + n) (tree-tally Γ x d at h.0) (tree-tally Γ t d (at + length (spelled_tree x)) h.1)

counting : Holding (λ i. Unit {0}) Counts
unfolding one_more
counting = record {
  nothing = record { counted = λ n e. cc };
  both = λ v w m n g h. also_counts v w g h;
  passed = passed;
  failed = λ i m h. refused-counts 8 i m;
  large = λ i m h. refused-counts 9 i m;
}
  where
    passed : (v : Verdict) (m : ℕ) → Counts v m → Counts (one_more v) (suc m)
    passed (accepted a) m h =
        let x = h.counted a refl in
        record { counted = λ k z. let u : suc a ≡ k = cc in omega (arith, x, u) }
    passed (refused k i) m h = refused-counts k i (suc m)

module _ (Γ : Context) where
  pub pre-counts : (k : PreEvidence) (φ : Expr Boolean) (c : Command) (φ' : Expr Boolean) →
      Counts (judge Γ k φ c φ') (tally k)
  pre-counts k φ c φ' = pre-holds counting Γ k φ c φ' (anywhere (λ i. tt) k)

  pub set-counts : (k : SetEvidence) (p q : Members) → Counts (judge Γ k p q) (tally k)
  set-counts k p q = set_holds counting Γ k p q (anywhere (λ i. tt) k)

  pub flow-counts : (k : FlowEvidence) (p : Members) (c : Command) (q : Members) →
      Counts (judge Γ k p c q) (tally k)
  flow-counts k p c q = flow-holds counting Γ k p c q (anywhere (λ i. tt) k)

-- ---- the same by the words of the file
same_kind : (n : ℕ) (w : Word) → n / payloads ≡ kind_of w → is_evidence n ≡ is_evidence_word w
same_kind n (word k z) e = ap (λ j. leb 33 j && leb j 35) e
same_kind n (for_word q m) e = ap (λ j. leb 33 j && leb j 35) e

-- the words from a place on
abbrev from : List ℕ → ℕ → ℕ
from file at = count_evidence (drop at file)

from_next : (file : List ℕ) (at : ℕ) → at < length file →
    from file at ≡ cond (is_evidence (number_at file at)) (suc (from file (at + 1))) (from file (at + 1))
unfolding count_evidence
from_next file at h = rw (drop-cons file at 0 h, add-one) refl

pub count-words : (file : List ℕ) → count_evidence file ≤ length file
unfolding count_evidence
count-words [] = omega arith
count-words (w ∷ l) = go (is_evidence w) (count-words l)
  where
    go : (t : Bool) → count_evidence l ≤ length l → cond t (suc (count_evidence l)) (count_evidence l) ≤ suc (length l)
    go true h = omega arith
    go false h = omega arith

-- words that stand somewhere
count-stands : (file : List ℕ) (at : ℕ) (l : List Word) (p : ℕ) → StandsTo file at l p → AllInRange l →
    from file at ≡ evidence_in l + from file p
unfolding evidence_in
count-stands file at [] p s h = let e = ap (from file) s in omega (arith, e)
count-stands file at (w ∷ l) p s h =
    from_next file at s.0
    ∙ go (is_evidence (number_at file at)) (is_evidence_word w)
    (same_kind (number_at file at) w (kind-at file at w s.1 h.0)) (count-stands file (at + 1) l p s.2 h.1)
  where
    go : (t u : Bool) → t ≡ u → from file (at + 1) ≡ evidence_in l + from file p →
        cond t (suc (from file (at + 1))) (from file (at + 1)) ≡ cond u (suc (evidence_in l)) (evidence_in l) + from file p
    go true true e k = omega arith
    go true false e k = clash refl e
    go false true e k = clash e refl
    go false false e k = k

module _ (Γ : Context) (file : List ℕ) where
  -- a program: its evidence has all of its count
  program-count : (f : Program) → ProgramStands Γ file f → from file f.start ≡ tally f.evidence + from file f.past
  program-count f h =
      let d = Γ.limits.depth in
      let l = program_parts Γ f in
      let s = chain-stands {file = file} l d f.start f.past
      (f.pre_at, h.command, (f.post_at, h.pre, (f.evidence_at, h.post, (f.past, h.evidence, refl)))) in
      let x = node_none d (command_node Γ f.command) h.command.fit in
      let y = node_none d (set_node Γ f.pre) h.pre.fit in
      let z = node_none d (set_node Γ f.post) h.post.fit in
      let e = joined-counts l in
      let t = tree-tally Γ f.evidence d f.evidence_at h.evidence.fit in
      let k = count-stands file f.start (joined l) f.past s.stand (program-range Γ f f.start s.fit) in
      omega (arith, x, y, z, e, t, k)

-- past the last word there is none
from_end : (file : List ℕ) → from file (word_count file) ≡ 0
unfolding count_evidence
from_end file = ap count_evidence (drop-length file)

programs-counted : (Γ : Context) (file : List ℕ) (l : List Program) (f : Program) (at : ℕ) →
    ProgramsStand Γ file l f at (word_count file) → Counts (judge_programs Γ l f) (from file at)
unfolding judge_programs
programs-counted Γ file [] f at h =
    let x = program-count Γ file f h.1 in
    let y = ap (from file) h.2 ∙ from_end file in
    let z = ap (from file) h.0 in
    let k = flow-counts Γ f.evidence f.pre f.command f.post in
    record { counted = λ n e. let u = k.counted n e in omega (arith, x, y, z, u) }
programs-counted Γ file (g ∷ l) f at h =
    let x = program-count Γ file g h.1 in
    let z = ap (from file) h.0 in
    let k = also_counts _ _ (flow-counts Γ g.evidence g.pre g.command g.post)
    (programs-counted (after Γ g) file l f g.past h.2) in
    record { counted = λ n e. let u = k.counted n e in omega (arith, x, z, u) }

-- words 63:n and 62:k are no evidence
head-none : (k n : ℕ) → 35 < k → is_evidence (k * payloads + n) ≡ false
head-none k n h =
    let l : 35 < (k * payloads + n) / payloads = omega arith in
    rw (lt-leb ((k * payloads + n) / payloads) 35 l)
    (rw (le-leb 33 ((k * payloads + n) / payloads) (omega arith)) refl)

past_head : (file : List ℕ) (at k n : ℕ) → at < length file → number_at file at ≡ k * payloads + n → 35 < k →
    from file at ≡ from file (at + 1)
past_head file at k n h e l = from_next file at h ∙ rw (e, head-none k n l) refl

past-table : (file : List ℕ) (l : List Program) → SpelledAt file 1 (table_words l) →
    from file 1 ≡ from file (1 + length (table_words l))
past-table file [] h = refl
past-table file (g ∷ l) h = past_head file 1 62 (length (g ∷ l)) h.0 h.1 (omega arith)

pub file-counted : (limits : Limits) (file : List ℕ) (f : File) → FileStands limits file f → 0 < length file →
    Counts (judge_programs (alone limits) f.procedures f.main) (count_evidence file)
unfolding count_evidence
file-counted limits file f h some =
    let k = programs-counted (alone limits) file f.procedures f.main _ h.programs in
    let x = past_head file 0 63 (word_count file) some h.count (omega arith) in
    let y = past-table file f.procedures h.table in
    let z : from file 0 ≡ count_evidence file = refl in
    record { counted = λ n e. let u = k.counted n e in omega (arith, x, y, z, u) }
