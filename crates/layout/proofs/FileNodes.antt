-- In a file that was read and whose calls are right, each word is the first of an expression, a command or a set that stands there, of a
-- program or of evidence; or its kind is above 32, and it is no call. A command stands there under the context with all procedures.
-- Assumes nothing.
--     WordAt, Words    what a word is the first of; each word between two places
--     file-words       the law
use mathlib.Core.Path.{◌≡◌, ap, subst}
use mathlib.Core.List.{List, [], ◌∷◌, map}
use mathlib.Core.Logic.{inl, inr}
use Prim.Native.Nat.{ℕ, zero, suc, ◌+◌, ◌*◌, ◌/◌, ◌<◌, ◌≤◌}
use native.Mathlib.Omega.{arith}
use native.Mathlib.Nat.{eq-or-lt_of_le}
use native.Mathlib.Decide.{dec_lt}
use lib.IntN.{pos}
use lib.ListN.{length}
use Rattle.language.specs.Syntax.{Sort, Expr, constant, scalar, operation, select, compare, truth, and, or, neg}
use Rattle.language.specs.Syntax.{array, zeros, update, to_scalar, to_array}
use Rattle.language.specs.Syntax.{Command, skip, sequence, assert, assign, if_else, while, for, call}
use Rattle.rules.specs.Assertion.{Members}
use Rattle.rules.specs.Words.{word}
use Rattle.rules.specs.Context.{Limits, Context, alone}
use Rattle.rules.specs.Resolved.{Resolved, Carried}
use Rattle.rules.specs.Evidence.{Judgement, flow, implication, precondition}
use Rattle.rules.specs.Evidence.{Standing, Tree, by, assertion, command, members, child, done, ◌&◌}
use Rattle.layout.specs.Bytes.{word_count, number_at, kind_at, payloads}
use Rattle.layout.specs.ReadEvidence.{evidence_kind}
use Rattle.layout.specs.Spelling.{SpelledAt}
use Rattle.layout.specs.EvidenceWords.{expression_part, command_part, set_part, spelled_tree, FitsTree}
use Rattle.layout.specs.Nodes.{Node, expression_node, command_node, set_node, node_part, halves, parts_of}
use Rattle.layout.specs.Standing.{PartStands, Chain}
use Rattle.layout.specs.Program.{Program, after, after_all}
use Rattle.layout.specs.File.{File}
use Rattle.layout.specs.FileWords.{ProgramStands, ProgramsStand, table_words, FileStands}
use Rattle.layout.proofs.SpelledEvidence.{TreeAt, parted-trees}
use Rattle.layout.proofs.BackEvidence.{rule-range}
use Rattle.layout.proofs.Nodes.{kind-at, no-level, opened}
use Rattle.layout.proofs.WholeFile.{CallsAllowed}
use Rattle.layout.proofs.Resolved.{Grows, grows_all, command-moved, resolved-more, ProgramResolved, ProgramsResolved}
use Rattle.layout.proofs.Resolved.{right-calls, file-resolved}

-- Δ is the context with all procedures
module _ (file : List ℕ) (Δ : Context) where
  -- a word of kind 33 to 35, 62 or 63
  pub record NoNode (at : ℕ) : Type 0 where
    pub above : 32 < kind_at file at
    pub no_call : kind_at file at ≡ 38 → ⊥

  pub data WordAt : ℕ → Type 0 where
    of-expression : {at p : ℕ} {k : Sort} (d : ℕ) (e : Expr k) → PartStands file (expression_part e) (suc d) at p → WordAt at
    of-command : {at p : ℕ} (d : ℕ) (c : Command) → suc d ≤ Δ.limits.depth →
        PartStands file (command_part Δ c) (suc d) at p → Resolved Δ.procedures c → WordAt at
    of-set : {at p : ℕ} (d : ℕ) (Γ : Context) (m : Members) → PartStands file (set_part Γ m) (suc d) at p → WordAt at
    of_none : {at : ℕ} → NoNode at → WordAt at

  pub record Words (at p : ℕ) : Type 0 where
    pub each : (j : ℕ) → at ≤ j → j < p → WordAt j

  ended : {at p : ℕ} → at ≡ p → Words at p
  ended e = record { each = λ j l k. absurd (omega arith) }

  both : {at q p : ℕ} → Words at q → Words q p → Words at p
  both {q} f g = record { each = λ j l k. elim (dec_lt j q) [ yes i ↦ f.each j l i | no i ↦ g.each j (omega arith) k ] }

  first : {at p : ℕ} → WordAt at → Words (at + 1) p → Words at p
  first f g = record {
    each = λ j l k. elim (eq-or-lt_of_le l) [ inl e ↦ subst WordAt e f | inr i ↦ g.each j (omega arith) k ];
  }

  -- a command is read under a context with fewer procedures, and its calls hold their bodies
  abbrev NodeResolved : Node → Type 0
  NodeResolved (expression_node e) = Unit {0}
  NodeResolved (command_node Γ c) = Grows Γ Δ × Resolved Γ.procedures c
  NodeResolved (set_node Γ p) = Unit {0}

  abbrev AllResolved : List Node → Type 0
  AllResolved [] = Unit {0}
  AllResolved (x ∷ l) = NodeResolved x × AllResolved l

  halves-right : (p : Members) → AllResolved (halves p)
  halves-right [] = tt
  halves-right (m ∷ p) = (tt, (tt, halves-right p))

  expression-right : {k : Sort} (e : Expr k) → AllResolved (parts_of (expression_node e))
  expression-right (constant z) = tt
  expression-right (scalar x) = tt
  expression-right (operation o a b) = (tt, (tt, tt))
  expression-right (select h i) = (tt, (tt, tt))
  expression-right (compare r a b) = (tt, (tt, tt))
  expression-right (truth t) = tt
  expression-right (and b c) = (tt, (tt, tt))
  expression-right (or b c) = (tt, (tt, tt))
  expression-right (neg b) = (tt, tt)
  expression-right (array a) = tt
  expression-right zeros = tt
  expression-right (update h i a) = (tt, (tt, (tt, tt)))

  parts-right : (x : Node) → NodeResolved x → AllResolved (parts_of x)
  parts-right (expression_node e) r = expression-right e
  parts-right (command_node Γ skip) r = tt
  parts-right (command_node Γ (sequence c d)) (g, r) = ((g, r.0), ((g, r.1), tt))
  parts-right (command_node Γ (assert b)) r = (tt, tt)
  parts-right (command_node Γ (assign (to_scalar x e))) r = (tt, tt)
  parts-right (command_node Γ (assign (to_array a e))) r = (tt, tt)
  parts-right (command_node Γ (if_else b c d)) (g, r) = (tt, ((g, r.0), ((g, r.1), tt)))
  parts-right (command_node Γ (while b c)) (g, r) = (tt, ((g, r), tt))
  parts-right (command_node Γ (for q m c)) (g, r) = ((g, r), tt)
  parts-right (command_node Γ (call n c)) r = tt
  parts-right (set_node Γ p) r = halves-right p

  node_at : (d : ℕ) (x : Node) {at p : ℕ} → suc d ≤ Δ.limits.depth → NodeResolved x →
      PartStands file (node_part x) (suc d) at p → WordAt at
  node_at d (expression_node e) l r s = of-expression d e s
  node_at d (command_node Γ c) l (g, r) s = of-command d c l (command-moved g (suc d) c s r) (resolved-more g.extends c r)
  node_at d (set_node Γ m) l r s = of-set d Γ m s

  parts-words : {d : ℕ} → ((x : Node) (at p : ℕ) → NodeResolved x → PartStands file (node_part x) d at p → Words at p) → (l : List Node)
      (at p : ℕ) → AllResolved l → Chain file (map node_part l) d at p → Words at p
  parts-words f [] at p r c = ended c
  parts-words f (x ∷ l) at p r c = both (f x at c.0 r.0 c.1) (parts-words f l c.0 p r.1 c.2)

  node-words : (d : ℕ) → d ≤ Δ.limits.depth → (x : Node) (at p : ℕ) → NodeResolved x → PartStands file (node_part x) d at p → Words at p
  node-words zero l x at p r s = absurd (no-level x s.fit)
  node-words (suc d) l x at p r s =
      first (node_at d x l r s)
      (parts-words (λ y i q u t. node-words d (omega arith) y i q u t) (parts_of x) (at + 1) p (parts-right x r)
      (opened x d s).parts_at)

  evidence-above : (j : Judgement) → (32 < evidence_kind j) × (evidence_kind j < 38)
  evidence-above flow = (omega arith, omega arith)
  evidence-above implication = (omega arith, omega arith)
  evidence-above precondition = (omega arith, omega arith)

  evidence-word : (j : Judgement) {at : ℕ} → kind_at file at ≡ evidence_kind j → WordAt at
  evidence-word j {at} e =
      let h = evidence-above j in
      of_none {at = at} (record { above = omega (arith, e, h.0); no_call = λ k. omega (arith, e, h.1) })

  module _ (Γ : Context) (g : Grows Γ Δ) where
    tree-words : {s : Standing} (t : Tree s) (d at p : ℕ) → d ≤ Δ.limits.depth → Carried Γ.procedures t →
        TreeAt Γ file d at t p → Words at p
    unfolding spelled_tree FitsTree
    tree-words (by r i t) zero at p l c s = absurd s.fit
    tree-words (by {j = j} {n = m} r i t) (suc d) at p l c s =
        first (evidence-word j (kind-at file at (word (evidence_kind j) (pos m)) s.stand.1 (rule-range r)))
        (tree-words t d (at + 1) p (omega arith) c (record { stand = s.stand.2; fit = s.fit.1 }))
    tree-words (assertion φ) d at p l c s = node-words d l (expression_node φ) at p tt s
    tree-words (command k) d at p l c s = node-words d l (command_node Γ k) at p (g, c) s
    tree-words (members m) d at p l c s = node-words d l (set_node Γ m) at p tt s
    tree-words (child k) d at p l c s = tree-words k d at p l c s
    tree-words done d at p l c s = ended s.stand
    tree-words (x & t) d at p l c s =
        let y = parted-trees Γ file x t d at p s in
        both (tree-words x d at y.0 l c.0 y.1) (tree-words t d y.0 p l c.1 y.2)

    program-words : (f : Program) → ProgramStands Γ file f → ProgramResolved Γ f → Words f.start f.past
    program-words f h r =
        let d = Γ.limits.depth in
        let e : d ≡ Δ.limits.depth = ap (λ l. l.depth) g.limits in
        let l : d ≤ Δ.limits.depth = omega arith in
        both (node-words d l (command_node Γ f.command) f.start f.pre_at (g, r.command) h.command)
        (both (node-words d l (set_node Γ f.pre) f.pre_at f.post_at tt h.pre)
        (both (node-words d l (set_node Γ f.post) f.post_at f.evidence_at tt h.post)
        (tree-words f.evidence d f.evidence_at f.past l r.carried h.evidence)))

programs-words : (file : List ℕ) (Γ : Context) (l : List Program) (f : Program) (at p : ℕ) → ProgramsStand Γ file l f at p →
    ProgramsResolved Γ l f → Words file (after_all Γ l) at p
programs-words file Γ [] f at p (s, h, e) r =
    rw (← s, ← e) (program-words file Γ Γ (grows_all Γ []) f h r)
programs-words file Γ (g ∷ l) f at p (s, h, x) r =
    rw (← s)
    (both file (after_all Γ (g ∷ l)) (program-words file (after_all Γ (g ∷ l)) Γ (grows_all Γ (g ∷ l)) g h r.0)
    (programs-words file (after Γ g) l f g.past p x r.1))

-- words 63:n and 62:k
header_word : (file : List ℕ) (Δ : Context) (at k n : ℕ) → 38 < k → number_at file at ≡ k * payloads + n → WordAt file Δ at
header_word file Δ at k n l e = of_none (record { above = (go (number_at file at) e).0; no_call = (go (number_at file at) e).1 })
  where
    go : (x : ℕ) → x ≡ k * payloads + n → (32 < x / payloads) × (x / payloads ≡ 38 → ⊥)
    go x e = (omega arith, λ h. omega arith)

module _ (file : List ℕ) (limits : Limits) (f : File) (s : FileStands limits file f) (called : CallsAllowed limits file f) where
  table-words : (l : List Program) (Δ : Context) {p : ℕ} → SpelledAt file 1 (table_words l) →
      Words file Δ (1 + length (table_words l)) p → Words file Δ 1 p
  table-words [] Δ t x = x
  table-words (g ∷ l) Δ t x = first file Δ (header_word file Δ 1 62 (length (g ∷ l)) (omega arith) t.1) x

  pub file-words : Words file (after_all (alone limits) f.procedures) 0 (word_count file)
  file-words =
      let Δ = after_all (alone limits) f.procedures in
      let r = file-resolved file limits f.procedures f.main _ s.programs (right-calls file f.procedures called) in
      first file Δ (header_word file Δ 0 63 (word_count file) (omega arith) s.count)
      (table-words f.procedures Δ s.table
      (programs-words file (alone limits) f.procedures f.main _ (word_count file) s.programs r))
