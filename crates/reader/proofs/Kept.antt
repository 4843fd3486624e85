-- A command in the place of another, which is read with as many levels and up to the same place: the readings that start outside of it go
-- on to the same places as before.
-- Assumes nothing.
--     Swapped                           the words of one file are those of another but for a command
--     walk-read                         a walk that goes on is one of what was read
--     Outside                           a place is not behind the command's first word and before its end
--     Kept, first, then, times          readers that go on as before from every place outside; without a word; one part more; so many
--     KeptEntry, given, nothing, either, if-any
--                                       the same of entries of a table
--     due-kept                          by the word that is due
--     expression-kept, command-kept, set-kept, evidence-kept, program-kept
--                                       so do the readers of the layout
--     trace-kept, read_kept             programs one after the other; a whole file
use mathlib.Core.Path.{◌≡◌, refl, sym, ◌∙◌, ap, ap₂, subst}
use mathlib.Core.Bool.{Bool, true, false, ◌&&◌, cond}
use mathlib.Core.List.{List, [], ◌∷◌, ◌++◌}
use mathlib.Core.Option.{Option, none, some}
use Prim.Native.Nat.{ℕ, zero, suc, ◌+◌, ◌*◌, ◌/◌, ◌%◌, ◌<◌, ◌≤◌}
use native.Mathlib.Omega.{arith}
use borrow.Author.Tests.{eq-eqb, ne_eqb, eqb-true, eqb-false}
use lib.Dec.{eqb, ltb, leb}
use Rattle.std.specs.Prelude.{Ok, Err}
use Rattle.language.specs.Syntax.{Sort, Arithmetic, Boolean, Array}
use Rattle.rules.specs.Assertion.{member}
use Rattle.rules.specs.Context.{Limits, Context, alone}
use Rattle.rules.specs.Evidence.{Judgement, flow, implication, precondition, Item, assertion_item, command_item, members_item, child_item, rules}
use Rattle.layout.specs.Bytes.{word_count, number_at, kind_at, payload_at, payloads}
use Rattle.layout.specs.Reading.{Reading, read, fault, Reader, on_read, pure, ◌⊛◌, several, no_level, allowed, word_due, up_to, on_option}
use Rattle.layout.specs.Read.{operator_of, comparison_of, truth_of, expression_word, expression, command, sort_of, consequent_at, member_at, set}
use Rattle.layout.specs.ReadEvidence.{evidence_kind, rule_of, item_reader, parts_reader, evidence}
use Rattle.layout.specs.Program.{program}
use Rattle.layout.specs.File.{File, programs, parts, procedure_table}
use Rattle.layout.specs.Nodes.{expression_node}
use Rattle.layout.proofs.Nodes.{with_levels}
use Rattle.layout.proofs.Forms.{sort-kind, low-kind}
use Rattle.layout.proofs.Yields.{PastBy}
use Rattle.layout.proofs.Spelled.{ExpressionSpelled, expression-past}
use Rattle.reader.specs.Walk.{Walk, walk_of, onward, command_walk}
use Rattle.reader.specs.Program.{Layout, places, program_layout, from_pre, from_post, from_evidence}
use Rattle.reader.specs.File.{ended, headed, read_of}
use Rattle.reader.specs.declared.Places.{Places}
use Rattle.reader.proofs.Walks.{onto, alone as alone-walk, rule_reader}
use Rattle.reader.proofs.Sets.{several-walk}
use Rattle.reader.proofs.Contexts.{command-walk}
use Rattle.reader.proofs.ProgramParts.{program-places}
use Rattle.reader.proofs.Programs.{Trace, ends, stops, trace_of, prepend, on_places, main_at, trace-main, procedure_at, trace-more}

-- w is the file, v the changed one; a command of kind 24 to 28 stands from `place` up to `to` in both
pub record Swapped (w v : List ℕ) (place to : ℕ) : Type 0 where
  pub size : word_count v ≡ word_count w
  pub other : (i : ℕ) → (i ≡ place → ⊥) → (place < i → to ≤ i) → number_at v i ≡ number_at w i
  pub old-least : 24 ≤ kind_at w place
  pub old-most : kind_at w place ≤ 28
  pub new-most : kind_at v place ≤ 28
  pub fits : (d p : ℕ) → command_walk w d place ≡ Ok p → (command_walk v d place ≡ Ok p) × (to ≤ p)

-- a walk that goes on is one of what was read
pub walk-read : {A : Type 0} (x : Reading A) (p : ℕ) → walk_of x ≡ Ok p → (a : A) × (x ≡ read a p)
walk-read (read a q) p e = let h : q ≡ p = cc in (a, ap (read a) h)
walk-read (fault n q) p e = absurd (let z : ◌≡◌ {A = ℕ} 0 1 = cc in omega arith)

onward-next : (s : Walk) (k : ℕ → Walk) (p : ℕ) → onward s k ≡ Ok p → (q : ℕ) × (s ≡ Ok q) × (k q ≡ Ok p)
onward-next (Ok q) k p e = (q, refl, e)
onward-next (Err x) k p e = absurd (let z : ◌≡◌ {A = ℕ} 0 1 = cc in omega arith)

module _ (place to : ℕ) where
  pub record Outside (at : ℕ) : Type 0 where
    pub past : place < at → to ≤ at

  -- y goes on to p, outside
  pub record Goes {B : Type 0} (y : Reader B) (at p : ℕ) : Type 0 where
    pub goes : walk_of (y at) ≡ Ok p
    pub outside : Outside p

  pub record Kept {A B : Type 0} (x : Reader A) (y : Reader B) : Type 0 where
    pub keeps : (at p : ℕ) → Outside at → walk_of (x at) ≡ Ok p → Goes y at p

  -- entries of a table, at a word that stands outside and is not the command's first
  record KeptEntry {A B : Type 0} (o : Option (Reader A)) (u : Option (Reader B)) : Type 0 where
    keeps : (at p : ℕ) → Outside (at + 1) → walk_of (allowed o at) ≡ Ok p → Goes (allowed u) at p

module _ {place to : ℕ} where
  first : {A B : Type 0} {a : A} {b : B} → Kept place to (pure a) (pure b)
  first = record { keeps = λ at p o e. let h : at ≡ p = cc in record { goes = e; outside = rw (← h) o } }

  then :
      {A B C D : Type 0} {x : Reader (A → B)} {t : Reader A} {y : Reader (C → D)} {u : Reader C} → Kept place to x y →
      Kept place to t u → Kept place to (x ⊛ t) (y ⊛ u)
  then {x = x} {t} {y} {u} h k = record {
    keeps = λ at p o e.
        let s = onward-next (walk_of (x at)) (λ q. walk_of (t q)) p (onto x t at refl refl ∙ e) in
        let a = h.keeps at s.0 o s.1 in
        let b = k.keeps s.0 p a.outside s.2 in
        record { goes = sym (onto y u at {s = Ok s.0} (sym b.goes) (sym a.goes)); outside = b.outside };
  }

  times : {A B : Type 0} {x : Reader A} {y : Reader B} (n : ℕ) → Kept place to x y → Kept place to (several n x) (several n y)
  unfolding several
  times zero h = record { keeps = λ at p o e. let q : at ≡ p = cc in record { goes = e; outside = rw (← q) o } }
  times {x = x} {y} (suc n) h = record {
    keeps = λ at p o e.
        let s = onward-next (walk_of (x at)) (λ q. walk_of (several n x q)) p (sym (several-walk x n at) ∙ e) in
        let a = h.keeps at s.0 o s.1 in
        let b = (times n h).keeps s.0 p a.outside s.2 in
        record {
          goes = several-walk y n at ∙ ap (λ (z : Walk). onward z (λ q. walk_of (several n y q))) a.goes ∙ b.goes;
          outside = b.outside;
        };
  }

  module _ {A B : Type 0} where
    given : {x : Reader A} {y : Reader B} → Kept place to x y → KeptEntry place to (some x) (some y)
    given h = record {
      keeps = λ at p o e. let g = h.keeps (at + 1) p o e in record { goes = g.goes; outside = g.outside };
    }

    nothing : KeptEntry place to {A = A} {B = B} none none
    nothing = record { keeps = λ at p o e. absurd (let z : ◌≡◌ {A = ℕ} 0 1 = cc in omega arith) }

    either : (t : Bool) {a c : Option (Reader A)} {b d : Option (Reader B)} → KeptEntry place to a b → KeptEntry place to c d →
        KeptEntry place to (cond t a c) (cond t b d)
    either true h k = h
    either false h k = k

    if-any : {R : Type 0} (o : Option R) {f : R → Reader A} {g : R → Reader B} → ((r : R) → Kept place to (f r) (g r)) →
        KeptEntry place to (on_option o f) (on_option o g)
    if-any none h = nothing
    if-any (some r) h = given (h r)

-- ---- by the word that is due
level-not : (A : Type 0) (w : List ℕ) (at p : ℕ) → walk_of (no_level {A = A} w at) ≡ Ok p → ⊥
level-not A w at p e = go (ltb at (word_count w)) e
  where
    go : (t : Bool) → walk_of {A = A} (cond t (fault 4 at) (fault 3 (word_count w))) ≡ Ok p → ⊥
    go true e = let z : ◌≡◌ {A = ℕ} 0 1 = cc in omega arith
    go false e = let z : ◌≡◌ {A = ℕ} 0 1 = cc in omega arith

-- a word of another kind than the one that a table allows
due-not : {A : Type 0} (w : List ℕ) (at n p : ℕ) (o : ℕ → ℕ → Option (Reader A)) → (kind_at w at ≡ n → ⊥) →
    walk_of (word_due w (λ i k q. cond (eqb k n) (o i q) none) at) ≡ Ok p → ⊥
unfolding word_due
due-not {A} w at n p o h e = go (ltb at (word_count w)) (eqb (kind_at w at) n) (ne_eqb (kind_at w at) n h) e
  where
    go : (t c : Bool) → c ≡ false →
        walk_of {A = A} (elim t [ true ↦ allowed (cond c (o at (payload_at w at)) none) at | false ↦ fault 3 (word_count w) ]) ≡ Ok p → ⊥
    go true true x e = let z : ◌≡◌ {A = ℕ} 0 1 = cc in omega arith
    go true false x e = let z : ◌≡◌ {A = ℕ} 0 1 = cc in omega arith
    go false c x e = let z : ◌≡◌ {A = ℕ} 0 1 = cc in omega arith

-- the walk by the number of the word, in a file of so many
abbrev by_number : {A : Type 0} → (ℕ → ℕ → ℕ → Option (Reader A)) → ℕ → ℕ → ℕ → Walk
by_number {A} s at count x =
    walk_of {A = A} (elim (ltb at count) [ true ↦ allowed (s at (x / payloads) (x % payloads)) at | false ↦ fault 3 count ])

module _ {w v : List ℕ} {place to : ℕ} (h : Swapped w v place to) where
  abbrev Out : ℕ → Type 0
  Out at = Outside place to at

  -- the next place is outside too
  out-next : {at : ℕ} → Out at → (at ≡ place → ⊥) → Out (at + 1)
  out-next {at} o n = record { past = λ l. go (eqb at place) refl l }
    where
      go : (t : Bool) → eqb at place ≡ t → place < at + 1 → to ≤ at + 1
      go true e l = absurd (n (eqb-true at place e))
      go false e l =
          let x : (at ≡ place → ⊥) = n in
          let y : place < at = less (eqb-false at place e) l in omega (arith, o.past y)
        where
          less : (at ≡ place → ⊥) → place < at + 1 → place < at
          less f l = omega arith

  due-kept : {A B : Type 0} {s : ℕ → ℕ → ℕ → Option (Reader A)} {t : ℕ → ℕ → ℕ → Option (Reader B)} →
      ((i k p : ℕ) → KeptEntry place to (s i k p) (t i k p)) → (at p : ℕ) → Out at → (at ≡ place → ⊥) →
      walk_of (word_due w s at) ≡ Ok p → Goes place to (word_due v t) at p
  unfolding word_due
  due-kept {A} {B} {s} {t} f at p o n e =
      let same = h.other at n o.past in
      let g = go (ltb at (word_count w)) e in
      record { goes = ap₂ (by_number t at) h.size same ∙ g.0; outside = g.1 }
    where
      go : (b : Bool) →
          walk_of {A = A} (elim b [
            | true ↦ allowed (s at (kind_at w at) (payload_at w at)) at
            | false ↦ fault 3 (word_count w)
          ]) ≡ Ok p →
          (walk_of {A = B} (elim b [
            | true ↦ allowed (t at (kind_at w at) (payload_at w at)) at
            | false ↦ fault 3 (word_count w)
          ]) ≡ Ok p) × Out p
      go true e =
          let g = (f at (kind_at w at) (payload_at w at)).keeps at p (out-next o n) e in
          (g.goes, g.outside)
      go false e = absurd (let z : ◌≡◌ {A = ℕ} 0 1 = cc in omega arith)

  -- a reader that does not go on from the command, by what it does elsewhere
  elsewhere : {A B : Type 0} {x : Reader A} {y : Reader B} → ((p : ℕ) → walk_of (x place) ≡ Ok p → Goes place to y place p) →
      ((at p : ℕ) → Out at → (at ≡ place → ⊥) → walk_of (x at) ≡ Ok p → Goes place to y at p) → Kept place to x y
  elsewhere {A} {B} {x} {y} f g = record { keeps = λ at p o e. go at p o e (eqb at place) refl }
    where
      go : (at p : ℕ) → Out at → walk_of (x at) ≡ Ok p → (t : Bool) → eqb at place ≡ t → Goes place to y at p
      go at p o e true t =
          let k = eqb-true at place t in
          subst (λ i. Goes place to y i p) (sym k) (f p (ap (λ i. walk_of (x i)) (sym k) ∙ e))
      go at p o e false t = g at p o (eqb-false at place t) e

  -- no expression starts where the command does
  no-expression : (d : ℕ) (j : Sort) (p : ℕ) → walk_of (expression w d j place) ≡ Ok p → ⊥
  no-expression d j p e =
      let r = walk-read (expression w d j place) p e in
      let s = subst (PastBy w place (ExpressionSpelled w d place)) r.1 (expression-past w d j place).past in
      with_levels (expression_node r.0) d s.2 λ n m o.
      omega (arith, o.kind, low-kind j (sort-kind r.0), h.old-least)

  -- by the table of the sort
  entries_kept : (d : ℕ) → ((j : Sort) → Kept place to (expression w d j) (expression v d j)) → (j : Sort) (k p : ℕ) →
      KeptEntry place to (expression_word (expression w d) j k p) (expression_word (expression v d) j k p)
  entries_kept d f Arithmetic k p =
      either (eqb k 1) (given first) (either (eqb k 2) (either (leb p 31) (given first) nothing)
      (either (eqb k 3) (if-any (operator_of p) λ o. then (then first (f Arithmetic)) (f Arithmetic))
      (either (eqb k 4) (either (leb p 0) (given (then (then first (f Array)) (f Arithmetic))) nothing) nothing)))
  entries_kept d f Boolean k p =
      either (eqb k 8) (if-any (comparison_of p) λ r. then (then first (f Arithmetic)) (f Arithmetic))
      (either (eqb k 9) (if-any (truth_of p) λ t. first)
      (either (eqb k 10) (either (leb p 0) (given (then (then first (f Boolean)) (f Boolean))) nothing)
      (either (eqb k 11) (either (leb p 0) (given (then (then first (f Boolean)) (f Boolean))) nothing)
      (either (eqb k 12) (either (leb p 0) (given (then first (f Boolean))) nothing) nothing))))
  entries_kept d f Array k p =
      either (eqb k 16) (either (leb p 31) (given first) nothing)
      (either (eqb k 17) (either (leb p 0) (given first) nothing)
      (either (eqb k 18)
      (either (leb p 0) (given (then (then (then first (f Array)) (f Arithmetic)) (f Arithmetic))) nothing) nothing))

  pub expression-kept : (d : ℕ) (j : Sort) → Kept place to (expression w d j) (expression v d j)
  unfolding expression
  expression-kept zero j = record { keeps = λ at p o e. absurd (level-not _ w at p e) }
  expression-kept (suc d) j =
      elsewhere (λ p e. absurd (no-expression (suc d) j p e))
      (λ at p o n e. due-kept (λ i k q. entries_kept d (expression-kept d) j k q) at p o n e)

  module _ (Γ : Context) where
    pub command-kept : (d : ℕ) → Kept place to (command Γ w d) (command Γ v d)
    unfolding command
    command-kept zero = record { keeps = λ at p o e. absurd (level-not _ w at p e) }
    command-kept (suc d) =
        let body = command-kept d in
        let part = expression-kept d in
        elsewhere
        (λ p e.
        let f = h.fits (suc d) p (command-walk Γ w (suc d) place ∙ e) in
        record { goes = sym (command-walk Γ v (suc d) place) ∙ f.0; outside = record { past = λ l. f.1 } })
        (λ at p o n e. due-kept (λ i k q.
        either (eqb k 24) (either (leb q 0) (given first) nothing)
        (either (eqb k 25) (either (leb q 0) (given (then (then first body) body)) nothing)
        (either (eqb k 26) (either (leb q 0) (given (then first (part Boolean))) nothing)
        (either (eqb k 27) (either (leb q 31) (given (then first (part Arithmetic))) nothing)
        (either (eqb k 28) (either (leb q 31) (given (then first (part Array))) nothing)
        (either (eqb k 29) (either (leb q 0) (given (then (then (then first (part Boolean)) body) body)) nothing)
        (either (eqb k 30) (either (leb q 0) (given (then (then first (part Boolean)) body)) nothing)
        (either (eqb k 31) (either (leb q 1023) (given (then first body)) nothing)
        (either (eqb k 38) (given first) nothing))))))))) at p o n e)

  -- the walk of a consequent is that of an expression, of the sort of its first word
  consequent-walk : (file : List ℕ) (d at : ℕ) → walk_of (expression file d (sort_of (kind_at file at)) at) ≡ walk_of (consequent_at file d at)
  consequent-walk file d at = alone-walk (λ e φ. member φ e) (expression file d (sort_of (kind_at file at))) at

  consequent-kept : (d : ℕ) → Kept place to (consequent_at w d) (consequent_at v d)
  consequent-kept d =
      elsewhere (λ p e. absurd (no-expression d (sort_of (kind_at w place)) p (consequent-walk w d place ∙ e)))
      (λ at p o n e.
      let j : sort_of (kind_at v at) ≡ sort_of (kind_at w at) = ap (λ x. sort_of (x / payloads)) (h.other at n o.past) in
      let g = (expression-kept d (sort_of (kind_at w at))).keeps at p o (consequent-walk w d at ∙ e) in
      record {
        goes = sym (consequent-walk v d at) ∙ ap (λ (i : Sort). walk_of (expression v d i at)) j ∙ g.goes;
        outside = g.outside;
      })

  member-kept : (d : ℕ) → Kept place to (member_at w d) (member_at v d)
  member-kept d = then (then first (expression-kept d Boolean)) (consequent-kept d)

  above : (j : Judgement) → kind_at w place ≡ evidence_kind j → ⊥
  above flow e = omega (arith, h.old-most)
  above implication e = omega (arith, h.old-most)
  above precondition e = omega (arith, h.old-most)

  module _ (Γ : Context) where
    pub set-kept : (d : ℕ) → Kept place to (set Γ w d) (set Γ v d)
    unfolding set
    set-kept zero = record { keeps = λ at p o e. absurd (level-not _ w at p e) }
    set-kept (suc d) =
        elsewhere
        (λ p e. absurd (due-not w place 32 p (λ i q. up_to Γ.limits.members q (several q (member_at w d)))
        (λ k. omega (arith, h.old-most)) e))
        (λ at p o n e. due-kept (λ i k q.
        either (eqb k 32) (either (leb q Γ.limits.members) (given (times q (member-kept d))) nothing) nothing) at p o n e)

    module _ (d : ℕ) (known : (j : Judgement) → Kept place to (evidence Γ w d j) (evidence Γ v d j)) where
      item-kept : (x : Item) →
          Kept place to (item_reader Γ w d (evidence Γ w d) x) (item_reader Γ v d (evidence Γ v d) x)
      item-kept assertion_item = then first (expression-kept d Boolean)
      item-kept command_item = then first (command-kept Γ d)
      item-kept members_item = then first (set-kept d)
      item-kept (child_item j) = then first (known j)

      parts-kept : (l : List Item) →
          Kept place to (parts_reader Γ w d (evidence Γ w d) l) (parts_reader Γ v d (evidence Γ v d) l)
      parts-kept [] = first
      parts-kept (x ∷ l) = then (then first (item-kept x)) (parts-kept l)

    pub evidence-kept : (d : ℕ) (j : Judgement) → Kept place to (evidence Γ w d j) (evidence Γ v d j)
    unfolding evidence
    evidence-kept zero j = record { keeps = λ at p o e. absurd (level-not _ w at p e) }
    evidence-kept (suc d) j =
        elsewhere
        (λ p e. absurd (due-not w place (evidence_kind j) p
        (λ i q. on_option (rule_of q (rules j)) (rule_reader w Γ j i d)) (above j) e))
        (λ at p o n e. due-kept (λ i k q.
        either (eqb k (evidence_kind j)) (if-any (rule_of q (rules j)) λ r. then first (parts-kept d (evidence-kept d) r.after))
        nothing) at p o n e)

    -- ---- programs
    by-kept : {A B : Type 0} {x : Reader A} {y : Reader B} {f g : ℕ → Layout} {s : Places} → Kept place to x y →
        ((q : ℕ) → Out q → f q ≡ Ok s → (g q ≡ Ok s) × Out s.end) → (at : ℕ) → Out at →
        onward (walk_of (x at)) f ≡ Ok s → (onward (walk_of (y at)) g ≡ Ok s) × Out s.end
    by-kept {x = x} {y} {f} {g} {s} k next at o e = go (walk_of (x at)) refl e
      where
        go : (z : Walk) → walk_of (x at) ≡ z → onward z f ≡ Ok s →
            (onward (walk_of (y at)) g ≡ Ok s) × Out s.end
        go (Ok q) z e =
            let a = k.keeps at q o z in
            let b = next q a.outside e in
            (ap (λ (u : Walk). onward u g) a.goes ∙ b.0, b.1)
        go (Err r) z e = absurd (let z : ◌≡◌ {A = ℕ} 0 1 = cc in omega arith)

    pub program-kept : (at : ℕ) {s : Places} → Out at → program_layout (program Γ w at) ≡ Ok s →
        (program_layout (program Γ v at) ≡ Ok s) × Out s.end
    program-kept at {s} o e =
        let d = Γ.limits.depth in
        let g =
        by-kept {f = from_pre Γ w at} {g = from_pre Γ v at} {s = s} (command-kept Γ d) (λ a oa ea.
        by-kept {f = from_post Γ w at a} {g = from_post Γ v at a} {s = s} (set-kept d) (λ b ob eb.
        by-kept {f = from_evidence Γ w at a b} {g = from_evidence Γ v at a b} {s = s} (set-kept d) (λ c oc ec.
        by-kept {f = λ z. Ok (places at a b c z)} {g = λ z. Ok (places at a b c z)} {s = s} (evidence-kept d flow)
        (λ z oz ez. let q : s ≡ places at a b c z = cc in (ez, rw q oz)) c oc ec) b ob eb) a oa ea) at o
        (sym (program-places Γ w at) ∙ e) in
        (program-places Γ v at ∙ g.0, g.1)

    -- ---- programs one after the other
    on-found : (x : Layout) (f : Places → Trace) (l : List ℕ) (s : Places) → on_places x f ≡ ends l s →
        (t : Places) × (x ≡ Ok t) × (f t ≡ ends l s)
    on-found (Ok t) f l s e = (t, refl, e)
    on-found (Err r) f l s e = absurd (let z : ◌≡◌ {A = ℕ} 0 1 = cc in omega arith)

    prepend-ends : (x : Trace) (m l : List ℕ) (s : Places) → prepend m x ≡ ends l s → (k : List ℕ) × (x ≡ ends k s) × (m ++ k ≡ l)
    prepend-ends (ends k t) m l s e = let z : t ≡ s = cc in let y : m ++ k ≡ l = cc in (k, ap (ends k) z, y)
    prepend-ends (stops r) m l s e = absurd (let z : ◌≡◌ {A = ℕ} 0 1 = cc in omega arith)

    pub trace-kept : (k at : ℕ) (l : List ℕ) (s : Places) → Out at → trace_of (programs Γ w k at) ≡ ends l s →
        trace_of (programs Γ v k at) ≡ ends l s
    trace-kept zero at l s o e =
        let x = on-found (program_layout (program Γ w at)) main_at l s (sym (trace-main w Γ at) ∙ e) in
        trace-main v Γ at ∙ ap (λ (r : Layout). on_places r main_at) (program-kept at o x.1).0 ∙ x.2
    trace-kept (suc k) at l s o e =
        let x = on-found (program_layout (program Γ w at)) (procedure_at w Γ k) l s (sym (trace-more w Γ k at) ∙ e) in
        let g = program-kept at o x.1 in
        let y = prepend-ends (trace_of (programs Γ w k x.0.end)) (x.0.start ∷ []) l s x.2 in
        trace-more v Γ k at ∙ ap (λ (r : Layout). on_places r (procedure_at v Γ k)) g.0
        ∙ ap (prepend (x.0.start ∷ [])) (trace-kept k x.0.end y.0 s g.1 y.1) ∙ ap (λ m. ends m s) y.2

  -- ---- the whole file
  -- the command is behind word 0, and behind a word 62:k
  module _ (limits : Limits) (l : List ℕ) (s : Places) where
    not_first : headed w ≡ true → place ≡ 0 → ⊥
    not_first t e =
        let k = eqb-true (number_at w 0) (63 * payloads + word_count w) t in
        let z : kind_at w place ≡ kind_at w 0 = ap (kind_at w) e in
        omega (arith, h.old-most)

    headed-kept : headed w ≡ true → headed v ≡ headed w
    headed-kept t =
        ap₂ (λ x n. eqb x (63 * payloads + n)) (h.other 0 (λ e. not_first t (sym e)) (λ k. absurd (omega arith))) h.size

    module _ (behind : place ≡ 0 → ⊥) where
      table_kept : kind_at w 1 ≡ 62 → trace_of (allowed (procedure_table limits w (payload_at w 1)) 1) ≡ ends l s →
          (kind_at v 1 ≡ 62) × (trace_of (allowed (procedure_table limits v (payload_at v 1)) 1) ≡ ends l s)
      table_kept t e =
          let x : 1 ≡ place → ⊥ = λ z. (let y : kind_at w 1 ≡ kind_at w place = ap (kind_at w) z in omega (arith, h.old-most)) in
          let same = h.other 1 x (λ k. absurd (behind (omega arith))) in
          let o : Out 2 = record { past = λ k. absurd (go x k) } in (
            ap (λ n. n / payloads) same ∙ t,
            subst (λ n. trace_of (allowed (procedure_table limits v (n % payloads)) 1) ≡ ends l s) (sym same)
                (by_count (payload_at w 1) (leb 1 (payload_at w 1) && leb (payload_at w 1) 16) o e),
          )
        where
          go : (1 ≡ place → ⊥) → place < 2 → ⊥
          go x k = behind (omega (arith, x))

          by_count : (n : ℕ) (t : Bool) → Out 2 → trace_of (allowed (cond t (some (programs (alone limits) w n)) none) 1) ≡ ends l s →
              trace_of (allowed (cond t (some (programs (alone limits) v n)) none) 1) ≡ ends l s
          by_count n true o e = trace-kept (alone limits) n 2 l s o e
          by_count n false o e = absurd (let z : ◌≡◌ {A = ℕ} 0 1 = cc in omega arith)

      no_table-kept : (kind_at w 1 ≡ 62 → ⊥) → kind_at v 1 ≡ 62 → ⊥
      no_table-kept n e = go (eqb 1 place) refl
        where
          go : (t : Bool) → eqb 1 place ≡ t → ⊥
          go true t =
              let z : kind_at v 1 ≡ kind_at v place = ap (kind_at v) (eqb-true 1 place t) in
              omega (arith, h.new-most)
          go false t =
              n (ap (λ x. x / payloads) (sym (h.other 1 (eqb-false 1 place t) (λ k. absurd (behind (omega arith))))) ∙ e)

      parts-trace : trace_of (parts limits w) ≡ ends l s → trace_of (parts limits v) ≡ ends l s
      unfolding parts
      parts-trace e = go (eqb (kind_at w 1) 62) refl e
        where
          go : (t : Bool) → eqb (kind_at w 1) 62 ≡ t →
              trace_of (elim t [
                | true ↦ allowed (procedure_table limits w (payload_at w 1)) 1
                | false ↦ programs (alone limits) w 0 1
              ]) ≡ ends l s →
              trace_of (elim (eqb (kind_at v 1) 62) [
                | true ↦ allowed (procedure_table limits v (payload_at v 1)) 1
                | false ↦ programs (alone limits) v 0 1
              ]) ≡ ends l s
          go true t e =
              let x = table_kept (eqb-true (kind_at w 1) 62 t) e in
              ap (λ (b : Bool). trace_of (elim b [
                | true ↦ allowed (procedure_table limits v (payload_at v 1)) 1
                | false ↦ programs (alone limits) v 0 1
              ])) (eq-eqb (kind_at v 1) 62 x.0) ∙ x.1
          go false t e =
              let o : Out 1 = record { past = λ k. absurd (behind (omega arith)) } in
              ap (λ (b : Bool). trace_of (elim b [
                | true ↦ allowed (procedure_table limits v (payload_at v 1)) 1
                | false ↦ programs (alone limits) v 0 1
              ])) (ne_eqb (kind_at v 1) 62 (no_table-kept (eqb-false (kind_at w 1) 62 t)))
              ∙ trace-kept (alone limits) 0 1 l s o e

    -- refusal 6 is by the end alone
    ended-trace : (x y : Reading File) → (trace_of x ≡ ends l s → trace_of y ≡ ends l s) → trace_of (on_read x (ended w)) ≡ ends l s →
        trace_of (on_read y (ended v)) ≡ ends l s
    unfolding ended
    ended-trace (fault n p) y f e = absurd (let z : ◌≡◌ {A = ℕ} 0 1 = cc in omega arith)
    ended-trace (read g p) y f e = go (ltb p (word_count w)) refl e y f
      where
        go : (t : Bool) → ltb p (word_count w) ≡ t → trace_of (elim t [ true ↦ fault 6 p | false ↦ read g p ]) ≡ ends l s →
            (y : Reading File) → (trace_of (read g p) ≡ ends l s → trace_of y ≡ ends l s) → trace_of (on_read y (ended v)) ≡ ends l s
        go true t e y f = absurd (let z : ◌≡◌ {A = ℕ} 0 1 = cc in omega arith)
        go false t e (fault n q) f = f e
        go false t e (read k q) f =
            let x = f e in
            let m : s ≡ places g.main.start g.main.pre_at g.main.post_at g.main.evidence_at p = cc in
            let n : s ≡ places k.main.start k.main.pre_at k.main.post_at k.main.evidence_at q = cc in
            let a : q ≡ p = ap (λ (z : Places). z.end) (sym n ∙ m) in
            ap (λ (b : Bool). trace_of (elim b [ true ↦ fault 6 q | false ↦ read k q ]))
            (ap₂ ltb a h.size ∙ t) ∙ x

    pub read_kept : trace_of (read_of limits w) ≡ ends l s → trace_of (read_of limits v) ≡ ends l s
    unfolding read_of
    read_kept e = go (headed w) refl e
      where
        go : (t : Bool) → headed w ≡ t → trace_of (elim t [ true ↦ on_read (parts limits w) (ended w) | false ↦ fault 2 0 ]) ≡ ends l s →
            trace_of (elim (headed v) [ true ↦ on_read (parts limits v) (ended v) | false ↦ fault 2 0 ]) ≡ ends l s
        go true t e =
            ap (λ (b : Bool). trace_of (elim b [ true ↦ on_read (parts limits v) (ended v) | false ↦ fault 2 0 ])) (headed-kept t ∙ t)
            ∙ ended-trace (parts limits w) (parts limits v) (parts-trace (not_first t)) e
        go false t e = absurd (let z : ◌≡◌ {A = ℕ} 0 1 = cc in omega arith)
