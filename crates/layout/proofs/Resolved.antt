-- Where no call is wrong (refusal 16), every call of a file holds the body of its procedure (document 02, request [3]).
-- Assumes nothing.
--     item-more, item-below, item-last     what stands in a list that is longer; that something stands there; the last of a list
--     TableExtends, resolved-more          a table that has all of another; commands that are resolved in it
--     CallsBelow, narrow                   calls between two places are to numbers below a bound; in a part of it
--     Bodies                               the bodies of a table are resolved in it
--     command-resolved, tree-resolved      what stands where the calls are to numbers of the table
--     command-moved, set-moved             it stands in the same way under a context with more procedures
--     ProgramResolved, ProgramsResolved    a program whose calls hold their bodies; procedures and the main program
--     RightCalls, right-calls              no call is wrong, place by place
--     file-resolved                        the programs of a file
use mathlib.Core.Path.{◌≡◌, refl, sym, ◌∙◌, ap, subst}
use mathlib.Core.Bool.{Bool, true, false, not, ◌&&◌}
use mathlib.Core.List.{List, [], ◌∷◌, ◌++◌, append_assoc}
use mathlib.Core.Logic.{◌⊎◌, inl, inr}
use mathlib.Core.Option.{Option, none, some}
use Prim.Native.Nat.{ℕ, zero, suc, ◌+◌, ◌<◌, ◌≤◌}
use native.Mathlib.Omega.{arith}
use borrow.Author.Tests.{eqb-true, eqb-false, eq-eqb, ltb-true, ltb-false, le-leb, lt-leb}
use lib.Dec.{eqb, ltb}
use lib.IntN.{pos}
use lib.ListN.{length, length-append}
use Rattle.laws.proofs.Bools.{clash}
use Rattle.language.specs.Syntax.{to_scalar, to_array, Command, skip, sequence, assert, assign, if_else, while, for, call}
use Rattle.rules.specs.Words.{word, words, command_words}
use Rattle.rules.specs.Assertion.{Members}
use Rattle.rules.specs.Context.{Limits, Procedure, Context, alone, item_at, body_of}
use Rattle.rules.specs.Evidence.{Standing, Tree, by, assertion, command, members, child, done, ◌&◌}
use Rattle.rules.specs.Resolved.{Resolved, Carried}
use Rattle.layout.specs.Bytes.{word_count, kind_at, payload_at}
use Rattle.layout.specs.Reading.{first_place}
use Rattle.layout.specs.Spelling.{FitsCommand, FitsSet}
use Rattle.layout.specs.EvidenceWords.{command_part, set_part, tree_part, spelled_tree, FitsTree}
use Rattle.layout.specs.Standing.{PartStands}
use Rattle.layout.specs.Program.{Program, procedure_of, after, after_all}
use Rattle.layout.specs.Call.{callable, wrong_call}
use Rattle.layout.specs.FileWords.{ProgramStands, ProgramsStand}
use Rattle.layout.proofs.Nodes.{kind-at, content-at}
use Rattle.layout.proofs.Stands.{parted, stands-end, rest, less-fit}
use Rattle.layout.proofs.SpelledEvidence.{parted-trees}
use Rattle.layout.proofs.WholeFile.{program-inside}

less-next : (a i : ℕ) → a ≤ i → (a ≡ i → ⊥) → suc a ≤ i
less-next a i h n = go (ltb a i) refl
  where
    go : (b : Bool) → ltb a i ≡ b → suc a ≤ i
    go true e = omega (arith, ltb-true a i e)
    go false e = absurd (n (omega (arith, ltb-false a i e)))

-- ---- tables of procedures
module _ {A : Type 0} where
  pub item-more : (l m : List A) (n : ℕ) (k : A) → item_at l n ≡ some k → item_at (l ++ m) n ≡ some k
  unfolding item_at
  item-more [] m n k e = absurd (let z : ◌≡◌ {A = ℕ} 0 1 = cc in omega (arith, z))
  item-more (x ∷ l) m zero k e = e
  item-more (x ∷ l) m (suc n) k e = item-more l m n k e

  pub item-below : (l : List A) (n : ℕ) → n < length l → (k : A) × (item_at l n ≡ some k)
  unfolding item_at
  item-below [] n h = absurd (omega arith)
  item-below (x ∷ l) zero h = (x, refl)
  item-below (x ∷ l) (suc n) h = item-below l n (omega arith)

  pub item-last : (l : List A) (x : A) (n : ℕ) (k : A) → item_at (l ++ (x ∷ [])) n ≡ some k → (item_at l n ≡ some k) ⊎ (k ≡ x)
  unfolding item_at
  item-last [] x zero k e = inr (cc)
  item-last [] x (suc n) k e = absurd (let z : ◌≡◌ {A = ℕ} 0 1 = cc in omega (arith, z))
  item-last (y ∷ l) x zero k e = inl e
  item-last (y ∷ l) x (suc n) k e = item-last l x n k e

-- m has all that l has
pub record TableExtends (l m : List Procedure) : Type 0 where
  pub has : (n : ℕ) (k : Procedure) → item_at l n ≡ some k → item_at m n ≡ some k

pub resolved-more : {l m : List Procedure} → TableExtends l m → (c : Command) → Resolved l c → Resolved m c
resolved-more x skip r = tt
resolved-more x (sequence c d) r = (resolved-more x c r.0, resolved-more x d r.1)
resolved-more x (assert b) r = tt
resolved-more x (assign a) r = tt
resolved-more x (if_else b c d) r = (resolved-more x c r.0, resolved-more x d r.1)
resolved-more x (while b c) r = resolved-more x c r
resolved-more x (for q m c) r = resolved-more x c r
resolved-more x (call n c) (k, e, b, r) = (k, x.has n k e, b, resolved-more x c r)

-- the bodies of a table are resolved in it
pub record Bodies (l : List Procedure) : Type 0 where
  pub body : (n : ℕ) (k : Procedure) → item_at l n ≡ some k → Resolved l k.body

extends-after : (l : List Procedure) (x : Procedure) → TableExtends l (l ++ (x ∷ []))
extends-after l x = record { has = λ n k e. item-more l (x ∷ []) n k e }

bodies-after : (l : List Procedure) (x : Procedure) → Bodies l → Resolved l x.body → Bodies (l ++ (x ∷ []))
bodies-after l x b r = record {
  body = λ n k e. elim (item-last l x n k e) [
    | inl h ↦ resolved-more (extends-after l x) k.body (b.body n k h)
    | inr h ↦ resolved-more (extends-after l x) k.body (rw h r)
  ];
}

-- ---- what stands where the calls are to numbers of the table
pub record CallsBelow (file : List ℕ) (m at p : ℕ) : Type 0 where
  pub below : (i : ℕ) → at ≤ i → i < p → kind_at file i ≡ 38 → payload_at file i < m

pub narrow : {file : List ℕ} {m a b at p : ℕ} → CallsBelow file m a b → a ≤ at → p ≤ b → CallsBelow file m at p
narrow x g h = record { below = λ i j k e. x.below i (omega (arith, g, j)) (omega (arith, h, k)) e }

module _ (Γ : Context) (file : List ℕ) (bodies : Bodies Γ.procedures) where
  abbrev CallsLow : ℕ → ℕ → Type 0
  CallsLow at p = CallsBelow file (length Γ.procedures) at p

  pub command-resolved : (d : ℕ) (c : Command) (at p : ℕ) → PartStands file (command_part Γ c) d at p → CallsLow at p →
      Resolved Γ.procedures c
  unfolding command_words FitsCommand
  command-resolved zero c at p s x = absurd s.fit
  command-resolved (suc d) skip at p s x = tt
  command-resolved (suc d) (sequence c₁ c₂) at p s x =
      parted (command_words c₁) (command_words c₂) (rest s) λ q u v.
      let i = stands-end file (at + 1) (command_words c₁) q u.stand in
      let j = stands-end file q (command_words c₂) p v.stand in (
        command-resolved d c₁ (at + 1) q u (narrow x (omega arith) (omega (arith, j))),
        command-resolved d c₂ q p v (narrow x (omega (arith, i)) (omega arith)),
      )
  command-resolved (suc d) (assert b) at p s x = tt
  command-resolved (suc d) (assign a) at p s x = tt
  command-resolved (suc d) (if_else b c₁ c₂) at p s x =
      parted (words b) (command_words c₁ ++ command_words c₂) (rest s) λ o t w.
      parted (command_words c₁) (command_words c₂) w λ q u v.
      let h = stands-end file (at + 1) (words b) o t.stand in
      let i = stands-end file o (command_words c₁) q u.stand in
      let j = stands-end file q (command_words c₂) p v.stand in (
        command-resolved d c₁ o q u (narrow x (omega (arith, h)) (omega (arith, j))),
        command-resolved d c₂ q p v (narrow x (omega (arith, h, i)) (omega arith)),
      )
  command-resolved (suc d) (while b c) at p s x =
      parted (words b) (command_words c) (rest s) λ q u v.
      let i = stands-end file (at + 1) (words b) q u.stand in
      command-resolved d c q p v (narrow x (omega (arith, i)) (omega arith))
  command-resolved (suc d) (for q m c) at p s x =
      command-resolved d c (at + 1) p (less-fit (rest s)) (narrow x (omega arith) (omega arith))
  command-resolved (suc d) (call n c) at p s x =
      let k = kind-at file at (word 38 (pos n)) s.stand.1 (s.fit.0, refl, refl) in
      let e = content-at file at (word 38 (pos n)) s.stand.1 (s.fit.0, refl, refl) in
      let end = stands-end file at (command_words (call n c)) p s.stand in
      let low : n < length Γ.procedures = omega (arith, x.below at (omega arith) (omega (arith, end)) k, e) in
      let y = item-below Γ.procedures n low in
      let same : c ≡ y.0.body = s.fit.1 ∙ ap body_of y.1 in
      (y.0, y.1, same, subst (Resolved Γ.procedures) (sym same) (bodies.body n y.0 y.1))

  pub tree-resolved : {t : Standing} (k : Tree t) (d at p : ℕ) → PartStands file (tree_part Γ k) d at p → CallsLow at p →
      Carried Γ.procedures k
  unfolding spelled_tree FitsTree
  tree-resolved (by r i t) zero at p s x = absurd s.fit
  tree-resolved (by r i t) (suc d) at p s x =
      tree-resolved t d (at + 1) p (less-fit (rest s)) (narrow x (omega arith) (omega arith))
  tree-resolved (assertion φ) d at p s x = tt
  tree-resolved (command c) d at p s x = command-resolved d c at p s x
  tree-resolved (members q) d at p s x = tt
  tree-resolved (child k) d at p s x = tree-resolved k d at p s x
  tree-resolved done d at p s x = tt
  tree-resolved (y & t) d at p s x =
      let u = parted-trees Γ file y t d at p s in
      let i = stands-end file at (spelled_tree y) u.0 u.1.stand in
      let j = stands-end file u.0 (spelled_tree t) p u.2.stand in (
        tree-resolved y d at u.0 u.1 (narrow x (omega arith) (omega (arith, j))),
        tree-resolved t d u.0 p u.2 (narrow x (omega (arith, i)) (omega arith)),
      )

-- ---- the same under a context with more procedures
pub record Grows (Γ Δ : Context) : Type 0 where
  pub limits : Γ.limits ≡ Δ.limits
  pub extends : TableExtends Γ.procedures Δ.procedures

module _ {Γ Δ : Context} (g : Grows Γ Δ) where
  command-fits : (d : ℕ) (c : Command) → FitsCommand Γ c d → Resolved Γ.procedures c → FitsCommand Δ c d
  unfolding FitsCommand
  command-fits zero c f r = f
  command-fits (suc d) skip f r = tt
  command-fits (suc d) (sequence c₁ c₂) f r = (command-fits d c₁ f.0 r.0, command-fits d c₂ f.1 r.1)
  command-fits (suc d) (assert b) f r = f
  command-fits (suc d) (assign (to_scalar x e)) f r = f
  command-fits (suc d) (assign (to_array a e)) f r = f
  command-fits (suc d) (if_else b c₁ c₂) f r =
      (f.0, (command-fits d c₁ f.1.0 r.0, command-fits d c₂ f.1.1 r.1))
  command-fits (suc d) (while b c) f r = (f.0, command-fits d c f.1 r)
  command-fits (suc d) (for q m c) f r = (f.0, command-fits d c f.1 r)
  command-fits (suc d) (call n c) f (k, e, b, r) = (f.0, b ∙ ap body_of (sym (g.extends.has n k e)))

  pub command-moved : {file : List ℕ} {at p : ℕ} (d : ℕ) (c : Command) → PartStands file (command_part Γ c) d at p →
      Resolved Γ.procedures c → PartStands file (command_part Δ c) d at p
  command-moved d c s r = record { stand = s.stand; fit = command-fits d c s.fit r }

  set-fits : (d : ℕ) (q : Members) → FitsSet Γ q d → FitsSet Δ q d
  unfolding FitsSet
  set-fits zero q f = f
  set-fits (suc d) q f = ((subst (λ l. length q ≤ l.members) g.limits f.0.0, f.0.1), f.1)

  pub set-moved : {file : List ℕ} {at p : ℕ} (d : ℕ) (q : Members) → PartStands file (set_part Γ q) d at p →
      PartStands file (set_part Δ q) d at p
  set-moved d q s = record { stand = s.stand; fit = set-fits d q s.fit }

pub grows_itself : (Γ : Context) → Grows Γ Γ
grows_itself Γ = record { limits = refl; extends = record { has = λ n k e. e } }

pub grows_after : (Γ : Context) (f : Program) → Grows Γ (after Γ f)
grows_after Γ f = record { limits = refl; extends = extends-after Γ.procedures (procedure_of f) }

pub grows_again : {Γ Δ Θ : Context} → Grows Γ Δ → Grows Δ Θ → Grows Γ Θ
grows_again g h = record {
  limits = g.limits ∙ h.limits;
  extends = record { has = λ n k e. h.extends.has n k (g.extends.has n k e) };
}

pub grows_all : (Γ : Context) (l : List Program) → Grows Γ (after_all Γ l)
grows_all Γ [] = grows_itself Γ
grows_all Γ (f ∷ l) = grows_again (grows_after Γ f) (grows_all (after Γ f) l)

-- ---- the programs of a file
-- the calls of a program, and of the commands that its evidence carries
pub record ProgramResolved (Γ : Context) (f : Program) : Type 0 where
  pub command : Resolved Γ.procedures f.command
  pub carried : Carried Γ.procedures f.evidence

abbrev pub ProgramsResolved : Context → List Program → Program → Type 0
ProgramsResolved Γ [] f = ProgramResolved Γ f
ProgramsResolved Γ (g ∷ l) f = ProgramResolved Γ g × ProgramsResolved (after Γ g) l f

-- no call is wrong
pub record RightCalls (file : List ℕ) (l : List Program) : Type 0 where
  pub right : (i : ℕ) → i < word_count file → wrong_call file l i ≡ false

none_before : (t : ℕ → Bool) (n at : ℕ) → first_place t n at ≡ none → (i : ℕ) → at ≤ i → i < at + n → t i ≡ false
unfolding first_place
none_before t zero at e i h k = absurd (omega arith)
none_before t (suc n) at e i h k =
    go (t at) (eqb at i) refl refl e λ y m. none_before t n (suc at) y i m (omega (arith, k))
  where
    go : (b d : Bool) → t at ≡ b → eqb at i ≡ d →
        ◌≡◌ {A = Option ℕ} (elim b [ true ↦ some at | false ↦ first_place t n (suc at) ]) none →
        (first_place t n (suc at) ≡ none → suc at ≤ i → t i ≡ false) → t i ≡ false
    go true d x z y again = absurd (let z : ◌≡◌ {A = ℕ} 0 1 = cc in omega (arith, z))
    go false true x z y again = subst (λ j. t j ≡ false) (eqb-true at i z) x
    go false false x z y again = again y (less-next at i h (eqb-false at i z))

pub right-calls : (file : List ℕ) (l : List Program) → first_place (wrong_call file l) (word_count file) 0 ≡ none → RightCalls file l
right-calls file l e = record { right = λ i h. none_before (wrong_call file l) (word_count file) 0 e i (omega arith) (omega (arith, h)) }

-- every one of them ends at a place or before it
abbrev AllPast : List Program → ℕ → Type 0
AllPast [] at = Unit {0}
AllPast (f ∷ l) at = (f.past ≤ at) × AllPast l at

all-later : (l : List Program) (at i : ℕ) → at ≤ i → AllPast l at → AllPast l i
all-later [] at i h a = tt
all-later (f ∷ l) at i h a = (omega (arith, h, a.0), all-later l at i h a.1)

all_more : (l : List Program) (f : Program) (at : ℕ) → AllPast l at → f.past ≤ at → AllPast (l ++ (f ∷ [])) at
all_more [] f at a h = (h, tt)
all_more (g ∷ l) f at a h = (a.0, all_more l f at a.1 h)

-- those that end before it may be called
callable-past : (l m : List Program) (i : ℕ) → AllPast l i → callable (l ++ m) i ≡ length l + callable m i
callable-past [] m i a = omega arith
callable-past (f ∷ l) m i a = rw (le-leb f.past i a.0) (let e = callable-past l m i a.1 in omega (arith, e))

-- and no more inside the next
callable-inside : (f : Program) (l : List Program) (i : ℕ) → i < f.past → callable (f ∷ l) i ≡ 0
callable-inside f l i h = rw (lt-leb f.past i h) refl

-- a call that is not wrong
right-below : (file : List ℕ) (l : List Program) (i : ℕ) → wrong_call file l i ≡ false → kind_at file i ≡ 38 →
    payload_at file i < callable l i
right-below file l i e k = go (ltb (payload_at file i) (callable l i)) refl (rw (eq-eqb (kind_at file i) 38 k) at e)
  where
    go : (b : Bool) → ltb (payload_at file i) (callable l i) ≡ b → (true && not b) ≡ false → payload_at file i < callable l i
    go true x y = ltb-true _ _ x
    go false x y = clash refl y

module _ (file : List ℕ) where
  ordered : (Γ : Context) (f : Program) → ProgramStands Γ file f →
      (f.start ≤ f.pre_at) × (f.pre_at ≤ f.evidence_at) × (f.evidence_at ≤ f.past)
  ordered Γ f h =
      let a = stands-end file f.start (command_part Γ f.command).spelling f.pre_at h.command.stand in
      let b = stands-end file f.pre_at (set_part Γ f.pre).spelling f.post_at h.pre.stand in
      let c = stands-end file f.post_at (set_part Γ f.post).spelling f.evidence_at h.post.stand in
      let d = stands-end file f.evidence_at (tree_part Γ f.evidence).spelling f.past h.evidence.stand in
      (omega (arith, a), omega (arith, b, c), omega (arith, d))

  program-resolved : (Γ : Context) (f : Program) → ProgramStands Γ file f → Bodies Γ.procedures →
      CallsBelow file (length Γ.procedures) f.start f.past → ProgramResolved Γ f
  program-resolved Γ f h b x =
      let o = ordered Γ f h in
      let d = Γ.limits.depth in
      record {
        command = command-resolved Γ file b d f.command f.start f.pre_at h.command
            (narrow x (omega arith) (omega (arith, o.1, o.2)));
        carried = tree-resolved Γ file b f.evidence d f.evidence_at f.past h.evidence
            (narrow x (omega (arith, o.0, o.1)) (omega arith));
      }

  -- `before` are the procedures that ended before `at`
  programs-resolved : (Γ : Context) (before l : List Program) (f : Program) (at : ℕ) →
      ProgramsStand Γ file l f at (word_count file) → length Γ.procedures ≡ length before → AllPast before at →
      Bodies Γ.procedures → RightCalls file (before ++ l) → ProgramsResolved Γ l f
  programs-resolved Γ before [] f at (s, h, e) n a b r =
      program-resolved Γ f h b (record {
        below = λ i j k w.
            let x = right-below file (before ++ []) i (r.right i (omega (arith, e, k))) w in
            let y = callable-past before [] i (all-later before at i (omega (arith, s, j)) a) in
            omega (arith, x, y, n);
      })
  programs-resolved Γ before (g ∷ l) f at (s, h, x) n a b r =
      let o = ordered Γ g h in
      let own = program-resolved Γ g h b (record {
        below = λ i j k w.
            let inside = program-inside Γ file g h in
            let u = right-below file (before ++ (g ∷ l)) i (r.right i (omega (arith, inside, k))) w in
            let v = callable-past before (g ∷ l) i (all-later before at i (omega (arith, s, j)) a) in
            let z = callable-inside g l i k in
            omega (arith, u, v, z, n);
      }) in
      let m = length-append Γ.procedures (procedure_of g ∷ []) in
      let m' = length-append before (g ∷ []) in (
        own,
        programs-resolved (after Γ g) (before ++ (g ∷ [])) l f g.past x (omega (arith, n, m, m'))
            (all_more before g g.past (all-later before at g.past (omega (arith, s, o.0, o.1, o.2)) a) (omega arith))
            (bodies-after Γ.procedures (procedure_of g) b own.command)
            (subst (RightCalls file) (sym (append_assoc before (g ∷ []) l)) r),
      )

  no-bodies : Bodies []
  unfolding item_at
  no-bodies = record { body = λ n k e. absurd (let z : ◌≡◌ {A = ℕ} 0 1 = cc in omega (arith, z)) }

  pub file-resolved : (limits : Limits) (l : List Program) (f : Program) (at : ℕ) →
      ProgramsStand (alone limits) file l f at (word_count file) → RightCalls file l → ProgramsResolved (alone limits) l f
  file-resolved limits l f at h r = programs-resolved (alone limits) [] l f at h refl tt no-bodies r
