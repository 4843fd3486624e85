-- What a walk comes to does not depend on the procedures of the context: a call takes its word alone.
-- Assumes nothing.
--     SameWalk                          two readers walk alike from every place
--     same, first, then                 a reader and itself; readers that take no word; one part more
--     SameEntry, kept, given, nothing, either, if-any
--                                       the same of entries of a table
--     due-same                          by the word that is due
--     command-same, command-walk        of commands
--     set_same, evidence-same           of sets and evidence, under equal limits
use mathlib.Core.Path.{◌≡◌, refl, sym, ◌∙◌, ap}
use mathlib.Core.Bool.{Bool, true, false, cond}
use mathlib.Core.List.{List, [], ◌∷◌}
use mathlib.Core.Option.{Option, none, some}
use Prim.Native.Nat.{ℕ, zero, suc, ◌+◌}
use lib.Dec.{eqb, ltb, leb}
use Rattle.std.specs.Prelude.{Ok, Err}
use Rattle.rules.specs.Context.{Limits, Context, alone, standard}
use Rattle.rules.specs.Evidence.{Judgement, Item, assertion_item, command_item, members_item, child_item, rules}
use Rattle.layout.specs.Bytes.{word_count, kind_at, payload_at}
use Rattle.layout.specs.Reading.{fault, Reader, pure, ◌⊛◌, several, allowed, word_due, allow, up_to, on_option}
use Rattle.layout.specs.Read.{command, member_at, set}
use Rattle.layout.specs.ReadEvidence.{evidence_kind, rule_of, item_reader, parts_reader, evidence}
use Rattle.reader.specs.Walk.{Walk, walk_of, onward, command_walk}
use Rattle.reader.proofs.Walks.{onto}

pub record SameWalk {A B : Type 0} (x : Reader A) (y : Reader B) : Type 0 where
  pub walks : (p : ℕ) → walk_of (x p) ≡ walk_of (y p)

same : {A : Type 0} {x : Reader A} → SameWalk x x
same = record { walks = λ p. refl }

first : {A B : Type 0} {a : A} {b : B} → SameWalk (pure a) (pure b)
first = record { walks = λ p. refl }

onward-same : {f g : ℕ → Walk} (s : Walk) → ((p : ℕ) → f p ≡ g p) → onward s f ≡ onward s g
onward-same (Ok p) h = h p
onward-same (Err x) h = refl

then :
    {A B C D : Type 0} {x : Reader (A → B)} {t : Reader A} {y : Reader (C → D)} {u : Reader C} → SameWalk x y →
    SameWalk t u → SameWalk (x ⊛ t) (y ⊛ u)
then {x = x} {t} {y} {u} h k = record {
  walks = λ p.
      sym (onto x t p refl refl) ∙ onward-same (walk_of (x p)) k.walks
      ∙ onto y u p (ap (λ (z : Walk). onward z (λ q. walk_of (u q))) (h.walks p)) refl;
}

-- the same of entries of a table
record SameEntry {A B : Type 0} (o : Option (Reader A)) (u : Option (Reader B)) : Type 0 where
  walks : (at : ℕ) → walk_of (allowed o at) ≡ walk_of (allowed u at)

kept : {A : Type 0} {o : Option (Reader A)} → SameEntry o o
kept = record { walks = λ at. refl }

module _ {A B : Type 0} where
  given : {x : Reader A} {y : Reader B} → SameWalk x y → SameEntry (some x) (some y)
  given h = record { walks = λ at. h.walks (at + 1) }

  nothing : SameEntry {A = A} {B = B} none none
  nothing = record { walks = λ at. refl }

  either : (t : Bool) {a c : Option (Reader A)} {b d : Option (Reader B)} → SameEntry a b → SameEntry c d →
      SameEntry (cond t a c) (cond t b d)
  either true h k = h
  either false h k = k

  if-any : {R : Type 0} (o : Option R) {f : R → Reader A} {g : R → Reader B} → ((r : R) → SameWalk (f r) (g r)) →
      SameEntry (on_option o f) (on_option o g)
  if-any none h = nothing
  if-any (some r) h = given (h r)

  due-same : (file : List ℕ) {s : ℕ → ℕ → ℕ → Option (Reader A)} {t : ℕ → ℕ → ℕ → Option (Reader B)} →
      ((i k p : ℕ) → SameEntry (s i k p) (t i k p)) → SameWalk (word_due file s) (word_due file t)
  unfolding word_due
  due-same file {s} {t} h = record { walks = λ at. go at (ltb at (word_count file)) }
    where
      go : (at : ℕ) (b : Bool) →
          walk_of {A = A} (elim b [
            | true ↦ allowed (s at (kind_at file at) (payload_at file at)) at
            | false ↦ fault 3 (word_count file)
          ])
          ≡ walk_of {A = B} (elim b [
            | true ↦ allowed (t at (kind_at file at) (payload_at file at)) at
            | false ↦ fault 3 (word_count file)
          ])
      go at true = (h at (kind_at file at) (payload_at file at)).walks at
      go at false = refl

module _ (file : List ℕ) (Γ Δ : Context) where
  pub command-same : (d : ℕ) → SameWalk (command Γ file d) (command Δ file d)
  unfolding command
  command-same zero = record { walks = λ at. refl }
  command-same (suc d) = record {
    walks = λ at.
        let body = command-same d in
        (due-same file (λ i k p. either (eqb k 24) kept (either (eqb k 25)
        (either (leb p 0) (given (then (then first body) body)) nothing) (either (eqb k 26) kept
        (either (eqb k 27) kept (either (eqb k 28) kept (either (eqb k 29)
        (either (leb p 0) (given (then (then same body) body)) nothing) (either (eqb k 30)
        (either (leb p 0) (given (then same body)) nothing) (either (eqb k 31)
        (either (leb p 1023) (given (then first body)) nothing) (either (eqb k 38) (given first) nothing)))))))))).walks at;
  }

  module _ (e : Γ.limits ≡ Δ.limits) where
    pub set_same : (d : ℕ) → SameWalk (set Γ file d) (set Δ file d)
    unfolding set
    set_same zero = record { walks = λ at. refl }
    set_same (suc d) = record {
      walks = λ at.
          ap (λ (l : Limits). walk_of (word_due file
          (λ _ k p. allow k ((32, up_to l.members p (several p (member_at file d))) ∷ [])) at)) e;
    }

    module _ (d : ℕ) (known : (j : Judgement) → SameWalk (evidence Γ file d j) (evidence Δ file d j)) where
      item-same : (x : Item) →
          SameWalk (item_reader Γ file d (evidence Γ file d) x) (item_reader Δ file d (evidence Δ file d) x)
      item-same assertion_item = same
      item-same command_item = then first (command-same d)
      item-same members_item = then first (set_same d)
      item-same (child_item j) = then first (known j)

      parts_same : (l : List Item) →
          SameWalk (parts_reader Γ file d (evidence Γ file d) l) (parts_reader Δ file d (evidence Δ file d) l)
      parts_same [] = first
      parts_same (x ∷ l) = then (then first (item-same x)) (parts_same l)

    pub evidence-same : (d : ℕ) (j : Judgement) → SameWalk (evidence Γ file d j) (evidence Δ file d j)
    unfolding evidence
    evidence-same zero j = record { walks = λ at. refl }
    evidence-same (suc d) j = record {
      walks = λ at.
          (due-same file (λ i k p. either (eqb k (evidence_kind j))
          (if-any (rule_of p (rules j)) λ r. then first (parts_same d (evidence-same d) r.after)) nothing)).walks at;
    }

pub command-walk : (Γ : Context) (file : List ℕ) (d at : ℕ) → command_walk file d at ≡ walk_of (command Γ file d at)
command-walk Γ file d at = (command-same file (alone standard) Γ d).walks at
