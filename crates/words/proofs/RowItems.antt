-- The rows of the table of rules.
-- Assumes nothing.
--     row-rule                                the row of a rule
--     row-none, row-some                      of a number that no rule has; of any other
--     row-due                                 the row of a word of a judgement's kind
use mathlib.Core.Path.{◌≡◌, refl, ap}
use mathlib.Core.List.{List}
use mathlib.Core.Option.{Option, none, some}
use Prim.Native.Nat.{ℕ}
use native.Mathlib.Omega.{arith}
use borrow.Author.Tests.{eq-eqb}
use Rattle.rules.specs.Evidence.{Judgement, Item, Rule, Row}
use Rattle.layout.specs.ReadEvidence.{evidence_kind}
use Rattle.layout.proofs.BackEvidence.{rule-row}
use Rattle.words.specs.Rows.{row_items, row_of, row_due}

pub row-rule : {j : Judgement} {n : ℕ} {l : List Item} (r : Rule j n l) → row_of j n ≡ some l
row-rule r = ap row_items (rule-row r).0

pub row-none : {j : Judgement} (o : Option (Row j)) → none ≡ row_items o → o ≡ none
row-none none h = refl
row-none (some r) h = absurd (let z : ◌≡◌ {A = ℕ} 0 1 = cc in omega arith)

pub row-some : {j : Judgement} {l : List Item} (o : Option (Row j)) → some l ≡ row_items o →
    (r : Row j) × (o ≡ some r) × (l ≡ r.after)
row-some none h = absurd (let z : ◌≡◌ {A = ℕ} 0 1 = cc in omega arith)
row-some (some r) h = (r, refl, (cc))

pub row-due : (j : Judgement) (k p : ℕ) {r : Option (List Item)} → k ≡ evidence_kind j → r ≡ row_of j p → r ≡ row_due j k p
unfolding row_due
row-due j k p e h = rw (eq-eqb _ _ e) h
