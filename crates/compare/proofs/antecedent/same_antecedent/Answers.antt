-- `compare::antecedent::same_antecedent` meets its contract: by form.
-- Assumes nothing.
use Rattle.compare.proofs.Formed.{of-written, of_and, of_and-not, of-split, of-replaced, two-written, two-replaced, can-true}
use Rattle.compare.proofs.Formed.{with_and, with_and_not, with_split, by_written, by_and, by_and-not, by-split, by-replaced, by-true}
use Rattle.compare.proofs.antecedent.same_antecedent.Goals as goal

pub same_booleans-requires : goal.same_booleans-requires
same_booleans-requires c =
    let p = c.requires in
    two-written p.ends_of p.whole (of-written p.form-at c.in-Written.is)

pub same_and-requires : goal.same_and-requires
same_and-requires c =
    let p = c.requires in
    let q = of_and p.form-at c.in-And.is in
    with_and p.ends_of p.whole q.0 q.1

pub same_and_not-requires : goal.same_and_not-requires
same_and_not-requires c =
    let p = c.requires in
    let q = of_and-not p.form-at c.in-AndNot.is in
    with_and_not p.ends_of p.whole q.0 q.1

pub same_split-requires : goal.same_split-requires
same_split-requires c =
    let p = c.requires in
    with_split p.ends_of p.whole (of-split p.form-at c.in-Split.is)

pub same_booleans_changed-requires : goal.same_booleans_changed-requires
same_booleans_changed-requires c =
    let p = c.requires in
    let q = of-replaced p.form-at c.in-Replaced.is in
    two-replaced p.ends_of p.whole q.0 q.1

pub is_true-requires : goal.is_true-requires
is_true-requires c =
    let p = c.requires in
    can-true p.ends_of p.whole

pub returns-in-Written : goal.returns-in-Written
returns-in-Written c = by_written _ _ _ _ c.in-Written.is c.same_booleans.ensures

pub returns-in-And : goal.returns-in-And
returns-in-And c = by_and _ _ _ _ _ c.in-And.is c.same_and.ensures

pub returns-in-AndNot : goal.returns-in-AndNot
returns-in-AndNot c = by_and-not _ _ _ _ _ c.in-AndNot.is c.same_and_not.ensures

pub returns-in-Split : goal.returns-in-Split
returns-in-Split c = by-split _ _ _ _ _ _ c.in-Split.is c.same_split.ensures

pub returns-in-Replaced : goal.returns-in-Replaced
returns-in-Replaced c = by-replaced _ _ _ _ _ c.in-Replaced.is c.same_booleans_changed.ensures

pub returns-in-True : goal.returns-in-True
returns-in-True c = by-true _ _ _ c.in-True.is c.is_true.ensures
