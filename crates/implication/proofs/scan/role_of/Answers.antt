-- `implication::scan::role_of` meets its contract: by the tests of the kind. Assumes nothing.
use mathlib.Core.Path.{sym}
use mathlib.Core.Logic.{⊎_elim}
use native.Mathlib.Omega.{arith}
use Rattle.implication.proofs.WordBytes.{by-low, by_high, by-compare, by-false, by-true, by-other}
use Rattle.implication.proofs.scan.role_of.Goals as goal

pub returns-then-kind-lt-COMPARISON : goal.returns-then-kind-lt-COMPARISON
returns-then-kind-lt-COMPARISON c =
    ⊎_elim (λ h. by-low _ _ h) (λ h. by_high _ _ h.1) c.then-kind-lt-COMPARISON.either

pub returns-then-kind-eq-COMPARISON : goal.returns-then-kind-eq-COMPARISON
returns-then-kind-eq-COMPARISON c = by-compare _ _ c.if-kind-eq-COMPARISON.true

pub returns-then-kind-ne-TRUTH : goal.returns-then-kind-ne-TRUTH
returns-then-kind-ne-TRUTH c =
    let low = c.if-kind-lt-COMPARISON.false in
    let high = c.if-kind-gt-NOT.false in
    let not8 = c.if-kind-eq-COMPARISON.false in
    let not9 = c.if-kind-ne-TRUTH.true in
    (sym (by-other _ _ (omega arith) high), omega arith)

pub returns-then-x-eq0 : goal.returns-then-x-eq0
returns-then-x-eq0 c = (sym (by-false _ _ c.if-kind-ne-TRUTH.false c.if-x-eq0.true), omega arith)

pub returns-else-x-eq0 : goal.returns-else-x-eq0
returns-else-x-eq0 c = (sym (by-true _ _ c.if-kind-ne-TRUTH.false c.if-x-eq0.false), omega arith)
