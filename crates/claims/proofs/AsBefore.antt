-- Request [1] of document 02 against the order before it, from the laws of the two orders.
-- Assumes nothing.
--     unchanged    the claim
use mathlib.Core.Path.{sym, subst}
use mathlib.Core.List.{List}
use Prim.Native.Nat.{ℕ, ◌≤◌}
use Rattle.rules.specs.Context.{Limits}
use Rattle.execution.specs.Lent.{Lent}
use Rattle.execution.specs.Strict.{Valued}
use Rattle.execution.proofs.Exact.{executed, reported}
use Rattle.execution.proofs.Strict.{as_before, same-result, no-fewer_steps}
use Rattle.claims.specs.AsBefore.{AsBefore}

pub unchanged : (limits : Limits) (bytes : List ℕ) (budget : ℕ) (m : Lent) → AsBefore limits bytes budget m
unchanged limits bytes budget m = record {
  same-result = λ f h s held v.
      let x = executed limits bytes budget m f h.end h.reads h.affordable h.sized s held in
      (x.answer, x.count, x.last, same-result budget x.executes (subst (Valued f s budget) x.reports.steps v), x.reports);
  still-reported = λ f h s held a n t x k.
      reported limits bytes budget m f h.end h.reads h.affordable h.sized s held a n t (as_before budget x k);
  no-fewer_steps = λ f h s held a n t x.
      let y = executed limits bytes budget m f h.end h.reads h.affordable h.sized s held in
      subst (λ k. n ≤ k) (sym y.reports.steps) (no-fewer_steps budget x y.executes);
}
