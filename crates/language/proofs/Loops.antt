-- Two runs of a loop, side by side: a relation that the body keeps, and in which the test has one value, is kept.
-- Assumes nothing.
--     both-loops    the relation holds of the two ends
use mathlib.Core.Path.{◌≡◌, sym, ◌∙◌}
use Prim.Native.Nat.{ℕ}
use Rattle.laws.proofs.Bools.{clash}
use Rattle.language.specs.Syntax.{Boolean, Expr, Command, while}
use Rattle.language.specs.Store.{Store, value}
use Rattle.language.specs.Runs.{Runs, runs_done, runs_again}

module _ (b : Expr Boolean) (c : Command) (R : Store → Store → Type 0)
    (test : (s t : Store) → R s t → value b s ≡ value b t)
    (body : (m n : ℕ) (s t s' t' : Store) → Runs c m s s' → Runs c n t t' → R s t → R s' t') where
  pub both-loops : {m n : ℕ} {s t s' t' : Store} →
      Runs (while b c) m s s' → Runs (while b c) n t t' → R s t → R s' t'
  both-loops (runs_done h) (runs_done k) r = r
  both-loops (runs_done h) (runs_again k l m) r = clash k (sym (test _ _ r) ∙ h)
  both-loops (runs_again h i j) (runs_done k) r = clash h (test _ _ r ∙ k)
  both-loops (runs_again h i j) (runs_again k l m) r = both-loops j m (body _ _ _ _ _ _ i l r)
