-- From a store, a command ends in one store at most, after one count of steps ("the store reached is its ending store,
-- the only one", document 01, "Language").
-- Assumes nothing.
--     one_end      two runs from one store end in one store
--     one-count    and take as many steps
use mathlib.Core.Path.{◌≡◌, refl, sym, ap, ap₂, subst}
use Prim.Native.Nat.{ℕ, suc, ◌+◌}
use Rattle.laws.proofs.Bools.{clash}
use Rattle.language.specs.Syntax.{Command}
use Rattle.language.specs.Store.{Store}
use Rattle.language.specs.Runs.{Runs, runs_skip, runs_sequence, runs_assert, runs_assign, runs_then, runs_else}
use Rattle.language.specs.Runs.{runs_done, runs_again, runs_for, runs_call}

-- a run from where another ended
from : {c : Command} {n : ℕ} {s t u : Store} → t ≡ s → Runs c n s u → Runs c n t u
from {c} {n} {u = u} e r = subst (λ x. Runs c n x u) (sym e) r

pub one_end : {c : Command} {m n : ℕ} {s t u : Store} → Runs c m s t → Runs c n s u → t ≡ u
one_end runs_skip runs_skip = refl
one_end (runs_sequence r q) (runs_sequence r' q') = one_end q (from (one_end r r') q')
one_end (runs_assert e) (runs_assert e') = refl
one_end runs_assign runs_assign = refl
one_end (runs_then e r) (runs_then e' r') = one_end r r'
one_end (runs_then e r) (runs_else e' r') = clash e e'
one_end (runs_else e r) (runs_then e' r') = clash e' e
one_end (runs_else e r) (runs_else e' r') = one_end r r'
one_end (runs_done e) (runs_done e') = refl
one_end (runs_done e) (runs_again e' r' q') = clash e' e
one_end (runs_again e r q) (runs_done e') = clash e e'
one_end (runs_again e r q) (runs_again e' r' q') = one_end q (from (one_end r r') q')
one_end (runs_for r) (runs_for r') = one_end r r'
one_end (runs_call r) (runs_call r') = one_end r r'

pub one-count : {c : Command} {m n : ℕ} {s t u : Store} → Runs c m s t → Runs c n s u → m ≡ n
one-count runs_skip runs_skip = refl
one-count (runs_sequence r q) (runs_sequence r' q') = ap₂ ◌+◌ (one-count r r') (one-count q (from (one_end r r') q'))
one-count (runs_assert e) (runs_assert e') = refl
one-count runs_assign runs_assign = refl
one-count (runs_then e r) (runs_then e' r') = ap suc (one-count r r')
one-count (runs_then e r) (runs_else e' r') = clash e e'
one-count (runs_else e r) (runs_then e' r') = clash e' e
one-count (runs_else e r) (runs_else e' r') = ap suc (one-count r r')
one-count (runs_done e) (runs_done e') = refl
one-count (runs_done e) (runs_again e' r' q') = clash e' e
one-count (runs_again e r q) (runs_done e') = clash e e'
one-count (runs_again e r q) (runs_again e' r' q') =
    ap₂ (λ (m n : ℕ). suc (m + n)) (one-count r r') (one-count q (from (one_end r r') q'))
one-count (runs_for r) (runs_for r') = one-count r r'
one-count (runs_call r) (runs_call r') = ap suc (one-count r r')
