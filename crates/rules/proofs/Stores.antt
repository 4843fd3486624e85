-- What is known of a command that was read and of the stores that it runs from, and kept by every run. Document 01 asks
-- nothing of a store, so `StoreFits` holds of each; a later condition on stores or commands has its place here.
-- Assumes nothing.
--     Fits, StoreFits, Start     of a command: its calls hold their bodies; of a store; of two stores
--     Valid                      of a context: the contracts of its procedures hold
--     fits-first .. fits-called the parts of a command
--     fits-meaning               what a `for` means
--     inside-kept, start-kept    after a run
use mathlib.Core.Path.{◌≡◌}
use mathlib.Core.Option.{some}
use Prim.Native.Nat.{ℕ}
use Rattle.language.specs.Syntax.{Boolean, Expr, Command, sequence, if_else, while, for, call}
use Rattle.language.specs.Store.{Store}
use Rattle.language.specs.Runs.{meaning, Runs}
use Rattle.rules.specs.Assertion.{Secure}
use Rattle.rules.specs.Context.{Procedure, Context, item_at}
use Rattle.rules.specs.Resolved.{Resolved}

pub record Fits (Γ : Context) (c : Command) : Type 0 where
  pub calls : Resolved Γ.procedures c

pub record Valid (Γ : Context) : Type 0 where
  pub secure : (n : ℕ) (k : Procedure) → item_at Γ.procedures n ≡ some k → Secure k.pre k.body k.post

pub record StoreFits (Γ : Context) (s : Store) : Type 0 where
  pub nothing : Unit {0}

pub record Start (Γ : Context) (s t : Store) : Type 0 where
  pub first : StoreFits Γ s
  pub second : StoreFits Γ t

module _ {Γ : Context} where
  pub fits-first : {c d : Command} → Fits Γ (sequence c d) → Fits Γ c
  fits-first w = record { calls = w.calls.0 }

  pub fits-second : {c d : Command} → Fits Γ (sequence c d) → Fits Γ d
  fits-second w = record { calls = w.calls.1 }

  pub fits-then : {b : Expr Boolean} {c d : Command} → Fits Γ (if_else b c d) → Fits Γ c
  fits-then w = record { calls = w.calls.0 }

  pub fits-else : {b : Expr Boolean} {c d : Command} → Fits Γ (if_else b c d) → Fits Γ d
  fits-else w = record { calls = w.calls.1 }

  pub fits-body : {b : Expr Boolean} {c : Command} → Fits Γ (while b c) → Fits Γ c
  fits-body w = record { calls = w.calls }

  pub fits-called : {n : ℕ} {c : Command} → Fits Γ (call n c) → Fits Γ c
  fits-called w = record { calls = w.calls.3 }

  pub fits-meaning : {q m : ℕ} {c : Command} → Fits Γ (for q m c) → Fits Γ (meaning q m c)
  fits-meaning w = record { calls = (tt, (w.calls, tt)) }

  pub inside-kept : {c : Command} {n : ℕ} {s t : Store} → Fits Γ c → Runs c n s t → StoreFits Γ s → StoreFits Γ t
  inside-kept w r i = record { nothing = tt }

  pub start-kept : {c : Command} {m n : ℕ} {s t s' t' : Store} →
      Fits Γ c → Runs c m s s' → Runs c n t t' → Start Γ s t → Start Γ s' t'
  start-kept w r u g = record { first = inside-kept w r g.first; second = inside-kept w u g.second }
