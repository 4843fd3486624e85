-- The runs of a command (document 01, "Language"; document 02, request [3]), with their steps as "Runner" counts them.
-- Trusted. Assumes nothing.
--     assigned    the store after an assignment
--     meaning     the command that a `for` means, from its start and its increment
--     Runs        `Runs c n s t`: from s, c ends in t after n steps
use Rattle.std.specs.Prelude.{◌≡◌, true, false, ℕ, suc, ◌+◌, eqb, pos}
use Rattle.language.specs.Syntax.{plus, at_most, Boolean, Expr, constant, scalar, operation, compare}
use Rattle.language.specs.Syntax.{Assignment, to_scalar, to_array}
use Rattle.language.specs.Syntax.{Command, skip, sequence, assert, assign, if_else, while, for, call}
use Rattle.language.specs.Store.{Store, put, value}

-- s with the identifier given the value that the right side has in s
abbrev pub assigned : Assignment → Store → Store
assigned (to_scalar x e) s = record { scalars = put eqb s.scalars x (value e s); arrays = s.arrays }
assigned (to_array a e) s = record { scalars = s.scalars; arrays = put eqb s.arrays a (value e s) }

abbrev pub start : ℕ → Assignment
start q = to_scalar q (constant (pos 1))

abbrev pub increment : ℕ → Assignment
increment q = to_scalar q (operation plus (scalar q) (constant (pos 1)))

-- q := 1; while q ≤ m do (C; q := q + 1)
abbrev pub meaning : ℕ → ℕ → Command → Command
meaning q m c =
    sequence (assign (start q))
    (while (compare at_most (scalar q) (scalar m)) (sequence c (assign (increment q))))

-- each skip, assignment, assert and test is one step; so is a call, before its body's
pub data Runs : Command → ℕ → Store → Store → Type 0 where
  runs_skip : {s : Store} → Runs skip 1 s s
  runs_sequence : {c d : Command} {m n : ℕ} {s t u : Store} →
      Runs c m s t → Runs d n t u → Runs (sequence c d) (m + n) s u
  runs_assert : {b : Expr Boolean} {s : Store} → value b s ≡ true → Runs (assert b) 1 s s
  runs_assign : {a : Assignment} {s : Store} → Runs (assign a) 1 s (assigned a s)
  runs_then : {b : Expr Boolean} {c d : Command} {n : ℕ} {s t : Store} →
      value b s ≡ true → Runs c n s t → Runs (if_else b c d) (suc n) s t
  runs_else : {b : Expr Boolean} {c d : Command} {n : ℕ} {s t : Store} →
      value b s ≡ false → Runs d n s t → Runs (if_else b c d) (suc n) s t
  runs_done : {b : Expr Boolean} {c : Command} {s : Store} → value b s ≡ false → Runs (while b c) 1 s s
  runs_again : {b : Expr Boolean} {c : Command} {m n : ℕ} {s t u : Store} →
      value b s ≡ true → Runs c m s t → Runs (while b c) n t u → Runs (while b c) (suc (m + n)) s u
  runs_for : {q m : ℕ} {c : Command} {n : ℕ} {s t : Store} → Runs (meaning q m c) n s t → Runs (for q m c) n s t
  runs_call : {p : ℕ} {c : Command} {n : ℕ} {s t : Store} → Runs c n s t → Runs (call p c) (suc n) s t
