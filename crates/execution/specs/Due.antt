-- The step that is due in a run of the language's definition (document 01, "Language" and "Runner"; document 02, request [3]).
-- Trusted. Assumes nothing.
--     Step          what a step does
--     Due           `Due body_at c i s n d p t`: c, whose first word stands at place i, runs from s; after n steps the step d
--                   is due, at place p, in the store t. The body of procedure k stands at place `body_at k`
--     DueTurn       the same of a `for` from its test on
use Rattle.std.specs.Prelude.{◌≡◌, true, false, ℕ, suc, ◌+◌, length}
use Rattle.language.specs.Syntax.{at_most, Boolean, Expr, scalar, compare, Assignment}
use Rattle.language.specs.Syntax.{Command, skip, sequence, assert, assign, if_else, while, for, call}
use Rattle.language.specs.Store.{Store, value}
use Rattle.language.specs.Runs.{assigned, start, increment, Runs}
use Rattle.rules.specs.Words.{words, command_words}

pub data Step : Type 0 where
  skips calls : Step
  asserts tests : Expr Boolean → Step
  gives : Assignment → Step

-- a step's place is that of its command word; a `for`'s start, test and increment have the `for`'s
mutual
  pub data Due (body_at : ℕ → ℕ) : Command → ℕ → Store → ℕ → Step → ℕ → Store → Type 0 where
    due-skip : {i : ℕ} {s : Store} → Due body_at skip i s 0 skips i s
    due-first : {c c' : Command} {i n p : ℕ} {s t : Store} {d : Step} →
        Due body_at c (i + 1) s n d p t → Due body_at (sequence c c') i s n d p t
    due-second : {c c' : Command} {i m n p : ℕ} {s u t : Store} {d : Step} →
        Runs c m s u → Due body_at c' (i + 1 + length (command_words c)) u n d p t → Due body_at (sequence c c') i s (m + n) d p t
    due-assert : {b : Expr Boolean} {i : ℕ} {s : Store} → Due body_at (assert b) i s 0 (asserts b) i s
    due-assign : {a : Assignment} {i : ℕ} {s : Store} → Due body_at (assign a) i s 0 (gives a) i s
    due-if : {b : Expr Boolean} {c c' : Command} {i : ℕ} {s : Store} → Due body_at (if_else b c c') i s 0 (tests b) i s
    due-then : {b : Expr Boolean} {c c' : Command} {i n p : ℕ} {s t : Store} {d : Step} →
        value b s ≡ true → Due body_at c (i + 1 + length (words b)) s n d p t → Due body_at (if_else b c c') i s (suc n) d p t
    due-else : {b : Expr Boolean} {c c' : Command} {i n p : ℕ} {s t : Store} {d : Step} →
        value b s ≡ false → Due body_at c' (i + 1 + length (words b) + length (command_words c)) s n d p t →
        Due body_at (if_else b c c') i s (suc n) d p t
    due-while : {b : Expr Boolean} {c : Command} {i : ℕ} {s : Store} → Due body_at (while b c) i s 0 (tests b) i s
    due-body : {b : Expr Boolean} {c : Command} {i n p : ℕ} {s t : Store} {d : Step} →
        value b s ≡ true → Due body_at c (i + 1 + length (words b)) s n d p t → Due body_at (while b c) i s (suc n) d p t
    due-again : {b : Expr Boolean} {c : Command} {i m n p : ℕ} {s u t : Store} {d : Step} →
        value b s ≡ true → Runs c m s u → Due body_at (while b c) i u n d p t → Due body_at (while b c) i s (suc (m + n)) d p t
    due-start : {q r : ℕ} {c : Command} {i : ℕ} {s : Store} → Due body_at (for q r c) i s 0 (gives (start q)) i s
    due-turn : {q r : ℕ} {c : Command} {i n p : ℕ} {s t : Store} {d : Step} →
        DueTurn body_at q r c i (assigned (start q) s) n d p t → Due body_at (for q r c) i s (suc n) d p t
    due-call : {k : ℕ} {c : Command} {i : ℕ} {s : Store} → Due body_at (call k c) i s 0 calls i s
    due-called : {k : ℕ} {c : Command} {i n p : ℕ} {s t : Store} {d : Step} →
        Due body_at c (body_at k) s n d p t → Due body_at (call k c) i s (suc n) d p t

  -- the same of a `for` from its test on
  pub data DueTurn (body_at : ℕ → ℕ) : ℕ → ℕ → Command → ℕ → Store → ℕ → Step → ℕ → Store → Type 0 where
    due-test : {q r : ℕ} {c : Command} {i : ℕ} {s : Store} →
        DueTurn body_at q r c i s 0 (tests (compare at_most (scalar q) (scalar r))) i s
    due-within : {q r : ℕ} {c : Command} {i n p : ℕ} {s t : Store} {d : Step} →
        value (compare at_most (scalar q) (scalar r)) s ≡ true → Due body_at c (i + 1) s n d p t →
        DueTurn body_at q r c i s (suc n) d p t
    due-increment : {q r : ℕ} {c : Command} {i m : ℕ} {s u : Store} →
        value (compare at_most (scalar q) (scalar r)) s ≡ true → Runs c m s u →
        DueTurn body_at q r c i s (suc m) (gives (increment q)) i u
    due-next : {q r : ℕ} {c : Command} {i m n p : ℕ} {s u t : Store} {d : Step} →
        value (compare at_most (scalar q) (scalar r)) s ≡ true → Runs c m s u →
        DueTurn body_at q r c i (assigned (increment q) u) n d p t → DueTurn body_at q r c i s (suc (m + suc n)) d p t
