-- The layout's tables at a decoded word: what each gives at a kind and a payload is settled by the word of its group that
-- these decode to.
-- Assumes nothing.
--     arithmetic-of, boolean-of, array-of         the tables of expressions, by sort
--     command-of                                  of commands
use mathlib.Core.Path.{◌≡◌, refl}
use mathlib.Core.Bool.{Bool, true, false, cond}
use mathlib.Core.Option.{Option, none, some}
use Prim.Native.Nat.{ℕ}
use lib.Dec.{eqb, leb}
use Rattle.language.specs.Syntax as syntax
use Rattle.language.specs.Syntax.{Sort, Expr, operation, compare, truth}
use Rattle.rules.specs.Context.{Context}
use Rattle.layout.specs.Reading.{Reader, pure, ◌⊛◌, up_to, on_option}
use Rattle.layout.specs.Read.{arithmetic_word, boolean_word, array_word, command_word}
use Rattle.words.specs.Decode.{within, arithmetic_of, boolean_of, array_of, command_of}
use Rattle.words.specs.Meaning.{arithmetic_meaning, boolean_meaning, array_meaning, command_meaning}

abbrev id : {A : Type 0} → A → A
id a = a

-- two choices by one test
both :
    {A B C : Type 0} (g : A → C) (f : B → C) (t : Bool) {x u : A} {y v : B} → g x ≡ f y → g u ≡ f v →
    g (cond t x u) ≡ f (cond t y v)
both g f true e h = e
both g f false e h = h

-- a word whose payload is bounded
up : {A W : Type 0} (f : W → Option A) (n p : ℕ) {a : A} {w o : W} → some a ≡ f w → none ≡ f o →
    up_to n p a ≡ f (within n p w o)
up f n p e h = both id f (leb p n) e h

-- ---- expressions and commands
module _ (part : (j : Sort) → Reader (Expr j)) (k p : ℕ) where
  pub arithmetic-of : arithmetic_word part k p ≡ arithmetic_meaning part (arithmetic_of k p)
  unfolding arithmetic_of
  arithmetic-of =
      let f = arithmetic_meaning part in
      let g : Option syntax.Operator → Option (Reader (Expr syntax.Arithmetic)) = λ o.
      on_option o λ o. pure (operation o) ⊛ part syntax.Arithmetic ⊛ part syntax.Arithmetic in
      both id f (eqb k 1) refl (both id f (eqb k 2) (up f 31 p refl refl) (both id f (eqb k 3)
      (both g f (eqb p 0) refl (both g f (eqb p 1) refl (both g f (eqb p 2) refl refl)))
      (both id f (eqb k 4) (up f 0 p refl refl) refl)))

  pub boolean-of : boolean_word part k p ≡ boolean_meaning part (boolean_of k p)
  unfolding boolean_of
  boolean-of =
      let f = boolean_meaning part in
      let g : Option syntax.Comparison → Option (Reader (Expr syntax.Boolean)) = λ o.
      on_option o λ r. pure (compare r) ⊛ part syntax.Arithmetic ⊛ part syntax.Arithmetic in
      let t : Option Bool → Option (Reader (Expr syntax.Boolean)) = λ o. on_option o λ b. pure (truth b) in
      both id f (eqb k 8)
      (both g f (eqb p 0) refl (both g f (eqb p 1) refl (both g f (eqb p 2) refl refl)))
      (both id f (eqb k 9) (both t f (eqb p 0) refl (both t f (eqb p 1) refl refl))
      (both id f (eqb k 10) (up f 0 p refl refl) (both id f (eqb k 11) (up f 0 p refl refl)
      (both id f (eqb k 12) (up f 0 p refl refl) refl))))

  pub array-of : array_word part k p ≡ array_meaning part (array_of k p)
  unfolding array_of
  array-of =
      let f = array_meaning part in
      both id f (eqb k 16) (up f 31 p refl refl) (both id f (eqb k 17) (up f 0 p refl refl)
      (both id f (eqb k 18) (up f 0 p refl refl) refl))

  pub command-of : (Γ : Context) (body : Reader syntax.Command) →
      command_word Γ part body k p ≡ command_meaning Γ part body (command_of k p)
  unfolding command_of
  command-of Γ body =
      let f = command_meaning Γ part body in
      both id f (eqb k 24) (up f 0 p refl refl) (both id f (eqb k 25) (up f 0 p refl refl)
      (both id f (eqb k 26) (up f 0 p refl refl) (both id f (eqb k 27) (up f 31 p refl refl)
      (both id f (eqb k 28) (up f 31 p refl refl) (both id f (eqb k 29) (up f 0 p refl refl)
      (both id f (eqb k 30) (up f 0 p refl refl) (both id f (eqb k 31) (up f 1023 p refl refl)
      (both id f (eqb k 38) refl refl))))))))
