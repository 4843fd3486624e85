-- Members φ ⇒ E, and what it means that two stores agree as a set demands (document 01, "Language").
-- Trusted. Assumes nothing.
--     Member, Members         an antecedent and a consequent; a set, as its written members
--     member, one             a member of two expressions; a set of one member
--     OneValue, SameValue     two values are one, arrays at every index; an expression has one value in both stores
--     Holds, Agree            a member holds of two stores; two stores agree as a set demands
--     Secure                  what a contract claims of a program (demand 3)
use Rattle.std.specs.Prelude.{◌≡◌, true, List, [], ◌∷◌, ℕ, ℤ}
use Rattle.language.specs.Syntax.{Sort, Arithmetic, Boolean, Array, Expr, Command}
use Rattle.language.specs.Store.{Store, Value, value}
use Rattle.language.specs.Runs.{Runs}

pub record Member : Type 0 where
  pub antecedent : Expr Boolean
  pub sort : Sort
  pub consequent : Expr sort

abbrev pub Members : Type 0
Members = List Member

abbrev pub member : {k : Sort} → Expr Boolean → Expr k → Member
member {k} φ e = record { antecedent = φ; sort = k; consequent = e }

abbrev pub one : {k : Sort} → Expr Boolean → Expr k → Members
one φ e = member φ e ∷ []

abbrev pub OneValue : (k : Sort) → Value k → Value k → Type 0
OneValue Arithmetic v w = v ≡ w
OneValue Boolean v w = v ≡ w
OneValue Array v w = (i : ℤ) → v i ≡ w i

abbrev pub SameValue : {k : Sort} → Expr k → Store → Store → Type 0
SameValue {k} e s t = OneValue k (value e s) (value e t)

-- φ is false in at least one of them or E has one value in both
abbrev pub Holds : Member → Store → Store → Type 0
Holds m s t = value m.antecedent s ≡ true → value m.antecedent t ≡ true → SameValue m.consequent s t

abbrev pub Agree : Members → Store → Store → Type 0
Agree [] s t = Unit {0}
Agree (m ∷ p) s t = Holds m s t × Agree p s t

-- two ending runs from stores that agree as p demands end in stores that agree as q demands
pub record Secure (p : Members) (c : Command) (q : Members) : Type 0 where
  pub secure : (m n : ℕ) (s t s' t' : Store) → Agree p s t → Runs c m s s' → Runs c n t t' → Agree q s' t'
