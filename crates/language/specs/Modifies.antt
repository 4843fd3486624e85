-- What a command modifies, and the identifiers of an expression (document 01, "Language"; document 02, request [3]).
-- Trusted. Assumes nothing.
--     Identifier, same_identifier    scalars and arrays, by their numbers
--     target                        the identifier that an assignment gives a value
--     modifies                      the scalars and arrays that a command assigns, and q of a `for`
--     identifiers                   the identifiers of an expression
use Rattle.std.specs.Prelude.{Bool, false, ◌||◌, List, [], ◌∷◌, ◌++◌, ℕ, eqb}
use Rattle.language.specs.Syntax.{Sort, Expr, constant, scalar, operation, select, compare, truth, and, or, neg}
use Rattle.language.specs.Syntax.{array, zeros, update, Assignment, to_scalar, to_array}
use Rattle.language.specs.Syntax.{Command, skip, sequence, assert, assign, if_else, while, for, call}

pub data Identifier : Type 0 where
  scalar_of array_of : ℕ → Identifier

abbrev pub same_identifier : Identifier → Identifier → Bool
same_identifier (scalar_of x) (scalar_of y) = eqb x y
same_identifier (scalar_of x) (array_of b) = false
same_identifier (array_of a) (scalar_of y) = false
same_identifier (array_of a) (array_of b) = eqb a b

abbrev pub target : Assignment → Identifier
target (to_scalar x e) = scalar_of x
target (to_array a e) = array_of a

-- whether a command modifies an identifier: an array even if it is assigned at one place; a call what its body modifies
abbrev pub modifies : Command → Identifier → Bool
modifies skip x = false
modifies (sequence c d) x = modifies c x || modifies d x
modifies (assert b) x = false
modifies (assign a) x = same_identifier (target a) x
modifies (if_else b c d) x = modifies c x || modifies d x
modifies (while b c) x = modifies c x
modifies (for q m c) x = same_identifier (scalar_of q) x || modifies c x
modifies (call p c) x = modifies c x

-- the identifiers of an expression
unfoldable pub identifiers : {k : Sort} → Expr k → List Identifier
identifiers (constant z) = []
identifiers (scalar x) = scalar_of x ∷ []
identifiers (operation o a b) = identifiers a ++ identifiers b
identifiers (select h i) = identifiers h ++ identifiers i
identifiers (compare r a b) = identifiers a ++ identifiers b
identifiers (truth t) = []
identifiers (and b c) = identifiers b ++ identifiers c
identifiers (or b c) = identifiers b ++ identifiers c
identifiers (neg b) = identifiers b
identifiers (array a) = array_of a ∷ []
identifiers zeros = []
identifiers (update h i a) = identifiers h ++ (identifiers i ++ identifiers a)
