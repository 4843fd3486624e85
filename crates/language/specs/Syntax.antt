-- Expressions of three sorts, and commands (document 01, "Language"; paper 000, section 3.1; document 02, request [3]).
-- Trusted. Assumes nothing.
--     Operator, Comparison    + − ×; = < ≤
--     Sort, Expr              expressions, by their sort
--     Assignment, Command     commands
use Rattle.std.specs.Prelude.{Bool, ℕ, ℤ}

pub data Operator : Type 0 where
  plus minus times : Operator

pub data Comparison : Type 0 where
  equal less at_most : Comparison

pub data Sort : Type 0 where
  Arithmetic Boolean Array : Sort

-- scalars and arrays are named by their numbers
pub data Expr : Sort → Type 0 where
  constant : ℤ → Expr Arithmetic
  scalar : ℕ → Expr Arithmetic
  operation : Operator → Expr Arithmetic → Expr Arithmetic → Expr Arithmetic
  select : Expr Array → Expr Arithmetic → Expr Arithmetic
  compare : Comparison → Expr Arithmetic → Expr Arithmetic → Expr Boolean
  truth : Bool → Expr Boolean
  and or : Expr Boolean → Expr Boolean → Expr Boolean
  neg : Expr Boolean → Expr Boolean
  array : ℕ → Expr Array
  zeros : Expr Array
  update : Expr Array → Expr Arithmetic → Expr Arithmetic → Expr Array

-- an identifier and its right side
pub data Assignment : Type 0 where
  to_scalar : ℕ → Expr Arithmetic → Assignment
  to_array : ℕ → Expr Array → Assignment

-- `for q m c` is a `for` over q up to m; `call p c` calls procedure p of the file, whose body is c (`called`, rules/specs/Context)
pub data Command : Type 0 where
  skip : Command
  sequence : Command → Command → Command
  assert : Expr Boolean → Command
  assign : Assignment → Command
  if_else : Expr Boolean → Command → Command → Command
  while : Expr Boolean → Command → Command
  for : ℕ → ℕ → Command → Command
  call : ℕ → Command → Command
