-- The plain form of a boolean (document 02, request [2]): every "true and" and "and true" is dropped, at each depth, until none is
-- left. Nothing else is: not "true or", not "and false", no double negation.
-- Trusted. Assumes nothing.
--     is_true      a boolean is the word true
--     plain_and    an and of two plain forms, without a side that is true
--     plain       the plain form
use Rattle.std.specs.Prelude.{Bool, false, cond}
use Rattle.language.specs.Syntax.{Boolean, Expr, compare, truth, and, or, neg}

abbrev pub is_true : Expr Boolean → Bool
is_true (compare r a b) = false
is_true (truth t) = t
is_true (and b c) = false
is_true (or b c) = false
is_true (neg b) = false

-- true and true is true
abbrev pub plain_and : Expr Boolean → Expr Boolean → Expr Boolean
plain_and b c = cond (is_true b) c (cond (is_true c) b (and b c))

-- a comparison has no boolean in it
unfoldable pub plain : Expr Boolean → Expr Boolean
plain (compare r a b) = compare r a b
plain (truth t) = truth t
plain (and b c) = plain_and (plain b) (plain c)
plain (or b c) = or (plain b) (plain c)
plain (neg b) = neg (plain b)
