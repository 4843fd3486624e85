-- The trees that stand at places of a file, and what is put for an identifier.
-- Working: `tree_is` and `put_is` of proofs/Trees say that these are the trees that are written there. Assumes nothing.
--     any_of, read_tree, tree_at, boolean_at
--                                   the expression of a sort that is read at a place; a boolean
--     RightSide, PutStands, HasPut  the word of an identifier, and its right side between two places; some assignment stands so
--     put_assignment                 the assignment that stands so
--     changed, ChangeAt             a boolean with what is put for an identifier, if anything; what is put stands there
use Rattle.std.specs.Prelude.{◌≡◌, false, cond, List, ℕ, ◌*◌, ◌+◌, ◌/◌, ◌%◌, ◌≤◌, eqb}
use Rattle.language.specs.Syntax.{Sort, Arithmetic, Boolean, Array, Expr, scalar, truth, zeros, Assignment, to_scalar, to_array}
use Rattle.rules.specs.Replace.{replacement, replace}
use Rattle.layout.specs.Bytes.{payloads}
use Rattle.layout.specs.Reading.{Reading, read, fault}
use Rattle.layout.specs.Read.{expression}
use Rattle.ends.specs.Places.{end_at, WrittenAt}
use Rattle.matching.specs.declared.cursor.Put.{Put}
use Rattle.compare.specs.declared.plain.Change.{Change}
use Rattle.compare.specs.declared.plain.Change.TheVariants.{Unchanged, Replaced}

-- any, where none is read
abbrev pub any_of : (j : Sort) → Expr j
any_of Arithmetic = scalar 0
any_of Boolean = truth false
any_of Array = zeros

abbrev pub read_tree : (j : Sort) → Reading (Expr j) → Expr j
read_tree j (read e p) = e
read_tree j (fault k p) = any_of j

-- no deeper than the judge's stack has room for
unfoldable pub tree_at : List ℕ → (j : Sort) → ℕ → Expr j
tree_at file j at = read_tree j (expression file 256 j at)

abbrev pub boolean_at : List ℕ → ℕ → Expr Boolean
boolean_at file at = tree_at file Boolean at

module _ (file ends : List ℕ) where
  -- the word k:x, and a right side between the two places
  pub record RightSide {j : Sort} (put : Put) (k x : ℕ) (e : Expr j) : Type 0 where
    pub small : x ≤ 31
    pub word-is : put.word ≡ k * payloads + x
    pub there : WrittenAt file ends e put.from
    pub end_is : put.to ≡ end_at ends put.from

  -- rules 3, 4, 24 and 25
  pub data PutStands (put : Put) : Assignment → Type 0 where
    put-scalar : {x : ℕ} {e : Expr Arithmetic} → RightSide put 2 x e → PutStands put (to_scalar x e)
    put-array : {x : ℕ} {e : Expr Array} → RightSide put 16 x e → PutStands put (to_array x e)

  pub record HasPut (put : Put) : Type 0 where
    pub tree : Assignment
    pub stands : PutStands put tree

  unfoldable pub ChangeAt : Change → Type 0
  ChangeAt Unchanged = Unit {0}
  ChangeAt (Replaced put) = HasPut put

-- by the kind of the word
unfoldable pub put_assignment : List ℕ → Put → Assignment
put_assignment file put =
    cond (eqb (put.word / payloads) 2) (to_scalar (put.word % payloads) (tree_at file Arithmetic put.from))
    (to_array (put.word % payloads) (tree_at file Array put.from))

unfoldable pub changed : List ℕ → Change → Expr Boolean → Expr Boolean
changed file Unchanged φ = φ
changed file (Replaced put) φ = replace φ (replacement (put_assignment file put))
