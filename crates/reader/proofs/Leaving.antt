-- A reading goes on past an operand of one word.
-- Assumes nothing.
--     LeafAt, leaf-walk     the law
use mathlib.Core.Path.{◌≡◌, refl, sym, ◌∙◌, ap}
use mathlib.Core.Bool.{true, false≢true}
use mathlib.Core.List.{List}
use Prim.Native.Nat.{ℕ, ◌+◌, ◌<◌}
use Rattle.std.specs.Prelude.{Result, Ok, Err}
use Rattle.language.specs.Syntax as syntax
use Rattle.language.specs.Syntax.{Expr}
use Rattle.layout.specs.Bytes.{word_count}
use Rattle.layout.specs.Reading.{Reader}
use Rattle.layout.specs.Read.{expression}
use Rattle.words.specs.Decode.{arithmetic_of, boolean_of, array_of}
use Rattle.words.specs.Meaning.{arithmetic_meaning, boolean_meaning, array_meaning}
use Rattle.words.specs.declared.ArithmeticWord.{ArithmeticWord}
use Rattle.words.specs.declared.ArithmeticWord.TheVariants as arithmetic
use Rattle.words.specs.declared.BooleanWord.{BooleanWord}
use Rattle.words.specs.declared.BooleanWord.TheVariants as boolean
use Rattle.words.specs.declared.ArrayWord.{ArrayWord}
use Rattle.words.specs.declared.ArrayWord.TheVariants as array
use Rattle.context.specs.declared.Refusal.{Refusal}
use Rattle.reader.specs.Walk.{sort_meant, walk_of, due_of, after}
use Rattle.reader.specs.Leaves.{arithmetic_leaf, boolean_leaf, array_leaf, leaf_of, leaf_due}
use Rattle.reader.specs.declared.FirstWord.{FirstWord}
use Rattle.reader.specs.declared.Sort.{Sort}
use Rattle.reader.specs.declared.Sort.TheVariants.{Arithmetic, Boolean, Array}
use Rattle.reader.proofs.Walks.{room, arithmetic-goes, boolean-goes, array-goes, arm}

module _ (part : (j : syntax.Sort) → Reader (Expr j)) (at q : ℕ) where
  arithmetic-past : (w : ArithmeticWord) → arithmetic_leaf w ≡ true → Ok q ≡ walk_of (after (arithmetic_meaning part w) at q)
  arithmetic-past (arithmetic.Constant z) h = refl
  arithmetic-past (arithmetic.Scalar x) h = refl
  arithmetic-past (arithmetic.Operation o) h = absurd (false≢true h)
  arithmetic-past arithmetic.Select h = absurd (false≢true h)
  arithmetic-past arithmetic.Other h = absurd (false≢true h)

  boolean-past : (w : BooleanWord) → boolean_leaf w ≡ true → Ok q ≡ walk_of (after (boolean_meaning part w) at q)
  boolean-past (boolean.Compare r) h = absurd (false≢true h)
  boolean-past (boolean.Truth t) h = refl
  boolean-past boolean.And h = absurd (false≢true h)
  boolean-past boolean.Or h = absurd (false≢true h)
  boolean-past boolean.Not h = absurd (false≢true h)
  boolean-past boolean.Other h = absurd (false≢true h)

  array-past : (w : ArrayWord) → array_leaf w ≡ true → Ok q ≡ walk_of (after (array_meaning part w) at q)
  array-past (array.Identifier a) h = refl
  array-past array.Zeros h = refl
  array-past array.Update h = absurd (false≢true h)
  array-past array.Other h = absurd (false≢true h)

pub record LeafAt (file : List ℕ) (d : ℕ) (s : Sort) (at : ℕ) : Type 0 where
  pub inside : at < word_count file
  pub past : Ok (at + 1) ≡ walk_of (expression file d (sort_meant s) at)

leaf-goes : (file : List ℕ) (d : ℕ) (s : Sort) (at : ℕ) {f : FirstWord} → Ok f ≡ due_of file d at →
    leaf_of s f.kind f.payload ≡ true → Ok f.next ≡ walk_of (expression file d (sort_meant s) at)
leaf-goes file d Arithmetic at {f} e h =
    arm (arithmetic-goes file d at) e refl refl (arithmetic-past (expression file f.below) at f.next (arithmetic_of f.kind f.payload) h)
leaf-goes file d Boolean at {f} e h =
    arm (boolean-goes file d at) e refl refl (boolean-past (expression file f.below) at f.next (boolean_of f.kind f.payload) h)
leaf-goes file d Array at {f} e h =
    arm (array-goes file d at) e refl refl (array-past (expression file f.below) at f.next (array_of f.kind f.payload) h)

pub leaf-walk : (file : List ℕ) (d : ℕ) (s : Sort) (at : ℕ) → leaf_due s (due_of file d at) ≡ true → LeafAt file d s at
leaf-walk file d s at h = go (due_of file d at) refl h
  where
    go : (u : Result FirstWord Refusal) → due_of file d at ≡ u → leaf_due s u ≡ true → LeafAt file d s at
    go (Err x) e h = absurd (false≢true h)
    go (Ok f) e h =
        let r = room file d at {f = f} (sym e) in
        record { inside = r.0; past = ap Ok (sym r.1) ∙ leaf-goes file d s at {f = f} (sym e) h }
