-- What working out an expression at a place promises: the outcome of the runner's definition, of the tree that stands
-- there.
-- Working: the laws of proofs/Results tie it to the definition's `evaluate`. Assumes nothing.
--     filled              an array's values in the scratch, or the refusal that stops, as an outcome
--     CanSelect           a select stands there
--     Evaluates, Fills    what working out promises
use Rattle.std.specs.Prelude.{◌≡◌, List, ℕ, ℤ, Result, Ok, Err}
use Rattle.language.specs.Syntax.{Sort, Expr}
use Rattle.language.specs.Syntax as syntax
use Rattle.language.specs.Store.{Value}
use Rattle.layout.specs.EvidenceWords.{expression_part}
use Rattle.execution.specs.Lent.{lent, store_of, elements}
use Rattle.execution.specs.Evaluate.{Evaluation, worked, stops, on_worked, evaluate}
use Rattle.words.specs.declared.ArithmeticWord.TheVariants.{Select}
use Rattle.heads.specs.Stands.{arithmetic_at, PartAt, ExpressionStands}
use Rattle.arithmetic.specs.Worked.{refusal_number}
use Rattle.arithmetic.specs.declared.Stop.{Stop}

abbrev pub filled : {A : Type 0} → Result A Stop → List ℤ → Evaluation (List ℤ)
filled (Ok a) l = worked l
filled (Err k) l = stops (refusal_number k)

pub record CanSelect (w ends : List ℕ) (at : ℕ) : Type 0 where
  pub expression : ExpressionStands w ends syntax.Arithmetic at
  pub head : arithmetic_at w at ≡ Select

module _ (k : Sort) (w ends : List ℕ) (ss vs : List ℤ) (at : ℕ) where
  pub record Evaluates (o : Evaluation (Value k)) : Type 0 where
    pub is : (e : Expr k) (p : ℕ) → PartAt w ends (expression_part e) at p → o ≡ evaluate e (store_of (lent ss vs))

module _ (w ends : List ℕ) (ss vs : List ℤ) (at : ℕ) where
  pub record Fills (o : Evaluation (List ℤ)) : Type 0 where
    pub is : (e : Expr syntax.Array) (p : ℕ) → PartAt w ends (expression_part e) at p →
        o ≡ on_worked (evaluate e (store_of (lent ss vs))) λ f. worked (elements f)
