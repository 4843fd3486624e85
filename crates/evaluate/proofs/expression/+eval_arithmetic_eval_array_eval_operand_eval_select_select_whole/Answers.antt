-- The cycle of calls in which arithmetic and array expressions are worked out meets its contracts: what comes of an
-- expression is what comes of its operands. The measure is the words left from the expression on, four times, and 3 for an
-- operand, 2 for any arithmetic expression, 1 for an array or a select.
-- Assumes nothing.
use borrow.Author.Rules.{rules}
use mathlib.Core.Path.{◌≡◌, refl, sym, ap, ◌∙◌}
use Prim.Native.Nat.{◌+◌, ◌*◌}
use native.Mathlib.Omega.{arith}
use lib.IntN.{pos}
use lib.ListN.{length, get_or, set, replicate}
use mir.Syntax.{w64}
use mir.Val.{SFits}
use Rattle.language.specs.Store.{apply}
use Rattle.execution.specs.Evaluate.{worked}
use Rattle.words.specs.Meaning.{operator_meant}
use Rattle.heads.proofs.Parts.{expression-starts, expression-early, arithmetic-allowed, arithmetic-parts, array_parts}
use Rattle.arithmetic.specs.Worked.{checked}
use Rattle.arithmetic.proofs.Signed.{back, held_two}
use Rattle.evaluate.proofs.Places.{first-operand, second-operand, first_of-three, second-of_three}
use Rattle.evaluate.proofs.Places.{third-of_three}
use Rattle.evaluate.proofs.Elements.{cleared}
use Rattle.evaluate.proofs.Results.{indexed, becomes, becomes-filled, passed, passed-filled, constant-worked, scalar-worked}
use Rattle.evaluate.proofs.Results.{operation-stopped, operation-second, element_worked, select-stopped, select-second}
use Rattle.evaluate.proofs.Results.{identifier-filled, zeros-filled, update-stopped, update-second, update-third}
use Rattle.evaluate.proofs.expression.+eval_arithmetic_eval_array_eval_operand_eval_select_select_whole.Goals as goal

pub eval_arithmetic-arithmetic_head-head-requires : goal.eval_arithmetic-arithmetic_head-head-requires
eval_arithmetic-arithmetic_head-head-requires t c = arithmetic-allowed c.requires

pub eval_arithmetic-bounds-scalars-x : goal.eval_arithmetic-bounds-scalars-x
eval_arithmetic-bounds-scalars-x t c =
    let p = c.requires in
    let x = arithmetic-parts p.tree p.there (sym c.arithmetic_head-head.ensures ∙ c.in-Scalar.is) in let h = x.1 in omega arith

pub eval_arithmetic-returns-in-Constant : goal.eval_arithmetic-returns-in-Constant
eval_arithmetic-returns-in-Constant t c =
    constant-worked c.in-Constant.z (search rules) (sym c.arithmetic_head-head.ensures ∙ c.in-Constant.is)

pub eval_arithmetic-returns-in-Scalar : goal.eval_arithmetic-returns-in-Scalar
eval_arithmetic-returns-in-Scalar t c =
    scalar-worked c.in-Scalar.x (search rules) (sym c.arithmetic_head-head.ensures ∙ c.in-Scalar.is)

pub eval_operand-arithmetic_head-head-requires : goal.eval_operand-arithmetic_head-head-requires
eval_operand-arithmetic_head-head-requires t c = arithmetic-allowed c.requires

pub eval_operand-bounds-scalars-x : goal.eval_operand-bounds-scalars-x
eval_operand-bounds-scalars-x t c =
    let p = c.requires in
    let x = arithmetic-parts p.tree p.there (sym c.arithmetic_head-head.ensures ∙ c.in-Scalar.is) in let h = x.1 in omega arith

pub eval_operand-returns-in-Constant : goal.eval_operand-returns-in-Constant
eval_operand-returns-in-Constant t c =
    constant-worked c.in-Constant.z (search rules) (sym c.arithmetic_head-head.ensures ∙ c.in-Constant.is)

pub eval_operand-returns-in-Scalar : goal.eval_operand-returns-in-Scalar
eval_operand-returns-in-Scalar t c =
    scalar-worked c.in-Scalar.x (search rules) (sym c.arithmetic_head-head.ensures ∙ c.in-Scalar.is)

pub eval_arithmetic-overflow_add-at : goal.eval_arithmetic-overflow_add-at
eval_arithmetic-overflow_add-at t c = let p = c.requires in let i = expression-early p in omega arith

pub eval_arithmetic-eval_operand-requires : goal.eval_arithmetic-eval_operand-requires
eval_arithmetic-eval_operand-requires t c =
    let p = c.requires in
    let x = arithmetic-parts p.tree p.there (sym c.arithmetic_head-head.ensures ∙
    c.in-Operation.is) in let o = first-operand x in let m =
    c.decreases in (omega arith, o.can)

pub eval_arithmetic-overflow_add-at-in-Operation : goal.eval_arithmetic-overflow_add-at-in-Operation
eval_arithmetic-overflow_add-at-in-Operation t c =
    let p = c.requires in let i =
    expression-early p in omega arith

pub eval_arithmetic-end_at-second-requires : goal.eval_arithmetic-end_at-second-requires
eval_arithmetic-end_at-second-requires t c =
    let p = c.requires in
    let x = arithmetic-parts p.tree p.there (sym c.arithmetic_head-head.ensures ∙ c.in-Operation.is) in let h = (first-operand x).listed
    in omega arith

pub eval_arithmetic-eval_operand-requires-in-Operation : goal.eval_arithmetic-eval_operand-requires-in-Operation
eval_arithmetic-eval_operand-requires-in-Operation t c =
    let p = c.requires in
    let x = arithmetic-parts p.tree p.there (sym c.arithmetic_head-head.ensures ∙ c.in-Operation.is) in
    let o = second-operand x c.end_at-second.ensures in let m =
    c.decreases in (omega arith, o.can)

pub eval_arithmetic-unreachable-requires : goal.eval_arithmetic-unreachable-requires
eval_arithmetic-unreachable-requires t c =
    let p = c.requires in
    arithmetic-parts p.tree p.there (sym c.arithmetic_head-head.ensures ∙ c.in-Other.is)

pub eval_arithmetic-returns-in_err-a-in-Operation : goal.eval_arithmetic-returns-in_err-a-in-Operation
eval_arithmetic-returns-in_err-a-in-Operation t c =
    passed _ c.in_err-a-in-Operation.field-0.0 c.from_residual.ensures.1
    (operation-stopped c.in_err-a-in-Operation.field-0.0 c.in_err-a-in-Operation.ensures (sym c.arithmetic_head-head.ensures ∙ c.in-Operation.is))

pub eval_arithmetic-returns-in_err-b-in-Operation : goal.eval_arithmetic-returns-in_err-b-in-Operation
eval_arithmetic-returns-in_err-b-in-Operation t c =
    passed _ c.in_err-b-in-Operation.field-0.0 c.from_residual-in_err-b-in-Operation.ensures.1
    (operation-second c.end_at-second.ensures c.in_ok-a-in-Operation.ensures c.in_err-b-in-Operation.ensures
    (sym c.arithmetic_head-head.ensures ∙ c.in-Operation.is))

pub eval_arithmetic-returns-in_ok-b-in-Operation : goal.eval_arithmetic-returns-in_ok-b-in-Operation
eval_arithmetic-returns-in_ok-b-in-Operation t c =
    let fa : SFits w64 c.in_ok-a-in-Operation.a = search rules in
    let fb : SFits w64 c.in_ok-b-in-Operation.b = search rules in
    becomes
    (c.operate.ensures ∙ held_two (λ x y. checked (apply (operator_meant c.in-Operation.o) x y)) fa fb)
    (operation-second c.end_at-second.ensures c.in_ok-a-in-Operation.ensures c.in_ok-b-in-Operation.ensures
    (sym c.arithmetic_head-head.ensures ∙ c.in-Operation.is))

pub eval_array-array_head-head-requires : goal.eval_array-array_head-head-requires
eval_array-array_head-head-requires t c = expression-starts c.requires

pub eval_array-fetch-requires : goal.eval_array-fetch-requires
eval_array-fetch-requires t c =
    let p = c.requires in
    let x = array_parts p.tree p.there (sym c.array_head-head.ensures ∙ c.in-Identifier.is) in let h = x.1 in (omega arith, omega arith, omega arith)

pub eval_array-overflow_add-at : goal.eval_array-overflow_add-at
eval_array-overflow_add-at t c = let p = c.requires in let i = expression-early p in omega arith

pub eval_array-eval_array-requires : goal.eval_array-eval_array-requires
eval_array-eval_array-requires t c =
    let p = c.requires in
    let x = array_parts p.tree p.there (sym c.array_head-head.ensures ∙ c.in-Update.is) in let o = first_of-three x in let m =
    c.decreases in (omega arith, o.can)

pub eval_array-overflow_add-at-in-Update : goal.eval_array-overflow_add-at-in-Update
eval_array-overflow_add-at-in-Update t c =
    let p = c.requires in let i =
    expression-early p in omega arith

pub eval_array-end_at-second-requires : goal.eval_array-end_at-second-requires
eval_array-end_at-second-requires t c =
    let p = c.requires in
    let x = array_parts p.tree p.there (sym c.array_head-head.ensures ∙ c.in-Update.is) in let h = (first_of-three x).listed in omega
    arith

pub eval_array-eval_operand-requires : goal.eval_array-eval_operand-requires
eval_array-eval_operand-requires t c =
    let p = c.requires in
    let x = array_parts p.tree p.there (sym c.array_head-head.ensures ∙ c.in-Update.is) in
    let o = second-of_three x c.end_at-second.ensures in let m =
    c.decreases in (omega arith, o.can)

pub eval_array-end_at-third-requires : goal.eval_array-end_at-third-requires
eval_array-end_at-third-requires t c =
    let p = c.requires in
    let x = array_parts p.tree p.there (sym c.array_head-head.ensures ∙ c.in-Update.is) in
    let h = (second-of_three x c.end_at-second.ensures).listed in omega arith

pub eval_array-eval_arithmetic-requires : goal.eval_array-eval_arithmetic-requires
eval_array-eval_arithmetic-requires t c =
    let p = c.requires in
    let x = array_parts p.tree p.there (sym c.array_head-head.ensures ∙ c.in-Update.is) in
    let o = third-of_three x c.end_at-second.ensures
    c.end_at-third.ensures in let m = c.decreases in (omega arith, o.can)

pub eval_array-unreachable-requires : goal.eval_array-unreachable-requires
eval_array-unreachable-requires t c =
    let p = c.requires in
    array_parts p.tree p.there (sym c.array_head-head.ensures ∙ c.in-Other.is)

pub eval_array-returns-in-Identifier : goal.eval_array-returns-in-Identifier
eval_array-returns-in-Identifier t c =
    identifier-filled c.in-Identifier.a _ (sym c.array_head-head.ensures ∙ c.in-Identifier.is) c.fetch.ensures

pub eval_array-returns-in-Zeros : goal.eval_array-returns-in-Zeros
eval_array-returns-in-Zeros t c =
    let e : length c.args.scratch.now ≡ 64 = omega arith in
    zeros-filled _ (sym c.array_head-head.ensures ∙ c.in-Zeros.is)
    (c.fill.ensures.after (λ y e. e) ∙ ap (λ n. replicate n (pos 0)) e ∙ cleared)

pub eval_array-returns-in_err-eval_array-in-Update : goal.eval_array-returns-in_err-eval_array-in-Update
eval_array-returns-in_err-eval_array-in-Update t c =
    passed-filled _ _ c.in_err-eval_array-in-Update.field-0.0 c.from_residual.ensures.1
    (update-stopped c.in_err-eval_array-in-Update.field-0.0 c.in_err-eval_array-in-Update.ensures (sym c.array_head-head.ensures ∙ c.in-Update.is))

pub eval_array-returns-in_err-i-in-Update : goal.eval_array-returns-in_err-i-in-Update
eval_array-returns-in_err-i-in-Update t c =
    passed-filled _ _ c.in_err-i-in-Update.field-0.0 c.from_residual-in_err-i-in-Update.ensures.1
    (update-second c.end_at-second.ensures c.in_err-i-in-Update.ensures refl c.in_ok-eval_array-in-Update.ensures (sym c.array_head-head.ensures ∙ c.in-Update.is))

pub eval_array-returns-in_err-n-in-Update : goal.eval_array-returns-in_err-n-in-Update
eval_array-returns-in_err-n-in-Update t c =
    passed-filled _ _ c.in_err-n-in-Update.field-0.0 c.from_residual-in_err-n-in-Update.ensures.1
    (update-second c.end_at-second.ensures c.in_ok-i-in-Update.ensures (indexed c.in_ok-i-in-Update.i (search rules) c.in_err-n-in-Update.ensures.outcome)
    c.in_ok-eval_array-in-Update.ensures (sym c.array_head-head.ensures ∙ c.in-Update.is))

pub eval_array-returns-in_err-v-in-Update : goal.eval_array-returns-in_err-v-in-Update
eval_array-returns-in_err-v-in-Update t c =
    passed-filled _ _ c.in_err-v-in-Update.field-0.0 c.from_residual-in_err-v-in-Update.ensures.1
    (update-third c.end_at-second.ensures c.in_ok-i-in-Update.ensures (indexed c.in_ok-i-in-Update.i (search rules) c.in_ok-n-in-Update.ensures.outcome)
    c.in_ok-eval_array-in-Update.ensures c.end_at-third.ensures c.in_err-v-in-Update.ensures (sym c.array_head-head.ensures ∙ c.in-Update.is))

pub eval_array-returns-in_ok-v-in-Update : goal.eval_array-returns-in_ok-v-in-Update
eval_array-returns-in_ok-v-in-Update t c =
    let fv : SFits w64 c.in_ok-v-in-Update.v = search rules in
    becomes-filled
    (ap (λ z. worked (set c.eval_array.new.scratch c.in_ok-n-in-Update.n z)) (back fv))
    (update-third c.end_at-second.ensures c.in_ok-i-in-Update.ensures (indexed c.in_ok-i-in-Update.i (search rules) c.in_ok-n-in-Update.ensures.outcome)
    c.in_ok-eval_array-in-Update.ensures c.end_at-third.ensures c.in_ok-v-in-Update.ensures (sym c.array_head-head.ensures ∙ c.in-Update.is))

pub eval_select-overflow_add-at : goal.eval_select-overflow_add-at
eval_select-overflow_add-at t c = let p = c.requires in let i = expression-early p.expression in omega arith

pub eval_select-array_head-head-requires : goal.eval_select-array_head-head-requires
eval_select-array_head-head-requires t c =
    let p = c.requires in
    let x = arithmetic-parts p.expression.tree p.expression.there p.head in let h = (first-operand x).inside in omega arith

pub eval_select-overflow_add-at-in-Identifier : goal.eval_select-overflow_add-at-in-Identifier
eval_select-overflow_add-at-in-Identifier t c = let p = c.requires in let i = expression-early p.expression in omega arith

pub eval_select-end_at-second-requires : goal.eval_select-end_at-second-requires
eval_select-end_at-second-requires t c =
    let p = c.requires in
    let x = arithmetic-parts p.expression.tree p.expression.there p.head in let h = (first-operand x).listed in omega arith

pub eval_select-eval_operand-requires : goal.eval_select-eval_operand-requires
eval_select-eval_operand-requires t c =
    let p = c.requires in
    let x = arithmetic-parts p.expression.tree p.expression.there p.head in
    let o = second-operand x c.end_at-second.ensures in let m = c.decreases in (omega arith, o.can)

pub eval_select-bounds-values-a : goal.eval_select-bounds-values-a
eval_select-bounds-values-a t c =
    let p = c.requires in
    let x = arithmetic-parts p.expression.tree p.expression.there p.head in
    let y = array_parts x.first x.first-at (sym c.array_head-head.ensures ∙ c.in-Identifier.is) in
    let h = y.1 in let l = c.in_ok-n-in-Identifier.ensures.small in omega arith

pub eval_select-returns-in_err-i-in-Identifier : goal.eval_select-returns-in_err-i-in-Identifier
eval_select-returns-in_err-i-in-Identifier t c =
    passed _ c.in_err-i-in-Identifier.field-0.0 c.from_residual.ensures.1
    (element_worked c.end_at-second.ensures c.in_err-i-in-Identifier.ensures refl c.requires.head (sym c.array_head-head.ensures ∙ c.in-Identifier.is))

pub eval_select-returns-in_err-n-in-Identifier : goal.eval_select-returns-in_err-n-in-Identifier
eval_select-returns-in_err-n-in-Identifier t c =
    passed _ c.in_err-n-in-Identifier.field-0.0 c.from_residual-in_err-n-in-Identifier.ensures.1
    (element_worked c.end_at-second.ensures c.in_ok-i-in-Identifier.ensures (indexed c.in_ok-i-in-Identifier.i (search rules) c.in_err-n-in-Identifier.ensures.outcome)
    c.requires.head (sym c.array_head-head.ensures ∙ c.in-Identifier.is))

pub eval_select-returns-in_ok-n-in-Identifier : goal.eval_select-returns-in_ok-n-in-Identifier
eval_select-returns-in_ok-n-in-Identifier t c =
    let fz : SFits w64 (get_or c.args.values.now (64 * c.in-Identifier.a + c.in_ok-n-in-Identifier.n) (pos 0)) = search rules in
    becomes (ap worked (back fz))
    (element_worked c.end_at-second.ensures c.in_ok-i-in-Identifier.ensures (indexed c.in_ok-i-in-Identifier.i (search rules) c.in_ok-n-in-Identifier.ensures.outcome)
    c.requires.head (sym c.array_head-head.ensures ∙ c.in-Identifier.is))

pub select_whole-overflow_add-at : goal.select_whole-overflow_add-at
select_whole-overflow_add-at t c = let p = c.requires in let i = expression-early p.expression in omega arith

pub select_whole-eval_array-requires : goal.select_whole-eval_array-requires
select_whole-eval_array-requires t c =
    let p = c.requires in
    let x = arithmetic-parts p.expression.tree p.expression.there
    p.head in let o = first-operand x in let m = c.decreases in (omega arith, o.can)

pub select_whole-overflow_add-at-2 : goal.select_whole-overflow_add-at-2
select_whole-overflow_add-at-2 t c = let p = c.requires in let i = expression-early p.expression in omega arith

pub select_whole-end_at-second-requires : goal.select_whole-end_at-second-requires
select_whole-end_at-second-requires t c =
    let p = c.requires in
    let x = arithmetic-parts p.expression.tree p.expression.there
    p.head in let h = (first-operand x).listed in omega arith

pub select_whole-eval_operand-requires : goal.select_whole-eval_operand-requires
select_whole-eval_operand-requires t c =
    let p = c.requires in
    let x = arithmetic-parts p.expression.tree p.expression.there p.head in
    let o = second-operand x c.end_at-second.ensures in let m =
    c.decreases in (omega arith, o.can)

pub select_whole-returns-in_err-eval_array : goal.select_whole-returns-in_err-eval_array
select_whole-returns-in_err-eval_array t c =
    passed _ c.in_err-eval_array.field-0.0 c.from_residual.ensures.1
    (select-stopped c.in_err-eval_array.field-0.0 c.in_err-eval_array.ensures c.requires.head)

pub select_whole-returns-in_err-i : goal.select_whole-returns-in_err-i
select_whole-returns-in_err-i t c =
    passed _ c.in_err-i.field-0.0 c.from_residual-in_err-i.ensures.1
    (select-second c.end_at-second.ensures c.in_err-i.ensures refl c.in_ok-eval_array.ensures c.requires.head)

pub select_whole-returns-in_err-n : goal.select_whole-returns-in_err-n
select_whole-returns-in_err-n t c =
    passed _ c.in_err-n.field-0.0 c.from_residual-in_err-n.ensures.1
    (select-second c.end_at-second.ensures c.in_ok-i.ensures (indexed c.in_ok-i.i (search rules) c.in_err-n.ensures.outcome)
    c.in_ok-eval_array.ensures c.requires.head)

pub select_whole-returns : goal.select_whole-returns
select_whole-returns t c =
    let fz : SFits w64 (get_or c.eval_array.new.scratch c.in_ok-n.n (pos 0)) = search rules in
    becomes (ap worked (back fz))
    (select-second c.end_at-second.ensures c.in_ok-i.ensures (indexed c.in_ok-i.i (search rules) c.in_ok-n.ensures.outcome)
    c.in_ok-eval_array.ensures c.requires.head)
