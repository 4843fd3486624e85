-- `evaluate::boolean::eval_boolean` meets its contract: what comes of an expression is what comes of its operands. The
-- measure is the words left from the expression on.
-- Assumes nothing.
use borrow.Author.Rules.{rules}
use mathlib.Core.Path.{sym, ap, ◌∙◌}
use mir.Syntax.{w64}
use mir.Val.{SFits}
use Rattle.std.specs.Prelude.{Ok, Err}
use Rattle.language.specs.Store.{relate}
use Rattle.execution.specs.Evaluate.{worked}
use Rattle.words.specs.Meaning.{comparison_meant}
use Rattle.arithmetic.proofs.Signed.{held_two}
use native.Mathlib.Omega.{arith}
use Rattle.heads.proofs.Parts.{expression-early, boolean-allowed, boolean-parts}
use Rattle.evaluate.proofs.Places.{only-operand, first-operand, second-operand}
use Rattle.evaluate.proofs.Results.{becomes, passed, compare-stopped, compare-second, truth-tested, not_tested}
use Rattle.evaluate.proofs.Results.{and-stopped, and-answered, and-settled, or-stopped, or-answered, or-settled}
use Rattle.evaluate.proofs.boolean.+eval_boolean.Goals as goal

pub boolean_head-head-requires : goal.boolean_head-head-requires
boolean_head-head-requires t c = boolean-allowed c.requires

pub overflow_add-at : goal.overflow_add-at
overflow_add-at t c = let i = expression-early c.requires in omega arith

pub eval_operand-requires : goal.eval_operand-requires
eval_operand-requires t c =
    let p = c.requires in
    let x = boolean-parts p.tree p.there (sym c.boolean_head-head.ensures ∙ c.in-Compare.is) in (first-operand x).can

pub overflow_add-at-in-Compare : goal.overflow_add-at-in-Compare
overflow_add-at-in-Compare t c =
    let i = expression-early c.requires in
    omega arith

pub end_at-second-requires : goal.end_at-second-requires
end_at-second-requires t c =
    let p = c.requires in
    let x = boolean-parts p.tree p.there (sym c.boolean_head-head.ensures ∙ c.in-Compare.is) in let h = (first-operand x).listed in omega arith

pub eval_operand-requires-in-Compare : goal.eval_operand-requires-in-Compare
eval_operand-requires-in-Compare t c =
    let p = c.requires in
    let x = boolean-parts p.tree p.there (sym c.boolean_head-head.ensures ∙ c.in-Compare.is) in (second-operand x
    c.end_at-second.ensures).can

pub overflow_add-at-in-And : goal.overflow_add-at-in-And
overflow_add-at-in-And t c = let i = expression-early c.requires in omega arith

pub eval_boolean-requires : goal.eval_boolean-requires
eval_boolean-requires t c =
    let p = c.requires in
    let x = boolean-parts p.tree p.there (sym c.boolean_head-head.ensures ∙ c.in-And.is) in let o = first-operand x in let m = c.decreases in
    (omega arith, o.can)

pub overflow_add-at-then-a : goal.overflow_add-at-then-a
overflow_add-at-then-a t c = let i = expression-early c.requires in omega arith

pub end_at-requires : goal.end_at-requires
end_at-requires t c =
    let p = c.requires in
    let x = boolean-parts p.tree p.there (sym c.boolean_head-head.ensures ∙ c.in-And.is) in
    let h = (first-operand x).listed in omega arith

pub eval_boolean-requires-then-a : goal.eval_boolean-requires-then-a
eval_boolean-requires-then-a t c =
    let p = c.requires in
    let x = boolean-parts p.tree p.there (sym c.boolean_head-head.ensures ∙ c.in-And.is) in
    let o = second-operand x c.end_at.ensures in let m = c.decreases in (omega arith, o.can)

pub overflow_add-at-in-Or : goal.overflow_add-at-in-Or
overflow_add-at-in-Or t c = let i = expression-early c.requires in omega arith

pub eval_boolean-requires-in-Or : goal.eval_boolean-requires-in-Or
eval_boolean-requires-in-Or t c =
    let p = c.requires in
    let x = boolean-parts p.tree p.there (sym c.boolean_head-head.ensures ∙ c.in-Or.is) in let o = first-operand x in let m =
    c.decreases in (omega arith, o.can)

pub overflow_add-at-else-a-2 : goal.overflow_add-at-else-a-2
overflow_add-at-else-a-2 t c = let i = expression-early c.requires in omega arith

pub end_at-requires-else-a-2 : goal.end_at-requires-else-a-2
end_at-requires-else-a-2 t c =
    let p = c.requires in
    let x = boolean-parts p.tree p.there (sym c.boolean_head-head.ensures ∙ c.in-Or.is) in
    let h = (first-operand x).listed in omega arith

pub eval_boolean-requires-else-a-2 : goal.eval_boolean-requires-else-a-2
eval_boolean-requires-else-a-2 t c =
    let p = c.requires in
    let x = boolean-parts p.tree p.there (sym c.boolean_head-head.ensures ∙ c.in-Or.is) in
    let o = second-operand x c.end_at-else-a-2.ensures in let m = c.decreases in (omega arith, o.can)

pub overflow_add-at-in-Not : goal.overflow_add-at-in-Not
overflow_add-at-in-Not t c = let i = expression-early c.requires in omega arith

pub eval_boolean-requires-in-Not : goal.eval_boolean-requires-in-Not
eval_boolean-requires-in-Not t c =
    let p = c.requires in
    let x = boolean-parts p.tree p.there (sym c.boolean_head-head.ensures ∙ c.in-Not.is) in let o = only-operand x in let m = c.decreases in
    (omega arith, o.can)

pub returns-in_err-a-in-Compare : goal.returns-in_err-a-in-Compare
returns-in_err-a-in-Compare t c =
    passed _ c.in_err-a-in-Compare.field-0.0 c.from_residual.ensures.1 (compare-stopped c.in_err-a-in-Compare.field-0.0 c.in_err-a-in-Compare.ensures (sym c.boolean_head-head.ensures ∙ c.in-Compare.is))

pub returns-in_err-b-in-Compare : goal.returns-in_err-b-in-Compare
returns-in_err-b-in-Compare t c =
    passed _ c.in_err-b-in-Compare.field-0.0 c.from_residual-in_err-b-in-Compare.ensures.1
    (compare-second c.end_at-second.ensures c.in_ok-a-in-Compare.ensures c.in_err-b-in-Compare.ensures
    (sym c.boolean_head-head.ensures ∙ c.in-Compare.is))

pub returns-in_err-a-in-And : goal.returns-in_err-a-in-And
returns-in_err-a-in-And t c =
    passed _ c.in_err-a-in-And.field-0.0 c.from_residual-in_err-a-in-And.ensures.1
    (and-stopped c.in_err-a-in-And.field-0.0 c.in_err-a-in-And.ensures (sym c.boolean_head-head.ensures ∙ c.in-And.is))

pub returns-in_err-a-in-Or : goal.returns-in_err-a-in-Or
returns-in_err-a-in-Or t c =
    passed _ c.in_err-a-in-Or.field-0.0 c.from_residual-in_err-a-in-Or.ensures.1
    (or-stopped c.in_err-a-in-Or.field-0.0 c.in_err-a-in-Or.ensures (sym c.boolean_head-head.ensures ∙ c.in-Or.is))

pub returns-in_err-a-in-Not : goal.returns-in_err-a-in-Not
returns-in_err-a-in-Not t c =
    passed _ c.in_err-a-in-Not.field-0.0 c.from_residual-in_err-a-in-Not.ensures.1 (not_tested c.in_err-a-in-Not.ensures (sym c.boolean_head-head.ensures ∙ c.in-Not.is))

pub unreachable-requires : goal.unreachable-requires
unreachable-requires t c =
    let p = c.requires in
    boolean-parts p.tree p.there (sym c.boolean_head-head.ensures ∙ c.in-Other.is)

pub returns-in_ok-b-in-Compare : goal.returns-in_ok-b-in-Compare
returns-in_ok-b-in-Compare t c =
    let fa : SFits w64 c.in_ok-a-in-Compare.a = search rules in
    let fb : SFits w64 c.in_ok-b-in-Compare.b = search rules in
    becomes
    (ap worked (c.relate.ensures ∙ held_two (relate (comparison_meant c.in-Compare.c)) fa fb))
    (compare-second c.end_at-second.ensures c.in_ok-a-in-Compare.ensures c.in_ok-b-in-Compare.ensures
    (sym c.boolean_head-head.ensures ∙ c.in-Compare.is))

pub returns-in-Truth : goal.returns-in-Truth
returns-in-Truth t c =
    truth-tested c.in-Truth.t (sym c.boolean_head-head.ensures ∙ c.in-Truth.is)

pub returns-in_err-eval_boolean-in-And : goal.returns-in_err-eval_boolean-in-And
returns-in_err-eval_boolean-in-And t c =
    passed _ c.in_err-eval_boolean-in-And.field-0.0 c.from_residual-in_err-eval_boolean-in-And.ensures.1
    (and-answered c.end_at.ensures (Err c.in_err-eval_boolean-in-And.field-0.0) c.in_ok-a-in-And.ensures c.in_err-eval_boolean-in-And.ensures
    (sym c.boolean_head-head.ensures ∙ c.in-And.is) c.if-a.true)

pub returns-in_ok-eval_boolean-in-And : goal.returns-in_ok-eval_boolean-in-And
returns-in_ok-eval_boolean-in-And t c =
    and-answered c.end_at.ensures (Ok c.in_ok-eval_boolean-in-And.field-0) c.in_ok-a-in-And.ensures c.in_ok-eval_boolean-in-And.ensures
    (sym c.boolean_head-head.ensures ∙ c.in-And.is) c.if-a.true

pub returns-in_err-eval_boolean-in-Or : goal.returns-in_err-eval_boolean-in-Or
returns-in_err-eval_boolean-in-Or t c =
    passed _ c.in_err-eval_boolean-in-Or.field-0.0 c.from_residual-in_err-eval_boolean-in-Or.ensures.1
    (or-answered c.end_at-else-a-2.ensures (Err c.in_err-eval_boolean-in-Or.field-0.0) c.in_ok-a-in-Or.ensures c.in_err-eval_boolean-in-Or.ensures
    (sym c.boolean_head-head.ensures ∙ c.in-Or.is) c.if-a-2.false)

pub returns-in_ok-eval_boolean-in-Or : goal.returns-in_ok-eval_boolean-in-Or
returns-in_ok-eval_boolean-in-Or t c =
    or-answered c.end_at-else-a-2.ensures (Ok c.in_ok-eval_boolean-in-Or.field-0) c.in_ok-a-in-Or.ensures c.in_ok-eval_boolean-in-Or.ensures
    (sym c.boolean_head-head.ensures ∙ c.in-Or.is) c.if-a-2.false

pub returns-else-a : goal.returns-else-a
returns-else-a t c =
    and-settled c.in_ok-a-in-And.ensures (sym c.boolean_head-head.ensures ∙ c.in-And.is) c.if-a.false

pub returns-then-a-2 : goal.returns-then-a-2
returns-then-a-2 t c =
    or-settled c.in_ok-a-in-Or.ensures (sym c.boolean_head-head.ensures ∙ c.in-Or.is) c.if-a-2.true

pub returns-in_ok-a-in-Not : goal.returns-in_ok-a-in-Not
returns-in_ok-a-in-Not t c =
    not_tested c.in_ok-a-in-Not.ensures (sym c.boolean_head-head.ensures ∙ c.in-Not.is)
