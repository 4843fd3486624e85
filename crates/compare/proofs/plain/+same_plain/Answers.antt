-- `compare::plain::same_plain` meets its contract: the first words of two plain forms, then their operands. The measure is the words
-- left from the first boolean on.
-- Assumes nothing.
use native.Mathlib.Omega.{arith}
use Rattle.compare.proofs.PlainForms.{boolean-known, start-inside, other-head, joined, both-truth, both-comparison}
use Rattle.compare.proofs.PlainForms.{comparisons-at, first-parts, second_parts, first-differ, not_same, second-same}
use Rattle.compare.proofs.Formed.{can-true}
use Rattle.compare.proofs.plain.+same_plain.Goals as goal

pub offset_bounds-w-a : goal.offset_bounds-w-a
offset_bounds-w-a t c =
    let p = c.requires in
    let o = p.two.ends_of in
    let x = c.start_from-a.ensures.from in
    let i = start-inside o x in
    omega arith

pub bounds-w-a : goal.bounds-w-a
bounds-w-a t c =
    let p = c.requires in
    let o = p.two.ends_of in
    let x = c.start_from-a.ensures.from in
    start-inside o x

pub offset_bounds-w-b : goal.offset_bounds-w-b
offset_bounds-w-b t c =
    let p = c.requires in
    let o = p.two.ends_of in
    let y = c.start_from-b.ensures.from in
    let i = start-inside o y in
    omega arith

pub bounds-w-b : goal.bounds-w-b
bounds-w-b t c =
    let p = c.requires in
    let o = p.two.ends_of in
    let y = c.start_from-b.ensures.from in
    start-inside o y

pub returns-then-x-w : goal.returns-then-x-w
returns-then-x-w t c =
    let p = c.requires in
    let o = p.two.ends_of in
    let x = c.start_from-a.ensures.from in
    let y = c.start_from-b.ensures.from in
    other-head o x y c.args.change c.if-x-w.true

pub returns-then-kind-eq-TRUTH : goal.returns-then-kind-eq-TRUTH
returns-then-kind-eq-TRUTH t c =
    let p = c.requires in
    let o = p.two.ends_of in
    let x = c.start_from-a.ensures.from in
    let y = c.start_from-b.ensures.from in
    both-truth o x y c.if-x-w.false c.args.change c.if-kind-eq-TRUTH.true

pub same_changed-requires : goal.same_changed-requires
same_changed-requires t c =
    let p = c.requires in
    let o = p.two.ends_of in
    let x = c.start_from-a.ensures.from in
    let y = c.start_from-b.ensures.from in
    comparisons-at o x y c.if-x-w.false c.args.change c.if-kind-eq-COMPARISON.true p.two.change-at

pub returns-then-kind-eq-COMPARISON : goal.returns-then-kind-eq-COMPARISON
returns-then-kind-eq-COMPARISON t c =
    let p = c.requires in
    let o = p.two.ends_of in
    let x = c.start_from-a.ensures.from in
    let y = c.start_from-b.ensures.from in
    both-comparison o x y c.if-x-w.false c.args.change c.if-kind-eq-COMPARISON.true c.same_changed.ensures

pub left_other-left-requires : goal.left_other-left-requires
left_other-left-requires t c =
    let p = c.requires in
    let o = p.two.ends_of in
    let x = c.start_from-a.ensures.from in
    let y = c.start_from-b.ensures.from in
    let two = joined o x y c.if-x-w.false c.if-kind-eq-TRUTH.false c.if-kind-eq-COMPARISON.false in
    record {
      ends_of = o;
      inside = start-inside o x;
      operand = (first-parts o c.args.change two p.two.change-at).first;
      known = c.start_from-a.ensures.left_other;
    }

pub overflow_add-a : goal.overflow_add-a
overflow_add-a t c =
    let p = c.requires in
    let o = p.two.ends_of in
    let x = c.start_from-a.ensures.from in
    let i = start-inside o x in
    omega arith

pub overflow_add-b : goal.overflow_add-b
overflow_add-b t c =
    let p = c.requires in
    let o = p.two.ends_of in
    let y = c.start_from-b.ensures.from in
    let i = start-inside o y in
    omega arith

pub left_other-requires : goal.left_other-requires
left_other-requires t c =
    let p = c.requires in
    let o = p.two.ends_of in
    let x = c.start_from-a.ensures.from in
    let y = c.start_from-b.ensures.from in
    let two = joined o x y c.if-x-w.false c.if-kind-eq-TRUTH.false c.if-kind-eq-COMPARISON.false in
    record {
      ends_of = o;
      inside = start-inside o y;
      operand = (first-parts o c.args.change two p.two.change-at).second;
      known = c.start_from-b.ensures.left_other;
    }

pub same_plain-requires : goal.same_plain-requires
same_plain-requires t c =
    let p = c.requires in
    let o = p.two.ends_of in
    let x = c.start_from-a.ensures.from in
    let y = c.start_from-b.ensures.from in
    let two = joined o x y c.if-x-w.false c.if-kind-eq-TRUTH.false c.if-kind-eq-COMPARISON.false in
    let i = start-inside o x in
    let l = x.further in
    let m = c.decreases in (
      omega arith,
      record {
        two = first-parts o c.args.change two p.two.change-at;
        first-other = c.left_other-left.ensures;
        second-other = c.left_other.ensures;
      },
    )

pub returns-then-not-same_plain : goal.returns-then-not-same_plain
returns-then-not-same_plain t c =
    let p = c.requires in
    let o = p.two.ends_of in
    let x = c.start_from-a.ensures.from in
    let y = c.start_from-b.ensures.from in
    let two = joined o x y c.if-x-w.false c.if-kind-eq-TRUTH.false c.if-kind-eq-COMPARISON.false in
    first-differ o c.args.change two c.same_plain.ensures c.if-not-same_plain.true

pub returns-then-kind-eq-NOT : goal.returns-then-kind-eq-NOT
returns-then-kind-eq-NOT t c =
    let p = c.requires in
    let o = p.two.ends_of in
    let x = c.start_from-a.ensures.from in
    let y = c.start_from-b.ensures.from in
    let two = joined o x y c.if-x-w.false c.if-kind-eq-TRUTH.false c.if-kind-eq-COMPARISON.false in
    not_same o c.args.change two c.same_plain.ensures c.if-not-same_plain.false c.if-kind-eq-NOT.true

pub overflow_add-a-2 : goal.overflow_add-a-2
overflow_add-a-2 t c =
    let p = c.requires in
    let o = p.two.ends_of in
    let x = c.start_from-a.ensures.from in
    let i = start-inside o x in
    omega arith

pub end_at-c-requires : goal.end_at-c-requires
end_at-c-requires t c =
    let p = c.requires in
    let o = p.two.ends_of in
    let x = c.start_from-a.ensures.from in
    let y = c.start_from-b.ensures.from in
    let two = joined o x y c.if-x-w.false c.if-kind-eq-TRUTH.false c.if-kind-eq-COMPARISON.false in
    (boolean-known o (first-parts o c.args.change two p.two.change-at).first).listed

pub overflow_add-b-2 : goal.overflow_add-b-2
overflow_add-b-2 t c =
    let p = c.requires in
    let o = p.two.ends_of in
    let y = c.start_from-b.ensures.from in
    let i = start-inside o y in
    omega arith

pub end_at-d-requires : goal.end_at-d-requires
end_at-d-requires t c =
    let p = c.requires in
    let o = p.two.ends_of in
    let x = c.start_from-a.ensures.from in
    let y = c.start_from-b.ensures.from in
    let two = joined o x y c.if-x-w.false c.if-kind-eq-TRUTH.false c.if-kind-eq-COMPARISON.false in
    (boolean-known o (first-parts o c.args.change two p.two.change-at).second).listed

pub other_of-right-requires : goal.other_of-right-requires
other_of-right-requires t c =
    let p = c.requires in
    let o = p.two.ends_of in
    let x = c.start_from-a.ensures.from in
    let y = c.start_from-b.ensures.from in
    let two = joined o x y c.if-x-w.false c.if-kind-eq-TRUTH.false c.if-kind-eq-COMPARISON.false in
    can-true o (second_parts o c.args.change two c.if-kind-eq-NOT.false c.end_at-c.ensures c.end_at-d.ensures p.two.change-at).first

pub other_of-requires : goal.other_of-requires
other_of-requires t c =
    let p = c.requires in
    let o = p.two.ends_of in
    let x = c.start_from-a.ensures.from in
    let y = c.start_from-b.ensures.from in
    let two = joined o x y c.if-x-w.false c.if-kind-eq-TRUTH.false c.if-kind-eq-COMPARISON.false in
    can-true o (second_parts o c.args.change two c.if-kind-eq-NOT.false c.end_at-c.ensures c.end_at-d.ensures p.two.change-at).second

pub same_plain-requires-2 : goal.same_plain-requires-2
same_plain-requires-2 t c =
    let p = c.requires in
    let o = p.two.ends_of in
    let x = c.start_from-a.ensures.from in
    let y = c.start_from-b.ensures.from in
    let two = joined o x y c.if-x-w.false c.if-kind-eq-TRUTH.false c.if-kind-eq-COMPARISON.false in
    let n = (boolean-known o (first-parts o c.args.change two p.two.change-at).first).start in
    let i = start-inside o x in
    let l = x.further in
    let e = c.end_at-c.ensures in (
      omega arith,
      record {
        two = second_parts o c.args.change two c.if-kind-eq-NOT.false c.end_at-c.ensures c.end_at-d.ensures p.two.change-at;
        first-other = c.other_of-right.ensures;
        second-other = c.other_of.ensures;
      },
    )

pub returns : goal.returns
returns t c =
    let p = c.requires in
    let o = p.two.ends_of in
    let x = c.start_from-a.ensures.from in
    let y = c.start_from-b.ensures.from in
    let two = joined o x y c.if-x-w.false c.if-kind-eq-TRUTH.false c.if-kind-eq-COMPARISON.false in
    second-same o c.args.change two c.same_plain.ensures c.if-not-same_plain.false c.if-kind-eq-NOT.false c.end_at-c.ensures
    c.end_at-d.ensures c.same_plain-2.ensures
