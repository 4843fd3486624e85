-- `compare::start::other_of` meets its contract: by its end in the list.
-- Assumes nothing.
use native.Mathlib.Omega.{arith}
use Rattle.compare.proofs.PlainForms.{boolean-known}
use Rattle.compare.proofs.Starts.{first-found, first-none, other-until}
use Rattle.std.proofs.Common.{rules, ◌<◌, ◌≤◌, length}
use Rattle.compare.proofs.start.other_of.Goals as goal

pub end_at-to-requires : goal.end_at-to-requires
end_at-to-requires c = let p = c.requires in (boolean-known p.ends_of p.whole).listed

pub offset_bounds-w-f : goal.offset_bounds-w-f
offset_bounds-w-f c =
    let p = c.requires in
    let k = boolean-known p.ends_of p.whole in
    omega (arith, k.start, k.inside)

pub slice_bounds-first_other-count : goal.slice_bounds-first_other-count
slice_bounds-first_other-count c =
    let p = c.requires in
    let k = boolean-known p.ends_of p.whole in
    omega (arith, k.start, c.end_at-to.ensures)

pub slice_bounds-first_other-start : goal.slice_bounds-first_other-start
slice_bounds-first_other-start c =
    let p = c.requires in
    let k = boolean-known p.ends_of p.whole in
    let h : c.args.f < c.end_at-to.result = omega (arith, k.start, c.end_at-to.ensures) in
    let l : c.end_at-to.result ≤ length c.args.w.now = omega (arith, k.inside, c.end_at-to.ensures) in
    search rules

pub slice_bounds-first_other-end : goal.slice_bounds-first_other-end
slice_bounds-first_other-end c =
    let p = c.requires in
    let k = boolean-known p.ends_of p.whole in
    let h : c.args.f < c.end_at-to.result = omega (arith, k.start, c.end_at-to.ensures) in
    let l : c.end_at-to.result ≤ length c.args.w.now = omega (arith, k.inside, c.end_at-to.ensures) in
    search rules

pub returns-in-Some : goal.returns-in-Some
returns-in-Some c =
    let p = c.requires in
    let k = boolean-known p.ends_of p.whole in
    other-until c.args.ends.now c.end_at-to.ensures
    (first-found _ _ _ (omega (arith, k.start, c.end_at-to.ensures)) (omega (arith, k.inside, c.end_at-to.ensures)) c.in-Some.ensures)

pub returns-in-None : goal.returns-in-None
returns-in-None c =
    let p = c.requires in
    let k = boolean-known p.ends_of p.whole in
    other-until c.args.ends.now c.end_at-to.ensures
    (first-none _ _ _ (omega (arith, k.start, c.end_at-to.ensures)) (omega (arith, k.inside, c.end_at-to.ensures)) c.in-None.ensures)
