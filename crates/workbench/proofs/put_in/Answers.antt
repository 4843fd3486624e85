-- `workbench::put_in` meets its contract: 17, 1, 2 to 6 and 16, and then the rest.
-- Assumes nothing.
use mathlib.Core.Path.{refl, sym, ◌∙◌}
use native.Mathlib.Omega.{arith}
use Rattle.reader.proofs.Walks.{exit}
use Rattle.replacement.proofs.Puts.{few-put}
use Rattle.replacement.proofs.PutReads.{bad-put, called-put, loaded-rooms}
use Rattle.workbench.proofs.put_in.Goals as goal

pub returns-then-few_numbers : goal.returns-then-few_numbers
returns-then-few_numbers c = few-put _ _ _ _ _ c.requires.1 (sym c.few_numbers.ensures ∙ c.if-few_numbers.true) c.refused.ensures

pub returns-then-bad_length : goal.returns-then-bad_length
returns-then-bad_length c =
    bad-put c.args.context c.args.masks.now _ _ c.requires.1 (sym c.few_numbers.ensures ∙ c.if-few_numbers.false)
    (sym c.bad_length.ensures ∙ c.if-bad_length.true) c.refused-then-bad_length.ensures

pub walk_first-requires : goal.walk_first-requires
walk_first-requires c =
    let good = sym c.bad_length.ensures ∙ c.if-bad_length.false in
    record { good = good; rooms = loaded-rooms c.requires.0 good c.load.ensures (omega arith) }

pub put_called-requires : goal.put_called-requires
put_called-requires c =
    let good = sym c.bad_length.ensures ∙ c.if-bad_length.false in
    let rooms = loaded-rooms c.requires.0 good c.load.ensures (omega arith) in
    let first = c.in_ok-walked.ensures in
    record {
      settable = c.requires.1;
      enough = sym c.few_numbers.ensures ∙ c.if-few_numbers.false;
      walk = record {
        good = good;
        rooms = record {
          loaded = first.loaded;
          inside = omega (arith, rooms.inside);
          wide = omega (arith, rooms.wide);
        };
      };
      right = first.called.right _ refl;
      new-right = first.both _ refl;
    }

pub returns-in_err-walked : goal.returns-in_err-walked
returns-in_err-walked c =
    called-put c.args.context c.args.masks.now _ _ c.requires.1 (sym c.few_numbers.ensures ∙ c.if-few_numbers.false)
    (sym c.bad_length.ensures ∙ c.if-bad_length.false) c.in_err-walked.ensures.called (exit c.from_residual.ensures.1 refl)
