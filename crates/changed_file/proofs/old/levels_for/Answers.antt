-- `changed_file::old::levels_for` meets its contract.
-- Assumes nothing.
use mathlib.Core.Path.{refl}
use native.Mathlib.Omega.{arith}
use Rattle.laws.proofs.Bools.{clash}
use Rattle.changed_file.proofs.old.levels_for.Goals as goal

pub returns-then-both : goal.returns-then-both
returns-then-both c = record { few = omega arith; all = λ _. refl; levels = λ e. clash c.if-both.true e }

pub returns : goal.returns
returns c =
    record {
      few = c.extent_at-extent.ensures.few;
      all = λ e. clash e c.if-both.false;
      levels = λ _. (c.extent_at-extent.result, c.extent_at-extent.ensures, refl);
    }
