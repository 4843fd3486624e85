-- A command with its contract and evidence (document 01, "Layout"; document 02, request [3]): a file has one for each procedure
-- and one for its main program.
-- Trusted. Assumes nothing.
--     Program             the trees, and the places where they start; the place past them
--     made, program       of its parts; refusals 3 to 5: a program read at a place
--     procedure_of         what it is to those who call it
--     after, after_all     a context with one procedure more; with several
use Rattle.std.specs.Prelude.{List, [], ◌∷◌, ◌++◌, ℕ}
use Rattle.language.specs.Syntax.{Command}
use Rattle.rules.specs.Assertion.{Members}
use Rattle.rules.specs.Context.{Procedure, Context}
use Rattle.rules.specs.Evidence.{flow, FlowEvidence}
use Rattle.layout.specs.Reading.{Reader, here, pure, ◌⊛◌}
use Rattle.layout.specs.Read.{command as read_command, set}
use Rattle.layout.specs.ReadEvidence.{evidence as read_evidence}

pub record Program : Type 0 where
  pub start : ℕ
  pub command : Command
  pub pre_at : ℕ
  pub pre : Members
  pub post_at : ℕ
  pub post : Members
  pub evidence_at : ℕ
  pub evidence : FlowEvidence
  pub past : ℕ

abbrev pub made : ℕ → Command → ℕ → Members → ℕ → Members → ℕ → FlowEvidence → ℕ → Program
made s c a p b q e k z = record {
  start = s;
  command = c;
  pre_at = a;
  pre = p;
  post_at = b;
  post = q;
  evidence_at = e;
  evidence = k;
  past = z;
}

-- each part is outermost
abbrev pub program : Context → List ℕ → Reader Program
program Γ file =
    let d = Γ.limits.depth in
    pure made ⊛ here ⊛ read_command Γ file d ⊛ here ⊛ set Γ file d ⊛ here ⊛ set Γ file d ⊛ here
    ⊛ read_evidence Γ file d flow ⊛ here

abbrev pub procedure_of : Program → Procedure
procedure_of f = record { body = f.command; pre = f.pre; post = f.post }

abbrev pub after : Context → Program → Context
after Γ f = record { limits = Γ.limits; procedures = Γ.procedures ++ (procedure_of f ∷ []) }

abbrev pub after_all : Context → List Program → Context
after_all Γ [] = Γ
after_all Γ (f ∷ l) = after_all (after Γ f) l
