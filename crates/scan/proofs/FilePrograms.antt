-- The programs of a file that stands, by its words and its list of ends.
-- Assumes nothing.
--     next_start          where the next program starts
--     count-procedures    how many procedures it has, by word 1
use mathlib.Core.Path.{◌≡◌, sym, ap, subst, ◌∙◌}
use mathlib.Core.List.{List, [], ◌∷◌}
use Prim.Native.Nat.{ℕ, ◌+◌, ◌<◌, ◌≤◌}
use native.Mathlib.Omega.{arith}
use lib.ListN.{length}
use Rattle.rules.specs.Context.{Limits, Context, alone}
use Rattle.layout.specs.Bytes.{word_count, number_at, kind_at, payloads}
use Rattle.layout.specs.Nodes.{Node, command_node}
use Rattle.layout.specs.Program.{Program}
use Rattle.layout.specs.File.{File}
use Rattle.layout.specs.Spelling.{SpelledAt}
use Rattle.layout.specs.FileWords.{ProgramsStand, table_words, FileStands}
use Rattle.layout.proofs.Words.{quotient, remainder}
use Rattle.layout.proofs.Nodes.{with_levels}
use Rattle.layout.proofs.Forms.{Form, form-expression, form}
use Rattle.ends.specs.Procedures.{start_at}
use Rattle.scan.specs.Programs.{procedure_count, StartsFrom}
use Rattle.scan.proofs.ProcedureMasks.{count_none, count_some}

pub next_start : (file ends : List ℕ) (Γ : Context) (l : List Program) (f : Program) (at p i : ℕ) →
    ProgramsStand Γ file l f at p → StartsFrom file ends l f i → start_at file ends i ≡ at
next_start file ends Γ [] f at p i h s = s ∙ h.0
next_start file ends Γ (g ∷ l) f at p i h s = s.0 ∙ h.0

-- no node's first word is of kind 62
not_table : {x : Node} → Form 62 x → ⊥
not_table (form-expression h) = omega arith

pub count-procedures : (limits : Limits) (file : List ℕ) (f : File) → FileStands limits file f →
    procedure_count file ≡ length f.procedures
count-procedures limits file f h = go f.procedures f.main h.table h.few h.programs
  where
    go : (l : List Program) (m : Program) → SpelledAt file 1 (table_words l) → length l ≤ 16 →
        ProgramsStand (alone limits) file l m (1 + length (table_words l)) (word_count file) → procedure_count file ≡ length l
    go [] m t n (s, x, e) = sym (count_none file λ k.
        with_levels (command_node (alone limits) m.command) limits.depth x.command λ d z o.
        not_table (subst (λ i. Form i (command_node (alone limits) m.command)) (sym o.kind ∙ ap (kind_at file) s ∙ k)
        (form (command_node (alone limits) m.command))))
    go (g ∷ l) m t n x =
        let k : ℕ = length (g ∷ l) in
        let small : k < payloads = omega arith in
        let e = remainder 62 k (number_at file 1) t.1 small in
        sym (count_some file (quotient 62 k (number_at file 1) t.1 small)) ∙ omega (arith, e)
