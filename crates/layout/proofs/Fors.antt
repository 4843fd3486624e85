-- In a file that was read and whose calls are right, each word of kind 31 is the first of a `for` that stands there, of a program or
-- of evidence, under the context with all procedures.
-- Assumes nothing.
--     ForStands    a `for` stands at a place
--     for-read     it can be read again
--     file-fors    the law
use mathlib.Core.Path.{◌≡◌, sym, subst, ◌∙◌}
use mathlib.Core.List.{List}
use Prim.Native.Nat.{ℕ, suc, ◌<◌, ◌≤◌}
use native.Mathlib.Omega.{arith}
use Rattle.language.specs.Syntax.{Command, for}
use Rattle.rules.specs.Context.{Limits, Context, alone}
use Rattle.rules.specs.Resolved.{Resolved}
use Rattle.layout.specs.Bytes.{word_count, kind_at}
use Rattle.layout.specs.Reading.{read}
use Rattle.layout.specs.Read.{command}
use Rattle.layout.specs.EvidenceWords.{command_part}
use Rattle.layout.specs.Nodes.{expression_node, command_node, set_node}
use Rattle.layout.specs.Standing.{PartStands}
use Rattle.layout.specs.Program.{after_all}
use Rattle.layout.specs.File.{File}
use Rattle.layout.specs.FileWords.{FileStands}
use Rattle.layout.proofs.Nodes.{opened, node_deeper}
use Rattle.layout.proofs.Back.{command-stands}
use Rattle.layout.proofs.WholeFile.{CallsAllowed}
use Rattle.layout.proofs.Forms.{sort-kind, low-kind, Form, form-for, form}
use Rattle.layout.proofs.FileNodes.{WordAt, of-expression, of-command, of-set, of_none, file-words}

-- Δ is the context with all procedures
module _ (file : List ℕ) (Δ : Context) where
  pub record ForStands (at : ℕ) : Type 0 where
    pub q : ℕ
    pub m : ℕ
    pub body : Command
    pub levels : ℕ
    pub past : ℕ
    pub within : suc levels ≤ Δ.limits.depth
    pub stands : PartStands file (command_part Δ (for q m body)) (suc levels) at past
    pub resolved : Resolved Δ.procedures body

  for-command : (d : ℕ) {at p : ℕ} {c : Command} → Form 31 (command_node Δ c) → suc d ≤ Δ.limits.depth →
      PartStands file (command_part Δ c) (suc d) at p → Resolved Δ.procedures c → ForStands at
  for-command d {p = p} (form-for {q = q} {m = m} {c = c}) l s r =
      record { q = q; m = m; body = c; levels = d; past = p; within = l; stands = s; resolved = r }

  for-at : {at : ℕ} → kind_at file at ≡ 31 → WordAt file Δ at → ForStands at
  for-at k (of-expression {k = j} d e s) =
      absurd (omega (arith, k, (opened (expression_node e) d s).kind, low-kind j (sort-kind e)))
  for-at k (of-command d c l s r) =
      let o = opened (command_node Δ c) d s in
      for-command d (subst (λ i. Form i (command_node Δ c)) (sym o.kind ∙ k) (form (command_node Δ c))) l s r
  for-at k (of-set d Γ m s) = absurd (omega (arith, k, (opened (set_node Γ m) d s).kind))
  for-at k (of_none h) = absurd (omega (arith, h.above))

  -- it can be read again
  pub for-read : {at : ℕ} (x : ForStands at) →
      command Δ file Δ.limits.depth at ≡ read (for x.q x.m x.body) x.past
  for-read {at} x =
      let c = for x.q x.m x.body in
      let fit = node_deeper (suc x.levels) Δ.limits.depth x.within (command_node Δ c) x.stands.fit in
      (command-stands file Δ Δ.limits.depth c at x.past (record { stand = x.stands.stand; fit = fit })).back

module _ (file : List ℕ) (limits : Limits) (f : File) (s : FileStands limits file f) (called : CallsAllowed limits file f) where
  pub file-fors : (at : ℕ) → at < word_count file → kind_at file at ≡ 31 → ForStands file (after_all (alone limits) f.procedures) at
  file-fors at l k =
      for-at file (after_all (alone limits) f.procedures) k ((file-words file limits f s called).each at (omega arith) l)
