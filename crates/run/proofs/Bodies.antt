-- The parts of a command that stands at a place, and that they can be worked out and run.
-- Assumes nothing.
--     command-end_is, part_end, moved-command         where a part ends; what stands behind a command
--     placed                                          a part at a place by another name
--     Later, Body                                     a part within the room, after what has it; a command
--     at_head                                         the command by its first word
--     assert-can, scalar-can, array-can, if_can, while-can    what is worked out
--     sequence-first, sequence-second, if_then, if-else       what is run
--     for-small, loop-next, loop-body, loop-counts, by_kind   of a loop
--     call-body                                               of a call
use mathlib.Core.Path.{◌≡◌, sym, subst, ◌∙◌}
use mathlib.Core.List.{List}
use Prim.Native.Nat.{ℕ, ◌+◌, ◌<◌}
use native.Mathlib.Omega.{arith}
use lib.ListN.{length, get_or}
use Rattle.language.specs.Syntax as syntax
use Rattle.language.specs.Syntax.{Sort, Expr}
use Rattle.rules.specs.Context.{Context}
use Rattle.layout.specs.EvidenceWords.{Part, expression_part}
use Rattle.layout.proofs.Stands.{stands-end}
use Rattle.words.specs.declared.CommandWord.{CommandWord}
use Rattle.words.specs.declared.CommandWord.TheVariants.{Sequence, Assert, AssignScalar, AssignArray, If, While}
use Rattle.words.specs.declared.CommandWord.TheVariants.{For, Call}
use Rattle.heads.specs.Stands.{PartAt, command_at, resolved_part, start_place, Runnable, ExpressionStands, CommandStands}
use Rattle.heads.proofs.Parts.{expression-inside, resolved-inside, unresolved, runnable, command-parts}
use Rattle.evaluate.proofs.Places.{end_is, moved}
use Rattle.run.specs.Places.{CanRunAt}
use Rattle.run.specs.Turns.{loop_word, body_place, CountsIn}
use Rattle.run.specs.declared.Loop.{Loop}
use Rattle.run.specs.declared.Loop.TheVariants.{Test, Count}

module _ {w ends : List ℕ} where
  pub command-end_is : (Γ : Context) (c : syntax.Command) {at p : ℕ} → PartAt w ends (resolved_part Γ c) at p →
      p ≡ get_or ends at 0
  command-end_is Γ c {at} {p} s =
      sym (s.ends_of.command-end Γ c s.levels at p (unresolved Γ c s.levels s.stands))

  pub part_end : (x : Part) {at p : ℕ} → PartAt w ends x at p → p ≡ at + length x.spelling
  part_end x {at} {p} s = stands-end s.file at x.spelling p s.stands.stand

  -- at the same place by another name
  pub placed : {x : Part} {at q p : ℕ} → at ≡ q → PartAt w ends x at p → PartAt w ends x q p
  placed {x} {p = p} e s = subst (λ z. PartAt w ends x z p) e s

  pub moved-command : (Γ : Context) (c : syntax.Command) {x : Part} {at m q p : ℕ} → q ≡ get_or ends at 0 →
      PartAt w ends (resolved_part Γ c) at m → PartAt w ends x m p → PartAt w ends x q p
  moved-command Γ c next s t = placed (command-end_is Γ c s ∙ sym next) t

can-evaluate : {w ends : List ℕ} {k : Sort} (e : Expr k) {q p : ℕ} → PartAt w ends (expression_part e) q p →
    ExpressionStands w ends k q
can-evaluate e {p = p} s = record { tree = e; past = p; there = s }

-- a part at q, of what stands before it at `at`
pub record Later (w ends : List ℕ) (at q : ℕ) : Type 0 where
  pub later : at < q
  pub inside : q < 8192
  pub listed : q < length ends

-- a command, later than what has it
pub record Body (w ends : List ℕ) (at q : ℕ) : Type 0 where
  pub stands : CommandStands w ends q
  pub place : Later w ends at q

module _ {w ends : List ℕ} {at : ℕ} where
  later-expression : {k : Sort} (e : Expr k) {q p : ℕ} → PartAt w ends (expression_part e) q p → at < q → Later w ends at q
  later-expression e s h =
      let x = expression-inside e s in
      record { later = h; inside = omega arith; listed = omega arith }

  -- of a command that can be run
  body : {c : syntax.Command} {p : ℕ} (x : Runnable w ends c at p) (d : syntax.Command) {q r : ℕ} →
      PartAt w ends (resolved_part x.context d) q r → at < q → Body w ends at q
  body x d {r = r} s h =
      let i = resolved-inside x.context d s in
      record {
        stands = record { tree = d; past = r; there = runnable x d s };
        place = record { later = h; inside = omega arith; listed = omega arith };
      }

  -- with its first word v as the code has decoded it
  pub at_head : {v h : CommandWord} → CommandStands w ends at → v ≡ command_at w at → v ≡ h → CanRunAt w ends at h
  at_head c e f = record { command = c; head = sym e ∙ f }

  pub assert-can : CanRunAt w ends at Assert → ExpressionStands w ends syntax.Boolean (at + 1)
  assert-can x =
      let t = command-parts x.command.tree x.command.there x.head in
      can-evaluate t.first t.first-at

  pub scalar-can : {z : ℕ} → CanRunAt w ends at (AssignScalar z) →
      ExpressionStands w ends syntax.Arithmetic (at + 1) × (z < 32)
  scalar-can x =
      let t = command-parts x.command.tree x.command.there x.head in
      let h = t.1 in
      (can-evaluate t.0.first t.0.first-at, omega arith)

  pub array-can : {a : ℕ} → CanRunAt w ends at (AssignArray a) →
      ExpressionStands w ends syntax.Array (at + 1) × (a < 32)
  array-can x =
      let t = command-parts x.command.tree x.command.there x.head in
      let h = t.1 in
      (can-evaluate t.0.first t.0.first-at, omega arith)

  pub sequence-first : CanRunAt w ends at Sequence → Body w ends at (at + 1)
  sequence-first x =
      let t = command-parts x.command.tree x.command.there x.head in
      body x.command.there t.first t.first-at (omega arith)

  pub sequence-second : CanRunAt w ends at Sequence → {q : ℕ} → q ≡ get_or ends (at + 1) 0 → Body w ends at q
  sequence-second x e =
      let t = command-parts x.command.tree x.command.there x.head in
      let i = resolved-inside x.command.there.context t.first t.first-at in
      let same = command-end_is x.command.there.context t.first t.first-at in
      body x.command.there t.second (moved-command x.command.there.context t.first e t.first-at t.second_at) (omega arith)

  pub if_can : CanRunAt w ends at If → ExpressionStands w ends syntax.Boolean (at + 1) × Later w ends at (at + 1)
  if_can x =
      let t = command-parts x.command.tree x.command.there x.head in
      (can-evaluate t.first t.first-at, later-expression t.first t.first-at (omega arith))

  pub if_then : CanRunAt w ends at If → {q : ℕ} → q ≡ get_or ends (at + 1) 0 → Body w ends at q
  if_then x e =
      let t = command-parts x.command.tree x.command.there x.head in
      let i = expression-inside t.first t.first-at in
      let same = end_is t.first t.first-at in
      body x.command.there t.second (moved t.first e t.first-at t.second_at) (omega arith)

  pub if-else : CanRunAt w ends at If → {q r : ℕ} → q ≡ get_or ends (at + 1) 0 → r ≡ get_or ends q 0 → Body w ends at r
  if-else x e f =
      let t = command-parts x.command.tree x.command.there x.head in
      let second = moved t.first e t.first-at t.second_at in
      let i = expression-inside t.first t.first-at in
      let j = resolved-inside x.command.there.context t.second second in
      let same = end_is t.first t.first-at in
      let last = command-end_is x.command.there.context t.second second in
      body x.command.there t.third (moved-command x.command.there.context t.second f second t.third_at) (omega arith)

  pub while-can : CanRunAt w ends at While → ExpressionStands w ends syntax.Boolean (at + 1)
  while-can x =
      let t = command-parts x.command.tree x.command.there x.head in
      can-evaluate t.first t.first-at

  pub for-small : {q r : ℕ} → CanRunAt w ends at (For q r) → (q < 32) × (r < 32)
  for-small x =
      let t = command-parts x.command.tree x.command.there x.head in
      let h = t.1.0 in
      let k = t.1.1 in
      (omega arith, omega arith)

  -- of a loop
  pub loop-next : (kind : Loop) → CanRunAt w ends at (loop_word kind) → at + 1 < length ends
  loop-next Test x =
      let t = command-parts x.command.tree x.command.there x.head in
      (later-expression t.first t.first-at (omega arith)).listed
  loop-next (Count q r) x =
      let t = command-parts x.command.tree x.command.there x.head in
      (body x.command.there t.0.first t.0.first-at (omega arith)).place.listed

  pub loop-body : (kind : Loop) → CanRunAt w ends at (loop_word kind) → {q : ℕ} → q ≡ body_place ends at kind →
      Body w ends at q
  loop-body Test x e =
      let t = command-parts x.command.tree x.command.there x.head in
      let i = expression-inside t.first t.first-at in
      let same = end_is t.first t.first-at in
      body x.command.there t.second (moved t.first e t.first-at t.second_at) (omega arith)
  loop-body (Count z r) x e =
      let t = command-parts x.command.tree x.command.there x.head in
      body x.command.there t.0.first (placed (sym e) t.0.first-at) (omega arith)

  pub loop-counts : (kind : Loop) → CanRunAt w ends at (loop_word kind) → CountsIn kind
  loop-counts Test x = tt
  loop-counts (Count q r) x = (for-small x).0

  -- of a call
  pub call-body : {n : ℕ} → CanRunAt w ends at (Call n) → {q : ℕ} → q ≡ get_or ends (start_place w n) 0 → CommandStands w ends q
  call-body {n} x e =
      let t = command-parts x.command.tree x.command.there x.head in
      let b = x.command.there.bodies.known n t.procedure t.listed in
      record {
        tree = t.procedure.body;
        past = b.past;
        there = runnable x.command.there t.procedure.body (placed (sym (e ∙ b.start)) b.there);
      }

-- a loop whose kind is known
pub by_kind : {w ends : List ℕ} {at : ℕ} {kind k : Loop} → CanRunAt w ends at (loop_word kind) → kind ≡ k →
    CanRunAt w ends at (loop_word k)
by_kind {w} {ends} {at} x e = subst (λ k. CanRunAt w ends at (loop_word k)) e x
