-- The command that is read at a place of a file that was read.
-- Assumes nothing.
--     NoneRead, no-command, none-past
--                     at a word of a kind of no command none is read, and none past the file
--     command-read    a command that stands there
use mathlib.Core.Path.{◌≡◌, refl, ap}
use mathlib.Core.List.{List}
use mathlib.Core.Logic.{inl, inr}
use mathlib.Core.Option.{none}
use Prim.Native.Nat.{ℕ, zero, suc, ◌<◌, ◌≤◌}
use native.Mathlib.Omega.{arith}
use borrow.Author.Tests.{ne_eqb, lt-ltb, le-ltb}
use Rattle.language.specs.Syntax.{Sort, Expr, Command}
use Rattle.rules.specs.Context.{Limits, Context, alone}
use Rattle.layout.specs.Bytes.{word_count, kind_at, payload_at}
use Rattle.layout.specs.Reading.{Reading, read, fault, Reader, allowed, word_due}
use Rattle.layout.specs.Read.{expression, command_word, command}
use Rattle.layout.specs.EvidenceWords.{command_part}
use Rattle.layout.specs.Standing.{PartStands}
use Rattle.layout.specs.Nodes.{command_node}
use Rattle.layout.specs.File.{File}
use Rattle.layout.proofs.Back.{command-stands}
use Rattle.layout.proofs.Nodes.{node_deeper}
use Rattle.layout.proofs.Resolved.{grows_all}
use Rattle.scan.specs.Steady.{file_context}
use Rattle.masks.specs.Masks.{command_at}
use Rattle.masks.specs.Filled.{OtherKind}

-- ---- where no command starts
other-than : {k : ℕ} (n : ℕ) → (24 ≤ n) → (n ≤ 31) → OtherKind k → k ≡ n → ⊥
other-than n l h (inl i) e = omega arith
other-than n l h (inr i) e = omega (arith, i.0)

no_call : {k : ℕ} → OtherKind k → k ≡ 38 → ⊥
no_call (inl i) e = omega arith
no_call (inr i) e = i.1 e

no_word : (Γ : Context) (part : (j : Sort) → Reader (Expr j)) (body : Reader Command) (k p : ℕ) → OtherKind k →
    command_word Γ part body k p ≡ none
no_word Γ part body k p h =
    rw (
      ne_eqb k 24 (other-than 24 (omega arith) (omega arith) h),
      ne_eqb k 25 (other-than 25 (omega arith) (omega arith) h),
      ne_eqb k 26 (other-than 26 (omega arith) (omega arith) h),
      ne_eqb k 27 (other-than 27 (omega arith) (omega arith) h),
      ne_eqb k 28 (other-than 28 (omega arith) (omega arith) h),
      ne_eqb k 29 (other-than 29 (omega arith) (omega arith) h),
      ne_eqb k 30 (other-than 30 (omega arith) (omega arith) h),
      ne_eqb k 31 (other-than 31 (omega arith) (omega arith) h),
      ne_eqb k 38 (no_call h),
    ) refl

-- a refusal at the place
pub record NoneRead (x : Reading Command) : Type 0 where
  pub number : ℕ
  pub place : ℕ
  pub is : x ≡ fault number place

pub no-command : (file : List ℕ) (Γ : Context) (d at : ℕ) → at < word_count file → OtherKind (kind_at file at) →
    NoneRead (command Γ file d at)
unfolding command word_due
no-command file Γ zero at l h = record { number = 4; place = at; is = rw (lt-ltb at (word_count file) l) refl }
no-command file Γ (suc d) at l h = record {
  number = 5;
  place = at;
  is =
      rw (lt-ltb at (word_count file) l, word_due)
      (ap (λ o. allowed o at)
      (no_word Γ (expression file d) (λ q. command Γ file d q) (kind_at file at) (payload_at file at) h));
}

pub none-past : (file : List ℕ) (Γ : Context) (d at : ℕ) → word_count file ≤ at → NoneRead (command Γ file d at)
unfolding command word_due
none-past file Γ zero at l = record { number = 3; place = word_count file; is = rw (le-ltb at (word_count file) l) refl }
none-past file Γ (suc d) at l = record { number = 3; place = word_count file; is = rw (le-ltb at (word_count file) l, word_due) refl }

-- ---- where one starts
module _ (file : List ℕ) (limits : Limits) (f : File) where
  -- the levels of the context with all procedures are those of the limits
  depth-kept : limits.depth ≡ (file_context limits f).limits.depth
  depth-kept = ap (λ l. l.depth) (grows_all (alone limits) f.procedures).limits

  pub command-read : (d : ℕ) (c : Command) {at p : ℕ} → suc d ≤ (file_context limits f).limits.depth →
      PartStands file (command_part (file_context limits f) c) (suc d) at p → command_at limits file f at ≡ read c p
  command-read d c {at} {p} i s =
      let Δ = file_context limits f in
      let fit = node_deeper (suc d) limits.depth (omega (arith, i, depth-kept)) (command_node Δ c) s.fit in
      (command-stands file Δ limits.depth c at p (record { stand = s.stand; fit = fit })).back
