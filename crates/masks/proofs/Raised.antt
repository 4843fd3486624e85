-- The masks of a file under raised limits (document 02, request [6]) are those before.
-- Assumes nothing.
--     command-raised                a command that is read at a place
--     mask-raised, stored-raised    the mask of a word; a lent list in which all are stored
use mathlib.Core.Path.{◌≡◌, refl, sym, ap, ap₂, ◌∙◌}
use mathlib.Core.List.{List, [], ◌∷◌, ◌++◌}
use mathlib.Core.Logic.{inl, inr}
use Prim.Native.Nat.{ℕ, zero, suc, ◌+◌, ◌<◌, ◌≤◌}
use native.Mathlib.Omega.{arith}
use lib.ListN.{drop}
use Rattle.language.specs.Syntax.{Command}
use Rattle.rules.specs.Context.{Limits, Context, alone}
use Rattle.layout.specs.Bytes.{word_count, kind_at}
use Rattle.layout.specs.Reading.{read}
use Rattle.layout.specs.Read.{command}
use Rattle.layout.specs.Nodes.{expression_node, set_node}
use Rattle.layout.specs.Program.{after_all}
use Rattle.layout.specs.File.{File}
use Rattle.layout.specs.FileWords.{FileStands}
use Rattle.layout.proofs.Nodes.{opened}
use Rattle.layout.proofs.Forms.{sort-kind, low-kind}
use Rattle.layout.proofs.Resolved.{grows_all}
use Rattle.layout.proofs.WholeFile.{CallsAllowed}
use Rattle.layout.proofs.FileNodes.{WordAt, of-expression, of-command, of-set, of_none, file-words}
use Rattle.raised.proofs.Readers.{RaisedLimits}
use Rattle.raised.proofs.Files.{read-after}
use Rattle.masks.specs.Masks.{command_at, mask_read, mask_at, masks_from, stored}
use Rattle.masks.specs.Filled.{OtherKind}
use Rattle.masks.proofs.Commands.{no-command, command-read}

module _ {low any high : Limits} (h : RaisedLimits low any high) (file : List ℕ) (f : File) where
  pub command-raised : (at : ℕ) (c : Command) (p : ℕ) → command_at low file f at ≡ read c p → command_at high file f at ≡ read c p
  command-raised at c p e =
      of-depth high ∙ read-after file h [] f.procedures at c p (sym (of-depth low) ∙ e)
    where
      Γ : Limits → Context
      Γ limits = after_all (alone limits) f.procedures

      of-depth : (limits : Limits) → command_at limits file f at ≡ command (Γ limits) file (Γ limits).limits.depth at
      of-depth limits = ap (λ (l : Limits). command (Γ limits) file l.depth at) (grows_all (alone limits) f.procedures).limits

  module _ (s : FileStands low file f) (called : CallsAllowed low file f) where
    -- no command is read at the word under any limits
    other-mask : (limits : Limits) (at : ℕ) → at < word_count file → OtherKind (kind_at file at) → mask_at limits file f at ≡ 0
    unfolding mask_at
    other-mask limits at l o = ap mask_read (no-command file (after_all (alone limits) f.procedures) limits.depth at l o).is

    others-alike : (at : ℕ) → at < word_count file → OtherKind (kind_at file at) → mask_at high file f at ≡ mask_at low file f at
    others-alike at l o = other-mask high at l o ∙ sym (other-mask low at l o)

    pub mask-raised : (at : ℕ) → at < word_count file → mask_at high file f at ≡ mask_at low file f at
    unfolding mask_at
    mask-raised at l = go ((file-words file low f s called).each at (omega arith) l)
      where
        go : WordAt file (after_all (alone low) f.procedures) at → mask_at high file f at ≡ mask_at low file f at
        go (of-expression {k = j} d x t) =
            others-alike at l (inl (omega (arith, (opened (expression_node x) d t).kind, low-kind j (sort-kind x))))
        go (of-command {p = p} d c i t r) =
            let e = command-read file low f d c i t in
            ap mask_read (command-raised at c p e ∙ sym e)
        go (of-set d Γ q t) =
            others-alike at l (inr (omega (arith, (opened (set_node Γ q) d t).kind), λ k. omega (arith, k, (opened (set_node Γ q) d t).kind)))
        go (of_none n) = others-alike at l (inr (omega (arith, n.above), n.no_call))

    masks-raised : (n at : ℕ) → at + n ≤ word_count file → masks_from high file f n at ≡ masks_from low file f n at
    unfolding masks_from
    masks-raised zero at l = refl
    masks-raised (suc n) at l = ap₂ ◌∷◌ (mask-raised at (omega arith)) (masks-raised n (suc at) (omega arith))

    pub stored-raised : (lent : List ℕ) → stored high file f lent ≡ stored low file f lent
    stored-raised lent = ap (λ m. m ++ drop (word_count file) lent) (masks-raised (word_count file) 0 (omega arith))
