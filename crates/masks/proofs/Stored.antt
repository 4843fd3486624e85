-- The masks that are filled for a file that was read are those of its words.
-- Assumes nothing.
--     can_store        what filling asks for
--     filled_masks     a rule may ask them
--     filled_stored    the list is `stored`
use mathlib.Core.Path.{◌≡◌, refl, sym, ap, subst, ◌∙◌}
use mathlib.Core.Bool.{Bool, true, false, ◌&&◌}
use mathlib.Core.List.{List, [], ◌∷◌}
use mathlib.Core.Logic.{inl, inr}
use Prim.Native.Nat.{ℕ, suc, ◌-◌, ◌<◌, ◌≤◌}
use native.Mathlib.Omega.{arith}
use borrow.Author.Tests.{ne_eqb, leb-true}
use lib.Dec.{leb}
use lib.ListN.{length, get_or, take, drop}
use lib.Seq.{ext_get_or, get_or-take, length-take-le}
use Rattle.laws.proofs.Bools.{and_left, and_right}
use Rattle.language.specs.Modifies.{Identifier, modifies}
use Rattle.rules.specs.Context.{Limits, Context}
use Rattle.layout.specs.Bytes.{word_count, kind_at, payload_at}
use Rattle.layout.specs.Nodes.{count_beside, counts, count_of, expression_node, command_node, set_node}
use Rattle.layout.specs.File.{File}
use Rattle.layout.proofs.Nodes.{opened}
use Rattle.layout.proofs.Forms.{sort-kind, low-kind}
use Rattle.layout.proofs.FileNodes.{NoNode, WordAt, of-expression, of-command, of-set, of_none, file-words}
use Rattle.ends.specs.Mask.{bit, slot}
use Rattle.ends.specs.Blocks.{called_mask, any_in, assigns, marks_in, Marks}
use Rattle.ends.specs.Ends.{EndsOf, EndsListed}
use Rattle.ends.proofs.Table.{node_listed}
use Rattle.ends.specs.Places.{end_at}
use Rattle.ends.specs.Sizes.{past, sizes}
use Rattle.ends.proofs.Sizes.{lt_or_le, sizes-at}
use Rattle.ends.proofs.Marks.{unwritten-above, no-bit, marks-range}
use Rattle.scan.specs.Steady.{file_context, MaskedFile}
use Rattle.scan.proofs.Trees.{marked-command, masks-called, unmarked_expression, unmarked_set, modified_tree}
use Rattle.masks.specs.Masks.{bits_of, mask_read, mask_at, stored}
use Rattle.masks.specs.Filled.{OtherKind, RangeMarks, CanStore, Filled, MasksOf}
use Rattle.masks.proofs.Numbers.{number-bits}
use Rattle.masks.proofs.StoredList.{stored-length, stored-mask, stored_past}
use Rattle.masks.proofs.Commands.{no-command, command-read}

-- a word of a kind above 32 has no parts
abbrev low-keys : List (ℕ × ℕ) → Bool
low-keys [] = true
low-keys (e ∷ l) = leb e.0 32 && low-keys l

none_beside : (k : ℕ) (l : List (ℕ × ℕ)) → 32 < k → low-keys l ≡ true → count_beside k l ≡ 0
none_beside k [] h e = refl
none_beside k (x ∷ l) h e =
    let low = leb-true x.0 32 (and_left (leb x.0 32) (low-keys l) e) in
    rw (ne_eqb k x.0 (λ i. omega arith)) (none_beside k l h (and_right (leb x.0 32) (low-keys l) e))

no-parts : (k p : ℕ) → 32 < k → count_of k p ≡ 0
unfolding count_of
no-parts k p h = none_beside k (counts p) h refl

-- ---- each word
module _ (file ends : List ℕ) (limits : Limits) (f : File) (e : EndsListed file ends) (k : MaskedFile file ends limits f) where
  abbrev Δ : Context
  Δ = file_context limits f

  module _ {at mask : ℕ} (l : at < word_count file) (m : RangeMarks file ends at at mask) where
    -- a word that starts nothing is alone
    one_word : NoNode file Δ at → end_at ends at - at ≡ 1
    unfolding past
    one_word n =
        let s = e.sized at l in
        let t = sizes-at file at l ∙ ap (λ i. suc (past i (drop (suc at) (sizes file)))) (no-parts (kind_at file at) (payload_at file at) n.above) in
        omega arith

    alone-marks : NoNode file Δ at → (x : Identifier) → bit mask (slot x) ≡ false
    unfolding any_in
    alone-marks n x =
        m.marks x ∙ ap (λ i. any_in (assigns (called_mask file ends) x) file i at) (one_word n)
        ∙ rw (unwritten-above (called_mask file ends) (kind_at file at) (payload_at file at) (omega (arith, n.above)) n.no_call) refl

  module _ {at mask : ℕ} (l : at < word_count file) (small : mask < 18446744073709551616) (m : RangeMarks file ends at at mask) where
    -- a word of which no identifier is modified, and that starts no command
    no-mask : OtherKind (kind_at file at) → ((x : Identifier) → bit mask (slot x) ≡ false) → mask ≡ mask_at limits file f at
    unfolding mask_at bits_of
    no-mask o h =
        number-bits mask small (λ x. false) (λ x _. h x) ∙ sym (ap mask_read (no-command file Δ limits.depth at l o).is)

    word-mask : WordAt file Δ at → mask ≡ mask_at limits file f at
    unfolding mask_at
    word-mask (of-expression {p = p} {k = j} d x s) =
        no-mask (inl (omega (arith, (opened (expression_node x) d s).kind, low-kind j (sort-kind x))))
        (unmarked_expression
        (subst (λ q. Marks (called_mask file ends) file (q - at) at mask) (node_listed e (expression_node x) (suc d) at p s) m) x (suc d) s)
    word-mask (of-command {p = p} d c i s r) =
        let g = subst (λ q. Marks (called_mask file ends) file (q - at) at mask) (node_listed e (command_node Δ c) (suc d) at p s) m in
        let b = marked-command Δ (masks-called k.masks) g c (suc d) s r in
        number-bits mask small (modifies c) b.marks
        ∙ sym (ap mask_read (command-read file limits f d c i s))
    word-mask (of-set {p = p} d Γ q s) =
        no-mask (inr (omega (arith, (opened (set_node Γ q) d s).kind), λ h. omega (arith, h, (opened (set_node Γ q) d s).kind)))
        (unmarked_set (subst (λ i. Marks (called_mask file ends) file (i - at) at mask) (node_listed e (set_node Γ q) (suc d) at p s) m) Γ q (suc d) s)
    word-mask (of_none n) = no-mask (inr (omega (arith, n.above), n.no_call)) (alone-marks l m n)

  -- of a word that starts no command
  module _ {at mask : ℕ} (l : at < word_count file) (m : RangeMarks file ends at at mask) (o : OtherKind (kind_at file at)) where
    word-quiet : WordAt file Δ at → (x : Identifier) → bit mask (slot x) ≡ false
    word-quiet (of-expression {p = p} d x s) =
        unmarked_expression
        (subst (λ q. Marks (called_mask file ends) file (q - at) at mask) (node_listed e (expression_node x) (suc d) at p s) m) x (suc d) s
    word-quiet (of-command d c i s r) =
        let a = (no-command file Δ limits.depth at l o).is in
        let b = command-read file limits f d c i s in
        absurd (let z : ◌≡◌ {A = ℕ} 0 1 = cc in omega arith)
    word-quiet (of-set {p = p} d Γ q s) =
        unmarked_set (subst (λ i. Marks (called_mask file ends) file (i - at) at mask) (node_listed e (set_node Γ q) (suc d) at p s) m) Γ q (suc d) s
    word-quiet (of_none n) = alone-marks l m n

  quiet : (at : ℕ) → at < word_count file → OtherKind (kind_at file at) → RangeMarks file ends at at 0
  quiet at l o = record {
    marks = λ x.
        no-bit (slot x) ∙ sym (word-quiet l all o ((file-words file limits f k.stands k.called).each at (omega arith) l) x)
        ∙ all.marks x;
  }
    where
      all : RangeMarks file ends at at (marks_in (called_mask file ends) file (end_at ends at - at) at 0)
      all = marks-range file refl

  pub can_store : {masks : List ℕ} → length file ≤ length masks → CanStore file ends masks
  can_store h = record { listed = e; quiet = quiet; room = h }

  module _ {before after : List ℕ} (room : length file ≤ length before) (h : Filled file ends before after) where
    number_at : (i : ℕ) → get_or after i 0 ≡ get_or (stored limits file f before) i 0
    number_at i = elim (lt_or_le i (word_count file)) [
      | inl l ↦
          word-mask l (h.small i l) (h.marks i l) ((file-words file limits f k.stands k.called).each i (omega arith) l)
          ∙ sym (stored-mask limits file f before i l)
      | inr l ↦ h.kept i l ∙ sym (stored_past limits file f before i l)
    ]

    pub filled_stored : after ≡ stored limits file f before
    filled_stored =
        ext_get_or 0 after (stored limits file f before)
        (h.same_length ∙ sym (stored-length limits file f before room))
        (λ i _. number_at i)

-- ---- a rule may ask them
pub filled_masks : {file ends before after : List ℕ} → EndsOf file ends → length file ≤ length before → Filled file ends before after →
    MasksOf file ends (take (length file) after)
filled_masks {file} {ends} {before} {after} e room h = record {
  mask = λ at l.
      let i : at < length file = omega (arith, l, length-take-le (length file) after (omega (arith, room, h.same_length))) in
      modified_tree file ends
      (subst (Marks (called_mask file ends) file (end_at ends at - at) at) (sym (get_or-take (length file) after at 0 i)) (h.marks at i));
}
