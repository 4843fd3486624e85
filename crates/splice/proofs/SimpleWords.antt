-- A skip, an assert or an assignment at a place of a file that was read, by its first word and its end.
-- Assumes nothing.
--     kind-simple                              such a command by the kind of its first word
--     simple-past, simple-other, simple-here   past the file; at a word of another kind; at one of these kinds
use mathlib.Core.Path.{◌≡◌, refl, sym, ap, ap₂, ◌∙◌}
use mathlib.Core.Bool.{Bool, true, false, ◌&&◌}
use mathlib.Core.List.{List}
use mathlib.Core.Logic.{inl, inr}
use Prim.Native.Nat.{ℕ, suc, ◌<◌, ◌≤◌}
use native.Mathlib.Omega.{arith}
use borrow.Author.Tests.{ne_eqb}
use lib.Dec.{eqb}
use lib.ListN.{length}
use Rattle.language.specs.Syntax.{Command, skip, sequence, assert, assign, to_scalar, to_array, if_else, while, for, call}
use Rattle.rules.specs.Context.{Limits, Context}
use Rattle.layout.specs.Bytes.{kind_at}
use Rattle.layout.specs.Reading.{Reading}
use Rattle.layout.specs.Nodes.{expression_node, command_node, set_node, head_of, kind_of}
use Rattle.layout.specs.File.{File}
use Rattle.layout.proofs.Nodes.{opened}
use Rattle.layout.proofs.Forms.{sort-kind, low-kind}
use Rattle.layout.proofs.FileNodes.{WordAt, of-expression, of-command, of-set, of_none, file-words}
use Rattle.ends.specs.Ends.{EndsListed}
use Rattle.ends.proofs.Table.{node_listed}
use Rattle.ends.specs.Places.{end_at}
use Rattle.scan.specs.Steady.{file_context}
use Rattle.masks.specs.Masks.{command_at}
use Rattle.masks.proofs.Commands.{NoneRead, no-command, none-past, command-read}
use Rattle.masks.specs.Filled.{OtherKind}
use Rattle.splice.specs.Simple.{is_simple, simple_to}
use Rattle.splice.specs.SimpleWords.{is_simple_kind, SimpleAt}

other-kind : (k : ℕ) → (k ≡ 24 → ⊥) → (k ≡ 26 → ⊥) → (k ≡ 27 → ⊥) → (k ≡ 28 → ⊥) → false ≡ is_simple_kind k
unfolding is_simple_kind
other-kind k a b c d = rw (ne_eqb k 24 a, ne_eqb k 26 b, ne_eqb k 27 c, ne_eqb k 28 d) refl

-- none is a kind of no command
not-simple : {k : ℕ} → OtherKind k → false ≡ is_simple_kind k
not-simple {k} (inl h) = other-kind k (λ e. omega arith) (λ e. omega arith) (λ e. omega arith) (λ e. omega arith)
not-simple {k} (inr h) =
    other-kind k (λ e. omega (arith, h.0)) (λ e. omega (arith, h.0)) (λ e. omega (arith, h.0)) (λ e. omega (arith, h.0))

pub kind-simple : (Γ : Context) (c : Command) → is_simple_kind (kind_of (head_of (command_node Γ c))) ≡ is_simple c
unfolding is_simple_kind
kind-simple Γ skip = refl
kind-simple Γ (sequence c d) = refl
kind-simple Γ (assert b) = refl
kind-simple Γ (assign (to_scalar x e)) = refl
kind-simple Γ (assign (to_array x e)) = refl
kind-simple Γ (if_else b c d) = refl
kind-simple Γ (while b c) = refl
kind-simple Γ (for q m c) = refl
kind-simple Γ (call n c) = refl

none-simple : {x : Reading Command} (to : ℕ) → NoneRead x → false ≡ simple_to x to
none-simple to h = sym (ap (λ y. simple_to y to) h.is)

pub simple-past : {file ends : List ℕ} (at to : ℕ) → length file ≤ at → SimpleAt file ends at to false
simple-past {file} at to h = record {
  is = λ limits f k. none-simple to (none-past file (file_context limits f) limits.depth at h);
}

module _ {file ends : List ℕ} (e : EndsListed file ends) {at : ℕ} (l : at < length file) (to : ℕ) where
  -- what is read there, by the kind of the word
  abbrev Said : Bool → Reading Command → Type 0
  Said b x = (b && eqb (end_at ends at) to) ≡ simple_to x to

  no_word : {b : Bool} (limits : Limits) (f : File) → is_simple_kind (kind_at file at) ≡ b → OtherKind (kind_at file at) →
      Said b (command_at limits file f at)
  no_word {b} limits f h o =
      ap (λ c. c && eqb (end_at ends at) to) (sym h ∙ sym (not-simple o))
      ∙ none-simple to (no-command file (file_context limits f) limits.depth at l o)

  word-said : {b : Bool} (limits : Limits) (f : File) → is_simple_kind (kind_at file at) ≡ b → WordAt file (file_context limits f) at →
      Said b (command_at limits file f at)
  word-said limits f h (of-expression {k = j} d x s) =
      no_word limits f h (inl (omega (arith, (opened (expression_node x) d s).kind, low-kind j (sort-kind x))))
  word-said limits f h (of-command {p = p} d c i s r) =
      let Δ = file_context limits f in
      ap₂ (λ a q. a && eqb q to) (sym h ∙ ap is_simple_kind (opened (command_node Δ c) d s).kind ∙ kind-simple Δ c)
      (node_listed e (command_node Δ c) (suc d) at p s)
      ∙ sym (ap (λ y. simple_to y to) (command-read file limits f d c i s))
  word-said limits f h (of-set d Γ q s) =
      no_word limits f h
      (inr (omega (arith, (opened (set_node Γ q) d s).kind), λ k. omega (arith, k, (opened (set_node Γ q) d s).kind)))
  word-said limits f h (of_none n) = no_word limits f h (inr (omega (arith, n.above), n.no_call))

  pub simple-other : is_simple_kind (kind_at file at) ≡ false → SimpleAt file ends at to false
  simple-other h = record {
    is = λ limits f k. word-said limits f h ((file-words file limits f k.stands k.called).each at (omega arith) l);
  }

  pub simple-here : {p : ℕ} → is_simple_kind (kind_at file at) ≡ true → p ≡ end_at ends at → SimpleAt file ends at to (eqb p to)
  simple-here h g = record {
    is = λ limits f k.
        ap (λ i. eqb i to) g ∙ word-said limits f h ((file-words file limits f k.stands k.called).each at (omega arith) l);
  }
