-- Reading goes forward: no walk leaves more words of the file than the walk that it goes on from.
-- Assumes nothing.
--     word-left                                   past the word that is due at a place
--     expression-left, command-left, item-left    past an operand, a command, an item of evidence
use mathlib.Core.Path.{◌≡◌}
use mathlib.Core.List.{List}
use Prim.Native.Nat.{ℕ, ◌-◌, ◌<◌, ◌≤◌}
use native.Mathlib.Omega.{arith}
use Rattle.std.specs.Prelude.{Ok}
use Rattle.language.specs.Syntax.{Sort}
use Rattle.rules.specs.Context.{Context, alone, standard}
use Rattle.rules.specs.Evidence.{Item, assertion_item, command_item, members_item, child_item}
use Rattle.layout.specs.Bytes.{word_count}
use Rattle.layout.specs.Reading.{Reading, read, fault, Reader}
use Rattle.layout.specs.Read.{expression}
use Rattle.layout.proofs.Faults.{Bounds, BoundsBy, expression-bounds, command-bounds, set-bounds}
use Rattle.layout.proofs.Faults.{evidence-bounds}
use Rattle.reader.specs.Walk.{Walk, walk_of, command_walk, due_of}
use Rattle.reader.specs.Items.{item_walk}
use Rattle.reader.specs.declared.FirstWord.{FirstWord}
use Rattle.reader.proofs.Walks.{room}

-- a walk that goes on, goes on with at most as many words as are left from p on
record Onward (file : List ℕ) (p : ℕ) (s : Walk) : Type 0 where
  onward : (q : ℕ) → Ok q ≡ s → word_count file - q ≤ word_count file - p

-- what was read ends past its start
walk-left : {A : Type 0} {file : List ℕ} {at : ℕ} {r : Reader A} → Bounds file at r →
    Onward file at (walk_of (r at))
walk-left {A} {file} {at} {r} h = go (r at) h.bounds
  where
    go : (x : Reading A) → BoundsBy file at x → Onward file at (walk_of x)
    go (read a p) b = record { onward = λ q e. let z : q ≡ p = cc in omega (arith, b.0) }
    go (fault n p) b = record { onward = λ q e. absurd (let z : ◌≡◌ {A = ℕ} 0 1 = cc in omega arith) }

-- past an item, an operand, a command
module _ (file : List ℕ) (d p : ℕ) {q : ℕ} where
  pub item-left : (Γ : Context) (x : Item) → Ok q ≡ item_walk Γ file d x p → word_count file - q ≤ word_count file - p
  item-left Γ assertion_item e = (walk-left (expression-bounds file d _ p)).onward q e
  item-left Γ command_item e = (walk-left (command-bounds Γ file d p)).onward q e
  item-left Γ members_item e = (walk-left (set-bounds Γ file d p)).onward q e
  item-left Γ (child_item j) e = (walk-left (evidence-bounds Γ file d j p)).onward q e

  pub expression-left : (j : Sort) → Ok q ≡ walk_of (expression file d j p) → word_count file - q ≤ word_count file - p
  expression-left j e = (walk-left (expression-bounds file d j p)).onward q e

  pub command-left : Ok q ≡ command_walk file d p → word_count file - q ≤ word_count file - p
  command-left e = (walk-left (command-bounds (alone standard) file d p)).onward q e

-- past the word that is due at a place, fewer are left
pub word-left : (file : List ℕ) (d at : ℕ) {f : FirstWord} → Ok f ≡ due_of file d at → word_count file - f.next < word_count file - at
word-left file d at {f} e = let h = room file d at {f = f} e in omega arith
