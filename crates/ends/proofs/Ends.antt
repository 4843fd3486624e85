-- The places that the sizes make are the ends of what stands there, by induction on what stands.
-- Assumes nothing.
--     EndsBySize, node_sized    of an expression, a command and a set
use mathlib.Core.Path.{◌≡◌, ap, ap₂, ◌∙◌}
use mathlib.Core.List.{List, [], ◌∷◌, map}
use Prim.Native.Nat.{ℕ, zero, suc, ◌+◌, ◌<◌}
use native.Mathlib.Omega.{arith}
use native.Mathlib.Numerals.{add-one}
use lib.ListN.{length, get_or, drop}
use Rattle.layout.specs.Bytes.{kind_at, payload_at}
use Rattle.layout.specs.Nodes.{Node, node_part, parts_of, count_of}
use Rattle.layout.specs.Standing.{PartStands, Chain}
use Rattle.layout.proofs.Nodes.{node_law, no-level, Opened, opened}
use Rattle.ends.specs.Sizes.{past, sizes}
use Rattle.ends.proofs.Sizes.{sizes-length, sizes-at, past_more}

module _ (file : List ℕ) where
  -- what starts at `at` ends at p, by its size
  pub record EndsBySize (at p : ℕ) : Type 0 where
    pub inside : at < length file
    pub size : at + get_or (sizes file) at 0 ≡ p

  -- n parts from `at` on end at p
  pub record Run (n at p : ℕ) : Type 0 where
    pub run : at + past n (drop at (sizes file)) ≡ p

  ended : {at p : ℕ} → at ≡ p → Run 0 at p
  unfolding past
  ended h = record { run = omega arith }

  next : {n at q p : ℕ} → EndsBySize at q → Run n q p → Run (suc n) at p
  next {n} {at} {q} {p} s r =
      let h : at < length (sizes file) = omega (arith, sizes-length file, s.inside) in
      let e = past_more (sizes file) at n h in
      record { run = ap (λ i. at + i) e ∙ go (get_or (sizes file) at 0) s.size }
    where
      go : (k : ℕ) → at + k ≡ q → at + (k + past n (drop (at + k) (sizes file))) ≡ p
      go k e = rw e (omega (arith, r.run))

  parts-run : {d : ℕ} → ((x : Node) (at p : ℕ) → PartStands file (node_part x) d at p → EndsBySize at p) → (l : List Node)
      (at p : ℕ) → Chain file (map node_part l) d at p → Run (length l) at p
  parts-run f [] at p c = ended c
  parts-run f (x ∷ l) at p c = next (f x at c.0 c.1) (parts-run f l c.0 p c.2)

  by_word : (x : Node) {d n at p : ℕ} → Opened file x d at p → count_of (kind_at file at) (payload_at file at) ≡ n →
      Run n (at + 1) p → EndsBySize at p
  by_word x {n = n} {at = at} {p = p} o e r = record {
    inside = o.inside;
    size =
        ap (λ i. at + i)
        (sizes-at file at o.inside ∙ ap (λ i. suc (past i (drop (suc at) (sizes file)))) e)
        ∙ go (rw add-one at r.run);
  }
    where
      go : suc at + past n (drop (suc at) (sizes file)) ≡ p → at + suc (past n (drop (suc at) (sizes file))) ≡ p
      go h = omega arith

  pub node_sized : (d : ℕ) (x : Node) (at p : ℕ) → PartStands file (node_part x) d at p → EndsBySize at p
  node_sized zero x at p s = absurd (no-level x s.fit)
  node_sized (suc d) x at p s =
      let o = opened x d s in
      by_word x o (ap₂ count_of o.kind o.content ∙ (node_law x).count)
      (parts-run (λ y i j t. node_sized d y i j t) (parts_of x) (at + 1) p o.parts_at)
