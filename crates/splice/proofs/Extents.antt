-- How many levels what stands at a place takes, and where it ends, as the walk over its parts finds it.
-- Assumes nothing.
--     extent-zero, extent-past, extent-one
--                                  with no level left nothing stands anywhere, nothing stands past the file, and with one a word alone
--     Ahead                        so many parts are still ahead
--     ahead-start, ahead-next, ahead-stop, ahead-done
--                                  before the first part; after one more; past the file; after the last
use mathlib.Core.Path.{◌≡◌, refl, sym, ap₂, subst, ◌∙◌}
use mathlib.Core.List.{List, [], ◌∷◌, map}
use Prim.Native.Nat.{ℕ, zero, suc, max, ◌+◌, ◌-◌, ◌<◌, ◌≤◌}
use native.Mathlib.Omega.{arith}
use lib.ListN.{length}
use Rattle.layout.specs.Bytes.{kind_at, payload_at}
use Rattle.layout.specs.Nodes.{Node, node_part, parts_of, count_of}
use Rattle.layout.specs.Standing.{PartStands, Chain}
use Rattle.layout.proofs.Nodes.{no-level, node_law, opened, node_inside}
use Rattle.splice.specs.Extent.{ExtentOf}
use Rattle.splice.specs.declared.extent.Extent.{Extent}

module _ {file : List ℕ} {at most : ℕ} where
  none-stands : ((x : Node) (d p : ℕ) → d ≤ most → PartStands file (node_part x) d at p → ⊥) →
      ExtentOf file at most (record { end = at; levels = 0 })
  none-stands f = record {
    few = omega arith;
    end = λ x d p l s. absurd (f x d p l s);
    least = λ x d p l s. omega arith;
  }

  pub extent-zero : most ≡ 0 → ExtentOf file at most (record { end = at; levels = 0 })
  extent-zero e = none-stands λ x d p l s. go x d p (omega arith) s
    where
      go : (x : Node) (d p : ℕ) → d ≤ 0 → PartStands file (node_part x) d at p → ⊥
      go x zero p l s = no-level x s.fit
      go x (suc d) p l s = omega arith

  pub extent-past : length file ≤ at → ExtentOf file at most (record { end = at; levels = 0 })
  extent-past h = none-stands λ x d p l s. let i = node_inside x s in omega (arith, i.start, i.within)

  -- with one level left only a word without parts stands
  pub extent-one : most ≡ 1 → ExtentOf file at most (record { end = at + 1; levels = 1 })
  extent-one e = record {
    few = omega arith;
    end = λ x d p l s. ends_at x d p (omega arith) s;
    least = λ x d p l s. takes x d p s;
  }
    where
      alone : (l : List Node) {p : ℕ} → Chain file (map node_part l) 0 (at + 1) p → at + 1 ≡ p
      alone [] c = c
      alone (y ∷ l) c = absurd (no-level y c.1.fit)

      ends_at : (x : Node) (d p : ℕ) → d ≤ 1 → PartStands file (node_part x) d at p → at + 1 ≡ p
      ends_at x zero p l s = absurd (no-level x s.fit)
      ends_at x (suc zero) p l s = alone (parts_of x) (opened x 0 s).parts_at
      ends_at x (suc (suc d)) p l s = absurd (omega arith)

      takes : (x : Node) (d p : ℕ) → PartStands file (node_part x) d at p → 1 ≤ d
      takes x zero p s = absurd (no-level x s.fit)
      takes x (suc d) p s = omega arith

module _ (file : List ℕ) (at most : ℕ) where
  -- of what stands at the place with one level more than d, `left` parts stand from `end` on, and those before take at most d levels
  pub record Ahead (left end levels : ℕ) : Type 0 where
    pub few : levels < most
    pub ahead : (x : Node) (d p : ℕ) → suc d ≤ most → PartStands file (node_part x) (suc d) at p →
        (l : List Node) × Chain file (map node_part l) d end p × (length l ≡ left) × (levels ≤ d)

  pub ahead-start : {left : ℕ} → (most ≡ 0 → ⊥) → left ≡ count_of (kind_at file at) (payload_at file at) → Ahead left (at + 1) 0
  ahead-start {left} h e = record {
    few = go most h;
    ahead = λ x d p l s.
        let o = opened x d s in (
          parts_of x,
          o.parts_at,
          sym (e ∙ ap₂ count_of o.kind o.content ∙ (node_law x).count),
          omega arith,
        );
  }
    where
      go : (n : ℕ) → (n ≡ 0 → ⊥) → 0 < n
      go zero h = absurd (h refl)
      go (suc n) h = omega arith

  -- r is what was returned for the first part that is ahead
  pub ahead-next : {left rest end levels : ℕ} {r : Extent} → Ahead left end levels → left ≡ suc rest → ExtentOf file end (most - 1) r →
      Ahead rest r.end (max levels r.levels)
  ahead-next {left} {rest} {end} {levels} {r} a h e = record {
    few = omega (arith, a.few, e.few);
    ahead = λ x d p l s. let b = a.ahead x d p l s in go d p (omega arith) b.0 b.1 b.2 b.3;
  }
    where
      go : (d p : ℕ) → d ≤ most - 1 → (l : List Node) → Chain file (map node_part l) d end p → length l ≡ left → levels ≤ d →
          (l : List Node) × Chain file (map node_part l) d r.end p × (length l ≡ rest) × (max levels r.levels ≤ d)
      go d p k [] c n i = absurd (omega arith)
      go d p k (y ∷ l) c n i = (
        l,
        subst (λ q. Chain file (map node_part l) d q p) (sym (e.end y d c.0 k c.1)) c.2,
        omega arith,
        omega (arith, e.least y d c.0 k c.1),
      )

  -- nothing stands past the file
  pub ahead-stop : {left end levels : ℕ} → Ahead left end levels → 0 < left → length file ≤ end →
      ExtentOf file at most (record { end = end; levels = levels + 1 })
  ahead-stop {left} {end} {levels} a h e = record {
    few = omega (arith, a.few);
    end = λ x d p l s. absurd (none x d p l s);
    least = λ x d p l s. absurd (none x d p l s);
  }
    where
      past : (d p : ℕ) (l : List Node) → Chain file (map node_part l) d end p → length l ≡ left → ⊥
      past d p [] c n = omega arith
      past d p (y ∷ l) c n = let i = node_inside y c.1 in omega (arith, i.start, i.within)

      none : (x : Node) (d p : ℕ) → d ≤ most → PartStands file (node_part x) d at p → ⊥
      none x zero p l s = no-level x s.fit
      none x (suc d) p l s = let b = a.ahead x d p l s in past d p b.0 b.1 b.2

  pub ahead-done : {left end levels : ℕ} → Ahead left end levels → left ≤ 0 → ExtentOf file at most (record { end = end; levels = levels + 1 })
  ahead-done {left} {end} {levels} a h = record {
    few = omega (arith, a.few);
    end = λ x d p l s. ends_at x d p l s;
    least = λ x d p l s. takes x d p l s;
  }
    where
      ends_at : (x : Node) (d p : ℕ) → d ≤ most → PartStands file (node_part x) d at p → end ≡ p
      ends_at x zero p l s = absurd (no-level x s.fit)
      ends_at x (suc d) p l s = let b = a.ahead x d p l s in go b.0 b.1 b.2
        where
          go : (m : List Node) → Chain file (map node_part m) d end p → length m ≡ left → end ≡ p
          go [] c n = c
          go (y ∷ m) c n = absurd (omega arith)

      takes : (x : Node) (d p : ℕ) → d ≤ most → PartStands file (node_part x) d at p → levels + 1 ≤ d
      takes x zero p l s = absurd (no-level x s.fit)
      takes x (suc d) p l s = let b = a.ahead x d p l s in omega (arith, b.3)
