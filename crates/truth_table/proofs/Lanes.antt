-- The state of the loop over the bytes of a formula, in four lanes at once.
-- Assumes nothing.
--     four-lanes                                           what holds in each of the four
--     lane-at, lane-set                                    a word of a lane
--     Lanes, lanes_begin, lanes_finish                     the state; at the loop's start, at its end
--     lanes_room, lanes_top                                a stack that is not full, not empty
--     lanes_push, lanes_flip, lanes_meet, lanes_join       one byte: a leaf, not, and, or
use mathlib.Core.Path.{◌≡◌, refl, ◌∙◌}
use mathlib.Core.List.{List, [], ◌∷◌}
use Prim.Native.Nat.{ℕ, zero, suc, ◌+◌, ◌-◌, ◌^◌, ◌<◌, ◌≤◌}
use native.Mathlib.Omega.{arith}
use lib.Bits.{bit_and, bit_or}
use lib.ListN.{length, get_or, get_or-map, take, set, length-set}
use lib.Seq.{length-take-le}
use Rattle.std.proofs.lemmas.List.{map-set, length-map}
use Rattle.truth_table.specs.Formula.{IsFormula, CanWork, GivesFour, lane}
use Rattle.truth_table.proofs.Machine.{State, begin, finish, push-room, pop_room, push, flip, meet, join}

pub four-lanes : (P : ℕ → Type 0) → P 0 → P 1 → P 2 → P 3 → (j : ℕ) → j < 4 → P j
four-lanes P a b c d zero h = a
four-lanes P a b c d (suc zero) h = b
four-lanes P a b c d (suc (suc zero)) h = c
four-lanes P a b c d (suc (suc (suc zero))) h = d
four-lanes P a b c d (suc (suc (suc (suc j)))) h = absurd (omega arith)

lane-at : (j : ℕ) (t : List (List ℕ)) (i : ℕ) → get_or (lane j t) i 0 ≡ get_or (get_or t i []) j 0
lane-at j t i = get_or-map (λ (x : List ℕ). get_or x j 0) t i []

pub lane-set : (j : ℕ) (t : List (List ℕ)) (i : ℕ) (x : List ℕ) → lane j (set t i x) ≡ set (lane j t) i (get_or x j 0)
lane-set j t i x = map-set (λ (x : List ℕ). get_or x j 0) t i x

lane-length : (j : ℕ) (t : List (List ℕ)) → length (lane j t) ≡ length t
lane-length j t = length-map t (λ (x : List ℕ). get_or x j 0)

pub record Lanes
    (room : ℕ) (prog : List ℕ) (n : ℕ) (leaves stack : List (List ℕ)) (top : ℕ) (word : List ℕ) (i : ℕ) : Type 0 where
  pub most : i ≤ n
  pub low : top ≤ room
  pub size : length stack ≡ room
  each : (j : ℕ) → j < 4 → State room (lane j leaves) (take n prog) i (lane j stack) top (get_or word j 0)

pub lanes_begin : {prog : List ℕ} {n : ℕ} {leaves stack : List (List ℕ)} → CanWork prog n stack →
    Lanes (length stack) prog n leaves stack 0 (0 ∷ 0 ∷ 0 ∷ 0 ∷ []) n
lanes_begin {prog} {n} {leaves} {stack} w =
    let h : length (take n prog) ≡ n = length-take-le _ _ w.formula.within in record {
      most = omega arith;
      low = omega arith;
      size = refl;
      each =
          four-lanes _ (begin (lane-length 0 stack) h) (begin (lane-length 1 stack) h) (begin (lane-length 2 stack) h)
          (begin (lane-length 3 stack) h);
    }

module _ {room : ℕ} {prog : List ℕ} {n : ℕ} {leaves stack : List (List ℕ)} {top : ℕ} {word : List ℕ} {i : ℕ}
    (s : Lanes room prog n leaves stack top word i) where
  pub lanes_finish : i ≤ 0 → GivesFour prog n leaves word
  lanes_finish z = record { each = λ j h. finish z (s.each j h) }

  module _ (is : IsFormula prog n room) (l : 0 < i) where
    abbrev op : ℕ
    op = get_or prog (i - 1) 0

    pub lanes_room : op < 18 → top < room
    lanes_room h = push-room is l s.most (s.each 0 (omega arith)) h

    pub lanes_top : 18 ≤ op → (op ≡ 20 → ⊥) → 0 < top
    lanes_top h k = pop_room is l s.most (s.each 0 (omega arith)) h k

    pub lanes_push : op < 18 → Lanes room prog n leaves (set stack top word) (top + 1) (get_or leaves op []) (i - 1)
    lanes_push h = record {
      most = let m = s.most in omega arith;
      low = let r = lanes_room h in omega arith;
      size = length-set stack top word ∙ s.size;
      each = λ j k.
          rw (lane-set j stack top word, ← lane-at j leaves op) (push is l s.most (s.each j k) h);
    }

    pub lanes_flip : {word' : List ℕ} → op ≡ 20 → ((j : ℕ) → j < 4 → get_or word' j 0 ≡ 2 ^ 64 - 1 - get_or word j 0) →
        Lanes room prog n leaves stack top word' (i - 1)
    lanes_flip h e = record {
      most = let m = s.most in omega arith;
      low = s.low;
      size = s.size;
      each = λ j k. rw (e j k) (flip is l s.most (s.each j k) h);
    }

    module _ (h : 18 ≤ op) (k : op ≡ 20 → ⊥) {word' : List ℕ} where
      pub lanes_meet : op ≡ 18 →
          ((j : ℕ) → j < 4 → get_or word' j 0 ≡ bit_and (get_or word j 0) (get_or (get_or stack (top - 1) []) j 0)) →
          Lanes room prog n leaves stack (top - 1) word' (i - 1)
      lanes_meet a e = record {
        most = let m = s.most in omega arith;
        low = let m = s.low in omega arith;
        size = s.size;
        each = λ j q. rw (e j q, ← lane-at j stack (top - 1)) (meet is l s.most (s.each j q) h k a);
      }

      pub lanes_join : (op ≡ 18 → ⊥) →
          ((j : ℕ) → j < 4 → get_or word' j 0 ≡ bit_or (get_or word j 0) (get_or (get_or stack (top - 1) []) j 0)) →
          Lanes room prog n leaves stack (top - 1) word' (i - 1)
      lanes_join a e = record {
        most = let m = s.most in omega arith;
        low = let m = s.low in omega arith;
        size = s.size;
        each = λ j q. rw (e j q, ← lane-at j stack (top - 1)) (join is l s.most (s.each j q) h k a);
      }
