-- Readings under some limits and under raised ones: one law for each combinator of layout/specs/Reading. A third reading, with the same depth
-- and any count of members, tells the refusal 5 of a set's count from any other.
-- Assumes nothing.
--     OverMost                                        at a place stands 32:m with m over the most members
--     Any, RaisedBy                                   no demand on what was read; the law, by cases on three readings
--     ReadersRaised, RaisedAt                                of three readers, the second of which goes onward; of entries of tables
--     made-onward                                     what is made of what was read goes onward
--     then-raised, made-raised                        a reading after another; what is made of what was read
--     begin, here-raised, _▸_, several-raised         pure, here, _⊛_, several
--     past-raised                                     of a reader whose readings end past their start
--     entry, up-to, on-option, counted                the tables: allow, up_to, on_option; up_to, of a set's count
--     allowed-raised, due-raised, level-due           allowed, word_due; no_level, and word_due under raised limits
use mathlib.Core.Path.{◌≡◌, refl}
use mathlib.Core.Bool.{Bool, true, false, cond}
use mathlib.Core.List.{List, ◌∷◌}
use mathlib.Core.Option.{Option, none, some}
use Prim.Native.Nat.{ℕ, zero, suc, ◌+◌, ◌<◌, ◌≤◌}
use native.Mathlib.Omega.{arith}
use borrow.Author.Tests.{eqb-true, leb-true, leb-false, ltb-true, le-leb}
use lib.Dec.{eqb, ltb, leb}
use Rattle.layout.specs.Bytes.{word_count, kind_at, payload_at, payloads}
use Rattle.layout.specs.Reading.{Reading, read, fault, Reader, on_read, pure, here, ◌⊛◌, several}
use Rattle.layout.specs.Reading.{no_level, allowed, word_due, up_to, on_option}
use Rattle.layout.proofs.Words.{WordFound, found_at, quotient, remainder}
use Rattle.layout.proofs.Yields.{YieldsBy, Yields, Past, past-yields, yields-map, start}
use Rattle.layout.proofs.Yields.{then-yields, several-yields, reach_here}

abbrev pub Any : {A : Type 0} → A → ℕ → Type 0
Any a p = Unit {0}

module _ (file : List ℕ) (most : ℕ) where
  pub record OverMost (p : ℕ) : Type 0 where
    pub inside : p < word_count file
    pub set_word : kind_at file p ≡ 32
    pub many : most < payload_at file p

  -- under some limits; under those with any count; under raised ones
  pub data RaisedBy {A : Type 0} : Reading A → Reading A → Reading A → Type 0 where
    alike : {r : Reading A} → RaisedBy r r r
    too-deep : {p : ℕ} {t s : Reading A} → RaisedBy (fault 4 p) t s
    too_many : {p : ℕ} {t s : Reading A} → OverMost p → YieldsBy file (p + 1) Any t → RaisedBy (fault 5 p) t s

  pub record ReadersRaised {A : Type 0} (r t s : Reader A) : Type 0 where
    pub raised : (at : ℕ) → RaisedBy (r at) (t at) (s at)
    pub onward : (at : ℕ) → Yields file at Any t

  -- what may stand at a place
  pub data RaisedAt {A : Type 0} (at : ℕ) : Option (Reader A) → Option (Reader A) → Option (Reader A) → Type 0 where
    none-may : RaisedAt at none none none
    all-may : {r t s : Reader A} → ReadersRaised r t s → RaisedAt at (some r) (some t) (some s)
    raised-may : {t : Reader A} {o : Option (Reader A)} → OverMost at → ((q : ℕ) → Yields file q Any t) → RaisedAt at none (some t) o

-- readers that go onward
module _ {file : List ℕ} where
  pub made-onward : {A B : Type 0} {r : Reader A} (f : A → B) (at : ℕ) → Yields file at Any r →
      YieldsBy file at Any (on_read (r at) λ a q. read (f a) q)
  made-onward {r} f at h = then-yields file Any Any at (r at) _ h.yields λ a q _. (reach_here q, tt)

  several-onward : {A : Type 0} {r : Reader A} → ((q : ℕ) → Yields file q Any r) → (n at : ℕ) → Yields file at Any (several n r)
  several-onward h n at =
      yields-map (λ l p _. tt) (several-yields (λ l q p. Unit {0}) (λ q. tt) (λ a l q s p u v. tt) h n at)

module _ {file : List ℕ} {most : ℕ} where
  pub then-raised : {A B : Type 0} {x y z : Reading A} (f g h : A → ℕ → Reading B) → RaisedBy file most x y z →
      ((a : A) (q : ℕ) → RaisedBy file most (f a q) (g a q) (h a q)) → ((a : A) (q : ℕ) → YieldsBy file q Any (g a q)) →
      RaisedBy file most (on_read x f) (on_read y g) (on_read z h)
  then-raised f g h (alike {r = read a q}) k o = k a q
  then-raised f g h (alike {r = fault n q}) k o = alike
  then-raised f g h too-deep k o = too-deep
  then-raised f g h (too_many {p = p} {t = t} c y) k o = too_many c (then-yields file Any Any (p + 1) t g y λ a q _. o a q)

  -- what is made of what was read
  pub made-raised : {A B : Type 0} {x y z : Reading A} (f : A → B) → RaisedBy file most x y z →
      RaisedBy file most (on_read x λ a q. read (f a) q) (on_read y λ a q. read (f a) q) (on_read z λ a q. read (f a) q)
  made-raised f h = then-raised _ _ _ h (λ a q. alike) (λ a q. (reach_here q, tt))

  pub begin : {A : Type 0} (a : A) → ReadersRaised file most (pure a) (pure a) (pure a)
  begin a = record { raised = λ at. alike; onward = λ at. start a tt }

  pub here-raised : ReadersRaised file most here here here
  here-raised = record { raised = λ at. alike; onward = λ at. record { yields = (reach_here at, tt) } }

  -- of a reader whose readings end past their start
  pub past-raised : {A : Type 0} {T : ℕ → A → ℕ → Type 0} {r t s : Reader A} →
      ((at : ℕ) → RaisedBy file most (r at) (t at) (s at)) → ((at : ℕ) → Past file at (T at) t) → ReadersRaised file most r t s
  past-raised f g = record { raised = f; onward = λ at. yields-map (λ a p _. tt) (past-yields (g at)) }

  infixl 50 ◌▸◌
  pub ◌▸◌ : {A B : Type 0} {r t s : Reader (A → B)} {u v w : Reader A} → ReadersRaised file most r t s → ReadersRaised file most u v w →
      ReadersRaised file most (r ⊛ u) (t ⊛ v) (s ⊛ w)
  unfolding ◌⊛◌
  ◌▸◌ {t} {v} h k = record {
    raised = λ at. then-raised _ _ _ (h.raised at) (λ f q. made-raised f (k.raised q)) (λ f q. made-onward f q (k.onward q));
    onward = λ at. record {
      yields = then-yields file Any Any at (t at) _ (h.onward at).yields λ f q _. made-onward f q (k.onward q);
    };
  }

  pub several-raised : {A : Type 0} {r t s : Reader A} (n : ℕ) → ReadersRaised file most r t s →
      ReadersRaised file most (several n r) (several n t) (several n s)
  unfolding several
  several-raised {r} {t} {s} n h = record { raised = go n; onward = several-onward h.onward n }
    where
      go : (n at : ℕ) → RaisedBy file most (several n r at) (several n t at) (several n s at)
      go zero at = alike
      go (suc n) at =
          then-raised _ _ _ (h.raised at) (λ a q. made-raised (λ l. a ∷ l) (go n q))
          (λ a q. made-onward (λ l. a ∷ l) q (several-onward h.onward n q))

  module _ {A : Type 0} {at : ℕ} where
    pub entry : {x y z u v w : Option (Reader A)} (k n : ℕ) → (k ≡ n → RaisedAt file most at x y z) → RaisedAt file most at u v w →
        RaisedAt file most at (cond (eqb k n) x u) (cond (eqb k n) y v) (cond (eqb k n) z w)
    entry {x} {y} {z} {u} {v} {w} k n f g = go (eqb k n) refl
      where
        go : (b : Bool) → eqb k n ≡ b → RaisedAt file most at (cond b x u) (cond b y v) (cond b z w)
        go true e = f (eqb-true k n e)
        go false e = g

    pub up-to : {r t s : Reader A} (n p : ℕ) → ReadersRaised file most r t s → RaisedAt file most at (up_to n p r) (up_to n p t) (up_to n p s)
    up-to {r} {t} {s} n p h = go (leb p n)
      where
        go : (b : Bool) → RaisedAt file most at (cond b (some r) none) (cond b (some t) none) (cond b (some s) none)
        go true = all-may h
        go false = none-may

    pub on-option : {B : Type 0} (o : Option B) (f g h : B → Reader A) → ((b : B) → ReadersRaised file most (f b) (g b) (h b)) →
        RaisedAt file most at (on_option o f) (on_option o g) (on_option o h)
    on-option none f g h k = none-may
    on-option (some b) f g h k = all-may (k b)

    -- a count that is allowed under raised limits too, or only there
    pub counted : {r t s : Reader A} (every more p : ℕ) → WordFound file at 32 p → payloads ≤ every → most ≤ more →
        ReadersRaised file most r t s → RaisedAt file most at (up_to most p r) (up_to every p t) (up_to more p s)
    counted {r} {t} {s} every more p f every-fits more-fits h =
        rw (le-leb p every (omega (arith, f.small))) (go (leb p most) refl)
      where
        go : (b : Bool) → leb p most ≡ b → RaisedAt file most at (cond b (some r) none) (some t) (up_to more p s)
        go true e = rw (le-leb p more (omega (arith, leb-true p most e))) (all-may h)
        go false e = raised-may (record {
          inside = f.inside;
          set_word = quotient 32 p _ f.number f.small;
          many = let i = remainder 32 p _ f.number f.small in omega (arith, i, leb-false p most e);
        }) h.onward

    pub allowed-raised : {x y z : Option (Reader A)} → RaisedAt file most at x y z →
        RaisedBy file most (allowed x at) (allowed y at) (allowed z at)
    allowed-raised none-may = alike
    allowed-raised (all-may h) = h.raised (at + 1)
    allowed-raised (raised-may c h) = too_many c (h (at + 1)).yields

  pub due-raised : {A : Type 0} (at : ℕ) (f g h : ℕ → ℕ → ℕ → Option (Reader A)) →
      ((k p : ℕ) → WordFound file at k p → RaisedAt file most at (f at k p) (g at k p) (h at k p)) →
      RaisedBy file most (word_due file f at) (word_due file g at) (word_due file h at)
  unfolding word_due
  due-raised {A} at f g h k = go (ltb at (word_count file)) refl
    where
      step : (b : Bool) → (ℕ → ℕ → ℕ → Option (Reader A)) → Reading A
      step b f = elim b [ true ↦ allowed (f at (kind_at file at) (payload_at file at)) at | false ↦ fault 3 (word_count file) ]

      go : (b : Bool) → ltb at (word_count file) ≡ b → RaisedBy file most (step b f) (step b g) (step b h)
      go true e = allowed-raised (k _ _ (found_at file at (ltb-true at (word_count file) e)))
      go false e = alike

  -- a word is due with no level left, and one is left under raised limits
  pub level-due : {A : Type 0} (at : ℕ) (f : ℕ → ℕ → ℕ → Option (Reader A)) →
      RaisedBy file most (no_level file at) (no_level file at) (word_due file f at)
  unfolding word_due
  level-due {A} at f = go (ltb at (word_count file))
    where
      level : Bool → Reading A
      level b = cond b (fault 4 at) (fault 3 (word_count file))

      go : (b : Bool) → RaisedBy file most (level b) (level b) (elim b [
        | true ↦ allowed (f at (kind_at file at) (payload_at file at)) at
        | false ↦ fault 3 (word_count file)
      ])
      go true = too-deep
      go false = alike
