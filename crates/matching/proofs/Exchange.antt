-- An expression's numbers are its first word's, then its operands', also with others in the place of a word.
-- Assumes nothing.
--     exchanged-append                                         one list after the other
--     any-first, any-listed                                    its place is in the file, in the list of ends
--     Walked, walked-head, walked-on, walked-all               after its first word and some of its operands
--     walked-lost, head-lost                                   one of them, or the first word, doesn't stand there
--     can-operand                                              an operand can be matched, and lies further on
--     can-sort                                                 the whole can, by the function for its sort
use mathlib.Core.Path.{◌≡◌, refl, sym, ap, subst, ◌∙◌}
use mathlib.Core.List.{List, [], ◌∷◌, ◌++◌, append_assoc, append-nil}
use Prim.Native.Nat.{ℕ, zero, suc, ◌+◌, ◌-◌, ◌<◌, ◌≤◌}
use native.Mathlib.Omega.{arith}
use lib.ListN.{length, get_or}
use Rattle.std.specs.Prelude.{Result, Ok, Err}
use Rattle.language.specs.Syntax.{Sort}
use Rattle.ends.specs.Ends.{EndsOf}
use Rattle.matching.specs.Matching.{between, matched, put_for, exchanged}
use Rattle.ends.specs.Places.{end_at}
use Rattle.ends.proofs.Places.{node_known}
use Rattle.matching.specs.Places.{ExpressionAt, AnyAt, Chained, CanMatch, CanMatchAny, Matched}
use Rattle.matching.specs.declared.cursor.Put.{Put}
use Rattle.matching.proofs.Ranges.{between_none, between_first, between_join}
use Rattle.matching.proofs.Matching.{matched-lost, matched-append}
use Rattle.matching.proofs.Operands.{any-inside, operands}

pub any-first : {file ends : List ℕ} {b : ℕ} → AnyAt file ends b → b < length file
any-first x =
    let i = any-inside x in
    let s = i.start in
    let l = i.within in
    omega arith

module _ (file : List ℕ) (put : Put) where
  pub exchanged-append : (k l : List ℕ) → exchanged file put (k ++ l) ≡ exchanged file put k ++ exchanged file put l
  unfolding exchanged
  exchanged-append [] l = refl
  exchanged-append (x ∷ k) l = rw (append_assoc, exchanged-append k l)

  -- the place past the numbers between two places, with what is put for a word
  pub record After (m : Result ℕ ℕ) (a : ℕ) (n : Result ℕ ℕ) (p : ℕ) : Type 0 where
    pub is : n ≡ matched file m (exchanged file put (between file a p))
    pub order : a ≤ p
    pub within : p ≤ length file

  single : (b : ℕ) → b < length file → between file b (b + 1) ≡ get_or file b 0 ∷ []
  single b h =
      between_first file b (b + 1) (omega arith) (omega arith)
      ∙ ap (λ l. get_or file b 0 ∷ l) (between_none file (b + 1) (b + 1) (omega arith))

-- so many operands of the expression at b are left, after what stood so far
pub record Walked (file ends : List ℕ) (put : Put) (from : Result ℕ ℕ) (b : ℕ) (m : Result ℕ ℕ) (p n : ℕ) : Type 0 where
  pub past : b < p
  pub left : Chained file ends n p (end_at ends b)
  pub so-far : After file put from b m p

module _ (file ends : List ℕ) where
  further : (n p e : ℕ) → Chained file ends n p e → p ≤ e
  further zero p e c = omega arith
  further (suc n) p e c =
      let s = (any-inside c.0).start in
      let h = further n (end_at ends p) e c.1 in
      omega arith

module _ {file : List ℕ} {put : Put} where
  then : {m n r : Result ℕ ℕ} {a q p : ℕ} → After file put m a n q → After file put n q r p → After file put m a r p
  then {m} {n} {r} {a} {q} {p} x y = record {
    is =
        y.is
        ∙ ap (λ c. matched file c (exchanged file put (between file q p))) x.is
        ∙ sym (matched-append file m (exchanged file put (between file a q)) (exchanged file put (between file q p)))
        ∙ ap (matched file m) (sym (exchanged-append file put (between file a q) (between file q p)))
        ∙ ap (λ l. matched file m (exchanged file put l)) (sym (between_join file a q p x.order y.order y.within));
    order = let h = x.order in let k = y.order in omega arith;
    within = y.within;
  }

  after-word : {m n : Result ℕ ℕ} {b : ℕ} → b < length file → n ≡ matched file m (put_for file put (get_or file b 0)) →
      After file put m b n (b + 1)
  unfolding exchanged
  after-word {m} {n} {b} h e = record {
    is =
        e
        ∙ ap (matched file m) (sym (append-nil (put_for file put (get_or file b 0))))
        ∙ ap (λ l. matched file m (exchanged file put l)) (sym (single file put b h));
    order = omega arith;
    within = omega arith;
  }

  module _ {ends : List ℕ} where
    -- what did not stand is not made good by what follows
    pub walked-lost : {from r : Result ℕ ℕ} {b p n q : ℕ} → AnyAt file ends b → Walked file ends put from b (Err q) p n → r ≡ Err q →
        Matched file ends from b put r
    walked-lost {b = b} {p} {n} {q} y x e = record {
      is =
          e ∙ (then x.so-far
          (record {
            is = matched-lost file q (exchanged file put (between file p (end_at ends b)));
            order = further file ends n p (end_at ends b) x.left;
            within = (any-inside y).within;
          })).is;
    }

    pub walked-head : (n : ℕ) {from m : Result ℕ ℕ} {b : ℕ} → b < length file → m ≡ matched file from (put_for file put (get_or file b 0)) →
        Chained file ends n (b + 1) (end_at ends b) → Walked file ends put from b m (b + 1) n
    walked-head n i h c = record { past = omega arith; left = c; so-far = after-word i h }

    -- the first word doesn't stand there
    pub head-lost : {from r : Result ℕ ℕ} {b q : ℕ} → EndsOf file ends → AnyAt file ends b →
        Err q ≡ matched file from (put_for file put (get_or file b 0)) → r ≡ Err q → Matched file ends from b put r
    head-lost {b = b} o x h e = walked-lost x (walked-head _ (any-first x) h (operands file ends b _ o x refl)) e

    pub walked-on : {from r : Result ℕ ℕ} {b e p q n : ℕ} → Walked file ends put from b (Ok e) p (suc n) → Matched file ends (Ok e) p put r →
        q ≡ end_at ends p → Walked file ends put from b r q n
    walked-on {from} {r} {b} {e} {p} {q} {n} x h k =
        let i = any-inside x.left.0 in
        let s = i.start in
        let l = x.past in
        subst (λ q. Walked file ends put from b r q n) (sym k)
        (record {
          past = omega arith;
          left = x.left.1;
          so-far = then x.so-far (record { is = h.is; order = omega arith; within = i.within });
        })

    pub walked-all : {from m : Result ℕ ℕ} {b p : ℕ} → Walked file ends put from b m p 0 → Matched file ends from b put m
    walked-all {from} {m} {b} {p} x =
        record { is = subst (λ p. m ≡ matched file from (exchanged file put (between file b p))) x.left x.so-far.is }

-- an operand's place is in the list of ends too
pub any-listed : {file ends : List ℕ} {at : ℕ} → EndsOf file ends → AnyAt file ends at → at < length ends
any-listed o x = (node_known o x.expression.there).listed

-- the words left from a place on, twice, so that a function's own number lies between those of its operands
abbrev pub left : List ℕ → ℕ → ℕ
left file b = (length file - b) + (length file - b)

pub any-of : {file ends : List ℕ} {k : Sort} {b : ℕ} {put : Put} → CanMatch file ends k b put → AnyAt file ends b
any-of p = record { sort = _; expression = p.expression }

-- what a call on an operand asks for: it can be matched, and lies further on
pub can-operand : {file ends : List ℕ} {put : Put} {k : Sort} {from m : Result ℕ ℕ} {b p n t : ℕ} → CanMatch file ends k b put →
    Walked file ends put from b m p (suc n) → left file b ≡ t → (left file p + 1 < t) × CanMatchAny file ends p put
can-operand c x e =
    let i = any-inside x.left.0 in
    let s = i.start in
    let l = i.within in
    let h = x.past in
    (omega arith, record { ends_of = c.ends_of; any = x.left.0; inside = c.inside })

-- the function for the sort is called at the same place
pub can-sort : {file ends : List ℕ} {put : Put} {t b : ℕ} {k : Sort} → left file b + 1 ≡ t → CanMatchAny file ends b put →
    ExpressionAt file ends k b → (left file b < t) × CanMatch file ends k b put
can-sort e p x = (omega arith, record { ends_of = p.ends_of; expression = x; inside = p.inside })
