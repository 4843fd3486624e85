-- Agreement as sets demand.
-- Assumes nothing.
--     antecedent-value, consequent-value      sides that are the same have one value
--     one_value, across                       equal values agree; values that agree, by equal ones
--     same-holds, standing, agree_within      members that are the same; that stand in a set; sets within one another
--     agree_same, agree_back                  sets that are the same
--     agree_left, agree_right, agree_both     of two sets together
--     agree_under, under-agree                of a set under a test
--     agree_without                           of a set without another
--     agree_operands                          rule 19 of sets
--     agree_replaced                          after an assignment
--     kept-value, consequent-kept, agree_kept where nothing is modified: a value, a consequent, a set
use mathlib.Core.Path.{◌≡◌, refl, sym, ◌∙◌, ap, ap₂, subst, subst₂}
use mathlib.Core.Bool.{Bool, true, false, not, ◌&&◌, ◌||◌, cond}
use mathlib.Core.List.{List, [], ◌∷◌, ◌++◌}
use mathlib.Core.Option.{Option, none, some}
use Prim.Native.Nat.{ℕ}
use Rattle.laws.proofs.Bools.{and_left, and_right, and_both}
use Rattle.language.specs.Syntax.{Sort, Arithmetic, Boolean, Array, Expr, constant, scalar, operation, select}
use Rattle.language.specs.Syntax.{compare, truth, and, or, neg, array, zeros, update, Assignment, Command}
use Rattle.language.specs.Store.{Store, Value, apply, relate, value}
use Rattle.language.specs.Runs.{assigned, Runs}
use Rattle.language.specs.Modifies.{Identifier, identifiers}
use Rattle.language.proofs.Values.{AllInBoth, same-value}
use Rattle.language.proofs.Kept.{kept}
use Rattle.rules.specs.Assertion.{Member, Members, member, OneValue, SameValue, Holds, Agree}
use Rattle.rules.specs.Replace.{replacement, replace_members}
use Rattle.rules.specs.Sets.{SamePlain, SameConsequent, SameMember, StandsIn, stands_here, stands-later}
use Rattle.rules.specs.Sets.{Within, Same, under, listed, without, operands, set_identifiers, Unmodified}
use Rattle.rules.proofs.Unique.{same-tree}
use Rattle.rules.proofs.Plain.{plain_value, same-plain, words-antecedent}
use Rattle.rules.proofs.Monotone.{stands-monotone}
use Rattle.rules.proofs.Decides.{listed-decides}
use Rattle.rules.proofs.Replaced.{replaced-assigned}

-- antecedents that are compared as the same have one value
pub antecedent-value : (φ ψ : Expr Boolean) → SamePlain φ ψ → (s : Store) → value φ s ≡ value ψ s
antecedent-value φ ψ h s = sym (plain_value φ s) ∙ ap (λ φ. value φ s) (same-plain φ ψ h) ∙ plain_value ψ s

-- consequents that are compared as the same have one value in two stores together
pub consequent-value : {j k : Sort} (d : Expr j) (e : Expr k) → SameConsequent d e → (s t : Store) →
    SameValue d s t → SameValue e s t
consequent-value d e h s t = same-tree (λ k e. OneValue k (value e s) (value e t)) d e h

-- a path is one value
pub one_value : (k : Sort) {v w : Value k} → v ≡ w → OneValue k v w
one_value Arithmetic h = h
one_value Boolean h = h
one_value Array h = λ i. ap (λ f. f i) h

module _ (s t : Store) where
  pub same-holds : {m n : Member} → SameMember SamePlain m n → Holds n s t → Holds m s t
  same-holds {m} {n} h a i j =
      let same = antecedent-value m.antecedent n.antecedent h.antecedents in
      consequent-value n.consequent m.consequent (sym h.consequents) s t
      (a (sym (same s) ∙ i) (sym (same t) ∙ j))

  pub standing : {m : Member} {p : Members} → StandsIn SamePlain m p → Agree p s t → Holds m s t
  standing (stands_here h) a = same-holds h a.0
  standing (stands-later h) a = standing h a.1

  pub agree_within : (q p : Members) → Within SamePlain q p → Agree p s t → Agree q s t
  agree_within [] p h a = tt
  agree_within (m ∷ q) p h a = (standing h.0 a, agree_within q p h.1 a)

  pub agree_same : (p q : Members) → Same SamePlain p q → Agree p s t → Agree q s t
  agree_same p q h a = agree_within q p h.second a

  pub agree_back : (p q : Members) → Same SamePlain p q → Agree q s t → Agree p s t
  agree_back p q h a = agree_within p q h.first a

  pub agree_left : (p q : Members) → Agree (p ++ q) s t → Agree p s t
  agree_left [] q a = tt
  agree_left (m ∷ p) q a = (a.0, agree_left p q a.1)

  pub agree_right : (p q : Members) → Agree (p ++ q) s t → Agree q s t
  agree_right [] q a = a
  agree_right (m ∷ p) q a = agree_right p q a.1

  pub agree_both : (p q : Members) → Agree p s t → Agree q s t → Agree (p ++ q) s t
  agree_both [] q a b = b
  agree_both (m ∷ p) q a b = (a.0, agree_both p q a.1 b)

  -- a set under a test that is true in both
  pub agree_under : (p : Members) (b : Expr Boolean) → value b s ≡ true → value b t ≡ true →
      Agree (under p b) s t → Agree p s t
  unfolding value
  agree_under [] b h k a = tt
  agree_under (m ∷ p) b h k a = (λ i j. a.0 (and_both i h) (and_both j k), agree_under p b h k a.1)

  -- and what a set under a test asks
  pub under-agree : (p : Members) (b : Expr Boolean) → (value b s ≡ true → value b t ≡ true → Agree p s t) →
      Agree (under p b) s t
  unfolding value
  under-agree [] b f = tt
  under-agree (m ∷ p) b f = (
    λ i j. (f (and_right (value m.antecedent s) _ i) (and_right (value m.antecedent t) _ j)).0
        (and_left _ _ i) (and_left _ _ j),
    under-agree p b (λ h k. (f h k).1),
  )

  -- a member that is listed, by words, holds where the list does
  listed-holds : (m : Member) (p : Members) → listed m p ≡ true → Agree p s t → Holds m s t
  listed-holds m p h a = standing (stands-monotone words-antecedent ((listed-decides m p).sound h)) a

  pub agree_without : (p q : Members) → Agree q s t → Agree (without p q) s t → Agree p s t
  agree_without [] q a b = tt
  agree_without (m ∷ p) q a b = go (listed m q) refl b (λ c. agree_without p q a c)
    where
      go : (k : Bool) → listed m q ≡ k → Agree (cond k (without p q) (m ∷ without p q)) s t →
          (Agree (without p q) s t → Agree p s t) → Agree (m ∷ p) s t
      go true e c r = (listed-holds m q e a, r c)
      go false e c r = (c.0, r c.1)

  -- what the operands ask
  Asked : Option Members → Type 0
  Asked none = ⊥
  Asked (some r) = Agree r s t

  split : {k : Sort} (φ : Expr Boolean) (e : Expr k) → value φ s ≡ true → value φ t ≡ true →
      Asked (operands φ e) → SameValue e s t
  unfolding Asked value
  split φ (constant z) i j a = absurd a
  split φ (scalar x) i j a = absurd a
  split φ (operation o x y) i j a = ap₂ (apply o) (a.0 i j) (a.1.0 i j)
  split φ (select h x) i j a = absurd a
  split φ (compare r x y) i j a = ap₂ (relate r) (a.0 i j) (a.1.0 i j)
  split φ (truth x) i j a = absurd a
  split φ (and x y) i j a = ap₂ ◌&&◌ (a.0 i j) (a.1.0 i j)
  split φ (or x y) i j a = ap₂ ◌||◌ (a.0 i j) (a.1.0 i j)
  split φ (neg x) i j a = ap not (a.0 i j)
  split φ (array x) i j a = absurd a
  split φ zeros i j a = absurd a
  split φ (update h x y) i j a = absurd a

  pub agree_operands : {k : Sort} (φ : Expr Boolean) (e : Expr k) (r : Members) →
      operands φ e ≡ some r → Agree r s t → Holds (member φ e) s t
  unfolding Asked
  agree_operands φ e r h a i j = split φ e i j (subst Asked (sym h) a)

-- one value, seen across equations
pub across : (k : Sort) {v w v' w' : Value k} → v ≡ v' → w ≡ w' → OneValue k v w → OneValue k v' w'
across k h i r = subst₂ (OneValue k) h i r

-- after an assignment
pub agree_replaced : (a : Assignment) (s t : Store) (q : Members) →
    Agree (replace_members q (replacement a)) s t → Agree q (assigned a s) (assigned a t)
agree_replaced a s t [] h = tt
agree_replaced a s t (m ∷ q) h = (
  λ i j. across m.sort (replaced-assigned a s m.consequent) (replaced-assigned a t m.consequent)
      (h.0 (replaced-assigned a s m.antecedent ∙ i) (replaced-assigned a t m.antecedent ∙ j)),
  agree_replaced a s t q h.1,
)

-- where nothing is modified
unmodified-left : (l k : List Identifier) (c : Command) → Unmodified (l ++ k) c → Unmodified l c
unmodified-left [] k c h = tt
unmodified-left (x ∷ l) k c h = (h.0, unmodified-left l k c h.1)

unmodified-right : (l k : List Identifier) (c : Command) → Unmodified (l ++ k) c → Unmodified k c
unmodified-right [] k c h = h
unmodified-right (x ∷ l) k c h = unmodified-right l k c h.1

module _ (c : Command) {n : ℕ} {s t : Store} (r : Runs c n s t) where
  all-kept : (l : List Identifier) → Unmodified l c → AllInBoth s t l
  all-kept [] h = tt
  all-kept (x ∷ l) h = (kept x r h.0, all-kept l h.1)

  pub kept-value : {k : Sort} (e : Expr k) → Unmodified (identifiers e) c → value e s ≡ value e t
  kept-value e h = same-value s t e (all-kept (identifiers e) h)

module _ (c : Command) {m n : ℕ} {s t s' t' : Store} (r : Runs c m s s') (u : Runs c n t t') where
  pub consequent-kept : {k : Sort} (e : Expr k) → Unmodified (identifiers e) c → SameValue e s t → SameValue e s' t'
  consequent-kept {k} e h v = across k (kept-value c r e h) (kept-value c u e h) v

  pub agree_kept : (q : Members) → Unmodified (set_identifiers q) c → Agree q s t → Agree q s' t'
  unfolding set_identifiers
  agree_kept [] h a = tt
  agree_kept (x ∷ q) h a =
      let φ = x.antecedent in
      let here = unmodified-left (identifiers φ) _ c h in
      let rest = unmodified-right (identifiers φ) _ c h in (
        λ i j. consequent-kept x.consequent (unmodified-left (identifiers x.consequent) _ c rest)
            (a.0 (kept-value c r φ here ∙ i) (kept-value c u φ here ∙ j)),
        agree_kept q (unmodified-right (identifiers x.consequent) _ c rest) a.1,
      )
