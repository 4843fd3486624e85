-- The tests of `Tests` in rules, of sets whose words are in range, are those of their members' halves.
-- Assumes nothing.
--     halves_of, members_numbers, FitsAll      the halves of a member, of a set; their words are in range
--     stands-numbers, within-numbers, same-numbers, listed-numbers, without-numbers
use mathlib.Core.Path.{◌≡◌, refl, sym, ap, ap₂, ◌∙◌}
use mathlib.Core.Bool.{Bool, true, false, ◌&&◌, ◌||◌, cond}
use mathlib.Core.List.{List, [], ◌∷◌, ◌++◌}
use Rattle.rules.specs.Words.{words, same_words}
use Rattle.rules.specs.Assertion.{Member, Members}
use Rattle.rules.specs.Sets.{listed, without}
use Rattle.rules.specs.Tests.{same_antecedent, same_consequent, same_member, stands, within, same}
use Rattle.layout.specs.Nodes.{AllInRange}
use Rattle.matching.specs.Matching.{numbers, same_numbers}
use Rattle.matching.proofs.Numbers.{numbers-tell}
use Rattle.matching.proofs.SameNumbers.{numbers-same}
use Rattle.sets.specs.Items.{Halves, same_halves, same_written_halves}
use Rattle.sets.specs.Lists.{stands_in, within_all, same_all, listed_in, without_all}

abbrev pub halves_of : Member → Halves
halves_of m = record { left = m.antecedent; right = numbers (words m.consequent) }

unfoldable pub members_numbers : Members → List Halves
members_numbers [] = []
members_numbers (m ∷ p) = halves_of m ∷ members_numbers p

abbrev pub FitsMember : Member → Type 0
FitsMember m = AllInRange (words m.consequent)

abbrev pub FitsAll : Members → Type 0
FitsAll [] = Unit {0}
FitsAll (m ∷ p) = FitsMember m × FitsAll p

pub fits-all_append : (p q : Members) → FitsAll p → FitsAll q → FitsAll (p ++ q)
fits-all_append [] q f g = g
fits-all_append (m ∷ p) q f g = (f.0, fits-all_append p q f.1 g)

pub members-append : (p q : Members) → members_numbers (p ++ q) ≡ members_numbers p ++ members_numbers q
unfolding members_numbers
members-append [] q = refl
members-append (m ∷ p) q = ap (λ l. halves_of m ∷ l) (members-append p q)

consequent-numbers : (m n : Member) → FitsMember m → FitsMember n →
    same_consequent m.consequent n.consequent ≡ same_numbers (halves_of m).right (halves_of n).right
consequent-numbers m n f g =
    let c = words m.consequent in
    let d = words n.consequent in
    sym (numbers-same c d (numbers-tell c d f g))

member-numbers : (m n : Member) → FitsMember m → FitsMember n → same_member m n ≡ same_halves (halves_of m) (halves_of n)
unfolding same_halves
member-numbers m n f g =
    ap (λ b. same_antecedent m.antecedent n.antecedent && b) (consequent-numbers m n f g)

pub stands-numbers : (m : Member) (p : Members) → FitsMember m → FitsAll p →
    stands m p ≡ stands_in (halves_of m) (members_numbers p)
unfolding stands_in members_numbers
stands-numbers m [] f g = refl
stands-numbers m (n ∷ p) f g = ap₂ ◌||◌ (member-numbers m n f g.0) (stands-numbers m p f g.1)

pub within-numbers : (p q : Members) → FitsAll p → FitsAll q →
    within p q ≡ within_all (members_numbers p) (members_numbers q)
unfolding within_all members_numbers
within-numbers [] q f g = refl
within-numbers (m ∷ p) q f g = ap₂ ◌&&◌ (stands-numbers m q f.0 g) (within-numbers p q f.1 g)

pub same-numbers : (p q : Members) → FitsAll p → FitsAll q → same p q ≡ same_all (members_numbers p) (members_numbers q)
same-numbers p q f g = ap₂ ◌&&◌ (within-numbers p q f g) (within-numbers q p g f)

pub listed-numbers : (m : Member) (q : Members) → FitsMember m → FitsAll q →
    listed m q ≡ listed_in (halves_of m) (members_numbers q)
unfolding listed_in members_numbers same_written_halves
listed-numbers m [] f g = refl
listed-numbers m (n ∷ q) f g =
    ap₂ (λ b c. (same_words (words m.antecedent) (words n.antecedent) && b) || c) (consequent-numbers m n f g.0)
    (listed-numbers m q f g.1)

pub without-numbers : (p q : Members) → FitsAll p → FitsAll q →
    members_numbers (without p q) ≡ without_all (members_numbers p) (members_numbers q)
unfolding members_numbers without_all
without-numbers [] q f g = refl
without-numbers (m ∷ p) q f g =
    choose (listed m q)
    ∙ ap₂ (λ b l. cond b l (halves_of m ∷ l)) (listed-numbers m q f.0 g) (without-numbers p q f.1 g)
  where
    choose : (b : Bool) → members_numbers (cond b (without p q) (m ∷ without p q)) ≡
        cond b (members_numbers (without p q)) (halves_of m ∷ members_numbers (without p q))
    choose true = refl
    choose false = refl

pub without-fits : (p q : Members) → FitsAll p → FitsAll (without p q)
without-fits [] q f = tt
without-fits (m ∷ p) q f = choose (listed m q) (without-fits p q f.1)
  where
    choose : (b : Bool) → FitsAll (without p q) → FitsAll (cond b (without p q) (m ∷ without p q))
    choose true g = g
    choose false g = (f.0, g)
