-- The conditions of the rules on sets: each is a written set compared with piles.
-- Assumes nothing.
--     can-same, set_does                     a written set and piles, by trees
--     can-written .. rule-union              the rules that compare sets
--     find_test, rule-test                   rule 13
use mathlib.Core.Path.{◌≡◌, sym, ap, ap₂, ◌∙◌}
use mathlib.Core.Bool.{Bool, true}
use mathlib.Core.List.{List, [], ◌∷◌, ◌++◌, append-nil}
use Prim.Native.Nat.{ℕ, ◌+◌}
use Rattle.language.specs.Syntax.{truth, neg}
use Rattle.rules.specs.Assertion.{member, one}
use Rattle.rules.specs.Replace.{replacement, replace_members}
use Rattle.rules.specs.Sets.{under}
use Rattle.rules.specs.Tests.{same}
use Rattle.ends.specs.Ends.{EndsOf}
use Rattle.matching.specs.declared.cursor.Put.{Put}
use Rattle.compare.proofs.Halves.{is_true, is-verbatim}
use Rattle.sets.specs.Items.{certain_item, item_halves}
use Rattle.sets.specs.Lists.{written, stands_in, same_all}
use Rattle.sets.specs.Standing.{MembersAt, CanFind}
use Rattle.sets.specs.Piles.{count_at, written_set, piles_numbers, CanSamePiles}
use Rattle.sets.specs.Trees.{HasSet, CanSameSet, SameSet}
use Rattle.sets.specs.Trees.{stands_one, stands-written, stands-under, stands-unless, stands-replaced}
use Rattle.sets.specs.Rules.{CanTwo, SameWritten, CanReplaced, SameReplaced, CanUnder, SameUnder}
use Rattle.sets.specs.Rules.{CanBranches, SameBranches, CanThree, SameUnion}
use Rattle.sets.specs.Rules.{CanTest, TestStands}
use Rattle.sets.specs.declared.item.View.TheVariants.{AsWritten, Under, Unless, Replaced}
use Rattle.sets.specs.declared.pile.Pile.{Pile}
use Rattle.sets.specs.declared.pile.Pile.TheVariants.{One, Set}
use Rattle.sets.proofs.Tests.{stands-numbers}
use Rattle.sets.proofs.Items.{certain_at}
use Rattle.sets.proofs.Piles.{set-members}
use Rattle.sets.proofs.Trees.{item-shows, set-place, written_is, piles_place, same-trees}

module _ {file ends : List ℕ} where
  pub can-same : {p : ℕ} {piles : List Pile} → CanSameSet file ends p piles → CanSamePiles file ends p piles
  can-same {piles = piles} c = record {
    ends_of = c.ends_of;
    set = set-place c.ends_of c.set.there;
    piles_at = piles_place c.ends_of piles c.piles_stand.trees c.piles_stand.stand;
  }

  pub set_does : {p : ℕ} {piles : List Pile} {r : Bool} → EndsOf file ends →
      r ≡ same_all (written_set file ends p) (piles_numbers file ends piles) → SameSet file ends p piles r
  set_does {piles = piles} o e = record { does = λ s xs g h. e ∙ same-trees o piles s xs g h }

  pub can-written : {p q : ℕ} → CanTwo file ends p q → CanSameSet file ends p (Set q AsWritten ∷ [])
  can-written c = record {
    ends_of = c.ends_of;
    set = c.first-set;
    piles_stand = record { trees = _ ∷ []; stand = (stands-written c.second-set.there, tt) };
  }

  pub can-replaced : {p q : ℕ} {put : Put} → CanReplaced file ends p q put → CanSameSet file ends p (Set q (Replaced put) ∷ [])
  can-replaced c = record {
    ends_of = c.ends_of;
    set = c.first-set;
    piles_stand = record { trees = _ ∷ []; stand = (stands-replaced c.second-set.there c.right_side.stands, tt) };
  }

  pub can-under : {p q b : ℕ} → CanUnder file ends p q b → CanSameSet file ends p (Set q (Under b) ∷ [])
  can-under c = record {
    ends_of = c.ends_of;
    set = c.first-set;
    piles_stand = record { trees = _ ∷ []; stand = (stands-under c.second-set.there c.test.there, tt) };
  }

  pub can-branches : {p s t b f : ℕ} → CanBranches file ends p s t b f →
      CanSameSet file ends p (Set s (Under b) ∷ Set t (Unless b) ∷ One f b ∷ [])
  can-branches c = record {
    ends_of = c.ends_of;
    set = c.first-set;
    piles_stand =
        record {
          trees = _ ∷ _ ∷ _ ∷ [];
          stand = (
            stands-under c.then-set.there c.test.there,
            (stands-unless c.else_set.there c.test.there, (stands_one c.before.there c.test.there, tt)),
          );
        };
  }

  pub can-union : {p s t : ℕ} → CanThree file ends p s t → CanSameSet file ends p (Set s AsWritten ∷ Set t AsWritten ∷ [])
  can-union c = record {
    ends_of = c.ends_of;
    set = c.first-set;
    piles_stand =
        record { trees = _ ∷ _ ∷ []; stand = (stands-written c.second-set.there, (stands-written c.third-set.there, tt)) };
  }

module _ {file ends : List ℕ} {p : ℕ} {r : Bool} where
  pub rule-written : {q : ℕ} → SameSet file ends p (Set q AsWritten ∷ []) r → SameWritten file ends p q r
  rule-written s = record {
    does = λ x y g h. s.does x (y ∷ []) g (stands-written h, tt) ∙ ap (same x) (append-nil y);
  }

  pub rule-replaced : {q : ℕ} {put : Put} → SameSet file ends p (Set q (Replaced put) ∷ []) r → SameReplaced file ends p q put r
  rule-replaced s = record {
    does = λ x y a g h t.
        let z = replace_members y (replacement a) in
        s.does x (z ∷ []) g (stands-replaced h t, tt) ∙ ap (same x) (append-nil z);
  }

  pub rule-under : {q b : ℕ} → SameSet file ends p (Set q (Under b) ∷ []) r → SameUnder file ends p q b r
  rule-under s = record {
    does = λ x y β g h t. s.does x (under y β ∷ []) g (stands-under h t, tt) ∙ ap (same x) (append-nil (under y β));
  }

  pub rule-branches : {s t b f : ℕ} → SameSet file ends p (Set s (Under b) ∷ Set t (Unless b) ∷ One f b ∷ []) r →
      SameBranches file ends p s t b f r
  rule-branches e = record {
    does = λ x y z β φ₀ g h i j k.
        e.does x (under y β ∷ under z (neg β) ∷ one φ₀ β ∷ []) g
        (stands-under h j, (stands-unless i j, (stands_one k j, tt)))
        ∙ ap (λ l. same x (under y β ++ (under z (neg β) ++ l))) (append-nil (one φ₀ β));
  }

  pub rule-union : {s t : ℕ} → SameSet file ends p (Set s AsWritten ∷ Set t AsWritten ∷ []) r → SameUnion file ends p s t r
  rule-union e = record {
    does = λ x y z g h i.
        e.does x (y ∷ z ∷ []) g (stands-written h, (stands-written i, tt)) ∙ ap (λ l. same x (y ++ l)) (append-nil z);
  }

module _ {file ends : List ℕ} where
  pub set-counted : {q k : ℕ} → EndsOf file ends → HasSet file ends q → k ≡ count_at file q → MembersAt file ends k (q + 1)
  set-counted o h e = set-members (set-place o h.there) e

  -- rule 13: the word of true is 9:1
  pub find_test : {p b k : ℕ} → CanTest file ends p b → k ≡ count_at file p → CanFind file ends k (p + 1) (certain_item b)
  find_test c e = record {
    ends_of = c.ends_of;
    members = set-counted c.ends_of c.first-set e;
    item-at = certain_at c.ends_of (record { sort = _; expression = c.test });
  }

  pub rule-test : {p b k : ℕ} {r : Bool} → EndsOf file ends → k ≡ count_at file p →
      r ≡ stands_in (item_halves file ends (certain_item b)) (written file ends k (p + 1)) → TestStands file ends p b r
  rule-test {p} {b} o e h = record {
    does = λ x β g t.
        let a = written_is o g in
        let c = item-shows {item = certain_item b} is_true (is-verbatim t) in
        h
        ∙ ap₂ stands_in c.0 (ap (λ n. written file ends n (p + 1)) e ∙ a.numbers-are)
        ∙ sym (stands-numbers (member (truth true) β) x c.1 a.fit_all);
  }
