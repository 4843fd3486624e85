-- The halves that are compared are those of the trees that stand there.
-- Assumes nothing.
--     set-count, set-written, set-place      a written set: its count, its members at their places
--     Shows, item-shows, written-shows .. seen_all_lem
--                                            members as a view shows them
--     PileIs, pile_is                        a pile is a set that a rule makes
--     piles_place                            piles that are sets stand there
--     same-trees                             a written set is the same as piles
use mathlib.Core.Path.{◌≡◌, refl, sym, ap, ap₂, subst, ◌∙◌}
use mathlib.Core.List.{List, [], ◌∷◌, ◌++◌, map}
use Prim.Native.Nat.{ℕ, ◌+◌}
use native.Mathlib.Omega.{arith}
use lib.ListN.{length}
use Rattle.language.specs.Syntax.{Sort, Boolean, Expr, and, neg, Assignment}
use Rattle.rules.specs.Assertion.{Member, Members, member}
use Rattle.rules.specs.Context.{Context}
use Rattle.rules.specs.Replace.{Replacement, replacement, replace, replace_members}
use Rattle.rules.specs.Sets.{under}
use Rattle.rules.specs.Tests.{same}
use Rattle.layout.specs.Nodes.{set_node, halves}
use Rattle.ends.specs.Ends.{EndsOf}
use Rattle.ends.specs.Places.{end_at, NodeAt, WrittenAt, NodesAt}
use Rattle.ends.proofs.Places.{parts_at, node_head, node_inside}
use Rattle.matching.specs.declared.cursor.Put.{Put}
use Rattle.matching.proofs.Operands.{written-any}
use Rattle.compare.specs.Trees.{PutStands}
use Rattle.compare.proofs.Trees.{put-replaces}
use Rattle.compare.proofs.Halves.{AntecedentIs, is-written, is-and, is-and_not, is-replaced, ConsequentIs, is-verbatim, is-exchanged}
use Rattle.sets.specs.Items.{past_member, Halves, seen_item, pair_item, item_halves, seen_as}
use Rattle.sets.specs.Lists.{seen_all, same_all, without_all}
use Rattle.sets.specs.Standing.{MemberAt, MembersAt, ViewAt}
use Rattle.sets.specs.Piles.{count_at, written_set, pile_numbers, piles_numbers, AnySetAt, PileAt, PilesAt}
use Rattle.sets.specs.Trees.{MemberWritten, MembersWritten, PileStands, PilesStand, together}
use Rattle.sets.specs.Trees.{stands_one, stands-written, stands-under, stands-unless, stands-replaced}
use Rattle.sets.specs.Trees.{stands-without}
use Rattle.sets.specs.declared.item.View.{View}
use Rattle.sets.specs.declared.item.View.TheVariants.{AsWritten, Under, Unless, Replaced}
use Rattle.sets.specs.declared.item.FormedMember.{FormedMember}
use Rattle.sets.specs.declared.pile.Pile.{Pile}
use Rattle.sets.proofs.Equal as equal
use Rattle.sets.proofs.Tests.{halves_of, members_numbers, FitsMember, FitsAll, fits-all_append, members-append}
use Rattle.sets.proofs.Tests.{same-numbers, without-numbers, without-fits}

members-to : (file ends : List ℕ) (l : Members) (at p : ℕ) → NodesAt file ends (halves l) at p → MembersWritten file ends l at
members-to file ends [] at p y = tt
members-to file ends (m ∷ l) at p y = (
  record { antecedent-at = y.0; consequent-at = y.1.0 },
  members-to file ends l (past_member ends at) p y.1.1,
)

module _ {file ends : List ℕ} where
  pub set-count : {Γ : Context} {p : Members} {at : ℕ} → NodeAt file ends (set_node Γ p) at → count_at file at ≡ length p
  set-count x = (node_head x).content

  pub set-written : {Γ : Context} {p : Members} {at : ℕ} → EndsOf file ends → NodeAt file ends (set_node Γ p) at →
      MembersWritten file ends p (at + 1)
  set-written {p = p} {at} o x = members-to file ends p (at + 1) (end_at ends at) (parts_at o x)

  member-place : {m : Member} {at : ℕ} → MemberWritten file ends m at → MemberAt file ends at
  member-place x =
      record { antecedent = record { tree = _; there = x.antecedent-at }; consequent = written-any x.consequent-at }

pub members-place : (file ends : List ℕ) (p : Members) (at : ℕ) → MembersWritten file ends p at →
    MembersAt file ends (length p) at
unfolding MembersAt
members-place file ends [] at m = tt
members-place file ends (x ∷ p) at m = (member-place m.0, members-place file ends p (past_member ends at) m.1)

pub set-place : {file ends : List ℕ} {Γ : Context} {p : Members} {at : ℕ} → EndsOf file ends →
    NodeAt file ends (set_node Γ p) at → AnySetAt file ends at
set-place {file} {ends} {p = p} {at} o x =
    let i = node_inside x in
    let s = i.start in
    let w = i.within in
    record {
      inside = omega arith;
      members =
          subst (λ k. MembersAt file ends k (at + 1)) (sym (set-count x)) (members-place file ends p (at + 1) (set-written o x));
    }

-- a member as a view shows it is the member that g makes
pub record Shows (file ends : List ℕ) (view : View) (g : Member → Member) : Type 0 where
  pub shows : (m : Member) (at : ℕ) → MemberWritten file ends m at →
      (seen_as file ends view at ≡ halves_of (g m)) × FitsMember (g m)

pub record AllShown (file ends : List ℕ) (l : List Halves) (p : Members) : Type 0 where
  pub numbers-are : l ≡ members_numbers p
  pub fit_all : FitsAll p

-- an item, half by half
pub item-shows : {file ends : List ℕ} {item : FormedMember} {φ : Expr Boolean} {k : Sort} {e : Expr k} →
    AntecedentIs file item.antecedent φ → ConsequentIs file ends item.consequent e →
    (item_halves file ends item ≡ halves_of (member φ e)) × FitsMember (member φ e)
unfolding item_halves
item-shows x y = (
  ap₂ equal.halves x.tree_is y.numbers-are,
  y.fits,
)

module _ {file ends : List ℕ} {view : View} {g : Member → Member} (s : Shows file ends view g) where
  seen-each : (p : Members) (at : ℕ) → MembersWritten file ends p at →
      AllShown file ends (seen_all file ends view (length p) at) (map g p)
  unfolding seen_all members_numbers
  seen-each [] at m = record { numbers-are = refl; fit_all = tt }
  seen-each (x ∷ p) at m =
      let h = s.shows x at m.0 in
      let r = seen-each p (past_member ends at) m.1 in
      record { numbers-are = ap₂ ◌∷◌ h.0 r.numbers-are; fit_all = (h.1, r.fit_all) }

  pub seen_all_lem : {Γ : Context} {p : Members} {at : ℕ} → EndsOf file ends → NodeAt file ends (set_node Γ p) at →
      AllShown file ends (seen_all file ends view (count_at file at) (at + 1)) (map g p)
  seen_all_lem {p = p} {at} o x =
      let r = seen-each p (at + 1) (set-written o x) in
      record {
        numbers-are = ap (λ k. seen_all file ends view k (at + 1)) (set-count x) ∙ r.numbers-are;
        fit_all = r.fit_all;
      }

module _ {file ends : List ℕ} where
  pub written-shows : Shows file ends AsWritten (λ m. m)
  unfolding seen_item
  written-shows = record {
    shows = λ m at x. item-shows (is-written x.antecedent-at) (is-verbatim x.consequent-at);
  }

  module _ {β : Expr Boolean} {b : ℕ} (t : WrittenAt file ends β b) where
    abbrev guarded : Expr Boolean → Member → Member
    guarded γ m = member (and m.antecedent γ) m.consequent

    pub under-shows : Shows file ends (Under b) (guarded β)
    unfolding seen_item
    under-shows = record {
      shows = λ m at x.
          item-shows (is-and x.antecedent-at (t)) (is-verbatim x.consequent-at);
    }

    pub unless-shows : Shows file ends (Unless b) (guarded (neg β))
    unfolding seen_item
    unless-shows = record {
      shows = λ m at x.
          item-shows (is-and_not x.antecedent-at (t)) (is-verbatim x.consequent-at);
    }

  pub replaced-shows : {put : Put} {a : Assignment} → PutStands file ends put a →
      Shows file ends (Replaced put) (λ m. member (replace m.antecedent (replacement a)) (replace m.consequent (replacement a)))
  unfolding seen_item
  replaced-shows s = record {
    shows = λ m at x.
        item-shows (is-replaced s x.antecedent-at) (is-exchanged (put-replaces s) x.consequent-at);
  }

-- what a pile names stands there, and its members' halves are those of a set
pub record PileIs (file ends : List ℕ) (pile : Pile) (x : Members) : Type 0 where
  pub pile_place : PileAt file ends pile
  pub shown : AllShown file ends (pile_numbers file ends pile) x

-- the sets of the rules, member by member
map_same : (p : Members) → map (λ m. m) p ≡ p
map_same [] = refl
map_same (m ∷ p) = ap (λ l. m ∷ l) (map_same p)

map-under : (p : Members) (β : Expr Boolean) → map (λ m. member (and m.antecedent β) m.consequent) p ≡ under p β
map-under [] β = refl
map-under (m ∷ p) β = ap (λ l. member (and m.antecedent β) m.consequent ∷ l) (map-under p β)

map-replaced : (p : Members) (f : Replacement) →
    map (λ m. member (replace m.antecedent f) (replace m.consequent f)) p ≡ replace_members p f
map-replaced [] f = refl
map-replaced (m ∷ p) f = ap (λ l. member (replace m.antecedent f) (replace m.consequent f) ∷ l) (map-replaced p f)

module _ {file ends : List ℕ} (ends_of : EndsOf file ends) where
  pub written_is : {Γ : Context} {p : Members} {at : ℕ} → NodeAt file ends (set_node Γ p) at →
      AllShown file ends (written_set file ends at) p
  written_is {p = p} {at} s =
      subst (AllShown file ends (written_set file ends at)) (map_same p) (seen_all_lem written-shows ends_of s)

  pub pile_is : {pile : Pile} {x : Members} → PileStands file ends pile x → PileIs file ends pile x
  unfolding pile_numbers PileAt ViewAt members_numbers
  pile_is (stands_one a c) =
      let h = item-shows {item = pair_item _ _} (is-written a) (is-verbatim c) in
      record {
        pile_place = (record { tree = _; there = a }, written-any c);
        shown = record { numbers-are = ap (λ l. l ∷ []) h.0; fit_all = (h.1, tt) };
      }
  pile_is (stands-written s) = record { pile_place = (set-place ends_of s, tt); shown = written_is s }
  pile_is (stands-under {q = q} {β} x c) = record {
    pile_place = (set-place ends_of x, record { tree = _; there = c });
    shown = subst (AllShown file ends _) (map-under q β) (seen_all_lem (under-shows c) ends_of x);
  }
  pile_is (stands-unless {q = q} {β} x c) = record {
    pile_place = (set-place ends_of x, record { tree = _; there = c });
    shown = subst (AllShown file ends _) (map-under q (neg β)) (seen_all_lem (unless-shows c) ends_of x);
  }
  pile_is (stands-replaced {q = q} {a} x t) = record {
    pile_place = (set-place ends_of x, record { tree = _; stands = t });
    shown = subst (AllShown file ends _) (map-replaced q (replacement a)) (seen_all_lem (replaced-shows t) ends_of x);
  }
  pile_is (stands-without {t = t} {s = s} u v) =
      let x = written_is u in
      let y = written_is v in
      record {
        pile_place = (set-place ends_of u, set-place ends_of v);
        shown =
            record {
              numbers-are = ap₂ without_all x.numbers-are y.numbers-are ∙ sym (without-numbers t s x.fit_all y.fit_all);
              fit_all = without-fits t s x.fit_all;
            };
      }

  piles_are : (piles : List Pile) (xs : List Members) → PilesStand file ends piles xs →
      AllShown file ends (piles_numbers file ends piles) (together xs)
  unfolding piles_numbers members_numbers
  piles_are [] [] h = record { numbers-are = refl; fit_all = tt }
  piles_are [] (x ∷ xs) h = absurd h
  piles_are (pile ∷ piles) [] h = absurd h
  piles_are (pile ∷ piles) (x ∷ xs) h =
      let a = (pile_is h.0).shown in
      let b = piles_are piles xs h.1 in
      record {
        numbers-are = ap₂ ◌++◌ a.numbers-are b.numbers-are ∙ sym (members-append x (together xs));
        fit_all = fits-all_append x (together xs) a.fit_all b.fit_all;
      }

  pub piles_place : (piles : List Pile) (xs : List Members) → PilesStand file ends piles xs → PilesAt file ends piles
  unfolding PilesAt
  piles_place [] xs h = tt
  piles_place (pile ∷ piles) [] h = absurd h
  piles_place (pile ∷ piles) (x ∷ xs) h = ((pile_is h.0).pile_place, piles_place piles xs h.1)

  -- a written set and piles
  pub same-trees : {Γ : Context} {p : ℕ} (piles : List Pile) (s : Members) (xs : List Members) → NodeAt file ends (set_node Γ s) p →
      PilesStand file ends piles xs →
      same_all (written_set file ends p) (piles_numbers file ends piles) ≡ same s (together xs)
  same-trees piles s xs g h =
      let w = written_is g in
      let a = piles_are piles xs h in
      ap₂ same_all w.numbers-are a.numbers-are ∙ sym (same-numbers s (together xs) w.fit_all a.fit_all)
