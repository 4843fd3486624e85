-- Sets as lists of their members' halves, compared as document 01 compares sets ("Language", "Rules"; document 02, request [2]).
-- Working: `stands-numbers`, `within-numbers`, `same_numbers`, `listed-numbers` and `without-numbers` of proofs/Tests say that these are
-- the tests of rules/specs/Tests, `seen_all` and `written_is` of proofs/Trees that they are of the sets that stand
-- there. Assumes nothing.
--     seen_all, written               the members that stand one after the other, seen as a view says; as they stand
--     stands_in, within_all, same_all   one of a list; each of a list is one of another; two lists with the same elements
--     listed_in, without_all           one of a list, by words; a list without the elements that are so listed in another (rule 17)
use Rattle.std.specs.Prelude.{Bool, true, false, ◌&&◌, ◌||◌, cond, List, [], ◌∷◌, ℕ, zero, suc}
use Rattle.sets.specs.Items.{past_member, Halves, seen_as, same_halves, same_written_halves}
use Rattle.sets.specs.declared.item.View.{View}
use Rattle.sets.specs.declared.item.View.TheVariants.{AsWritten}

module _ (file ends : List ℕ) where
  unfoldable pub seen_all : View → ℕ → ℕ → List Halves
  seen_all view zero at = []
  seen_all view (suc n) at = seen_as file ends view at ∷ seen_all view n (past_member ends at)

  abbrev pub written : ℕ → ℕ → List Halves
  written k at = seen_all AsWritten k at

unfoldable pub stands_in : Halves → List Halves → Bool
stands_in x [] = false
stands_in x (y ∷ l) = same_halves x y || stands_in x l

unfoldable pub within_all : List Halves → List Halves → Bool
within_all [] l = true
within_all (x ∷ k) l = stands_in x l && within_all k l

abbrev pub same_all : List Halves → List Halves → Bool
same_all k l = within_all k l && within_all l k

unfoldable pub listed_in : Halves → List Halves → Bool
listed_in x [] = false
listed_in x (y ∷ l) = same_written_halves x y || listed_in x l

unfoldable pub without_all : List Halves → List Halves → List Halves
without_all [] l = []
without_all (x ∷ k) l = cond (listed_in x l) (without_all k l) (x ∷ without_all k l)
