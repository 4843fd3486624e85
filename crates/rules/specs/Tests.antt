-- The statements of `Sets` and `Implies` as tests.
-- Working: `same-decides`, `stands-decides`, `within-decides`, `unmodified-decides`, `is_empty-decides`,
-- `same_antecedent-decides` and `same_consequent-decides` of proofs/Decides and `table-decides` of proofs/Table say that each
-- test decides its statement.
--     same_antecedent, same_consequent, same_member    of `Sets`
--     stands, within, same                          of `Sets`
--     unmodified, is_empty                           no identifier is modified; there is none
--     assignment_of, every                           a list of values as an assignment; every such list
--     truth_table                                    every assignment to the listed comparisons is tried
use Rattle.std.specs.Prelude.{Bool, true, false, not, ◌&&◌, ◌||◌, cond, List, [], ◌∷◌, ℕ, zero, suc, length}
use Rattle.language.specs.Syntax.{Sort, Boolean, Expr, Command}
use Rattle.language.specs.Modifies.{Identifier, modifies}
use Rattle.rules.specs.Words.{Word, words, same_words}
use Rattle.rules.specs.Plain.{plain}
use Rattle.rules.specs.Assertion.{Member, Members}
use Rattle.rules.specs.Implies.{truth_under}

abbrev pub same_antecedent : Expr Boolean → Expr Boolean → Bool
same_antecedent φ ψ = same_words (words (plain φ)) (words (plain ψ))

abbrev pub same_consequent : {j k : Sort} → Expr j → Expr k → Bool
same_consequent d e = same_words (words d) (words e)

abbrev pub same_member : Member → Member → Bool
same_member m n = same_antecedent m.antecedent n.antecedent && same_consequent m.consequent n.consequent

abbrev pub stands : Member → Members → Bool
stands m [] = false
stands m (n ∷ p) = same_member m n || stands m p

abbrev pub within : Members → Members → Bool
within [] q = true
within (m ∷ p) q = stands m q && within p q

abbrev pub same : Members → Members → Bool
same p q = within p q && within q p

abbrev pub unmodified : List Identifier → Command → Bool
unmodified [] c = true
unmodified (x ∷ l) c = not (modifies c x) && unmodified l c

abbrev pub is_empty : {A : Type 0} → List A → Bool
is_empty [] = true
is_empty (x ∷ l) = false

-- an assignment written as a list of values for the listed comparisons
abbrev pub assignment_of : List (List Word) → List Bool → List Word → Bool
assignment_of [] v w = false
assignment_of (c ∷ l) [] w = false
assignment_of (c ∷ l) (t ∷ v) w = cond (same_words c w) t (assignment_of l v w)

-- a test of every list of n values
unfoldable pub every : ℕ → (List Bool → Bool) → Bool
every zero f = f []
every (suc n) f = every n (λ v. f (true ∷ v)) && every n (λ v. f (false ∷ v))

unfoldable pub truth_table : List (List Word) → Expr Boolean → Expr Boolean → Bool
truth_table l φ ψ = every (length l) (λ v. not (truth_under φ (assignment_of l v)) || truth_under ψ (assignment_of l v))
