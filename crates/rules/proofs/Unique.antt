-- One tree has a given spelling (document 01 compares trees by their words), for one table of procedures: the word of a call does
-- not spell its body.
-- Assumes nothing.
--     expression_of, expression_of-words    the expression that words spell
--     AnyExpr                             an expression with its sort
--     words-unique, same-tree             two expressions with one spelling are one, of one sort
--     expression-unique                   the same within a sort
--     command-unique, command-prefix      two commands with one spelling are one; before any other words
use mathlib.Core.Path.{◌≡◌, refl, sym, ◌∙◌, ap, subst}
use mathlib.Core.List.{List, [], ◌++◌, head-eq_of_cons-eq, append_cancel_left}
use Rattle.language.specs.Syntax.{Sort, Arithmetic, Boolean, Array, Expr, Command}
use Rattle.rules.specs.Words.{Word, words, command_words}
use Rattle.rules.specs.Context.{Procedure}
use Rattle.rules.specs.Resolved.{Resolved}
use Rattle.rules.proofs.Spell.{Fields, tree, tree_at, trees_of, Spells, spells_before, words_spell, command-spells}

-- the field of a sort
abbrev of_sort : (k : Sort) → Fields → Expr k
of_sort Arithmetic t = t.arithmetic
of_sort Boolean t = t.boolean
of_sort Array t = t.array

of_sort-tree : {k : Sort} (e : Expr k) → of_sort k (tree e) ≡ e
of_sort-tree {k = Arithmetic} e = refl
of_sort-tree {k = Boolean} e = refl
of_sort-tree {k = Array} e = refl

-- the expression that words spell
pub expression_of : (k : Sort) → List Word → Expr k
expression_of k l = of_sort k (tree_at (trees_of [] l []) 0)

pub expression_of-words : {k : Sort} (e : Expr k) → expression_of k (words e) ≡ e
unfolding expression_of
expression_of-words {k} e = ap (λ s. of_sort k (tree_at s 0)) ((words_spell [] e).on []) ∙ of_sort-tree e

-- of two spellings that are one, before any other words: one tree
spelled-once : (m : List Procedure) {k l : List Word} {t u : Fields} (x y : List Word) →
    Spells m k t → Spells m l u → k ++ x ≡ l ++ y → t ≡ u
spelled-once m x y g h e =
    head-eq_of_cons-eq (sym (spells_before m g x []) ∙ ap (λ l. trees_of m l []) e ∙ spells_before m h y [])

-- an expression with its sort
abbrev pub AnyExpr : Type 0
AnyExpr = (k : Sort) × Expr k

abbrev with_sort : Fields → AnyExpr
with_sort t = (t.sort, of_sort t.sort t)

with_sort-tree : {k : Sort} (e : Expr k) → ◌≡◌ {A = AnyExpr} (with_sort (tree e)) (k, e)
with_sort-tree {k = Arithmetic} e = refl
with_sort-tree {k = Boolean} e = refl
with_sort-tree {k = Array} e = refl

-- two expressions with one spelling are one, of one sort
pub words-unique : {j k : Sort} (d : Expr j) (e : Expr k) → words d ≡ words e → ◌≡◌ {A = AnyExpr} (j, d) (k, e)
words-unique d e h =
    let trees = spelled-once [] [] [] (words_spell [] d) (words_spell [] e) (ap (λ l. l ++ []) h) in
    sym (with_sort-tree d) ∙ ap with_sort trees ∙ with_sort-tree e

-- and what is said of one is said of the other
pub same-tree : (R : (k : Sort) → Expr k → Type 0) {j k : Sort} (d : Expr j) (e : Expr k) →
    words d ≡ words e → R j d → R k e
same-tree R d e h r = subst (λ (t : AnyExpr). R t.0 t.1) (words-unique d e h) r

pub expression-unique : {k : Sort} (d e : Expr k) → words d ≡ words e → d ≡ e
expression-unique {k} d e h = sym (expression_of-words d) ∙ ap (expression_of k) h ∙ expression_of-words e

module _ (m : List Procedure) where
  pub command-prefix : (c d : Command) → Resolved m c → Resolved m d → (x y : List Word) →
      command_words c ++ x ≡ command_words d ++ y → (c ≡ d) × (x ≡ y)
  command-prefix c d r q x y h =
      let trees = spelled-once m x y (command-spells m c r) (command-spells m d q) h in
      let one : c ≡ d = ap (λ (t : Fields). t.command) trees in
      (one, append_cancel_left (command_words c) x y (h ∙ ap (λ z. command_words z ++ y) (sym one)))

  pub command-unique : (c d : Command) → Resolved m c → Resolved m d → command_words c ≡ command_words d → c ≡ d
  command-unique c d r q h = (command-prefix c d r q [] [] (ap (λ l. l ++ []) h)).0
