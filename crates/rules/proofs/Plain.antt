-- Laws of the plain form of a boolean (document 02, request [2]): it is what is left when every "true and" and "and true" is dropped, in
-- any order, until none is left, and the other laws follow from that.
-- Assumes nothing.
--     is_true_lem                        a boolean that is the word true
--     NoneLeft, plain-leaves_none    no "true and" and no "and true" is left in a plain form
--     plain-keeps, plain-twice       where there is none nothing is dropped; a plain form is its own
--     Dropped, plain-dropped         nothing but "true and" and "and true" is dropped
--     dropped_plain, plain-only      the order makes no difference
--     plain_value                    the plain form has the boolean's value in every store
--     plain-replace                  it commutes with substitution
--     same-plain                     booleans that are compared as the same have one plain form
--     dropped_same                   where some are dropped from one, booleans are compared as the same
--     words-antecedent               booleans that are the same by words are compared as the same
use mathlib.Core.Path.{◌≡◌, refl, sym, ◌∙◌, ap, ap₂, subst}
use mathlib.Core.Bool.{Bool, true, false, not, ◌&&◌, ◌||◌, cond, false≢true, and-true}
use Rattle.language.specs.Syntax.{Boolean, Expr, compare, truth, and, or, neg}
use Rattle.language.specs.Store.{Store, value}
use Rattle.rules.specs.Words.{words}
use Rattle.rules.specs.Plain.{is_true, plain_and, plain}
use Rattle.rules.specs.Replace.{Replacement, replace}
use Rattle.rules.specs.Sets.{SamePlain, SameByWords}
use Rattle.rules.proofs.Unique.{expression-unique}

pub is_true_lem : (b : Expr Boolean) → is_true b ≡ true → b ≡ truth true
is_true_lem (compare r x y) h = absurd (false≢true h)
is_true_lem (truth t) h = ap truth h
is_true_lem (and x y) h = absurd (false≢true h)
is_true_lem (or x y) h = absurd (false≢true h)
is_true_lem (neg x) h = absurd (false≢true h)

-- ---- until none is left
abbrev pub NoneLeft : Expr Boolean → Type 0
NoneLeft (compare r a b) = Unit {0}
NoneLeft (truth t) = Unit {0}
NoneLeft (and b c) = (is_true b ≡ false) × (is_true c ≡ false) × NoneLeft b × NoneLeft c
NoneLeft (or b c) = NoneLeft b × NoneLeft c
NoneLeft (neg b) = NoneLeft b

and-leaves_none : (b c : Expr Boolean) → NoneLeft b → NoneLeft c → NoneLeft (plain_and b c)
and-leaves_none b c f g = go (is_true b) (is_true c) refl refl
  where
    go : (t u : Bool) → is_true b ≡ t → is_true c ≡ u → NoneLeft (cond t c (cond u b (and b c)))
    go true u h k = g
    go false true h k = f
    go false false h k = (h, k, f, g)

pub plain-leaves_none : (φ : Expr Boolean) → NoneLeft (plain φ)
unfolding plain
plain-leaves_none (compare r a b) = tt
plain-leaves_none (truth t) = tt
plain-leaves_none (and b c) = and-leaves_none (plain b) (plain c) (plain-leaves_none b) (plain-leaves_none c)
plain-leaves_none (or b c) = (plain-leaves_none b, plain-leaves_none c)
plain-leaves_none (neg b) = plain-leaves_none b

pub plain-keeps : (φ : Expr Boolean) → NoneLeft φ → plain φ ≡ φ
unfolding plain
plain-keeps (compare r a b) h = refl
plain-keeps (truth t) h = refl
plain-keeps (and b c) h =
    ap₂ plain_and (plain-keeps b h.2) (plain-keeps c h.3) ∙ ap₂ (λ t u. cond t c (cond u b (and b c))) h.0 h.1
plain-keeps (or b c) h = ap₂ or (plain-keeps b h.0) (plain-keeps c h.1)
plain-keeps (neg b) h = ap neg (plain-keeps b h)

pub plain-twice : (φ : Expr Boolean) → plain (plain φ) ≡ plain φ
plain-twice φ = plain-keeps (plain φ) (plain-leaves_none φ)

-- ---- what is dropped
-- `Dropped φ ψ`: ψ is left of φ when some "true and" and "and true", at any depth and one after the other, are dropped
pub data Dropped : Expr Boolean → Expr Boolean → Type 0 where
  drops_left : {b : Expr Boolean} → Dropped (and (truth true) b) b
  drops_right : {b : Expr Boolean} → Dropped (and b (truth true)) b
  drops_in_and : {b b' c c' : Expr Boolean} → Dropped b b' → Dropped c c' → Dropped (and b c) (and b' c')
  drops_in_or : {b b' c c' : Expr Boolean} → Dropped b b' → Dropped c c' → Dropped (or b c) (or b' c')
  drops_in_not : {b b' : Expr Boolean} → Dropped b b' → Dropped (neg b) (neg b')
  drops_none : {b : Expr Boolean} → Dropped b b
  drops_more : {b c d : Expr Boolean} → Dropped b c → Dropped c d → Dropped b d

and-dropped : (b c : Expr Boolean) → Dropped (and b c) (plain_and b c)
and-dropped b c = go (is_true b) (is_true c) refl refl
  where
    go : (t u : Bool) → is_true b ≡ t → is_true c ≡ u → Dropped (and b c) (cond t c (cond u b (and b c)))
    go true u h k = subst (λ x. Dropped (and x c) c) (sym (is_true_lem b h)) drops_left
    go false true h k = subst (λ x. Dropped (and b x) b) (sym (is_true_lem c k)) drops_right
    go false false h k = drops_none

pub plain-dropped : (φ : Expr Boolean) → Dropped φ (plain φ)
unfolding plain
plain-dropped (compare r a b) = drops_none
plain-dropped (truth t) = drops_none
plain-dropped (and b c) = drops_more (drops_in_and (plain-dropped b) (plain-dropped c)) (and-dropped (plain b) (plain c))
plain-dropped (or b c) = drops_in_or (plain-dropped b) (plain-dropped c)
plain-dropped (neg b) = drops_in_not (plain-dropped b)

and-true_plain : (b : Expr Boolean) → plain_and b (truth true) ≡ b
and-true_plain b = go (is_true b) refl
  where
    go : (t : Bool) → is_true b ≡ t → cond t (truth true) b ≡ b
    go true h = sym (is_true_lem b h)
    go false h = refl

pub dropped_plain : {φ ψ : Expr Boolean} → Dropped φ ψ → plain φ ≡ plain ψ
unfolding plain
dropped_plain drops_left = refl
dropped_plain (drops_right {b = b}) = and-true_plain (plain b)
dropped_plain (drops_in_and d e) = ap₂ plain_and (dropped_plain d) (dropped_plain e)
dropped_plain (drops_in_or d e) = ap₂ or (dropped_plain d) (dropped_plain e)
dropped_plain (drops_in_not d) = ap neg (dropped_plain d)
dropped_plain drops_none = refl
dropped_plain (drops_more d e) = dropped_plain d ∙ dropped_plain e

pub plain-only : {φ ψ : Expr Boolean} → Dropped φ ψ → NoneLeft ψ → plain φ ≡ ψ
plain-only {ψ = ψ} d h = dropped_plain d ∙ plain-keeps ψ h

-- ---- values
dropped_value : {φ ψ : Expr Boolean} → Dropped φ ψ → (s : Store) → value ψ s ≡ value φ s
unfolding value
dropped_value drops_left s = refl
dropped_value (drops_right {b = b}) s = sym (and-true (value b s))
dropped_value (drops_in_and d e) s = ap₂ ◌&&◌ (dropped_value d s) (dropped_value e s)
dropped_value (drops_in_or d e) s = ap₂ ◌||◌ (dropped_value d s) (dropped_value e s)
dropped_value (drops_in_not d) s = ap not (dropped_value d s)
dropped_value drops_none s = refl
dropped_value (drops_more d e) s = dropped_value e s ∙ dropped_value d s

pub plain_value : (φ : Expr Boolean) (s : Store) → value (plain φ) s ≡ value φ s
plain_value φ s = dropped_value (plain-dropped φ) s

-- ---- substitution
module _ (f : Replacement) where
  true-replace : (b : Expr Boolean) → is_true (replace b f) ≡ is_true b
  unfolding replace
  true-replace (compare r x y) = refl
  true-replace (truth t) = refl
  true-replace (and x y) = refl
  true-replace (or x y) = refl
  true-replace (neg x) = refl

  none-replace : (φ : Expr Boolean) → NoneLeft φ → NoneLeft (replace φ f)
  unfolding replace
  none-replace (compare r a b) h = tt
  none-replace (truth t) h = tt
  none-replace (and b c) h = (true-replace b ∙ h.0, true-replace c ∙ h.1, none-replace b h.2, none-replace c h.3)
  none-replace (or b c) h = (none-replace b h.0, none-replace c h.1)
  none-replace (neg b) h = none-replace b h

  dropped_replace : {φ ψ : Expr Boolean} → Dropped φ ψ → Dropped (replace φ f) (replace ψ f)
  unfolding replace
  dropped_replace drops_left = drops_left
  dropped_replace drops_right = drops_right
  dropped_replace (drops_in_and d e) = drops_in_and (dropped_replace d) (dropped_replace e)
  dropped_replace (drops_in_or d e) = drops_in_or (dropped_replace d) (dropped_replace e)
  dropped_replace (drops_in_not d) = drops_in_not (dropped_replace d)
  dropped_replace drops_none = drops_none
  dropped_replace (drops_more d e) = drops_more (dropped_replace d) (dropped_replace e)

  pub plain-replace : (φ : Expr Boolean) → plain (replace φ f) ≡ replace (plain φ) f
  plain-replace φ = plain-only (dropped_replace (plain-dropped φ)) (none-replace (plain φ) (plain-leaves_none φ))

-- ---- sameness
pub same-plain : (φ ψ : Expr Boolean) → SamePlain φ ψ → plain φ ≡ plain ψ
same-plain φ ψ h = expression-unique (plain φ) (plain ψ) h

pub dropped_same : {φ ψ : Expr Boolean} → Dropped φ ψ → SamePlain φ ψ
dropped_same d = ap words (dropped_plain d)

pub words-antecedent : (φ ψ : Expr Boolean) → SameByWords φ ψ → SamePlain φ ψ
words-antecedent φ ψ h = ap (λ φ. words (plain φ)) (expression-unique φ ψ h)
