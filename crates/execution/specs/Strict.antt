-- The order before request [1] of document 02, in which the right side of and and or was worked out whatever the left side's value. The
-- runner is not defined by it: claims/specs/AsBefore says by it what the request left as it was.
-- Trusted. Assumes nothing.
--     strict_refusal_of, strict_step_refusal, strict_refusal    as in Refusal, but for and and or
--     BothValued, SidesValued    both sides of the and or the or in a test have a value; in what a step tests
--     Valued                     they have at every step up to a count that the budget allows
--     KeptAnswer                 an answer that the request leaves as it was
use Rattle.std.specs.Prelude.{◌≡◌, [], ◌∷◌, ℕ, ◌<◌, ◌≤◌, ltb}
use Rattle.std.proofs.Math.Option.{Option, none}
use Rattle.language.specs.Syntax.{Boolean, Expr, compare, truth, and, or, neg}
use Rattle.language.specs.Store.{Store, value}
use Rattle.layout.specs.File.{File}
use Rattle.execution.specs.Due.{Step, skips, calls, asserts, tests, gives}
use Rattle.execution.specs.Refusal.{unless, first, refusal_of, step_refusal}
use Rattle.execution.specs.Ran.{Answer, done, refused}
use Rattle.execution.specs.Executes.{DueIn}

unfoldable pub strict_refusal_of : Expr Boolean → Store → Option ℕ
strict_refusal_of (compare r a b) s = refusal_of (compare r a b) s
strict_refusal_of (truth t) s = refusal_of (truth t) s
strict_refusal_of (and b c) s = first (strict_refusal_of b s ∷ strict_refusal_of c s ∷ [])
strict_refusal_of (or b c) s = first (strict_refusal_of b s ∷ strict_refusal_of c s ∷ [])
strict_refusal_of (neg b) s = strict_refusal_of b s

unfoldable pub strict_step_refusal : Step → Store → Option ℕ
strict_step_refusal skips s = step_refusal skips s
strict_step_refusal calls s = step_refusal calls s
strict_step_refusal (asserts b) s = first (strict_refusal_of b s ∷ unless (value b s) 12 ∷ [])
strict_step_refusal (tests b) s = strict_refusal_of b s
strict_step_refusal (gives a) s = step_refusal (gives a) s

abbrev pub strict_refusal : ℕ → ℕ → Step → Store → Option ℕ
strict_refusal budget n d s = first (unless (ltb n budget) 13 ∷ strict_step_refusal d s ∷ [])

-- a side has a value, and so has every side inside it, where this order refuses nothing in it
unfoldable pub BothValued : Expr Boolean → Store → Type 0
BothValued (compare r a b) s = Unit {0}
BothValued (truth t) s = Unit {0}
BothValued (and b c) s = (strict_refusal_of b s ≡ none) × (strict_refusal_of c s ≡ none)
BothValued (or b c) s = (strict_refusal_of b s ≡ none) × (strict_refusal_of c s ≡ none)
BothValued (neg b) s = BothValued b s

unfoldable pub SidesValued : Step → Store → Type 0
SidesValued skips s = Unit {0}
SidesValued calls s = Unit {0}
SidesValued (asserts b) s = BothValued b s
SidesValued (tests b) s = BothValued b s
SidesValued (gives a) s = Unit {0}

pub record Valued (f : File) (s : Store) (budget n : ℕ) : Type 0 where
  pub valued : {k : ℕ} {d : Step} {p : ℕ} {t : Store} → DueIn f s k d p t → k ≤ n → k < budget → SidesValued d t

-- an end, 12 and 13; and 14 and 15 where both sides have a value at every step
pub data KeptAnswer (f : File) (s : Store) (budget : ℕ) : Answer → ℕ → Type 0 where
  kept-end : {n : ℕ} → KeptAnswer f s budget done n
  kept-number : {k p n : ℕ} → k < 14 → KeptAnswer f s budget (refused k p) n
  kept-valued : {k p n : ℕ} → Valued f s budget n → KeptAnswer f s budget (refused k p) n
