-- `implication::comparisons::Comparisons::add` meets its contract: one more place after those before. Assumes nothing.
use mathlib.Core.Path.{◌≡◌, sym, ap, ◌∙◌}
use mathlib.Core.List.{List, [], ◌∷◌, ◌++◌}
use Prim.Native.Nat.{ℕ, ◌≤◌}
use native.Mathlib.Numerals.{add-one}
use native.Mathlib.Omega.{arith}
use lib.ListN.{length, take, set, length-set}
use lib.Seq.{take-suc-set}
use Rattle.std.proofs.lemmas.List.{length-take-le}
use Rattle.implication.proofs.comparisons.Comparisons.add.Goals as goal

-- as many are known as are counted
counted : (n : ℕ) (spans t : List (ℕ × ℕ)) → (n ≤ 16) × (length spans ≡ 16) → take n spans ≡ t → n ≡ length t
counted n spans t i e = sym (length-take-le n spans (omega arith)) ∙ ap length e

pub bounds-self-inside-number : goal.bounds-self-inside-number
bounds-self-inside-number c =
    let e = counted _ _ _ c.self.invariant c.self.view_is in
    omega (arith, c.requires.0, c.requires.1)

pub invariant_of-self : goal.invariant_of-self
invariant_of-self c =
    let e = counted _ _ _ c.self.invariant c.self.view_is in
    let n = c.if-number-limit.false in
    (omega (arith, c.requires.0, c.requires.1), length-set _ _ _ ∙ c.self.invariant.1)

pub returns : goal.returns
returns c =
    let n = c.self.inside.count in
    let e = counted _ _ _ c.self.invariant c.self.view_is in
    let f = c.if-number-limit.false in (
      λ h. f (e ∙ h),
      e,
      ap (λ (j : ℕ). take j (set c.self.inside.spans n (c.args.k, c.args.next))) (add-one n) ∙
          take-suc-set c.self.inside.spans n (c.args.k, c.args.next)
          (omega (arith, c.requires.0, c.requires.1, c.self.invariant.1)) ∙
          ap (λ (z : List (ℕ × ℕ)). z ++ (c.args.k, c.args.next) ∷ []) c.self.view_is,
    )
