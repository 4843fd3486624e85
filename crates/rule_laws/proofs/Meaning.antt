-- The words of what a `for` means (document 01, "Language"; rules 14 and 30).
-- Assumes nothing.
--     parts-matched    the words before the body, the body's, and those after it
--     meaning-at       the test of rules 14 and 30
use mathlib.Core.Path.{◌≡◌, refl, sym, ap, ap₂, ◌∙◌}
use mathlib.Core.Bool.{Bool}
use mathlib.Core.List.{List, [], ◌∷◌, ◌++◌}
use Prim.Native.Nat.{ℕ, ◌+◌, ◌/◌, ◌%◌, ◌≤◌}
use native.Mathlib.Omega.{arith}
use lib.IntN.{pos}
use Rattle.std.specs.Prelude.{Result, Ok}
use Rattle.language.specs.Syntax.{Command}
use Rattle.language.specs.Runs.{meaning}
use Rattle.rules.specs.Context.{Context}
use Rattle.rules.specs.Words.{Word, word, words, command_words}
use Rattle.layout.specs.Bytes.{payload_at}
use Rattle.layout.specs.Nodes.{command_node, InRange, AllInRange}
use Rattle.layout.proofs.Words.{for-first, for-second}
use Rattle.layout.proofs.Nodes.{in_range-append, node_range}
use Rattle.ends.specs.Ends.{EndsOf}
use Rattle.matching.specs.Matching.{numbers, matched, came}
use Rattle.ends.specs.Places.{end_at}
use Rattle.matching.specs.Places.{part}
use Rattle.matching.proofs.Matching.{matched-append}
use Rattle.matching.proofs.Numbers.{stands-between, numbers-append}
use Rattle.rule_laws.specs.Sameness.{start_numbers, next_numbers, meaning_numbers, MeaningAt}
use Rattle.rule_laws.proofs.Commands.{ForParts, parts_of-for}
use Rattle.rule_laws.proofs.Passing.{same-command}

-- the words before the body, the body's, and those after it, one after the other
module _ (file ends : List ℕ) (from : Result ℕ ℕ) (c : ℕ) where
  pub parts-matched : {m n r : Result ℕ ℕ} → m ≡ matched file from (start_numbers (payload_at file c % 32) (payload_at file c / 32)) →
      n ≡ matched file m (part file ends (c + 1)) → r ≡ matched file n (next_numbers (payload_at file c % 32)) →
      r ≡ matched file from (meaning_numbers file ends c)
  unfolding meaning_numbers
  parts-matched {m} s b e =
      e
      ∙ ap (λ n. matched file n (next_numbers (payload_at file c % 32))) b
      ∙ sym (matched-append file m (part file ends (c + 1)) (next_numbers (payload_at file c % 32)))
      ∙ ap (λ n. matched file n (part file ends (c + 1) ++ next_numbers (payload_at file c % 32))) s
      ∙ sym (matched-append file from (start_numbers (payload_at file c % 32) (payload_at file c / 32)) _)

-- 25:0 27:q 1:1 30:0 8:2 2:q 2:m 25:0
abbrev start_words : ℕ → ℕ → List Word
start_words q m =
    word 25 (pos 0) ∷ word 27 (pos q) ∷ word 1 (pos 1) ∷ word 30 (pos 0) ∷ word 8 (pos 2) ∷ word 2 (pos q)
    ∷ word 2 (pos m) ∷ word 25 (pos 0) ∷ []

-- 27:q 3:0 2:q 1:1
abbrev next_words : ℕ → List Word
next_words q = word 27 (pos q) ∷ word 3 (pos 0) ∷ word 2 (pos q) ∷ word 1 (pos 1) ∷ []

start-words : (q m : ℕ) → start_numbers q m ≡ numbers (start_words q m)
unfolding numbers start_numbers
start-words q m = refl

next-words : (q : ℕ) → next_numbers q ≡ numbers (next_words q)
unfolding numbers next_numbers
next-words q = refl

meaning-words : (q m : ℕ) (c : Command) →
    command_words (meaning q m c) ≡ start_words q m ++ (command_words c ++ next_words q)
unfolding words command_words
meaning-words q m c = refl

start-in_range : (q m : ℕ) → q ≤ 31 → m ≤ 31 → AllInRange (start_words q m)
start-in_range q m g h =
    let counter : InRange (word 27 (pos q)) = (omega arith, refl, refl) in
    let read : InRange (word 2 (pos q)) = (omega arith, refl, refl) in
    let bound : InRange (word 2 (pos m)) = (omega arith, refl, refl) in (
      (omega arith, refl, refl),
      (
        counter,
        (
          (omega arith, refl, refl),
          ((omega arith, refl, refl), ((omega arith, refl, refl), (read, (bound, ((omega arith, refl, refl), tt))))),
        ),
      ),
    )

next-in_range : (q : ℕ) → q ≤ 31 → AllInRange (next_words q)
next-in_range q g =
    ((omega arith, refl, refl), ((omega arith, refl, refl), ((omega arith, refl, refl), ((omega arith, refl, refl), tt))))

in-range : {file ends : List ℕ} {Γ : Context} {c : ℕ} (q m : ℕ) (e : Command) → ForParts file ends Γ c q m e →
    AllInRange (command_words (meaning q m e))
in-range {Γ = Γ} q m e x =
    let y = x.body_at in
    rw meaning-words
    (in_range-append (start_words q m) (command_words e ++ next_words q)
    (start-in_range q m x.counter-small x.bound-small)
    (in_range-append (command_words e) (next_words q) (node_range y.levels (command_node Γ e) y.stands.fit)
    (next-in_range q x.counter-small)))

module _ {file ends : List ℕ} {c : ℕ} (o : EndsOf file ends) where
  means : {Γ : Context} (q m : ℕ) (e : Command) → ForParts file ends Γ c q m e →
      meaning_numbers file ends c ≡ numbers (command_words (meaning q m e))
  unfolding meaning_numbers
  means q m e x =
      let i = ap (λ n. n % 32) x.payload ∙ for-first q m x.counter-small in
      let j = ap (λ n. n / 32) x.payload ∙ for-second q m x.counter-small in
      let body = stands-between file (c + 1) (command_words e) (end_at ends (c + 1)) x.body_at.stands.stand in
      rw meaning-words
      (ap₂ ◌++◌ (ap₂ start_numbers i j ∙ start-words q m) (ap₂ ◌++◌ body (ap next_numbers i ∙ next-words q))
      ∙ ap (λ l. numbers (start_words q m) ++ l) (sym (numbers-append (command_words e) (next_words q)))
      ∙ sym (numbers-append (start_words q m) (command_words e ++ next_words q)))

  pub meaning-at : {d : ℕ} {n : Result ℕ ℕ} {r : Bool} → n ≡ matched file (Ok d) (meaning_numbers file ends c) →
      r ≡ came n (end_at ends d) → MeaningAt file ends d c r
  meaning-at {d} {n} s h = record {
    is = λ Γ e q m a x y.
        let parts = parts_of-for o y in
        h ∙ same-command _ x (in-range q m a parts) (s ∙ ap (matched file (Ok d)) (means q m a parts));
  }
