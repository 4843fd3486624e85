-- The test of a place and the scan for the first, in a file that was read.
-- Assumes nothing.
--     not-for                                   no such `for` is where a word of another kind is
--     tested-else, tested-same, tested-first, tested-second
--                                               a word of another kind; q = m; by q and by m in what the body modifies
--     body_assigns, unsteady-words               a word of the body assigns a scalar; the test of a place by that
--     SteadyBefore, steady-none, steady-more    no place before has such a `for`: at the first place, and after a turn
--     steady-past                               past words of other kinds
--     steady-from                               up to where the first `for` may stand
--     found_here, found_none                    the answers of the scan
use mathlib.Core.Path.{◌≡◌, refl, sym, ap, ap₂, subst, ◌∙◌}
use mathlib.Core.Bool.{Bool, true, false, not, ◌&&◌, not-not}
use mathlib.Core.List.{List}
use Prim.Native.Nat.{ℕ, suc, ◌+◌, ◌*◌, ◌-◌, ◌/◌, ◌%◌, ◌<◌, ◌≤◌, min}
use native.Mathlib.Omega.{arith}
use borrow.Author.Tests.{eq-eqb, ne_eqb}
use lib.Dec.{eqb}
use lib.ListN.{get_or}
use Rattle.std.specs.Prelude.{Some, None}
use Rattle.language.specs.Syntax.{Command, for}
use Rattle.language.specs.Modifies.{scalar_of, modifies}
use Rattle.rules.specs.Words.{for_word, command_words}
use Rattle.rules.specs.Context.{Limits, Context}
use Rattle.rules.specs.Resolved.{Resolved}
use Rattle.rules.specs.Condition.{by_form}
use Rattle.layout.specs.Bytes.{word_count, kind_at, payload_at}
use Rattle.layout.specs.Reading.{read, first_place}
use Rattle.layout.specs.Read.{command}
use Rattle.layout.specs.Spelling.{FitsCommand}
use Rattle.layout.specs.EvidenceWords.{command_part}
use Rattle.layout.specs.Standing.{PartStands}
use Rattle.layout.specs.For.{steady, unsteady, unsteady_at}
use Rattle.layout.specs.File.{File}
use Rattle.layout.specs.Nodes.{command_node}
use Rattle.layout.proofs.Stands.{rest, less-fit}
use Rattle.layout.proofs.Nodes.{content-at, node_inside}
use Rattle.layout.proofs.Fors.{ForStands, for-read, file-fors}
use Rattle.ends.specs.Ends.{EndsListed}
use Rattle.ends.specs.Mask.{bit, ModifiedBy}
use Rattle.ends.specs.Blocks.{called_mask, any_in, assigns, Marks}
use Rattle.ends.specs.Sizes.{sizes}
use Rattle.ends.proofs.Ends.{node_sized}
use Rattle.ends.proofs.Marks.{marks-range}
use Rattle.ends.proofs.Table.{node_listed}
use Rattle.scan.specs.Programs.{Masks}
use Rattle.scan.specs.Pass.{Passed}
use Rattle.scan.specs.Fault.{fault_place}
use Rattle.scan.specs.Steady.{file_context, MaskedFile, Tested, CanScanFors, FirstFound}
use Rattle.scan.proofs.First.{first-start, first-here, first_next, first-end}
use Rattle.scan.proofs.Passing.{first-passed}
use Rattle.scan.proofs.Trees.{marked-command, masks-called}

-- a `for` over q up to m with body c stands at the place, under the context with all procedures
record Over (file : List ℕ) (Δ : Context) (at q m : ℕ) (c : Command) : Type 0 where
  levels : ℕ
  past : ℕ
  first-low : q ≤ 31
  second-low : m ≤ 31
  content : payload_at file at ≡ q + 32 * m
  stands : PartStands file (command_part Δ (for q m c)) (suc levels) at past
  resolved : Resolved Δ.procedures c

for-steady : (q m : ℕ) (c : Command) (p : ℕ) → unsteady (read (for q m c) p) ≡ not (steady q m c)
unfolding by_form
for-steady q m c p = refl

module _ (file ends : List ℕ) (at : ℕ) where
  pub not-for : (Δ : Context) → (kind_at file at ≡ 31 → ⊥) → unsteady_at Δ file at ≡ false
  unfolding unsteady_at
  not-for Δ h = rw (ne_eqb (kind_at file at) 31 h, unsteady_at) refl

  is-for : (Δ : Context) → kind_at file at ≡ 31 → unsteady_at Δ file at ≡ unsteady (command Δ file Δ.limits.depth at)
  unfolding unsteady_at
  is-for Δ h = rw (eq-eqb (kind_at file at) 31 h, unsteady_at) refl

  pub tested-else : (kind_at file at ≡ 31 → ⊥) → Tested file ends at false
  tested-else h = record { place = λ limits f k. sym (not-for (file_context limits f) h) }

  module _ (Δ : Context) where
    over : (x : ForStands file Δ at) → Over file Δ at x.q x.m x.body
    unfolding command_words FitsCommand
    over x = record {
      levels = x.levels;
      past = x.past;
      first-low = x.stands.fit.0.0;
      second-low = x.stands.fit.0.1;
      content = content-at file at (for_word x.q x.m) x.stands.stand.1 x.stands.fit.0;
      stands = x.stands;
      resolved = x.resolved;
    }

  tested-for : at < word_count file → kind_at file at ≡ 31 → (b : Bool) →
      ((Δ : Context) → Masks file ends Δ → (q m : ℕ) (c : Command) → Over file Δ at q m c → b ≡ not (steady q m c)) →
      Tested file ends at b
  tested-for l h b f = record {
    place = λ limits g k.
        let Δ = file_context limits g in
        let x = file-fors file limits g k.stands k.called at l h in
        f Δ k.masks x.q x.m x.body (over Δ x)
        ∙ sym (is-for Δ h ∙ ap unsteady (for-read file Δ x) ∙ for-steady x.q x.m x.body x.past);
  }

  module _ {Δ : Context} {q m : ℕ} {c : Command} (o : Over file Δ at q m c) where
    first-number : payload_at file at % 32 ≡ q
    first-number = omega (arith, o.content, o.first-low)

    second-number : payload_at file at / 32 ≡ m
    second-number = omega (arith, o.content, o.first-low)

  pub tested-same : at < word_count file → kind_at file at ≡ 31 → payload_at file at % 32 ≡ payload_at file at / 32 →
      Tested file ends at true
  tested-same l h e = tested-for l h true λ Δ k q m c o.
      rw (eq-eqb q m (sym (first-number o) ∙ e ∙ second-number o)) refl

  module _ (e : EndsListed file ends) (end mask : ℕ) (near : get_or ends at 0 ≤ word_count file → end ≡ get_or ends at 0)
      (b : Marks (called_mask file ends) file (end - (at + 1)) (at + 1) mask) where
    -- the mask is what the body modifies
    body-mask : {Δ : Context} {q m : ℕ} {c : Command} → Masks file ends Δ → Over file Δ at q m c → ModifiedBy c mask
    unfolding command_words FitsCommand
    body-mask {Δ} {q} {m} {c} k o =
        let s = o.stands in
        let f = node_listed e (command_node Δ (for q m c)) (suc o.levels) at o.past s in
        let i = node_inside (command_node Δ (for q m c)) s in
        marked-command Δ (masks-called k) b c o.levels
        (subst (λ p. PartStands file (command_part Δ c) o.levels (at + 1) p) (sym (near (omega arith) ∙ f)) (less-fit (rest s)))
        o.resolved

    module _ (l : at < word_count file) (h : kind_at file at ≡ 31)
        (u : payload_at file at % 32 ≡ payload_at file at / 32 → ⊥) where
      two-scalars : {Δ : Context} {q m : ℕ} {c : Command} → Over file Δ at q m c → eqb q m ≡ false
      two-scalars {q = q} {m} o = ne_eqb q m (λ f. u (first-number o ∙ f ∙ sym (second-number o)))

      pub tested-first : bit mask (payload_at file at % 32) ≡ true → Tested file ends at true
      tested-first y = tested-for l h true λ Δ k q m c o.
          let x : modifies c (scalar_of q) ≡ true =
          sym ((body-mask k o).marks (scalar_of q) o.first-low) ∙ ap (bit mask) (sym (first-number o)) ∙ y in
          rw (two-scalars o) (rw x refl)

      pub tested-second : bit mask (payload_at file at % 32) ≡ false →
          Tested file ends at (bit mask (payload_at file at / 32 % 32))
      tested-second y = tested-for l h (bit mask (payload_at file at / 32 % 32)) λ Δ k q m c o.
          let x : modifies c (scalar_of q) ≡ false =
          sym ((body-mask k o).marks (scalar_of q) o.first-low) ∙ ap (bit mask) (sym (first-number o)) ∙ y in
          let z : payload_at file at / 32 % 32 ≡ m = omega (arith, second-number o, o.second-low) in
          ap (bit mask) z ∙ (body-mask k o).marks (scalar_of m) o.second-low
          ∙ rw (two-scalars o) (rw x (sym (not-not (modifies c (scalar_of m)))))

-- one of the words up to the end that the list has assigns the scalar
abbrev pub body_assigns : List ℕ → List ℕ → ℕ → ℕ → Bool
body_assigns file ends at x = any_in (assigns (called_mask file ends) (scalar_of x)) file (get_or ends at 0 - (at + 1)) (at + 1)

module _ (file ends : List ℕ) (at : ℕ) where
  body-modifies : {Δ : Context} {q m : ℕ} {c : Command} → Masks file ends Δ → Over file Δ at q m c →
      get_or ends at 0 ≡ at + get_or (sizes file) at 0 → (x : ℕ) → x ≤ 31 → body_assigns file ends at x ≡ modifies c (scalar_of x)
  unfolding command_words FitsCommand
  body-modifies {Δ} {q} {m} {c} k o e x l =
      let s = o.stands in
      let past = (node_sized file (suc o.levels) (command_node Δ (for q m c)) at o.past s).size in
      let marks : Marks (called_mask file ends) file (get_or ends at 0 - (at + 1)) (at + 1) _ = marks-range file refl in
      sym (marks.marks (scalar_of x))
      ∙ (marked-command Δ (masks-called k) marks c o.levels
      (subst (λ p. PartStands file (command_part Δ c) o.levels (at + 1) p) (sym (e ∙ past)) (less-fit (rest s)))
      o.resolved).marks (scalar_of x) l

  pub unsteady-words : (limits : Limits) (f : File) → MaskedFile file ends limits f →
      get_or ends at 0 ≡ at + get_or (sizes file) at 0 → at < word_count file → kind_at file at ≡ 31 →
      unsteady_at (file_context limits f) file at
      ≡ not (not (eqb (payload_at file at % 32) (payload_at file at / 32 % 32))
      && (not (body_assigns file ends at (payload_at file at % 32)) && not (body_assigns file ends at (payload_at file at / 32 % 32))))
  unsteady-words limits f k e l h =
      let Δ = file_context limits f in
      let x = file-fors file limits f k.stands k.called at l h in
      let q = x.q in
      let m = x.m in
      let c = x.body in
      let o = over file ends at Δ x in
      let second : payload_at file at / 32 % 32 ≡ m = omega (arith, second-number file ends at o, o.second-low) in
      is-for file ends at Δ h ∙ ap unsteady (for-read file Δ x) ∙ for-steady q m c x.past
      ∙ sym
      (ap₂ (λ i j. not (not (eqb i j) && (not (body_assigns file ends at i) && not (body_assigns file ends at j))))
      (first-number file ends at o) second
      ∙ ap₂ (λ a b. not (not (eqb q m) && (not a && not b))) (body-modifies k.masks o e q o.first-low)
      (body-modifies k.masks o e m o.second-low))

-- the scan from a place on
module _ (file ends : List ℕ) where
  -- no place before `at` has such a `for`
  pub record SteadyBefore (at : ℕ) : Type 0 where
    pub rest_of : (limits : Limits) (f : File) → MaskedFile file ends limits f →
        first_place (unsteady_at (file_context limits f) file) (word_count file - at) at
        ≡ first_place (unsteady_at (file_context limits f) file) (word_count file) 0

  pub steady-none : SteadyBefore 0
  steady-none = record { rest_of = λ limits f k. first-start (unsteady_at (file_context limits f) file) (word_count file) }

  pub steady-more : (at : ℕ) → at < word_count file → SteadyBefore at → Tested file ends at false → SteadyBefore (at + 1)
  steady-more at h p t = record {
    rest_of = λ limits f k.
        sym (first_next (unsteady_at (file_context limits f) file) (word_count file) at h (sym (t.place limits f k)))
        ∙ p.rest_of limits f k;
  }

  pub steady-past : {at p : ℕ} → at ≤ word_count file → Passed file 31 at p → SteadyBefore at → SteadyBefore p
  steady-past h x b = record {
    rest_of = λ limits f k.
        let Δ = file_context limits f in
        sym (first-passed file (unsteady_at Δ file) (λ i e. not-for file ends i Δ e) h x) ∙ b.rest_of limits f k;
  }

  pub found_here : (at : ℕ) → at < word_count file → SteadyBefore at → Tested file ends at true → FirstFound file ends (Some at)
  found_here at h p t = record {
    place = λ limits f k.
        ap fault_place
        (sym (first-here (unsteady_at (file_context limits f) file) (word_count file) at h (sym (t.place limits f k)))
        ∙ p.rest_of limits f k);
  }

  none_left : (at : ℕ) → word_count file ≤ at → SteadyBefore at → FirstFound file ends None
  none_left at h p = record {
    place = λ limits f k.
        ap fault_place
        (sym (first-end (unsteady_at (file_context limits f) file) (word_count file) at h) ∙ p.rest_of limits f k);
  }

  module _ {from to : ℕ} {blocked : Bool} (c : CanScanFors file ends from to blocked) where
    pub steady-from : {start : ℕ} → start ≤ from → start ≤ word_count file → SteadyBefore start
    steady-from h l =
        steady-past (omega arith) (record { onward = omega arith; inside = λ _. l; none = λ i _ m. c.before i (omega arith) }) steady-none

    pub found_none : (at : ℕ) {end : ℕ} → end ≡ min to (word_count file) → end ≤ at → at ≤ word_count file → SteadyBefore at →
        FirstFound file ends None
    found_none at {end} e h l p =
        none_left (word_count file) (omega arith)
        (steady-past l (record { onward = l; inside = λ _. omega arith; none = λ i j m. c.behind i (omega arith) m }) p)
