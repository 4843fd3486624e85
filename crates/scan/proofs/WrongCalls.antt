-- Refusal 16: calls on words, and in a file that stands.
-- Assumes nothing.
--     callable-stop, callable-here, callable-next
--                                                    how many procedures end before a place, as the loop counts them
--     wrong_other, wrong-call                        a word of another kind; a call
--     wrong_calls                                    in a file that stands, the calls that are wrong on words are the wrong calls
use mathlib.Core.Path.{◌≡◌, refl, sym, ap, fun_ext, ◌∙◌}
use mathlib.Core.Bool.{Bool, true, false, not, ◌&&◌, cond}
use mathlib.Core.List.{List, [], ◌∷◌}
use mathlib.Core.Logic.{inl, inr}
use Prim.Native.Nat.{ℕ, suc, ◌+◌, ◌-◌, ◌<◌, ◌≤◌}
use native.Mathlib.Omega.{arith}
use native.Mathlib.Numerals.{add-one}
use borrow.Author.Tests.{eq-eqb, ne_eqb, le-leb, lt-leb, lt-ltb, le-ltb}
use lib.Dec.{eqb, ltb, leb}
use lib.ListN.{length}
use Rattle.rules.specs.Context.{Limits, Context, alone}
use Rattle.layout.specs.Bytes.{word_count, kind_at, payload_at}
use Rattle.layout.specs.Program.{Program, after}
use Rattle.layout.specs.Call.{callable, wrong_call}
use Rattle.layout.specs.File.{File}
use Rattle.layout.specs.FileWords.{ProgramsStand, FileStands}
use Rattle.ends.specs.Procedures.{start_at}
use Rattle.ends.proofs.Sizes.{lt_or_le}
use Rattle.scan.specs.Programs.{procedure_count, StartsFrom, StartsListed}
use Rattle.scan.specs.Calls.{callable_from, wrong_at}
use Rattle.scan.proofs.FilePrograms.{next_start, count-procedures}

one_less : (i n : ℕ) → i < n → n - i ≡ suc (n - (i + 1))
one_less i n h = omega arith

module _ (start : ℕ → ℕ) (count i at : ℕ) where
  pub callable-stop : count ≤ i → callable_from start (count - i) i at ≡ i
  unfolding callable_from
  callable-stop h = let e : count - i ≡ 0 = omega arith in rw (e, callable_from) refl

  pub callable-here : i < count → at < start (i + 1) → callable_from start (count - i) i at ≡ i
  unfolding callable_from
  callable-here h k = rw (one_less i count h, callable_from) (rw (lt-leb (start (suc i)) at (rw add-one at k)) refl)

  pub callable-next : i < count → start (i + 1) ≤ at →
      callable_from start (count - i) i at ≡ callable_from start (count - (i + 1)) (i + 1) at
  unfolding callable_from
  callable-next h k =
      rw (add-one i) (rw (one_less i count h, callable_from) (rw (le-leb (start (suc i)) at (rw add-one at k), add-one i) refl))

-- at most is not below
not-below : (p n : ℕ) → leb n p ≡ not (ltb p n)
not-below p n = elim (lt_or_le p n) [
  | inl h ↦ lt-leb n p h ∙ ap not (sym (lt-ltb p n h))
  | inr h ↦ le-leb n p h ∙ ap not (sym (le-ltb p n h))
]

module _ (file ends : List ℕ) (at : ℕ) where
  pub wrong_other : (kind_at file at ≡ 38 → ⊥) → false ≡ wrong_at file ends at
  unfolding wrong_at
  wrong_other h = rw (ne_eqb (kind_at file at) 38 h, wrong_at) refl

  pub wrong-call : {n : ℕ} → kind_at file at ≡ 38 → n ≡ callable_from (start_at file ends) (procedure_count file) 0 at →
      leb n (payload_at file at) ≡ wrong_at file ends at
  unfolding wrong_at
  wrong-call {n} e h =
      not-below (payload_at file at) n ∙ ap (λ m. not (ltb (payload_at file at) m)) h
      ∙ rw (eq-eqb (kind_at file at) 38 e, wrong_at) refl

-- ---- in a file that stands
module _ (file ends : List ℕ) where
  callable-programs : (Γ : Context) (l : List Program) (f : Program) (at p i : ℕ) → ProgramsStand Γ file l f at p →
      StartsFrom file ends l f i → (x : ℕ) → callable_from (start_at file ends) (length l) i x ≡ i + callable l x
  unfolding callable_from
  callable-programs Γ [] f at p i h s x = omega arith
  callable-programs Γ (g ∷ l) f at p i (a, b, h) s x =
      rw (next_start file ends (after Γ g) l f g.past p (suc i) h s.1)
      (go (leb g.past x) (callable-programs (after Γ g) l f g.past p (suc i) h s.1 x))
    where
      go : (t : Bool) → callable_from (start_at file ends) (length l) (suc i) x ≡ suc i + callable l x →
          cond t (callable_from (start_at file ends) (length l) (suc i) x) i ≡ i + cond t (suc (callable l x)) 0
      go true e = e ∙ (let z : suc i + callable l x ≡ i + suc (callable l x) = omega arith in z)
      go false e = omega arith

  pub wrong_calls : (limits : Limits) (f : File) → FileStands limits file f → StartsListed file ends f →
      wrong_at file ends ≡ wrong_call file f.procedures
  unfolding wrong_at
  wrong_calls limits f h s = fun_ext λ x.
      let e = callable-programs (alone limits) f.procedures f.main _ (word_count file) 0 h.programs s.starts x in
      let none : 0 + callable f.procedures x ≡ callable f.procedures x = omega arith in
      ap (λ n. eqb (kind_at file x) 38 && not (ltb (payload_at file x) n))
      (ap (λ k. callable_from (start_at file ends) k 0 x) (count-procedures limits file f h) ∙ e ∙ none)
