-- Procedures and the main program, one after the other: where they start, and the places of the main program.
-- Assumes nothing.
--     Trace, trace_of, prepend    the starts of the programs and the places of the main one, or the refusal; with more starts first
--     trace-main                 the main program alone
--     trace-same, trace-more     the procedures of the context are of no account; one procedure more
--     ProgramReached             where the loop over the procedures stands
--     programs-start, programs-next, programs-stop, programs-done
--                                as the loop has them
use mathlib.Core.Path.{◌≡◌, refl, sym, ◌∙◌, ap}
use mathlib.Core.List.{List, [], ◌∷◌, ◌++◌, append_assoc}
use Prim.Native.Nat.{ℕ, zero, suc, ◌+◌, ◌-◌, ◌<◌, ◌≤◌}
use native.Mathlib.Omega.{arith}
use native.Mathlib.Numerals.{add-one}
use lib.ListN.{length, take, set, length-set, length-take}
use lib.Seq.{take-suc-set}
use Rattle.std.specs.Prelude.{Ok, Err}
use Rattle.std.specs.Result.{IsErrAnd}
use Rattle.rules.specs.Context.{Limits, Context, alone}
use Rattle.layout.specs.Bytes.{word_count}
use Rattle.layout.specs.Reading.{Reading, read, fault, on_read}
use Rattle.layout.specs.Program.{Program, program, after}
use Rattle.layout.specs.File.{File, programs}
use Rattle.context.specs.Contexts.{refusal}
use Rattle.context.specs.declared.Refusal.{Refusal}
use Rattle.reader.specs.Program.{Layout, places, program_layout}
use Rattle.reader.specs.File.{starts_of, Located}
use Rattle.reader.specs.declared.Places.{Places}
use Rattle.reader.proofs.Walks.{exit}
use Rattle.reader.proofs.ProgramParts.{program-same, program-in}

pub data Trace : Type 0 where
  ends : List ℕ → Places → Trace
  stops : Refusal → Trace

abbrev pub trace_of : Reading File → Trace
trace_of (read f p) =
    ends (starts_of f) (places f.main.start f.main.pre_at f.main.post_at f.main.evidence_at p)
trace_of (fault n p) = stops (refusal n p)

abbrev pub prepend : List ℕ → Trace → Trace
prepend l (ends m s) = ends (l ++ m) s
prepend l (stops x) = stops x

prepend-none : (t : Trace) → t ≡ prepend [] t
prepend-none (ends l s) = refl
prepend-none (stops x) = refl

prepend-both : (l m : List ℕ) (t : Trace) → prepend l (prepend m t) ≡ prepend (l ++ m) t
prepend-both l m (ends k s) = ap (λ (x : List ℕ). ends x s) (sym (append_assoc l m k))
prepend-both l m (stops x) = refl

abbrev pub on_places : Layout → (Places → Trace) → Trace
on_places (Ok s) f = f s
on_places (Err x) f = stops x

-- a main program at the places s
abbrev pub main_at : Places → Trace
main_at s = ends (s.start ∷ []) s

module _ (w : List ℕ) where
  -- x is a procedure; k of them and the main program follow
  abbrev followed : Context → ℕ → Reading Program → Reading File
  followed Γ k x = on_read x λ g p. on_read (programs (after Γ g) w k p) λ f q.
      read (record { procedures = g ∷ f.procedures; main = f.main }) q

  followed-read : (Γ : Context) (k : ℕ) (g : Program) (p : ℕ) →
      trace_of (followed Γ k (read g p)) ≡ prepend (g.start ∷ []) (trace_of (programs (after Γ g) w k p))
  followed-read Γ k g p = go (programs (after Γ g) w k p)
    where
      go : (y : Reading File) →
          trace_of (on_read y λ f q. read (record { procedures = g ∷ f.procedures; main = f.main }) q)
          ≡ prepend (g.start ∷ []) (trace_of y)
      go (read f q) = refl
      go (fault n q) = refl

  pub trace-main : (Γ : Context) (at : ℕ) → trace_of (programs Γ w 0 at) ≡ on_places (program_layout (program Γ w at)) main_at
  unfolding programs
  trace-main Γ at = go (program Γ w at)
    where
      go : (x : Reading Program) →
          trace_of (on_read x λ f p. read (record { procedures = []; main = f }) p) ≡ on_places (program_layout x) main_at
      go (read f p) = refl
      go (fault n p) = refl

  -- two procedures at the same places, and what follows each
  followed_same :
      (k : ℕ) (Γ Δ : Context) → ((g h : Program) (p : ℕ) →
      trace_of (programs (after Γ g) w k p) ≡ trace_of (programs (after Δ h) w k p)) → (x y : Reading Program) →
      program_layout x ≡ program_layout y → trace_of (followed Γ k x) ≡ trace_of (followed Δ k y)
  followed_same k Γ Δ known (read g p) (read h q) e =
      let z : places g.start g.pre_at g.post_at g.evidence_at p
      ≡ places h.start h.pre_at h.post_at h.evidence_at q = cc in
      followed-read Γ k g p
      ∙ ap (λ (s : Places). prepend (s.start ∷ []) (trace_of (programs (after Γ g) w k s.end))) z
      ∙ ap (prepend (h.start ∷ [])) (known g h q) ∙ sym (followed-read Δ k h q)
  followed_same k Γ Δ known (read g p) (fault n q) e = absurd (let z : ◌≡◌ {A = ℕ} 0 1 = cc in omega arith)
  followed_same k Γ Δ known (fault n p) (read h q) e = absurd (let z : ◌≡◌ {A = ℕ} 0 1 = cc in omega arith)
  followed_same k Γ Δ known (fault n p) (fault m q) e = let z : refusal n p ≡ refusal m q = cc in ap stops z

  trace-same : (k : ℕ) (Γ Δ : Context) → Γ.limits ≡ Δ.limits → (at : ℕ) →
      trace_of (programs Γ w k at) ≡ trace_of (programs Δ w k at)
  unfolding programs
  trace-same zero Γ Δ e at =
      trace-main Γ at ∙ ap (λ (r : Layout). on_places r main_at) (program-same w Γ Δ e at) ∙ sym (trace-main Δ at)
  trace-same (suc k) Γ Δ e at =
      followed_same k Γ Δ (λ g h p. trace-same k (after Γ g) (after Δ h) e p) (program Γ w at) (program Δ w at)
      (program-same w Γ Δ e at)

  -- a procedure at the places s, then k more and the main program
  abbrev pub procedure_at : Context → ℕ → Places → Trace
  procedure_at Γ k s = prepend (s.start ∷ []) (trace_of (programs Γ w k s.end))

  pub trace-more : (Γ : Context) (k at : ℕ) →
      trace_of (programs Γ w (suc k) at) ≡ on_places (program_layout (program Γ w at)) (procedure_at Γ k)
  unfolding programs
  trace-more Γ k at = go (program Γ w at)
    where
      go : (x : Reading Program) → trace_of (followed Γ k x) ≡ on_places (program_layout x) (procedure_at Γ k)
      go (read g p) =
          followed-read Γ k g p ∙ ap (prepend (g.start ∷ [])) (trace-same k (after Γ g) Γ refl p)
      go (fault n p) = refl

-- a trace that ends has the places, and the starts are those that were stored
trace-located : (x : Reading File) (r : Layout) {lent left : List ℕ} (n : ℕ) → n ≤ length left →
    length left ≡ length lent → trace_of x ≡ on_places r (λ s. ends (take n left) s) → Located x lent left r
trace-located (read f p) (Ok s) {lent} {left} n h size e =
    let l : starts_of f ≡ take n left = cc in
    let k : length (starts_of f) ≡ n = ap length l ∙ simp length-take (omega arith) in
    record {
      places = (cc);
      size = size;
      starts = λ g q j. let i : f ≡ g = cc in rw (← i) (rw k (sym l));
    }
trace-located (read f p) (Err x) n h size e = absurd (let z : ◌≡◌ {A = ℕ} 0 1 = cc in omega arith)
trace-located (fault m p) (Ok s) n h size e = absurd (let z : ◌≡◌ {A = ℕ} 0 1 = cc in omega arith)
trace-located (fault m p) (Err x) n h size e = record {
  places = (cc);
  size = size;
  starts = λ g q j. absurd (let z : ◌≡◌ {A = ℕ} 0 1 = cc in omega arith);
}

-- ---- the loop over the procedures
module _ (limits : Limits) (w : List ℕ) (count at : ℕ) where
  -- so many procedures and the main program, from p on
  abbrev rest : ℕ → ℕ → Trace
  rest k p = trace_of (programs (alone limits) w k p)

  -- i procedures are read, from `at` up to p
  pub record ProgramReached (lent left : List ℕ) (i p : ℕ) : Type 0 where
    pub many : i ≤ count
    pub inside : p ≤ word_count w
    pub size : length left ≡ length lent
    pub trace : rest count at ≡ prepend (take i left) (rest (count - i) p)

  pub programs-start : (l : List ℕ) → at ≤ word_count w → ProgramReached l l 0 at
  programs-start l h =
      let e : count - 0 ≡ count = omega arith in
      record { many = omega arith; inside = h; size = refl; trace = rw e (prepend-none _) }

  module _ {lent left : List ℕ} {i p : ℕ} (h : ProgramReached lent left i p) where
    -- r is what was returned for the program at p
    turn : {r : Layout} → r ≡ program_layout (program (alone limits) w p) → i < count →
        rest (count - i) p ≡ on_places r (procedure_at w (alone limits) (count - (i + 1)))
    turn e l =
        let k : count - i ≡ suc (count - (i + 1)) = omega arith in
        rw k (trace-more w (alone limits) (count - (i + 1)) p
        ∙ ap (λ (x : Layout). on_places x (procedure_at w (alone limits) (count - (i + 1)))) (sym e))

    pub programs-next : {s : Places} → Ok s ≡ program_layout (program (alone limits) w p) → i < count → i < length left →
        ProgramReached lent (set left i p) (i + 1) s.end
    programs-next {s} e l room =
        let x = program-in (alone limits) w p {s = s} e in
        let k = count - (i + 1) in
        record {
          many = omega arith;
          inside = x.inside;
          size = simp length-set h.size;
          trace =
              h.trace
              ∙ ap (prepend (take i left)) (turn e l)
              ∙ prepend-both (take i left) (s.start ∷ []) (rest k s.end)
              ∙ ap (λ (y : List ℕ). prepend y (rest k s.end))
              (ap (λ (y : ℕ). take i left ++ (y ∷ [])) x.starts ∙ sym (rw add-one (take-suc-set left i p room)));
        }

    -- the starts of a file that is refused are of no account
    pub programs-stop : {x : Refusal} {r : Layout} {last : List ℕ} → Err x ≡ program_layout (program (alone limits) w p) →
        IsErrAnd r (λ y. y ≡ x) → i < count → length last ≡ length lent → Located (programs (alone limits) w count at) lent last r
    programs-stop {x} {r} {last} e f l size =
        let k : r ≡ Err x = exit f refl in
        rw k (trace-located (programs (alone limits) w count at) (Err x) 0 (omega arith) size
        (h.trace ∙ ap (prepend (take i left)) (turn e l)))

    module _ {r : Layout} (e : r ≡ program_layout (program (alone limits) w p)) where
      pub programs-done : count ≤ i → count < length left →
          Located (programs (alone limits) w count at) lent (set left count p) r
      programs-done l room =
          let k : count - i ≡ 0 = omega (arith, h.many) in
          let j : i ≡ count = omega (arith, h.many) in
          trace-located (programs (alone limits) w count at) r (suc count) (simp length-set (omega arith))
          (simp length-set h.size)
          (h.trace ∙ ap (λ (n : ℕ). prepend (take i left) (rest n p)) k
          ∙ ap (λ (n : ℕ). prepend (take n left) (rest 0 p)) j
          ∙ ap (prepend (take count left)) (trace-main w (alone limits) p ∙ ap (λ (x : Layout). on_places x main_at) (sym e))
          ∙ last r e ∙ ap (λ (m : List ℕ). on_places r λ s. ends m s) (sym (take-suc-set left count p room)))
        where
          last : (x : Layout) → x ≡ program_layout (program (alone limits) w p) →
              prepend (take count left) (on_places x main_at) ≡ on_places x λ s. ends (take count left ++ (p ∷ [])) s
          last (Ok s) e =
              ap (λ (n : ℕ). ends (take count left ++ (n ∷ [])) s) (program-in (alone limits) w p {s = s} e).starts
          last (Err x) e = refl
