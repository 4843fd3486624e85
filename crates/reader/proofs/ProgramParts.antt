-- A program: the places of its parts as the readers find them.
-- Assumes nothing.
--     program-places            the places of the parts, part by part
--     program-same              they do not depend on the procedures of the context
--     ProgramIn, program-in     where a program that was read starts and ends
use mathlib.Core.Path.{◌≡◌, refl, sym, ◌∙◌, ap}
use mathlib.Core.List.{List}
use Prim.Native.Nat.{ℕ, ◌≤◌}
use native.Mathlib.Omega.{arith}
use Rattle.std.specs.Prelude.{Ok, Err}
use Rattle.language.specs.Syntax.{Command}
use Rattle.rules.specs.Assertion.{Members}
use Rattle.rules.specs.Context.{Limits, Context}
use Rattle.rules.specs.Evidence.{flow, FlowEvidence}
use Rattle.layout.specs.Bytes.{word_count}
use Rattle.layout.specs.Reading.{Reading, read, fault, Reader, on_read, ◌⊛◌}
use Rattle.layout.specs.Read.{command, set}
use Rattle.layout.specs.ReadEvidence.{evidence}
use Rattle.layout.specs.Program.{Program, made, program}
use Rattle.layout.proofs.Yields.{YieldsBy}
use Rattle.layout.proofs.WholeFile.{ProgramTo, program-yields, program-inside}
use Rattle.reader.specs.Walk.{Walk, walk_of, onward}
use Rattle.reader.specs.Program.{Layout, places, program_layout, from_pre, from_post, from_evidence}
use Rattle.reader.specs.declared.Places.{Places}
use Rattle.reader.proofs.Contexts.{command-same, set_same, evidence-same}

-- `x ⊛ t ⊛ here`, of a reading
abbrev next : {A B : Type 0} → Reading (A → ℕ → B) → Reader A → Reading B
next x t = on_read (on_read x λ f p. on_read (t p) λ a q. read (f a) q) λ f p. read (f p) p

module _ (Γ : Context) (w : List ℕ) where
  abbrev with_evidence : Reading (FlowEvidence → ℕ → Program) → Reading Program
  with_evidence x = next x (evidence Γ w Γ.limits.depth flow)

  abbrev with_post : Reading (Members → ℕ → FlowEvidence → ℕ → Program) → Reading Program
  with_post x = with_evidence (next x (set Γ w Γ.limits.depth))

  abbrev with_pre : Reading (Members → ℕ → Members → ℕ → FlowEvidence → ℕ → Program) → Reading Program
  with_pre x = with_post (next x (set Γ w Γ.limits.depth))

  evidence-places : (s : ℕ) (c : Command) (a : ℕ) (m : Members) (b : ℕ) (n : Members) (e : ℕ) →
      program_layout (with_evidence (read (made s c a m b n e) e)) ≡ from_evidence Γ w s a b e
  evidence-places s c a m b n e = go (evidence Γ w Γ.limits.depth flow e)
    where
      go : (z : Reading FlowEvidence) →
          program_layout (on_read (on_read z λ k q. read (made s c a m b n e k) q) λ f p. read (f p) p)
          ≡ onward (walk_of z) λ d. Ok (places s a b e d)
      go (read k q) = refl
      go (fault k q) = refl

  post-places : (s : ℕ) (c : Command) (a : ℕ) (m : Members) (b : ℕ) →
      program_layout (with_post (read (made s c a m b) b)) ≡ from_post Γ w s a b
  post-places s c a m b = go (set Γ w Γ.limits.depth b)
    where
      go : (z : Reading Members) →
          program_layout (with_evidence (on_read (on_read z λ n q. read (made s c a m b n) q) λ f p. read (f p) p))
          ≡ onward (walk_of z) λ e. from_evidence Γ w s a b e
      go (read n e) = evidence-places s c a m b n e
      go (fault k q) = refl

  pre-places : (s : ℕ) (c : Command) (a : ℕ) → program_layout (with_pre (read (made s c a) a)) ≡ from_pre Γ w s a
  pre-places s c a = go (set Γ w Γ.limits.depth a)
    where
      go : (z : Reading Members) →
          program_layout (with_post (on_read (on_read z λ m q. read (made s c a m) q) λ f p. read (f p) p))
          ≡ onward (walk_of z) λ b. from_post Γ w s a b
      go (read m b) = post-places s c a m b
      go (fault k q) = refl

  pub program-places : (s : ℕ) →
      program_layout (program Γ w s) ≡ onward (walk_of (command Γ w Γ.limits.depth s)) λ a. from_pre Γ w s a
  unfolding ◌⊛◌
  program-places s = go (command Γ w Γ.limits.depth s)
    where
      go : (z : Reading Command) →
          program_layout (with_pre (on_read (on_read z λ c q. read (made s c) q) λ f p. read (f p) p))
          ≡ onward (walk_of z) λ a. from_pre Γ w s a
      go (read c a) = pre-places s c a
      go (fault k q) = refl

-- ---- under equal limits
by-same : {u v : Walk} {f g : ℕ → Layout} → u ≡ v → ((p : ℕ) → f p ≡ g p) → onward u f ≡ onward v g
by-same {u} {v} {f} {g} e h = ap (λ (z : Walk). onward z f) e ∙ go v
  where
    go : (z : Walk) → onward z f ≡ onward z g
    go (Ok p) = h p
    go (Err x) = refl

module _ (w : List ℕ) (Γ Δ : Context) (e : Γ.limits ≡ Δ.limits) where
  -- each part is outermost
  outermost : (walk : ℕ → Walk) → walk Γ.limits.depth ≡ walk Δ.limits.depth
  outermost walk = ap (λ (l : Limits). walk l.depth) e

  pub program-same : (at : ℕ) → program_layout (program Γ w at) ≡ program_layout (program Δ w at)
  program-same at =
      program-places Γ w at
      ∙ by-same ((command-same w Γ Δ _).walks at ∙ outermost (λ d. walk_of (command Δ w d at))) (λ a.
      by-same ((set_same w Γ Δ e _).walks a ∙ outermost (λ d. walk_of (set Δ w d a))) λ b.
      by-same ((set_same w Γ Δ e _).walks b ∙ outermost (λ d. walk_of (set Δ w d b))) λ c.
      by-same ((evidence-same w Γ Δ e _ flow).walks c ∙ outermost (λ d. walk_of (evidence Δ w d flow c))) λ z. refl)
      ∙ sym (program-places Δ w at)

-- a program that was read starts where reading began, and ends inside the file
pub record ProgramIn (w : List ℕ) (at : ℕ) (s : Places) : Type 0 where
  pub starts : s.start ≡ at
  pub inside : s.end ≤ word_count w

pub program-in : (Γ : Context) (w : List ℕ) (at : ℕ) {s : Places} → Ok s ≡ program_layout (program Γ w at) → ProgramIn w at s
program-in Γ w at {s} e = go (program Γ w at) (program-yields Γ w at).yields e
  where
    go : (x : Reading Program) → YieldsBy w at (ProgramTo Γ w at) x → Ok s ≡ program_layout x → ProgramIn w at s
    go (read g p) y h =
        let k : s ≡ places g.start g.pre_at g.post_at g.evidence_at p = cc in
        rw k (record { starts = y.1.starts; inside = rw (← y.1.ends) (program-inside Γ w g y.1.stands) })
    go (fault n p) y h = absurd (let z : ◌≡◌ {A = ℕ} 0 1 = cc in omega arith)
