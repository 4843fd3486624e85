-- Where readings end (document 01, "Judging order" 3 to 5): what was read ends past its start and inside the file, and
-- a refusal is 3, 4 or 5 at a place from the start on, inside the file or at its end.
-- Assumes nothing.
--     BoundsBy, Bounds                                             the law, by cases on a reading
--     expression-bounds, command-bounds, set-bounds                of these readers
--     evidence-bounds                                              of evidence
use mathlib.Core.List.{List}
use Prim.Native.Nat.{ℕ, ◌<◌, ◌≤◌}
use Rattle.language.specs.Syntax.{Sort}
use Rattle.rules.specs.Context.{Context}
use Rattle.rules.specs.Evidence.{Judgement}
use Rattle.layout.specs.Bytes.{word_count}
use Rattle.layout.specs.Reading.{Reading, read, fault, Reader}
use Rattle.layout.specs.Read.{expression, command, set}
use Rattle.layout.specs.ReadEvidence.{evidence}
use Rattle.layout.proofs.Yields.{FaultAt, Past, PastBy}
use Rattle.layout.proofs.Spelled.{expression-past, command-past, set_past}
use Rattle.layout.proofs.SpelledEvidence.{evidence-past}

abbrev pub BoundsBy : {A : Type 0} → List ℕ → ℕ → Reading A → Type 0
BoundsBy file at (read a p) = (at < p) × (p ≤ word_count file)
BoundsBy file at (fault n p) = at ≤ word_count file → FaultAt file at n p

pub record Bounds {A : Type 0} (file : List ℕ) (at : ℕ) (r : Reader A) : Type 0 where
  pub bounds : BoundsBy file at (r at)

past-bounds : {A : Type 0} {file : List ℕ} {at : ℕ} {T : A → ℕ → Type 0} {r : Reader A} → Past file at T r →
    Bounds file at r
past-bounds {A} {file} {at} {T} {r} h = record { bounds = go (r at) h.past }
  where
    go : (x : Reading A) → PastBy file at T x → BoundsBy file at x
    go (read a p) k = (k.0, k.1)
    go (fault n p) k = k

pub expression-bounds : (file : List ℕ) (d : ℕ) (j : Sort) (at : ℕ) → Bounds file at (expression file d j)
expression-bounds file d j at = past-bounds (expression-past file d j at)

pub command-bounds : (Γ : Context) (file : List ℕ) (d at : ℕ) → Bounds file at (command Γ file d)
command-bounds Γ file d at = past-bounds (command-past file Γ d at)

pub set-bounds : (Γ : Context) (file : List ℕ) (d at : ℕ) → Bounds file at (set Γ file d)
set-bounds Γ file d at = past-bounds (set_past file Γ d at)

pub evidence-bounds : (Γ : Context) (file : List ℕ) (d : ℕ) (j : Judgement) (at : ℕ) → Bounds file at (evidence Γ file d j)
evidence-bounds Γ file d j at = past-bounds (evidence-past Γ file d j at)
