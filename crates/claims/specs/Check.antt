-- Demands 2 and 3 of the check on bytes (document 02, request [3]: for the main program and for each procedure). Derivations are of any
-- sameness of antecedents: that of the check is `SamePlain`, that before request [2] `SameByWords`.
-- Trusted. Assumes nothing.
--     Derivation     the evidence of a program derives its contract
--     Derivations    that of each procedure does, under those before it, and that of the main program
--     Derives        the file reads, and the evidence of every procedure and of the main program is a derivation
--     Demand2        it is accepted exactly then, with the count of its evidence words
--     Contracts      the contracts of procedures and of the main program hold
--     Demand3        every accepted file is secure
use Rattle.std.specs.Prelude.{◌≡◌, List, [], ◌∷◌, ℕ}
use Rattle.rules.specs.Assertion.{Secure}
use Rattle.rules.specs.Context.{Limits, Context, alone}
use Rattle.rules.specs.Sets.{Sameness, SamePlain}
use Rattle.rules.specs.Derivation.{Flow}
use Rattle.rules.specs.Judge.{accepted}
use Rattle.layout.specs.Bytes.{words_of}
use Rattle.layout.specs.Reading.{read}
use Rattle.layout.specs.Program.{Program, after}
use Rattle.layout.specs.File.{File, file_of}
use Rattle.layout.specs.Counted.{count_evidence}
use Rattle.layout.specs.Verdict.{verdict_of}

abbrev pub Derivation : Sameness → Context → Program → Type 0
Derivation S Γ f = Flow S Γ f.evidence f.pre f.command f.post

abbrev pub Derivations : Sameness → Context → List Program → Program → Type 0
Derivations S Γ [] f = Derivation S Γ f
Derivations S Γ (g ∷ l) f = Derivation S Γ g × Derivations S (after Γ g) l f

pub record Derives (S : Sameness) (limits : Limits) (bytes : List ℕ) : Type 0 where
  pub file : File
  pub end : ℕ
  pub reads : file_of limits bytes ≡ read file end
  pub derivations : Derivations S (alone limits) file.procedures file.main

pub record Demand2 (limits : Limits) (bytes : List ℕ) : Type 0 where
  pub sound : (n : ℕ) → verdict_of limits bytes ≡ accepted n → Derives SamePlain limits bytes
  pub complete : Derives SamePlain limits bytes → (n : ℕ) × (verdict_of limits bytes ≡ accepted n)
  -- the count is that of the evidence words of the file
  pub counted : (n : ℕ) → verdict_of limits bytes ≡ accepted n → n ≡ count_evidence (words_of bytes)

-- any two ending runs from stores that agree as the precondition demands end in stores that agree as the postcondition
-- demands; of each procedure, called or not, and of the main program
abbrev pub Contracts : List Program → Program → Type 0
Contracts [] f = Secure f.pre f.command f.post
Contracts (g ∷ l) f = Secure g.pre g.command g.post × Contracts l f

pub record Demand3 (limits : Limits) (bytes : List ℕ) : Type 0 where
  pub secure : (n : ℕ) → verdict_of limits bytes ≡ accepted n → (f : File) (end : ℕ) →
      file_of limits bytes ≡ read f end → Contracts f.procedures f.main
