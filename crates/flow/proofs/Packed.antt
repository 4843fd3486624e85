-- The numbers of a verdict are small, so the answer for C has room for them (document 01, "Judging order").
-- Assumes nothing.
--     SmallBy, verdict-small             the numbers of a verdict
--     answer-small, answer-packed        the numbers of the answer; the number for C
--     same-checked                       what is promised under the same limits
--     accepted-verdict, was-accepted, was-refused
--                                        the verdict, by the check's answer
--     checked-small, checked-packed      the check's answer for C
use mathlib.Core.Path.{◌≡◌, refl, sym, ◌∙◌, ap, subst}
use mathlib.Core.List.{List}
use Prim.Native.Nat.{ℕ, ◌≤◌}
use native.Mathlib.Omega.{arith}
use Rattle.rules.specs.Context.{Limits, alone}
use Rattle.rules.specs.Judge as judge
use Rattle.layout.specs.Bytes.{words_of}
use Rattle.layout.specs.Reading.{Reading, read, fault}
use Rattle.layout.specs.File.{File, file_of}
use Rattle.layout.specs.Verdict.{judged, verdict_of, packed}
use Rattle.layout.proofs.Counted.{count-words, file-counted}
use Rattle.words.proofs.Loading.{words-length}
use Rattle.context.specs.declared.Refusal.{Refusal}
use Rattle.std.specs.Prelude.{Ok, Err}
use Rattle.flow.specs.Answer.{packed_answer, SmallAnswer}
use Rattle.flow.specs.Checked.{Verdict, answer_of, Checked}
use Rattle.file.proofs.Faults.{FaultBy, file-fault}
use Rattle.flow.proofs.Parts.{read-bytes}
use Rattle.flow.proofs.Refusals.{programs-inside}

-- ---- refusals 8 and 9, and the count
abbrev pub SmallBy : ℕ → judge.Verdict → Type 0
SmallBy n (judge.accepted m) = m ≤ n
SmallBy n (judge.refused k i) = (k ≤ 19) × (i ≤ n)

module _ (limits : Limits) (bytes : List ℕ) where
  read_small : (f : File) (p : ℕ) → file_of limits bytes ≡ read f p → (v : judge.Verdict) →
      judged limits (read f p) ≡ v → SmallBy 8192 v
  read_small f p e (judge.accepted n) h =
      let x = read-bytes limits bytes f p e in
      let c = (file-counted limits (words_of bytes) f x.words-read.stands (let i = x.inside in omega arith)).counted n h in
      let k = count-words (words_of bytes) in
      let l = words-length bytes in
      omega (arith, x.few, c, k, l)
  read_small f p e (judge.refused k i) h =
      let x = read-bytes limits bytes f p e in
      let c = (programs-inside (alone limits) (words_of bytes) f.procedures f.main _ _ x.words-read.stands.programs
      ).inside k i h in
      let l = words-length bytes in
      (omega (arith, c.0), omega (arith, x.few, c.1))

  pub verdict-small : SmallBy 8192 (verdict_of limits bytes)
  unfolding verdict_of
  verdict-small = go (file_of limits bytes) refl (file-fault limits bytes)
    where
      go : (x : Reading File) → file_of limits bytes ≡ x → FaultBy 8192 x → SmallBy 8192 (judged limits x)
      go (read f p) e h = read_small f p e (judged limits (read f p)) refl
      go (fault n p) e h = h

-- ---- the answer
answer-few : (v : judge.Verdict) → SmallBy 8192 v → SmallAnswer (answer_of v)
answer-few (judge.accepted m) h = h
answer-few (judge.refused k i) h = h

pub answer-small : (v : judge.Verdict) {r : Verdict} → SmallBy 8192 v → r ≡ answer_of v → SmallAnswer r
answer-small v h e = subst SmallAnswer (sym e) (answer-few v h)

answer-number : (v : judge.Verdict) → packed_answer (answer_of v) ≡ packed v
answer-number (judge.accepted m) = refl
answer-number (judge.refused k i) = refl

pub answer-packed : (v : judge.Verdict) {r : Verdict} {n : ℕ} → r ≡ answer_of v → n ≡ packed_answer r → n ≡ packed v
answer-packed v e h = h ∙ ap packed_answer e ∙ answer-number v

-- ---- the verdict, by the check's answer
-- under the same limits
pub same-checked : {l k : Limits} {bytes : List ℕ} {r : Verdict} → l ≡ k → Checked l bytes r → Checked k bytes r
same-checked {bytes = bytes} {r} e h = subst (λ x. Checked x bytes r) e h

pub accepted-verdict : (v : judge.Verdict) (n : ℕ) → Ok n ≡ answer_of v → v ≡ judge.accepted n
accepted-verdict (judge.accepted m) n e = cc
accepted-verdict (judge.refused k i) n e = absurd (let z : ◌≡◌ {A = ℕ} 0 1 = cc in omega arith)

refused-verdict : (v : judge.Verdict) (x : Refusal) → Err x ≡ answer_of v → v ≡ judge.refused x.number x.place
refused-verdict (judge.accepted m) x e = absurd (let z : ◌≡◌ {A = ℕ} 0 1 = cc in omega arith)
refused-verdict (judge.refused m j) x e = cc

module _ {limits : Limits} {bytes : List ℕ} {r : Verdict} (h : Checked limits bytes r) where
  pub was-accepted : (n : ℕ) → r ≡ Ok n → verdict_of limits bytes ≡ judge.accepted n
  was-accepted n e = accepted-verdict (verdict_of limits bytes) n (sym e ∙ h.answer)

  pub was-refused : (x : Refusal) → r ≡ Err x → verdict_of limits bytes ≡ judge.refused x.number x.place
  was-refused x e = refused-verdict (verdict_of limits bytes) x (sym e ∙ h.answer)

  -- the number for C
  pub checked-small : SmallAnswer r
  checked-small = answer-small (verdict_of limits bytes) (verdict-small limits bytes) h.answer

  pub checked-packed : {n : ℕ} → n ≡ packed_answer r → n ≡ packed (verdict_of limits bytes)
  checked-packed k = answer-packed (verdict_of limits bytes) h.answer k
