-- Request [6] of document 02, from the laws of reading and of judging: document 01's limits give the old answers; and a file that is read under
-- some settings is read alike under raised ones, where judging changes no verdict but a refusal 9.
-- Assumes nothing.
--     old-answers    the claim on document 01's limits
--     raised         the claim on reading and judging
--     run-raised     the claim on running
use mathlib.Core.Path.{◌≡◌, refl, sym, ◌∙◌, ap}
use mathlib.Core.Bool.{Bool, true, false}
use mathlib.Core.List.{List}
use mathlib.Core.Logic.{◌⊎◌, inl, inr}
use Prim.Native.Nat.{ℕ, ◌≤◌}
use native.Mathlib.Omega.{arith}
use Rattle.rules.specs.Context.{Limits, standard, within_ranges}
use Rattle.rules.specs.Judge.{accepted, refused}
use Rattle.layout.specs.Bytes.{words_of}
use Rattle.layout.specs.Reading.{Reading, read, fault}
use Rattle.layout.specs.File.{File, bytes_read, file_of}
use Rattle.layout.specs.Verdict.{judged, verdict_of}
use Rattle.layout.proofs.Settings.{in_ranges, out_of-ranges}
use Rattle.raised.proofs.Files.{FileRaised, bytes-raised}
use Rattle.raised.proofs.Judged.{accepted-kept, refused-kept}
use Rattle.raised.proofs.Verdicts.{judged-kept, judged-number}
use Rattle.execution.specs.Lent.{Lent}
use Rattle.execution.specs.Ran.{run_of}
use Rattle.claims.specs.Settings.{OldAnswers, Raises, any_count, Stays, OverCount, Raised, RunRaised}

standard-within : within_ranges standard ≡ true
unfolding within_ranges standard
standard-within = refl

pub old-answers : (bytes : List ℕ) → OldAnswers bytes
unfolding verdict_of
old-answers bytes =
    let same = in_ranges standard bytes standard-within in
    record { reading = same; answer = ap (judged standard) same }

law : (low high : Limits) → low.depth ≤ high.depth → low.members ≤ high.members → (bytes : List ℕ) →
    FileRaised (words_of bytes) low.members (bytes_read low bytes) (bytes_read (any_count low) bytes) (bytes_read high bytes)
law low high d m bytes = bytes-raised (record { depth = d; members = m; same-depth = refl; every-count = omega arith }) bytes

module _ (low high : Limits) (raises : Raises low high) (bytes : List ℕ) where
  of_low : {r : Reading File} → file_of low bytes ≡ r → bytes_read low bytes ≡ r
  of_low e = sym (in_ranges low bytes raises.low-within) ∙ e

  of-high : {r : Reading File} → bytes_read high bytes ≡ r → file_of high bytes ≡ r
  of-high e = in_ranges high bytes raises.high-within ∙ e

  read-still : (f : File) (p : ℕ) → file_of low bytes ≡ read f p → file_of high bytes ≡ read f p
  read-still f p e = of-high ((law low high raises.depth raises.members bytes).read-still f p (of_low e))

  unread-still : (k p : ℕ) → file_of low bytes ≡ fault k p → Stays low bytes k p → file_of high bytes ≡ fault k p
  unread-still k p e s = of-high
      ((law low high raises.depth raises.members bytes).refused-still k p (of_low e) s.not-depth s.not-count)

  -- judged after a reading that stays
  accepted-still : (n : ℕ) (r : Reading File) → file_of low bytes ≡ r → judged low r ≡ accepted n →
      judged high (file_of high bytes) ≡ accepted n
  accepted-still n (read f p) e h =
      rw (read-still f p e) (accepted-kept (judged-kept low high raises.comparisons (read f p)) h)
  accepted-still n (fault k p) e h = absurd (let z : ◌≡◌ {A = ℕ} 0 1 = cc in omega arith)

  refused-still : (k p : ℕ) → Stays low bytes k p → (r : Reading File) → file_of low bytes ≡ r → judged low r ≡ refused k p →
      judged high (file_of high bytes) ≡ refused k p
  refused-still k p s (read f q) e h =
      rw (read-still f q e) (refused-kept (judged-kept low high raises.comparisons (read f q)) h s.not-comparisons)
  refused-still k p s (fault j q) e h =
      let same : file_of low bytes ≡ fault k p = cc in
      ap (judged high) (unread-still k p same s)

-- one reading, one run
same-run : (low high : Limits) (bytes : List ℕ) (budget : ℕ) (m : Lent) → file_of high bytes ≡ file_of low bytes →
    run_of high bytes budget m ≡ run_of low bytes budget m
unfolding run_of
same-run low high bytes budget m e = rw (e, run_of) refl

module _ (limits : Limits) (bytes : List ℕ) where
  -- a 5 is of reading, under settings in range
  five_read : (p : ℕ) (t : Bool) → within_ranges limits ≡ t → file_of limits bytes ≡ fault 5 p → bytes_read limits bytes ≡ fault 5 p
  five_read p true w e = sym (in_ranges limits bytes w) ∙ e
  five_read p false w e =
      let h = sym (out_of-ranges limits bytes w) ∙ e in
      absurd (let z : ◌≡◌ {A = ℕ} 19 5 = cc in omega (arith, z))

  count : (p : ℕ) (r : Reading File) → file_of limits bytes ≡ r → judged limits r ≡ refused 5 p →
      (bytes_read (any_count limits) bytes ≡ fault 5 p) ⊎ OverCount limits (words_of bytes) p
  count p (read f q) e h = absurd (elim (judged-number limits f q 5 p h) [ inl z ↦ omega arith | inr z ↦ omega arith ])
  count p (fault j q) e h =
      let same : file_of limits bytes ≡ fault 5 p = cc in
      (law limits limits (omega arith) (omega arith) bytes).count p (five_read p (within_ranges limits) refl same)

  pub raised : Raised limits bytes
  unfolding verdict_of
  raised = record {
    accepted-still = λ high x n h. accepted-still limits high x bytes n (file_of limits bytes) refl h;
    refused-still = λ high x k p h s. refused-still limits high x bytes k p s (file_of limits bytes) refl h;
    count = λ p h. count p (file_of limits bytes) refl h;
    read-still = λ high x. read-still limits high x bytes;
    unread-still = λ high x. unread-still limits high x bytes;
  }

  pub run-raised : (budget : ℕ) (m : Lent) → RunRaised limits bytes budget m
  run-raised budget m = record {
    run-still = λ high x f p e. same-run limits high bytes budget m (read-still limits high x bytes f p e ∙ sym e);
    unread-still = λ high x k p e s. same-run limits high bytes budget m (unread-still limits high x bytes k p e s ∙ sym e);
  }
