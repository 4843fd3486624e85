-- The check with masks, by what refusals 1 to 9 leave of the file.
-- Assumes nothing.
--     lent-before                            what was read before request [6]
--     raises_limits, lent-refused, lent_still, stored-still
--                                            raised settings: the file's own refusals; a file that is read, and its masks
--     outside-checked, few-checked, masks-checked, masks-accepted
--                                            19; 17; the other answers
--     lent-small, lent-packed                the numbers of the answer are small; the number for C
--     put-done, put_small, put_refused       its numbers, and the number for C
use mathlib.Core.Path.{◌≡◌, refl, sym, ◌∙◌, ap, subst}
use mathlib.Core.Bool.{Bool, true, false, cond, ◌&&◌}
use mathlib.Core.List.{List}
use Prim.Native.Nat.{ℕ, ◌+◌, ◌*◌, ◌≤◌}
use native.Mathlib.Omega.{arith}
use borrow.Author.Tests.{le-ltb}
use lib.Dec.{ltb}
use lib.ListN.{length}
use Rattle.laws.proofs.Bools.{and_both, clash}
use Rattle.rules.specs.Context.{Limits, standard, within_ranges}
use Rattle.rules.specs.Judge as judge
use Rattle.layout.specs.Bytes.{words_of, word_count}
use Rattle.layout.specs.Reading.{Reading, read, fault, on_read}
use Rattle.layout.specs.File.{File, bytes_read, file_of}
use Rattle.layout.specs.Verdict.{judged, verdict_of}
use Rattle.layout.proofs.Settings.{in_ranges}
use Rattle.raised.proofs.Readers.{RaisedLimits}
use Rattle.claims.specs.Settings.{Raises, any_count, Stays}
use Rattle.claims.proofs.Check.{demand_2, demand_3}
use Rattle.claims.proofs.Settings.{raised}
use Rattle.masks.specs.Masks.{stored}
use Rattle.masks.specs.WithMasks.{few_numbers, read_lent, verdict_lent, stored_if, masks_after}
use Rattle.masks.proofs.FewNumbers.{read-enough}
use Rattle.masks.proofs.Raised.{stored-raised}
use Rattle.masks.proofs.LentNumbers.{outside-lent, few-lent, enough-lent, lent-numbers}
use Rattle.context.specs.Contexts.{refusal}
use Rattle.context.specs.declared.Refusal.{Refusal}
use Rattle.file.proofs.Faults.{FaultBy, bytes-fault}
use Rattle.replacement.specs.Put.{Replaced, changed, replaceable, or_unread, read_put, answer_of as put_answer, PutDone}
use Rattle.outcomes.specs.declared.Accepted.{Accepted}
use Rattle.outcomes.specs.Outcome.{Outcome, stored_where, OutcomeDone}
use Rattle.std.specs.Prelude.{Ok, Err}
use Rattle.flow.specs.Answer.{answer_from, packed_answer, SmallAnswer}
use Rattle.flow.specs.Checked.{Verdict, answer_of}
use Rattle.flow.specs.CheckedMasks.{lent_before, CheckedMasks, PackedMasks, packed_put, PackedPut}
use Rattle.flow.proofs.Answers.{outcome-answer, outside-outcome, within-outcome}
use Rattle.flow.proofs.Parts.{read-bytes}
use Rattle.flow.proofs.Packed.{SmallBy, verdict-small, answer-small, answer-packed, accepted-verdict}

-- the answer of settings in range, by whether enough numbers are lent
abbrev verdict_by : Bool → judge.Verdict → judge.Verdict
verdict_by few v = elim few [ true ↦ judge.refused 17 0 | false ↦ v ]

lent-verdict : (limits : Limits) (bytes : List ℕ) (n : ℕ) → within_ranges limits ≡ true →
    verdict_lent limits bytes n ≡ verdict_by (few_numbers bytes n) (verdict_of limits bytes)
unfolding verdict_of
lent-verdict limits bytes n w = go (few_numbers bytes n) refl
  where
    go : (b : Bool) → few_numbers bytes n ≡ b → verdict_lent limits bytes n ≡ verdict_by b (judged limits (file_of limits bytes))
    go true h = ap (judged limits) (few-lent limits bytes n w h)
    go false h = ap (judged limits) (enough-lent limits bytes n w h ∙ sym (in_ranges limits bytes w))

-- what was read before request [6]
pub lent-before : (bytes : List ℕ) (n : ℕ) → read_lent standard bytes n ≡ lent_before bytes n
unfolding read_lent within_ranges standard
lent-before bytes n = refl

-- ---- raised settings
-- as the laws of readings take them
pub raises_limits : {low high : Limits} → Raises low high → RaisedLimits low (any_count low) high
raises_limits r = record { depth = r.depth; members = r.members; same-depth = refl; every-count = omega arith }

module _ (low high : Limits) (r : Raises low high) (bytes : List ℕ) (n : ℕ) where
  -- v is a verdict
  raised_by : (v : judge.Verdict) → (verdict_of low bytes ≡ v → verdict_of high bytes ≡ v) → verdict_lent low bytes n ≡ v →
      verdict_lent high bytes n ≡ v
  raised_by v h e =
      lent-verdict high bytes n r.high-within
      ∙ go (few_numbers bytes n) (sym (lent-verdict low bytes n r.low-within) ∙ e)
    where
      go : (b : Bool) → verdict_by b (verdict_of low bytes) ≡ v → verdict_by b (verdict_of high bytes) ≡ v
      go true k = k
      go false k = h k

  accepted-lent : (m : ℕ) → verdict_lent low bytes n ≡ judge.accepted m → verdict_lent high bytes n ≡ judge.accepted m
  accepted-lent m = raised_by (judge.accepted m) ((raised low bytes).accepted-still high r m)

  refused-lent : (k p : ℕ) → verdict_lent low bytes n ≡ judge.refused k p → Stays low bytes k p →
      verdict_lent high bytes n ≡ judge.refused k p
  refused-lent k p e s = raised_by (judge.refused k p) (λ h. (raised low bytes).refused-still high r k p h s) e

module _ (low high : Limits) (r : Raises low high) (bytes : List ℕ) where
  pub lent-refused : (n k p : ℕ) → read_lent low bytes n ≡ fault k p → Stays low bytes k p → read_lent high bytes n ≡ fault k p
  lent-refused n k p e s = go (few_numbers bytes n) refl
    where
      go : (b : Bool) → few_numbers bytes n ≡ b → read_lent high bytes n ≡ fault k p
      go true h = few-lent high bytes n r.high-within h ∙ sym (few-lent low bytes n r.low-within h) ∙ e
      go false h =
          enough-lent high bytes n r.high-within h ∙ sym (in_ranges high bytes r.high-within)
          ∙ (raised low bytes).unread-still high r k p
          (in_ranges low bytes r.low-within ∙ sym (enough-lent low bytes n r.low-within h) ∙ e) s

  -- of a file that is read, and the file that was read
  pub lent_still : (n : ℕ) (f : File) (p : ℕ) → read_lent low bytes n ≡ read f p → read_lent high bytes n ≡ read f p
  lent_still n f p e = go (few_numbers bytes n) refl
    where
      go : (b : Bool) → few_numbers bytes n ≡ b → read_lent high bytes n ≡ read f p
      go true h = few-lent high bytes n r.high-within h ∙ sym (few-lent low bytes n r.low-within h) ∙ e
      go false h =
          enough-lent high bytes n r.high-within h ∙ sym (in_ranges high bytes r.high-within)
          ∙ (raised low bytes).read-still high r f p
          (in_ranges low bytes r.low-within ∙ sym (enough-lent low bytes n r.low-within h) ∙ e)

  -- the masks of a file that is read
  pub stored-still : (lent : List ℕ) (f : File) (p : ℕ) → file_of low bytes ≡ read f p →
      stored high (words_of bytes) f lent ≡ stored low (words_of bytes) f lent
  stored-still lent f p e =
      let x = (read-bytes low bytes f p e).words-read in
      stored-raised (raises_limits r) (words_of bytes) f x.stands x.called lent

  masks-lent : (lent : List ℕ) (f : File) (p : ℕ) → read_lent low bytes (length lent) ≡ read f p →
      masks_after high bytes lent ≡ masks_after low bytes lent
  masks-lent lent f p e =
      ap (λ x. stored_if high (words_of bytes) x lent) (lent_still (length lent) f p e)
      ∙ stored-still lent f p (lent-file (length lent) f p e) ∙ sym (ap (λ x. stored_if low (words_of bytes) x lent) e)
    where
      lent-file : (n : ℕ) (f : File) (p : ℕ) → read_lent low bytes n ≡ read f p → file_of low bytes ≡ read f p
      lent-file n f p e = go (few_numbers bytes n) refl
        where
          go : (b : Bool) → few_numbers bytes n ≡ b → file_of low bytes ≡ read f p
          go true h = absurd (let k = sym (few-lent low bytes n r.low-within h) ∙ e in let z : ◌≡◌ {A = ℕ} 0 1 = cc in omega (arith, z))
          go false h = in_ranges low bytes r.low-within ∙ sym (enough-lent low bytes n r.low-within h) ∙ e

module _ (limits : Limits) (bytes lent : List ℕ) where
  not-accepted : {A : Type 0} {x : Refusal} {n : ℕ} → Err x ≡ Ok n → A
  not-accepted e = absurd (let z : ◌≡◌ {A = ℕ} 0 1 = cc in omega arith)

  -- a refusal before the file is read
  unread-checked : {n p : ℕ} {r : Verdict} → read_lent limits bytes (length lent) ≡ fault n p → r ≡ Err (refusal n p) →
      ((within_ranges limits && few_numbers bytes (length lent)) ≡ false → r ≡ answer_of (verdict_of limits bytes)) →
      CheckedMasks limits bytes lent r lent
  unread-checked {r = r} h e k = record {
    answer = e ∙ sym (ap (λ x. answer_of (judged limits x)) h);
    masks = sym (ap (λ x. stored_if limits (words_of bytes) x lent) h);
    numbers = lent-numbers limits bytes lent;
    as_without = k;
    accepted-without = λ n a. not-accepted (sym e ∙ a);
    exact = demand_2 limits bytes;
    secure = demand_3 limits bytes;
    old-answers = lent-before bytes (length lent);
    accepted-raised = λ high x. accepted-lent limits high x bytes (length lent);
    refused-raised = λ high x. refused-lent limits high x bytes (length lent);
    masks-raised = λ high x. masks-lent limits high x bytes lent;
  }

  pub outside-checked : {x : Refusal} → within_ranges limits ≡ false → x ≡ refusal 19 0 → CheckedMasks limits bytes lent (Err x) lent
  outside-checked w e =
      unread-checked (outside-lent limits bytes (length lent) w) (ap Err e)
      λ _. outcome-answer limits bytes (outside-outcome limits bytes w e) refl

  module _ (w : within_ranges limits ≡ true) where
    pub few-checked : few_numbers bytes (length lent) ≡ true → CheckedMasks limits bytes lent (Err (refusal 17 0)) lent
    few-checked h = unread-checked (few-lent limits bytes (length lent) w h) refl λ k. clash (and_both w h) k

    module _ (h : few_numbers bytes (length lent) ≡ false) where
      abbrev same : Bool → Type 0
      same b = cond b lent lent ≡ lent

      either : (b : Bool) → same b
      either true = refl
      either false = refl

      masks-where : (x : Reading File) → bytes_read limits bytes ≡ x →
          stored_where limits (words_of bytes) x lent ≡ stored_if limits (words_of bytes) x lent
      masks-where (read f p) e = rw (le-ltb (length lent) (word_count (words_of bytes)) (read-enough limits bytes e (length lent) h)) refl
      masks-where (fault n p) e = either (ltb (length lent) (word_count (words_of bytes)))

      verdict-enough : verdict_lent limits bytes (length lent) ≡ verdict_of limits bytes
      verdict-enough = lent-verdict limits bytes (length lent) w ∙ ap (λ b. verdict_by b (verdict_of limits bytes)) h

      pub masks-checked : {low : Limits} {q : Outcome} {r : Verdict} {left : List ℕ} → low ≡ limits →
          OutcomeDone low bytes lent q left → r ≡ answer_from q → CheckedMasks limits bytes lent r left
      masks-checked {q = q} {r} {left} l d e =
          let o = subst (λ x. OutcomeDone x bytes lent q left) l d in
          let answer = outcome-answer limits bytes (within-outcome limits l w d) e in
          record {
            answer = answer ∙ ap answer_of (sym verdict-enough);
            masks =
                o.masks ∙ masks-where (bytes_read limits bytes) refl
                ∙ sym (ap (λ x. stored_if limits (words_of bytes) x lent) (enough-lent limits bytes (length lent) w h));
            numbers = lent-numbers limits bytes lent;
            as_without = λ _. answer;
            accepted-without = λ n k. accepted-verdict (verdict_of limits bytes) n (sym k ∙ answer);
            exact = demand_2 limits bytes;
            secure = demand_3 limits bytes;
            old-answers = lent-before bytes (length lent);
            accepted-raised = λ high x. accepted-lent limits high x bytes (length lent);
            refused-raised = λ high x. refused-lent limits high x bytes (length lent);
            masks-raised = λ high x. masks-lent limits high x bytes lent;
          }

      pub masks-accepted : {low : Limits} {a : Accepted} {left : List ℕ} → low ≡ limits →
          OutcomeDone low bytes lent (Ok a) left → CheckedMasks limits bytes lent (Ok a.count) left
      masks-accepted l d = masks-checked l d refl

  -- the numbers of a refusal by reading, where numbers are lent
  lent-fault : FaultBy 8192 (read_lent limits bytes (length lent))
  unfolding read_lent
  lent-fault = go (within_ranges limits) (few_numbers bytes (length lent))
    where
      go : (a b : Bool) → FaultBy 8192
          (elim a [ true ↦ elim b [ true ↦ fault 17 0 | false ↦ bytes_read limits bytes ] | false ↦ fault 19 0 ])
      go false b = (omega arith, omega arith)
      go true true = (omega arith, omega arith)
      go true false = bytes-fault limits bytes

  lent-few : SmallBy 8192 (verdict_lent limits bytes (length lent))
  lent-few = go (within_ranges limits) (few_numbers bytes (length lent)) refl refl
    where
      go : (a b : Bool) → within_ranges limits ≡ a → few_numbers bytes (length lent) ≡ b → SmallBy 8192 (verdict_lent limits bytes (length lent))
      go false b w h =
          subst (λ x. SmallBy 8192 (judged limits x)) (sym (outside-lent limits bytes (length lent) w)) (omega arith, omega arith)
      go true true w h =
          subst (λ x. SmallBy 8192 (judged limits x)) (sym (few-lent limits bytes (length lent) w h)) (omega arith, omega arith)
      go true false w h = subst (SmallBy 8192) (sym (verdict-enough w h)) (verdict-small limits bytes)

  pub lent-small : {r : Verdict} {left : List ℕ} → CheckedMasks limits bytes lent r left → SmallAnswer r
  lent-small c = answer-small (verdict_lent limits bytes (length lent)) lent-few c.answer

  pub lent-packed : {r : Verdict} {left : List ℕ} {n : ℕ} → CheckedMasks limits bytes lent r left → n ≡ packed_answer r →
      PackedMasks limits bytes lent n left
  lent-packed c h = record { answer = answer-packed (verdict_lent limits bytes (length lent)) c.answer h; masks = c.masks }

-- ---- the workbench call
abbrev PutBy : Reading File → Type 0
PutBy (read f p) = Unit {0}
PutBy (fault n p) = (n ≤ 19) × (p ≤ 8192)

module _ (limits : Limits) (bytes lent : List ℕ) (place : ℕ) (new : List ℕ) where
  unread-by : (x : Reading File) → PutBy (or_unread x)
  unread-by (read f p) = tt
  unread-by (fault n p) = (omega arith, omega arith)

  put-by : PutBy (read_put limits bytes (length lent) place new)
  unfolding read_put
  put-by = by-file (read_lent limits bytes (length lent)) (lent-fault limits bytes lent)
    where
      after : (b : Bool) → PutBy (elim b [ true ↦ or_unread (bytes_read limits (changed bytes place new)) | false ↦ fault 18 0 ])
      after true = unread-by (bytes_read limits (changed bytes place new))
      after false = (omega arith, omega arith)

      by-file : (x : Reading File) → FaultBy 8192 x → PutBy (on_read x λ f p.
          elim (replaceable limits bytes f place new) [
            | true ↦ or_unread (bytes_read limits (changed bytes place new))
            | false ↦ fault 18 0
          ])
      by-file (read f p) h = after (replaceable limits bytes f place new)
      by-file (fault n p) h = h

  not_done : {A : Type 0} {x : Refusal} → ◌≡◌ {A = Replaced} (Err x) (Ok tt) → A
  not_done e = absurd (let z : ◌≡◌ {A = ℕ} 0 1 = cc in omega arith)

  read_done : (x : Reading File) → Ok tt ≡ put_answer x → 0 ≡ packed_put x
  read_done (read f p) e = refl
  read_done (fault n p) e = not_done (sym e)

  read-refused : (x : Reading File) (y : Refusal) → PutBy x → Err y ≡ put_answer x →
      SmallAnswer (Err y) × (y.number * 65536 + y.place ≡ packed_put x)
  read-refused (read f p) y h e = not_done e
  read-refused (fault n p) y h e =
      let a : y.number ≡ n = cc in
      let b : y.place ≡ p = cc in
      ((omega (arith, h.0, a), omega (arith, h.1, b)), omega (arith, a, b))

  module _ {r : Replaced} {left numbers : List ℕ} (d : PutDone limits bytes lent place new r left numbers) where
    pub put-done : r ≡ Ok tt → PackedPut limits bytes lent place new 0 left numbers
    put-done e = record {
      answer = read_done (read_put limits bytes (length lent) place new) (sym e ∙ d.answer);
      file = d.file;
      masks = d.masks;
    }

    pub put_refused : (x : Refusal) {n : ℕ} → r ≡ Err x → n ≡ packed_answer (Err x) →
        PackedPut limits bytes lent place new n left numbers
    put_refused x e h =
        let k = read-refused (read_put limits bytes (length lent) place new) x put-by (sym e ∙ d.answer) in
        record { answer = h ∙ k.1; file = d.file; masks = d.masks }

    pub put_small : (x : Refusal) → r ≡ Err x → SmallAnswer (Err x)
    put_small x e = (read-refused (read_put limits bytes (length lent) place new) x put-by (sym e ∙ d.answer)).0
