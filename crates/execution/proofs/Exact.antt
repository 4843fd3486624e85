-- The runner's answer on bytes is exact (document 01, "Runner"), for every store that holds the lent values: what it reports
-- is what the definition comes to, and the definition comes to nothing else.
-- Assumes nothing.
--     held-itself, held-once    some store holds a lent store; no two lent stores are held by one
--     not-before                a step that is refused is not among those that are unrefused
--     executes-once             the definition comes to one answer, after one count of steps, in one store
--     executes-number           a refusal that it comes to is 12 to 15
--     executed, reported        it comes to what the runner reports; the runner reports what it comes to
--     steps-within              the steps reported are within the budget
use mathlib.Core.Path.{◌≡◌, refl, sym, subst, ◌∙◌}
use mathlib.Core.Bool.{Bool, true, false}
use mathlib.Core.List.{List}
use mathlib.Core.Option.{some, none-ne-some}
use Prim.Native.Nat.{ℕ, ◌+◌, ◌*◌, ◌/◌, ◌%◌, ◌<◌, ◌≤◌}
use native.Mathlib.Omega.{arith}
use borrow.Author.Tests.{ltb-true, ltb-false, eqb-true, eq-eqb}
use lib.Dec.{eqb, ltb}
use lib.IntN.{pos}
use lib.ListN.{length, get_or}
use lib.Seq.{ext_get_or}
use Rattle.language.specs.Store.{Store}
use Rattle.rules.specs.Context.{Limits}
use Rattle.layout.specs.Reading.{read}
use Rattle.layout.specs.File.{File, file_of}
use Rattle.laws.proofs.Bools.{and_left, and_right, and_both}
use Rattle.execution.specs.Lent.{Lent, store_of, HeldBy}
use Rattle.execution.specs.Run.{End, ended, stopped, run}
use Rattle.execution.specs.Due.{Step}
use Rattle.execution.specs.Ran.{Answer, done, refused, Ran, ran_of, well_sized, body_place, run_of}
use Rattle.execution.specs.Refusal.{refusal}
use Rattle.execution.specs.Executes.{DueIn, RefusalOrder, Unrefused, Executes, ends, stops, Reports}
use Rattle.execution.proofs.Assigned.{Sized}
use Rattle.language.proofs.Once.{one_end, one-count}
use Rattle.execution.proofs.Before.{due-before}
use Rattle.execution.proofs.Refusal.{Number, a_number, number, refusal-within, refusal-left}
use Rattle.execution.proofs.OneStep.{due-once}
use Rattle.execution.proofs.Agrees.{PassesBefore, agrees_ended, agrees_stopped}
use Rattle.execution.proofs.RunAgrees.{CommandAgrees, run-agrees}
use Rattle.execution.proofs.ReadFile.{file-small}
use Rattle.execution.proofs.Order.{run_is, StepJudged, not-read, over-budget, ill_sized, is-run, judged}

-- the test of sizes
sized_of : (m : Lent) → well_sized m ≡ true → Sized m
sized_of m e =
    let a = eqb (length m.scalars) 32 in
    let b = eqb (length m.values) 2048 in
    record { scalars-sized = eqb-true _ 32 (and_left a b e); values-sized = eqb-true _ 2048 (and_right a b e) }

well-sized : (m : Lent) → Sized m → well_sized m ≡ true
well-sized m h = and_both (eq-eqb _ 32 h.scalars-sized) (eq-eqb _ 2048 h.values-sized)

-- a lent store is held by the store that it gives, so what follows is of some store
pub held-itself : (m : Lent) → HeldBy m (store_of m)
held-itself m = record { scalars-held = λ x l. refl; arrays-held = λ a i l k. refl }

-- and two lent stores of the right sizes that one store holds are one: to say what holds it says what it is
pub held-once : (m m' : Lent) (s : Store) → well_sized m ≡ true → well_sized m' ≡ true → HeldBy m s → HeldBy m' s → m ≡ m'
held-once m m' s e e' h h' =
    let z = sized_of m e in
    let z' = sized_of m' e' in
    let l = z.scalars-sized in
    let l' = z'.scalars-sized in
    let k = z.values-sized in
    let k' = z'.values-sized in
    let scalars : m.scalars ≡ m'.scalars =
    ext_get_or (pos 0) m.scalars m'.scalars (omega arith) λ i b.
    h.scalars-held i (omega arith) ∙ sym (h'.scalars-held i (omega arith)) in
    let values : m.values ≡ m'.values =
    ext_get_or (pos 0) m.values m'.values (omega arith) λ i b.
    let q : 64 * (i / 64) + i % 64 ≡ i = omega arith in
    subst (λ j. get_or m.values j (pos 0) ≡ get_or m'.values j (pos 0)) q
    (h.arrays-held (i / 64) (i % 64) (omega arith) (omega arith)
    ∙ sym (h'.arrays-held (i / 64) (i % 64) (omega arith) (omega arith))) in
    λ i. record { scalars = scalars i; values = values i }

-- ---- The definition comes to one answer.

-- two steps, by which comes first
by_count : {A : Type 0} (j n : ℕ) → (j < n → A) → (n < j → A) → (j ≡ n → A) → A
by_count {A} j n earlier later same = go (ltb j n) refl (ltb n j) refl
  where
    go : (v : Bool) → ltb j n ≡ v → (w : Bool) → ltb n j ≡ w → A
    go true v w z = earlier (ltb-true j n v)
    go false v true z = later (ltb-true n j z)
    go false v false z =
        let a = ltb-false j n v in
        let b = ltb-false n j z in
        same (omega arith)

-- a step that is refused is not among those before a count that are unrefused
pub not-before : {A : Type 0} {said : RefusalOrder} {f : File} {s : Store} {n i k p : ℕ} {d : Step} {t : Store} →
    Unrefused said f s n → DueIn f s i d p t → said i d t ≡ some k → i < n → A
not-before {k = k} u due e l = absurd (none-ne-some k (sym (u.unrefused due l) ∙ e))

pub record SameEnd (a : Answer) (n : ℕ) (t : Store) (a' : Answer) (n' : ℕ) (t' : Store) : Type 0 where
  pub same_answer : a ≡ a'
  pub same_count : n ≡ n'
  pub same_store : t ≡ t'

pub executes-once : {said : RefusalOrder} {f : File} {s : Store} {a : Answer} {n : ℕ} {t : Store}
    {a' : Answer} {n' : ℕ} {t' : Store} →
    Executes said f s a n t → Executes said f s a' n' t' → SameEnd a n t a' n' t'
executes-once (ends u r) (ends u' r') =
    record { same_answer = refl; same_count = one-count r r'; same_store = one_end r r' }
executes-once (ends u r) (stops u' due e) = not-before u due e (due-before due r)
executes-once (stops u due e) (ends u' r) = not-before u' due e (due-before due r)
executes-once {said} (stops {n = n} {k = k} {d = d} {t = t} u due e) (stops {n = n'} {k = k'} {d = d'} {t = t'} u' due' e') =
    by_count n n' (not-before u' due e) (not-before u due' e') λ q.
    let x = due-once due due' q in
    let here : said n d t ≡ said n' d' t' = cc (q, x.same_step, x.same_store) in
    let numbers : k ≡ k' = cc (e, e', here) in
    record {
      same_answer = cc (numbers, x.same_place);
      same_count = q;
      same_store = x.same_store;
    }

-- a refusal that it comes to is 12 to 15
pub executes-number : (budget : ℕ) {f : File} {s : Store} {k p n : ℕ} {t : Store} →
    Executes (refusal budget) f s (refused k p) n t → (12 ≤ k) × (k ≤ 15)
executes-number budget {n = n} {t} (stops {d = d} u due e) = bounds (subst (Number 12) e (number budget n d t))
  where
    bounds : {k : ℕ} → Number 12 (some k) → (12 ≤ k) × (k ≤ 15)
    bounds (a_number l h) = (l, h)

-- ---- The definition comes to what a run on a budget reports.

passed : {f : File} {s : Store} {budget n : ℕ} → PassesBefore (DueIn f s) n → n ≤ budget →
    Unrefused (refusal budget) f s n
passed {budget = budget} g b = record {
  unrefused = λ {k} {d} {p} {t} x l. refusal-within k budget d t (omega arith) ∙ g.passes-before x l;
}

pub record Executed (f : File) (s : Store) (budget : ℕ) (r : Ran) : Type 0 where
  pub answer : Answer
  pub count : ℕ
  pub last : Store
  pub executes : Executes (refusal budget) f s answer count last
  pub reports : Reports r answer count last

-- the run of a file's main program agrees with the definition
abbrev FileAgrees : File → Store → ℕ → End → Type 0
FileAgrees f s n x = CommandAgrees (body_place f) f.main.command f.main.start s n x

run-executed : {f : File} {s : Store} {budget : ℕ} {x : End} → FileAgrees f s budget x →
    Executed f s budget (ran_of budget x)
run-executed (agrees_ended k l {m = m} {t = t} r f h e) = record {
  answer = done;
  count = k;
  last = t;
  executes = ends (passed f (omega arith)) r;
  reports = record { answer = refl; steps = omega arith; held = h.held; sized = well-sized m h.sized };
}
run-executed {budget = budget} (agrees_stopped k l {number = i} {p = p} {d = d} {m = m} {t = t} due q f h e) = record {
  answer = refused i p;
  count = k;
  last = t;
  executes = stops (passed f (omega arith)) due (refusal-left k l budget d t e ∙ q);
  reports = record { answer = refl; steps = omega arith; held = h.held; sized = well-sized m h.sized };
}

-- ---- The answer on bytes, of a file whose program is run.
module _ (limits : Limits) (bytes : List ℕ) (budget : ℕ) (m : Lent) (f : File) (p : ℕ)
    (e : file_of limits bytes ≡ read f p) (l : budget ≤ 1000000) (h : well_sized m ≡ true) (s : Store) (held : HeldBy m s)
  where
    pub executed : Executed f s budget (run_of limits bytes budget m)
    executed =
        rw (run_is limits bytes budget m f p e l h)
        (run-executed (run-agrees f.main.command (file-small limits bytes f p e) f.main.start budget m s
        (record { sized = sized_of m h; held = held })))

    pub reported : (a : Answer) (n : ℕ) (t : Store) → Executes (refusal budget) f s a n t →
        Reports (run_of limits bytes budget m) a n t
    reported a n t x =
        let y = executed in
        let r = y.reports in
        let z = executes-once y.executes x in
        record {
          answer = r.answer ∙ z.same_answer;
          steps = r.steps ∙ z.same_count;
          held = subst (HeldBy (run_of limits bytes budget m).store) z.same_store r.held;
          sized = r.sized;
        }

-- ---- The steps reported are within the budget.
pub steps-within : (limits : Limits) (bytes : List ℕ) (budget : ℕ) (m : Lent) →
    (run_of limits bytes budget m).steps ≤ budget
steps-within limits bytes budget m = by_order (judged limits bytes budget m)
  where
    of-run : (x : End) → (ran_of budget x).steps ≤ budget
    of-run (ended n m) = omega arith
    of-run (stopped k p n m) = omega arith

    by_order : {r : Ran} → StepJudged limits bytes budget m r → r.steps ≤ budget
    by_order (not-read e) = omega arith
    by_order (over-budget e l) = omega arith
    by_order (ill_sized e l h) = omega arith
    by_order (is-run {f = f} e l h) = of-run (run (body_place f) f.main.command f.main.start budget m)
