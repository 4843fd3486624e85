-- Tables without masks of blocks, and refusal 7 by them.
-- Assumes nothing.
--     right-marked, marked-right     what refusals 2 to 6 and 16 let pass, with its ends and the masks of its procedures; and back
--     marked-blocked                 with masks of blocks
--     kept_same, kept-blocked        the starts are as they were
--     marked-file                    the masks are those of the file that was read
--     called-read, same-file, steady-before
--                                    what refusals 16 and 7 let pass; it is that file; no `for` is refused
--     marked-none, found_none, marked-some
--                                    refusal 7 by the first place
--     kept_on, right-moved           the starts, and what refusals 2 to 6 and 16 let pass, in another list
--     filled_marked                  the table that is filled
--     can-scan, can-scan_blocks      what the scan asks, without masks of blocks and with them
--     steadied-without, steadied-none, steadied-some, steadied-blocked
--                                    refusal 7, by what the code finds
--     tabled_again, read-marked_by, steadied-again
--                                    what is left for the masks of all words
--     mended_stays, mended_masks     the table of other words
--     change-behind, change-start, change-same, change-past
--                                    whether what a command modifies may change
--     StaysBefore                    what the procedures before one modify stays
--     assigns-unknown, assigns-nothing, assigns-scalar, assigns-array
--                                    whether a word assigns an identifier of a mask
use mathlib.Core.Path.{◌≡◌, refl, sym, ap, ap₂, subst, ◌∙◌}
use Rattle.std.specs.Prelude.{Ok, Err}
use Rattle.std.specs.Prelude as std
use mathlib.Core.Bool.{Bool, true, false}
use mathlib.Core.List.{List}
use mathlib.Core.Logic.{inl, inr}
use mathlib.Core.Option.{Option, none, some}
use Prim.Native.Nat.{ℕ, ◌+◌, ◌*◌, ◌/◌, ◌%◌, ◌^◌, ◌<◌, ◌≤◌}
use native.Mathlib.Omega.{arith}
use borrow.Author.Tests.{eqb-true, ltb-false}
use lib.Dec.{ltb}
use lib.ListN.{length, get_or}
use Rattle.laws.proofs.Bools.{clash}
use Rattle.rules.specs.Context.{Limits}
use Rattle.layout.specs.Bytes.{word_count}
use Rattle.layout.specs.Reading.{Reading, read, fault, on_read, first_place}
use Rattle.layout.specs.Call.{wrong_call}
use Rattle.layout.specs.For.{unsteady_at}
use Rattle.layout.specs.File.{File, calls_tested, steady_file, words_read}
use Rattle.ends.specs.Sizes.{Filled}
use Rattle.ends.specs.Mend.{Mended}
use Rattle.ends.specs.Mask.{bit}
use Rattle.ends.specs.Places.{end_at}
use Rattle.ends.proofs.Sizes.{lt_or_le}
use Rattle.ends.proofs.Bits.{bit-power}
use Rattle.ends.proofs.Marks.{unwritten-below}
use Rattle.ends.specs.Blocks.{table_at, Blocked, written, if_any}
use Rattle.ends.specs.Ends.{EndsListed}
use Rattle.ends.specs.Procedures.{start_at}
use Rattle.ends.proofs.Table.{ends-listed, listed-blocks}
use Rattle.scan.specs.Programs.{procedure_count, StartsListed, MaskMade, Masked}
use Rattle.scan.specs.Steady.{file_context, MaskedFile, CanScanFors, FirstFound}
use Rattle.scan.specs.ForsMask.{ForsMask, ForsFound}
use Rattle.scan.specs.declared.for_mask.Fors.{Fors}
use Rattle.scan.proofs.ProcedureMasks.{made-moved}
use Rattle.scan.proofs.WrongCalls.{wrong_calls}
use Rattle.scan.proofs.Procedures.{masks-known}
use Rattle.scan.proofs.StillSteady.{no-fors}
use Rattle.context.specs.Contexts.{limits_of, refusal}
use Rattle.context.specs.declared.Context.{Context}
use Rattle.reader.specs.File.{places_of, read_of}
use Rattle.reader.proofs.Whole.{words-read}
use Rattle.reader.specs.declared.Places.{Places}
use Rattle.reader.specs.Program.{Layout}
use Rattle.file.specs.Found.{CallsRight, TableRoom, Tabled}
use Rattle.file.proofs.Found.{ReadAt, found-read, read-file, words-steady, words-unsteady}
use Rattle.file.proofs.Files.{starts-moved, no-fault, some-fault}
use Rattle.changed_file.specs.Tables.{Marked, StartsKept, Steadied, ReadMarked, Unchanged, MayChange}
use Rattle.changed_file.specs.Tables.{SameBehind, CanMendTable, TableMended, AssignsAny}

-- what refusals 16 and 7 let pass
pub called-read : (limits : Limits) (w : List ℕ) (x : Reading File) {f : File} {p : ℕ} → on_read x (calls_tested limits w) ≡ read f p →
    (x ≡ read f p) × (first_place (unsteady_at (file_context limits f) w) (word_count w) 0 ≡ none)
unfolding calls_tested steady_file
called-read limits w (read g q) {f} {p} e =
    go (first_place (wrong_call w g.procedures) (word_count w) 0)
    (first_place (unsteady_at (file_context limits g) w) (word_count w) 0) refl e
  where
    go : (a b : Option ℕ) → first_place (unsteady_at (file_context limits g) w) (word_count w) 0 ≡ b →
        ◌≡◌ {A = Reading File} (elim a [ none ↦ elim b [ none ↦ read g q | some at ↦ fault 7 at ] | some at ↦ fault 16 at ]) (read f p) →
        (read g q ≡ read f p) × (first_place (unsteady_at (file_context limits f) w) (word_count w) 0 ≡ none)
    go none none h e =
        let z : g ≡ f = cc in
        (e, subst (λ k. first_place (unsteady_at (file_context limits k) w) (word_count w) 0 ≡ none) z h)
    go none (some at) h e = absurd (let z : ◌≡◌ {A = ℕ} 0 1 = cc in omega arith)
    go (some at) b h e = absurd (let z : ◌≡◌ {A = ℕ} 0 1 = cc in omega arith)
called-read limits w (fault n q) e = absurd (let z : ◌≡◌ {A = ℕ} 0 1 = cc in omega arith)

-- ---- by refusals 2 to 6 and 16
pub right-marked : {w before after : List ℕ} {Γ : Context} {s : Places} → CallsRight w Γ s before → EndsListed w after →
    ((i : ℕ) → i ≤ 16 → start_at w after i ≡ start_at w before i) → ((i : ℕ) → i < procedure_count w → MaskMade w after i) →
    Marked w Γ s after
right-marked {w} {before} {after} {Γ} c l h m = record {
  listed = l;
  found = c.found.found;
  starts = λ f p e. starts-moved w before after h f (read-file (limits_of Γ) w f p e).few (c.found.starts f p e);
  called = λ f p e.
      ap (λ t. first_place t (word_count w) 0)
      (sym (wrong_calls w before (limits_of Γ) f (read-file (limits_of Γ) w f p e) (c.found.starts f p e))) ∙ c.right;
  made = m;
}

pub marked-right : {w table : List ℕ} {Γ : Context} {s : Places} → Marked w Γ s table → CallsRight w Γ s table
marked-right {w} {table} {Γ} {s} m =
    let r = found-read (read_of (limits_of Γ) w) s m.found in
    record {
      found = record { found = m.found; starts = m.starts };
      right =
          ap (λ t. first_place t (word_count w) 0)
          (wrong_calls w table (limits_of Γ) r.file (read-file (limits_of Γ) w r.file r.end r.was_read)
          (m.starts r.file r.end r.was_read))
          ∙ m.called r.file r.end r.was_read;
    }

pub kept_same : {w table : List ℕ} → StartsKept w table table
kept_same = record { kept = λ i h. refl }

module _ {w table : List ℕ} {Γ : Context} {s : Places} (m : Marked w Γ s table) where
  pub marked-blocked : {after : List ℕ} → Blocked w table after → Marked w Γ s after
  marked-blocked {after} b =
      right-marked (marked-right m) (ends-listed (listed-blocks m.listed b)) (λ i h. b.rest-kept (table_at w + i) (omega arith))
      (λ i h. made-moved (record {
        ends = b.kept;
        starts = b.rest-kept (table_at w + i) (omega arith);
        masks = λ j k.
            ap₂ (λ x y. x + 4294967296 * y) (b.rest-kept (table_at w + 17 + 2 * j) (omega arith))
            (b.rest-kept (table_at w + 17 + 2 * j + 1) (omega arith));
      }) (m.made i h))

  abbrev pub it : ReadAt (read_of (limits_of Γ) w) s
  it = found-read (read_of (limits_of Γ) w) s m.found

  pub marked-file : MaskedFile w table (limits_of Γ) it.file
  marked-file =
      let f = it.file in
      let p = it.end in
      let e = it.was_read in
      let stood = read-file (limits_of Γ) w f p e in
      record {
        stands = stood;
        called = m.called f p e;
        masks = masks-known w table m.listed (limits_of Γ) f stood (m.called f p e) (m.starts f p e) m.made;
      }

  abbrev Unsteady : Option ℕ → Type 0
  Unsteady o = first_place (unsteady_at (file_context (limits_of Γ) it.file) w) (word_count w) 0 ≡ o

  pub marked-none : Unsteady none → words_read (limits_of Γ) w ≡ read it.file it.end
  marked-none h = words-steady (limits_of Γ) w it.file it.end it.was_read (m.called it.file it.end it.was_read) h

  pub found_none : Unsteady none → Ok s ≡ places_of (words_read (limits_of Γ) w)
  found_none h = ap Ok it.at ∙ sym (ap places_of (marked-none h))

  marked-some : (at : ℕ) → Unsteady (some at) → words_read (limits_of Γ) w ≡ fault 7 at
  marked-some at h =
      words-unsteady (limits_of Γ) w it.file it.end at it.was_read (m.called it.file it.end it.was_read) h

  -- what was read is that file
  pub same-file : {f : File} {p : ℕ} → words_read (limits_of Γ) w ≡ read f p → (it.file ≡ f) × Unsteady none
  same-file {f} {p} e =
      let z = called-read (limits_of Γ) w (read_of (limits_of Γ) w) (sym (words-read (limits_of Γ) w) ∙ e) in
      let y : read it.file it.end ≡ read f p = sym it.was_read ∙ z.0 in
      let i : f ≡ it.file = cc in
      (sym i, subst (λ g. first_place (unsteady_at (file_context (limits_of Γ) g) w) (word_count w) 0 ≡ none) i z.1)

  pub steady-before : Ok s ≡ places_of (words_read (limits_of Γ) w) → Unsteady none
  steady-before h = let r = found-read (words_read (limits_of Γ) w) s h in (same-file r.was_read).1

  -- ---- refusal 7
  pub steadied-without : {fors : Fors} → ForsFound w fors → fors.mask ≡ 0 → Steadied w Γ s (Ok s) table table
  steadied-without h e = record {
    layout = found_none (no-fors w (file_context (limits_of Γ) it.file) (subst (ForsMask w) e h.mask-of));
    marked = m;
    starts = kept_same;
  }

  pub can-scan : {fors : Fors} → ForsFound w fors → CanScanFors w table fors.first fors.past false
  can-scan h = record { listed = m.listed; blocks = λ e. clash e refl; before = h.before; behind = h.behind }

  pub can-scan_blocks : {fors : Fors} {after : List ℕ} → ForsFound w fors → Blocked w table after →
      CanScanFors w after fors.first fors.past true
  can-scan_blocks h b =
      record { listed = (marked-blocked b).listed; blocks = λ _. b.blocks; before = h.before; behind = h.behind }

pub kept-blocked : {w table after : List ℕ} → Blocked w table after → StartsKept w table after
kept-blocked {w} b = record { kept = λ i h. b.rest-kept (table_at w + i) (omega arith) }

module _ {w table : List ℕ} {Γ : Context} {s : Places} (n : Marked w Γ s table) where
  pub steadied-none : FirstFound w table std.None → Steadied w Γ s (Ok s) table table
  steadied-none f = record {
    layout = found_none n (no-fault _ (f.place (limits_of Γ) (it n).file (marked-file n)));
    marked = n;
    starts = kept_same;
  }

  pub steadied-some : (at : ℕ) → FirstFound w table (std.Some at) → Steadied w Γ s (Err (refusal 7 at)) table table
  steadied-some at f = record {
    layout = sym (ap places_of (marked-some n at (some-fault _ at (f.place (limits_of Γ) (it n).file (marked-file n)))));
    marked = n;
    starts = kept_same;
  }

-- with masks of blocks
pub steadied-blocked : {w before table : List ℕ} {Γ : Context} {s : Places} {r : Layout} → Blocked w before table →
    Steadied w Γ s r table table → Steadied w Γ s r before table
steadied-blocked b t = record { layout = t.layout; marked = t.marked; starts = kept-blocked b }

-- ---- the starts
pub kept_on : {w a b c : List ℕ} → StartsKept w a b → StartsKept w b c → StartsKept w a c
kept_on h k = record { kept = λ i l. k.kept i l ∙ h.kept i l }

-- of words as many
pub right-moved : {w v before after : List ℕ} {Γ : Context} {s : Places} → length v ≡ length w → StartsKept w before after →
    CallsRight v Γ s before → CallsRight v Γ s after
right-moved {w} {v} {before} {after} {Γ} {s} n k c =
    let starts : (f : File) (p : ℕ) → read_of (limits_of Γ) v ≡ read f p → StartsListed v after f =
    λ f p e. starts-moved v before after moved f (read-file (limits_of Γ) v f p e).few (c.found.starts f p e) in
    let r = found-read (read_of (limits_of Γ) v) s c.found.found in
    let stood = read-file (limits_of Γ) v r.file r.end r.was_read in
    record {
      found = record { found = c.found.found; starts = starts };
      right =
          ap (λ t. first_place t (word_count v) 0)
          (wrong_calls v after (limits_of Γ) r.file stood (starts r.file r.end r.was_read)
          ∙ sym (wrong_calls v before (limits_of Γ) r.file stood (c.found.starts r.file r.end r.was_read)))
          ∙ c.right;
    }
  where
    moved : (i : ℕ) → i ≤ 16 → start_at v after i ≡ start_at v before i
    moved i h =
        ap (λ m. get_or after (m + 2 * (m / 32) + i) 0) n ∙ k.kept i h ∙ ap (λ m. get_or before (m + 2 * (m / 32) + i) 0) (sym n)

-- ---- the table that is filled
pub filled_marked : {w before ends after : List ℕ} {Γ : Context} {s : Places} → CallsRight w Γ s before → TableRoom w before →
    Filled w before ends → length ends ≡ length before → Masked w ends after → Marked w Γ s after × StartsKept w before after
filled_marked {w} {before} {after = after} c t f e m = (
  right-marked c (record { room = omega (arith, t.room, m.same_length, e); sized = λ at h. m.kept at (omega arith) ∙ f.ended at h })
      starts m.made,
  record { kept = starts },
)
  where
    starts : (i : ℕ) → i ≤ 16 → start_at w after i ≡ start_at w before i
    starts i h = m.kept (table_at w + i) (omega arith) ∙ f.kept (table_at w + i) (omega arith)

-- ---- what is left for the masks of all words
pub tabled_again : {w table : List ℕ} {Γ : Context} {r : Layout} → Tabled w Γ r table → ReadMarked w Γ r table
tabled_again t = record {
  layout = t.layout;
  listed = λ s e. ends-listed (t.ends_of s e);
  masked = λ f p e. (t.known f p e).masked;
}

pub read-marked_by : {w table : List ℕ} {Γ : Context} {s : Places} {r : Layout} → r ≡ places_of (words_read (limits_of Γ) w) → Marked w Γ s table →
    ReadMarked w Γ r table
read-marked_by {w} {table} {Γ} e m = record {
  layout = e;
  listed = λ _ _. m.listed;
  masked = λ f p h. subst (MaskedFile w table (limits_of Γ)) (same-file m h).0 (marked-file m);
}

pub steadied-again : {w before table : List ℕ} {Γ : Context} {s : Places} {r : Layout} → Steadied w Γ s r before table → ReadMarked w Γ r table
steadied-again t = read-marked_by t.layout t.marked

-- ---- the table of other words
module _ {v table after : List ℕ} {Γ : Context} {s : Places} {from to : ℕ} {stay : Bool} (c : CanMendTable v Γ s table from to stay)
    (m : Mended v table after from to) where
  mended_listed : EndsListed v after
  mended_listed = record {
    room = omega (arith, c.room.room, m.same_length);
    sized = λ at h. elim (lt_or_le at from) [
      | inl l ↦ m.kept-before at l ∙ c.outside at h (λ k. absurd (omega arith))
      | inr l ↦ m.sized at l h
    ];
  }

  mended_agrees : SameBehind (length v) table after
  mended_agrees = record { same_length = m.same_length; behind = λ at h. m.kept-behind at (omega (arith, c.inside)) }

  pub mended_stays : stay ≡ true → TableMended v Γ s table after stay
  mended_stays h = record {
    marked = right-marked c.right mended_listed (λ i h. mended_agrees.behind (table_at v + i) (omega arith))
        (λ i l. c.stays h after mended_listed mended_agrees i l);
    kept = λ _. mended_agrees;
  }

  pub mended_masks : {left : List ℕ} → Masked v after left → stay ≡ false → TableMended v Γ s table left stay
  mended_masks k h = record {
    marked = right-marked c.right
        (record {
          room = omega (arith, mended_listed.room, k.same_length);
          sized = λ at h. k.kept at (omega arith) ∙ mended_listed.sized at h;
        })
        (λ i l. k.kept (table_at v + i) (omega (arith, l)) ∙ mended_agrees.behind (table_at v + i) (omega arith)) k.made;
    kept = λ e. clash e h;
  }

-- ---- whether the masks of procedures stay
module _ {start past from to : ℕ} {same : Bool} where
  pub change-behind : to ≤ start → MayChange start past from to same false
  change-behind h = record { unchanged = λ _. record { outside = λ _. h; apart = λ _. inr h } }

  pub change-start : MayChange start past from to same true
  change-start = record { unchanged = λ e. clash refl e }

  pub change-same : start ≤ from → same ≡ true → MayChange start past from to same false
  change-same h e = record { unchanged = λ _. record { outside = λ l. absurd (omega arith); apart = λ n. clash e n } }

  pub change-past : start ≤ from → MayChange start past from to same (ltb from past)
  change-past h = record {
    unchanged = λ e. record { outside = λ l. absurd (omega arith); apart = λ n. inl (ltb-false from past e) };
  }

-- of the procedures before i
pub record StaysBefore (file table : List ℕ) (from to : ℕ) (same : Bool) (i : ℕ) : Type 0 where
  pub each : (j : ℕ) → j < i → Unchanged (start_at file table j) (end_at table (start_at file table j)) from to same

-- ---- whether a word assigns an identifier of a mask
module _ {mask k p : ℕ} where
  pub assigns-unknown : AssignsAny mask k p true
  assigns-unknown = record { none = λ e. clash refl e }

  pub assigns-nothing : {n : ℕ} → k ≡ n → n < 27 → AssignsAny mask k p false
  assigns-nothing e h = record {
    none = λ _ called i f _. clash f (ap (if_any (λ n. bit n i)) (unwritten-below called k p (omega arith)));
  }

  -- one identifier
  assigns-one : (j : ℕ) → ((called : ℕ → ℕ) → written called k p ≡ some (2 ^ j)) → AssignsAny mask k p (bit mask j)
  assigns-one j h = record {
    none = λ e called i f g.
        let z = sym (bit-power j i) ∙ ap (if_any (λ n. bit n i)) (sym (h called)) ∙ f in
        clash g (ap (bit mask) (sym (eqb-true j i z)) ∙ e);
  }

  pub assigns-scalar : k ≡ 27 → AssignsAny mask k p (bit mask (p % 32))
  unfolding written
  assigns-scalar e = assigns-one (p % 32) (λ called. ap (λ i. written called i p) e)

  pub assigns-array : k ≡ 28 → AssignsAny mask k p (bit mask (32 + p % 32))
  unfolding written
  assigns-array e = assigns-one (32 + p % 32) (λ called. ap (λ i. written called i p) e)
