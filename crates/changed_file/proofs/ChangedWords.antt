-- Refusal 7 of the changed words, by what is known of the words before.
-- Assumes nothing.
--     exchanged                  a command stands in the place of another
--     can-mend_table             their table
--     same-again, apart-again    7 lets them pass as before
--     fors_again                 their `for`s
use mathlib.Core.Path.{◌≡◌, sym, ap, subst, ◌∙◌}
use Rattle.std.specs.Prelude.{Ok}
use mathlib.Core.Bool.{Bool, true, false}
use mathlib.Core.List.{List}
use mathlib.Core.Logic.{inl, inr}
use Prim.Native.Nat.{ℕ, ◌/◌, ◌%◌, ◌<◌, ◌≤◌}
use native.Mathlib.Omega.{arith}
use borrow.Author.Tests.{eqb-true}
use lib.Dec.{eqb}
use lib.ListN.{length, get_or}
use Rattle.layout.specs.Bytes.{kind_at, payload_at, payloads}
use Rattle.layout.specs.File.{words_read}
use Rattle.ends.specs.Mask.{bit}
use Rattle.ends.proofs.Sizes.{lt_or_le}
use Rattle.scan.specs.ForsMask.{ForsMask, ForsFound}
use Rattle.context.specs.Contexts.{limits_of}
use Rattle.context.specs.declared.Context.{Context}
use Rattle.reader.specs.File.{places_of}
use Rattle.reader.specs.declared.Places.{Places}
use Rattle.splice.specs.SimpleWords.{read_to}
use Rattle.splice.proofs.ReadTo.{read-ends}
use Rattle.changed_file.specs.Changed.{ChangedKnown}
use Rattle.changed_file.specs.Tables.{ReadMarked, Stays, CanMendTable, TableMended, AssignsAny}
use Rattle.changed_file.specs.declared.old.Old.{Old}
use Rattle.changed_file.proofs.Tables.{read-marked_by}
use Rattle.changed_file.proofs.Mended.{Exchanged, outside-same, outside-listed, count_same, new-kind, made-stays, same-found, apart-found}

-- ---- refusals 2 to 7 and 16 of the changed words
module _ {Γ : Context} {v table : List ℕ} {s : Places} {place to : ℕ} {old : Old} (a : ChangedKnown Γ v s table place to old)
    (h : read_to v old.levels place to ≡ true) where
  pub exchanged : Exchanged a.words v place to
  exchanged = record {
    size = a.size;
    before = a.before;
    behind = a.behind;
    old-levels = Γ.depth;
    old = a.simple;
    new-levels = old.levels;
    new = h;
  }

  -- where the first word is as it was
  first_word : {same : Bool} → same ≡ eqb (get_or v place 0) old.first → same ≡ true → get_or v place 0 ≡ get_or a.words place 0
  first_word e k = eqb-true (get_or v place 0) old.first (sym e ∙ k) ∙ a.first

  pub can-mend_table : {same stay : Bool} → same ≡ eqb (get_or v place 0) old.first → Stays v table place to same stay →
      CanMendTable v Γ s table place to stay
  can-mend_table f k =
      let z = read-ends v old.levels place to h in
      record {
        right = a.right h;
        room = a.room;
        order = omega (arith, z.0);
        inside = z.1;
        outside = outside-listed exchanged a.marked.listed;
        stays = λ e after l g i n.
            made-stays exchanged (first_word f) a.marked.listed k e l g i n
            (a.marked.made i (omega (arith, n, count_same exchanged)));
      }

  -- the table was mended
  module _ {stay : Bool} {after : List ℕ} (m : TableMended v Γ s table after stay) where
    found-again : Ok s ≡ places_of (words_read (limits_of Γ) v) → ReadMarked v Γ (Ok s) after
    found-again e = read-marked_by e m.marked

    pub same-again : {same : Bool} → same ≡ eqb (get_or v place 0) old.first → stay ≡ true → same ≡ true → ReadMarked v Γ (Ok s) after
    same-again e y k = found-again (same-found exchanged a.marked a.was_read m.marked (m.kept y) (first_word e k))

    pub apart-again : {r : Bool} → stay ≡ true → AssignsAny old.fors.mask (kind_at v place) (payload_at v place) r → r ≡ false →
        ReadMarked v Γ (Ok s) after
    apart-again y t k = found-again (apart-found exchanged a.marked a.was_read m.marked (m.kept y) a.fors_of.mask-of t k)

  -- the changed words have the same `for`s
  pub fors_again : ForsFound v old.fors
  fors_again = record {
    mask-of = record {
      first = λ at l k.
          subst (λ n. bit mask (n % payloads % 32) ≡ true) (sym (word at k)) (masked.first at (inside at l) (kind at k));
      second = λ at l k.
          subst (λ n. bit mask (n % payloads / 32 % 32) ≡ true) (sym (word at k)) (masked.second at (inside at l) (kind at k));
    };
    before = λ at l k. a.fors_of.before at l (kind at k);
    behind = λ at l m k. a.fors_of.behind at l (inside at m) (kind at k);
  }
    where
      mask : ℕ
      mask = old.fors.mask

      masked : ForsMask a.words mask
      masked = a.fors_of.mask-of

      inside : (at : ℕ) → at < length v → at < length a.words
      inside at l = omega (arith, a.size)

      outside : (at : ℕ) → kind_at v at ≡ 31 → place ≤ at → to ≤ at
      outside at k l = elim (lt_or_le at to) [ inl m ↦ absurd (let z = new-kind exchanged at l m in omega arith) | inr m ↦ m ]

      word : (at : ℕ) → kind_at v at ≡ 31 → get_or v at 0 ≡ get_or a.words at 0
      word at k = outside-same exchanged at (outside at k)

      kind : (at : ℕ) → kind_at v at ≡ 31 → kind_at a.words at ≡ 31
      kind at k = ap (λ n. n / payloads) (sym (word at k)) ∙ k
