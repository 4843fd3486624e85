-- The starred rows of document 01's "Table of files", the least and the greatest payload of each case of request [4] of document 02, and
-- files at the ends of settings (request [6]).
-- Trusted. Assumes nothing.
--     bytes_of                        the bytes of words that are written as kind and payload
--     TableRow                       a file with its verdict; one under settings; a constant's payload with its integer; a run of a `for` over skip
--     store_with, copying, skipped    a store and files of the rows
--     ConstantIs, RanAs              what a constant is worth, and how a run ends
--     Right, AllRight                a row, and each of many, is as the definitions say
--     starred_rows                    the rows of document 01
--     payload_rows                    those of request [4]
--     implied, settings_rows          a file with an implication over one comparison, of depth 3, with sets of one member; those of request [6]
use Rattle.std.specs.Prelude.{◌≡◌, List, [], ◌∷◌, ℕ, ◌+◌, ◌*◌, ◌/◌, ◌%◌, ℤ, pos, negsuc, get_or, replicate}
use Rattle.language.specs.Syntax.{Arithmetic, Expr}
use Rattle.language.specs.Store.{value}
use Rattle.rules.specs.Context.{Limits, standard, settings_of}
use Rattle.rules.specs.Judge.{Verdict, accepted, refused}
use Rattle.layout.specs.Bytes.{words_of, payloads}
use Rattle.layout.specs.Reading.{Reading, read, fault}
use Rattle.layout.specs.Read.{expression}
use Rattle.layout.specs.Verdict.{verdict_of}
use Rattle.execution.specs.Lent.{Lent, store_of}
use Rattle.execution.specs.Ran.{Answer, done, refused as stops, Ran, run_of}

-- k:p
abbrev pub bytes_of : List (ℕ × ℕ) → List ℕ
bytes_of [] = []
bytes_of (w ∷ l) =
    let n = w.0 * payloads + w.1 in
    n % 256 ∷ (n / 256 % 256 ∷ (n / 65536 % 256 ∷ (n / 16777216 ∷ bytes_of l)))

-- `for_skip m budget a n q` runs a `for` over scalar 0 up to scalar 1, which holds m, and is answered a after n steps,
-- with q in scalar 0
pub data TableRow : Type 0 where
  file : List (ℕ × ℕ) → Verdict → TableRow
  under : Limits → List (ℕ × ℕ) → Verdict → TableRow
  constant : ℕ → ℤ → TableRow
  for_skip : ℤ → ℕ → Answer → ℕ → ℤ → TableRow

-- 0 everywhere but for scalar 1
abbrev pub store_with : ℤ → Lent
store_with m = record { scalars = pos 0 ∷ m ∷ replicate 30 (pos 0); values = replicate 2048 (pos 0) }

-- what was read is worth z; in one store, since a constant has one value in all
abbrev pub ConstantIs : Reading (Expr Arithmetic) → ℤ → Type 0
ConstantIs (read e p) z = value e (store_of (store_with (pos 0))) ≡ z
ConstantIs (fault k p) z = ⊥

-- the second file, with word 5 as 2:x
abbrev pub copying : ℕ → List (ℕ × ℕ)
copying x = (63, 10) ∷ (27, 0) ∷ (2, 1) ∷ (32, 1) ∷ (9, 1) ∷ (2, x) ∷ (32, 1) ∷ (9, 1) ∷ (2, 0) ∷ (33, 3) ∷ []

-- a `for` over skip, with a contract that asks nothing
abbrev pub skipped : List (ℕ × ℕ)
skipped = (63, 6) ∷ (31, 32) ∷ (24, 0) ∷ (32, 0) ∷ (32, 0) ∷ (33, 10) ∷ []

abbrev pub RanAs : Ran → Answer → ℕ → ℤ → Type 0
RanAs r a n q = (r.answer ≡ a) × (r.steps ≡ n) × (get_or r.store.scalars 0 (pos 0) ≡ q)

abbrev pub Right : TableRow → Type 0
Right (file l v) = verdict_of standard (bytes_of l) ≡ v
Right (under limits l v) = verdict_of limits (bytes_of l) ≡ v
Right (constant p z) = ConstantIs (expression (words_of (bytes_of ((1, p) ∷ []))) 1 Arithmetic 0) z
Right (for_skip m budget a n q) = RanAs (run_of standard (bytes_of skipped) budget (store_with m)) a n q

abbrev pub AllRight : List TableRow → Type 0
AllRight [] = Unit {0}
AllRight (r ∷ l) = Right r × AllRight l

unfoldable pub starred_rows : List TableRow
starred_rows =
    file ((63, 5) ∷ (24, 0) ∷ (32, 0) ∷ (32, 0) ∷ (33, 1) ∷ []) (accepted 1)
    ∷ file (copying 1) (accepted 1)
    ∷ file (copying 2) (refused 8 9)
    ∷ file [] (refused 1 0)
    ∷ file ((63, 4) ∷ (24, 0) ∷ (32, 0) ∷ (32, 0) ∷ (33, 1) ∷ []) (refused 2 0)
    ∷ file ((63, 4) ∷ (24, 0) ∷ (32, 0) ∷ (32, 0) ∷ []) (refused 3 4)
    ∷ file ((63, 6) ∷ (24, 0) ∷ (32, 0) ∷ (32, 0) ∷ (33, 1) ∷ (24, 0) ∷ []) (refused 6 5)
    ∷ file ((63, 6) ∷ (31, 33) ∷ (24, 0) ∷ (32, 0) ∷ (32, 0) ∷ (33, 10) ∷ []) (refused 7 1)
    ∷ constant 67108863 (negsuc 0)
    ∷ constant 33554432 (negsuc 33554431)
    ∷ for_skip (pos 3) 11 done 11 (pos 4)
    ∷ for_skip (pos 3) 10 (stops 13 1) 10 (pos 4)
    ∷ for_skip (negsuc 4) 2 done 2 (pos 1)
    ∷ []

unfoldable pub payload_rows : List TableRow
payload_rows =
    constant 0 (pos 0) ∷ constant 33554431 (pos 33554431)
    ∷ constant 33554432 (negsuc 33554431) ∷ constant 67108863 (negsuc 0) ∷ []

-- skip, from x0 < 0 ⇒ x9 to false ⇒ x9: false implies x0 < 0
abbrev pub implied : List (ℕ × ℕ)
implied =
    (63, 16) ∷ (24, 0) ∷ (32, 1) ∷ (8, 1) ∷ (2, 0) ∷ (1, 0) ∷ (2, 9) ∷ (32, 1) ∷ (9, 0) ∷ (2, 9) ∷ (33, 7) ∷ (32, 1) ∷ (9, 0) ∷ (2, 9)
    ∷ (34, 18) ∷ (33, 1) ∷ []

unfoldable pub settings_rows : List TableRow
settings_rows =
    under (settings_of 17 128 64) [] (refused 19 0)
    ∷ under (settings_of 10 0 64) [] (refused 19 0)
    ∷ under (settings_of 10 257 64) implied (refused 19 0)
    ∷ under (settings_of 10 128 129) implied (refused 19 0)
    ∷ under (settings_of 0 1 0) [] (refused 1 0)
    ∷ under (settings_of 0 1 0) ((63, 5) ∷ (24, 0) ∷ (32, 0) ∷ (32, 0) ∷ (33, 10) ∷ []) (accepted 1)
    ∷ under (settings_of 0 3 1) implied (refused 9 14)
    ∷ under (settings_of 1 2 1) implied (refused 4 4)
    ∷ under (settings_of 1 3 0) implied (refused 5 2)
    ∷ under (settings_of 1 3 1) implied (accepted 3)
    ∷ under (settings_of 16 256 128) implied (accepted 3)
    ∷ []
