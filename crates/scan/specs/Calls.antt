-- Refusal 16 (document 02, request [3]) on words: a word of kind 38 is a call, and the list of ends has where the programs start.
-- Working: `wrong_calls` of proofs/WrongCalls ties it to the layout's `wrong_call`. Assumes nothing.
--     callable_from      how many procedures end before a place, by the starts of the programs that follow them
--     wrong_at           at the place stands a call to another number
use Rattle.std.specs.Prelude.{Bool, not, ◌&&◌, cond, List, ℕ, zero, suc, eqb, ltb, leb}
use Rattle.layout.specs.Bytes.{kind_at, payload_at}
use Rattle.ends.specs.Procedures.{start_at}
use Rattle.scan.specs.Programs.{procedure_count}

-- i procedures do, and k more are left; procedure i ends where program i + 1 starts
unfoldable pub callable_from : (ℕ → ℕ) → ℕ → ℕ → ℕ → ℕ
callable_from start zero i at = i
callable_from start (suc k) i at = cond (leb (start (suc i)) at) (callable_from start k (suc i) at) i

unfoldable pub wrong_at : List ℕ → List ℕ → ℕ → Bool
wrong_at file ends at =
    eqb (kind_at file at) 38
    && not (ltb (payload_at file at) (callable_from (start_at file ends) (procedure_count file) 0 at))
