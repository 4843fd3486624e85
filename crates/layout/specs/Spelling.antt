-- How expressions, commands and sets stand in a file (document 01, "Layout"): by their words, within the limits.
-- Working: `command-past` and `set_past` of proofs/Spelled, `command-stands` and `set-stands` of proofs/Back say that
-- the reader reads exactly what stands so in a file. Assumes nothing.
--     payload_of, encode                          the payload of an integer; a word as a number
--     SpelledAt                                  words stand in a file one after the other, from a place on
--     FitsConstant, FitsExpression, FitsCommand  its depth is at most the levels given, its payloads are in range
--     member_words, members_words, set_words        the words of a set
--     FitsMembers, FitsSet                       the same of a set
use Rattle.std.specs.Prelude.{◌≡◌, List, [], ◌∷◌, ◌++◌, ℕ, zero, suc, ◌+◌, ◌*◌, ◌-◌, ◌<◌, ◌≤◌, ℤ, pos, negsuc, length}
use Rattle.language.specs.Syntax.{Sort, Expr, constant, scalar, operation, select, compare, truth, and, or, neg}
use Rattle.language.specs.Syntax.{array, zeros, update, to_scalar, to_array}
use Rattle.language.specs.Syntax.{Command, skip, sequence, assert, assign, if_else, while, for, call}
use Rattle.rules.specs.Words.{Word, word, for_word, words}
use Rattle.rules.specs.Assertion.{Member, Members}
use Rattle.rules.specs.Context.{Context, item_at, body_of}
use Rattle.layout.specs.Bytes.{word_count, number_at, payloads}

-- two's complement in 26 bits
abbrev pub payload_of : ℤ → ℕ
payload_of (pos n) = n
payload_of (negsuc n) = payloads - suc n

abbrev pub encode : Word → ℕ
encode (word k z) = k * payloads + payload_of z
encode (for_word q m) = 31 * payloads + (q + 32 * m)

abbrev pub SpelledAt : List ℕ → ℕ → List Word → Type 0
SpelledAt file at [] = Unit {0}
SpelledAt file at (w ∷ l) = (at < word_count file) × (number_at file at ≡ encode w) × SpelledAt file (at + 1) l

-- −33,554,432 to 33,554,431
abbrev pub FitsConstant : ℤ → Type 0
FitsConstant (pos n) = n ≤ 33554431
FitsConstant (negsuc n) = suc n ≤ 33554432

unfoldable pub FitsExpression : {k : Sort} → Expr k → ℕ → Type 0
FitsExpression e zero = ⊥
FitsExpression (constant z) (suc d) = FitsConstant z
FitsExpression (scalar x) (suc d) = x ≤ 31
FitsExpression (operation o a b) (suc d) = FitsExpression a d × FitsExpression b d
FitsExpression (select h i) (suc d) = FitsExpression h d × FitsExpression i d
FitsExpression (compare r a b) (suc d) = FitsExpression a d × FitsExpression b d
FitsExpression (truth t) (suc d) = Unit {0}
FitsExpression (and b c) (suc d) = FitsExpression b d × FitsExpression c d
FitsExpression (or b c) (suc d) = FitsExpression b d × FitsExpression c d
FitsExpression (neg b) (suc d) = FitsExpression b d
FitsExpression (array a) (suc d) = a ≤ 31
FitsExpression zeros (suc d) = Unit {0}
FitsExpression (update h i a) (suc d) = FitsExpression h d × (FitsExpression i d × FitsExpression a d)

unfoldable pub FitsCommand : Context → Command → ℕ → Type 0
FitsCommand Γ c zero = ⊥
FitsCommand Γ skip (suc d) = Unit {0}
FitsCommand Γ (sequence c₁ c₂) (suc d) = FitsCommand Γ c₁ d × FitsCommand Γ c₂ d
FitsCommand Γ (assert b) (suc d) = FitsExpression b d
FitsCommand Γ (assign (to_scalar x e)) (suc d) = (x ≤ 31) × FitsExpression e d
FitsCommand Γ (assign (to_array a e)) (suc d) = (a ≤ 31) × FitsExpression e d
FitsCommand Γ (if_else b c₁ c₂) (suc d) = FitsExpression b d × (FitsCommand Γ c₁ d × FitsCommand Γ c₂ d)
FitsCommand Γ (while b c) (suc d) = FitsExpression b d × FitsCommand Γ c d
FitsCommand Γ (for q m c) (suc d) = ((q ≤ 31) × (m ≤ 31)) × FitsCommand Γ c d
FitsCommand Γ (call p c) (suc d) = (p < payloads) × (c ≡ body_of (item_at Γ.procedures p))

abbrev pub member_words : Member → List Word
member_words m = words m.antecedent ++ words m.consequent

abbrev pub members_words : Members → List Word
members_words [] = []
members_words (m ∷ p) = member_words m ++ members_words p

abbrev pub set_words : Members → List Word
set_words p = word 32 (pos (length p)) ∷ members_words p

abbrev pub FitsMembers : Members → ℕ → Type 0
FitsMembers [] d = Unit {0}
FitsMembers (m ∷ p) d = (FitsExpression m.antecedent d × FitsExpression m.consequent d) × FitsMembers p d

-- the count of members is within the limit and is a payload
unfoldable pub FitsSet : Context → Members → ℕ → Type 0
FitsSet Γ p zero = ⊥
FitsSet Γ p (suc d) = ((length p ≤ Γ.limits.members) × (length p < payloads)) × FitsMembers p d
