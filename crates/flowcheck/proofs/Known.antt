-- Reads and writes one after the other, where the bytes are known.
-- Assumes nothing.
--     written-more    a write goes on where what was written of a line ended
--     read-more       a read goes on where what was read ended
use Rattle.std.proofs.Common.{◌≡◌, ℕ, ◌+◌, ◌≤◌, List, ◌++◌, None, Some, Option, length, length-take-le, take, drop, sym, ap, subst, ◌∙◌, append_assoc}
use Rattle.std.proofs.Math.Seq.{take-add, take-append-add}
use Rattle.std.proofs.lemmas.List.{take-append-le}
use borrow.Rule.Slice.PartMut.{put_mid, post_of}
use Rattle.std.specs.Io.KnownBytes.{Appends, Consumes}

appends-both : (a b c : Option (List ℕ)) (x y : List ℕ) → Appends a b x → Appends b c y → Appends a c (x ++ y)
appends-both None b c x y p q = tt
appends-both (Some u) None c x y p q = absurd p
appends-both (Some u) (Some v) None x y p q = absurd q
appends-both (Some u) (Some v) (Some w) x y p q = q ∙ ap (λ l. l ++ y) p ∙ append_assoc u x y

consumes-both : (a b c : Option (List ℕ)) (x y : List ℕ) → Consumes a b x → Consumes b c y → Consumes a c (x ++ y)
consumes-both None b c x y p q = tt
consumes-both (Some u) None c x y p q = absurd p
consumes-both (Some u) (Some v) None x y p q = absurd q
consumes-both (Some u) (Some v) (Some w) x y p q = p ∙ ap (λ l. x ++ l) q ∙ sym (append_assoc x y w)

pub written-more : (a b c : Option (List ℕ)) (line : List ℕ) (from taken : ℕ) → Appends a b (take from line) →
    Appends b c (take taken (drop from line)) → Appends a c (take (from + taken) line)
written-more a b c line from taken p q =
    subst (λ z. Appends a c z) (sym (take-add from taken line)) (appends-both a b c _ _ p q)

take-mid : (xs ys : List ℕ) (n k m : ℕ) → n ≤ length xs → m ≤ length ys → take (n + m) (put_mid n k xs ys) ≡ take n xs ++ take m ys
take-mid xs ys n k m h l =
    let e : length (take n xs) ≡ n = length-take-le n xs h in
    ap (λ z. take (z + m) (put_mid n k xs ys)) (sym e)
    ∙ take-append-add (take n xs) (ys ++ post_of n k xs) m
    ∙ ap (λ z. take n xs ++ z) (take-append-le m ys (post_of n k xs) l)

pub read-more : (a b c : Option (List ℕ)) (xs ys : List ℕ) (n k m : ℕ) → n ≤ length xs → m ≤ length ys → Consumes a b (take n xs) →
    Consumes b c (take m ys) → Consumes a c (take (n + m) (put_mid n k xs ys))
read-more a b c xs ys n k m h l p q = subst (λ z. Consumes a c z) (sym (take-mid xs ys n k m h l)) (consumes-both a b c _ _ p q)
