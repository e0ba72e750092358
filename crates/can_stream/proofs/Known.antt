-- Known bytes that a writer takes in parts.
use Rattle.std.proofs.Common.{ℕ, ◌+◌, List, Option, take, drop, subst, sym}
use Rattle.std.proofs.lemmas.List.{take-append-drop}
use Rattle.std.proofs.KnownBytes.{Appends-trans, Appends-kept}
use Rattle.std.specs.Io.KnownBytes.{Appends, Keeps}
use Rattle.can_stream.specs.Outbox.{TakesFront}
use lib.Seq.{take-add}

-- the writer took the first i bytes, and then the first n of the rest
pub Appends-take : (a b c : Option (List ℕ)) (xs : List ℕ) (i n : ℕ) → Appends a b (take i xs) → Appends b c (take n (drop i xs)) → Appends a c (take (i + n) xs)
Appends-take a b c xs i n first second = subst (Appends a c) (sym (take-add i n xs)) (Appends-trans a b c _ _ first second)

-- the writer took the first i bytes, and then no more
pub TakesFront-kept : (a b c : Option (List ℕ)) (xs : List ℕ) (i : ℕ) → Appends a b (take i xs) → Keeps b c → TakesFront a c xs
TakesFront-kept a b c xs i took kept = record { taken = take i xs; left = drop i xs; appends = Appends-kept a b c _ took kept; split = sym (take-append-drop i xs) }
