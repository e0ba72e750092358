-- Why a circuit lacks a gate, over what makes several.
use Rattle.std.proofs.Common.{◌≡◌, ℕ, zero, suc, ◌≤◌, ◌⊎◌, inl, inr, Bool, true, false, cond, nat_lt, Option, Some, None, is_some, List, [], ◌∷◌, ◌++◌, length, get_or, set, take, drop, replicate, refl, ◌∙◌, arith}
use Rattle.std.proofs.lemmas.Bool.{le-ltb}
use Rattle.can_gates.specs.declared.lack.Lack.{Lack}
use Rattle.can_gates.specs.declared.lack.Lack.TheVariants.{Room, Signal}
use Rattle.can_gates.specs.declared.literal.Literal.{Literal}
use Rattle.can_gates.specs.Circuit.{CircuitParts, never}
use Rattle.can_gates.specs.Lacking.{HasSignals, Serves, lack_with}

by_room : (lack : Option Lack) (unknown room : Bool) → unknown ≡ false → (cond (is_some lack) lack (cond unknown (Some Signal) (cond room None (Some Room))) ≡ lack) ⊎ (cond (is_some lack) lack (cond unknown (Some Signal) (cond room None (Some Room))) ≡ Some Room)
by_room (Some lack) unknown room has = inl refl
by_room None unknown true has = inl (rw has refl)
by_room None unknown false has = inr (rw has refl)

-- after a gate of signals that the circuit has it lacks what it did before, or is full
pub known_lack : (c : CircuitParts) (signal : ℕ) → signal ≤ c.highest → (lack_with c signal ≡ c.lack) ⊎ (lack_with c signal ≡ Some Room)
known_lack c signal has = by_room c.lack (nat_lt c.highest signal) (nat_lt (length c.gates) c.room) (le-ltb c.highest signal has)

-- the lack that was, or that of capacity, over two calls
pub lack_then : (first second third : Option Lack) → (second ≡ first) ⊎ (second ≡ Some Room) → (third ≡ second) ⊎ (third ≡ Some Room) → (third ≡ first) ⊎ (third ≡ Some Room)
lack_then first second third before (inr full) = inr full
lack_then first second third (inl before) (inl same) = inl (same ∙ before)
lack_then first second third (inr full) (inl same) = inr (same ∙ full)

-- ---- the signals of words

pub has_more : (c d : CircuitParts) (l : List Literal) → c.highest ≤ d.highest → HasSignals c l → HasSignals d l
has_more c d [] more has = tt
has_more c d (x ∷ l) more has = (omega (arith, more, has.0), has_more c d l more has.1)

pub has_at : (c : CircuitParts) (l : List Literal) (p : ℕ) → HasSignals c l → (get_or l p never).signal ≤ c.highest
has_at c [] p has = omega arith
has_at c (x ∷ l) zero has = has.0
has_at c (x ∷ l) (suc p) has = has_at c l p has.1

pub has_set : (c : CircuitParts) (l : List Literal) (p : ℕ) (x : Literal) → HasSignals c l → x.signal ≤ c.highest → HasSignals c (set l p x)
has_set c [] p x has is = tt
has_set c (y ∷ l) zero x has is = (is, has.1)
has_set c (y ∷ l) (suc p) x has is = (has.0, has_set c l p x has.1 is)

pub has_none : (c : CircuitParts) (n : ℕ) → HasSignals c (replicate n never)
has_none c zero = tt
has_none c (suc n) = (omega arith, has_none c n)

pub has_left : (c : CircuitParts) (a b : List Literal) → HasSignals c (a ++ b) → HasSignals c a
has_left c [] b has = tt
has_left c (x ∷ a) b has = (has.0, has_left c a b has.1)

pub has_right : (c : CircuitParts) (a b : List Literal) → HasSignals c (a ++ b) → HasSignals c b
has_right c [] b has = has
has_right c (x ∷ a) b has = has_right c a b has.1

pub has_both : (c : CircuitParts) (a b : List Literal) → HasSignals c a → HasSignals c b → HasSignals c (a ++ b)
has_both c [] b first second = second
has_both c (x ∷ a) b first second = (first.0, has_both c a b first.1 second)

pub has_take : (c : CircuitParts) (n : ℕ) (l : List Literal) → HasSignals c l → HasSignals c (take n l)
has_take c zero l has = tt
has_take c (suc n) [] has = tt
has_take c (suc n) (x ∷ l) has = (has.0, has_take c n l has.1)

pub has_drop : (c : CircuitParts) (n : ℕ) (l : List Literal) → HasSignals c l → HasSignals c (drop n l)
has_drop c zero l has = has
has_drop c (suc n) [] has = tt
has_drop c (suc n) (x ∷ l) has = has_drop c n l has.1

-- ---- one call after another

pub serves_none : (c : CircuitParts) (given made : List Literal) → (HasSignals c given → HasSignals c made) → Serves c c given made
serves_none c given made has = λ h. (omega arith, has h, inl refl)

-- a second call takes literals that were given or made before it
pub serves_then : (x y z : CircuitParts) (given made used new all : List Literal) → Serves x y given made → (HasSignals y given → HasSignals y made → HasSignals y used) → Serves y z used new → (HasSignals z given → HasSignals z made → HasSignals z new → HasSignals z all) → Serves x z given all
serves_then x y z given made used new all first taken second is = λ h.
    let one = first h in
    let there = has_more x y given one.0 h in
    let two = second (taken there one.1) in
    (omega (arith, one.0, two.0), is (has_more y z given two.0 there) (has_more y z made two.0 one.1) two.1, lack_then x.lack y.lack z.lack one.2 two.2)
