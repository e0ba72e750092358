-- Nibbles by their four places.
use Rattle.std.proofs.Common.{◌≡◌, ℕ, ◌+◌, ◌-◌, ◌*◌, ◌<◌, ◌≤◌, Bool, true, false, not, ◌&&◌, ◌||◌, cond, refl, arith}
use Rattle.std.specs.Prelude.{nat_lt, ◌/◌, ◌%◌}
use Rattle.can_gates.specs.Circuit.{value, differ}
use Rattle.can_gates.specs.Words.{bit}
use Rattle.can_gates_mac.specs.declared.nibble.Nibble.{Nibble}
use Rattle.can_gates_mac.specs.Nibbles.{nibble}

abbrev pub bits : Bool → Bool → Bool → Bool → ℕ
bits a b c d = bit a + 2 * (bit b + 2 * (bit c + 2 * (bit d + 2 * 0)))

pub nibble_is : (v : ℕ → Bool) (n : Nibble) (a b c d : Bool) → value v n.ones ≡ a → value v n.twos ≡ b → value v n.fours ≡ c → value v n.eights ≡ d → nibble v n ≡ bits a b c d
unfolding nibble
nibble_is v n a b c d e1 e2 e3 e4 = rw (e1, e2, e3, e4) refl

-- a nibble is that of its places
pub nibble-bits : (v : ℕ → Bool) (n : Nibble) → nibble v n ≡ bits (value v n.ones) (value v n.twos) (value v n.fours) (value v n.eights)
nibble-bits v n = nibble_is v n _ _ _ _ refl refl refl refl

pub constant_nibble : (v : ℕ → Bool) (n : Nibble) (of : ℕ) → of < 16 → bit (value v n.ones) ≡ of % 2 → bit (value v n.twos) ≡ (of / 2) % 2 → bit (value v n.fours) ≡ (of / 4) % 2 → bit (value v n.eights) ≡ (of / 8) % 2 → nibble v n ≡ of
unfolding nibble
constant_nibble v n of h e1 e2 e3 e4 = rw (e1, e2, e3, e4) (omega (arith, h))

pub chosen_nibble : (v : ℕ → Bool) (t : Bool) (a b r : Nibble) → value v r.ones ≡ cond t (value v a.ones) (value v b.ones) → value v r.twos ≡ cond t (value v a.twos) (value v b.twos) → value v r.fours ≡ cond t (value v a.fours) (value v b.fours) → value v r.eights ≡ cond t (value v a.eights) (value v b.eights) → nibble v r ≡ cond t (nibble v a) (nibble v b)
unfolding nibble
chosen_nibble v true a b r e1 e2 e3 e4 = rw (e1, e2, e3, e4) refl
chosen_nibble v false a b r e1 e2 e3 e4 = rw (e1, e2, e3, e4) refl

-- Numbers that a controller is in one of two cases.

pub flag_bits : (p : Bool) → bits (not p) (not p) (not p) p ≡ cond p 8 7
flag_bits true = refl
flag_bits false = refl

pub error_cause_bits : (s : Bool) → bits true s false false ≡ cond s 3 1
error_cause_bits true = refl
error_cause_bits false = refl

pub flag_bit_cause_bits : (s : Bool) → bits s true false false ≡ cond s 3 2
flag_bit_cause_bits true = refl
flag_bit_cause_bits false = refl

pub form_kind_bits : (s : Bool) → bits (not s) (not s) true false ≡ cond s 4 7
form_kind_bits true = refl
form_kind_bits false = refl

-- Small numbers.

pub fewer_bits : (n : ℕ) (a b c d : Bool) → n ≡ bits a b c d → n ≤ 2 → bits b false false false ≡ n - 1
fewer_bits n a b c true e h = absurd (omega (arith, e, h))
fewer_bits n a b true false e h = absurd (omega (arith, e, h))
fewer_bits n true true false false e h = absurd (omega (arith, e, h))
fewer_bits n false true false false e h = omega (arith, e)
fewer_bits n true false false false e h = omega (arith, e)
fewer_bits n false false false false e h = omega (arith, e)

pub more_bits : (n : ℕ) (a b c d : Bool) → n ≡ bits a b c d → n < 2 → bits (not a) a false false ≡ n + 1
more_bits n a b c true e h = absurd (omega (arith, e, h))
more_bits n a b true false e h = absurd (omega (arith, e, h))
more_bits n a true false false e h = absurd (omega (arith, e, h))
more_bits n true false false false e h = omega (arith, e)
more_bits n false false false false e h = omega (arith, e)

pub some_bits : (n : ℕ) (a b c d : Bool) → n ≡ bits a b c d → n ≤ 2 → (a || b) ≡ nat_lt 0 n
some_bits n a b c true e h = absurd (omega (arith, e, h))
some_bits n a b true false e h = absurd (omega (arith, e, h))
some_bits n true true false false e h = absurd (omega (arith, e, h))
some_bits n false true false false e h = rw e refl
some_bits n true false false false e h = rw e refl
some_bits n false false false false e h = rw e refl

pub free_bits : (n : ℕ) (a b c d : Bool) → n ≡ bits a b c d → n ≤ 2 → not b ≡ nat_lt n 2
free_bits n a b c true e h = absurd (omega (arith, e, h))
free_bits n a b true false e h = absurd (omega (arith, e, h))
free_bits n true true false false e h = absurd (omega (arith, e, h))
free_bits n false true false false e h = rw e refl
free_bits n true false false false e h = rw e refl
free_bits n false false false false e h = rw e refl

pub next_bits : (n : ℕ) (a b c d : Bool) → n ≡ bits a b c d → n < 15 → bits (not a) (differ b a) (differ c (a && b)) (differ d ((a && b) && c)) ≡ n + 1
next_bits n false false false false e h = omega (arith, e)
next_bits n true false false false e h = omega (arith, e)
next_bits n false true false false e h = omega (arith, e)
next_bits n true true false false e h = omega (arith, e)
next_bits n false false true false e h = omega (arith, e)
next_bits n true false true false e h = omega (arith, e)
next_bits n false true true false e h = omega (arith, e)
next_bits n true true true false e h = omega (arith, e)
next_bits n false false false true e h = omega (arith, e)
next_bits n true false false true e h = omega (arith, e)
next_bits n false true false true e h = omega (arith, e)
next_bits n true true false true e h = omega (arith, e)
next_bits n false false true true e h = omega (arith, e)
next_bits n true false true true e h = omega (arith, e)
next_bits n false true true true e h = omega (arith, e)
next_bits n true true true true e h = absurd (omega (arith, e, h))
