-- Wires by their fields, and choices among them.
use Rattle.std.proofs.Common.{◌≡◌, ℕ, ◌<◌, Bool, true, false, ◌&&◌, cond, List, [], ◌∷◌, length, get_or, drop, refl, ◌∙◌, ap, arith}
use Rattle.can_gates.specs.Circuit.{value}
use Rattle.can_gates_mac.specs.declared.wires.Wires.{Wires}
use Rattle.can_gates_mac.specs.declared.wires.Row.{Row}
use Rattle.can_gates_mac.specs.Nibbles.{nibble}
use Rattle.can_gates_mac.specs.Numbers.{Numbers}
use Rattle.can_gates_mac.specs.Shown.{shown, listed}

pub same_numbers : (v : ℕ → Bool) (w : Wires) (n : Numbers) → nibble v w.phase ≡ n.phase → nibble v w.place ≡ n.place → value v w.last ≡ n.last → value v w.unacknowledged ≡ n.unacknowledged → value v w.first ≡ n.first → value v w.sender ≡ n.sender → nibble v w.pending ≡ n.pending → nibble v w.used ≡ n.used → nibble v w.cause ≡ n.cause → nibble v w.event ≡ n.event → shown v w ≡ n
unfolding shown
same_numbers v w n e1 e2 e3 e4 e5 e6 e7 e8 e9 e10 = rw (e1, e2, e3, e4, e5, e6, e7, e8, e9, e10) refl

pub chosen_wires : (v : ℕ → Bool) (t : Bool) (a b r : Wires) → nibble v r.phase ≡ cond t (nibble v a.phase) (nibble v b.phase) → nibble v r.place ≡ cond t (nibble v a.place) (nibble v b.place) → value v r.last ≡ cond t (value v a.last) (value v b.last) → value v r.unacknowledged ≡ cond t (value v a.unacknowledged) (value v b.unacknowledged) → value v r.first ≡ cond t (value v a.first) (value v b.first) → value v r.sender ≡ cond t (value v a.sender) (value v b.sender)
    → nibble v r.pending ≡ cond t (nibble v a.pending) (nibble v b.pending) → nibble v r.used ≡ cond t (nibble v a.used) (nibble v b.used) → nibble v r.cause ≡ cond t (nibble v a.cause) (nibble v b.cause) → nibble v r.event ≡ cond t (nibble v a.event) (nibble v b.event) → shown v r ≡ cond t (shown v a) (shown v b)
unfolding shown
chosen_wires v true a b r e1 e2 e3 e4 e5 e6 e7 e8 e9 e10 = same_numbers v r (shown v a) e1 e2 e3 e4 e5 e6 e7 e8 e9 e10
chosen_wires v false a b r e1 e2 e3 e4 e5 e6 e7 e8 e9 e10 = same_numbers v r (shown v b) e1 e2 e3 e4 e5 e6 e7 e8 e9 e10

-- the first row is taken if its test is true; otherwise one after it
pub listed_first : (v : ℕ → Bool) (rows : List Row) (d : Row) (test : Bool) (otherwise rest made : Numbers) → 0 < length rows → test ≡ (value v (get_or rows 0 d).0 && value v (get_or rows 0 d).1) → rest ≡ listed v (drop 1 rows) otherwise → made ≡ cond test (shown v (get_or rows 0 d).2) rest → made ≡ listed v rows otherwise
listed_first v [] d test otherwise rest made h tests rests is = absurd (omega (arith, h))
listed_first v (r ∷ rows) d test otherwise rest made h tests rests is = is ∙ rw (tests, rests) refl

-- fields of the numbers that wires are

pub pending_of : (v : ℕ → Bool) (w : Wires) (n : Numbers) → shown v w ≡ n → nibble v w.pending ≡ n.pending
unfolding shown
pending_of v w n e = ap (λ m. m.pending) e

pub used_of : (v : ℕ → Bool) (w : Wires) (n : Numbers) → shown v w ≡ n → nibble v w.used ≡ n.used
unfolding shown
used_of v w n e = ap (λ m. m.used) e

pub cause_of : (v : ℕ → Bool) (w : Wires) (n : Numbers) → shown v w ≡ n → nibble v w.cause ≡ n.cause
unfolding shown
cause_of v w n e = ap (λ m. m.cause) e

-- what is counted aside
abbrev pub uncaused : Numbers → Numbers
uncaused n = record n { cause = 0 }

-- a choice, what is counted aside
pub chosen_uncaused : (b : Bool) (a p q first other : Numbers) → a ≡ cond b p q → uncaused p ≡ first → uncaused q ≡ other → uncaused a ≡ cond b first other
chosen_uncaused true a p q first other e f g = ap uncaused e ∙ f
chosen_uncaused false a p q first other e f g = ap uncaused e ∙ g
