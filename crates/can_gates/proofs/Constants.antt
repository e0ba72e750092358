-- The literals of signal 0, and of one signal.
use Rattle.std.proofs.Common.{◌≡◌, ℕ, Bool, true, false, not, ◌&&◌, cond, List, [], ◌∷◌, refl, sym, ◌∙◌, ap}
use Rattle.std.proofs.lemmas.Bool.{true≢false, false≢true}
use mathlib.Core.Bool.{beq}
use Rattle.can_gates.specs.declared.literal.Literal.{Literal}
use Rattle.can_gates.specs.declared.circuit.Gate.{Gate}
use Rattle.can_gates.specs.Circuit.{CircuitParts, value, Keeps, KeepsGates, never, always}
use Rattle.can_gates.proofs.Bools.{and_self, and_opposite}

zero-gates : (v : ℕ → Bool) (gates : List Gate) → KeepsGates v gates → v 0 ≡ false
zero-gates v [] keeps = keeps
zero-gates v (g ∷ gates) keeps = zero-gates v gates keeps.1

-- a kept circuit's signal 0 is false
pub zero-kept : (v : ℕ → Bool) (c : CircuitParts) → Keeps v c → v 0 ≡ false
zero-kept v c keeps = zero-gates v c.gates keeps.1

pub value-never : (v : ℕ → Bool) → v 0 ≡ false → value v never ≡ false
unfolding value
value-never v zero_is = zero_is

pub value-always : (v : ℕ → Bool) → v 0 ≡ false → value v always ≡ true
unfolding value
value-always v zero_is = ap not zero_is

-- of signal 0 a literal is its sign
pub value-constant : (v : ℕ → Bool) (l : Literal) → v 0 ≡ false → l.signal ≡ 0 → value v l ≡ l.negated
unfolding value
value-constant v l zero_is is = rw (is, zero_is) (by l.negated)
  where
    by : (b : Bool) → cond b (not false) false ≡ b
    by true = refl
    by false = refl

-- the value of a literal by its parts
abbrev of_parts : (ℕ → Bool) → ℕ → Bool → Bool
of_parts v s b = cond b (not (v s)) (v s)

value-parts : (v : ℕ → Bool) (l : Literal) → value v l ≡ of_parts v l.signal l.negated
unfolding value
value-parts v l = refl

-- one signal and one sign are one value
pub value-same : (v : ℕ → Bool) (a b : Literal) → a.signal ≡ b.signal → a.negated ≡ b.negated → value v a ≡ value v b
value-same v a b signal sign = value-parts v a ∙ rw (signal, sign) (sym (value-parts v b))

-- of one signal and another sign the value is the other one
pub value-opposite : (v : ℕ → Bool) (a b : Literal) → a.signal ≡ b.signal → (a.negated ≡ b.negated → ⊥) → value v b ≡ not (value v a)
value-opposite v a b signal apart =
    let turn : of_parts v b.signal b.negated ≡ not (of_parts v a.signal a.negated) = rw (sym signal) (by a.negated b.negated apart) in value-parts v b ∙ turn ∙ ap not (sym (value-parts v a))
  where
    turned : (x : Bool) → x ≡ not (not x)
    turned true = refl
    turned false = refl

    by : (x y : Bool) → (x ≡ y → ⊥) → of_parts v a.signal y ≡ not (of_parts v a.signal x)
    by true true h = absurd (h refl)
    by true false h = turned (v a.signal)
    by false true h = refl
    by false false h = absurd (h refl)

-- what a test of two signs says
pub same_sign : (x y : Bool) → beq x y ≡ true → x ≡ y
same_sign true true e = refl
same_sign true false e = absurd (false≢true e)
same_sign false true e = absurd (false≢true e)
same_sign false false e = refl

pub other_sign : (x y : Bool) → beq x y ≡ false → x ≡ y → ⊥
other_sign true true e same = true≢false e
other_sign true false e same = true≢false same
other_sign false true e same = false≢true same
other_sign false false e same = true≢false e

pub and-same_value : (a b : Bool) → a ≡ b → a ≡ (a && b)
and-same_value a b e = sym (and_self a) ∙ ap (λ x. a && x) e

pub and-other_value : (a b : Bool) → b ≡ not a → (a && b) ≡ false
and-other_value a b e = ap (λ x. a && x) e ∙ and_opposite a
