-- A gate of a circuit that is kept.
use Rattle.std.proofs.Common.{◌≡◌, ℕ, zero, suc, ◌-◌, ◌<◌, ◌≤◌, Bool, ◌&&◌, List, [], ◌∷◌, length, reverse, get_or, refl, subst, sym, ◌∙◌, ap, arith}
use Rattle.std.proofs.lemmas.List.{length-reverse, get_or-reverse}
use Rattle.can_gates.specs.declared.circuit.Gate.{Gate}
use Rattle.can_gates.specs.Circuit.{value, KeepsGates}
use Rattle.can_gates.specs.Ordered.{IsOrdered}

kept_place : (v : ℕ → Bool) (gates : List Gate) (k : ℕ) (d : Gate) → k < length gates → KeepsGates v gates → v (get_or gates k d).signal ≡ (value v (get_or gates k d).left && value v (get_or gates k d).right)
kept_place v [] k d within keeps = absurd (omega (arith, within))
kept_place v (g ∷ gates) zero d within keeps = keeps.0
kept_place v (g ∷ gates) (suc k) d within keeps = kept_place v gates k d (omega (arith, within)) keeps.1

-- the gate at a place of the list that is kept last gate first
pub kept_gate : (v : ℕ → Bool) (items : List Gate) (place : ℕ) (g : Gate) → place < length items → g ≡ get_or items place g → KeepsGates v (reverse items) → v g.signal ≡ (value v g.left && value v g.right)
kept_gate v items place g within is keeps =
    let small : length items - 1 - place < length (reverse items) = omega (arith, length-reverse items, within) in
    let back : length items - 1 - (length items - 1 - place) ≡ place = omega (arith, within) in
    let there : get_or (reverse items) (length items - 1 - place) g ≡ g =
    get_or-reverse items (length items - 1 - place) g (omega (arith, within)) ∙ ap (λ k. get_or items k g) back ∙ sym is in
    subst (λ (h : Gate). v h.signal ≡ (value v h.left && value v h.right)) there (kept_place v (reverse items) (length items - 1 - place) g small keeps)

ordered_place : (n highest : ℕ) (gates : List Gate) (k : ℕ) (d : Gate) → k < length gates → IsOrdered n highest gates → (get_or gates k d).signal ≤ highest
ordered_place n highest [] k d within ordered = absurd (omega (arith, within))
ordered_place n highest (g ∷ gates) zero d within ordered = omega (arith, ordered.0)
ordered_place n highest (g ∷ gates) (suc k) d within ordered = omega (arith, ordered_place n ordered.3 gates k d (omega (arith, within)) ordered.5, ordered.0, ordered.4)

-- its signal is no higher than the circuit's highest
pub ordered_gate : (n highest : ℕ) (items : List Gate) (place : ℕ) (g : Gate) → place < length items → g ≡ get_or items place g → IsOrdered n highest (reverse items) → g.signal ≤ highest
ordered_gate n highest items place g within is ordered =
    let small : length items - 1 - place < length (reverse items) = omega (arith, length-reverse items, within) in
    let back : length items - 1 - (length items - 1 - place) ≡ place = omega (arith, within) in
    let there : get_or (reverse items) (length items - 1 - place) g ≡ g =
    get_or-reverse items (length items - 1 - place) g (omega (arith, within)) ∙ ap (λ k. get_or items k g) back ∙ sym is in
    subst (λ (h : Gate). h.signal ≤ highest) there (ordered_place n highest (reverse items) (length items - 1 - place) g small ordered)

-- of the same sides, the gate's signal is their and
pub shared_gate : (v : ℕ → Bool) (g : Gate) (r x y : Bool) → r ≡ v g.signal → v g.signal ≡ (value v g.left && value v g.right) → value v g.left ≡ x → value v g.right ≡ y → r ≡ (x && y)
shared_gate v g r x y is kept left right = is ∙ kept ∙ rw (left, right) refl
