-- Hand-computed test vectors of the definitions, for a half adder: its inputs are signals 1 and 2, signal 3 is its carry, and its sum is the negation
-- of signal 6.
use Rattle.std.proofs.Common.{◌≡◌, ℕ, Bool, true, false, not, cond, eqb, List, [], ◌∷◌, Some, None, codes, refl}
use Rattle.std.proofs.lemmas.Bool.{true≢false}
use Rattle.can_gates.specs.declared.literal.Literal.{Literal}
use Rattle.can_gates.specs.declared.circuit.Gate.{Gate}
use Rattle.can_gates.specs.declared.lack.Lack.TheVariants.{Room, Signal}
use Rattle.can_gates.specs.Circuit.{CircuitParts, value, KeepsGates}
use Rattle.can_gates.specs.Lacking.{lack_with}
use Rattle.can_gates.specs.Words.{number}
use Rattle.can_gates.specs.Runs.{run}
use Rattle.can_gates.specs.Aiger.{file_lines, register_lines, numbers_in}

abbrev plain : ℕ → Literal
plain s = record { signal = s; negated = false }

abbrev turned : ℕ → Literal
turned s = record { signal = s; negated = true }

abbrev gate : ℕ → Literal → Literal → Gate
gate s l r = record { signal = s; left = l; right = r }

abbrev half_adder : List Gate
half_adder = gate 6 (turned 5) (turned 4) ∷ gate 5 (plain 2) (turned 1) ∷ gate 4 (turned 2) (plain 1) ∷ gate 3 (plain 2) (plain 1) ∷ []

-- the values of the two inputs
abbrev inputs : Bool → Bool → ℕ → Bool
inputs a b s = cond (eqb s 1) a (cond (eqb s 2) b false)

-- one and one are two
carry_of_two : run half_adder (inputs true true) 3 ≡ true
unfolding value
carry_of_two = refl

sum_of_two : value (run half_adder (inputs true true)) (turned 6) ≡ false
unfolding value
sum_of_two = refl

-- one and none is one
carry_of_one : run half_adder (inputs true false) 3 ≡ false
unfolding value
carry_of_one = refl

sum_of_one : value (run half_adder (inputs true false)) (turned 6) ≡ true
unfolding value
sum_of_one = refl

-- a run keeps the circuit, gate by gate
kept : KeepsGates (run half_adder (inputs false true)) half_adder
unfolding value
kept = (refl, (refl, (refl, (refl, refl))))

-- an assignment in which all signals but 0 are true does not: signal 6 would have to be false
not_kept : KeepsGates (λ s. not (eqb s 0)) half_adder → ⊥
unfolding value
not_kept keeps = true≢false keeps.0

-- the first place is worth one, the third four; of signal 3, which is false, the opposite counts
number_of_word : number (inputs true false) (plain 1 ∷ plain 2 ∷ turned 3 ∷ []) ≡ 5
unfolding value
number_of_word = refl

-- signal 0 is false in each kept assignment, and its opposite is true
number_of_constants : number (inputs true true) (turned 0 ∷ plain 0 ∷ []) ≡ 1
unfolding value
number_of_constants = refl

-- the half adder in a circuit with a capacity of n gates
abbrev in_room : ℕ → CircuitParts
in_room room = record { inputs = 2; room = room; highest = 6; gates = half_adder; lack = None }

-- its four gates fill a capacity of four; in a larger one there is space for a gate of its signals, and none of signal
-- 7
full_of_four : lack_with (in_room 4) 6 ≡ Some Room
full_of_four = refl

room_for_one : lack_with (in_room 5) 6 ≡ None
room_for_one = refl

no_signal_of_seven : lack_with (in_room 5) 7 ≡ Some Signal
no_signal_of_seven = refl

-- the lines of its text: the carry and the sum are its outputs
half_adder_lines : file_lines (in_room 4) [] (plain 3 ∷ turned 6 ∷ [])
    ≡ (6 ∷ 2 ∷ 0 ∷ 2 ∷ 4 ∷ []) ∷ (2 ∷ []) ∷ (4 ∷ []) ∷ (6 ∷ []) ∷ (13 ∷ []) ∷ (6 ∷ 4 ∷ 2 ∷ []) ∷ (8 ∷ 5 ∷ 2 ∷ []) ∷ (10 ∷ 4 ∷ 3 ∷ []) ∷ (12 ∷ 11 ∷ 9 ∷ []) ∷ []
half_adder_lines = refl

-- a register that holds signal 2: next the opposite of signal 5, at first true
register_line : register_lines 1 (record { next = turned 5; starts = true } ∷ []) ≡ (4 ∷ 11 ∷ 1 ∷ []) ∷ []
register_line = refl

two_lines : numbers_in [] 0 (codes "6 4 2\n10 11 9\n") ≡ (6 ∷ 4 ∷ 2 ∷ []) ∷ (10 ∷ 11 ∷ 9 ∷ []) ∷ []
two_lines = refl
