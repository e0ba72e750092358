-- The meaning of a circuit. An assignment gives each signal a value. It keeps the circuit if signal 0 is false and each gate's signal is the AND of
-- the gate's two sides: the meaning of a line of an AIGER file, or of `assign n = a & b;` in Verilog. To believe is that the tools that read such
-- files take them in this meaning. A circuit that lacks a gate has no meaning: no assignment keeps it.
use Rattle.std.specs.Prelude.{ℕ, ◌≡◌, Bool, true, false, not, ◌&&◌, if◌then◌else◌, List, [], ◌∷◌, slice_index_or, Option, None}
use Rattle.can_gates.specs.declared.literal.Literal.{Literal}
use Rattle.can_gates.specs.declared.circuit.Gate.{Gate}
use Rattle.can_gates.specs.declared.lack.Lack.{Lack}

-- a circuit: the number of its inputs, which are the signals from 1 on; its capacity, in gates; its highest signal; its gates, the last first; and,
-- if it lacks a gate that a call asked for, why
pub record CircuitParts : Type 0 where
  pub inputs : ℕ
  pub room : ℕ
  pub highest : ℕ
  pub gates : List Gate
  pub lack : Option Lack

-- a literal's value: that of its signal, or the negation
unfoldable pub value : (ℕ → Bool) → Literal → Bool
value v l = if l.negated then not (v l.signal) else v l.signal

-- the literals that are false and true in each assignment that keeps a circuit
abbrev pub never : Literal
never = record { signal = 0; negated = false }

abbrev pub always : Literal
always = record { signal = 0; negated = true }

-- a word's value at an index; past its end it is false
abbrev pub value_at : (ℕ → Bool) → List Literal → ℕ → Bool
value_at v word p = value v (slice_index_or word p never)

-- signal 0 is false, and each gate's signal is the AND of its two sides
abbrev pub KeepsGates : (ℕ → Bool) → List Gate → Type 0
KeepsGates v [] = v 0 ≡ false
KeepsGates v (g ∷ gates) = (v g.signal ≡ (value v g.left && value v g.right)) × KeepsGates v gates

-- an assignment keeps a circuit: the circuit lacks no gate, and the assignment keeps its gates
abbrev pub Keeps : (ℕ → Bool) → CircuitParts → Type 0
Keeps v c = (c.lack ≡ None) × KeepsGates v c.gates

-- what no call changes: the number of inputs, and the capacity
abbrev pub frame : CircuitParts → ℕ × ℕ
frame c = (c.inputs, c.room)

-- gates were added to a circuit, with the same inputs and capacity: each assignment that keeps the new circuit keeps the old one, and has this
-- property
abbrev pub Makes : CircuitParts → CircuitParts → ((ℕ → Bool) → Type 0) → Type 0
Makes old new P = (frame new ≡ frame old) × ((v : ℕ → Bool) → Keeps v new → Keeps v old × P v)

-- one of two values is true, and not both
abbrev pub differ : Bool → Bool → Bool
differ false b = b
differ true b = not b
