-- AIGER's binary format: inputs have no lines. A gate has two differences, between its own number and that of its left side, and between the numbers
-- of its sides, each in groups of seven bits.
use Rattle.std.specs.Prelude.{ℕ, zero, suc, ◌+◌, ◌-◌, ◌*◌, ◌/◌, ◌%◌, ◌==◌, nat_lt, if◌then◌else◌, List, [], ◌∷◌, ◌++◌, map, reverse, codes}
use Rattle.std.specs.List.{flat_map}
use Rattle.can_gates.specs.declared.literal.Literal.{Literal}
use Rattle.can_gates.specs.declared.circuit.Gate.{Gate}
use Rattle.can_gates.specs.declared.register.Register.{Register}
use Rattle.can_gates.specs.Circuit.{CircuitParts}
use Rattle.can_gates.specs.Words.{bit}
use Rattle.can_gates.specs.Aiger.{header, literal_code, line_text, output_numbers}
use Rattle.can_gates.specs.declared.files.words.Names.{Names}
use Rattle.can_gates.specs.Named.{names_text}

-- the next value and the initial value of a register
abbrev pub register_numbers : Register → List ℕ
register_numbers r = literal_code r.next ∷ bit r.starts ∷ []

-- a number in groups of seven bits, the lowest first, with at most n groups after the first: 128 is added if another group follows
abbrev pub groups : ℕ → ℕ → List ℕ
groups zero n = n % 128 ∷ []
groups (suc more) n = if nat_lt n 128 then n % 128 ∷ [] else (128 + n % 128) ∷ groups more (n / 128)

-- the two differences of a gate
abbrev pub gate_bytes : Gate → List ℕ
gate_bytes g = groups 9 (2 * g.signal - literal_code g.left) ++ groups 9 (literal_code g.left - literal_code g.right)

-- the whole file
abbrev pub binary_text : Names → CircuitParts → List Register → List Literal → List ℕ
binary_text n c registers outputs =
    codes "aig " ++ (line_text (header c registers outputs)
    ++ (flat_map line_text (map register_numbers registers) ++ (flat_map line_text (map output_numbers outputs) ++ (flat_map gate_bytes (reverse c.gates) ++ names_text n))))

-- ---- a reader of gates

-- the number with which bytes begin, and the bytes after it
abbrev pub number_in : List ℕ → ℕ × List ℕ
number_in [] = (0, [])
number_in (c ∷ bytes) = if nat_lt c 128 then (c, bytes) else ((c - 128) + 128 * (number_in bytes).0, (number_in bytes).1)

-- the literal with this number
abbrev pub literal_of : ℕ → Literal
literal_of n = record { signal = n / 2; negated = n % 2 == 1 }

-- n gates, of the signals from s on
abbrev pub gates_in : ℕ → ℕ → List ℕ → List Gate
gates_in zero s bytes = []
gates_in (suc n) s bytes =
    let first = number_in bytes in
    let second = number_in first.1 in
    let left = 2 * s - first.0 in record { signal = s; left = literal_of left; right = literal_of (left - second.0) } ∷ gates_in n (s + 1) second.1
