-- Hand-computed test vectors of the frames of fields. A literal of signal 0 is its sign, and digits have the highest bit first.
use Rattle.std.proofs.Common.{◌≡◌, ℕ, Bool, true, false, cond, eqb, List, [], ◌∷◌, map, codes, refl}
use Rattle.std.specs.Prelude.{reverse}
use Rattle.can_frame.specs.Parts.{Parts}
use Rattle.can_gates.specs.declared.literal.Literal.{Literal}
use Rattle.can_gates.specs.Circuit.{value, never, always}
use Rattle.can_gates_mac.specs.Nibbles.{nibble}
use Rattle.can_gates_controller.specs.declared.fields.Fields.{Fields}
use Rattle.can_gates_controller.specs.Fields.{frame_in, HoldsFields}

abbrev word : List ℕ → List Literal
word digits = reverse (map (λ c. cond (eqb c 49) always never) digits)

abbrev low : ℕ → Bool
low s = false

-- `S 123 D 2 13c4`, with ones after its identifier and its bytes
abbrev standard : Parts
standard = record { id = record { raw = 0x123; extended = false }; remote = false; dlc = 2; bytes = 0x13 ∷ 0xc4 ∷ [] }

standard_fields : (k : Fields) → k.extended ≡ never → k.remote ≡ never → k.dlc ≡ record { ones = never; twos = always; fours = never; eights = never }
    → k.identifier ≡ word (codes "11111111111111111100100100011")
    → k.bytes ≡ word (codes "1111111111111111111111111111111111111111111111111100010000010011")
    → frame_in low k ≡ standard
unfolding frame_in nibble value
standard_fields k extended remote dlc identifier bytes = rw (extended, remote, dlc, identifier, bytes) refl

-- `E 12345678 R 9`, and 0 after its identifier and its bytes, of which it has none
abbrev extended_remote : Parts
extended_remote = record { id = record { raw = 0x12345678; extended = true }; remote = true; dlc = 9; bytes = [] }

extended_fields : (k : Fields) → k.extended ≡ always → k.remote ≡ always → k.dlc ≡ record { ones = always; twos = never; fours = never; eights = always }
    → k.identifier ≡ word (codes "10010001101000101011001111000")
    → k.bytes ≡ []
    → HoldsFields low k extended_remote
unfolding frame_in nibble value
extended_fields k extended remote dlc identifier bytes = record {
  frame = rw (extended, remote, dlc, identifier) refl;
  identifier = rw identifier refl;
  bytes = rw bytes refl;
}
