-- A frame as its fields. (Bosch CAN 2.0 part B, section 3.2.1)
use Rattle.std.specs.Prelude.{ℕ, zero, suc, ◌≡◌, ◌*◌, Bool, if◌then◌else◌, List, [], ◌∷◌, Option, Some, None, length, take, drop}
use Rattle.can_frame.specs.Parts.{Parts, byte_count}
use Rattle.can_terms.specs.declared.event.Event.{Event}
use Rattle.can_terms.specs.declared.event.Event.TheVariants.{Sent, Received}
use Rattle.can_gates.specs.declared.literal.Literal.{Literal}
use Rattle.can_gates.specs.Circuit.{value}
use Rattle.can_gates.specs.Words.{number}
use Rattle.can_gates_mac.specs.Nibbles.{nibble}
use Rattle.can_gates_controller.specs.declared.fields.Fields.{Fields}

-- how many bits an identifier has
abbrev pub identifier_places : Bool → ℕ
identifier_places extended = if extended then 29 else 11

-- the first n bytes of a word, each of eight bits
abbrev pub bytes_in : (ℕ → Bool) → ℕ → List Literal → List ℕ
bytes_in v zero word = []
bytes_in v (suc n) word = number v (take 8 word) ∷ bytes_in v n (drop 8 word)

-- the frame of fields, for any values. What follows its identifier, or its last byte, is not read
unfoldable pub frame_in : (ℕ → Bool) → Fields → Parts
frame_in v k = record {
  id = record { raw = number v (take (identifier_places (value v k.extended)) k.identifier); extended = value v k.extended };
  remote = value v k.remote;
  dlc = nibble v k.dlc;
  bytes = bytes_in v (byte_count (value v k.remote) (nibble v k.dlc)) k.bytes;
}

-- the fields are those of this frame, and 0 after its identifier and after its last byte
pub record HoldsFields (v : ℕ → Bool) (k : Fields) (f : Parts) : Type 0 where
  pub frame : frame_in v k ≡ f
  pub identifier : number v (drop (identifier_places f.id.extended) k.identifier) ≡ 0
  pub bytes : number v (drop (8 * length f.bytes) k.bytes) ≡ 0

-- the frame of an event
abbrev pub frame_told : Option Event → Option Parts
frame_told (Some (Sent f)) = Some f
frame_told (Some (Received f)) = Some f
frame_told e = None
