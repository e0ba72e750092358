-- The choice among the phases.
use Rattle.std.proofs.Common.{◌≡◌, ℕ, Bool, false, Option, List, [], ◌∷◌, get_or, refl}
use Rattle.can_frame.specs.declared.level.Level.{Level}
use Rattle.can_frame.specs.Parts.{Parts}
use Rattle.can_mac.specs.declared.moves.Stance.{Stance}
use Rattle.can_mac.specs.declared.phase.Reading.{Reading}
use Rattle.can_mac.specs.declared.phase.Phase.TheVariants.{Joining, Idle, StuffedPart, CrcDelimiter, AckSlot, AckDelimiter, EndOfFrame, ErrorFlag, PassiveFlag, OverloadFlag, AfterFlag, Delimiter, Intermission, Suspend, BusOff}
use Rattle.can_mac.specs.State.{MacPhase, is_off_phase}
use Rattle.can_mac.specs.Moves.{move}
use Rattle.can_gates_mac.specs.declared.wires.Wires.{Wires}
use Rattle.can_gates_mac.specs.declared.senses.Senses.{Senses}
use Rattle.can_gates_mac.specs.declared.wires.Part.{Part}
use Rattle.can_gates_mac.specs.Numbers.{numbers, phase_number}
use Rattle.can_gates_mac.specs.Shown.{shown}
use Rattle.can_gates_mac.specs.Sensed.{IsSensed}
use Rattle.can_gates_mac.specs.Inputs.{IsPartIn}
use Rattle.can_gates_mac.specs.Shows.{ShowsMove, ShowsPart}

-- the wires of each phase's move
pub record PhaseWires : Type 0 where
  pub idle : Wires
  pub joining : Wires
  pub stuffed_part : Wires
  pub crc_delimiter : Wires
  pub ack_slot : Wires
  pub ack_delimiter : Wires
  pub end_of_frame : Wires
  pub error_flag : Wires
  pub passive_flag : Wires
  pub overload_flag : Wires
  pub after_flag : Wires
  pub delimiter : Wires
  pub intermission : Wires
  pub suspend : Wires

abbrev pub in_order : PhaseWires → List Wires
in_order w = w.idle ∷ w.joining ∷ w.stuffed_part ∷ w.crc_delimiter ∷ w.ack_slot ∷ w.ack_delimiter ∷ w.end_of_frame ∷ w.error_flag ∷ w.passive_flag ∷ w.overload_flag ∷ w.after_flag ∷ w.delimiter ∷ w.intermission ∷ w.suspend ∷ []

pub record ShowAll (v : ℕ → Bool) (k : Senses) (read : Part) (w : PhaseWires) : Type 0 where
  pub idle : ShowsMove v k w.idle Idle
  pub joining : (n : ℕ) → ShowsMove v k w.joining (Joining n)
  pub stuffed_part : ShowsPart v k read w.stuffed_part
  pub crc_delimiter : (r : Reading) → ShowsMove v k w.crc_delimiter (CrcDelimiter r)
  pub ack_slot : (r : Reading) → ShowsMove v k w.ack_slot (AckSlot r)
  pub ack_delimiter : (r : Reading) → ShowsMove v k w.ack_delimiter (AckDelimiter r)
  pub end_of_frame : (r : Reading) (n : ℕ) → ShowsMove v k w.end_of_frame (EndOfFrame r n)
  pub error_flag : (n : ℕ) → ShowsMove v k w.error_flag (ErrorFlag n)
  pub passive_flag : (last : Level) (n : ℕ) (u : Bool) → ShowsMove v k w.passive_flag (PassiveFlag last n u)
  pub overload_flag : (n : ℕ) → ShowsMove v k w.overload_flag (OverloadFlag n)
  pub after_flag : (first : Bool) (n : ℕ) → ShowsMove v k w.after_flag (AfterFlag first n)
  pub delimiter : (n : ℕ) → ShowsMove v k w.delimiter (Delimiter n)
  pub intermission : (n : ℕ) → ShowsMove v k w.intermission (Intermission n)
  pub suspend : (n : ℕ) → ShowsMove v k w.suspend (Suspend n)

pub dispatched : (v : ℕ → Bool) (k : Senses) (read : Part) (s : Stance) (p : MacPhase) (waiting : Option Parts) (x : Level) (w : PhaseWires) (otherwise : Wires) → ShowAll v k read w → IsSensed v k s p waiting x → IsPartIn v read s.role p x → is_off_phase p ≡ false → shown v (get_or (in_order w) (phase_number p) otherwise) ≡ numbers (move s p waiting x)
dispatched v k read s Idle waiting x w otherwise h sensed is_part on = h.idle s waiting x sensed
dispatched v k read s (Joining n) waiting x w otherwise h sensed is_part on = h.joining n s waiting x sensed
dispatched v k read s (StuffedPart front) waiting x w otherwise h sensed is_part on = h.stuffed_part s front waiting x sensed (is_part front refl)
dispatched v k read s (CrcDelimiter r) waiting x w otherwise h sensed is_part on = h.crc_delimiter r s waiting x sensed
dispatched v k read s (AckSlot r) waiting x w otherwise h sensed is_part on = h.ack_slot r s waiting x sensed
dispatched v k read s (AckDelimiter r) waiting x w otherwise h sensed is_part on = h.ack_delimiter r s waiting x sensed
dispatched v k read s (EndOfFrame r n) waiting x w otherwise h sensed is_part on = h.end_of_frame r n s waiting x sensed
dispatched v k read s (ErrorFlag n) waiting x w otherwise h sensed is_part on = h.error_flag n s waiting x sensed
dispatched v k read s (PassiveFlag last n u) waiting x w otherwise h sensed is_part on = h.passive_flag last n u s waiting x sensed
dispatched v k read s (OverloadFlag n) waiting x w otherwise h sensed is_part on = h.overload_flag n s waiting x sensed
dispatched v k read s (AfterFlag first n) waiting x w otherwise h sensed is_part on = h.after_flag first n s waiting x sensed
dispatched v k read s (Delimiter n) waiting x w otherwise h sensed is_part on = h.delimiter n s waiting x sensed
dispatched v k read s (Intermission n) waiting x w otherwise h sensed is_part on = h.intermission n s waiting x sensed
dispatched v k read s (Suspend n) waiting x w otherwise h sensed is_part on = h.suspend n s waiting x sensed
dispatched v k read s BusOff waiting x w otherwise h sensed is_part on = cc on
