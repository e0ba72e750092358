-- What a circuit reads of the frame on the bus.
use Rattle.std.specs.Prelude.{ℕ, ◌≡◌, ◌==◌, length, Bool, Some}
use Rattle.can_frame.specs.declared.level.Level.{Level}
use Rattle.can_frame.specs.Levels.{is_recessive, same}
use Rattle.can_frame.specs.Parts.{Parts}
use Rattle.can_code.specs.Front.{FrontParts, heard_level}
use Rattle.can_code.specs.Sending.{sent_level}
use Rattle.can_mac.specs.declared.phase.Reading.{Reading}
use Rattle.can_mac.specs.declared.phase.Role.{Role}
use Rattle.can_mac.specs.declared.phase.Role.TheVariants.{Sender}
use Rattle.can_mac.specs.declared.phase.Phase.TheVariants.{StuffedPart}
use Rattle.can_mac.specs.State.{MacPhase}
use Rattle.can_mac.specs.Moves.{ends_part, in_arbitration}
use Rattle.can_gates.specs.Circuit.{value}
use Rattle.can_gates_mac.specs.declared.wires.Part.{Part}
use Rattle.can_gates_mac.specs.Numbers.{reading_in}

-- after the stuffed part of a frame, this is whether its CRC sequence is right
abbrev pub TellsReading : MacPhase → Bool → Type 0
TellsReading p agrees = (r : Reading) → reading_in p ≡ Some r → agrees ≡ r.agrees

-- the part's literals are those of a frame received so far, with this role of the controller and this sampled level
pub record ReadsPart (v : ℕ → Bool) (k : Part) (role : Role) (front : FrontParts) (x : Level) : Type 0 where
  pub due : value v k.due ≡ (front.run == 5)
  pub repeats : value v k.repeats ≡ same x front.last
  pub arbitrates : (f : Parts) → role ≡ Sender f → value v k.arbitrates ≡ in_arbitration f front.unstuffed
  pub sent : (f : Parts) → role ≡ Sender f → value v k.sent ≡ is_recessive (sent_level f (length front.unstuffed))
  pub ends : value v k.ends ≡ ends_part (heard_level front x)

-- in the stuffed part of a frame, the part's literals are those of the frame received so far
abbrev pub IsPartIn : (ℕ → Bool) → Part → Role → MacPhase → Level → Type 0
IsPartIn v k role p x = (front : FrontParts) → p ≡ StuffedPart front → ReadsPart v k role front x
