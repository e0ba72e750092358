-- What decides which level a controller drives, and the run of equal levels that ends what it has received.
use Rattle.std.specs.Prelude.{ℕ, ◌≡◌, ◌==◌, Bool, Option, length}
use Rattle.can_frame.specs.Levels.{is_recessive}
use Rattle.can_frame.specs.Parts.{Parts}
use Rattle.can_code.specs.Front.{FrontParts}
use Rattle.can_code.specs.Sending.{sent_level}
use Rattle.can_mac.specs.declared.phase.Role.{Role}
use Rattle.can_mac.specs.declared.phase.Role.TheVariants.{Sender}
use Rattle.can_mac.specs.declared.phase.Phase.TheVariants.{StuffedPart}
use Rattle.can_mac.specs.State.{MacState}
use Rattle.can_gates.specs.declared.literal.Literal.{Literal}
use Rattle.can_gates.specs.Circuit.{value}
use Rattle.can_gates_mac.specs.declared.nibble.Nibble.{Nibble}
use Rattle.can_gates_mac.specs.declared.driving.Sends.{Sends}
use Rattle.can_gates_mac.specs.Nibbles.{nibble}
use Rattle.can_gates_mac.specs.Numbers.{is_waiting}
use Rattle.can_gates_mac.specs.Inputs.{TellsReading}

-- what a transmitter reads of its frame as received so far
pub record DrivesPart (v : ℕ → Bool) (k : Sends) (role : Role) (front : FrontParts) : Type 0 where
  pub due : value v k.due ≡ (front.run == 5)
  pub last : value v k.last ≡ is_recessive front.last
  pub sent : (f : Parts) → role ≡ Sender f → value v k.sent ≡ is_recessive (sent_level f (length front.unstuffed))

-- what this controller reads, with this pending frame
pub record DrivesIn (v : ℕ → Bool) (k : Sends) (m : MacState) (waiting : Option Parts) : Type 0 where
  pub waits : value v k.waits ≡ is_waiting waiting
  pub agrees : TellsReading m.phase (value v k.agrees)
  pub part : (front : FrontParts) → m.phase ≡ StuffedPart front → DrivesPart v k m.role front

-- the last level received, and its run
pub record HoldsRun (v : ℕ → Bool) (before : Literal) (row : Nibble) (front : FrontParts) : Type 0 where
  pub last : value v before ≡ is_recessive front.last
  pub run : nibble v row ≡ front.run
