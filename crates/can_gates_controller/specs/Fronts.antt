-- What has been received of a frame, in a circuit's registers.
use Rattle.std.specs.Prelude.{ℕ, ◌≡◌, ◌<◌, ◌==◌, Bool, List, length}
use Rattle.can_frame.specs.declared.level.Level.{Level}
use Rattle.can_frame.specs.Levels.{is_recessive, same}
use Rattle.can_wire.specs.Crc.{crc_of}
use Rattle.can_wire.specs.Layout.{level_at}
use Rattle.can_frame.specs.Parts.{Parts}
use Rattle.can_code.specs.Front.{FrontParts, heard_level}
use Rattle.can_code.specs.Sending.{sent_level}
use Rattle.can_mac.specs.declared.phase.Role.{Role}
use Rattle.can_mac.specs.declared.phase.Role.TheVariants.{Sender}
use Rattle.can_gates.specs.declared.literal.Literal.{Literal}
use Rattle.can_gates.specs.Circuit.{value, value_at}
use Rattle.can_gates.specs.Words.{number}
use Rattle.can_gates_controller.specs.declared.heard.Heard.{Heard}
use Rattle.can_gates_mac.specs.declared.driving.StuffPlace.{StuffPlace}
use Rattle.can_gates_mac.specs.Driving.{HoldsRun}

-- the registers are the first 103 of these levels
abbrev pub HoldsLevels : (ℕ → Bool) → List Literal → List Level → Type 0
HoldsLevels v levels u = (p : ℕ) → p < 103 → value_at v levels p ≡ is_recessive (level_at u p)

-- the registers are the CRC of these levels
abbrev pub HoldsCheck : (ℕ → Bool) → List Literal → List Level → Type 0
HoldsCheck v check u = (p : ℕ) → p < 15 → value_at v check p ≡ is_recessive (level_at (crc_of u) p)

-- the registers hold what has been received of a frame so far
pub record HoldsFront (v : ℕ → Bool) (k : Heard) (front : FrontParts) : Type 0 where
  pub levels : HoldsLevels v k.levels front.unstuffed
  pub count : number v k.count ≡ length front.unstuffed
  pub run : HoldsRun v k.last k.run front
  pub check : HoldsCheck v k.check front.unstuffed

-- the received frame with one more level, whether that is a stuff bit, and whether it repeats the last one
pub record HearsFront (v : ℕ → Bool) (k : Heard) (s : StuffPlace) (front : FrontParts) (x : Level) : Type 0 where
  pub next : HoldsFront v k (heard_level front x)
  pub due : value v s.due ≡ (front.run == 5)
  pub repeats : value v s.repeats ≡ same x front.last

-- of a transmitter's frame: whether its next level is recessive, and whether it is extended
pub record TellsSender (v : ℕ → Bool) (level format : Literal) (role : Role) (front : FrontParts) : Type 0 where
  pub sent : (f : Parts) → role ≡ Sender f → value v level ≡ is_recessive (sent_level f (length front.unstuffed))
  pub extended : (f : Parts) → role ≡ Sender f → value v format ≡ f.id.extended
