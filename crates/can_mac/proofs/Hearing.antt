-- What a controller knows of the levels that it has sampled: during a frame, its levels so far are at their end; and if the controller
-- sends the frame, they are those of its own frame.
use Rattle.std.proofs.Common.{◌≡◌, ◌≢◌, ℕ, ◌<◌, ◌≤◌, true, Option, Some, None, List, [], ◌∷◌, ◌++◌, length, take, replicate, ◌∙◌, ap, append_assoc}
use Rattle.can_frame.specs.declared.level.Level.{Level}
use Rattle.can_frame.specs.declared.level.Level.TheVariants.{Dominant, Recessive}
use Rattle.can_frame.specs.Parts.{Parts, IsFrame}
use Rattle.can_code.specs.declared.front.Place.TheVariants.{CrcDelimiter as ended}
use Rattle.can_wire.specs.Wire.{unstuffed, stuffed_part, wire}
use Rattle.can_wire.specs.Heard.{HeardParts, Spells}
use Rattle.can_code.specs.Front.{FrontParts, next_place}
use Rattle.can_code.proofs.FrontsOf.{IsFrontOf}
use Rattle.can_code.proofs.WireFronts.{front_at}
use Rattle.can_terms.specs.declared.event.Event.{Event}
use Rattle.can_terms.specs.declared.event.Event.TheVariants.{Sent, Received, Lost, Error, Overload, WentOff, Recovered}
use Rattle.can_mac.specs.declared.phase.Role.{Role}
use Rattle.can_mac.specs.declared.phase.Role.TheVariants.{Receiver, Sender}
use Rattle.can_mac.specs.declared.phase.Reading.{Reading}
use Rattle.can_mac.specs.declared.phase.Phase.TheVariants.{Joining, Idle, StuffedPart, CrcDelimiter, AckSlot, AckDelimiter, EndOfFrame, ErrorFlag, PassiveFlag, OverloadFlag, AfterFlag, Delimiter, Intermission, Suspend, BusOff}
use Rattle.can_mac.specs.State.{MacPhase}
use Rattle.can_mac.specs.Moves.{MacMove, reading_of}
use Rattle.can_wire.specs.Layout.{IsPart}

-- the levels end in this stretch
abbrev pub EndsIn : List Level → List Level → Type 0
EndsIn stretch levels = (before : List Level) × (levels ≡ before ++ stretch)

-- with one level more they end in the longer stretch
pub EndsIn-more : (stretch levels : List Level) (x : Level) → EndsIn stretch levels → EndsIn (stretch ++ x ∷ []) (levels ++ x ∷ [])
EndsIn-more stretch levels x h = (h.0, ap (λ l. l ++ x ∷ []) h.1 ∙ append_assoc h.0 stretch (x ∷ []))

-- what a transmitter of f has heard is the front of its own first o levels, and these are the part so far
pub record OwnFront (f : Parts) (part : List Level) (front : FrontParts) : Type 0 where
  pub is : IsFrame f
  pub o : ℕ
  pub some : 0 < o
  pub within : o ≤ length (stuffed_part f)
  pub part_is : part ≡ take o (stuffed_part f)
  pub front_is : front ≡ front_at f o

-- the whole part is its own
pub record OwnPart (f : Parts) (part u : List Level) : Type 0 where
  pub is : IsFrame f
  pub part_is : part ≡ stuffed_part f
  pub unstuffed_is : u ≡ unstuffed f

-- what a controller knows to be its own of a front
abbrev pub IsOwnFront : Role → List Level → FrontParts → Type 0
IsOwnFront Receiver part front = Unit {0}
IsOwnFront (Sender f) part front = OwnFront f part front

-- and of a whole part
abbrev pub IsOwnPart : Role → (part u : List Level) → Type 0
IsOwnPart Receiver part u = Unit {0}
IsOwnPart (Sender f) part u = OwnPart f part u

-- the ACK slot after which a controller continues: to a transmitter it is dominant
abbrev pub FitsSlot : Role → Level → Type 0
FitsSlot Receiver ack = Unit {0}
FitsSlot (Sender f) ack = ack ≡ Dominant

-- what a controller accepts: a receiver no frame with a wrong CRC sequence
abbrev pub Accepts : Role → Reading → Type 0
Accepts Receiver r = r.agrees ≡ true
Accepts (Sender f) r = Unit {0}

-- the stuffed part of a frame goes on, and this front of it is at the end of the levels
pub record HearsPart (role : Role) (front : FrontParts) (levels : List Level) : Type 0 where
  pub part : List Level
  pub ends : EndsIn part levels
  pub front_of : IsFrontOf part front
  pub goes_on : next_place front ≢ ended
  pub own : IsOwnFront role part front

-- a whole stuffed part, which encodes r, and these levels after it are at the end of the levels
pub record HeardPart (role : Role) (r : Reading) (behind levels : List Level) : Type 0 where
  pub u : List Level
  pub part : List Level
  pub ends : EndsIn (part ++ behind) levels
  pub is_part : IsPart u part
  pub read : r ≡ reading_of u
  pub own : IsOwnPart role part u

-- the same with an ACK slot, after which the controller continues
pub record HeardSlot (role : Role) (r : Reading) (behind : Level → List Level) (levels : List Level) : Type 0 where
  pub ack : Level
  pub fits : FitsSlot role ack
  pub heard : HeardPart role r (behind ack) levels

-- the levels after the stuffed part, to the ACK slot
abbrev pub to_slot : Level → List Level
to_slot ack = Recessive ∷ ack ∷ []

-- and up to the n-th level of the end of frame
abbrev pub to_end : ℕ → Level → List Level
to_end n ack = Recessive ∷ ack ∷ Recessive ∷ replicate n Recessive

-- the same in the end of frame, of which this many levels have been sampled
pub record HeardEnd (role : Role) (r : Reading) (place : ℕ) (levels : List Level) : Type 0 where
  pub within : place ≤ 6
  pub accepts : Accepts role r
  pub slot : HeardSlot role r (to_end place) levels

-- what a controller in this phase and role knows of the levels
abbrev pub Knows : MacPhase → Role → List Level → Type 0
Knows (Joining row) role levels = Unit {0}
Knows Idle role levels = Unit {0}
Knows (StuffedPart front) role levels = HearsPart role front levels
Knows (CrcDelimiter r) role levels = HeardPart role r [] levels
Knows (AckSlot r) role levels = HeardPart role r (Recessive ∷ []) levels
Knows (AckDelimiter r) role levels = HeardSlot role r to_slot levels
Knows (EndOfFrame r place) role levels = HeardEnd role r place levels
Knows (ErrorFlag place) role levels = Unit {0}
Knows (PassiveFlag last run unacknowledged) role levels = Unit {0}
Knows (OverloadFlag place) role levels = Unit {0}
Knows (AfterFlag first dominant) role levels = Unit {0}
Knows (Delimiter place) role levels = Unit {0}
Knows (Intermission place) role levels = Unit {0}
Knows (Suspend place) role levels = Unit {0}
Knows BusOff role levels = Unit {0}

-- the levels end in a spelling of this frame, but for its last level
pub record EndsSpelled (f : Parts) (levels : List Level) : Type 0 where
  pub h : HeardParts
  pub spelled : List Level
  pub last : Level
  pub spells : Spells h (spelled ++ last ∷ [])
  pub holds : h.frame ≡ f
  pub ends : EndsIn spelled levels

-- what an event claims of the levels so far
abbrev pub IsTold : Option Event → List Level → Type 0
IsTold (Some (Received f)) levels = EndsSpelled f levels
IsTold (Some (Sent f)) levels = EndsIn (wire f) levels
IsTold (Some Lost) levels = Unit {0}
IsTold (Some (Error kind)) levels = Unit {0}
IsTold (Some Overload) levels = Unit {0}
IsTold (Some WentOff) levels = Unit {0}
IsTold (Some Recovered) levels = Unit {0}
IsTold None levels = Unit {0}

-- a move after which a controller knows these levels, and whose event is true of them
pub record KnowsAfter (v : MacMove) (levels : List Level) : Type 0 where
  pub knows : Knows v.phase v.role levels
  pub told : IsTold v.event levels
