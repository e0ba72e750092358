-- A bus of ports that the caller keeps, with offers and hits. (docs/BUS.md, "Runs" and "Refusals")
use Rattle.std.specs.Prelude.{ℕ, ◌≡◌, ◌+◌, ◌<◌, ◌⊎◌, ◌==◌, nat_lt, Bool, true, false, if◌then◌else◌, List, [], ◌∷◌, length, map, Option, Some, None, slice_get}
use Rattle.std.specs.Option.{option_or}
use Rattle.can_frame.specs.declared.level.Level.{Level}
use Rattle.can_frame.specs.Levels.{level_code}
use Rattle.can_node.specs.Ports.{PortState}
use Rattle.can_terms.specs.declared.hit.Hit.{Hit}
use Rattle.can_terms.specs.Hits.{AreTaken}
use Rattle.can_bus.specs.declared.fault.BusFault.{BusFault}
use Rattle.can_bus.specs.declared.offer.Offer.{Offer}
use Rattle.can_bus.specs.Course.{AllEnded, Transmission, course_at, hits_made}
use Rattle.can_bus.specs.Inputs.{IsFirstHitFault}
use Rattle.can_bus.specs.Offers.{AreOffered, IsFirstOfferFault}
use Rattle.can_bus.specs.Network.{AllCountAtMost, AllOver, CountsAtMost, IsFreeAgain, NetworkLogBegins, NetworkLogHas, NetworkLogWhole, NetworkTally, StaysActive}
use Rattle.can_bus.specs.Quiet.{AtEachNode, AtEachPort, MissesNothing}
use Rattle.can_bus.specs.Run.{AreLevelsOf, BusState, new_bus}
use Rattle.can_c.specs.declared.handle.Handle.{Handle}
use Rattle.can_c.specs.declared.inputs.PlainHit.{PlainHit}
use Rattle.can_c.specs.declared.inputs.PlainOffer.{PlainOffer}
use Rattle.can_c.specs.declared.status.Status.{Status}
use Rattle.can_c.specs.declared.status.Status.TheVariants.{BadBus, NoMemory, NoPort}
use Rattle.can_c.specs.PlainInputs.{hits_of_plain, hits_refusal, offers_of_plain, offers_refusal}
use Rattle.can_c.specs.Statuses.{bus_status}

-- the port that a handle holds, if any; and those of several handles
abbrev pub held_by : Handle → Option PortState
held_by handle = handle.held

abbrev pub held_in : List Handle → List (Option PortState)
held_in handles = map held_by handles

-- one of the handles holds no port
abbrev pub lacks_port : List (Option PortState) → Bool
lacks_port [] = false
lacks_port (None ∷ held) = true
lacks_port (Some p ∷ held) = lacks_port held

-- the ports that the handles hold, in their order
abbrev pub ports_held : List (Option PortState) → List PortState
ports_held [] = []
ports_held (None ∷ held) = ports_held held
ports_held (Some p ∷ held) = p ∷ ports_held held

-- a new bus of these ports
abbrev pub bus_held : List (Option PortState) → BusState
bus_held held = new_bus (ports_held held)

-- these numbers are those of the levels of this line
abbrev pub AreCodesOf : (ℕ → Level) → List ℕ → Type 0
AreCodesOf line codes = (t : ℕ) → t < length codes → slice_get codes t ≡ Some (level_code (line t))

-- ---- refusals

-- why handles are no bus: there are 1 to 64 of them, each with a port
abbrev pub ports_refusal : List (Option PortState) → Option Status
ports_refusal held =
    if length held == 0 then Some BadBus
    else if nat_lt 64 (length held) then Some BadBus
    else if lacks_port held then Some NoPort else None

-- why there is no such call, the first reason: of the handles, then of the frames offered, then of the kinds of hits
abbrev pub play_refusal : List (Option PortState) → List PlainOffer → List PlainHit → Option Status
play_refusal held offers hits = option_or (ports_refusal held) (option_or (offers_refusal offers) (hits_refusal hits))

-- the fault that a bus of `ports` ports reports: that of the first offer that is wrong; otherwise that of the first hit
abbrev pub IsPlayFault : ℕ → List Offer → List Hit → BusFault → Type 0
IsPlayFault ports offers hits fault = IsFirstOfferFault ports offers fault ⊎ (AreOffered ports offers × IsFirstHitFault ports hits fault)

-- why a call is refused: by its arguments; by the fault that the bus reports; or because there is no memory
abbrev pub IsPlayRefusal : List (Option PortState) → List PlainOffer → List PlainHit → Status → Type 0
IsPlayRefusal held offers hits why = (why ≡ NoMemory) ⊎ ((play_refusal held offers hits ≡ Some why)
    ⊎ ((play_refusal held offers hits ≡ None) × ((fault : BusFault)
    × (IsPlayFault (length held) (offers_of_plain offers) (hits_of_plain hits) fault × (why ≡ bus_status fault)))))

-- a call that is not refused
pub record IsPlayCall (held : List (Option PortState)) (offers : List PlainOffer) (hits : List PlainHit) : Type 0 where
  pub fits : play_refusal held offers hits ≡ None
  pub offered : AreOffered (length held) (offers_of_plain offers)
  pub taken : AreTaken (length held) (hits_of_plain hits)

-- ---- a network

-- what such a call records on a network whose attempts are this course, and the states in which it leaves the ports
pub record IsNetworkRun (offers : List Offer) (course : List Transmission) (recorded : List Level)
    (before after : List PortState) : Type 0 where
  pub levels : AreLevelsOf (course_at course) recorded
  pub logs : AtEachNode (NetworkLogBegins offers course) before after
  pub has : AtEachNode (NetworkLogHas offers course (length recorded)) before after
  pub whole : AllEnded course (length recorded) → AtEachNode (NetworkLogWhole offers course) before after
  pub tally : AllEnded course (length recorded) → AtEachNode (NetworkTally offers course) before after
  pub active : AtEachPort StaysActive before after
  pub counts : (errors : ℕ) → AllCountAtMost errors before → AtEachPort (λ p q. CountsAtMost (errors + hits_made course) q) before after
  pub rests : AllOver course (length recorded) → AtEachPort IsFreeAgain before after
  pub missed : AtEachPort MissesNothing before after
