-- A network: a bus with offers at run time and hits, on which each arbitration field belongs to one port. (docs/BUS.md, "Networks"; Bosch
-- CAN 2.0 part B, sections 2, 3.2.5, 6 and 8)
use Rattle.std.specs.Prelude.{ℕ, ◌≡◌, ◌≢◌, ◌+◌, ◌*◌, ◌<◌, ◌≤◌, List, [], ◌++◌, length, map, slice_get, take, Some}
use Rattle.can_frame.specs.Arbitration.{arbitration_field}
use Rattle.can_frame.specs.IdleRow.{idle_row}
use Rattle.can_fault.specs.declared.state.State.TheVariants.{Active}
use Rattle.can_fault.specs.Counters.{state_of}
use Rattle.can_mac.specs.declared.phase.Phase.TheVariants.{Idle}
use Rattle.can_node.specs.Ports.{PortState}
use Rattle.can_terms.specs.declared.hit.Hit.{Hit}
use Rattle.can_bus.specs.declared.offer.Offer.{Offer}
use Rattle.can_bus.specs.Course.{IsCourse, IsMade, Transmission, course_tally, ended_by, frames_sent, keeping}
use Rattle.can_bus.specs.Offers.{AreOffered}
use Rattle.can_bus.specs.Quiet.{AtEachPort, IsPrefixOf, marked}
use Rattle.can_bus.specs.Attempts.{AreApart, IsLow, Tally, AreInAttempts}
use Rattle.can_bus.specs.Run.{BusState}
use Rattle.can_bus.specs.Timed.{Lists, TimedParts, frames_of, all_offers, offered_to, own_offers, timed, QueuesHaveRoom}

-- What is required of it.

-- the counters of a port
abbrev pub port_tally : PortState → Tally
port_tally p = record { tec = p.mac.counters.tec; rec = p.mac.counters.rec }

-- an idle, error active port with no overload frame requested, whose log has space for this many more entries
pub record IsFit (entries : ℕ) (p : PortState) : Type 0 where
  pub idle : p.mac.phase ≡ Idle
  pub low : IsLow (port_tally p)
  pub unasked : p.mac.overloads.pending ≡ 0
  pub room : length p.log + entries ≤ p.log_room

-- each arbitration field belongs to one port: no two ports have frames with the same field to send
abbrev pub FieldsAreOwned : List Offer → List PortState → Type 0
FieldsAreOwned offers ports = (m n : ℕ) (p q : PortState) → m < n → slice_get ports m ≡ Some p → slice_get ports n ≡ Some q →
    (x y : TimedParts) → Lists (own_offers offers m p) x → Lists (own_offers offers n q) y
    → arbitration_field x.frame ≢ arbitration_field y.frame

-- the tally of each port is that of an error active one after each attempt
abbrev pub CourseIsBorne : List Offer → List PortState → List Transmission → Type 0
CourseIsBorne offers ports course = (n : ℕ) (p : PortState) → slice_get ports n ≡ Some p → (number : ℕ) → number ≤ length course →
    IsLow (course_tally (frames_of (own_offers offers n p)) (take number course) (port_tally p))

-- A call on a bus at rest, with these offers and hits, whose attempts are this course.
pub record IsNetworkCall (offers : List Offer) (hits : List Hit) (bus : BusState) (course : List Transmission) : Type 0 where
  pub two : 2 ≤ length bus.ports
  pub most : length bus.ports ≤ 64
  pub rest : bus.rest ≡ idle_row
  -- offers are in order of time, each to a port of the bus
  pub offered : AreOffered (length bus.ports) offers
  pub fit : (n : ℕ) (p : PortState) → slice_get bus.ports n ≡ Some p → IsFit (length (all_offers offers bus.ports)) p
  pub room : QueuesHaveRoom offers bus.ports
  -- no two ports share an arbitration field; one port may have the same field again and again
  pub owned : FieldsAreOwned offers bus.ports
  -- at most one hit in an attempt, in the order of attempts
  pub within : AreInAttempts hits
  pub apart : AreApart 1 hits
  -- the attempts to send all frames
  pub is_course : IsCourse hits 0 0 (all_offers offers bus.ports) course
  pub borne : CourseIsBorne offers bus.ports course

-- what is claimed of a network call, with its course
abbrev pub OnNetworkCall : List Offer → List Hit → BusState → (List Transmission → Type 0) → Type 0
OnNetworkCall offers hits bus Claim = (course : List Transmission) → IsNetworkCall offers hits bus course → Claim course

-- What is promised of a port with this number, before (p) and after (q).

-- the log has its earlier entries, then a prefix of the frames sent, each marked as sent if the port had it to send
abbrev pub NetworkLogBegins : List Offer → List Transmission → ℕ → PortState → PortState → Type 0
NetworkLogBegins offers course node p q = IsPrefixOf q.log (p.log ++ marked (frames_of (own_offers offers node p)) (frames_sent course))

-- the log has each frame whose wire has ended by this time
abbrev pub NetworkLogHas : List Offer → List Transmission → ℕ → ℕ → PortState → PortState → Type 0
NetworkLogHas offers course t node p q =
    IsPrefixOf (p.log ++ marked (frames_of (own_offers offers node p)) (frames_sent (ended_by t course))) q.log

-- the log has all frames that are sent
abbrev pub NetworkLogWhole : List Offer → List Transmission → ℕ → PortState → PortState → Type 0
NetworkLogWhole offers course node p q = q.log ≡ p.log ++ marked (frames_of (own_offers offers node p)) (frames_sent course)

-- the port is error active
abbrev pub StaysActive : PortState → PortState → Type 0
StaysActive p q = state_of q.mac.counters ≡ Active

-- the port has counted at most this many errors
pub record CountsAtMost (errors : ℕ) (p : PortState) : Type 0 where
  pub tec : p.mac.counters.tec ≤ 8 * errors
  pub rec : p.mac.counters.rec ≤ errors

-- each port has counted at most this many errors
abbrev pub AllCountAtMost : ℕ → List PortState → Type 0
AllCountAtMost errors ports = (n : ℕ) (p : PortState) → slice_get ports n ≡ Some p → CountsAtMost errors p

-- the counters are those of the tally
abbrev pub NetworkTally : List Offer → List Transmission → ℕ → PortState → PortState → Type 0
NetworkTally offers course node p q = port_tally q ≡ course_tally (frames_of (own_offers offers node p)) course (port_tally p)

-- Calls that follow one another.

-- all attempts and the intermission after each are over by this time
abbrev pub AllOver : List Transmission → ℕ → Type 0
AllOver course t = (s : Transmission) → IsMade course s → s.time + keeping s.frame s.hit ≤ t

-- a port that is idle, with nothing left to send, no overload frame requested, and unchanged capacities
pub record IsFreeAgain (p q : PortState) : Type 0 where
  pub idle : q.mac.phase ≡ Idle
  pub empty : q.queue ≡ []
  pub unasked : q.mac.overloads.pending ≡ 0
  pub queue_room : q.queue_room ≡ p.queue_room
  pub log_room : q.log_room ≡ p.log_room

-- a bus at rest with the same number of ports, each of them free again
pub record RestsAgain (before after : BusState) : Type 0 where
  pub count : length after.ports ≡ length before.ports
  pub rest : after.rest ≡ idle_row
  pub ports : AtEachPort IsFreeAgain before.ports after.ports

-- What is required of the next call, after one with these offers and this course: of its offers and hits, and of the ports as they were
-- before the first.
pub record IsNextCall (offers : List Offer) (course : List Transmission) (ports : List PortState) (next : List Offer)
    (hits : List Hit) (behind : List Transmission) : Type 0 where
  pub offered : AreOffered (length ports) next
  pub logs : (n : ℕ) (p : PortState) → slice_get ports n ≡ Some p → length p.log + length (frames_sent course) + length next ≤ p.log_room
  pub room : (n : ℕ) (p : PortState) → slice_get ports n ≡ Some p → length (offered_to n next) ≤ p.queue_room
  pub owned : (m n : ℕ) → m < n → (x y : TimedParts) → Lists (offered_to m next) x → Lists (offered_to n next) y
      → arbitration_field x.frame ≢ arbitration_field y.frame
  pub within : AreInAttempts hits
  pub apart : AreApart 1 hits
  pub is_course : IsCourse hits 0 0 (map timed next) behind
  -- the tally continues that of the first call
  pub borne : (n : ℕ) (p : PortState) → slice_get ports n ≡ Some p → (number : ℕ) → number ≤ length behind →
      IsLow (course_tally (frames_of (offered_to n next)) (take number behind) (course_tally (frames_of (own_offers offers n p)) course (port_tally p)))
