-- A quiet bus: every queued frame is sent once, in priority order. (docs/BUS.md, "The order in which frames go out" and "A quiet bus")
use Rattle.std.specs.Prelude.{ℕ, ◌≡◌, ◌≢◌, ◌+◌, ◌<◌, ◌≤◌, Bool, if◌then◌else◌, List, [], ◌∷◌, ◌++◌, length, map, sum_by, slice_get, slice_index_or, Some}
use Rattle.std.specs.List.{flat_map, list_any}
use Rattle.std.specs.List.Sorted.{IsPermutation}
use Rattle.can_frame.specs.declared.level.Level.{Level}
use Rattle.can_frame.specs.declared.level.Level.TheVariants.{Recessive}
use Rattle.can_frame.specs.Parts.{Parts}
use Rattle.can_frame.specs.Arbitration.{arbitration_field, Before}
use Rattle.can_wire.specs.Wire.{wire}
use Rattle.can_mac.specs.declared.phase.Phase.TheVariants.{Idle}
use Rattle.can_mac.specs.Frames.{with_intermission}
use Rattle.can_node.specs.declared.entry.Entry.{Entry}
use Rattle.can_node.specs.Ports.{PortState, goes_before, same_field}
use Rattle.can_terms.specs.declared.hit.Hit.{Hit}

-- each earlier frame has higher priority than each later one
abbrev pub IsRising : List Parts → Type 0
IsRising frames =
    (m n : ℕ) (f g : Parts) → m < n → slice_get frames m ≡ Some f → slice_get frames n ≡ Some g
    → Before (arbitration_field f) (arbitration_field g)

-- the list of the waiting frames, each once, in priority order
pub record IsAscending (waiting frames : List Parts) : Type 0 where
  pub rising : IsRising frames
  pub all : IsPermutation waiting frames

-- the computed list: f inserted at its place in an ascending list
abbrev pub inserted : Parts → List Parts → List Parts
inserted f [] = f ∷ []
inserted f (g ∷ frames) = if goes_before g f then g ∷ inserted f frames else f ∷ g ∷ frames

unfoldable pub ascending : List Parts → List Parts
ascending [] = []
ascending (f ∷ frames) = inserted f (ascending frames)

-- how long a frame keeps the bus: its wire, and three levels of intermission (3.2.5)
abbrev pub busy_time : Parts → ℕ
busy_time f = length (wire f) + 3

-- the span: how many bit times the frames take
unfoldable pub span : List Parts → ℕ
span frames = sum_by busy_time frames

-- the level at a time if the frames are sent one after another, recessive afterwards
unfoldable pub line_at : List Parts → ℕ → Level
line_at frames t = slice_index_or (flat_map with_intermission frames) t Recessive

-- the frames that wait at all ports
abbrev pub queued : List PortState → List Parts
queued ports = flat_map (λ p. p.queue) ports

-- an idle port with both counters 0, no overload frame requested, and an empty log with capacity for this many entries
pub record IsQuietPort (entries : ℕ) (p : PortState) : Type 0 where
  pub idle : p.mac.phase ≡ Idle
  pub tec : p.mac.counters.tec ≡ 0
  pub rec : p.mac.counters.rec ≡ 0
  pub unasked : p.mac.overloads.pending ≡ 0
  pub empty : p.log ≡ []
  pub room : entries ≤ p.log_room

-- no two frames of the list have the same arbitration field
abbrev pub AreDifferent : List Parts → Type 0
AreDifferent frames =
    (m n : ℕ) (f g : Parts) → m < n → slice_get frames m ≡ Some f → slice_get frames n ≡ Some g → arbitration_field f ≢ arbitration_field g

-- what is required of the ports: two to 64, each quiet, with different arbitration fields
pub record IsQuiet (ports : List PortState) : Type 0 where
  pub two : 2 ≤ length ports
  pub most : length ports ≤ 64
  pub quiet : (n : ℕ) (p : PortState) → slice_get ports n ≡ Some p → IsQuietPort (length (queued ports)) p
  pub different : AreDifferent (queued ports)

-- a call without hits on a quiet bus, and its waiting frames in priority order
pub record IsQuietCall (hits : List Hit) (ports : List PortState) (frames : List Parts) : Type 0 where
  pub undisturbed : hits ≡ []
  pub quiet : IsQuiet ports
  pub ascending : IsAscending (queued ports) frames

-- what is claimed of a quiet call, with its waiting frames in priority order
abbrev pub OnQuietCall : List Hit → List PortState → (List Parts → Type 0) → Type 0
OnQuietCall hits ports Claim = (frames : List Parts) → IsQuietCall hits ports frames → Claim frames

-- the queue has a frame with this arbitration field
abbrev pub holds : List Parts → Parts → Bool
holds queue f = list_any (same_field f) queue

-- the log of a port after these frames: those in its queue are marked as sent, the others as received
abbrev pub marked : List Parts → List Parts → List Entry
marked queue frames = map (λ f. record { frame = f; sent = holds queue f }) frames

-- a is a prefix of b
abbrev pub IsPrefixOf : {A : Type 0} → List A → List A → Type 0
IsPrefixOf {A} a b = (rest : List A) × (a ++ rest ≡ b)

-- the claim holds of each port, with its number, before and after
abbrev pub AtEachNode : (ℕ → PortState → PortState → Type 0) → List PortState → List PortState → Type 0
AtEachNode R before after = (n : ℕ) (p q : PortState) → slice_get before n ≡ Some p → slice_get after n ≡ Some q → R n p q

-- the claim holds of each port, before and after
abbrev pub AtEachPort : (PortState → PortState → Type 0) → List PortState → List PortState → Type 0
AtEachPort R before after = AtEachNode (λ node. R) before after

-- the log is a prefix of the marked list
abbrev pub LogsBegin : List Parts → PortState → PortState → Type 0
LogsBegin frames p q = IsPrefixOf q.log (marked p.queue frames)

-- the log is the whole marked list
abbrev pub LogsWhole : List Parts → PortState → PortState → Type 0
LogsWhole frames p q = q.log ≡ marked p.queue frames

-- no counter has changed
abbrev pub CountsNothing : PortState → PortState → Type 0
CountsNothing p q = q.mac.counters ≡ p.mac.counters

-- no entry has been missed
abbrev pub MissesNothing : PortState → PortState → Type 0
MissesNothing p q = q.missed ≡ p.missed
