-- The slots of a queue, and the tournament that finds the frame with the highest priority.
use Rattle.std.specs.Prelude.{ℕ, ◌≡◌, ◌≢◌, ◌≤◌, ◌<◌, ◌+◌, ◌-◌, ◌*◌, Bool, true, false, nat_lt, min, if◌then◌else◌, List, length, Option, Some, None, get_or}
use Rattle.std.specs.List.{filter_map}
use Rattle.std.specs.declared.cmp.Ordering.{Ordering}
use Rattle.std.specs.Ordering.{ordering_then, nat_cmp, is_gt}
use Rattle.can_frame.specs.declared.level.Level.{Level}
use Rattle.can_frame.specs.Parts.{Parts}
use Rattle.can_frame.specs.Arbitration.{arbitration_field, field_cmp}
use Rattle.can_node.specs.declared.queue.entrant.Entrant.{Entrant}
use Rattle.can_node.specs.Ports.{is_equal}

-- the frames in these slots
abbrev pub frames_in : List (Option Parts) → List Parts
frames_in = filter_map (λ slot. slot)

-- the order of entrants: by arbitration field, and of one field by place
abbrev pub entrant_cmp : Entrant → Entrant → Ordering
entrant_cmp a b = ordering_then (field_cmp a.field b.field) (nat_cmp a.place b.place)

-- of two entrants, the lower one; of one, that one
abbrev pub earlier_of : Option Entrant → Option Entrant → Option Entrant
earlier_of None b = b
earlier_of (Some a) None = Some a
earlier_of (Some a) (Some b) = if is_gt (entrant_cmp a b) then Some b else Some a

-- the frame in a slot, with its place
abbrev pub entrant_in : Option Parts → ℕ → Option Entrant
entrant_in None place = None
entrant_in (Some f) place = Some (record { field = arbitration_field f; place = place })

abbrev pub entrant_at : List (Option Parts) → ℕ → Option Entrant
entrant_at slots place = entrant_in (get_or slots place None) place

-- the winner at a node: stored below the width; from the width on, the nodes are the slots
unfoldable pub winner_at : List (Option Entrant) → List (Option Parts) → ℕ → Option Entrant
winner_at winners slots node = if nat_lt node (length winners) then get_or winners node None else entrant_at slots (node - length winners)

-- the winner at a node is that of its children 2 n and 2 n + 1
abbrev pub IsPlayedAt : List (Option Entrant) → List (Option Parts) → ℕ → Type 0
IsPlayedAt winners slots node =
    winner_at winners slots node ≡ earlier_of (winner_at winners slots (2 * node))
    (winner_at winners slots (2 * node + 1))

-- each node below the width has the winner of its children
abbrev pub IsPlayed : List (Option Entrant) → List (Option Parts) → Type 0
IsPlayed winners slots = (node : ℕ) → 1 ≤ node → node < length winners → IsPlayedAt winners slots node

-- each node has the winner of its children, except the parent of this one
abbrev pub IsPlayedBut : ℕ → List (Option Entrant) → List (Option Parts) → Type 0
IsPlayedBut below winners slots =
    (node : ℕ) → 1 ≤ node → node < length winners → 2 * node ≢ below → 2 * node + 1 ≢ below
    → IsPlayedAt winners slots node

-- the second node is the first, or a descendant of it
pub data Under : ℕ → ℕ → Type 0 where
  here : {n : ℕ} → Under n n
  left : {n m : ℕ} → Under (2 * n) m → Under n m
  right : {n m : ℕ} → Under (2 * n + 1) m → Under n m

-- whether a frame has this arbitration field
abbrev pub has_field : List Level → Parts → Bool
has_field field f = is_equal (field_cmp field (arbitration_field f))

-- no slot under a node has a frame of this field
abbrev pub NoneUnder : ℕ → ℕ → List (Option Parts) → List Level → Type 0
NoneUnder node width slots field =
    (place : ℕ) (f : Parts) → Under node (width + place) → get_or slots place None ≡ Some f → has_field field f ≡ false

-- the frame at this place has this field, and none before it under the node has
pub record IsFirstUnder (node width : ℕ) (slots : List (Option Parts)) (field : List Level) (place : ℕ) : Type 0 where
  pub frame : Parts
  pub stands : get_or slots place None ≡ Some frame
  pub has : has_field field frame ≡ true
  pub first : (n : ℕ) (f : Parts) → n < place → Under node (width + n) → get_or slots n None ≡ Some f → has_field field f ≡ false

-- the first place under a node with a frame of this field, if there is one
abbrev pub FirstUnder : ℕ → ℕ → List (Option Parts) → List Level → Option ℕ → Type 0
FirstUnder node width slots field None = NoneUnder node width slots field
FirstUnder node width slots field (Some place) = IsFirstUnder node width slots field place

-- the lower of two places, or the only one
abbrev pub lower_of : Option ℕ → Option ℕ → Option ℕ
lower_of None b = b
lower_of (Some a) None = Some a
lower_of (Some a) (Some b) = Some (min a b)
