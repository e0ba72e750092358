-- Frames that pass a bus in one step, and the offers that fall in them.
use Rattle.std.specs.Prelude.{ℕ, zero, suc, ◌≡◌, ◌≤◌, ◌==◌, ◌+◌, ◌⊎◌, nat_lt, if◌then◌else◌, length, List, [], ◌∷◌, Option, Some}
use Rattle.can_frame.specs.declared.level.Level.{Level}
use Rattle.can_frame.specs.Parts.{Parts}
use Rattle.can_frame.specs.Arbitration.{arbitration_field, Before}
use Rattle.can_mac.specs.Frames.{IsPoised}
use Rattle.can_node.specs.Passing.{IsAside, LetsPass}
use Rattle.can_node.specs.Ports.{PortState, waiting}
use Rattle.can_bus.specs.declared.offer.Offer.{Offer}
use Rattle.can_bus.specs.Offers.{all_made, refused_at}
use Rattle.can_bus.specs.Run.{rest_after}

-- f may pass this port in one step, and the port starts with f
abbrev pub PassesFrom : Parts → PortState → Type 0
PassesFrom f p = IsPoised p.mac (waiting p.queue) (Some f)

-- f may pass this port in one step, and the port receives it: f has priority over the frame with which the port starts, if there is one
abbrev pub Receives : Parts → PortState → Type 0
Receives f p =
    (next : Option Parts)
    × (IsPoised p.mac (waiting p.queue) next
    × ((g : Parts) → next ≡ Some g → Before (arbitration_field f) (arbitration_field g)))

-- the port receives f, or takes no part in it
abbrev pub PassesBy : Parts → PortState → Type 0
PassesBy f p = IsAside p ⊎ Receives f p

-- f may pass the port in one step, or the port takes no part in it
abbrev pub MayPass : Parts → PortState → Type 0
MayPass f p = IsAside p ⊎ LetsPass f p

abbrev pub MayPassAll : Parts → List PortState → Type 0
MayPassAll f [] = Unit {0}
MayPassAll f (p ∷ ports) = MayPass f p × MayPassAll f ports

abbrev pub PassesByAll : Parts → List PortState → Type 0
PassesByAll f [] = Unit {0}
PassesByAll f (p ∷ ports) = PassesBy f p × PassesByAll f ports

-- some port receives f
abbrev pub IsReceived : Parts → List PortState → Type 0
IsReceived f [] = ⊥
IsReceived f (p ∷ ports) = Receives f p ⊎ IsReceived f ports

-- one port starts with f, and each other one receives it or takes no part in it
abbrev pub PassesBus : Parts → List PortState → Type 0
PassesBus f [] = ⊥
PassesBus f (p ∷ ports) = (PassesFrom f p × PassesByAll f ports) ⊎ (PassesBy f p × PassesBus f ports)

-- as `PassesBus`, where port s starts with f; the first of these has the number k
abbrev pub PassesAt : Parts → ℕ → ℕ → List PortState → Type 0
PassesAt f s k [] = Unit {0}
PassesAt f s k (p ∷ ports) = (((k ≡ s) × PassesFrom f p) ⊎ PassesBy f p) × PassesAt f s (k + 1) ports

-- the number of recessive levels recorded last, after these
abbrev pub rest_run : ℕ → List Level → ℕ
rest_run rest [] = rest
rest_run rest (x ∷ levels) = rest_run (rest_after rest x) levels

-- the ports after the offers of the n times that follow time i
abbrev pub made_behind : List Offer → ℕ → ℕ → List PortState → List PortState
made_behind offers i zero ports = ports
made_behind offers i (suc n) ports = all_made offers (i + suc n) (made_behind offers i n ports)

-- how many of these offers find a full queue
abbrev pub refused_behind : List Offer → ℕ → ℕ → List PortState → ℕ
refused_behind offers i zero ports = 0
refused_behind offers i (suc n) ports = refused_behind offers i n ports + refused_at offers (i + suc n) (made_behind offers i n ports)

-- the queue of port s has space for n more frames; the first of these has the number k
abbrev pub HasRoom : ℕ → ℕ → ℕ → List PortState → Type 0
HasRoom s n k [] = Unit {0}
HasRoom s n k (p ∷ ports) = (k ≡ s → length p.queue + n ≤ p.queue_room) × HasRoom s n (k + 1) ports

-- how many of these offers are to port s and before time `end`
abbrev pub due_before : ℕ → ℕ → List Offer → ℕ
due_before s end [] = 0
due_before s end (offer ∷ offers) = (if offer.node == s then (if nat_lt offer.time end then 1 else 0) else 0) + due_before s end offers
