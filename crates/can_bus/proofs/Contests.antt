-- Which frames a list has, and what holds of each port; and which frame is pending, if every other has lower priority.
use Rattle.std.proofs.Common.{◌≡◌, ◌⊎◌, Option, Some, None, List, [], ◌∷◌, refl, ap, subst, inl, inr}
use Rattle.can_frame.specs.Parts.{Parts}
use Rattle.can_node.specs.Ports.{waiting}
use Rattle.can_node.specs.Waiting.{IsWaiting}
use Rattle.can_node.proofs.WaitingLaws.{waiting-none, waiting-IsWaiting}
use Rattle.can_node.proofs.FrameLeaves.{ComesBehind}
use Rattle.can_bus.proofs.Ascending.{Goes}
use Rattle.can_bus.proofs.Members.{Stands, stands-none}

-- the frame is one of these
abbrev pub Has : Parts → List Parts → Type 0
Has x frames = Stands frames x

-- it holds of each port
abbrev pub AllPorts : {P : Type 0} → (P → Type 0) → List P → Type 0
AllPorts holds [] = Unit {0}
AllPorts holds (p ∷ ports) = holds p × AllPorts holds ports

-- ---- the frame that waits

own-of : (f : Parts) (queue : List Parts) (w : Option Parts) → waiting queue ≡ w → Has f queue → ((x : Parts) → Has x queue → (x ≡ f) ⊎ Goes f x) → w ≡ Some f
own-of f queue None e has least = absurd (stands-none f (let none : queue ≡ [] = waiting-none queue e in subst (Has f) none has))
own-of f queue (Some w) e has least =
    let is : IsWaiting queue w = waiting-IsWaiting queue w e in
    elim (least w (is.place, is.stands)) [
      | inl same ↦ ap Some same
      | inr behind ↦ absurd (is.least has.0 f has.1 behind)
    ]

pub own-waits : (f : Parts) (queue : List Parts) → Has f queue → ((x : Parts) → Has x queue → (x ≡ f) ⊎ Goes f x) → waiting queue ≡ Some f
own-waits f queue has least = own-of f queue (waiting queue) refl has least

behind-of : (f : Parts) (queue : List Parts) (w : Option Parts) → waiting queue ≡ w → ((x : Parts) → Has x queue → Goes f x) → ComesBehind f w
behind-of f queue None e behind = tt
behind-of f queue (Some w) e behind =
    let is : IsWaiting queue w = waiting-IsWaiting queue w e in behind w (is.place, is.stands)

pub behind-waits : (f : Parts) (queue : List Parts) → ((x : Parts) → Has x queue → Goes f x) → ComesBehind f (waiting queue)
behind-waits f queue behind = behind-of f queue (waiting queue) refl behind
