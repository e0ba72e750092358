-- The ports of a network, and the offers that are left: one port sends the frame that comes next, all others receive it, and till then they rest.
use Rattle.std.proofs.Common.{◌≡◌, ℕ, suc, ◌+◌, ◌<◌, ◌≤◌, ◌⊎◌, true, false, List, [], ◌∷◌, ◌++◌, length, map, refl, sym, ap, subst, ◌∙◌, arith, inl, inr}
use Rattle.std.specs.List.{flat_map}
use Rattle.std.proofs.lemmas.Bool.{cases_Bool}
use Rattle.std.proofs.lemmas.List.{append-nil}
use Rattle.can_frame.specs.Parts.{Parts, IsFrame}
use Rattle.can_frame.specs.Arbitration.{arbitration_field}
use Rattle.can_frame.proofs.FieldLemmas.{fields_ranked}
use Rattle.can_mac.specs.Frames.{with_intermission}
use Rattle.can_mac.proofs.HitLevels.{IsHit}
use Rattle.can_node.specs.Ports.{PortState, same_field}
use Rattle.can_node.specs.Waiting.{IsWaiting}
use Rattle.can_node.proofs.Arrivals.{GainingPort}
use Rattle.can_node.proofs.FrameLeaves.{Sends, Receives, IsReady}
use Rattle.can_node.proofs.WaitingLemmas.{Shares-same_field}
use Rattle.can_bus.specs.CourseWaiting.{of_field}
use Rattle.can_bus.specs.Quiet.{holds, queued}
use Rattle.can_bus.specs.Timed.{TimedParts, Lists, offered_by, without_offer}
use Rattle.can_bus.proofs.Ascending.{Goes, Other}
use Rattle.can_bus.proofs.Contests.{Has, AllPorts, behind-waits}
use Rattle.can_bus.proofs.Members.{filter-stands, stands-here, stands-front, stands-back}
use Rattle.can_bus.proofs.FrameOnBus.{AllReceive, OneSends, ports_of}
use Rattle.can_bus.proofs.LeftOffers.{offered-stands, stands-offered}
use Rattle.can_bus.proofs.OfferTimes.{offered_by-append}
use Rattle.can_bus.proofs.OwnOffers.{without-absent}
use Rattle.can_bus.proofs.CalmPorts.{IsCalm, all-ready, frame-queued, sends-has}
use Rattle.can_bus.proofs.RestingPorts.{IsAtRest, calm-rests}
use Rattle.can_bus.proofs.AttemptTallies.{Survives}
use Rattle.can_bus.proofs.Repairs.{broken_levels}
use Rattle.can_bus.proofs.Fields.{like, like-none, like-append, like-offered, field-moves, field-without, waiting-head, head-waits, without-front, without-behind, without-length}
use Rattle.can_bus.proofs.CoursePorts.{CoursePort, IsCoursePort, queue-now, rested, port-rested, HasPart, others-own, behind_frame, port-behind, behind_hit, port-broken}

-- ---- all ports

-- as this bit time begins
abbrev pub machines_of : List CoursePort → List GainingPort
machines_of os = map (λ (o : CoursePort). o.machine) os

abbrev pub ports_now : List CoursePort → List PortState
ports_now os = ports_of (machines_of os)

-- the offers that are left at them
abbrev pub held : List CoursePort → List TimedParts
held os = flat_map (λ (o : CoursePort). o.own) os

-- a field of one port belongs to none after it
abbrev pub Owned : List CoursePort → Type 0
Owned [] = Unit {0}
Owned (o ∷ os) = ((f : Parts) → holds o.mine f ≡ true → AllPorts (λ (q : CoursePort). holds q.mine f ≡ false) os) × Owned os

-- calm ports at this time, to which these offers are left: of each field the same, in the same order
pub record CourseRound (h now : ℕ) (left : List TimedParts) (os : List CoursePort) : Type 0 where
  pub ports : AllPorts (IsCoursePort h now (length left)) os
  pub owned : Owned os
  pub fields : (f : Parts) → of_field f left ≡ of_field f (held os)

-- what is queued is what is offered by now
held-queued : (h now n : ℕ) (os : List CoursePort) → AllPorts (IsCoursePort h now n) os → queued (ports_now os) ≡ offered_by now (held os)
held-queued h now n [] are = refl
held-queued h now n (o ∷ os) are =
    ap (λ q. q ++ queued (ports_now os)) (queue-now h now n o are.0) ∙ ap (λ q. offered_by now o.own ++ q) (held-queued h now n os are.1)
    ∙ sym (offered_by-append now o.own (held os))

pub all-calm : (h now n : ℕ) (os : List CoursePort) → AllPorts (IsCoursePort h now n) os → AllPorts (IsCalm h n) (ports_now os)
all-calm h now n [] are = tt
all-calm h now n (o ∷ os) are = (are.0.calm, all-calm h now n os are.1)

-- a frame in a queue is of an offer
own-offered : (h now n : ℕ) (o : CoursePort) → IsCoursePort h now n o → (x : Parts) → Has x o.machine.port.queue → (y : TimedParts) × Lists o.own y × (y.time ≤ now) × (y.frame ≡ x)
own-offered h now n o is x has = offered-stands now o.own x (subst (Has x) (queue-now h now n o is) has)

-- what is made of each port keeps its fields
module _ (F : CoursePort → CoursePort) (same : (o : CoursePort) → (F o).mine ≡ o.mine) where
  none-kept : (f : Parts) (os : List CoursePort) → AllPorts (λ (q : CoursePort). holds q.mine f ≡ false) os → AllPorts (λ (q : CoursePort). holds q.mine f ≡ false) (map F os)
  none-kept f [] none = tt
  none-kept f (o ∷ os) none = (ap (λ queue. holds queue f) (same o) ∙ none.0, none-kept f os none.1)

  owned-kept : (os : List CoursePort) → Owned os → Owned (map F os)
  owned-kept [] owned = tt
  owned-kept (o ∷ os) owned = ((λ f own. none-kept f os (owned.0 f (sym (ap (λ queue. holds queue f) (same o)) ∙ own))), owned-kept os owned.1)

  held-kept : ((o : CoursePort) → (F o).own ≡ o.own) → (os : List CoursePort) → held (map F os) ≡ held os
  held-kept own [] = refl
  held-kept own (o ∷ os) = ap (λ l. l ++ held (map F os)) (own o) ∙ ap (λ l. o.own ++ l) (held-kept own os)

-- ---- at rest

-- no offer that is left has been made
abbrev pub NoneWaits : ℕ → List TimedParts → Type 0
NoneWaits now left = (x : TimedParts) → Lists left x → now < x.time

all-rested : (h now n : ℕ) (os : List CoursePort) → AllPorts (IsCoursePort h now n) os → AllPorts IsAtRest (ports_now os) → AllPorts (IsCoursePort h (now + 1) n) (map rested os)
all-rested h now n [] are rest = tt
all-rested h now n (o ∷ os) are rest = (port-rested h now n o are.0 rest.0, all-rested h now n os are.1 rest.1)

module _ (h now : ℕ) (left : List TimedParts) (os : List CoursePort) (round : CourseRound h now left os) where
  -- an offer at a port is left
  held-left : (x : TimedParts) → Lists (held os) x → Lists left x
  held-left = field-moves (held os) left (λ f. sym (round.fields f))

  queued-left : (x : Parts) → Has x (queued (ports_now os)) → (y : TimedParts) × Lists left y × (y.time ≤ now) × (y.frame ≡ x)
  queued-left x has =
      let queue = held-queued h now (length left) os round.ports in
      let there = offered-stands now (held os) x (subst (Has x) queue has) in
      (there.0, held-left there.0 there.1, there.2, there.3)

  pub round-rests : NoneWaits now left → AllPorts IsAtRest (ports_now os)
  round-rests none =
      calm-rests h (length left) (ports_now os) (all-calm h now (length left) os round.ports)
      (λ x has. let there = queued-left x has in omega (arith, there.2, none there.0 there.1))

  pub round-rested : NoneWaits now left → CourseRound h (now + 1) left (map rested os)
  round-rested none = record {
    ports = all-rested h now (length left) os round.ports (round-rests none);
    owned = owned-kept rested (λ o. refl) os round.owned;
    fields = λ f. round.fields f ∙ ap (of_field f) (sym (held-kept rested (λ o. refl) (λ o. refl) os));
  }

-- ---- who sends

abbrev HasNone : Parts → CoursePort → Type 0
HasNone f o = Receives f o.machine.port × (holds o.mine f ≡ false)

-- one port sends f, and all others have none of its field
abbrev pub SendsOne : Parts → List CoursePort → Type 0
SendsOne f [] = ⊥
SendsOne f (o ∷ os) = ((Sends f o.machine.port × (holds o.mine f ≡ true)) × AllPorts (HasNone f) os) ⊎ (HasNone f o × SendsOne f os)

none-receive : (f : Parts) (os : List CoursePort) → AllPorts (HasNone f) os → AllReceive f (ports_now os)
none-receive f [] none = tt
none-receive f (o ∷ os) none = (none.0.0, none-receive f os none.1)

pub one-sends : (f : Parts) (os : List CoursePort) → SendsOne f os → OneSends f (ports_now os)
one-sends f [] one = one
one-sends f (o ∷ os) (inl one) = inl (one.0.0, none-receive f os one.1)
one-sends f (o ∷ os) (inr one) = inr (one.0.0, one-sends f os one.1)

none-parts : (f : Parts) (os : List CoursePort) → AllPorts (HasNone f) os → AllPorts (HasPart f) os
none-parts f [] none = tt
none-parts f (o ∷ os) none = (inr none.0, none-parts f os none.1)

pub one-parts : (f : Parts) (os : List CoursePort) → SendsOne f os → AllPorts (HasPart f) os
one-parts f [] one = absurd one
one-parts f (o ∷ os) (inl one) = (inl one.0, none-parts f os one.1)
one-parts f (o ∷ os) (inr one) = (inr one.0, one-parts f os one.1)

-- none goes before f
abbrev IsLeast : Parts → List CoursePort → Type 0
IsLeast f os = (x : Parts) → Has x (queued (ports_now os)) → (arbitration_field f ≡ arbitration_field x) ⊎ Goes f x

module _ (h now n : ℕ) (f : Parts) where
  alien : (o : CoursePort) → IsCoursePort h now n o → holds o.mine f ≡ false → (x : Parts) → Has x o.machine.port.queue → Other f x
  alien o is none x has = let there = own-offered h now n o is x has in subst (Other f) there.3 (others-own f h now n o is none there.0 there.1)

  receives : (o : CoursePort) → IsCoursePort h now n o → holds o.mine f ≡ false → IsReady f o.machine.port →
      ((x : Parts) → Has x o.machine.port.queue → (arbitration_field f ≡ arbitration_field x) ⊎ Goes f x) → HasNone f o
  receives o is none ready least = (
    record { ready = ready; other = behind-waits f o.machine.port.queue (λ x has. elim (least x has) [ inl e ↦ absurd (alien o is none x has e) | inr goes ↦ goes ]) },
    none,
  )

  all-receive : (os : List CoursePort) → AllPorts (IsCoursePort h now n) os → AllPorts (λ (q : CoursePort). holds q.mine f ≡ false) os → AllPorts (IsReady f) (ports_now os) → IsLeast f os →
      AllPorts (HasNone f) os
  all-receive [] are none ready least = tt
  all-receive (o ∷ os) are none ready least = (
    receives o are.0 none.0 ready.0 (λ x has. least x (stands-front o.machine.port.queue (queued (ports_now os)) x has)),
    all-receive os are.1 none.1 ready.1 (λ x has. least x (stands-back o.machine.port.queue (queued (ports_now os)) x has)),
  )

  none-like : (os : List CoursePort) → AllPorts (IsCoursePort h now n) os → AllPorts (λ (q : CoursePort). holds q.mine f ≡ false) os → like f (queued (ports_now os)) ≡ []
  none-like [] are none = refl
  none-like (o ∷ os) are none =
      like-append f o.machine.port.queue (queued (ports_now os)) ∙ ap (λ l. l ++ like f (queued (ports_now os))) (like-none f o.machine.port.queue (alien o are.0 none.0))
      ∙ none-like os are.1 none.1

  the-one : (os : List CoursePort) → AllPorts (IsCoursePort h now n) os → Owned os → AllPorts (IsReady f) (ports_now os) → IsLeast f os →
      (more : List Parts) → like f (queued (ports_now os)) ≡ f ∷ more → SendsOne f os
  the-one [] are owned ready least more head = cc
  the-one (o ∷ os) are owned ready least more head =
      let queue = o.machine.port.queue in
      let behind = queued (ports_now os) in
      let both : like f queue ++ like f behind ≡ f ∷ more = sym (like-append f queue behind) ∙ head in
      let front : (x : Parts) → Has x queue → (arbitration_field f ≡ arbitration_field x) ⊎ Goes f x = λ x has. least x (stands-front queue behind x has) in
      let back : IsLeast f os = λ x has. least x (stands-back queue behind x has) in
      elim (cases_Bool (holds o.mine f)) [
        | inl own ↦
            let none = owned.0 f own in
            let mine : like f queue ≡ f ∷ more = sym (append-nil (like f queue)) ∙ ap (λ l. like f queue ++ l) (sym (none-like os are.1 none)) ∙ both in
            inl ((record { ready = ready.0; own = head-waits queue f more mine front }, own), all-receive os are.1 none ready.1 back)
        | inr other ↦
            let theirs : like f behind ≡ f ∷ more = ap (λ l. l ++ like f behind) (sym (like-none f queue (alien o are.0 other))) ∙ both in
            inr (receives o are.0 other ready.0 front, the-one os are.1 owned.1 ready.1 back more theirs)
      ]

  -- ---- what is left

  none-behind : (os : List CoursePort) → AllPorts (IsCoursePort h now n) os → AllPorts (HasNone f) os → held (map (behind_frame f) os) ≡ held os
  none-behind [] are none = refl
  none-behind (o ∷ os) are none =
      ap (λ l. l ++ held (map (behind_frame f) os)) (without-absent f o.own (others-own f h now n o are.0 none.0.1)) ∙ ap (λ l. o.own ++ l) (none-behind os are.1 none.1)

  held-behind : (os : List CoursePort) → AllPorts (IsCoursePort h now n) os → SendsOne f os → held (map (behind_frame f) os) ≡ without_offer f (held os)
  held-behind [] are one = absurd one
  held-behind (o ∷ os) are (inl one) =
      let there = own-offered h now n o are.0 f (sends-has f o.machine.port one.0.0) in
      ap (λ l. without_offer f o.own ++ l) (none-behind os are.1 one.1)
      ∙ sym (without-front f o.own (held os) there.0 there.1 (Shares-same_field f there.0.frame (sym (ap arbitration_field there.3))))
  held-behind (o ∷ os) are (inr one) =
      let others = others-own f h now n o are.0 one.0.1 in
      ap (λ l. l ++ held (map (behind_frame f) os)) (without-absent f o.own others) ∙ ap (λ l. o.own ++ l) (held-behind os are.1 one.1)
      ∙ sym (without-behind f o.own (held os) others)

all-behind : (h now n : ℕ) (f : Parts) (os : List CoursePort) → AllPorts (IsCoursePort h now (suc n)) os → AllPorts (HasPart f) os →
    AllPorts (IsCoursePort h (now + length (with_intermission f)) n) (map (behind_frame f) os)
all-behind h now n f [] are parts = tt
all-behind h now n f (o ∷ os) are parts = (port-behind h now n f o are.0 parts.0, all-behind h now n f os are.1 parts.1)

all-broken : (f : Parts) (is : IsFrame f) (offset : ℕ) (hit : IsHit f offset) (h now n : ℕ) (os : List CoursePort) → AllPorts (IsCoursePort h now n) os → AllPorts (Survives f offset) (ports_now os) →
    AllPorts (HasPart f) os → AllPorts (IsCoursePort (suc h) (now + length (broken_levels f is offset hit)) n) (map (behind_hit f is offset hit) os)
all-broken f is offset hit h now n [] are low parts = tt
all-broken f is offset hit h now n (o ∷ os) are low parts =
    (port-broken f is offset hit h now n o are.0 low.0 parts.0, all-broken f is offset hit h now n os are.1 low.1 parts.1)

-- ---- the next attempt

module _ (h now : ℕ) (left : List TimedParts) (os : List CoursePort) (round : CourseRound h now left os) (f : Parts) (is : IsWaiting (offered_by now left) f) where
  -- it is an offer that is left
  pub next-left : (x : TimedParts) × Lists left x × (x.time ≤ now) × (x.frame ≡ f)
  next-left = offered-stands now left f (is.place, is.stands)

  next-head : (more : List Parts) × (like f (queued (ports_now os)) ≡ f ∷ more)
  next-head =
      let first = waiting-head (offered_by now left) f is in (
        first.0,
        ap (like f) (held-queued h now (length left) os round.ports) ∙ like-offered f now (held os) ∙ ap (offered_by now) (sym (round.fields f))
            ∙ sym (like-offered f now left) ∙ first.1,
      )

  next-least : IsLeast f os
  next-least x has =
      let there = queued-left h now left os round x has in
      let at = stands-offered now left there.0 there.1 there.2 in
      elim (fields_ranked f x) [
        | inl goes ↦ inr goes
        | inr (inl same) ↦ inl same
        | inr (inr before) ↦ absurd (is.least at.0 there.0.frame at.1 (subst (λ g. Goes g f) (sym there.3) before))
      ]

  pub next-frame : IsFrame f
  next-frame =
      frame-queued h f (length left) (ports_now os) (all-calm h now (length left) os round.ports)
      (filter-stands (same_field f) (queued (ports_now os)) f (subst (Has f) (sym next-head.1) (stands-here f next-head.0))).0

  pub left-length : length left ≡ suc (length (without_offer f left))
  left-length = without-length f left next-left.0 next-left.1 (Shares-same_field f next-left.0.frame (sym (ap arbitration_field next-left.3)))

  pub round-sends : SendsOne f os
  round-sends =
      let calm = all-calm h now (length left) os round.ports in
      let ready = all-ready h f (length (without_offer f left)) (ports_now os) next-frame (subst (λ n. AllPorts (IsCalm h n) (ports_now os)) left-length calm) in
      the-one h now (length left) f os round.ports round.owned ready next-least next-head.0 next-head.1

  -- after its frame the others are left
  pub round-behind : CourseRound h (now + length (with_intermission f)) (without_offer f left) (map (behind_frame f) os)
  round-behind = record {
    ports = all-behind h now (length (without_offer f left)) f os (subst (λ n. AllPorts (IsCoursePort h now n) os) left-length round.ports) (one-parts f os round-sends);
    owned = owned-kept (behind_frame f) (λ o. refl) os round.owned;
    fields = λ g.
        field-without g f left ∙ ap (without_offer f) (round.fields g) ∙ sym (field-without g f (held os))
        ∙ ap (of_field g) (sym (held-behind h now (length left) f os round.ports round-sends));
  }

  -- after a hit all are
  pub round-broken : (framed : IsFrame f) (offset : ℕ) (hit : IsHit f offset) → AllPorts (Survives f offset) (ports_now os) →
      CourseRound (suc h) (now + length (broken_levels f framed offset hit)) left (map (behind_hit f framed offset hit) os)
  round-broken framed offset hit low = record {
    ports = all-broken f framed offset hit h now (length left) os round.ports low (one-parts f os round-sends);
    owned = owned-kept (behind_hit f framed offset hit) (λ o. refl) os round.owned;
    fields = λ g. round.fields g ∙ ap (of_field g) (sym (held-kept (behind_hit f framed offset hit) (λ o. refl) (λ o. refl) os));
  }
