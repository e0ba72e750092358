-- A port that goes through a frame, with any offers during it.
use Rattle.std.specs.Prelude.{nat_lt, slice_get}
use Rattle.std.proofs.Common.{◌≡◌, ℕ, zero, suc, ◌+◌, ◌<◌, ◌≤◌, true, false, ◌++◌, Option, Some, None, List, [], ◌∷◌, length, take, refl, sym, ap, subst, ◌∙◌, arith, inl, inr}
use Rattle.std.proofs.Math.Dec.{ltb, eqb}
use Rattle.std.proofs.lemmas.Bool.{cases_Bool, cases_eq, cases_lt, cond-false, cond-true, cond_both, le-ltb, lt-ltb}
use Rattle.can_frame.specs.declared.level.Level.{Level}
use Rattle.can_frame.specs.declared.level.Level.TheVariants.{Recessive}
use Rattle.can_frame.specs.Parts.{Parts, IsFrame}
use Rattle.can_fault.specs.declared.cause.Cause.TheVariants.{FrameSent}
use Rattle.can_fault.specs.Counters.{ConfineParts, counted, is_bus_off, is_passive}
use Rattle.can_wire.specs.Layout.{level_at}
use Rattle.can_wire.specs.Wire.{stuffed_part}
use Rattle.can_terms.specs.declared.event.Event.{Event}
use Rattle.can_terms.specs.declared.event.Event.TheVariants.{Sent, Received, Lost, Error, Overload, WentOff, Recovered}
use Rattle.can_mac.specs.declared.phase.Role.{Role}
use Rattle.can_mac.specs.declared.phase.Role.TheVariants.{Receiver, Sender}
use Rattle.can_mac.specs.State.{IsFrameOrNone}
use Rattle.can_mac.specs.Machine.{mac_drives, mac_step}
use Rattle.can_mac.specs.Frames.{with_intermission, behind_part, role_at, frame_state, frame_event, frame_drives, loss, end_event, settled, GoesBehind, IsPoised}
use Rattle.can_mac.proofs.FrameDrives.{drives-frame}
use Rattle.can_mac.proofs.FrameEnds.{end_levels, end_state, sender-settles}
use Rattle.can_mac.proofs.FrameParts.{length-with_intermission, line-late}
use Rattle.can_mac.proofs.FrameRoles.{role-own}
use Rattle.can_mac.proofs.FrameSteps.{Awake, event-early, state-late, step-next}
use Rattle.can_node.specs.declared.entry.Entry.{Entry}
use Rattle.can_node.specs.Ports.{PortState, waiting, port_drives, port_event, port_logging, port_noting, port_offered, port_run, port_step, same_field, with_offer, without}
use Rattle.can_node.proofs.Arrivals.{gains, port_logging-gains, without-behind}
use Rattle.can_node.proofs.OneFrame.{at_mac, step-port_noting}
pub use Rattle.can_node.proofs.OneFrame.{noted-mac}
use Rattle.can_node.proofs.FrameLeaves.{ComesBehind, receiver-late, sent-once}
use Rattle.can_node.proofs.Passing.{Enters, keeps-own, runs-early}
use Rattle.can_node.proofs.WaitingLaws.{waiting-IsWaiting}

-- a port that goes through f, as bit time o of f begins
pub record Rides (f : Parts) (o : ℕ) (q : PortState) : Type 0 where
  pub waits : Option Parts
  pub counters : ConfineParts
  pub kept : IsFrameOrNone waits
  pub behind : GoesBehind f waits
  pub on_bus : is_bus_off counters ≡ false
  pub mac : q.mac ≡ frame_state f waits 0 counters o

-- ---- events that leave the queue as it is

abbrev pub IsUnsent : Option Event → Type 0
IsUnsent (Some (Sent f)) = ⊥
IsUnsent (Some (Received f)) = Unit {0}
IsUnsent (Some Lost) = Unit {0}
IsUnsent (Some (Error kind)) = Unit {0}
IsUnsent (Some Overload) = Unit {0}
IsUnsent (Some WentOff) = Unit {0}
IsUnsent (Some Recovered) = Unit {0}
IsUnsent None = Unit {0}

pub unsent-gains : (event : Option Event) → IsUnsent event → (frames : List Parts) (p : PortState) → port_noting event (gains frames p) ≡ gains frames (port_noting event p)
unsent-gains (Some (Sent f)) un frames p = absurd un
unsent-gains (Some (Received f)) un frames p = port_logging-gains (record { frame = f; sent = false }) frames p
unsent-gains (Some Lost) un frames p = refl
unsent-gains (Some (Error kind)) un frames p = refl
unsent-gains (Some Overload) un frames p = refl
unsent-gains (Some WentOff) un frames p = refl
unsent-gains (Some Recovered) un frames p = refl
unsent-gains None un frames p = refl

-- two ports with the same queue and capacity
pub record SameQueue (p q : PortState) : Type 0 where
  pub queue : p.queue ≡ q.queue
  pub room : p.queue_room ≡ q.queue_room

logging-queue : (entry : Entry) (p : PortState) → SameQueue (port_logging entry p) p
logging-queue entry p = cond_both {A = PortState} (nat_lt (length p.log) p.log_room) _ _ (λ q. SameQueue q p) (λ e. record { queue = refl; room = refl }) (λ e. record { queue = refl; room = refl })

pub unsent-queue : (event : Option Event) → IsUnsent event → (p : PortState) → SameQueue (port_noting event p) p
unsent-queue (Some (Sent f)) un p = absurd un
unsent-queue (Some (Received f)) un p = logging-queue (record { frame = f; sent = false }) p
unsent-queue (Some Lost) un p = record { queue = refl; room = refl }
unsent-queue (Some (Error kind)) un p = record { queue = refl; room = refl }
unsent-queue (Some Overload) un p = record { queue = refl; room = refl }
unsent-queue (Some WentOff) un p = record { queue = refl; room = refl }
unsent-queue (Some Recovered) un p = record { queue = refl; room = refl }
unsent-queue None un p = record { queue = refl; room = refl }

unsent-loss : (old new : Role) → IsUnsent (loss old new)
unsent-loss Receiver new = tt
unsent-loss (Sender g) Receiver = tt
unsent-loss (Sender g) (Sender h) = tt

unsent-end : (f : Parts) (k : ℕ) → IsUnsent (end_event f Receiver k)
unsent-end f k = cond_both {A = Option Event} (eqb k 8) (Some (Received f)) None IsUnsent (λ e. tt) (λ e. tt)

receiver-unsent : (f : Parts) (w : Option Parts) → IsFrame f → IsFrameOrNone w → ComesBehind f w → (o : ℕ) → IsUnsent (frame_event f w o)
receiver-unsent f w is kept other o = elim (cases_lt o (length (stuffed_part f))) [
  | inl more ↦ subst IsUnsent (sym (event-early f w o more)) (unsent-loss (role_at f w o) (role_at f w (o + 1)))
  | inr past ↦
      subst IsUnsent
      (sym (cond-false (ltb o (length (stuffed_part f))) _ _ (le-ltb o (length (stuffed_part f)) past) ∙ ap (λ r. end_event f r (behind_part f o)) (receiver-late f w is kept other o past)))
      (unsent-end f (behind_part f o))
]

-- a frame that waits after others, before a level or after it
pub offered-through : (q : PortState) (x : Level) (g : Parts) → port_step (port_offered g q) x ≡ port_offered g (port_step q x) → SameQueue (port_step q x) q → port_step (with_offer g q) x ≡ with_offer g (port_step q x)
offered-through q x g more queue =
    let after = port_step q x in
    let same : nat_lt (length after.queue) after.queue_room ≡ nat_lt (length q.queue) q.queue_room =
    ap (λ l. nat_lt (length l) after.queue_room) queue.queue ∙ ap (nat_lt (length q.queue)) queue.room in
    elim (cases_Bool (nat_lt (length q.queue) q.queue_room)) [
      | inl fits ↦
          ap (λ p. port_step p x) (cond-true (nat_lt (length q.queue) q.queue_room) (port_offered g q) q fits) ∙ more
          ∙ sym (cond-true (nat_lt (length after.queue) after.queue_room) (port_offered g after) after (same ∙ fits))
      | inr full ↦
          ap (λ p. port_step p x) (cond-false (nat_lt (length q.queue) q.queue_room) (port_offered g q) q full)
          ∙ sym (cond-false (nat_lt (length after.queue) after.queue_room) (port_offered g after) after (same ∙ full))
    ]

-- ---- bit time by bit time

module _ (f : Parts) (is : IsFrame f) (o : ℕ) (some : 0 < o) (within : o < length (with_intermission f)) where
  steps-on : (q : PortState) (r : Rides f o q) → Awake f r.waits r.counters o → port_step q (level_at (with_intermission f) o) ≡ port_noting (frame_event f r.waits o) (at_mac (frame_state f r.waits 0 r.counters (o + 1)) q)
  steps-on q r awake =
      let x = level_at (with_intermission f) o in
      let step = step-next f is r.waits 0 r.counters r.kept r.behind r.on_bus (waiting q.queue) o some within (λ past. refl) awake in
      step-port_noting q x (frame_state f r.waits 0 r.counters (o + 1)) (frame_event f r.waits o)
      (ap (λ m. (mac_step m (waiting q.queue) x).0) r.mac ∙ ap (λ p. p.0) step)
      (ap (λ m. (mac_step m (waiting q.queue) x).1) r.mac ∙ ap (λ p. p.1) step)

  rides-outcome : (q : PortState) (r : Rides f o q) → ComesBehind f r.waits → port_step q (level_at (with_intermission f) o) ≡ port_noting (frame_event f r.waits o) (at_mac (frame_state f r.waits 0 r.counters (o + 1)) q)
  rides-outcome q r other =
      steps-on q r (λ end sends. absurd (let role = receiver-late f r.waits is r.kept other o (omega (arith, end, length-with_intermission f)) in let e : Receiver ≡ Sender f = sym role ∙ sends in cc))

  -- what the port drives
  pub rides-drives : (q : PortState) (r : Rides f o q) → port_drives q ≡ frame_drives f r.waits o
  unfolding port_drives
  rides-drives q r = ap (λ m. mac_drives m (waiting q.queue)) r.mac ∙ drives-frame f is r.waits r.kept r.behind 0 r.counters (waiting q.queue) o some within

  module _ (q : PortState) (r : Rides f o q) (other : ComesBehind f r.waits) where
    abbrev event : Option Event
    event = frame_event f r.waits o

    abbrev after : PortState
    after = port_step q (level_at (with_intermission f) o)

    unsent : IsUnsent event
    unsent = receiver-unsent f r.waits is r.kept other o

    -- a receiver's queue stays as it is
    pub rides-queue : SameQueue (port_step q (level_at (with_intermission f) o)) q
    rides-queue =
        let same = unsent-queue event unsent (at_mac (frame_state f r.waits 0 r.counters (o + 1)) q) in
        record { queue = ap (λ (p : PortState). p.queue) (rides-outcome q r other) ∙ same.queue; room = ap (λ (p : PortState). p.queue_room) (rides-outcome q r other) ∙ same.room }

    -- what is offered before the bit time may as well be offered after it
    pub rides-offered : (g : Parts) → port_step (with_offer g q) (level_at (with_intermission f) o) ≡ with_offer g (port_step q (level_at (with_intermission f) o))
    rides-offered g =
        let state = frame_state f r.waits 0 r.counters (o + 1) in
        offered-through q (level_at (with_intermission f) o) g
        (rides-outcome (port_offered g q) (record { waits = r.waits; counters = r.counters; kept = r.kept; behind = r.behind; on_bus = r.on_bus; mac = r.mac }) other
        ∙ unsent-gains event unsent (g ∷ []) (at_mac state q) ∙ ap (port_offered g) (sym (rides-outcome q r other)))
        rides-queue

-- ---- a port that sends f

-- f is in the queue until it has been sent
abbrev pub IsKept : Parts → ℕ → PortState → Type 0
IsKept f o q = o ≤ length (stuffed_part f) + 9 → (n : ℕ) × (slice_get q.queue n ≡ Some f)

-- what is offered after it leaves it there
pub offered-kept : (f : Parts) (o : ℕ) (g : Parts) (q : PortState) → IsKept f o q → IsKept f o (port_offered g q)
offered-kept f o g q kept early = let at = kept early in (at.0, stands-on q.queue at.0 at.1)
  where
    stands-on : (queue : List Parts) (n : ℕ) → slice_get queue n ≡ Some f → slice_get (queue ++ g ∷ []) n ≡ Some f
    stands-on [] n stands = cc
    stands-on (h ∷ queue) zero stands = stands
    stands-on (h ∷ queue) (suc n) stands = stands-on queue n stands

-- a level never makes a queue longer
pub shorter-without : (f : Parts) (queue : List Parts) → length (without f queue) ≤ length queue
unfolding without
shorter-without f [] = omega arith
shorter-without f (g ∷ queue) =
    cond_both {A = List Parts} (same_field f g) queue (g ∷ without f queue) (λ q. length q ≤ length (g ∷ queue)) (λ e. omega arith) (λ e. omega (arith, shorter-without f queue))

-- one queue is no longer than another, and has its capacity
pub record NoLonger (p q : PortState) : Type 0 where
  pub shorter : length p.queue ≤ length q.queue
  pub room : p.queue_room ≡ q.queue_room

same-no-longer : (p q : PortState) → SameQueue p q → NoLonger p q
same-no-longer p q same = let e : length p.queue ≡ length q.queue = ap length same.queue in record { shorter = omega (arith, e); room = same.room }

noting-no-longer : (event : Option Event) (p : PortState) → NoLonger (port_noting event p) p
noting-no-longer (Some (Sent f)) p =
    let same = logging-queue (record { frame = f; sent = true }) (record p { queue = without f p.queue }) in
    let e : length (port_noting (Some (Sent f)) p).queue ≡ length (without f p.queue) = ap length same.queue in
    record { shorter = omega (arith, e, shorter-without f p.queue); room = same.room }
noting-no-longer (Some (Received f)) p = same-no-longer _ p (unsent-queue (Some (Received f)) tt p)
noting-no-longer (Some Lost) p = same-no-longer _ p (unsent-queue (Some Lost) tt p)
noting-no-longer (Some (Error kind)) p = same-no-longer _ p (unsent-queue (Some (Error kind)) tt p)
noting-no-longer (Some Overload) p = same-no-longer _ p (unsent-queue (Some Overload) tt p)
noting-no-longer (Some WentOff) p = same-no-longer _ p (unsent-queue (Some WentOff) tt p)
noting-no-longer (Some Recovered) p = same-no-longer _ p (unsent-queue (Some Recovered) tt p)
noting-no-longer None p = same-no-longer _ p (unsent-queue None tt p)

pub step-no-longer : (q : PortState) (x : Level) → NoLonger (port_step q x) q
unfolding port_step
step-no-longer q x =
    let noted = noting-no-longer (port_event q x) (at_mac (mac_step q.mac (waiting q.queue) x).0 q) in
    record { shorter = noted.shorter; room = noted.room }

pub run-no-longer : (levels : List Level) (q : PortState) → NoLonger (port_run q levels) q
unfolding port_run
run-no-longer [] q = record { shorter = omega arith; room = refl }
run-no-longer (x ∷ levels) q =
    let more = run-no-longer levels (port_step q x) in
    let one = step-no-longer q x in
    record { shorter = omega (arith, more.shorter, one.shorter); room = more.room ∙ one.room }

-- that f was sent is noted independently of what is offered after it
sent-gains : (f : Parts) (frames : List Parts) (p : PortState) (n : ℕ) → slice_get p.queue n ≡ Some f → port_noting (Some (Sent f)) (gains frames p) ≡ gains frames (port_noting (Some (Sent f)) p)
sent-gains f frames p n stands =
    ap (λ queue. port_logging (record { frame = f; sent = true }) (record p { queue = queue })) (without-behind f p.queue frames n stands)
    ∙ port_logging-gains (record { frame = f; sent = true }) frames (record p { queue = without f p.queue })

module _ (f : Parts) (is : IsFrame f) (o : ℕ) (some : 0 < o) (within : o < length (with_intermission f)) where
  own-late : length (stuffed_part f) ≤ o → frame_event f (Some f) o ≡ end_event f (Sender f) (behind_part f o)
  own-late past = cond-false (ltb o (length (stuffed_part f))) _ _ (le-ltb o (length (stuffed_part f)) past) ∙ ap (λ r. end_event f r (behind_part f o)) (role-own f o)

  own-gains : (frames : List Parts) (p : PortState) → IsKept f o p → port_noting (frame_event f (Some f) o) (gains frames p) ≡ gains frames (port_noting (frame_event f (Some f) o) p)
  own-gains frames p kept = elim (cases_lt o (length (stuffed_part f))) [
    | inl more ↦
        let e = event-early f (Some f) o more in
        ap (λ v. port_noting v (gains frames p)) e
        ∙ unsent-gains (loss (role_at f (Some f) o) (role_at f (Some f) (o + 1))) (unsent-loss (role_at f (Some f) o) (role_at f (Some f) (o + 1))) frames p
        ∙ ap (λ v. gains frames (port_noting v p)) (sym e)
    | inr past ↦ elim (cases_eq (behind_part f o) 9) [
      | inl nine ↦
          let e : frame_event f (Some f) o ≡ Some (Sent f) = own-late past ∙ ap (end_event f (Sender f)) nine in
          let at = kept (omega (arith, nine, past)) in
          ap (λ v. port_noting v (gains frames p)) e ∙ sent-gains f frames p at.0 at.1 ∙ ap (λ v. gains frames (port_noting v p)) (sym e)
      | inr other ↦
          let e : frame_event f (Some f) o ≡ None = own-late past ∙ sent-once f (behind_part f o) other in
          ap (λ v. port_noting v (gains frames p)) e ∙ ap (λ v. gains frames (port_noting v p)) (sym e)
    ]
  ]

  -- its last level, in which it may enter suspend transmission
  own-settles : (q : PortState) (c : ConfineParts) → is_bus_off c ≡ false → q.mac ≡ frame_state f (Some f) 0 c o → o ≡ length (stuffed_part f) + 12 →
      port_step q (level_at (with_intermission f) o) ≡ at_mac (settled f (is_passive (counted FrameSent c)) 0 (counted FrameSent c)) q
  own-settles q c on mac last =
      let past : length (stuffed_part f) ≤ o = omega (arith, last) in
      let here : behind_part f o ≡ 12 = omega (arith, last) in
      let x : level_at (with_intermission f) o ≡ Recessive = line-late f o past ∙ ap (level_at end_levels) here in
      let state : q.mac ≡ end_state f (Sender f) 0 c 12 =
      mac ∙ state-late f is (Some f) 0 c o past ∙ ap (λ r. end_state f r 0 c (behind_part f o)) (role-own f o) ∙ ap (end_state f (Sender f) 0 c) here in
      let step = sender-settles f c on (waiting q.queue) 0 in
      ap (port_step q) x
      ∙ step-port_noting q Recessive (settled f (is_passive (counted FrameSent c)) 0 (counted FrameSent c)) None
      (ap (λ m. (mac_step m (waiting q.queue) Recessive).0) state ∙ ap (λ p. p.0) step) (ap (λ m. (mac_step m (waiting q.queue) Recessive).1) state ∙ ap (λ p. p.1) step)

  -- what is offered before the bit time may as well be offered after it, if there is space
  own-offered : (q : PortState) (c : ConfineParts) → is_bus_off c ≡ false → q.mac ≡ frame_state f (Some f) 0 c o → IsKept f o q → (g : Parts) →
      port_step (port_offered g q) (level_at (with_intermission f) o) ≡ port_offered g (port_step q (level_at (with_intermission f) o))
  own-offered q c on mac kept g = elim (cases_eq o (length (stuffed_part f) + 12)) [
    | inl last ↦ own-settles (port_offered g q) c on mac last ∙ ap (port_offered g) (sym (own-settles q c on mac last))
    | inr other ↦
        let rides : Rides f o q = record { waits = Some f; counters = c; kept = is; behind = inl refl; on_bus = on; mac = mac } in
        let rides_more : Rides f o (port_offered g q) = record { waits = Some f; counters = c; kept = is; behind = inl refl; on_bus = on; mac = mac } in
        let awake : Awake f (Some f) c o = λ end sends. absurd (other (omega (arith, end, length-with_intermission f))) in
        steps-on f is o some within (port_offered g q) rides_more awake
        ∙ own-gains (g ∷ []) (at_mac (frame_state f (Some f) 0 c (o + 1)) q) kept
        ∙ ap (port_offered g) (sym (steps-on f is o some within q rides awake))
  ]

  pub sends-offered : (q : PortState) (r : Rides f o q) → r.waits ≡ Some f → IsKept f o q → length q.queue < q.queue_room → (g : Parts) →
      port_step (with_offer g q) (level_at (with_intermission f) o) ≡ with_offer g (port_step q (level_at (with_intermission f) o))
  sends-offered q r own kept room g =
      let x = level_at (with_intermission f) o in
      let after = port_step q x in
      let less = step-no-longer q x in
      let fits : nat_lt (length q.queue) q.queue_room ≡ true = lt-ltb (length q.queue) q.queue_room room in
      let fits_after : nat_lt (length after.queue) after.queue_room ≡ true = lt-ltb (length after.queue) after.queue_room (omega (arith, less.shorter, less.room, room)) in
      ap (λ p. port_step p x) (cond-true (nat_lt (length q.queue) q.queue_room) (port_offered g q) q fits)
      ∙ own-offered q r.counters r.on_bus (r.mac ∙ ap (λ w. frame_state f w 0 r.counters o) own) kept g
      ∙ sym (cond-true (nat_lt (length after.queue) after.queue_room) (port_offered g after) after fits_after)

-- an offer keeps the controller
pub offered-mac : (g : Parts) (q : PortState) → (with_offer g q).mac ≡ q.mac
offered-mac g q = cond_both {A = PortState} (nat_lt (length q.queue) q.queue_room) (port_offered g q) q (λ p. p.mac ≡ q.mac) (λ e. refl) (λ e. refl)

-- ---- from its start of frame on

-- the controller of a port at which f begins, after some levels of it
pub run-rides : (f : Parts) (p : PortState) (next : Option Parts) → Enters f p next → (o : ℕ) → suc o < length (with_intermission f) →
    (port_run p (take (suc o) (with_intermission f))).mac ≡ frame_state f next 0 p.mac.counters (suc o)
run-rides f p next enters o within =
    ap (λ (q : PortState). q.mac) (runs-early f p next enters (suc o) within) ∙ ap (λ n. frame_state f next n p.mac.counters (suc o)) enters.poised.unasked

-- the frame with which a port begins waits there
pub begins-own : (f : Parts) (p : PortState) → IsPoised p.mac (waiting p.queue) (Some f) → waiting p.queue ≡ Some f
begins-own f p poised = elim poised.begins [
  | inl idle ↦ sym idle.1
  | inr suspended ↦ let e : Some f ≡ None = suspended.1.1 in cc
]

-- until it has been sent
pub run-keeps : (f : Parts) (p : PortState) → Enters f p (Some f) → (o : ℕ) → o < length (with_intermission f) → IsKept f o (port_run p (take o (with_intermission f)))
run-keeps f p enters o within early =
    let is = waiting-IsWaiting p.queue f (begins-own f p enters.poised) in
    (is.place, ap (λ queue. slice_get queue is.place) (keeps-own f p (Some f) enters refl o within early) ∙ is.stands)
