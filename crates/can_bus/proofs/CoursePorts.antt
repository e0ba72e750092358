-- A port of a network, with those of its offers that haven't been sent: at each time its queue is what is offered by then, whatever is sent, received or
-- broken off.
use Rattle.std.proofs.Common.{◌≡◌, ℕ, suc, ◌+◌, ◌⊎◌, true, false, List, ◌++◌, length, sym, ap, subst, ◌∙◌, arith, inl, inr}
use Rattle.std.proofs.lemmas.List.{append-nil}
use Rattle.can_frame.specs.declared.level.Level.TheVariants.{Recessive}
use Rattle.can_frame.specs.Parts.{Parts, IsFrame}
use Rattle.can_mac.specs.Frames.{with_intermission}
use Rattle.can_mac.proofs.HitLevels.{IsHit, breaks-soon}
use Rattle.can_node.specs.Ports.{PortState, without, port_run}
use Rattle.can_node.proofs.Arrivals.{GainingPort, gaining, gains, arrived, gaining_step, gaining_run, later, without-gains}
use Rattle.can_node.proofs.BrokenFrames.{seen_of}
use Rattle.can_node.proofs.GainingBreaks.{gained}
use Rattle.can_node.proofs.FramesWaiting.{AreFrames, AreFrames-without}
use Rattle.can_node.proofs.FrameLeaves.{Sends, Receives, sent_port, received_port, gaining_run-sent, gaining_run-received, port_run-sent, port_run-received}
use Rattle.can_bus.specs.Quiet.{holds}
use Rattle.can_bus.specs.Timed.{TimedParts, Lists, frames_of, offered_by, without_offer}
use Rattle.can_bus.proofs.Ascending.{Other}
use Rattle.can_bus.proofs.OfferTimes.{AreInOrder, frames-offered, queue-later}
use Rattle.can_bus.proofs.OwnOffers.{without-absent, without-frames}
use Rattle.can_bus.proofs.CalmPorts.{IsWithin, IsCalm, calm-sent, calm-received}
use Rattle.can_bus.proofs.RestingPorts.{IsAtRest, rest-step}
use Rattle.can_bus.proofs.QuietLogs.{TakesPart}
use Rattle.can_bus.proofs.AttemptTallies.{Survives}
use Rattle.can_bus.proofs.BrokenOnBus.{broken-sent, broken-received, gaining-broken-sent, gaining-broken-received}
use Rattle.can_bus.proofs.Repairs.{broken_levels, bear-port, Stays, part-stays}
use Rattle.can_bus.proofs.Fields.{holds-same, without-in_time, without-listed, without-order}

-- a port, what arrives there, which of its offers are left, and the frames that it had to send
pub record CoursePort : Type 0 where
  pub machine : GainingPort
  pub own : List TimedParts
  pub mine : List Parts

-- At the start of a bit time: the port is calm, what is left is of its own fields and in the order of time, and its queue is, and will
-- be, what is offered by the time, if nothing is sent in the meantime.
pub record IsCoursePort (h now entries : ℕ) (o : CoursePort) : Type 0 where
  pub calm : IsCalm h entries o.machine.port
  pub frames : AreFrames (frames_of o.own)
  pub order : AreInOrder o.own
  pub owns : (x : TimedParts) → Lists o.own x → holds o.mine x.frame ≡ true
  pub queue : (n : ℕ) → o.machine.port.queue ++ arrived o.machine.arrives n ≡ offered_by (now + n) o.own

pub queue-now : (h now entries : ℕ) (o : CoursePort) → IsCoursePort h now entries o → o.machine.port.queue ≡ offered_by now o.own
queue-now h now entries o is =
    sym (append-nil o.machine.port.queue) ∙ is.queue 0 ∙ ap (λ t. offered_by t o.own) (let e : now + 0 ≡ now = omega arith in e)

-- this port instead, n bit times later, with these offers left
abbrev pub turned : ℕ → PortState → List TimedParts → CoursePort → CoursePort
turned n left own o = record { machine = gained n (gaining left o.machine.arrives); own = own; mine = o.mine }

turned-port : (h now entries n : ℕ) (left : PortState) (own : List TimedParts) (o : CoursePort) → IsCalm h entries left → AreFrames (frames_of own) → AreInOrder own →
    ((x : TimedParts) → Lists own x → holds o.mine x.frame ≡ true) → ((m : ℕ) → left.queue ++ arrived o.machine.arrives m ≡ offered_by (now + m) own) →
    IsCoursePort h (now + n) entries (turned n left own o)
turned-port h now entries n left own o calm frames order owns queue = record {
  calm = record {
    idle = calm.idle;
    within = calm.within;
    unasked = calm.unasked;
    frames = subst AreFrames (sym (queue n)) (frames-offered (now + n) own frames);
    room = calm.room;
  };
  frames = frames;
  order = order;
  owns = owns;
  queue = queue-later now n o.machine.arrives left.queue own queue;
}

-- ---- one bit time at rest

abbrev pub rested : CoursePort → CoursePort
rested o = record { machine = gaining_step o.machine Recessive; own = o.own; mine = o.mine }

pub rested-turned : (o : CoursePort) → IsAtRest o.machine.port → rested o ≡ turned 1 o.machine.port o.own o
rested-turned o rest =
    ap (λ p. let q : CoursePort = record { machine = gaining (gains (o.machine.arrives 1) p) (later o.machine.arrives); own = o.own; mine = o.mine } in q) (rest-step o.machine.port rest)

pub port-rested : (h now entries : ℕ) (o : CoursePort) → IsCoursePort h now entries o → IsAtRest o.machine.port → IsCoursePort h (now + 1) entries (rested o)
port-rested h now entries o is rest =
    subst (IsCoursePort h (now + 1) entries) (sym (rested-turned o rest)) (turned-port h now entries 1 o.machine.port o.own o is.calm is.frames is.order is.owns is.queue)

-- ---- a frame

-- the port sends it, or receives it and has none of its field to send
abbrev pub HasPart : Parts → CoursePort → Type 0
HasPart f o = (Sends f o.machine.port × (holds o.mine f ≡ true)) ⊎ (Receives f o.machine.port × (holds o.mine f ≡ false))

abbrev pub takes-part : (f : Parts) (o : CoursePort) → HasPart f o → TakesPart f o.machine.port
takes-part f o (inl sends) = inl sends.0
takes-part f o (inr receives) = inr receives.0

pub others-own : (f : Parts) (h now entries : ℕ) (o : CoursePort) → IsCoursePort h now entries o → holds o.mine f ≡ false → (x : TimedParts) → Lists o.own x → Other f x.frame
others-own f h now entries o is none x there = λ e. (
    let own = is.owns x there in
    let same = holds-same o.mine f x.frame e in
    cc)

abbrev pub behind_frame : Parts → CoursePort → CoursePort
behind_frame f o = record { machine = gaining_run o.machine (with_intermission f); own = without_offer f o.own; mine = o.mine }

module _ (h now entries : ℕ) (f : Parts) (o : CoursePort) (is : IsCoursePort h now (suc entries) o) where
  abbrev p : PortState
  p = o.machine.port

  abbrev size : ℕ
  size = length (with_intermission f)

  left-port : (left : PortState) → IsCalm h entries left → ((m : ℕ) → left.queue ++ arrived o.machine.arrives m ≡ offered_by (now + m) (without_offer f o.own)) →
      IsCoursePort h (now + size) entries (turned size left (without_offer f o.own) o)
  left-port left calm queue =
      turned-port h now entries size left (without_offer f o.own) o calm
      (subst AreFrames (sym (without-frames f o.own)) (AreFrames-without f (frames_of o.own) is.frames))
      (without-order f o.own is.order) (λ x there. is.owns x (without-listed f o.own x there)) queue

  pub port-behind : HasPart f o → IsCoursePort h (now + size) entries (behind_frame f o)
  port-behind (inl sends) =
      subst (λ g. IsCoursePort h (now + size) entries (record { machine = g; own = without_offer f o.own; mine = o.mine })) (sym (gaining_run-sent f o.machine sends.0))
      (left-port (sent_port f p) (subst (IsCalm h entries) (port_run-sent f p sends.0) (calm-sent h f entries p is.calm sends.0))
      (λ m. sym (without-gains f p (arrived o.machine.arrives m) sends.0.own) ∙ ap (without f) (is.queue m) ∙ without-in_time f (now + m) o.own is.order))
  port-behind (inr receives) =
      subst (λ g. IsCoursePort h (now + size) entries (record { machine = g; own = without_offer f o.own; mine = o.mine })) (sym (gaining_run-received f o.machine receives.0))
      (left-port (received_port f p) (subst (IsCalm h entries) (port_run-received f p receives.0) (calm-received h f entries p is.calm receives.0))
      (λ m. is.queue m ∙ ap (offered_by (now + m)) (sym (without-absent f o.own (others-own f h now (suc entries) o is receives.1)))))

-- ---- a frame that is broken off

module _ (f : Parts) (is : IsFrame f) (offset : ℕ) (hit : IsHit f offset) where
  abbrev pub behind_hit : CoursePort → CoursePort
  behind_hit o = record { machine = gaining_run o.machine (seen_of (broken_levels f is offset hit)); own = o.own; mine = o.mine }

  -- the port as the hit leaves it, if nothing arrives
  abbrev pub hit_port : PortState → PortState
  hit_port p = port_run p (seen_of (broken_levels f is offset hit))

  module _ (h entries : ℕ) (o : CoursePort) (calm : IsCalm h entries o.machine.port) (low : Survives f offset o.machine.port) where
    abbrev q : PortState
    q = o.machine.port

    abbrev long : ℕ
    long = length (broken_levels f is offset hit)

    pub hit-turned : HasPart f o → behind_hit o ≡ turned long (hit_port q) o.own o
    hit-turned (inl sends) =
        let soon = breaks-soon f is offset hit in
        let bears = (bear-port h f is offset hit entries q calm low).0 sends.0 in
        ap (λ g. let v : CoursePort = record { machine = g; own = o.own; mine = o.mine } in v)
        (gaining-broken-sent f is offset hit (IsWithin (suc h)) soon.0 soon.1.0 soon.1.1 o.machine sends.0 bears
        ∙ ap (λ p. gained long (gaining p o.machine.arrives)) (sym (broken-sent f is offset hit (IsWithin (suc h)) soon.0 soon.1.0 soon.1.1 q sends.0 bears)))
    hit-turned (inr receives) =
        let soon = breaks-soon f is offset hit in
        let bears = (bear-port h f is offset hit entries q calm low).1 receives.0 in
        ap (λ g. let v : CoursePort = record { machine = g; own = o.own; mine = o.mine } in v)
        (gaining-broken-received f is offset hit (IsWithin (suc h)) soon.0 soon.1.0 soon.1.1 o.machine receives.0 bears
        ∙ ap (λ p. gained long (gaining p o.machine.arrives)) (sym (broken-received f is offset hit (IsWithin (suc h)) soon.0 soon.1.0 soon.1.1 q receives.0 bears)))

  pub port-broken : (h now entries : ℕ) (o : CoursePort) → IsCoursePort h now entries o → Survives f offset o.machine.port → HasPart f o →
      IsCoursePort (suc h) (now + length (broken_levels f is offset hit)) entries (behind_hit o)
  port-broken h now entries o is_port low part =
      let p = o.machine.port in
      let stays : Stays h f is offset hit entries p (hit_port p) = part-stays h f is offset hit entries p is_port.calm low (takes-part f o part) in
      subst (IsCoursePort (suc h) (now + length (broken_levels f is offset hit)) entries) (sym (hit-turned h entries o is_port.calm low part))
      (turned-port (suc h) now entries (length (broken_levels f is offset hit)) (hit_port p) o.own o stays.calm is_port.frames is_port.order is_port.owns
      (λ m. ap (λ queue. queue ++ arrived o.machine.arrives m) stays.queue ∙ is_port.queue m))
