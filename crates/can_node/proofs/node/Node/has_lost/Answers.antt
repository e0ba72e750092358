use Rattle.std.proofs.Common.{◌≡◌, ◌<◌, true, Some, None, length, sym, ap, subst, ◌∙◌, arith, inl, inr}
use Rattle.std.proofs.lemmas.Bool.{ltb-true}
use Rattle.std.specs.Option.{option_copied}
use Rattle.can_frame.specs.Arbitration.{arbitration_field}
use Rattle.can_wire.specs.Layout.{rtr_place}
use Rattle.can_code.proofs.WireFronts.{front_at}
use Rattle.can_mac.specs.declared.phase.Phase.TheVariants.{StuffedPart}
use Rattle.can_mac.specs.declared.phase.Role.TheVariants.{Receiver}
use Rattle.can_mac.specs.Frames.{GoesBehind, role_at}
use Rattle.can_mac.specs.State.{IsFrameOrNone}
use Rattle.can_mac.proofs.Following.{has-lost}
use Rattle.can_mac.proofs.FrameParts.{phase-early}
use Rattle.can_node.specs.Ports.{PortState}
use Rattle.can_node.specs.Tournament.{frames_in}
use Rattle.can_node.proofs.FramesWaiting.{AreFrames-from, IsWaiting-waiting}
use Rattle.can_node.proofs.Passing.{Enters, begins-kept, receives-early}
use Rattle.can_node.proofs.node.Node.has_lost.Goals as goal

pub returns-in-None-clause-lost : goal.returns-in-None-clause-lost
returns-in-None-clause-lost g c = λ yes o is some within at.
    let node = c.args.self.now in
    let f = c.args.frame.now in
    let next = c.requires.0 in
    let queue = frames_in node.queue.slots.items in
    let p : PortState = record { mac = node.mac; queue = queue; queue_room = node.queue.room; log = node.log.entries.items; log_room = node.log.room; missed = node.log.missed } in
    let begins : option_copied c.next.result ≡ c.requires.0 = c.next.ensures next c.requires.1.0 in
    let kept : IsFrameOrNone c.requires.0 = begins-kept p next c.requires.1.0 (IsWaiting-waiting queue (AreFrames-from queue node.queue.are_frames)) in
    let enters : Enters c.args.frame.now p c.requires.0 = record { frame = is; poised = c.requires.1.0; kept = kept; behind = c.requires.1.1 } in
    let none : c.requires.0 ≡ None = sym begins ∙ ap option_copied c.in-None.is in
    receives-early f p next enters o some within (ap (λ w. role_at f w o) none)

pub returns-in-Some-2-clause-lost : goal.returns-in-Some-2-clause-lost
returns-in-Some-2-clause-lost g c = λ yes o is some within at.
    let node = c.args.self.now in
    let f = c.args.frame.now in
    let own = c.in-Some.own.now in
    let next = c.requires.0 in
    let queue = frames_in node.queue.slots.items in
    let p : PortState = record { mac = node.mac; queue = queue; queue_room = node.queue.room; log = node.log.entries.items; log_room = node.log.room; missed = node.log.missed } in
    let begins : option_copied c.next.result ≡ c.requires.0 = c.next.ensures next c.requires.1.0 in
    let kept : IsFrameOrNone c.requires.0 = begins-kept p next c.requires.1.0 (IsWaiting-waiting queue (AreFrames-from queue node.queue.are_frames)) in
    let enters : Enters c.args.frame.now p c.requires.0 = record { frame = is; poised = c.requires.1.0; kept = kept; behind = c.requires.1.1 } in
    let some-next : c.requires.0 ≡ Some c.in-Some.own.now = sym begins ∙ ap option_copied c.in-Some.is in
    let told : StuffedPart c.in-StuffedPart.front ≡ StuffedPart (front_at c.args.frame.now o) = sym c.in-StuffedPart.is ∙ c.phase.ensures ∙ at ∙ phase-early f is o some within in
    let front : c.in-StuffedPart.front ≡ front_at c.args.frame.now o = cc in
    let behind : rtr_place c.in-Some.own.now.id.extended < length (front_at c.args.frame.now o).unstuffed =
    (let more = ltb-true c.rtr_place.result c.len.result yes in
    let bits : c.len.result ≡ length (front_at c.args.frame.now o).unstuffed = c.len.ensures ∙ ap (λ v. length v.unstuffed) front in
    let place : c.rtr_place.result ≡ rtr_place c.in-Some.own.now.id.extended = c.rtr_place.ensures ∙ ap rtr_place c.is_extended.ensures in
    omega (arith, more, bits, place)) in
    let role : role_at c.args.frame.now (Some c.in-Some.own.now) o ≡ Receiver = elim (subst (GoesBehind f) some-next c.requires.1.1) [
      | inl same ↦
          let equal : c.key.result ≡ c.key-in-Some-1.result = c.key.ensures ∙ ap arbitration_field (sym same) ∙ sym c.key-in-Some-1.ensures in
          absurd (let yes = c.eq.ensures.equal.1 equal in let no = c.if-eq.false in let e : c.eq.result ≡ true = yes in cc)
      | inr before ↦ has-lost f own is (subst IsFrameOrNone some-next kept) before o some within behind
    ] in
    receives-early f p next enters o some within (ap (λ w. role_at f w o) some-next ∙ role)
