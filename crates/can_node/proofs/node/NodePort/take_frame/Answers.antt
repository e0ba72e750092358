use Rattle.std.proofs.Common.{◌≡◌, Some, IsTrue, IsFalse, sym, ap, subst, ◌∙◌}
use Rattle.std.specs.Option.{option_copied}
use Rattle.std.specs.Prelude.{if◌then◌else◌}
use Rattle.can_frame.specs.Arbitration.{Before, arbitration_field}
use Rattle.can_frame.specs.Parts.{Parts}
use Rattle.can_terms.specs.declared.event.Event.TheVariants.{Sent, Received}
use Rattle.can_mac.specs.Frames.{GoesBehind}
use Rattle.can_mac.specs.State.{IsFrameOrNone}
use Rattle.can_node.specs.Ports.{PortState, port_noting, port_run}
use Rattle.can_node.specs.Tournament.{frames_in}
use Rattle.can_node.proofs.FramesWaiting.{AreFrames-from, IsWaiting-waiting}
use Rattle.can_node.proofs.OneFrame.{at_mac}
use Rattle.can_node.proofs.Passing.{Enters, begins-kept, comes-behind, passed}
use Rattle.can_node.proofs.node.NodePort.take_frame.Goals as goal

pub sends-sent-requires : goal.sends-sent-requires
sends-sent-requires g c =
    let passes = c.requires.passes in
    subst (GoesBehind c.args.frame.now) (sym (c.next.ensures passes.0 passes.1.0)) passes.1.1

pub take_frame-requires : goal.take_frame-requires
take_frame-requires g c = c.requires.passes.1.0.on_bus

pub returns : goal.returns
returns g c =
    let node = c.args.self.now in
    let f = c.args.frame.now in
    let sent = c.sends-sent.result in
    let passes = c.requires.passes in
    let next = passes.0 in
    let queue = frames_in node.queue.slots.items in
    let p : PortState = record { mac = node.mac; queue = queue; queue_room = node.queue.room; log = node.log.entries.items; log_room = node.log.room; missed = node.log.missed } in
    let begins : option_copied c.next.result ≡ next = c.next.ensures next passes.1.0 in
    let kept : IsFrameOrNone next = begins-kept p next passes.1.0 (IsWaiting-waiting queue (AreFrames-from queue node.queue.are_frames)) in
    let enters : Enters f p next = record { frame = c.requires.whole; poised = passes.1.0; kept = kept; behind = passes.1.1 } in
    let own : IsTrue sent → next ≡ Some f = λ yes. sym begins ∙ c.sends-sent.ensures.own yes in
    let other : IsFalse sent → (h : Parts) → next ≡ Some h → Before (arbitration_field f) (arbitration_field h) = λ no h e. c.sends-sent.ensures.other no h (begins ∙ e) in
    c.note_passed.ensures
    ∙ ap (λ m. port_noting (Some (if sent then Sent f else Received f)) (at_mac m p)) c.take_frame.ensures
    ∙ sym (passed f p next enters sent own (λ no. comes-behind f next (other no)))
    ∙ ap (port_run p) (sym c.requires.levels)
