use Rattle.std.proofs.Common.{◌≤◌, ◌∙◌, length, sym, subst, ap, arith}
use Rattle.can_wire.proofs.LayoutLengths.{frame_len_ge}
use Rattle.can_mac.specs.State.{IsRole}
use Rattle.can_gates.specs.Circuit.{value}
use Rattle.can_gates_mac.proofs.NibbleBits.{nibble-bits}
use Rattle.can_gates_mac.proofs.Drives.{five_bits}
use Rattle.can_gates_controller.specs.Holding.{is_in_frame}
use Rattle.can_gates_controller.proofs.Phases.{is_going}
use Rattle.can_gates_controller.proofs.whole.reads.Goals as goal

pub returns : goal.returns
returns c = (
  c.next_sent-sent.ensures.0 ∙ c.and-due.ensures.made.0 ∙ c.agrees-agrees.ensures.0,
  λ v keeps.
      let sent = c.next_sent-sent.ensures.1 v keeps in
      let due = c.and-due.ensures.made.1 v sent.0 in
      let agrees = c.agrees-agrees.ensures.1 v due.0 in (
        agrees.0,
        λ m waiting held waits. record {
          waits = waits;
          agrees = λ r is.
              let told = held.heard.told r is in
              let long : 15 ≤ length told.unstuffed = omega (arith, told.complete.whole, frame_len_ge told.unstuffed) in
              agrees.1 told.unstuffed long told.check ∙ sym (ap (λ q. q.agrees) told.told);
          part = λ front is.
              let here = held.heard.front front is in
              let going = is_going m.phase front is held.is.phase in
              let n = c.args.held.now.heard.run in record {
                due = due.1 ∙ five_bits front.run (value v n.ones) (value v n.twos) (value v n.fours) (value v n.eights) (sym here.run.run ∙ nibble-bits v n) going.front.short;
                last = here.run.last;
                sent = λ f role. sent.1 f front (subst IsRole role held.is.role) (held.own.levels f (ap is_in_frame is) role) here (held.own.sent f front is role);
              };
        },
      ),
)
