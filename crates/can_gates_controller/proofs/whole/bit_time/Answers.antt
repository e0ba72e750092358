use Rattle.std.proofs.Common.{◌∙◌, subst, ap}
use Rattle.can_mac.specs.State.{IsRole}
use Rattle.can_mac.proofs.Kept.{step_kept}
use Rattle.can_gates_mac.proofs.Next.{next_holds}
use Rattle.can_gates_controller.specs.Holding.{is_in_frame}
use Rattle.can_gates_controller.proofs.Follows.{bit_time_follows}
use Rattle.can_gates_controller.proofs.Settled.{step_settled}
use Rattle.can_gates_controller.proofs.Owned.{own_follows, told_frame, event_is}
use Rattle.can_gates_controller.proofs.whole.bit_time.Goals as goal

pub returns : goal.returns
returns c = (
  c.next_own-own.ensures.0 ∙ c.within-within.ensures.0 ∙ c.step_hearing.ensures.0 ∙ c.drive-recessive.ensures.0 ∙ c.reads-sends.ensures.0,
  λ v keeps.
      let own = c.next_own-own.ensures.1 v keeps in
      let within = c.within-within.ensures.1 v own.0 in
      let stepped = c.step_hearing.ensures.1 v within.0 in
      let drives = c.drive-recessive.ensures.1 v stepped.0 in
      let sends = c.reads-sends.ensures.1 v drives.0 in (
        sends.0,
        λ m waiting x held offers seen.
            let reads = sends.1 m waiting held offers.waits in
            let step = stepped.1 m waiting x held.is offers.frame held.controller held.heard (record {
              waits = offers.waits;
              seen = seen;
              agrees = reads.agrees;
              sender = λ front is. record {
                sent = (reads.part front is).sent;
                extended = λ f role. c.is_extended.ensures v f (subst IsRole role held.is.role) (held.own.levels f (ap is_in_frame is) role);
              };
            }) in
            let follows = bit_time_follows m waiting x in record {
              next = record {
                is = step_kept m held.is waiting x offers.frame;
                settled = step_settled m waiting x held.settled;
                controller = next_holds v _ _ step.0;
                heard = step.1;
                own = own_follows v _ _ _ m waiting x _ _ held.is held.own offers.levels follows.next (λ place h. own.1 m.phase place (within.1 m.phase held.controller.phase) h);
              };
              drives = drives.1 m waiting held.controller reads;
              event = event_is v _ _ step.0;
              frame = told_frame v c.args.held.now m _ held follows.told;
            },
      ),
)
