use Rattle.std.proofs.Common.{sym, ◌∙◌}
use Rattle.can_mac.specs.State.{is_off_phase}
use Rattle.can_mac.specs.Moves.{move}
use Rattle.can_mac.specs.Machine.{mac_step, stance, on_step, off_step}
use Rattle.can_gates.proofs.Constants.{zero-kept}
use Rattle.can_gates_mac.specs.Sensed.{IsNow}
use Rattle.can_gates_mac.proofs.Counts.{top_is}
use Rattle.can_gates_mac.proofs.Counted.{place_on, place_fits, tec_on, move_on}
use Rattle.can_gates_mac.proofs.Rested.{step_either}
use Rattle.can_gates_mac.proofs.bit_time.step.Goals as goal

pub returns : goal.returns
unfolding mac_step
returns c = (
  c.choose_controller.ensures.0 ∙ c.rest-off.ensures.0 ∙ c.count-on.ensures.0 ∙ c.next_move-moved.ensures.0 ∙ c.is_passive-passive.ensures.0,
  λ v keeps.
      let made = c.choose_controller.ensures.1 v keeps in
      let off = c.rest-off.ensures.1 v made.0 in
      let on = c.count-on.ensures.1 v off.0 in
      let moved = c.next_move-moved.ensures.1 v on.0 in
      let passive = c.is_passive-passive.ensures.1 v moved.0 in
      let zero_is = zero-kept v c.args.circuit.now passive.0 in (
        passive.0,
        λ m waiting x is_mac frame held inputs.
            let old = c.args.held.now.counters in
            let now_off = sym (top_is v zero_is old.tec 8 old.widths.0) ∙ rw held.counters.tec (sym is_mac.off) in
            step_either v (is_off_phase m.phase) _ _ _ (off_step m x) (on_step m (move (stance m) m.phase waiting x))
            (rw now_off at made.1)
            (λ h. off.1 m x is_mac held h inputs.seen)
            (λ h.
            let low = tec_on m is_mac h in
            let now : IsNow v _ (stance m) m.phase waiting x = record { place = held.place ∙ place_on m h; small = place_fits m.phase is_mac.phase h; last = held.last; unacknowledged = held.unacknowledged; first = held.first; sender = held.sender; pending = held.pending; used = held.used; few = is_mac.pending; few_used = is_mac.used; passive = rw (held.counters.tec, held.counters.rec) at passive.1; waits = inputs.waits; seen = inputs.seen; agrees = inputs.agrees } in
            on.1 (move (stance m) m.phase waiting x) m.counters (moved.1 (stance m) m.phase waiting x now held.phase inputs.part h) (move_on m waiting x is_mac frame h) held.counters low (is_mac.counters.empty_row low)),
      ),
)
