use Rattle.std.proofs.Common.{refl, ap, ◌∙◌}
use Rattle.can_gates.specs.Circuit.{value}
use Rattle.can_gates.proofs.Constants.{zero-kept, value-never}
use Rattle.can_gates_mac.specs.Nibbles.{nibble}
use Rattle.can_gates_mac.proofs.ShownFields.{same_numbers, uncaused}
use Rattle.can_gates_mac.proofs.Rested.{rests, resting_numbers, row_off, bus_off}
use Rattle.can_gates_mac.proofs.bit_time.rest.Goals as goal

pub returns : goal.returns
returns c = (
  c.choose-rec.ensures.number.0 ∙ c.choose-tec.ensures.number.0 ∙ c.recover.ensures.recovers.0 ∙ c.compare-places.ensures.0,
  λ v keeps.
      let rec = c.choose-rec.ensures.number.1 v keeps in
      let tec = c.choose-tec.ensures.number.1 v rec.0 in
      let recovery = c.recover.ensures.recovers.1 v tec.0 in
      let places = c.compare-places.ensures.1 v recovery.0 in
      let zero_is = zero-kept v c.args.circuit.now places.0 in
      let no = value-never v zero_is in (
        places.0,
        λ m x is_mac held is_off seen.
            let parts = m.counters in
            let off = bus_off m is_mac is_off in
            let row_held = held.place ∙ row_off m is_off in
            let back = recovery.1 parts x off is_mac.counters.row is_mac.counters.occurrences (rw row_held at places.1) seen held.counters.occurrences in
            let ended = value v c.recover.result.ended in
            let row = nibble v c.recover.result.row in
            let shows = same_numbers v _ (resting_numbers ended row m.role m.overloads) (c.rest_phase.ensures v zero_is) refl no no no held.sender held.pending held.used (c.of.ensures v zero_is) (c.rest_event.ensures v zero_is) in
            rests v _ m.phase m.role m.overloads parts x ended row is_off off back.ended (ap uncaused shows) back.in_row (rw (held.counters.tec, no) at tec.1) (rw (held.counters.rec, no) at rec.1) back.occurred,
      ),
)
