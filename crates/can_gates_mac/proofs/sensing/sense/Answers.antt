use Rattle.std.proofs.Common.{not, ap, ◌∙◌}
use Rattle.can_gates.proofs.Constants.{zero-kept}
use Rattle.can_gates_mac.proofs.Roles.{held_back_is}
use Rattle.can_gates_mac.proofs.sensing.sense.Goals as goal

pub returns : goal.returns
returns c = (
  c.and-first.ensures.made.0 ∙ c.less-run_below_6.ensures.0 ∙ c.run_behind-run.ensures.0 ∙ c.and-counts.ensures.made.0 ∙ c.and-still.ensures.made.0 ∙ c.and-refuses.ensures.made.0 ∙ c.and-starts.ensures.made.0 ∙ c.asks-asks.ensures.0 ∙ c.and-held_back.ensures.made.0 ∙ c.compare-places.ensures.0,
  λ v keeps.
      let first = c.and-first.ensures.made.1 v keeps in
      let run_below_6 = c.less-run_below_6.ensures.1 v first.0 in
      let run = c.run_behind-run.ensures.1 v run_below_6.0 in
      let counts = c.and-counts.ensures.made.1 v run.0 in
      let still = c.and-still.ensures.made.1 v counts.0 in
      let refuses = c.and-refuses.ensures.made.1 v still.0 in
      let starts = c.and-starts.ensures.made.1 v refuses.0 in
      let asks = c.asks-asks.ensures.1 v starts.0 in
      let held_back = c.and-held_back.ensures.made.1 v asks.0 in
      let places = c.compare-places.ensures.1 v held_back.0 in
      let zero_is = zero-kept v c.args.circuit.now places.0 in (
        places.0,
        λ s p waiting x now.
            let held = rw (now.sender, now.passive) at held_back.1 ∙ held_back_is s s.role in
            let next = rw now.place at (places.1.next (rw now.place now.small)) in
            let so_long = rw (now.last, now.seen, next) at run.1 in
            record {
              never = zero_is;
              passive = now.passive;
              sender = now.sender;
              receiver = c.opposite-receiver.ensures.value v ∙ ap not now.sender;
              held_back = held;
              pending = now.pending;
              used = now.used;
              few = now.few;
              asks = rw (now.pending, now.used) at (asks.1 (rw now.pending now.few) (rw now.used now.few_used));
              waits = now.waits;
              starts = rw (now.waits, c.opposite-free.ensures.value v, held) at starts.1;
              recessive = now.seen;
              dominant = c.opposite-dominant.ensures.value v ∙ ap not now.seen;
              below_2 = rw now.place at places.1.below_2;
              below_5 = rw now.place at places.1.below_5;
              below_6 = rw now.place at places.1.below_6;
              below_7 = rw now.place at places.1.below_7;
              below_10 = rw now.place at places.1.below_10;
              next = next;
              agrees = now.agrees;
              refuses = rw (c.opposite-receiver.ensures.value v, c.opposite-differs.ensures.value v, now.sender) at refuses.1;
              still = rw (now.unacknowledged, now.seen) at still.1;
              counts = rw (now.unacknowledged, c.opposite-dominant.ensures.value v, now.seen) at counts.1;
              run = so_long;
              run_below_6 = rw so_long at run_below_6.1;
              first = rw (c.opposite-receiver.ensures.value v, now.sender, now.first) at first.1;
            },
      ),
)
