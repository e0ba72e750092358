use Rattle.std.proofs.Common.{◌∙◌}
use Rattle.can_gates_controller.proofs.Follows.{bit_time_follows}
use Rattle.can_gates_controller.proofs.Phases.{is_going, is_short}
use Rattle.can_gates_controller.proofs.hearing.step_hearing.Goals as goal

pub returns : goal.returns
returns c = (
  c.step-made.ensures.0 ∙ c.front_behind-behind.ensures.0 ∙ c.read.ensures.0 ∙ c.within-within.ensures.0,
  λ v keeps.
      let made = c.step-made.ensures.1 v keeps in
      let behind = c.front_behind-behind.ensures.1 v made.0 in
      let read = c.read.ensures.1 v behind.0 in
      let within = c.within-within.ensures.1 v read.0 in (
        within.0,
        λ m waiting x is_mac frame held hears sees.
            let follows = bit_time_follows m waiting x in (
              made.1 m waiting x is_mac frame held (record {
                waits = sees.waits;
                seen = sees.seen;
                agrees = sees.agrees;
                part = λ front is.
                    let going = is_going m.phase front is is_mac.phase in
                    (read.1 m.role front x (hears.front front is) going.front.short (is_short front going) sees.seen (sees.sender front is)).1;
              }),
              behind.1 m.phase _ m.role _ waiting x is_mac.phase (within.1 m.phase held.phase) hears
                  (λ front is.
                  let going = is_going m.phase front is is_mac.phase in
                  (read.1 m.role front x (hears.front front is) going.front.short (is_short front going) sees.seen (sees.sender front is)).0)
                  follows.next,
            ),
      ),
)
