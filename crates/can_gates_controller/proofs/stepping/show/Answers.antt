use Rattle.std.proofs.Common.{◌≡◌, ◌∙◌, refl, sym, ap}
use Rattle.std.specs.Prelude.{nat_le}
use Rattle.can_frame.specs.Levels.{is_recessive}
use Rattle.can_gates.specs.Circuit.{value}
use Rattle.can_gates.proofs.Constants.{zero-kept}
use Rattle.can_gates_controller.specs.Steps.{ControllerStep, asked, step_time}
use Rattle.can_gates_controller.proofs.StepsTaken.{drives_asked, event_is, frame_is}
use Rattle.can_gates_controller.proofs.stepping.show.Goals as goal

pub returns : goal.returns
returns c = (
  c.is_legal-legal.ensures.0 ∙ c.is_passive-passive.ensures.0 ∙ c.told_frame-frame.ensures.0 ∙ c.choose-event_code.ensures.0 ∙ c.and-passes.ensures.made.0,
  λ v keeps.
      let legal = c.is_legal-legal.ensures.1 v keeps in
      let passive = c.is_passive-passive.ensures.1 v legal.0 in
      let frame = c.told_frame-frame.ensures.1 v passive.0 in
      let event = c.choose-event_code.ensures.1 v frame.0 in
      let passes = c.and-passes.ensures.made.1 v event.0 in
      let zero_is = zero-kept v c.args.circuit.now passes.0 in (
        passes.0,
        λ m s in_is held wished is.
            let reset : value v c.args.inputs.now.reset ≡ s.reset = ap (λ (q : ControllerStep). q.reset) (sym in_is) in
            let enable : value v c.args.inputs.now.enable ≡ s.enable = ap (λ (q : ControllerStep). q.enable) (sym in_is) in
            let tec = held.controller.counters.tec in
            let rec = held.controller.counters.rec in record {
              drive = is.drives ∙ ap is_recessive (drives_asked s.wish m s.waiting);
              event = event.1 ∙ rw (passes.1, enable, c.opposite.ensures.value v, reset, is.event, c.of.ensures v zero_is) (event_is s.reset s.enable (step_time m s).1);
              frame = λ f e. frame.1 (asked s.wish m) s.waiting s.level f wished (frame_is s.reset s.enable (step_time m s).1 f e);
              tec = tec;
              rec = rec;
              passive = passive.1 ∙ rw (tec, rec) refl;
              off = c.is_off.ensures v zero_is ∙ ap (nat_le 256) tec;
              legal = legal.1 m held;
            },
      ),
)
