use Rattle.std.proofs.Common.{◌∙◌, refl}
use Rattle.can_gates.specs.Circuit.{value}
use Rattle.can_gates_controller.specs.Steps.{asked, step_time}
use Rattle.can_gates_controller.specs.Fields.{frame_in}
use Rattle.can_gates_controller.specs.Runs.{step_in}
use Rattle.can_gates_controller.proofs.Cleared.{frame_in-is}
use Rattle.can_gates_controller.proofs.StepsTaken.{taken_reset, taken_behind, offers_is, recessive_from}
use Rattle.can_gates_controller.proofs.stepping.step.Goals as goal

pub returns-clause-places : goal.returns-clause-places
returns-clause-places c = c.take-taken.ensures.places

pub returns-clause-taken : goal.returns-clause-taken
returns-clause-taken c =
    let held = c.args.held.now in
    let inputs = c.args.inputs.now in (
      c.take-taken.ensures.taken.0 ∙ c.show-outputs.ensures.0 ∙ c.bit_time-made.ensures.0 ∙ c.with_wish-wished.ensures.0 ∙ c.levels_of-levels.ensures.0,
      λ v keeps.
          let taken = c.take-taken.ensures.taken.1 v keeps in
          let outputs = c.show-outputs.ensures.1 v taken.0 in
          let made = c.bit_time-made.ensures.1 v outputs.0 in
          let wished = c.with_wish-wished.ensures.1 v made.0 in
          let levels = c.levels_of-levels.ensures.1 v wished.0 in
          let next = c.bit_time-made.result.next in
          let now_taken = c.take-taken.result in (
            levels.0,
            (
              λ now resets takes. taken_reset v now held next now_taken (value v inputs.reset) (value v inputs.integrating) (value v inputs.enable) taken.1 takes resets,
              λ m holds.
                  let s = step_in v inputs in
                  let w = wished.1 m holds in
                  let offers = offers_is v (record { waits = inputs.waits; levels = c.levels_of-levels.result }) (value v inputs.waits) (frame_in v inputs.frame) refl (frame_in-is v inputs.frame) levels.1 in
                  let time = made.1 (asked s.wish m) s.waiting s.level w offers (recessive_from (value v inputs.bus)) in (
                    outputs.1 m s refl holds w time,
                    λ now takes. taken_behind v now held next now_taken s.reset s.integrating s.enable taken.1 takes m (step_time m s).0 holds time.next,
                  ),
            ),
          ),
    )
