use Rattle.std.proofs.Common.{◌≡◌, true, map, arith, rules, sym, subst, ◌∙◌}
use Rattle.can_frame.specs.declared.level.Level.TheVariants.{Recessive}
use Rattle.can_frame.specs.IdleRow.{idle_row}
use Rattle.can_node.specs.Ports.{port_step}
use Rattle.can_bus.specs.State.{bus_state}
use Rattle.can_bus.specs.Walks.{call_on}
use Rattle.can_frame.proofs.LevelTests.{level_recessive}
use Rattle.can_bus.proofs.BusAtRest.{IsFree, IsResting, rest_recorded, rested_none, rests_on}
use Rattle.can_bus.proofs.bus.Bus.resting.Goals as goal

pub returns-then-all_rest : goal.returns-then-all_rest
returns-then-all_rest g c =
    let hits = c.args.hits.now in
    let first = call_on (bus_state g.P.Port.port c.args.self.now) c.args.call.now in
    let count = c.undisturbed.result in
    let high : c.is_recessive.result ≡ true = search rules in
    let told : c.all_rest.result ≡ true = search rules in
    let row : c.args.self.now.rest ≡ idle_row = first_of (omega arith, cc, search rules) in
    let resting : IsResting (bus_state g.P.Port.port c.args.self.now) = record {
      wired = sym c.requires.driven ∙ level_recessive c.args.driven (sym c.is_recessive.ensures ∙ high);
      rest = row;
      still = subst (λ xs. map (λ p. port_step p Recessive) (map g.P.Port.port xs) ≡ map g.P.Port.port xs) c.as_slice.ensures.value (c.all_rest.ensures told);
    } in
    let free : IsFree hits first count = record { wire = c.undisturbed.ensures.wire; view = c.undisturbed.ensures.view } in
    record {
      most = search rules;
      levels = λ n h. rest_recorded hits first count n resting free h;
      after = rests_on hits first count count resting free (omega arith);
    }

pub returns-clause-after : goal.returns-clause-after
returns-clause-after g c = rested_none c.args.hits.now (call_on (bus_state g.P.Port.port c.args.self.now) c.args.call.now)
