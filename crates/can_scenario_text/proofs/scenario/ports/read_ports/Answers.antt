use Rattle.std.proofs.Common.{rules, arith}
use Rattle.toml.specs.View.{view}
use Rattle.document_values.specs.Demands.{IsFirstUnmet}
use Rattle.can_scenario_text.specs.Scenarios.{port_demands, SaysPort}
use Rattle.document_values.proofs.ReadLists.{IsRead-more, unmet-next, met-all, said-all}
use Rattle.can_scenario_text.proofs.scenario.ports.read_ports.Goals as goal

pub returns-in_err-read_port-clause-unmet : goal.returns-in_err-read_port-clause-unmet
returns-in_err-read_port-clause-unmet c = λ wrong told.
    let here : IsFirstUnmet wrong (port_demands c.args.version c.loop-number.number (view c.index-tables-number.result)) = search rules in
    unmet-next (port_demands c.args.version) (SaysPort c.args.version) c.args.tables.now c.loop-number.number _ c.index-tables-number.result wrong c.loop-number-test.true c.index-tables-number.is here c.loop-number.invariant

pub loop-number-preserved : goal.loop-number-preserved
loop-number-preserved c =
    rw c.in_ok-push.ensures.items (IsRead-more (port_demands c.args.version) (SaysPort c.args.version) c.args.tables.now c.loop-number.number _ c.index-tables-number.result _ c.loop-number-test.true c.index-tables-number.is c.in_ok-read_port.ensures.met c.in_ok-read_port.ensures.said c.loop-number.invariant)

pub returns-clause-said : goal.returns-clause-said
returns-clause-said c = said-all (port_demands c.args.version) (SaysPort c.args.version) c.args.tables.now c.loop-number.number _ (omega arith) c.loop-number.invariant

pub returns-clause-met : goal.returns-clause-met
returns-clause-met c = met-all (port_demands c.args.version) (SaysPort c.args.version) c.args.tables.now c.loop-number.number _ (omega arith) c.loop-number.invariant
