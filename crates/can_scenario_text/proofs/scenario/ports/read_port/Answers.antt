use Rattle.std.proofs.Common.{◌≡◌, true, rules}
use Rattle.toml.specs.Data.{Members, table}
use Rattle.toml.specs.View.{view, table_view}
use Rattle.document_values.specs.Demands.{IsFirstUnmet}
use Rattle.document_values.specs.Values.{are_known}
use Rattle.can_scenario_text.specs.Scenarios.{port_fields, queue_demands}
use Rattle.can_scenario_text.proofs.ScenarioParts.{queue-unmet, room-unmet, port-met-by, port-said-by}
use Rattle.can_scenario_text.proofs.scenario.ports.read_port.Goals as goal

pub returns-in_err-queue-clause-unmet : goal.returns-in_err-queue-clause-unmet
returns-in_err-queue-clause-unmet c = λ wrong told.
    let fields : Members = table_view c.in_ok-fields.fields.now in
    let is : view c.args.value.now ≡ table fields = search rules in
    let known : are_known port_fields fields ≡ true = search rules in
    let unmet : IsFirstUnmet wrong (queue_demands c.args.version c.args.number (table fields)) = search rules in
    queue-unmet wrong c.args.version c.args.number _ fields is known unmet

pub returns-clause-unmet : goal.returns-clause-unmet
returns-clause-unmet c = λ wrong told.
    let fields : Members = table_view c.in_ok-fields.fields.now in
    let is : view c.args.value.now ≡ table fields = search rules in
    let known : are_known port_fields fields ≡ true = search rules in
    room-unmet wrong c.args.version c.args.number _ fields is known c.in_ok-queue.ensures.met (c.with_queue.ensures.unmet wrong told)

pub returns-clause-met : goal.returns-clause-met
returns-clause-met c =
    let fields : Members = table_view c.in_ok-fields.fields.now in
    let is : view c.args.value.now ≡ table fields = search rules in
    let known : are_known port_fields fields ≡ true = search rules in
    port-met-by c.with_queue.result c.args.version c.args.number _ fields is known c.in_ok-queue.ensures.met c.with_queue.ensures.met

pub returns-clause-said : goal.returns-clause-said
returns-clause-said c =
    let fields : Members = table_view c.in_ok-fields.fields.now in
    let is : view c.args.value.now ≡ table fields = search rules in
    let with = c.with_queue.ensures in
    port-said-by c.with_queue.result c.args.version _ fields _ is c.in_ok-queue.ensures.said with.queue with.log_room with.joins with.overloads
