-- The parts of a document, read one after another.
use Rattle.std.proofs.Common.{◌≡◌, ℕ, ◌≤◌, true, List, length, Option, Some, None, codes, Result, Ok, Err, IfOk, OnOk, refl, ap, sym, subst, ◌∙◌, inr}
use Rattle.toml.specs.Data.{Data, Members, table}
use Rattle.can_stream.specs.declared.fault.TraceFault.{TraceFault}
use Rattle.can_scenario_text.specs.declared.scenario.PortPlan.{PortPlan}
use Rattle.can_scenario_text.specs.declared.scenario.TimedFrame.{TimedFrame}
use Rattle.can_scenario_text.specs.declared.scenario.version.Version.{Version}
use Rattle.can_stream.specs.declared.field.Field.{Field}
use Rattle.document_values.specs.Demands.{AllMet, IsFirstUnmet}
use Rattle.document_values.specs.Values.{IsRequired, ArePaired, are_known, elements_in, named, SaysNumber, SaysWhether}
use Rattle.can_scenario_text.specs.Scenarios.{IsPortArray, port_demands, port_fields, ports_demands, port_elements, queue_demands, room_demands, hits_demands, scenario_demands, top_demands, usual_log_room, version_of, SaysPort, SaysQueueElement}
use Rattle.document_values.proofs.DemandLemmas.{met-followed, unmet-first, unmet-later}

-- ---- a port

pub queue-unmet : (wrong : Field) (version : Version) (number : ℕ) (d : Data) (fields : Members) → d ≡ table fields → are_known port_fields fields ≡ true
    → IsFirstUnmet wrong (queue_demands version number (table fields)) → IsFirstUnmet wrong (port_demands version number d)
queue-unmet wrong version number d fields is known unmet =
    rw is (inr ((fields, refl), inr (known, unmet-first wrong (queue_demands version number (table fields)) (room_demands number (table fields)) unmet)))

pub room-unmet : (wrong : Field) (version : Version) (number : ℕ) (d : Data) (fields : Members) → d ≡ table fields → are_known port_fields fields ≡ true
    → AllMet (queue_demands version number (table fields)) → IsFirstUnmet wrong (room_demands number (table fields)) → IsFirstUnmet wrong (port_demands version number d)
room-unmet wrong version number d fields is known met unmet =
    rw is (inr ((fields, refl), inr (known, unmet-later wrong (queue_demands version number (table fields)) (room_demands number (table fields)) met unmet)))

pub port-met : (version : Version) (number : ℕ) (d : Data) (fields : Members) → d ≡ table fields → are_known port_fields fields ≡ true
    → AllMet (queue_demands version number (table fields)) → AllMet (room_demands number (table fields)) → AllMet (port_demands version number d)
port-met version number d fields is known queue room =
    rw is ((fields, refl), (known, met-followed (queue_demands version number (table fields)) (room_demands number (table fields)) queue room))

pub port-met-by : (r : Result PortPlan TraceFault) (version : Version) (number : ℕ) (d : Data) (fields : Members) → d ≡ table fields → are_known port_fields fields ≡ true
    → AllMet (queue_demands version number (table fields)) → OnOk r (AllMet (room_demands number (table fields))) → OnOk r (AllMet (port_demands version number d))
port-met-by (Ok plan) version number d fields is known queue room = port-met version number d fields is known queue room
port-met-by (Err fault) version number d fields is known queue room = tt

pub port-said-by : (r : Result PortPlan TraceFault) (version : Version) (d : Data) (fields : Members) (frames : List TimedFrame) → d ≡ table fields
    → ArePaired (SaysQueueElement version) (elements_in (named (codes "queue") (table fields))) frames
    → IfOk r (λ plan. plan.queue.items ≡ frames)
    → IfOk r (λ plan. SaysNumber usual_log_room (named (codes "log") (table fields)) plan.log_room)
    → IfOk r (λ plan. SaysWhether (named (codes "join") (table fields)) plan.joins)
    → IfOk r (λ plan. SaysNumber 0 (named (codes "hold") (table fields)) plan.overloads)
    → IfOk r (SaysPort version d)
port-said-by (Ok plan) version d fields frames is said queue log_room joins overloads =
    rw is (record { queue = rw queue said; log_room = log_room; joins = joins; overloads = overloads })
port-said-by (Err fault) version d fields frames is said queue log_room joins overloads = tt

-- ---- the document

pub ports-unmet : (wrong : Field) (document : Data) (ds : List Data) → ds ≡ port_elements document → AllMet (top_demands document)
    → IsFirstUnmet wrong (ports_demands (version_of document) 0 ds) → IsFirstUnmet wrong (scenario_demands document)
ports-unmet wrong document ds are top unmet =
    unmet-later wrong (top_demands document) _ top (unmet-first wrong (ports_demands (version_of document) 0 (port_elements document)) _ (rw are at unmet))

pub hits-unmet : (wrong : Field) (document : Data) (ds : List Data) (ports : ℕ) → ds ≡ port_elements document → length ds ≡ ports → AllMet (top_demands document)
    → AllMet (ports_demands (version_of document) 0 ds) → IsFirstUnmet wrong (hits_demands ports document) → IsFirstUnmet wrong (scenario_demands document)
hits-unmet wrong document ds ports are count top met unmet =
    let P : ℕ → Type 0 = λ n. IsFirstUnmet wrong (hits_demands n document) in
    unmet-later wrong (top_demands document) _ top
    (unmet-later wrong (ports_demands (version_of document) 0 (port_elements document)) _ (rw are at met) (subst P (sym count ∙ ap length are) unmet))

pub scenario-met : (document : Data) (ds : List Data) (ports : ℕ) → ds ≡ port_elements document → length ds ≡ ports → AllMet (top_demands document)
    → AllMet (ports_demands (version_of document) 0 ds) → AllMet (hits_demands ports document) → AllMet (scenario_demands document)
scenario-met document ds ports are count top met hits =
    let P : ℕ → Type 0 = λ n. AllMet (hits_demands n document) in
    met-followed (top_demands document) _ top
    (met-followed (ports_demands (version_of document) 0 (port_elements document)) _ (rw are at met) (subst P (sym count ∙ ap length are) hits))

-- how many elements an array of ports has
pub port-count : (o : Option Data) → IsRequired IsPortArray o → (1 ≤ length (elements_in o)) × (length (elements_in o) ≤ 64)
port-count None p = absurd p
port-count (Some d) p = (p.1, p.2)
