-- Scenarios: the requirements on a document, in the order in which they are tested, and the scenario that it describes.
-- (docs/FORMATS.md, "`canbit run`")
use Rattle.std.specs.Prelude.{◌≡◌, ◌⊎◌, ℕ, ◌+◌, ◌==◌, ◌≤◌, pos, true, if◌then◌else◌, List, [], ◌∷◌, ◌++◌, length, Option, Some, None, IsSome, unwrap_or, codes}
use Rattle.toml.specs.Data.{Data, integer, array, no_items, item}
use Rattle.document_values.specs.Demands.{Demands, no_demands, demand, followed, demands_on_each, AllMet}
use Rattle.document_values.specs.Refusals.{IsWrongField}
use Rattle.document_values.specs.Values.{are_known, elements, elements_in, members_in, named, two, ArePaired, IsArray, IsDocument, IsFrameValue, IsNumber, IsOptional, IsRequired, IsTable, IsTruthValue, IsUpTo, SaysFrame, SaysNumber, SaysWhether}
use Rattle.can_terms.specs.declared.hit.Hit.{Hit}
use Rattle.can_terms.specs.declared.hit.Hit.TheVariants as hit
use Rattle.can_terms.specs.Hits.{is_above, hit_names_port}
use Rattle.can_stream.specs.declared.fault.TraceFault.{TraceFault}
use Rattle.can_stream.specs.declared.fault.TraceFault.TheVariants.{ScenarioField, Memory}
use Rattle.can_scenario_text.specs.declared.scenario.Scenario.{Scenario}
use Rattle.can_scenario_text.specs.declared.scenario.PortPlan.{PortPlan}
use Rattle.can_scenario_text.specs.declared.scenario.TimedFrame.{TimedFrame}
use Rattle.can_scenario_text.specs.declared.scenario.version.Version.{Version}
use Rattle.can_scenario_text.specs.declared.scenario.version.Version.TheVariants.{One, Two}
use Rattle.can_stream.specs.declared.field.Field.{Field}
use Rattle.can_stream.specs.declared.field.Field.TheVariants as field
use Rattle.can_stream.specs.declared.field.PortField.TheVariants as of_port
use Rattle.can_stream.specs.declared.field.HitList.{HitList}
use Rattle.can_stream.specs.declared.field.HitList.TheVariants.{At, In, View}

-- ---- the version

-- the version that a field states, if it is 1 or 2
abbrev pub version_said : Option Data → Option Version
version_said (Some (integer (pos n))) = if n == 1 then Some One else (if n == 2 then Some Two else None)
version_said _ = None

abbrev pub version_in : Data → Option Version
version_in document = version_said (named (codes "version") document)

-- the version according to which the document is read: 1 if it states none
abbrev pub version_of : Data → Version
version_of document = unwrap_or (version_in document) One

-- ---- a port

abbrev pub port_fields : List (List ℕ)
port_fields = codes "queue" ∷ codes "log" ∷ codes "join" ∷ codes "hold" ∷ []

-- the maximum capacity of a log, in entries, and its default
abbrev pub most_log_room : ℕ
most_log_room = 65536

abbrev pub usual_log_room : ℕ
usual_log_room = 64

-- the latest bit time before which a frame may be offered
abbrev pub most_time : ℕ
most_time = 1000000

-- an array of such a time and the text of a frame
pub record IsTimedFrameValue (d : Data) : Type 0 where
  pub time : ℕ
  pub frame : Data
  pub pair : d ≡ two (integer (pos time)) frame
  pub in_range : time ≤ most_time
  pub text : IsFrameValue frame

-- an element of a queue: the text of a frame, in version 2 with its time
abbrev pub IsQueueElement : Version → Data → Type 0
IsQueueElement One d = IsFrameValue d
IsQueueElement Two d = IsTimedFrameValue d

abbrev pub frame_demands : Version → ℕ → ℕ → Data → Demands Field
frame_demands version number place d =
    demand (field.Port number (of_port.Frame place)) (IsQueueElement version d)
    no_demands

-- a queue and its elements
abbrev pub queue_demands : Version → ℕ → Data → Demands Field
queue_demands version number d =
    demand (field.Port number of_port.Queue) (IsOptional IsArray (named (codes "queue") d))
    (demands_on_each (frame_demands version number) 0 (elements_in (named (codes "queue") d)))

-- the fields of a port's table after its queue
abbrev pub room_demands : ℕ → Data → Demands Field
room_demands number d =
    demand (field.Port number of_port.Log) (IsOptional (IsUpTo most_log_room) (named (codes "log") d))
    (demand (field.Port number of_port.Join) (IsOptional IsTruthValue (named (codes "join") d))
    (demand (field.Port number of_port.Hold) (IsOptional (IsUpTo 2) (named (codes "hold") d))
    no_demands))

-- a port's table
abbrev pub port_demands : Version → ℕ → Data → Demands Field
port_demands version number d =
    demand (field.Port number of_port.Table) (IsTable d)
    (demand (field.Port number of_port.Unknown) (are_known port_fields (members_in d) ≡ true)
    (followed (queue_demands version number d)
    (room_demands number d)))

-- the tables of all ports, the first of which has this number
abbrev pub ports_demands : Version → ℕ → List Data → Demands Field
ports_demands version = demands_on_each (port_demands version)

-- ---- injected bit errors

-- the hit that an element of a list describes, if it describes one: a time; an attempt and an offset; a time and a port
abbrev pub hit_in : HitList → Data → Option Hit
hit_in At (integer (pos time)) = Some (hit.At time)
hit_in In (array (item (integer (pos attempt)) (item (integer (pos offset)) no_items))) = Some (hit.In attempt offset)
hit_in View (array (item (integer (pos time)) (item (integer (pos node)) no_items))) = Some (hit.View time node)
hit_in _ _ = None

-- an array of these two whole numbers
abbrev pub IsPair : ℕ → ℕ → Data → Type 0
IsPair first second d = d ≡ two (integer (pos first)) (integer (pos second))

-- it is greater than the one before it, if there is one
abbrev pub IsAboveBefore : Option Hit → Hit → Type 0
IsAboveBefore None hit = Unit {0}
IsAboveBefore (Some before) hit = is_above hit before ≡ true

-- the port that it names, if any, is one of this number, and it is greater than the one before it
abbrev pub IsSoundHit : ℕ → Option Hit → Option Hit → Type 0
IsSoundHit ports before None = ⊥
IsSoundHit ports before (Some hit) = (hit_names_port ports hit ≡ true) × IsAboveBefore before hit

-- each element of a list is a hit that is greater than the one before it
abbrev pub hit_demands : HitList → ℕ → ℕ → Option Hit → List Data → Demands Field
hit_demands list ports place before [] = no_demands
hit_demands list ports place before (d ∷ ds) =
    demand (field.Hit list place) (IsSoundHit ports before (hit_in list d))
    (hit_demands list ports (place + 1) (hit_in list d) ds)

abbrev pub list_name : HitList → List ℕ
list_name At = codes "at"
list_name In = codes "in"
list_name View = codes "view"

-- a list of hits
abbrev pub list_demands : HitList → ℕ → Data → Demands Field
list_demands list ports document =
    demand (field.Hits list) (IsOptional IsArray (named (list_name list) document))
    (hit_demands list ports 0 None (elements_in (named (list_name list) document)))

-- ---- the document

-- only version 1 has injected bit errors
abbrev pub top_fields : Version → List (List ℕ)
top_fields One = codes "version" ∷ codes "bits" ∷ codes "port" ∷ codes "at" ∷ codes "in" ∷ codes "view" ∷ []
top_fields Two = codes "version" ∷ codes "bits" ∷ codes "port" ∷ []

abbrev pub most_bits : ℕ
most_bits = 1000000

-- an array of 1 to 64 elements
abbrev pub IsPortArray : Data → Type 0
IsPortArray d = IsArray d × (1 ≤ length (elements d)) × (length (elements d) ≤ 64)

-- the ports of a document
abbrev pub port_elements : Data → List Data
port_elements document = elements_in (named (codes "port") document)

-- all three lists of hits
abbrev pub hits_demands : ℕ → Data → Demands Field
hits_demands ports document =
    followed (list_demands At ports document)
    (followed (list_demands In ports document)
    (list_demands View ports document))

-- the fields at the top level, except the injected bit errors
abbrev pub top_demands : Data → Demands Field
top_demands document =
    demand field.Unknown (are_known (top_fields (version_of document)) (members_in document) ≡ true)
    (demand field.Version (IsSome (version_in document))
    (demand field.Bits (IsRequired (IsUpTo most_bits) (named (codes "bits") document))
    (demand field.Ports (IsRequired IsPortArray (named (codes "port") document))
    no_demands)))

-- the requirements on a document
abbrev pub scenario_demands : Data → Demands Field
scenario_demands document =
    followed (top_demands document)
    (followed (ports_demands (version_of document) 0 (port_elements document))
    (hits_demands (length (port_elements document)) document))

-- ---- the scenario that it describes

-- an array of this time and the text of this frame
pub record SaysTimedFrame (d : Data) (timed : TimedFrame) : Type 0 where
  pub frame : Data
  pub pair : d ≡ two (integer (pos timed.time)) frame
  pub text : SaysFrame frame timed.frame

-- the element of a queue describes this frame and its time, which is 0 in version 1
abbrev pub SaysQueueElement : Version → Data → TimedFrame → Type 0
SaysQueueElement One d timed = (timed.time ≡ 0) × SaysFrame d timed.frame
SaysQueueElement Two d timed = SaysTimedFrame d timed

-- the element of such a list describes this hit
abbrev pub SaysHit : HitList → Data → Hit → Type 0
SaysHit list d hit = hit_in list d ≡ Some hit

-- the hits that were there are followed by those that these elements of such a list describe
pub record AddsHits (list : HitList) (ds : List Data) (before after : List Hit) : Type 0 where
  pub added : List Hit
  pub said : ArePaired (SaysHit list) ds added
  pub all : after ≡ before ++ added

-- the table describes this port
pub record SaysPort (version : Version) (d : Data) (plan : PortPlan) : Type 0 where
  pub queue : ArePaired (SaysQueueElement version) (elements_in (named (codes "queue") d)) plan.queue.items
  pub log_room : SaysNumber usual_log_room (named (codes "log") d) plan.log_room
  pub joins : SaysWhether (named (codes "join") d) plan.joins
  pub overloads : SaysNumber 0 (named (codes "hold") d) plan.overloads

-- the lists of a document describe these hits, all of one list before those of the next
pub record SaysHits (document : Data) (hits : List Hit) : Type 0 where
  pub at : List Hit
  pub within : List Hit
  pub view : List Hit
  pub at_said : ArePaired (SaysHit At) (elements_in (named (codes "at") document)) at
  pub within_said : ArePaired (SaysHit In) (elements_in (named (codes "in") document)) within
  pub view_said : ArePaired (SaysHit View) (elements_in (named (codes "view") document)) view
  pub all : hits ≡ at ++ (within ++ view)

-- the document describes this scenario
pub record SaysScenario (document : Data) (s : Scenario) : Type 0 where
  pub met : AllMet (scenario_demands document)
  pub bits : IsRequired (IsNumber s.bits) (named (codes "bits") document)
  pub ports : ArePaired (SaysPort (version_of document)) (port_elements document) s.ports.items
  pub hits : SaysHits document s.hits.items

-- the bytes are a document that describes this scenario
abbrev pub IsScenarioText : List ℕ → Scenario → Type 0
IsScenarioText bytes s = (document : Data) × IsDocument bytes document × SaysScenario document s

-- ---- faults

-- the first wrong field of bytes that do not describe a scenario
abbrev pub IsWrongScenarioField : Field → List ℕ → Type 0
IsWrongScenarioField wrong bytes = IsWrongField field.Document scenario_demands wrong bytes

-- a field of the document is wrong, or memory allocation failed
abbrev pub IsFieldOrMemory : TraceFault → Type 0
IsFieldOrMemory fault = ((wrong : Field) × (fault ≡ ScenarioField wrong)) ⊎ (fault ≡ Memory)

-- ---- one reading

-- the ports are the same
pub record AreSamePorts (p q : PortPlan) : Type 0 where
  pub queue : p.queue.items ≡ q.queue.items
  pub log_room : p.log_room ≡ q.log_room
  pub joins : p.joins ≡ q.joins
  pub overloads : p.overloads ≡ q.overloads

-- the scenarios are the same
pub record AreSameScenarios (s t : Scenario) : Type 0 where
  pub bits : s.bits ≡ t.bits
  pub ports : ArePaired AreSamePorts s.ports.items t.ports.items
  pub hits : s.hits.items ≡ t.hits.items
