-- Networks in documents: the requirements on a document, in the order in which they are tested, and the network that it
-- describes. (docs/PLANNING.md, "`canplan`")
use Rattle.std.specs.Prelude.{ℕ, ◌≡◌, ◌≢◌, ◌<◌, ◌≤◌, true, List, [], ◌∷◌, ◌++◌, length, map, Option, Some, None, slice_get, codes}
use Rattle.std.specs.List.Sorted.{IsPermutation}
use Rattle.toml.specs.Data.{Data, string}
use Rattle.can_frame.specs.Arbitration.{arbitration_field}
use Rattle.can_frame.specs.Parts.{Parts, IsFrame}
use Rattle.can_frame.specs.Text.{frame_text}
use Rattle.can_plan.specs.declared.message.HitRate.{HitRate}
use Rattle.can_plan.specs.declared.message.Message.{Message}
use Rattle.can_plan.specs.FramesOf.{IsLongestBusy}
use Rattle.can_plan.specs.Messages.{IsMessageSet}
use Rattle.document_values.specs.Demands.{Demands, no_demands, demand, followed, demands_on_each, AllMet}
use Rattle.document_values.specs.Refusals.{IsWrongField}
use Rattle.document_values.specs.Values.{are_known, elements, elements_in, members_in, named, field_number, ArePaired, IsArray, IsDocument, IsNumber, IsOptional, IsRequired, IsTable, IsUpTo, SaysNumber}
use Rattle.can_plan_text.specs.declared.field.PlanField.{PlanField}
use Rattle.can_plan_text.specs.declared.field.PlanField.TheVariants as field
use Rattle.can_plan_text.specs.declared.field.MessageField.TheVariants as of_message
use Rattle.can_plan_text.specs.declared.messages.Fields.{Fields}
use Rattle.can_plan_text.specs.declared.plan.Plan.{Plan}
use Rattle.can_plan_text.specs.declared.plan.Planned.{Planned}
use Rattle.can_plan_text.specs.Names.{IsNameValue, SaysName}
use Rattle.can_plan_text.specs.Times.{bits_down, bits_up}

-- ---- the fields at the top

-- the fields that a document may have
abbrev pub plan_fields : List (List ℕ)
plan_fields = codes "version" ∷ codes "rate" ∷ codes "errors" ∷ codes "message" ∷ []

-- the highest bit rate, in bits a second
abbrev pub most_rate : ℕ
most_rate = 1000000

-- the longest time, in microseconds or bit times
abbrev pub longest_time : ℕ
longest_time = 4294967295

-- the bit rate of a document; 0 if it is left out, and times are in bit times then
abbrev pub rate_in : Data → ℕ
rate_in document = field_number (named (codes "rate") document)

-- the requirements on the fields before the errors
abbrev pub rate_demands : Data → Demands PlanField
rate_demands document =
    demand field.Unknown (are_known plan_fields (members_in document) ≡ true)
    (demand field.Version (IsRequired (IsNumber 1) (named (codes "version") document))
    (demand field.Rate (IsOptional (IsUpTo most_rate) (named (codes "rate") document))
    no_demands))

-- ---- the error model

-- the fields that the table of errors may have
abbrev pub error_fields : List (List ℕ)
error_fields = codes "burst" ∷ codes "spacing" ∷ []

-- a time that is 0, or at least one bit time
abbrev pub IsSpacing : ℕ → Data → Type 0
IsSpacing rate d = (n : ℕ) × IsNumber n d × (n ≤ longest_time) × (0 < n → 0 < bits_down rate n)

-- the requirements on the fields of the table of errors
abbrev pub table_demands : ℕ → Data → Demands PlanField
table_demands rate d =
    demand field.UnknownError (are_known error_fields (members_in d) ≡ true)
    (demand field.Burst (IsOptional (IsUpTo 65535) (named (codes "burst") d))
    (demand field.Spacing (IsOptional (IsSpacing rate) (named (codes "spacing") d))
    no_demands))

-- the requirements on the table of errors, which may be left out
abbrev pub errors_demands : ℕ → Option Data → Demands PlanField
errors_demands rate None = no_demands
errors_demands rate (Some d) = demand field.Errors (IsTable d) (table_demands rate d)

-- ---- a message

-- the fields that a message may have
abbrev pub message_fields : List (List ℕ)
message_fields = codes "frame" ∷ codes "dlc" ∷ codes "period" ∷ codes "jitter" ∷ codes "deadline" ∷ codes "name" ∷ []

-- the text of this frame without a space and its DLC, which is 0
abbrev pub IsHeadText : List ℕ → Parts → Type 0
IsHeadText text f = IsFrame f × (frame_text f ≡ text ++ codes " 0")

-- a string with this text
abbrev pub SaysHead : Data → Parts → Type 0
SaysHead d f = (text : List ℕ) × (d ≡ string text) × IsHeadText text f

-- a string with the text of some frame
abbrev pub IsHead : Data → Type 0
IsHead d = (f : Parts) × SaysHead d f

-- a time that is at least one bit time
abbrev pub IsPeriod : ℕ → Data → Type 0
IsPeriod rate d = (n : ℕ) × IsNumber n d × (n ≤ longest_time) × (0 < bits_down rate n)

-- the requirements on the fields of the message at this place
abbrev pub message_fields_demands : ℕ → ℕ → Data → Demands PlanField
message_fields_demands rate place d =
    demand (field.Message place of_message.Unknown) (are_known message_fields (members_in d) ≡ true)
    (demand (field.Message place of_message.Frame) (IsRequired IsHead (named (codes "frame") d))
    (demand (field.Message place of_message.Dlc) (IsOptional (IsUpTo 15) (named (codes "dlc") d))
    (demand (field.Message place of_message.Period) (IsRequired (IsPeriod rate) (named (codes "period") d))
    (demand (field.Message place of_message.Jitter) (IsOptional (IsUpTo longest_time) (named (codes "jitter") d))
    (demand (field.Message place of_message.Deadline) (IsOptional (IsUpTo longest_time) (named (codes "deadline") d))
    (demand (field.Message place of_message.Name) (IsOptional IsNameValue (named (codes "name") d))
    no_demands))))))

-- the requirements on the message at this place
abbrev pub message_demands : ℕ → ℕ → Data → Demands PlanField
message_demands rate place d = demand (field.Message place of_message.Table) (IsTable d) (message_fields_demands rate place d)

-- a message's table has the identifier and the kind of this frame
abbrev pub NamesHead : Data → Parts → Type 0
NamesHead d f = IsRequired (λ h. SaysHead h f) (named (codes "frame") d)

-- the frames of a message have an arbitration field that no message before this place has
abbrev pub IsNew : List Data → ℕ → Data → Type 0
IsNew ds place d = (n : ℕ) (e : Data) (f g : Parts) → n < place → slice_get ds n ≡ Some e →
    NamesHead e f → NamesHead d g → arbitration_field f ≢ arbitration_field g

-- the requirement that a message has an arbitration field of its own
abbrev pub new_demands : List Data → ℕ → Data → Demands PlanField
new_demands ds place d = demand (field.Message place of_message.Repeated) (IsNew ds place d) no_demands

-- a message's table has this name
abbrev pub SaysText : Data → List ℕ → Type 0
SaysText d text = named (codes "name") d ≡ Some (string text)

-- the message has a name that no message before this place has, or none
abbrev pub IsNewName : List Data → ℕ → Data → Type 0
IsNewName ds place d = (n : ℕ) (e : Data) (text : List ℕ) → n < place → slice_get ds n ≡ Some e → SaysText e text → ¬ SaysText d text

-- the requirement that a message has a name of its own
abbrev pub name_demands : List Data → ℕ → Data → Demands PlanField
name_demands ds place d = demand (field.Message place of_message.RepeatedName) (IsNewName ds place d) no_demands

-- ---- the document

-- an array of 1 to 512 elements
abbrev pub IsMessageArray : Data → Type 0
IsMessageArray d = IsArray d × (1 ≤ length (elements d)) × (length (elements d) ≤ 512)

-- the elements of the list of messages
abbrev pub messages_in : Data → List Data
messages_in document = elements_in (named (codes "message") document)

-- the requirements on the fields at the top
abbrev pub plan_top_demands : Data → Demands PlanField
plan_top_demands document =
    followed (rate_demands document)
    (followed (errors_demands (rate_in document) (named (codes "errors") document))
    (demand field.Messages (IsRequired IsMessageArray (named (codes "message") document)) no_demands))

-- all requirements on a document
abbrev pub plan_demands : Data → Demands PlanField
plan_demands document =
    followed (plan_top_demands document)
    (followed (demands_on_each (message_demands (rate_in document)) 0 (messages_in document))
    (followed (demands_on_each (new_demands (messages_in document)) 0 (messages_in document))
    (demands_on_each (name_demands (messages_in document)) 0 (messages_in document))))

-- ---- the network that a document describes

-- the spacing of hits in bit times; 0 if it is left out, and no more hits than the burst come then
abbrev pub SaysSpacing : ℕ → Option Data → ℕ → Type 0
SaysSpacing rate d spacing = (n : ℕ) × SaysNumber 0 d n × (spacing ≡ bits_down rate n)

-- the error model in the table of errors
pub record SaysHitRate (rate : ℕ) (d : Data) (hits : HitRate) : Type 0 where
  pub burst : SaysNumber 0 (named (codes "burst") d) hits.burst
  pub spacing : SaysSpacing rate (named (codes "spacing") d) hits.spacing

-- the error model of a document, if it has one
abbrev pub SaysErrors : ℕ → Option Data → Option HitRate → Type 0
SaysErrors rate None errors = errors ≡ None
SaysErrors rate (Some d) errors = (hits : HitRate) × SaysHitRate rate d hits × (errors ≡ Some hits)

-- the fields of a message, with times as in the document
pub record SaysFields (d : Data) (said : Fields) : Type 0 where
  pub head : NamesHead d said.head
  pub dlc : SaysNumber 8 (named (codes "dlc") d) said.dlc
  pub period : IsRequired (IsNumber said.period) (named (codes "period") d)
  pub jitter : SaysNumber 0 (named (codes "jitter") d) said.jitter
  pub deadline : SaysNumber said.period (named (codes "deadline") d) said.deadline
  pub name : SaysName (named (codes "name") d) said.name

-- the message with these fields, in bit times
pub record IsPlanned (rate : ℕ) (said : Fields) (planned : Planned) : Type 0 where
  pub head : planned.head ≡ said.head
  pub dlc : planned.dlc ≡ said.dlc
  pub longest : IsLongestBusy said.head.id said.head.remote said.dlc planned.message.longest
  pub period : planned.message.period ≡ bits_down rate said.period
  pub jitter : planned.message.jitter ≡ bits_up rate said.jitter
  pub deadline : planned.deadline ≡ bits_down rate said.deadline
  pub name : planned.name ≡ said.name

-- the message in a table
abbrev pub SaysMessage : ℕ → Data → Planned → Type 0
SaysMessage rate d planned = (said : Fields) × SaysFields d said × IsPlanned rate said planned

-- what the analysis needs of messages
abbrev pub messages_of : List Planned → List Message
messages_of planned = map (λ p. p.message) planned

-- the same messages, highest priority first
pub record AreInOrder (listed ordered : List Planned) : Type 0 where
  pub all : IsPermutation listed ordered
  pub set : IsMessageSet (messages_of ordered)

-- the document describes this network
pub record SaysPlan (document : Data) (plan : Plan) : Type 0 where
  pub met : AllMet (plan_demands document)
  pub rate : plan.rate ≡ rate_in document
  pub errors : SaysErrors plan.rate (named (codes "errors") document) plan.errors
  pub listed : List Planned
  pub messages : ArePaired (SaysMessage plan.rate) (messages_in document) listed
  pub ordered : AreInOrder listed plan.messages.items

-- the bytes are a document that describes this network
abbrev pub IsPlanText : List ℕ → Plan → Type 0
IsPlanText bytes plan = (document : Data) × IsDocument bytes document × SaysPlan document plan

-- the first wrong field of bytes that do not describe a network
abbrev pub IsWrongPlanField : PlanField → List ℕ → Type 0
IsWrongPlanField wrong bytes = IsWrongField field.Document plan_demands wrong bytes
