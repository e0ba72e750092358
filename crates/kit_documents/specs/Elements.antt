-- Elements of a transcript's table: events and counters with their times, and the end. (docs/CONFORMANCE.md,
-- "Documents")
use Rattle.std.specs.Prelude.{ℕ, ◌≡◌, ◌≤◌, pos, codes, List, Option, Some, None}
use Rattle.toml.specs.Data.{Data, string, integer}
use Rattle.can_terms.specs.declared.timed.Timed.{Timed}
use Rattle.can_terms.specs.declared.transcript.Counters.{Counters}
use Rattle.can_terms.specs.declared.transcript.Ending.{Ending}
use Rattle.can_terms.specs.declared.event.Event.{Event}
use Rattle.can_fault.specs.Words.{state_word}
use Rattle.kit_documents.specs.Events.{SaysEvent}
use Rattle.document_values.specs.Demands.{Demands, demand}
use Rattle.document_values.specs.Values.{elements_in, named, three, two, IsNumber, IsOptional}
use Rattle.kit_documents.specs.Lists.{elements_demands, IsArrayOf}
use Rattle.kit_documents.specs.declared.field.KitField.{KitField}
use Rattle.kit_documents.specs.declared.field.KitField.TheVariants as field
use Rattle.kit_documents.specs.declared.field.TranscriptField.{TranscriptField}
use Rattle.kit_documents.specs.declared.field.TranscriptField.TheVariants as of_transcript
use Rattle.kit_documents.specs.declared.transcripts.lists.TranscriptList.{TranscriptList}
use Rattle.kit_documents.specs.declared.transcripts.lists.TranscriptList.TheVariants as list

-- ---- elements

-- An event is an array of its time and its text.
abbrev pub SaysEventAt : Data → Timed Event → Type 0
SaysEventAt d event = (text : List ℕ) × (d ≡ two (integer (pos event.time)) (string text)) × SaysEvent text event.told

-- the highest count of a transcript
abbrev pub most_counts : ℕ
most_counts = 65535

-- These two numbers are TEC and REC.
pub record SayCounters (transmit receive : Data) (counters : Counters) : Type 0 where
  pub transmits : IsNumber counters.transmit transmit
  pub receives : IsNumber counters.receive receive
  pub few_transmits : counters.transmit ≤ most_counts
  pub few_receives : counters.receive ≤ most_counts

-- A change of the counters is an array of its time, TEC and REC after it.
abbrev pub SaysChange : Data → Timed Counters → Type 0
SaysChange d change =
    (transmit receive : Data) × (d ≡ three (integer (pos change.time)) transmit receive)
    × SayCounters transmit receive change.told

-- The end is an array of the word for the state, TEC and REC.
abbrev pub SaysEnd : Data → Ending → Type 0
SaysEnd d end =
    (transmit receive : Data) × (d ≡ three (string (state_word end.state)) transmit receive)
    × SayCounters transmit receive end.counters

-- A field that may be left out: it has this value, or there is neither a field nor a value.
abbrev pub SaysIfThere : {A : Type 0} → (Data → A → Type 0) → Option Data → Option A → Type 0
SaysIfThere Says None None = Unit {0}
SaysIfThere Says None (Some x) = ⊥
SaysIfThere Says (Some d) None = ⊥
SaysIfThere Says (Some d) (Some x) = Says d x

-- ---- the lists by name

-- the key of a list
abbrev pub transcript_list_name : TranscriptList → List ℕ
transcript_list_name list.Events = codes "events"
transcript_list_name list.Counters = codes "counters"

-- a list, as errors name it
abbrev pub transcript_list_field : TranscriptList → TranscriptField
transcript_list_field list.Events = of_transcript.Events
transcript_list_field list.Counters = of_transcript.Counters

-- the element of a list with this number, as errors name it
abbrev pub transcript_element_field : TranscriptList → ℕ → TranscriptField
transcript_element_field list.Events place = of_transcript.Event place
transcript_element_field list.Counters place = of_transcript.Change place

-- the maximum number of elements of a list
abbrev pub most_transcript_elements : ℕ
most_transcript_elements = 100000

-- All times are below this one. They may be after the end of the case.
abbrev pub time_end : ℕ
time_end = 100001

-- A list of the transcript with this number. Its times rise.
abbrev pub transcript_list_demands : {A : Type 0} → TranscriptList → (Data → A → Type 0) → ℕ → Data → Demands KitField
transcript_list_demands list Says number d =
    demand (field.Transcript number (transcript_list_field list))
    (IsOptional (IsArrayOf 0 most_transcript_elements) (named (transcript_list_name list) d))
    (elements_demands (λ place. field.Transcript number (transcript_element_field list place)) Says time_end 1
    (elements_in (named (transcript_list_name list) d)))
