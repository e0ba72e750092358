-- A transcript as a table of a document. (docs/CONFORMANCE.md, "A transcript as text")
use Rattle.std.specs.Prelude.{ℕ, ◌==◌, if◌then◌else◌, List, [], ◌∷◌, ◌++◌, length, Option, Some, None, codes, decimal}
use Rattle.can_frame.specs.declared.level.Level.{Level}
use Rattle.can_terms.specs.declared.event.Event.{Event}
use Rattle.can_terms.specs.declared.timed.Timed.{Timed}
use Rattle.can_terms.specs.declared.transcript.Counters.{Counters}
use Rattle.can_terms.specs.declared.transcript.Ending.{Ending}
use Rattle.can_terms.specs.declared.transcript.Transcript.{Transcript}
use Rattle.kit_documents.specs.LevelTokens.{levels_text}
use Rattle.can_fault.specs.Words.{state_word}
use Rattle.kit_documents.specs.Events.{event_text}

-- the text of a value; empty if it is left out
abbrev pub where_told : {A : Type 0} → (A → List ℕ) → Option A → List ℕ
where_told text None = []
where_told text (Some x) = text x

-- ---- lists

-- the elements, one a line
abbrev pub element_lines : {A : Type 0} → (A → List ℕ) → List A → List ℕ
element_lines text [] = []
element_lines text (x ∷ xs) = codes "    [" ++ (text x ++ (codes "],\n" ++ element_lines text xs))

-- A list with its key. An empty list is on one line.
abbrev pub list_text : {A : Type 0} → List ℕ → (A → List ℕ) → List A → List ℕ
list_text key text [] = key ++ codes " = []\n"
list_text key text (x ∷ xs) = key ++ (codes " = [\n" ++ (element_lines text (x ∷ xs) ++ codes "]\n"))

-- a time and an event, in quotes
abbrev pub event_element : Timed Event → List ℕ
event_element x = decimal x.time ++ (codes ", \"" ++ (event_text x.told ++ codes "\""))

-- TEC and REC
abbrev pub counters_elements : Counters → List ℕ
counters_elements c = decimal c.transmit ++ (codes ", " ++ decimal c.receive)

-- a time, TEC and REC
abbrev pub counters_element : Timed Counters → List ℕ
counters_element x = decimal x.time ++ (codes ", " ++ counters_elements x.told)

-- ---- the table

-- An empty line, the header of the table, the version of the format, and the name of the case in quotes.
unfoldable pub transcript_head : List ℕ → List ℕ
transcript_head name = codes "\n[[transcript]]\nversion = 1\ncase = \"" ++ (name ++ codes "\"\n")

-- The levels as tokens in one string; no string if there are none.
abbrev pub drove_line : List Level → List ℕ
drove_line levels =
    if length levels == 0 then codes "drove = []\n" else codes "drove = [\"" ++ (levels_text levels ++ codes "\"]\n")

-- the state in quotes, TEC and REC
abbrev pub end_line : Ending → List ℕ
end_line end =
    codes "end = [\"" ++ (state_word end.state
    ++ (codes "\", " ++ (counters_elements end.counters ++ codes "]\n")))

-- The table of a transcript of the case with this name.
abbrev pub transcript_text : List ℕ → Transcript → List ℕ
transcript_text name told =
    transcript_head name ++
    (drove_line told.drove.items ++
    (where_told (λ events. list_text (codes "events") event_element events.items) told.events ++
    (where_told (λ counters. list_text (codes "counters") counters_element counters.items) told.counters ++
    where_told end_line told.end)))
