-- The words for phases, roles and rules. (docs/CONFORMANCE.md, "Verdict lines")
use Rattle.std.specs.Prelude.{ℕ, Bool, if◌then◌else◌, List, [], ◌++◌, Option, Some, None, codes, decimal}
use Rattle.can_terms.specs.declared.event.Event.{Event}
use Rattle.can_terms.specs.declared.timed.Timed.{Timed}
use Rattle.can_terms.specs.declared.phase_kind.PhaseKind.{PhaseKind}
use Rattle.can_terms.specs.Words.{has_place, phase_word}
use Rattle.can_conform.specs.declared.standing.Rule.{Rule}
use Rattle.can_conform.specs.declared.standing.Rule.TheVariants as rule
use Rattle.can_conform.specs.declared.standing.Standing.{Standing}
use Rattle.kit_documents.specs.Events.{event_text}

-- the word for a phase, and how far it has got, if it has a place
abbrev pub phase_text : PhaseKind → ℕ → List ℕ
phase_text phase place = phase_word phase ++ (if has_place phase then codes " " ++ decimal place else [])

-- the word for a role
abbrev pub role_word : Bool → List ℕ
role_word sender = if sender then codes "sender" else codes "receiver"

-- a rule as docs/ACCESS.md names it
abbrev pub rule_name : Rule → List ℕ
rule_name rule.Joining = codes "Joining"
rule_name rule.StartOfFrame = codes "Start of frame"
rule_name rule.KeptFrame = codes "Kept frame"
rule_name rule.Intermission = codes "Intermission"
rule_name rule.SuspendTransmission = codes "Suspend transmission"
rule_name rule.BusOff = codes "Bus off"
rule_name rule.Arbitration = codes "Arbitration"
rule_name rule.StuffPlaces = codes "Stuff places"
rule_name rule.FixedForm = codes "Fixed form"
rule_name rule.Acknowledgement = codes "Acknowledgement"
rule_name rule.RefusedCrcSequence = codes "Refused CRC sequence"
rule_name rule.DominantLastLevel = codes "Dominant last level"
rule_name rule.ErrorFlags = codes "Error flags"
rule_name rule.ErrorInAnOwnFlag = codes "Error in an own flag"
rule_name rule.AfterAFlag = codes "After a flag"
rule_name rule.Delimiter = codes "Delimiter"
rule_name rule.OverloadFlags = codes "Overload flags"
rule_name rule.OwnOverloadFrames = codes "Own overload frames"

-- The last event with its time; empty if there was none.
abbrev pub since_text : Option (Timed Event) → List ℕ
since_text None = []
since_text (Some last) = codes "; since " ++ (event_text last.told ++ (codes " at " ++ decimal last.time))

-- the state of the reference: phase, role, rule and last event
abbrev pub standing_text : Standing → List ℕ
standing_text s =
    phase_text s.phase s.place ++ (codes ", " ++ (role_word s.is_sender ++ (codes "; " ++ (rule_name s.rule ++ since_text s.since))))
