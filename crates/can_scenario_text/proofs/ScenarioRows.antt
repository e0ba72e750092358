-- The definitions of scenarios, computed on a few documents.
use Rattle.std.proofs.Common.{◌≡◌, ℕ, List, Some, pos, refl, inl, inr, arith, rules}
use Rattle.std.specs.Prelude.{codes}
use Rattle.std.proofs.lemmas.Bool.{false≢true}
use Rattle.toml.proofs.OnLiterals.{toml_on_literals}
use Rattle.toml.specs.Data.{Data, string, integer, table, array, item, no_items, member, no_members}
use Rattle.toml.specs.Parse.{parse_document}
use Rattle.can_stream.proofs.KnownFrame.{frame_001, frame_001-whole, text_001}
use Rattle.can_stream.specs.declared.field.Field.TheVariants as field
use Rattle.can_stream.specs.declared.field.PortField.TheVariants as of_port
use Rattle.document_values.specs.Demands.{AllMet, IsFirstUnmet}
use Rattle.document_values.specs.Values.{IsDocument, members_in}
use Rattle.can_scenario_text.specs.Scenarios.{IsWrongScenarioField, IsTimedFrameValue, scenario_demands}

-- a document of one port
abbrev one_port : List ℕ
one_port = codes "version = 1\nbits = 5\n[[port]]\n"

abbrev one_port_data : Data
one_port_data = table (member (codes "bits") (integer (pos 5)) (member (codes "port") (array (item (table no_members) no_items)) (member (codes "version") (integer (pos 1)) no_members)))

one_port-parsed : parse_document one_port ≡ Some (member (codes "bits") (integer (pos 5)) (member (codes "port") (array (item (table no_members) no_items)) (member (codes "version") (integer (pos 1)) no_members)))
unfolding toml_on_literals
one_port-parsed = refl

one_port-document : IsDocument one_port one_port_data
one_port-document = record { utf8 = search rules; members = _; parsed = one_port-parsed; is_table = refl }

one_port-met : AllMet (scenario_demands one_port_data)
one_port-met = (refl, (refl, ((5, refl, omega arith), (((_, refl), omega arith, omega arith), ((_, refl), (refl, (tt, (tt, (tt, (tt, (tt, (tt, (tt, tt)))))))))))))

-- a document of no ports
abbrev no_port : List ℕ
no_port = codes "version = 1\nbits = 5\n"

abbrev no_port_data : Data
no_port_data = table (member (codes "bits") (integer (pos 5)) (member (codes "version") (integer (pos 1)) no_members))

no_port-parsed : parse_document no_port ≡ Some (member (codes "bits") (integer (pos 5)) (member (codes "version") (integer (pos 1)) no_members))
unfolding toml_on_literals
no_port-parsed = refl

no_port-wrong : IsWrongScenarioField field.Ports no_port
no_port-wrong =
    inr (no_port_data, record { utf8 = search rules; members = _; parsed = no_port-parsed; is_table = refl }, inr (refl, inr (refl, inr ((5, refl, omega arith), inl (refl, λ none. none)))))

-- an unknown field is reported, whatever else is wrong
speed-parsed : parse_document (codes "speed = 1\n") ≡ Some (member (codes "speed") (integer (pos 1)) no_members)
unfolding toml_on_literals
speed-parsed = refl

speed-wrong : IsWrongScenarioField field.Unknown (codes "speed = 1\n")
speed-wrong =
    inr (table (member (codes "speed") (integer (pos 1)) no_members), record { utf8 = search rules; members = _; parsed = speed-parsed; is_table = refl }, inl (refl, false≢true))

-- ---- version 2

-- a document of this version, with one port that has this element in its queue
abbrev with_element : ℕ → Data → Data
with_element version element =
    table (member (codes "bits") (integer (pos 5)) (member (codes "port") (array (item (table (member (codes "queue") (array (item element no_items)) no_members)) no_items))
    (member (codes "version") (integer (pos version)) no_members)))

-- `[3, "S 001 D 0"]`
abbrev at_three : Data
at_three = array (item (integer (pos 3)) (item (string (codes "S 001 D 0")) no_items))

abbrev timed : List ℕ
timed = codes "version = 2\nbits = 5\n[[port]]\nqueue = [[3, \"S 001 D 0\"]]\n"

timed-parsed : parse_document timed ≡ Some (members_in (with_element 2 at_three))
unfolding toml_on_literals
timed-parsed = refl

at_three-frame : IsTimedFrameValue at_three
at_three-frame = record { time = 3; frame = string (codes "S 001 D 0"); pair = refl; in_range = omega arith; text = (codes "S 001 D 0", refl, (frame_001, frame_001-whole, text_001)) }

timed-met : AllMet (scenario_demands (with_element 2 at_three))
timed-met = (refl, (refl, ((5, refl, omega arith), (((_, refl), omega arith, omega arith), ((_, refl), (refl, ((_, refl), (at_three-frame, (tt, (tt, (tt, (tt, (tt, (tt, tt))))))))))))))

-- the fault of an element that is invalid in version 2
told : (element : Data) → (IsTimedFrameValue element → ⊥) → IsFirstUnmet (field.Port 0 (of_port.Frame 0)) (scenario_demands (with_element 2 element))
told element none =
    inr (refl, inr (refl, inr ((5, refl, omega arith), inr (((_, refl), omega arith, omega arith), inr ((_, refl), inr (refl, inr ((_, refl), inl (refl, none))))))))

-- `"S 001 D 0"` has no time
untimed-told : IsFirstUnmet (field.Port 0 (of_port.Frame 0)) (scenario_demands (with_element 2 (string (codes "S 001 D 0"))))
untimed-told = told (string (codes "S 001 D 0")) (λ is. let e : string (codes "S 001 D 0") ≡ array (item (integer (pos is.time)) (item is.frame no_items)) = is.pair in cc)

-- `[1000001, "S 001 D 0"]` has a time that is too large
too_late : Data
too_late = array (item (integer (pos 1000001)) (item (string (codes "S 001 D 0")) no_items))

too_late-none : IsTimedFrameValue too_late → ⊥
unfolding too_late
too_late-none is =
    let e : array (item (integer (pos 1000001)) (item (string (codes "S 001 D 0")) no_items)) ≡ array (item (integer (pos is.time)) (item is.frame no_items)) = is.pair in
    let time : 1000001 ≡ is.time = cc in
    let limit = is.in_range in omega (arith, time, limit)

too_late-told : IsFirstUnmet (field.Port 0 (of_port.Frame 0)) (scenario_demands (with_element 2 too_late))
too_late-told = told too_late too_late-none

-- `[3, "S 001 D 0", 0]` has an element too many
abbrev three : Data
three = array (item (integer (pos 3)) (item (string (codes "S 001 D 0")) (item (integer (pos 0)) no_items)))

three-told : IsFirstUnmet (field.Port 0 (of_port.Frame 0)) (scenario_demands (with_element 2 three))
three-told =
    told three (λ is.
    let e : array (item (integer (pos 3)) (item (string (codes "S 001 D 0")) (item (integer (pos 0)) no_items))) ≡ array (item (integer (pos is.time)) (item is.frame no_items)) = is.pair in cc)

-- there is no version 3, and it is reported before the queue
version_three-told : IsFirstUnmet field.Version (scenario_demands (with_element 3 three))
version_three-told = inr (refl, inl (refl, false≢true))

-- version 2 doesn't know `at`, and version 3 is read as version 1, which does
abbrev with_at : ℕ → Data
with_at version = table (member (codes "at") (array no_items) (member (codes "version") (integer (pos version)) no_members))

at-told : IsFirstUnmet field.Unknown (scenario_demands (with_at 2))
at-told = inl (refl, false≢true)

at-known : IsFirstUnmet field.Version (scenario_demands (with_at 3))
at-known = inr (refl, inl (refl, false≢true))
