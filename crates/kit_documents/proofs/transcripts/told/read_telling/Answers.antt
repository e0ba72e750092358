use Rattle.std.proofs.Common.{ℕ, codes, arith, rules}
use Rattle.toml.specs.Data.{table}
use Rattle.toml.specs.View.{table_view}
use Rattle.document_values.specs.Demands.{IsFirstUnmet}
use Rattle.document_values.specs.Values.{named}
use Rattle.kit_documents.specs.declared.transcripts.lists.TranscriptList.TheVariants.{Counters, Events}
use Rattle.kit_documents.specs.Elements.{transcript_element_field, transcript_list_demands, SaysChange, SaysEventAt}
use Rattle.kit_documents.specs.Transcripts.{drove_demands, end_demands, in_transcript}
use Rattle.kit_documents.proofs.Rising.{list-end, list-rising}
use Rattle.kit_documents.proofs.TellingParts.{change-time, counters-unmet, drove-unmet, end-unmet, event-time, events-unmet, telling-met}
use Rattle.kit_documents.proofs.transcripts.told.read_telling.Goals as goal

pub returns-in_err-drove-clause-unmet : goal.returns-in_err-drove-clause-unmet
returns-in_err-drove-clause-unmet c = λ wrong is.
    let d = table (table_view c.args.fields.now) in
    let here : IsFirstUnmet wrong (drove_demands c.args.number d) = search rules in
    drove-unmet c.args.number d wrong here

pub returns-in_err-events-clause-unmet : goal.returns-in_err-events-clause-unmet
returns-in_err-events-clause-unmet c = λ wrong is.
    let d = table (table_view c.args.fields.now) in
    let here : IsFirstUnmet wrong (transcript_list_demands Events SaysEventAt c.args.number d) = search rules in
    events-unmet c.args.number d wrong c.in_ok-drove.ensures.met here

pub returns-in_err-counters-clause-unmet : goal.returns-in_err-counters-clause-unmet
returns-in_err-counters-clause-unmet c = λ wrong is.
    let d = table (table_view c.args.fields.now) in
    let here : IsFirstUnmet wrong (transcript_list_demands Counters SaysChange c.args.number d) = search rules in
    counters-unmet c.args.number d wrong c.in_ok-drove.ensures.met c.in_ok-events.ensures.met here

pub returns-in_err-end-clause-unmet : goal.returns-in_err-end-clause-unmet
returns-in_err-end-clause-unmet c = λ wrong is.
    let d = table (table_view c.args.fields.now) in
    let here : IsFirstUnmet wrong (end_demands c.args.number d) = search rules in
    end-unmet c.args.number d wrong c.in_ok-drove.ensures.met c.in_ok-events.ensures.met c.in_ok-counters.ensures.met here

pub returns-clause-told : goal.returns-clause-told
returns-clause-told c =
    let d = table (table_view c.args.fields.now) in
    let events_told = λ (place : ℕ). in_transcript c.args.number (transcript_element_field Events place) in
    let changes_told = λ (place : ℕ). in_transcript c.args.number (transcript_element_field Counters place) in
    let few = c.in_ok-drove.ensures.few in
    let events = c.in_ok-events.ensures in
    let changes = c.in_ok-counters.ensures in
    record {
      levels = omega (arith, few);
      events = list-rising SaysEventAt event-time events_told (named (codes "events") d) c.in_ok-events.events events.met.1 events.said;
      counters = list-rising SaysChange change-time changes_told (named (codes "counters") d) c.in_ok-counters.counters changes.met.1 changes.said;
      events_end = list-end SaysEventAt event-time events_told (named (codes "events") d) c.in_ok-events.events events.met.1 events.said;
      counters_end = list-end SaysChange change-time changes_told (named (codes "counters") d) c.in_ok-counters.counters changes.met.1 changes.said;
    }

pub returns-clause-met : goal.returns-clause-met
returns-clause-met c =
    telling-met c.args.number (table (table_view c.args.fields.now)) c.in_ok-drove.ensures.met c.in_ok-events.ensures.met c.in_ok-counters.ensures.met c.in_ok-end.ensures.met
