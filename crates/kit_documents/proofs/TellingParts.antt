-- What a transcript lists, read part by part.
use Rattle.std.proofs.Common.{◌≡◌, ℕ, Option, Some, codes, refl, ap, subst, inl}
use Rattle.toml.specs.Data.{Data}
use Rattle.can_terms.specs.declared.timed.Timed.{Timed}
use Rattle.can_terms.specs.declared.transcript.Counters.{Counters as CountersSaid}
use Rattle.can_terms.specs.declared.transcript.Ending.{Ending}
use Rattle.can_terms.specs.declared.event.Event.{Event}
use Rattle.kit_documents.specs.declared.field.KitField.{KitField}
use Rattle.kit_documents.specs.declared.field.TranscriptField.TheVariants as of_transcript
use Rattle.document_values.specs.Demands.{AllMet, IsFirstUnmet}
use Rattle.document_values.specs.Values.{named, IsOptional}
use Rattle.document_values.proofs.DemandLemmas.{met-followed, unmet-first, unmet-later}
use Rattle.kit_documents.specs.Lists.{time_in}
use Rattle.kit_documents.specs.declared.transcripts.lists.TranscriptList.TheVariants.{Events, Counters}
use Rattle.kit_documents.specs.Elements.{transcript_list_demands, SaysChange, SaysEnd, SaysEventAt}
use Rattle.kit_documents.specs.Transcripts.{drove_demands, end_demands, telling_demands, in_transcript}

-- the time of an element is that of its value
pub event-time : (d : Data) (event : Timed Event) → SaysEventAt d event → time_in d ≡ event.time
event-time d event says = ap time_in says.1

pub change-time : (d : Data) (change : Timed CountersSaid) → SaysChange d change → time_in d ≡ change.time
change-time d change says = ap time_in says.2

module _ (number : ℕ) (d : Data) where
  pub drove-unmet : (wrong : KitField) → IsFirstUnmet wrong (drove_demands number d) → IsFirstUnmet wrong (telling_demands number d)
  drove-unmet wrong unmet = unmet-first wrong (drove_demands number d) _ unmet

  pub events-unmet : (wrong : KitField) → AllMet (drove_demands number d) → IsFirstUnmet wrong (transcript_list_demands Events SaysEventAt number d) → IsFirstUnmet wrong (telling_demands number d)
  events-unmet wrong drove unmet = unmet-later wrong (drove_demands number d) _ drove (unmet-first wrong (transcript_list_demands Events SaysEventAt number d) _ unmet)

  pub counters-unmet : (wrong : KitField) → AllMet (drove_demands number d) → AllMet (transcript_list_demands Events SaysEventAt number d) → IsFirstUnmet wrong (transcript_list_demands Counters SaysChange number d)
      → IsFirstUnmet wrong (telling_demands number d)
  counters-unmet wrong drove events unmet =
      unmet-later wrong (drove_demands number d) _ drove (unmet-later wrong (transcript_list_demands Events SaysEventAt number d) _ events
      (unmet-first wrong (transcript_list_demands Counters SaysChange number d) _ unmet))

  pub end-unmet : (wrong : KitField) → AllMet (drove_demands number d) → AllMet (transcript_list_demands Events SaysEventAt number d) → AllMet (transcript_list_demands Counters SaysChange number d)
      → IsFirstUnmet wrong (end_demands number d) → IsFirstUnmet wrong (telling_demands number d)
  end-unmet wrong drove events counters unmet =
      unmet-later wrong (drove_demands number d) _ drove (unmet-later wrong (transcript_list_demands Events SaysEventAt number d) _ events
      (unmet-later wrong (transcript_list_demands Counters SaysChange number d) _ counters unmet))

  pub telling-met : AllMet (drove_demands number d) → AllMet (transcript_list_demands Events SaysEventAt number d) → AllMet (transcript_list_demands Counters SaysChange number d) → AllMet (end_demands number d)
      → AllMet (telling_demands number d)
  telling-met drove events counters end =
      met-followed (drove_demands number d) _ drove (met-followed (transcript_list_demands Events SaysEventAt number d) _ events (met-followed (transcript_list_demands Counters SaysChange number d) _ counters end))

-- an end that is not a valid one violates the demand
pub end-none : (number : ℕ) (d value : Data) → named (codes "end") d ≡ Some value → ((end : Ending) → SaysEnd value end → ⊥) → IsFirstUnmet (in_transcript number of_transcript.End) (end_demands number d)
end-none number d value is none =
    inl (refl, λ met. let end = subst (λ (field : Option Data). IsOptional (λ v. (e : Ending) × SaysEnd v e) field) is met in none end.0 end.1)
