-- The levels of a transcript: its strings are read, and together they are few enough.
use Rattle.std.proofs.Common.{ℕ, ◌<◌, ◌≤◌, List, length, codes, refl, ap, inl, inr, arith}
use Rattle.toml.specs.Data.{Data}
use Rattle.can_frame.specs.declared.level.Level.{Level}
use Rattle.kit_documents.specs.declared.field.KitField.{KitField}
use Rattle.kit_documents.specs.declared.field.TranscriptField.TheVariants as of_transcript
use Rattle.document_values.specs.Demands.{AllMet, IsFirstUnmet}
use Rattle.document_values.specs.Values.{named, IsRequired}
use Rattle.document_values.proofs.DemandLemmas.{met-followed, unmet-first, unmet-later}
use Rattle.kit_documents.specs.Lists.{strings_demands, IsArrayOf, SayStrings}
use Rattle.kit_documents.proofs.TesterParts.{one-strings}
use Rattle.kit_documents.specs.Transcripts.{drove_demands, drove_of, most_levels, in_transcript}

module _ (number : ℕ) (d : Data) (list : IsRequired (IsArrayOf 0 4096) (named (codes "drove") d)) where
  pub drove-strings : (wrong : KitField) → IsFirstUnmet wrong (strings_demands (λ place. in_transcript number (of_transcript.Levels place)) (drove_of d)) → IsFirstUnmet wrong (drove_demands number d)
  drove-strings wrong unmet = inr (list, unmet-first wrong (strings_demands (λ place. in_transcript number (of_transcript.Levels place)) (drove_of d)) _ unmet)

  pub drove-many : (levels : List Level) → AllMet (strings_demands (λ place. in_transcript number (of_transcript.Levels place)) (drove_of d)) → SayStrings (drove_of d) levels
      → most_levels < length levels → IsFirstUnmet (in_transcript number of_transcript.Drove) (drove_demands number d)
  drove-many levels strings said many =
      inr (
        list,
        unmet-later (in_transcript number of_transcript.Drove) (strings_demands (λ place. in_transcript number (of_transcript.Levels place)) (drove_of d)) _ strings
            (inl (refl, λ met. let few = met.2 in omega (arith, many, few, ap length (one-strings (drove_of d) levels met.0 said met.1)))),
      )

  pub drove-met : (levels : List Level) → AllMet (strings_demands (λ place. in_transcript number (of_transcript.Levels place)) (drove_of d)) → SayStrings (drove_of d) levels
      → length levels ≤ most_levels → AllMet (drove_demands number d)
  drove-met levels strings said few =
      (list, met-followed (strings_demands (λ place. in_transcript number (of_transcript.Levels place)) (drove_of d)) _ strings ((levels, said, few), tt))
