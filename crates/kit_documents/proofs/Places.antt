-- The first of some tables with a text.
use Rattle.std.specs.List.{position, position_or_len}
use Rattle.std.specs.Str.{bytes_eq}
use Rattle.std.proofs.Common.{◌≡◌, ℕ, List, [], ◌∷◌, map, refl}
use Rattle.std.proofs.lemmas.List.{length-map}
use Rattle.std.proofs.lemmas.Map.Text.{is_eq-slice_cmp}
use Rattle.toml.specs.Data.{Data, same_key}
use Rattle.toml.specs.View.{view}
use Rattle.toml.specs.declared.value.Value.{Value}
use Rattle.kit_documents.specs.Transcripts.{place_where}

module _ (said : Data → List ℕ) (text : List ℕ) where
  places-same : (values : List Value) → position_or_len (λ value. bytes_eq text (said (view value))) values ≡ position_or_len (λ table. same_key text (said table)) (map view values)
  places-same [] = refl
  places-same (value ∷ values) = rw (is_eq-slice_cmp text (said (view value)), places-same values)

  pub place-found : (values : List Value) → position (λ value. bytes_eq text (said (view value))) values ≡ place_where said text (map view values)
  place-found values = rw (places-same values, length-map values view)
