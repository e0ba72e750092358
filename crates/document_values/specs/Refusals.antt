-- The field that is reported for bytes that are not a valid document. (docs/FORMATS.md, docs/CONFORMANCE.md)
use Rattle.std.specs.Prelude.{ℕ, ◌≡◌, ◌⊎◌, List}
use Rattle.toml.specs.Data.{Data}
use Rattle.document_values.specs.Demands.{Demands, IsFirstUnmet}
use Rattle.document_values.specs.Values.{IsDocument}

-- the bytes are no document: the field `none` is reported
abbrev pub IsNoDocument : {F : Type 0} → (none wrong : F) → List ℕ → Type 0
IsNoDocument none wrong bytes = (wrong ≡ none) × ¬ ((d : Data) × IsDocument bytes d)

-- the field that is reported for bytes that do not meet these demands: `none` if they are no document; otherwise that of the first demand that is not
-- met
abbrev pub IsWrongField : {F : Type 0} → (none : F) → (Data → Demands F) → (wrong : F) → List ℕ → Type 0
IsWrongField none demands wrong bytes = IsNoDocument none wrong bytes ⊎ ((d : Data) × IsDocument bytes d × IsFirstUnmet wrong (demands d))
