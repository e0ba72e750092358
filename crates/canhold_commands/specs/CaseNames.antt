-- The name of the case that an invalid field belongs to. (docs/CONFORMANCE.md, "Documents")
use Rattle.std.specs.Prelude.{ℕ, ◌≡◌, codes, List, Some}
use Rattle.std.specs.List.{slice_get}
use Rattle.toml.specs.Data.{Data, string}
use Rattle.kit_documents.specs.declared.field.KitField.{KitField}
use Rattle.kit_documents.specs.declared.field.KitField.TheVariants.{Case, Transcript}
use Rattle.document_values.specs.Values.{elements_in, named, IsDocument}
use Rattle.kit_documents.specs.Names.{longest_name, IsKitName}

-- This field of the table with this number in a list of the document is this name.
pub record NamesTable (list : List ℕ) (number : ℕ) (part : List ℕ) (d : Data) (name : List ℕ) : Type 0 where
  pub one : Data
  pub is : slice_get (elements_in (named list d)) number ≡ Some one
  pub said : named part one ≡ Some (string name)
  pub word : IsKitName longest_name name

-- The field belongs to the case with this name: it is in the table of the case, or in that of its transcript.
abbrev pub IsOfCase : KitField → Data → List ℕ → Type 0
IsOfCase (Case number part) d name = NamesTable (codes "case") number (codes "name") d name
IsOfCase (Transcript number part) d name = NamesTable (codes "transcript") number (codes "case") d name
IsOfCase _ d name = ⊥

-- The bytes are a document in which the field belongs to the case with this name.
abbrev pub IsCaseIn : List ℕ → KitField → List ℕ → Type 0
IsCaseIn bytes wrong name = (d : Data) × IsDocument bytes d × IsOfCase wrong d name
