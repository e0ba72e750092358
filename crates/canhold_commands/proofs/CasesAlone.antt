-- A document that must have no list of transcripts.
use Rattle.std.proofs.Common.{ℕ, ◌≡◌, List, Option, Some, None, refl, inl, inr}
use Rattle.std.specs.Prelude.{option_map}
use Rattle.toml.specs.Data.{Data}
use Rattle.kit_documents.specs.declared.field.KitField.{KitField}
use Rattle.kit_documents.specs.declared.field.KitField.TheVariants as field
use Rattle.document_values.specs.Demands.{Demands, no_demands, demand, AllMet, IsFirstUnmet}
use Rattle.document_values.specs.Values.{IsDocument}
use Rattle.document_values.proofs.DemandLemmas.{unmet-first, unmet-later}
use Rattle.canhold_commands.specs.Documents.{document_demands, IsWrongKitField}
use Rattle.canhold_commands.specs.Expectations.{cases_alone_demands, HasCasesAlone}

abbrev no_list : Data → Demands KitField
no_list d = demand field.Transcripts (HasCasesAlone d) no_demands

-- what is wrong in a document is wrong in one without the list
pub wrong-alone : (wrong : KitField) (bytes : List ℕ) (d : Data) → IsDocument bytes d → IsFirstUnmet wrong (document_demands d) → IsWrongKitField cases_alone_demands wrong bytes
wrong-alone wrong bytes d is unmet = inr (d, is, unmet-first wrong (document_demands d) (no_list d) unmet)

-- a document that has the list is refused for it
pub listed : (bytes : List ℕ) (d : Data) → IsDocument bytes d → AllMet (document_demands d) → ¬ HasCasesAlone d → IsWrongKitField cases_alone_demands field.Transcripts bytes
listed bytes d is met some = inr (d, is, unmet-later field.Transcripts (document_demands d) (no_list d) met (inl (refl, some)))

-- if mapping an option gives none, it was none
pub none-mapped : {A : Type 0} {B : Type 0} (f : A → B) (found : Option A) (said : Option B) → option_map f found ≡ said → said ≡ None → found ≡ None
none-mapped f None said is none = refl
none-mapped f (Some x) said is none = absurd (cc)
