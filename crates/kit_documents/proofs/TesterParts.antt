-- The tester's levels: they are one list, as long as the case.
use Rattle.std.proofs.Common.{◌≡◌, ◌≢◌, ℕ, List, [], ◌∷◌, ◌++◌, length, codes, refl, sym, ap, subst, ◌∙◌, inl, inr}
use Rattle.toml.specs.Data.{Data, string}
use Rattle.can_frame.specs.declared.level.Level.{Level}
use Rattle.kit_documents.specs.declared.field.KitField.{KitField}
use Rattle.kit_documents.specs.declared.field.CaseField.TheVariants as of_case
use Rattle.document_values.specs.Demands.{AllMet, IsFirstUnmet}
use Rattle.document_values.specs.Values.{named, IsNumber, IsRequired}
use Rattle.document_values.proofs.DemandLemmas.{met-followed, unmet-first, unmet-later}
use Rattle.document_values.proofs.OneReading.{required-number}
use Rattle.kit_documents.specs.LevelTexts.{SaysLevels}
use Rattle.kit_documents.proofs.ReadPieces.{one-levels}
use Rattle.kit_documents.specs.Cases.{strings_of, tester_demands, in_case}
use Rattle.kit_documents.specs.Lists.{strings_demands, IsArrayOf, SaysString, SayStrings}

one-string : (d : Data) (xs ys : List Level) → SaysString d xs → SaysString d ys → xs ≡ ys
one-string d xs ys a b =
    let strings : string a.0 ≡ string b.0 = sym a.1 ∙ b.1 in
    let texts : a.0 ≡ b.0 = cc in
    one-levels b.0 xs ys (subst (λ (text : List ℕ). SaysLevels text xs) texts a.2) b.2

-- strings have levels in one way
pub one-strings : (ds : List Data) (xs ys : List Level) → SayStrings ds xs → SayStrings ds ys → xs ≡ ys
one-strings [] xs ys a b = a ∙ sym b
one-strings (d ∷ ds) xs ys a b =
    let firsts : a.0 ≡ b.0 = one-string d a.0 b.0 a.2 b.2 in
    let rests : a.1 ≡ b.1 = one-strings ds a.1 b.1 a.3 b.3 in
    a.4 ∙ ap (λ l. l ++ a.1) firsts ∙ ap (λ l. b.0 ++ l) rests ∙ sym b.4

module _ (number : ℕ) (d : Data) (list : IsRequired (IsArrayOf 1 4096) (named (codes "tester") d)) where
  pub tester-strings : (wrong : KitField) → IsFirstUnmet wrong (strings_demands (λ place. in_case number (of_case.Levels place)) (strings_of d)) → IsFirstUnmet wrong (tester_demands number d)
  tester-strings wrong unmet = inr (list, unmet-first wrong (strings_demands (λ place. in_case number (of_case.Levels place)) (strings_of d)) _ unmet)

  pub tester-long : (levels : List Level) (bits : ℕ) → AllMet (strings_demands (λ place. in_case number (of_case.Levels place)) (strings_of d)) → SayStrings (strings_of d) levels
      → IsRequired (IsNumber bits) (named (codes "bits") d) → length levels ≢ bits → IsFirstUnmet (in_case number of_case.Tester) (tester_demands number d)
  tester-long levels bits strings said bits_said long =
      inr (
        list,
        unmet-later (in_case number of_case.Tester) (strings_demands (λ place. in_case number (of_case.Levels place)) (strings_of d)) _ strings
            (inl (
              refl,
              λ met.
                  long (ap length (one-strings (strings_of d) levels met.0 said met.1) ∙ required-number (length met.0) bits (named (codes "bits") d) met.2 bits_said),
            )),
      )

  pub tester-met : (levels : List Level) (bits : ℕ) → AllMet (strings_demands (λ place. in_case number (of_case.Levels place)) (strings_of d)) → SayStrings (strings_of d) levels
      → IsRequired (IsNumber bits) (named (codes "bits") d) → length levels ≡ bits → AllMet (tester_demands number d)
  tester-met levels bits strings said bits_said long = (
    list,
    met-followed (strings_demands (λ place. in_case number (of_case.Levels place)) (strings_of d)) _ strings
        ((levels, said, subst (λ (n : ℕ). IsRequired (IsNumber n) (named (codes "bits") d)) (sym long) bits_said), tt),
  )
