-- The parts of a case, read one after another.
use Rattle.std.proofs.Common.{◌≡◌, ℕ, true, List, Option, Some, None, codes, refl, sym, ap, inl, inr}
use Rattle.toml.specs.Data.{Data}
use Rattle.kit_documents.specs.declared.field.KitField.{KitField}
use Rattle.kit_documents.specs.declared.field.CaseField.TheVariants as of_case
use Rattle.document_values.specs.Demands.{Demands, no_demands, demand, followed, demands_on_each, AllMet, IsFirstUnmet}
use Rattle.document_values.specs.Values.{are_known, elements_in, members_in, named, field_number, IsNumber, IsRequired}
use Rattle.document_values.proofs.DemandLemmas.{met-followed, unmet-first, unmet-later}
use Rattle.kit_documents.specs.declared.cases.words.Needs.{Needs}
use Rattle.kit_documents.specs.declared.cases.lists.CaseList.TheVariants.{Offers, Holds, Forced}
use Rattle.kit_documents.specs.Cases.{case_bits, case_fields, case_fields_demands, forced_demands, head_demands, lists_demands, case_naming_demands, strings_of, tester_demands, in_case, NeedsAll}
use Rattle.kit_documents.specs.Lists.{case_list_demands, SaysHold, SaysOffer, SaysTime}

-- the number of a field that has one
pub field_number-is : (field : Option Data) (n : ℕ) → IsRequired (IsNumber n) field → n ≡ field_number field
field_number-is None n said = absurd said
field_number-is (Some d) n said = sym (ap (λ e. field_number (Some e)) said)

-- ---- lists

abbrev offers_demands : ℕ → ℕ → Data → Demands KitField
offers_demands number bits d = case_list_demands Offers SaysOffer number bits d

abbrev holds_demands : ℕ → ℕ → Data → Demands KitField
holds_demands number bits d = case_list_demands Holds SaysHold number bits d

abbrev times_demands : ℕ → ℕ → Data → Demands KitField
times_demands number bits d = case_list_demands Forced SaysTime number bits d

-- the tester is recessive at each forced time
abbrev all_forced_demands : ℕ → Data → Demands KitField
all_forced_demands number d = demands_on_each (forced_demands number (strings_of d)) 0 (elements_in (named (codes "forced") d))

module _ (number bits : ℕ) (d : Data) where
  pub offers-unmet : (wrong : KitField) → IsFirstUnmet wrong (offers_demands number bits d) → IsFirstUnmet wrong (lists_demands number bits d)
  offers-unmet wrong unmet = unmet-first wrong (offers_demands number bits d) _ unmet

  pub holds-unmet : (wrong : KitField) → AllMet (offers_demands number bits d) → IsFirstUnmet wrong (holds_demands number bits d) → IsFirstUnmet wrong (lists_demands number bits d)
  holds-unmet wrong offers unmet = unmet-later wrong (offers_demands number bits d) _ offers (unmet-first wrong (holds_demands number bits d) _ unmet)

  pub times-unmet : (wrong : KitField) → AllMet (offers_demands number bits d) → AllMet (holds_demands number bits d) → IsFirstUnmet wrong (times_demands number bits d)
      → IsFirstUnmet wrong (lists_demands number bits d)
  times-unmet wrong offers holds unmet =
      unmet-later wrong (offers_demands number bits d) _ offers (unmet-later wrong (holds_demands number bits d) _ holds (unmet-first wrong (times_demands number bits d) _ unmet))

  pub forced-unmet : (wrong : KitField) → AllMet (offers_demands number bits d) → AllMet (holds_demands number bits d) → AllMet (times_demands number bits d)
      → IsFirstUnmet wrong (all_forced_demands number d) → IsFirstUnmet wrong (lists_demands number bits d)
  forced-unmet wrong offers holds times unmet =
      unmet-later wrong (offers_demands number bits d) _ offers (unmet-later wrong (holds_demands number bits d) _ holds (unmet-later wrong (times_demands number bits d) _ times unmet))

  pub lists-met : AllMet (offers_demands number bits d) → AllMet (holds_demands number bits d) → AllMet (times_demands number bits d) → AllMet (all_forced_demands number d)
      → AllMet (lists_demands number bits d)
  lists-met offers holds times forced =
      met-followed (offers_demands number bits d) _ offers (met-followed (holds_demands number bits d) _ holds (met-followed (times_demands number bits d) _ times forced))

-- ---- a case

-- what a case has to meet after its lists, after the tester, after the head, and after the name
abbrev behind_lists : ℕ → Data → Demands KitField
behind_lists number d = demand (in_case number of_case.Needs) ((needs : Needs) × NeedsAll d needs) no_demands

abbrev behind_tester : ℕ → Data → Demands KitField
behind_tester number d = followed (lists_demands number (case_bits d) d) (behind_lists number d)

abbrev behind_head : ℕ → Data → Demands KitField
behind_head number d = followed (tester_demands number d) (behind_tester number d)

abbrev behind_naming : ℕ → Data → Demands KitField
behind_naming number d = followed (head_demands number d) (behind_head number d)

module _ (earlier : List Data) (number : ℕ) (d : Data) (known : are_known case_fields (members_in d) ≡ true) (naming : AllMet (case_naming_demands earlier number d)) (head : AllMet (head_demands number d)) where
  behind : (wrong : KitField) → IsFirstUnmet wrong (behind_head number d) → IsFirstUnmet wrong (case_fields_demands earlier number d)
  behind wrong unmet = inr (known, unmet-later wrong (case_naming_demands earlier number d) (behind_naming number d) naming (unmet-later wrong (head_demands number d) (behind_head number d) head unmet))

  pub tester-unmet : (wrong : KitField) → IsFirstUnmet wrong (tester_demands number d) → IsFirstUnmet wrong (case_fields_demands earlier number d)
  tester-unmet wrong unmet = behind wrong (unmet-first wrong (tester_demands number d) (behind_tester number d) unmet)

  pub lists-unmet : (wrong : KitField) → AllMet (tester_demands number d) → IsFirstUnmet wrong (lists_demands number (case_bits d) d) → IsFirstUnmet wrong (case_fields_demands earlier number d)
  lists-unmet wrong tester unmet =
      behind wrong (unmet-later wrong (tester_demands number d) (behind_tester number d) tester (unmet-first wrong (lists_demands number (case_bits d) d) (behind_lists number d) unmet))

  pub needs-unmet : AllMet (tester_demands number d) → AllMet (lists_demands number (case_bits d) d) → ((needs : Needs) → NeedsAll d needs → ⊥) → IsFirstUnmet (in_case number of_case.Needs) (case_fields_demands earlier number d)
  needs-unmet tester lists none =
      let wrong = in_case number of_case.Needs in
      behind wrong (unmet-later wrong (tester_demands number d) (behind_tester number d) tester
      (unmet-later wrong (lists_demands number (case_bits d) d) (behind_lists number d) lists (inl (refl, λ met. none met.0 met.1))))

  pub fields-met : (needs : Needs) → AllMet (tester_demands number d) → AllMet (lists_demands number (case_bits d) d) → NeedsAll d needs → AllMet (case_fields_demands earlier number d)
  fields-met needs tester lists all = (
    known,
    met-followed (case_naming_demands earlier number d) (behind_naming number d) naming
        (met-followed (head_demands number d) (behind_head number d) head
        (met-followed (tester_demands number d) (behind_tester number d) tester
        (met-followed (lists_demands number (case_bits d) d) (behind_lists number d) lists ((needs, all), tt)))),
  )
