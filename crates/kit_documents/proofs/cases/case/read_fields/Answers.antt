use Rattle.std.proofs.Common.{◌≡◌, ℕ, true, map, codes, subst, rules}
use Rattle.toml.specs.Data.{table}
use Rattle.toml.specs.View.{table_view, view}
use Rattle.kit_documents.specs.declared.field.KitField.{KitField}
use Rattle.kit_documents.specs.declared.field.CaseField.TheVariants as of_case
use Rattle.document_values.specs.Demands.{AllMet, IsFirstUnmet}
use Rattle.document_values.specs.Values.{are_known, members_in, named}
use Rattle.kit_documents.specs.Cases.{case_bits, case_fields, case_fields_demands, lists_demands, tester_demands, in_case, NeedsAll}
use Rattle.kit_documents.proofs.CaseParts.{fields-met, lists-unmet, needs-unmet, field_number-is, tester-unmet}
use Rattle.kit_documents.proofs.OneNeeds.{needs-all}
use Rattle.kit_documents.proofs.cases.case.read_fields.Goals as goal

pub returns-in_err-levels-clause-unmet : goal.returns-in_err-levels-clause-unmet
returns-in_err-levels-clause-unmet c = λ wrong is.
    let d = table (table_view c.args.fields.now) in
    let known : are_known case_fields (members_in d) ≡ true = search rules in
    let here : IsFirstUnmet wrong (tester_demands c.args.number d) = search rules in
    tester-unmet (map view c.args.earlier.now.tables.now) c.args.number d known c.in_ok-name.ensures.met c.in_ok-head.ensures.met wrong here

pub returns-in_err-lists-clause-unmet : goal.returns-in_err-lists-clause-unmet
returns-in_err-lists-clause-unmet c = λ wrong is.
    let d = table (table_view c.args.fields.now) in
    let known : are_known case_fields (members_in d) ≡ true = search rules in
    let bits : c.in_ok-head.head.bits ≡ case_bits d = field_number-is (named (codes "bits") d) c.in_ok-head.head.bits c.in_ok-head.ensures.bits in
    let here : IsFirstUnmet wrong (lists_demands c.args.number c.in_ok-head.head.bits d) = search rules in
    lists-unmet (map view c.args.earlier.now.tables.now) c.args.number d known c.in_ok-name.ensures.met c.in_ok-head.ensures.met wrong c.in_ok-levels.ensures.met
    (subst (λ (n : ℕ). IsFirstUnmet wrong (lists_demands c.args.number n d)) bits here)

pub returns-then-not-has_all-clause-unmet : goal.returns-then-not-has_all-clause-unmet
returns-then-not-has_all-clause-unmet c = λ wrong is.
    let d = table (table_view c.args.fields.now) in
    let known : are_known case_fields (members_in d) ≡ true = search rules in
    let bits : c.in_ok-head.head.bits ≡ case_bits d = field_number-is (named (codes "bits") d) c.in_ok-head.head.bits c.in_ok-head.ensures.bits in
    let lists = subst (λ (n : ℕ). AllMet (lists_demands c.args.number n d)) bits c.in_ok-lists.ensures.met in
    let none : NeedsAll d c.in_ok-head.head.needs → ⊥ = search rules in
    let same : in_case c.args.number of_case.Needs ≡ wrong = cc in
    subst (λ (w : KitField). IsFirstUnmet w (case_fields_demands (map view c.args.earlier.now.tables.now) c.args.number d)) same
    (needs-unmet (map view c.args.earlier.now.tables.now) c.args.number d known c.in_ok-name.ensures.met c.in_ok-head.ensures.met c.in_ok-levels.ensures.met lists
    (λ needs all. none (needs-all d c.in_ok-head.head.needs needs c.in_ok-head.ensures.needs all)))

pub returns-clause-met : goal.returns-clause-met
returns-clause-met c =
    let d = table (table_view c.args.fields.now) in
    let known : are_known case_fields (members_in d) ≡ true = search rules in
    let bits : c.in_ok-head.head.bits ≡ case_bits d = field_number-is (named (codes "bits") d) c.in_ok-head.head.bits c.in_ok-head.ensures.bits in
    let lists = subst (λ (n : ℕ). AllMet (lists_demands c.args.number n d)) bits c.in_ok-lists.ensures.met in
    let all : NeedsAll d c.in_ok-head.head.needs = search rules in
    fields-met (map view c.args.earlier.now.tables.now) c.args.number d known c.in_ok-name.ensures.met c.in_ok-head.ensures.met c.in_ok-head.head.needs c.in_ok-levels.ensures.met lists all
