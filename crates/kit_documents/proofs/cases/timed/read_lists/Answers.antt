use Rattle.std.proofs.Common.{ℕ, ◌<◌, All, List, ap, codes, length, subst, sym, ◌∙◌, rules}
use Rattle.toml.specs.Data.{table}
use Rattle.toml.specs.View.{table_view}
use Rattle.kit_documents.specs.declared.field.CaseField.TheVariants as of_case
use Rattle.document_values.specs.Demands.{demands_on_each, IsFirstUnmet}
use Rattle.document_values.specs.Values.{elements_in, named, ArePaired}
use Rattle.kit_documents.specs.declared.cases.lists.CaseList.TheVariants.{Offers, Holds, Forced}
use Rattle.kit_documents.specs.Cases.{forced_demands, strings_of, in_case}
use Rattle.kit_documents.specs.Lists.{case_list_demands, SaysHold, SaysOffer, SaysTime}
use Rattle.kit_documents.proofs.CaseParts.{forced-unmet, holds-unmet, lists-met, offers-unmet, times-unmet}
use Rattle.kit_documents.proofs.ForcedTimes.{length-tester, times-below}
use Rattle.kit_documents.proofs.cases.timed.read_lists.Goals as goal

pub returns-in_err-offers-clause-unmet : goal.returns-in_err-offers-clause-unmet
returns-in_err-offers-clause-unmet c = λ wrong is.
    let d = table (table_view c.args.fields.now) in
    let here : IsFirstUnmet wrong (case_list_demands Offers SaysOffer c.args.number c.args.bits d) = search rules in
    offers-unmet c.args.number c.args.bits d wrong here

pub returns-in_err-holds-clause-unmet : goal.returns-in_err-holds-clause-unmet
returns-in_err-holds-clause-unmet c = λ wrong is.
    let d = table (table_view c.args.fields.now) in
    let here : IsFirstUnmet wrong (case_list_demands Holds SaysHold c.args.number c.args.bits d) = search rules in
    holds-unmet c.args.number c.args.bits d wrong c.in_ok-offers.ensures.met here

pub returns-in_err-times-clause-unmet : goal.returns-in_err-times-clause-unmet
returns-in_err-times-clause-unmet c = λ wrong is.
    let d = table (table_view c.args.fields.now) in
    let here : IsFirstUnmet wrong (case_list_demands Forced SaysTime c.args.number c.args.bits d) = search rules in
    times-unmet c.args.number c.args.bits d wrong c.in_ok-offers.ensures.met c.in_ok-holds.ensures.met here

pub read_forced-requires : goal.read_forced-requires
read_forced-requires c =
    let ds = elements_in (named (codes "forced") (table (table_view c.args.fields.now))) in
    let named = λ (place : ℕ). in_case c.args.number (of_case.ForcedTime place) in
    let below = times-below named c.args.bits 1 ds 0 ds c.in_ok-times.times.items c.in_ok-times.ensures.met.1 c.in_ok-times.ensures.said in
    subst (λ (n : ℕ). All (λ time. time < n) c.deref.result.now) (sym c.requires.long)
    (subst (λ (times : List ℕ). All (λ time. time < c.args.bits) times) (sym c.deref.ensures.value) below)

pub returns-in_err-tester-clause-unmet : goal.returns-in_err-tester-clause-unmet
returns-in_err-tester-clause-unmet c = λ wrong is.
    let d = table (table_view c.args.fields.now) in
    let ds = elements_in (named (codes "forced") d) in
    let pairs : ArePaired SaysTime ds c.deref.result.now = subst (ArePaired SaysTime ds) (sym c.deref.ensures.value) c.in_ok-times.ensures.said in
    let here : IsFirstUnmet wrong (demands_on_each (forced_demands c.args.number (strings_of d)) 0 ds) = c.in_err-tester.ensures.unmet (strings_of d) ds c.requires.strings pairs wrong (search rules) in
    forced-unmet c.args.number c.args.bits d wrong c.in_ok-offers.ensures.met c.in_ok-holds.ensures.met c.in_ok-times.ensures.met here

pub returns-clause-long : goal.returns-clause-long
returns-clause-long c = ap length c.in_ok-tester.ensures.does ∙ (length-tester c.deref.result.now c.args.levels.now ∙ c.requires.long)

pub returns-clause-met : goal.returns-clause-met
returns-clause-met c =
    let d = table (table_view c.args.fields.now) in
    let ds = elements_in (named (codes "forced") d) in
    let pairs : ArePaired SaysTime ds c.deref.result.now = subst (ArePaired SaysTime ds) (sym c.deref.ensures.value) c.in_ok-times.ensures.said in
    lists-met c.args.number c.args.bits d c.in_ok-offers.ensures.met c.in_ok-holds.ensures.met c.in_ok-times.ensures.met (c.in_ok-tester.ensures.met (strings_of d) ds c.requires.strings pairs)
