use Rattle.std.proofs.Common.{◌≡◌, ◌≢◌, ◌+◌, ℕ, List, ap, length, map, subst, arith, rules}
use Rattle.std.proofs.lemmas.List.{length-take}
use Rattle.toml.specs.Data.{Data, table}
use Rattle.toml.specs.View.{table_view, view}
use Rattle.kit_documents.specs.declared.field.KitField.{KitField}
use Rattle.kit_documents.specs.declared.field.CaseField.TheVariants as of_case
use Rattle.document_values.specs.Demands.{AllMet, IsFirstUnmet}
use Rattle.kit_documents.specs.Cases.{tester_demands, in_case}
use Rattle.kit_documents.specs.Lists.{strings_demands, SayStrings}
use Rattle.kit_documents.proofs.LevelStrings.{all-said}
use Rattle.kit_documents.proofs.TesterParts.{tester-long, tester-met, tester-strings}
use Rattle.kit_documents.proofs.cases.tester.read_tester.Goals as goal

pub returns-in-Err-At-clause-unmet : goal.returns-in-Err-At-clause-unmet
returns-in-Err-At-clause-unmet c = λ wrong is.
    let d = table (table_view c.args.fields.now) in
    let fields = λ (place : ℕ). in_case c.args.number (of_case.Levels place) in
    let same : in_case c.args.number (of_case.Levels c.in-Err-At.place) ≡ wrong = cc in
    let here : IsFirstUnmet (in_case c.args.number (of_case.Levels c.in-Err-At.place)) (strings_demands fields (map view c.in-Some.values.now)) = c.in-Err-At.ensures.unmet fields c.in-Err-At.place (search rules) in
    subst (λ (w : KitField). IsFirstUnmet w (tester_demands c.args.number d)) same
    (tester-strings c.args.number d c.in-Some.ensures.met (in_case c.args.number (of_case.Levels c.in-Err-At.place))
    (subst (λ (ds : List Data). IsFirstUnmet (in_case c.args.number (of_case.Levels c.in-Err-At.place)) (strings_demands fields ds)) c.in-Some.ensures.said here))

pub returns-then-len-bits-clause-unmet : goal.returns-then-len-bits-clause-unmet
returns-then-len-bits-clause-unmet c = λ wrong is.
    let d = table (table_view c.args.fields.now) in
    let fields = λ (place : ℕ). in_case c.args.number (of_case.Levels place) in
    let same : in_case c.args.number of_case.Tester ≡ wrong = cc in
    let said = c.in-Ok.ensures.said in
    let other : length c.in-Ok.levels.items ≢ c.args.bits = omega arith in
    let long : length said.0 ≢ c.args.bits = λ same. other (omega (arith, same, ap length said.2, length-take (c.args.bits + 1) said.0)) in
    subst (λ (w : KitField). IsFirstUnmet w (tester_demands c.args.number d)) same
    (tester-long c.args.number d c.in-Some.ensures.met said.0 c.args.bits
    (subst (λ (ds : List Data). AllMet (strings_demands fields ds)) c.in-Some.ensures.said (c.in-Ok.ensures.met fields))
    (subst (λ (ds : List Data). SayStrings ds said.0) c.in-Some.ensures.said said.1) c.requires long)

pub returns-clause-met : goal.returns-clause-met
returns-clause-met c =
    let d = table (table_view c.args.fields.now) in
    let fields = λ (place : ℕ). in_case c.args.number (of_case.Levels place) in
    let long : length c.in-Ok.levels.items ≡ c.args.bits = omega arith in
    tester-met c.args.number d c.in-Some.ensures.met c.in-Ok.levels.items c.args.bits
    (subst (λ (ds : List Data). AllMet (strings_demands fields ds)) c.in-Some.ensures.said (c.in-Ok.ensures.met fields))
    (subst (λ (ds : List Data). SayStrings ds c.in-Ok.levels.items) c.in-Some.ensures.said (all-said (map view c.in-Some.values.now) (c.args.bits + 1) c.in-Ok.levels.items (omega arith) c.in-Ok.ensures.said)) c.requires long

pub returns-clause-said : goal.returns-clause-said
returns-clause-said c =
    subst (λ (ds : List Data). SayStrings ds c.in-Ok.levels.items) c.in-Some.ensures.said (all-said (map view c.in-Some.values.now) (c.args.bits + 1) c.in-Ok.levels.items (omega arith) c.in-Ok.ensures.said)
