use Rattle.std.proofs.Common.{◌≡◌, ◌+◌, ◌<◌, ◌≤◌, ℕ, List, ap, length, map, subst, arith, rules}
use Rattle.std.proofs.lemmas.List.{length-take}
use Rattle.toml.specs.Data.{Data, table}
use Rattle.toml.specs.View.{table_view, view}
use Rattle.kit_documents.specs.declared.field.KitField.{KitField}
use Rattle.kit_documents.specs.declared.field.TranscriptField.TheVariants as of_transcript
use Rattle.document_values.specs.Demands.{AllMet, IsFirstUnmet}
use Rattle.kit_documents.specs.Lists.{strings_demands, SayStrings}
use Rattle.kit_documents.proofs.LevelStrings.{all-said}
use Rattle.kit_documents.specs.Transcripts.{drove_demands, most_levels, in_transcript}
use Rattle.kit_documents.proofs.DroveParts.{drove-many, drove-met, drove-strings}
use Rattle.kit_documents.proofs.transcripts.drove.read_drove.Goals as goal

pub returns-in-Err-At-clause-unmet : goal.returns-in-Err-At-clause-unmet
returns-in-Err-At-clause-unmet c = λ wrong is.
    let d = table (table_view c.args.fields.now) in
    let fields = λ (place : ℕ). in_transcript c.args.number (of_transcript.Levels place) in
    let same : in_transcript c.args.number (of_transcript.Levels c.in-Err-At.place) ≡ wrong = cc in
    let here : IsFirstUnmet (in_transcript c.args.number (of_transcript.Levels c.in-Err-At.place)) (strings_demands fields (map view c.in-Some.values.now)) = c.in-Err-At.ensures.unmet fields c.in-Err-At.place (search rules) in
    subst (λ (w : KitField). IsFirstUnmet w (drove_demands c.args.number d)) same
    (drove-strings c.args.number d c.in-Some.ensures.met (in_transcript c.args.number (of_transcript.Levels c.in-Err-At.place))
    (subst (λ (ds : List Data). IsFirstUnmet (in_transcript c.args.number (of_transcript.Levels c.in-Err-At.place)) (strings_demands fields ds)) c.in-Some.ensures.said here))

pub returns-then-len-gt-MOST_LEVELS-clause-unmet : goal.returns-then-len-gt-MOST_LEVELS-clause-unmet
returns-then-len-gt-MOST_LEVELS-clause-unmet c = λ wrong is.
    let d = table (table_view c.args.fields.now) in
    let fields = λ (place : ℕ). in_transcript c.args.number (of_transcript.Levels place) in
    let same : in_transcript c.args.number of_transcript.Drove ≡ wrong = cc in
    let said = c.in-Ok.ensures.said in
    let many : most_levels < length said.0 = omega (arith, ap length said.2, length-take (most_levels + 1) said.0) in
    subst (λ (w : KitField). IsFirstUnmet w (drove_demands c.args.number d)) same
    (drove-many c.args.number d c.in-Some.ensures.met said.0
    (subst (λ (ds : List Data). AllMet (strings_demands fields ds)) c.in-Some.ensures.said (c.in-Ok.ensures.met fields))
    (subst (λ (ds : List Data). SayStrings ds said.0) c.in-Some.ensures.said said.1) many)

pub returns-clause-met : goal.returns-clause-met
returns-clause-met c =
    let d = table (table_view c.args.fields.now) in
    let fields = λ (place : ℕ). in_transcript c.args.number (of_transcript.Levels place) in
    let few : length c.in-Ok.levels.items ≤ most_levels = omega arith in
    drove-met c.args.number d c.in-Some.ensures.met c.in-Ok.levels.items
    (subst (λ (ds : List Data). AllMet (strings_demands fields ds)) c.in-Some.ensures.said (c.in-Ok.ensures.met fields))
    (subst (λ (ds : List Data). SayStrings ds c.in-Ok.levels.items) c.in-Some.ensures.said (all-said (map view c.in-Some.values.now) (most_levels + 1) c.in-Ok.levels.items (omega arith) c.in-Ok.ensures.said)) few

pub returns-clause-said : goal.returns-clause-said
returns-clause-said c =
    subst (λ (ds : List Data). SayStrings ds c.in-Ok.levels.items) c.in-Some.ensures.said (all-said (map view c.in-Some.values.now) (most_levels + 1) c.in-Ok.levels.items (omega arith) c.in-Ok.ensures.said)
