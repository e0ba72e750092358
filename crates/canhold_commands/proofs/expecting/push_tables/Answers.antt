use Rattle.std.proofs.Common.{◌≡◌, ◌+◌, List, ◌∷◌, drop, ap, subst, sym, ◌∙◌, rules}
use Rattle.std.proofs.lemmas.List.{drop_more}
use Rattle.kit_documents.specs.declared.cases.case.Case.{Case}
use Rattle.canhold_commands.specs.Expectations.{AddTables, AddsTable}
use Rattle.canhold_commands.proofs.expecting.push_tables.Goals as goal

pub loop-case-preserved : goal.loop-case-preserved
loop-case-preserved c = λ after later.
    let cases = c.args.cases.now in
    let place = c.loop-case.case-index in
    let one : AddsTable c.case-item.result c.loop-case.out.items c.push_transcript.new.out.items = record { told = c.in_ok-told.told; all_told = c.in_ok-told.ensures; text = search rules } in
    let from : drop place cases ≡ c.case-item.result ∷ drop (place + 1) cases =
    drop_more cases place c.case-item.result c.loop-case-test.true ∙ ap (λ (v : Case). v ∷ drop (place + 1) cases) (sym c.case-item.is) in
    c.loop-case.invariant after (subst (λ (rest : List Case). AddTables rest c.loop-case.out.items after) (sym from) (c.push_transcript.new.out.items, one, later))
