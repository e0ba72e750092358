use Rattle.std.proofs.Common.{◌≡◌, ◌<◌, ◌+◌, List, ◌∷◌, Some, drop, length, ap, refl, subst, sym, ◌∙◌}
use Rattle.std.specs.List.{slice_get}
use Rattle.std.proofs.lemmas.List.{drop_more}
use Rattle.std.proofs.lemmas.List.Elements.{All-get_or}
use Rattle.std.proofs.lemmas.Option.{slice_get_read}
use Rattle.kit_documents.specs.declared.transcripts.told.Told.{Told}
use Rattle.canhold_commands.specs.Judgements.{lines_with, AddVerdicts}
use Rattle.canhold_commands.proofs.CountedVerdicts.{counted-within}
use Rattle.canhold_commands.proofs.judging.push_verdicts.Goals as goal

pub loop-told-preserved : goal.loop-told-preserved
loop-told-preserved c =
    let cases = c.args.cases.now in
    let transcripts = c.args.transcripts.now in
    let place = c.loop-told.told-index in
    let told = c.told-item.result in
    let within : told.case < length cases =
    subst (λ (one : Told). one.case < length cases) (sym c.told-item.is) (All-get_or (λ one. one.case < length cases) transcripts place told c.loop-told-test.true c.requires.known) in
    let is : slice_get cases told.case ≡ Some c.index-cases-told.result = slice_get_read cases (length cases) told.case c.index-cases-told.result refl within c.index-cases-told.is in
    let from : drop place transcripts ≡ told ∷ drop (place + 1) transcripts =
    drop_more transcripts place told c.loop-told-test.true ∙ ap (λ (v : Told). v ∷ drop (place + 1) transcripts) (sym c.told-item.is) in
    let counts = counted-within place c.loop-told.tally c.in_ok-tally.tally c.in_ok-tally.ensures.verdict c.in_ok-tally.ensures.count (c.loop-told.invariant.1, c.loop-told.invariant.2) in (
      λ after later. c.loop-told.invariant.0 after
          (subst (λ (rest : List Told). AddVerdicts cases rest (lines_with c.loop-told.out.items c.loop-told.tally) after) (sym from)
          (c.index-cases-told.result, is, lines_with c.push_one.new.out.items c.in_ok-tally.tally, c.in_ok-tally.ensures, later)),
      counts.0,
      counts.1,
    )
