use Rattle.std.proofs.Common.{◌<◌, length, map, ap, ◌∙◌, arith}
use Rattle.std.proofs.lemmas.Bool.Decides.{nat_tests}
use Rattle.std.proofs.lemmas.List.{length-map}
use Rattle.toml.specs.View.{view}
use Rattle.kit_documents.specs.declared.cases.words.Needs.{Needs}
use Rattle.kit_documents.proofs.WordLists.{needs-none, AreTaken}
use Rattle.kit_documents.proofs.cases.words.needs_in.Goals as goal

pub returns-then-not-is_empty : goal.returns-then-not-is_empty
returns-then-not-is_empty c = λ said says.
    let needs : Needs = record { forced = c.take_word-forced.result.0; hold = c.take_word-hold.result.0; queue = c.take_word-queue.result.0; recovery = c.take_word-recovery.result.0 } in
    let taken : AreTaken (map view c.in_ok-words.words.now) needs (map view c.take_word-recovery.result.1.now) = record {
      behind_forced = map view c.take_word-forced.result.1.now;
      behind_hold = map view c.take_word-hold.result.1.now;
      behind_queue = map view c.take_word-queue.result.1.now;
      forced = c.take_word-forced.ensures;
      hold = c.take_word-hold.ensures;
      queue = c.take_word-queue.ensures;
      recovery = c.take_word-recovery.ensures;
    } in
    let long : 0 < length c.take_word-recovery.result.1.now = grind (arith, nat_tests) in
    needs-none (map view c.in_ok-words.words.now) needs (map view c.take_word-recovery.result.1.now) taken
    (λ none. omega (arith, long, ap length none, length-map c.take_word-recovery.result.1.now view)) said (c.in_ok-words.ensures.said ∙ says.said)
