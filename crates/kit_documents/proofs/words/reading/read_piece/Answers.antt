use Rattle.std.proofs.Common.{◌≡◌, ◌-◌, ◌++◌, ap, ◌∙◌, min, length, replicate, arith}
use Rattle.kit_documents.proofs.ReadPieces.{no-piece}
use Rattle.kit_documents.proofs.ReadTexts.{run-said}
use Rattle.kit_documents.proofs.words.reading.read_piece.Goals as goal

pub returns-in_default-clause-none : goal.returns-in_default-clause-none
returns-in_default-clause-none c = no-piece c.read_digits.result c.args.piece.now c.as_bytes.result.now c.as_bytes.ensures.value c.in_default.ensures c.read_digits.ensures.none

pub returns-clause-said : goal.returns-clause-said
returns-clause-said c =
    let is : c.loop.counter ≡ min (c.args.most - length c.args.levels.now.items) c.in-Some.count = omega arith in
    let kept = ap (λ n. c.args.levels.now.items ++ replicate n c.in-Some.level) is in
    λ said. run-said c.args.piece.now c.args.most c.args.levels.now.items c.loop.levels.items c.in-Some.level c.in-Some.count c.requires (c.loop.invariant ∙ kept) c.in-Some.ensures
