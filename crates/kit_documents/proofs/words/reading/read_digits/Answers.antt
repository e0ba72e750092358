use Rattle.std.proofs.Common.{◌≡◌, ◌++◌, [], ◌∷◌, ap, ◌∙◌, arith}
use Rattle.kit_documents.proofs.ReadPieces.{read-none, read-more, read-other, read-past, read-all}
use Rattle.kit_documents.proofs.words.reading.read_digits.Goals.{then-len-most+in_ok-push, else-len-most}
use Rattle.kit_documents.proofs.words.reading.read_digits.Goals as goal

pub returns-in_default-clause-none : goal.returns-in_default-clause-none
returns-in_default-clause-none c = λ said read is. read-other c.args.digits.now c.loop-digit.digit-index c.loop-digit-test.true c.in_default.ensures read is

pub loop-digit-init : goal.loop-digit-init
loop-digit-init c = read-none c.args.digits.now c.args.most c.args.levels.now.items c.requires

pub loop-digit-preserved : goal.loop-digit-preserved
loop-digit-preserved c = elim c.if-len-most.branch [
  | then-len-most+in_ok-push w ↦
      let same : c.if-len-most.levels.items ≡ c.loop-digit.levels.items ++ c.in-Some.level ∷ [] = ap (λ v. v.items) w.levels-is ∙ w.in_ok-push.ensures.items in
      rw same (read-more c.args.digits.now c.loop-digit.digit-index c.args.most c.args.levels.now.items c.loop-digit.levels.items c.in-Some.level c.loop-digit-test.true c.in-Some.ensures (omega arith) c.loop-digit.invariant)
  | else-len-most w ↦
      let same : c.if-len-most.levels.items ≡ c.loop-digit.levels.items = ap (λ v. v.items) w.levels-is in
      rw same (read-past c.args.digits.now c.loop-digit.digit-index c.args.most c.args.levels.now.items c.loop-digit.levels.items c.in-Some.level c.loop-digit-test.true c.in-Some.ensures (omega arith) c.loop-digit.invariant)
]

pub returns-clause-said : goal.returns-clause-said
returns-clause-said c = λ said. read-all c.args.digits.now c.loop-digit.digit-index c.args.most c.args.levels.now.items c.loop-digit.levels.items (omega arith) c.loop-digit.invariant
