use Rattle.std.proofs.Common.{Err, ap}
use Rattle.std.proofs.lemmas.List.{take_rest}
use Rattle.can_texts.specs.declared.lines.vector.BadLine.TheVariants.{Byte}
use Rattle.can_texts.proofs.VectorLemmas.{IsVectorVerdict-read, IsBadLevelByte-good, IsBadLevelByte-read, IsBadLevelByte-only, IsBadVectorLine-unbroken}
use Rattle.can_texts.proofs.lines.vector.judge.Goals as goal

pub returns-in-Ok-judge_digits-clause-ok : goal.returns-in-Ok-judge_digits-clause-ok
returns-in-Ok-judge_digits-clause-ok c =
    let line = c.args.line.now in
    let opening = c.in-Ok.opening in
    let compares = rw (take_rest line opening.start) at c.in-Ok-judge_digits.ensures.ok in
    IsVectorVerdict-read line opening.frame opening.start c.in-Ok.ensures.frame c.in-Ok.ensures.text c.in-Ok-judge_digits.verdict compares

pub returns-in-Ok-judge_digits-clause-byte : goal.returns-in-Ok-judge_digits-clause-byte
returns-in-Ok-judge_digits-clause-byte c place bad =
    let line = c.args.line.now in
    let opening = c.in-Ok.opening in
    let compares = rw (take_rest line opening.start) at c.in-Ok-judge_digits.ensures.ok in
    absurd (IsBadLevelByte-good line opening.frame opening.start c.in-Ok.ensures.frame c.in-Ok.ensures.text compares.levels place compares.are_levels bad)

pub returns-in-Err-judge_digits-clause-err : goal.returns-in-Err-judge_digits-clause-err
returns-in-Err-judge_digits-clause-err c =
    let line = c.args.line.now in
    let opening = c.in-Ok.opening in
    let bad = rw (take_rest line opening.start) at c.in-Err-judge_digits.ensures.err in
    IsBadLevelByte-read line opening.frame opening.start c.in-Ok.ensures.frame c.in-Ok.ensures.text c.in-Ok.ensures.within c.in-Err-judge_digits.place bad

pub returns-in-Err-judge_digits-clause-byte : goal.returns-in-Err-judge_digits-clause-byte
returns-in-Err-judge_digits-clause-byte c place at =
    let line = c.args.line.now in
    let opening = c.in-Ok.opening in
    let bad = rw (take_rest line opening.start) at c.in-Err-judge_digits.ensures.err in
    ap (λ n. Err (Byte n)) (IsBadLevelByte-only line opening.frame opening.start c.in-Ok.ensures.frame c.in-Ok.ensures.text c.in-Ok.ensures.within c.in-Err-judge_digits.place place bad at)

pub returns-in-Err-clause-byte : goal.returns-in-Err-clause-byte
returns-in-Err-clause-byte c place bad = absurd (IsBadVectorLine-unbroken c.args.line.now c.in-Err.fault place c.in-Err.ensures.err bad)
