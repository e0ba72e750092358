use Rattle.std.proofs.Common.{◌≡◌, ℕ, List, ◌++◌, true, false, [], ◌∙◌, take, Ok, sym, ap, arith}
use Rattle.std.proofs.lemmas.Result.{err_from_is_err_and}
use Rattle.can_texts.specs.Coded.{Codes}
use Rattle.can_texts.proofs.Codings.{Codes-none}
use Rattle.can_texts.proofs.Answering.{AtLine, AtLine-flushed, Answering-none, AtLine-read, Answering-answered, EncodesLine-front, FailsToAnswer-front, empty_from_front, open_from_front, whole_lines-ended, lines_of-last, number_below-ended, number_below-last}
use Rattle.can_texts.proofs.Endings.{Told-unread, Told-unanswered, Told-done, Told-answered}
use Rattle.can_stream.proofs.Turns.{PassesOn-flushed}
use Rattle.can_texts.proofs.lines.encode.answer_lines.Given.{Over}
use Rattle.can_texts.proofs.lines.encode.answer_lines.Goals.{Then-branch, Else-branch}
use Rattle.can_texts.proofs.lines.encode.answer_lines.Goals as goal

-- the line whose end was found
ended_line : (g : Over) (c : Then-branch g) → (line : List ℕ) × (c.next_line.new.self.line.items ≡ take 33 line)
    × AtLine Codes (g.R.Source.remaining c.args.r.now) (g.R.Source.remaining c.next_line.new.source) (g.W.Sink.contents c.args.w.now) (g.W.Sink.contents c.next_line.new.sink)
    true line c.next_line.new.self.inbox.unread c.next_line.new.out c.next_line.new.self.inbox.taken c.loop-number.number
ended_line g c =
    let reads = rw c.if-branch.true at c.in_ok-next_line.ensures.reads in
    let passes = PassesOn-flushed _ _ _ _ _ c.in_ok-next_line.ensures.write_failed c.in_ok-next_line.ensures.flushed in
    let at = AtLine-read Codes _ _ _ _ _ true 33 c.loop-number.lines c.next_line.new.self c.loop-number.out c.loop-number.number c.loop-number.invariant.answering reads in
    (reads.line, reads.keeps, AtLine-flushed Codes _ _ _ _ _ true reads.line _ _ _ _ _ at passes)

-- what came of the last line when the reader ended
last_line : (g : Over) (c : Else-branch g) → (line : List ℕ) × (c.next_line.new.self.line.items ≡ take 33 line)
    × AtLine Codes (g.R.Source.remaining c.args.r.now) (g.R.Source.remaining c.next_line.new.source) (g.W.Sink.contents c.args.w.now) (g.W.Sink.contents c.next_line.new.sink)
    false line c.next_line.new.self.inbox.unread c.next_line.new.out c.next_line.new.self.inbox.taken c.loop-number.number
last_line g c =
    let reads = rw c.if-branch.false at c.in_ok-next_line.ensures.reads in
    let passes = PassesOn-flushed _ _ _ _ _ c.in_ok-next_line.ensures.write_failed c.in_ok-next_line.ensures.flushed in
    let at = AtLine-read Codes _ _ _ _ _ false 33 c.loop-number.lines c.next_line.new.self c.loop-number.out c.loop-number.number c.loop-number.invariant.answering reads in
    (reads.line, reads.keeps, AtLine-flushed Codes _ _ _ _ _ false reads.line _ _ _ _ _ at passes)

pub loop-number-init : goal.loop-number-init
loop-number-init g c = record {
  answering = rw (c.new-lines.ensures.inbox, c.requires.empty) (Answering-none Codes _ _ Codes-none);
  reader_unfailed = c.requires.reader_unfailed;
  reader_unended = c.requires.reader_unended;
  writer_unfailed = c.requires.writer_unfailed;
  fits = rw c.new-lines.ensures.inbox (omega arith);
}

pub returns-in_err-next_line-clause-told : goal.returns-in_err-next_line-clause-told
returns-in_err-next_line-clause-told g c =
    let p = err_from_is_err_and c.from_residual.result c.from_residual.ensures.1 in
    let at = AtLine-read Codes _ _ _ _ _ false 33 c.loop-number.lines c.next_line.new.self c.loop-number.out c.loop-number.number c.loop-number.invariant.answering c.in_err-next_line.ensures.reads in
    let stops = c.in_err-next_line.ensures in
    rw (p.1, p.2) (Told-unread _ _ _ _ _ _ _ _ _ _ _ _ _ at _ _ (g.R.Source.has_ended c.next_line.new.source) _ stops.unended stops.write_failed stops.err stops.flushed)

pub overflow_add-number : goal.overflow_add-number
overflow_add-number g c = let at = (ended_line g c).2 in omega (arith, number_below-ended Codes _ _ _ _ _ _ _ _ _ at, c.in_ok-next_line.ensures.fits)

pub loop-number-preserved : goal.loop-number-preserved
loop-number-preserved g c =
    let read = ended_line g (goal.at.loop-number-preserved g c).Then-branch in
    let answers = rw (c.line.ensures, read.1) at c.in_ok-answer_line.ensures.ok in
    record {
      answering = Answering-answered _ _ _ _ _ read.0 _ _ _ _ _ read.2 (EncodesLine-front read.0 _ _ _ _ answers);
      reader_unfailed = c.in_ok-next_line.ensures.unfailed;
      reader_unended = rw c.if-branch.true at c.in_ok-next_line.ensures.ended;
      writer_unfailed = c.in_ok-answer_line.ensures.failed;
      fits = c.in_ok-next_line.ensures.fits;
    }

pub returns-in_err-answer_line-clause-told : goal.returns-in_err-answer_line-clause-told
returns-in_err-answer_line-clause-told g c =
    let read = ended_line g (goal.at.returns-in_err-answer_line-clause-told g c).Then-branch in
    let ended = g.R.Source.has_ended c.next_line.new.source in
    let fails = rw (c.line.ensures, read.1) at c.in_err-answer_line.ensures.err in
    let p = err_from_is_err_and c.from_residual-in_err-answer_line.result c.from_residual-in_err-answer_line.ensures.1 in
    rw (p.1, p.2) (Told-unanswered _ _ _ _ _ _ read.0 _ _ _ _ true ended _ _ _ _ read.2 (whole_lines-ended ended read.2) (FailsToAnswer-front _ _ read.0 _ _ _ _ fails))

pub overflow_add-number-then-not-is_empty : goal.overflow_add-number-then-not-is_empty
overflow_add-number-then-not-is_empty g c =
    let read = last_line g (goal.at.overflow_add-number-then-not-is_empty g c).Else-branch in
    let some = rw (c.line-last.ensures, read.1) at (sym c.is_empty.ensures ∙ c.if-not-is_empty.true) in
    omega (arith, number_below-last Codes _ _ _ _ _ _ _ _ _ 33 read.2 some, c.in_ok-next_line.ensures.fits)

pub returns-in_err-answer_line-2-clause-told : goal.returns-in_err-answer_line-2-clause-told
returns-in_err-answer_line-2-clause-told g c =
    let read = last_line g (goal.at.returns-in_err-answer_line-2-clause-told g c).Else-branch in
    let some = rw (c.line-last.ensures, read.1) at (sym c.is_empty.ensures ∙ c.if-not-is_empty.true) in
    let ended = rw c.if-branch.false at c.in_ok-next_line.ensures.ended in
    let fails = rw (c.line-last.ensures, read.1) at c.in_err-answer_line-2.ensures.err in
    let p = err_from_is_err_and c.from_residual-in_err-answer_line-2.result c.from_residual-in_err-answer_line-2.ensures.1 in
    rw (p.1, p.2, ended) (Told-unanswered _ _ _ _ _ _ read.0 _ _ _ _ false true [] _ _ _ read.2 (lines_of-last read.2 ∙ ap (λ ls. read.2.lines ++ ls) (open_from_front 33 read.0 some)) (FailsToAnswer-front _ _ read.0 _ _ _ _ fails))

pub returns-in_ok-answer_line-2-clause-told : goal.returns-in_ok-answer_line-2-clause-told
returns-in_ok-answer_line-2-clause-told g c =
    let read = last_line g (goal.at.returns-in_ok-answer_line-2-clause-told g c).Else-branch in
    let some = rw (c.line-last.ensures, read.1) at (sym c.is_empty.ensures ∙ c.if-not-is_empty.true) in
    let within = c.in_ok-next_line.ensures.within (ap Ok c.if-branch.false) in
    let answers = rw (c.line-last.ensures, read.1) at c.in_ok-answer_line-2.ensures.ok in
    Told-answered _ _ _ _ _ _ read.0 _ _ _ _ true read.2 within _ _ (open_from_front 33 read.0 some) (EncodesLine-front read.0 _ _ _ _ answers)

pub returns-else-not-is_empty-clause-told : goal.returns-else-not-is_empty-clause-told
returns-else-not-is_empty-clause-told g c =
    let read = last_line g (goal.at.returns-else-not-is_empty-clause-told g c).Else-branch in
    let none = rw (c.line-last.ensures, read.1) at (sym c.is_empty.ensures ∙ c.if-not-is_empty.false) in
    let within = c.in_ok-next_line.ensures.within (ap Ok c.if-branch.false) in
    Told-done _ _ _ _ _ _ read.0 _ _ _ _ true read.2 within (empty_from_front 33 read.0 (omega arith) none)
