use Rattle.std.proofs.Common.{◌≡◌, ℕ, List, ◌+◌, ◌++◌, ◌∷◌, length, true, false, [], ◌∙◌, take, Ok, sym, ap, arith, refl}
use Rattle.std.proofs.lemmas.Result.{err_from_is_err_and}
use Rattle.can_texts.proofs.Answering.{AtLine, AtLine-flushed, Answering-none, Answering-more, AtLine-read, empty_from_front, open_from_front, whole_lines-ended, lines_of-last, number_below-ended, number_below-last}
use Rattle.can_texts.proofs.CheckSteps.{Passing, Checks-none, Checks-answered, behind_start, line_fits, start_is, unread_within}
use Rattle.can_texts.proofs.CheckEndings.{Told-unread, Told-unanswered, Told-done, Told-answered}
use Rattle.can_stream.proofs.Turns.{PassesOn-flushed}
use Rattle.can_texts.proofs.lines.check.check_each.Given.{Over}
use Rattle.can_texts.proofs.lines.check.check_each.Goals.{Then-branch, Else-branch}
use Rattle.can_texts.proofs.lines.check.check_each.Goals as goal

-- the line whose end was found, and that it begins at the start
ended_line : (g : Over) (c : Then-branch g) → (line : List ℕ) × (c.next_line.new.lines.line.items ≡ take 193 line)
    × AtLine (Passing c.loop-number.passed) (g.R.Source.remaining c.args.r.now) (g.R.Source.remaining c.next_line.new.source) (g.W.Sink.contents c.args.w.now) (g.W.Sink.contents c.next_line.new.w)
    true line c.next_line.new.lines.inbox.unread c.next_line.new.out c.next_line.new.lines.inbox.taken c.loop-number.number
    × (c.loop-number.start + length (line ++ 10 ∷ c.next_line.new.lines.inbox.unread) ≡ c.next_line.new.lines.inbox.taken)
ended_line g c =
    let reads = rw c.if-branch.true at c.in_ok-next_line.ensures.reads in
    let old = c.loop-number.lines in
    let new = c.next_line.new.lines in
    let passes = PassesOn-flushed _ _ _ _ _ c.in_ok-next_line.ensures.write_failed c.in_ok-next_line.ensures.flushed in
    let at = AtLine-read (Passing c.loop-number.passed) _ _ _ _ _ true 193 old new c.loop-number.out c.loop-number.number c.loop-number.invariant.answering reads in (
      reads.line,
      reads.keeps,
      AtLine-flushed (Passing c.loop-number.passed) _ _ _ _ _ true reads.line _ _ _ _ _ at passes,
      behind_start true _ _ old new c.loop-number.start reads c.loop-number.invariant.start_is,
    )

-- what came of the last line when the reader ended
last_line : (g : Over) (c : Else-branch g) → (line : List ℕ) × (c.next_line.new.lines.line.items ≡ take 193 line)
    × AtLine (Passing c.loop-number.passed) (g.R.Source.remaining c.args.r.now) (g.R.Source.remaining c.next_line.new.source) (g.W.Sink.contents c.args.w.now) (g.W.Sink.contents c.next_line.new.w)
    false line c.next_line.new.lines.inbox.unread c.next_line.new.out c.next_line.new.lines.inbox.taken c.loop-number.number
    × (c.loop-number.start + length (line ++ []) ≡ c.next_line.new.lines.inbox.taken)
last_line g c =
    let reads = rw c.if-branch.false at c.in_ok-next_line.ensures.reads in
    let old = c.loop-number.lines in
    let new = c.next_line.new.lines in
    let passes = PassesOn-flushed _ _ _ _ _ c.in_ok-next_line.ensures.write_failed c.in_ok-next_line.ensures.flushed in
    let at = AtLine-read (Passing c.loop-number.passed) _ _ _ _ _ false 193 old new c.loop-number.out c.loop-number.number c.loop-number.invariant.answering reads in (
      reads.line,
      reads.keeps,
      AtLine-flushed (Passing c.loop-number.passed) _ _ _ _ _ false reads.line _ _ _ _ _ at passes,
      behind_start false _ _ old new c.loop-number.start reads c.loop-number.invariant.start_is,
    )

pub loop-number-init : goal.loop-number-init
loop-number-init g c = record {
  answering = rw (c.new-lines.ensures.inbox, c.requires.empty) (Answering-none (Passing 0) _ _ Checks-none);
  start_is = rw c.new-lines.ensures.inbox refl;
  few = omega arith;
  reader_unfailed = c.requires.reader_unfailed;
  reader_unended = c.requires.reader_unended;
  writer_unfailed = c.requires.writer_unfailed;
  fits = rw c.new-lines.ensures.inbox (omega arith);
}

pub returns-in_err-next_line-clause-told : goal.returns-in_err-next_line-clause-told
returns-in_err-next_line-clause-told g c =
    let p = err_from_is_err_and c.from_residual.result c.from_residual.ensures.1 in
    let reads = c.in_err-next_line.ensures.reads in
    let old = c.loop-number.lines in
    let new = c.next_line.new.lines in
    let at = AtLine-read (Passing c.loop-number.passed) _ _ _ _ _ false 193 old new c.loop-number.out c.loop-number.number c.loop-number.invariant.answering reads in
    let behind = behind_start false _ _ old new c.loop-number.start reads c.loop-number.invariant.start_is in
    let stops = c.in_err-next_line.ensures in
    rw (p.1, p.2) (Told-unread _ _ _ _ _ _ _ _ _ _ _ _ _ _ _ at _ _ (g.R.Source.has_ended c.next_line.new.source) _ stops.unended stops.write_failed
    (start_is false _ _ _ _ _ _ _ _ _ _ _ at behind) (rw reads.keeps at stops.err) stops.flushed)

pub overflow_add-number : goal.overflow_add-number
overflow_add-number g c = let at = (ended_line g c).2 in omega (arith, number_below-ended _ _ _ _ _ _ _ _ _ _ at, c.in_ok-next_line.ensures.fits)

pub check_line-requires-clause-fits : goal.check_line-requires-clause-fits
check_line-requires-clause-fits g c =
    let read = ended_line g (goal.at.check_line-requires-clause-fits g c).Then-branch in
    rw (c.line.ensures, read.1) (line_fits read.0 (10 ∷ c.next_line.new.lines.inbox.unread) c.loop-number.start _ read.3 c.in_ok-next_line.ensures.fits)

pub returns-in_err-passed-clause-told : goal.returns-in_err-passed-clause-told
returns-in_err-passed-clause-told g c =
    let read = ended_line g (goal.at.returns-in_err-passed-clause-told g c).Then-branch in
    let ended = g.R.Source.has_ended c.next_line.new.source in
    let fails = rw (c.line.ensures, read.1) at c.in_err-passed.ensures.err in
    let p = err_from_is_err_and c.from_residual-in_err-passed.result c.from_residual-in_err-passed.ensures.1 in
    let begins = start_is true _ _ _ _ _ _ _ _ _ _ _ read.2 read.3 in
    rw (p.1, p.2) (Told-unanswered _ _ _ _ _ _ read.0 _ _ _ _ _ _ true ended _ _ _ _ _ read.2 (whole_lines-ended ended read.2) (whole_lines-ended true read.2) begins fails)

pub overflow_add-passed : goal.overflow_add-passed
overflow_add-passed g c =
    let at = (ended_line g (goal.at.overflow_add-passed g c).Then-branch).2 in
    omega (arith, number_below-ended _ _ _ _ _ _ _ _ _ _ at, c.in_ok-next_line.ensures.fits, c.loop-number.invariant.few, c.in_ok-passed.ensures.one)

pub place-start-requires : goal.place-start-requires
place-start-requires g c =
    let at = (ended_line g (goal.at.place-start-requires g c).Then-branch).2 in
    (omega arith, unread_within _ _ _ _ _ _ _ _ _ _ at)

pub loop-number-preserved : goal.loop-number-preserved
loop-number-preserved g c =
    let read = ended_line g (goal.at.loop-number-preserved g c).Then-branch in
    let at = read.2 in
    let judges = rw (c.line.ensures, read.1) at c.in_ok-passed.ensures.ok in
    let within = unread_within _ _ _ _ _ _ _ _ _ _ at in
    record {
      answering = Answering-more _ (Passing (c.loop-number.passed + c.in_ok-passed.field-0)) _ _ _ _ _ read.0 _ _ _ _ _ _ at judges.put (Checks-answered at.lines _ _ at.output read.0 _ _ _ _ at.answer judges);
      start_is = omega (arith, c.place-start.ensures, within);
      few = omega (arith, c.loop-number.invariant.few, c.in_ok-passed.ensures.one);
      reader_unfailed = c.in_ok-next_line.ensures.unfailed;
      reader_unended = rw c.if-branch.true at c.in_ok-next_line.ensures.ended;
      writer_unfailed = c.in_ok-passed.ensures.failed;
      fits = c.in_ok-next_line.ensures.fits;
    }

pub overflow_add-number-then-not-is_empty : goal.overflow_add-number-then-not-is_empty
overflow_add-number-then-not-is_empty g c =
    let read = last_line g (goal.at.overflow_add-number-then-not-is_empty g c).Else-branch in
    let some = rw (c.line-last.ensures, read.1) at (sym c.is_empty.ensures ∙ c.if-not-is_empty.true) in
    omega (arith, number_below-last _ _ _ _ _ _ _ _ _ _ 193 read.2 some, c.in_ok-next_line.ensures.fits)

pub returns-in_err-passed-2-clause-told : goal.returns-in_err-passed-2-clause-told
returns-in_err-passed-2-clause-told g c =
    let read = last_line g (goal.at.returns-in_err-passed-2-clause-told g c).Else-branch in
    let some = rw (c.line-last.ensures, read.1) at (sym c.is_empty.ensures ∙ c.if-not-is_empty.true) in
    let ended = rw c.if-branch.false at c.in_ok-next_line.ensures.ended in
    let fails = rw (c.line-last.ensures, read.1) at c.in_err-passed-2.ensures.err in
    let p = err_from_is_err_and c.from_residual-in_err-passed-2.result c.from_residual-in_err-passed-2.ensures.1 in
    let lines = lines_of-last read.2 ∙ ap (λ ls. read.2.lines ++ ls) (open_from_front 193 read.0 some) in
    let begins = start_is false _ _ _ _ _ _ _ _ _ _ _ read.2 read.3 in
    rw (p.1, p.2, ended) (Told-unanswered _ _ _ _ _ _ read.0 _ _ _ _ _ _ false true [] [] _ _ _ read.2 lines lines begins fails)

pub overflow_add-passed-then-not-is_empty : goal.overflow_add-passed-then-not-is_empty
overflow_add-passed-then-not-is_empty g c =
    let read = last_line g (goal.at.overflow_add-passed-then-not-is_empty g c).Else-branch in
    let some = rw (c.line-last.ensures, read.1) at (sym c.is_empty.ensures ∙ c.if-not-is_empty.true) in
    omega (arith, number_below-last _ _ _ _ _ _ _ _ _ _ 193 read.2 some, c.in_ok-next_line.ensures.fits, c.loop-number.invariant.few, c.in_ok-passed-2.ensures.one)

pub returns-in_ok-passed-2-clause-told : goal.returns-in_ok-passed-2-clause-told
returns-in_ok-passed-2-clause-told g c =
    let read = last_line g (goal.at.returns-in_ok-passed-2-clause-told g c).Else-branch in
    let some = rw (c.line-last.ensures, read.1) at (sym c.is_empty.ensures ∙ c.if-not-is_empty.true) in
    let within = c.in_ok-next_line.ensures.within (ap Ok c.if-branch.false) in
    let judges = rw (c.line-last.ensures, read.1) at c.in_ok-passed-2.ensures.ok in
    Told-answered _ _ _ _ _ _ read.0 _ _ _ _ _ 0 true read.2 within _ _ _ (open_from_front 193 read.0 some) judges

pub returns-else-not-is_empty-clause-told : goal.returns-else-not-is_empty-clause-told
returns-else-not-is_empty-clause-told g c =
    let read = last_line g (goal.at.returns-else-not-is_empty-clause-told g c).Else-branch in
    let none = rw (c.line-last.ensures, read.1) at (sym c.is_empty.ensures ∙ c.if-not-is_empty.false) in
    let within = c.in_ok-next_line.ensures.within (ap Ok c.if-branch.false) in
    Told-done _ _ _ _ _ _ read.0 _ _ _ _ _ 0 true read.2 within (empty_from_front 193 read.0 (omega arith) none)
