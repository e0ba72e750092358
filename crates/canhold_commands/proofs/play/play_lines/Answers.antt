use Rattle.std.proofs.Common.{◌≡◌, ℕ, true, false, List, take, refl, sym, ◌∙◌}
use Rattle.std.proofs.lemmas.Bool.Decides.{Decides-eqb}
use Rattle.std.proofs.lemmas.Result.{err_from_is_err_and}
use Rattle.std.specs.Cmp.Lexicographic.{pointwise_decides}
use Rattle.std.specs.Prelude.{option_map}
use Rattle.can_stream.proofs.Turns.{PassesOn-flushed}
use Rattle.can_node.proofs.NodePort.{node_port}
use Rattle.canhold_commands.proofs.CommandLines.{IsAnswered-front, quit_from_front}
use Rattle.canhold_commands.proofs.Conversations.{HasRead, HasRead-next, IsTalking-answered, Told-last, Told-quit, Told-unanswered, Told-ungreeted, Told-unread, Told-unwritten}
use Rattle.canhold_commands.proofs.Running.{falls-read, none_waits}
use Rattle.canhold_commands.proofs.play.play_lines.Given.{Over}
use Rattle.canhold_commands.proofs.play.play_lines.Goals.{Then-branch, Else-branch}
use Rattle.canhold_commands.proofs.play.play_lines.Goals as goal

-- the line whose end was found
ended_line : (g : Over) (c : Then-branch g) → (line : List ℕ) × (c.next_line.new.self.line.items ≡ take 4102 line)
    × HasRead (g.R.Source.remaining c.args.r.now) (g.R.Source.remaining c.next_line.new.source) (g.W.Sink.contents c.args.w.now) (g.W.Sink.contents c.next_line.new.sink)
    (option_map node_port c.loop-answer.adapter.node) true line c.next_line.new.self.inbox.unread c.next_line.new.self.inbox.taken
ended_line g c =
    let reads = rw c.if-branch.true at c.in_ok-next_line.ensures.reads in
    let flushed = rw c.loop-answer.invariant.empty at c.in_ok-next_line.ensures.flushed in
    let passes = PassesOn-flushed _ _ _ _ _ c.in_ok-next_line.ensures.write_failed flushed in
    (reads.line, reads.keeps, HasRead-next _ _ _ _ _ _ _ true 4102 c.loop-answer.lines c.next_line.new.self _ c.loop-answer.invariant.talking reads passes)

-- the outcome for the last line when the reader ended
last_line : (g : Over) (c : Else-branch g) → (line : List ℕ)
    × HasRead (g.R.Source.remaining c.args.r.now) (g.R.Source.remaining c.next_line.new.source) (g.W.Sink.contents c.args.w.now) (g.W.Sink.contents c.next_line.new.sink)
    (option_map node_port c.loop-answer.adapter.node) false line c.next_line.new.self.inbox.unread c.next_line.new.self.inbox.taken
last_line g c =
    let reads = rw c.if-branch.false at c.in_ok-next_line.ensures.reads in
    let flushed = rw c.loop-answer.invariant.empty at c.in_ok-next_line.ensures.flushed in
    let passes = PassesOn-flushed _ _ _ _ _ c.in_ok-next_line.ensures.write_failed flushed in
    (reads.line, HasRead-next _ _ _ _ _ _ _ false 4102 c.loop-answer.lines c.next_line.new.self _ c.loop-answer.invariant.talking reads passes)

pub returns-in_err-write_all-clause-told : goal.returns-in_err-write_all-clause-told
returns-in_err-write_all-clause-told g c =
    let p = err_from_is_err_and c.from_residual.result c.from_residual.ensures.1 in
    rw (p.1, p.2, c.in_err-write_all.ensures.fault) (Told-ungreeted _ _ _ _ _ _ refl c.in_err-write_all.ensures.err)

pub returns-in_err-next_line-clause-told : goal.returns-in_err-next_line-clause-told
returns-in_err-next_line-clause-told g c =
    let p = err_from_is_err_and c.from_residual-in_err-next_line.result c.from_residual-in_err-next_line.ensures.1 in
    let stops = c.in_err-next_line.ensures in
    let flushed = rw c.loop-answer.invariant.empty at stops.flushed in
    rw (p.1, p.2) (Told-unread _ _ _ _ _ _ _ _ 4102 c.loop-answer.lines c.next_line.new.self _ _ _ _ _ c.loop-answer.invariant.talking stops.reads stops.write_failed stops.err flushed)

pub returns-then-eq-clause-told : goal.returns-then-eq-clause-told
returns-then-eq-clause-told g c =
    let read = ended_line g (goal.at.returns-then-eq-clause-told g c).Then-branch in
    let same = (pointwise_decides Decides-eqb c.line-line.result.now c.as_slice.result.now).0 (sym c.eq.ensures ∙ c.if-eq.true) in
    Told-quit _ _ _ _ _ _ _ read.0 _ _ read.2 (quit_from_front read.0 (sym read.1 ∙ sym c.line-line.ensures ∙ same ∙ c.as_slice.ensures))

pub returns-in_default-clause-told : goal.returns-in_default-clause-told
returns-in_default-clause-told g c =
    let read = ended_line g (goal.at.returns-in_default-clause-told g c).Then-branch in
    Told-unanswered _ _ _ _ _ _ _ read.0 _ _ read.2

pub loop-answer-smaller : goal.loop-answer-smaller
loop-answer-smaller g c =
    falls-read _ _ 4102 c.loop-answer.lines c.next_line.new.self (rw c.if-branch.true at c.in_ok-next_line.ensures.reads) c.in_ok-next_line.ensures.fits

pub loop-answer-preserved : goal.loop-answer-preserved
loop-answer-preserved g c =
    let read = ended_line g (goal.at.loop-answer-preserved g c).Then-branch in
    let step = rw (c.line-line.ensures, read.1) at c.in-Ok.ensures in
    let took = rw c.deref.ensures.value at c.in_ok-write_all-2.ensures.ok in
    let flushed = rw c.loop-answer.invariant.empty at c.in_ok-next_line.ensures.flushed in
    record {
      talking = IsTalking-answered _ _ _ _ _ read.0 _ _ _ _ _ read.2 (IsAnswered-front read.0 _ _ _ step) took;
      empty = none_waits _ _ _ (PassesOn-flushed _ _ _ _ _ c.in_ok-next_line.ensures.write_failed flushed);
      reader_unfailed = c.in_ok-next_line.ensures.unfailed;
      reader_unended = rw c.if-branch.true at c.in_ok-next_line.ensures.ended;
      writer_unfailed = c.in_ok-write_all-2.ensures.failed;
      fits = c.in_ok-next_line.ensures.fits;
    }

pub returns-in_err-write_all-2-clause-told : goal.returns-in_err-write_all-2-clause-told
returns-in_err-write_all-2-clause-told g c =
    let read = ended_line g (goal.at.returns-in_err-write_all-2-clause-told g c).Then-branch in
    let step = rw (c.line-line.ensures, read.1) at c.in-Ok.ensures in
    let front = rw c.deref.ensures.value at c.in_err-write_all-2.ensures.err in
    let p = err_from_is_err_and c.from_residual-in_err-write_all-2.result c.from_residual-in_err-write_all-2.ensures.1 in
    rw (p.1, p.2, c.in_err-write_all-2.ensures.fault) (Told-unwritten _ _ _ _ _ _ _ read.0 _ _ _ _ _ read.2 (IsAnswered-front read.0 _ _ _ step) front)

pub returns-clause-told : goal.returns-clause-told
returns-clause-told g c =
    let read = last_line g (goal.at.returns-clause-told g c).Else-branch in
    Told-last _ _ _ _ _ _ _ read.0 _ _ read.1
