-- A conversation: the lines that were read and the replies that were written, and how it ends.
use Rattle.std.proofs.Common.{◌≡◌, ℕ, ◌+◌, Bool, true, false, List, [], ◌∷◌, ◌++◌, Option, None, Result, Ok, Err, refl, sym, ap, subst, ◌∙◌, append_assoc, append-nil, inl, inr}
use Rattle.std.proofs.KnownBytes.{Consumes-nil, Appends-trans}
use Rattle.std.specs.Io.KnownBytes.{Consumes, Appends}
use Rattle.can_node.specs.Ports.{PortState}
use Rattle.can_stream.specs.Faults.{is_write}
use Rattle.can_stream.specs.Inbox.{StopsReading, StopsTurn}
use Rattle.can_stream.specs.LineReader.{ReadsLine}
use Rattle.can_stream.specs.Lines.{ended_lines}
use Rattle.can_stream.specs.Outbox.{Flushes, PassesOn, TakesFront}
use Rattle.can_stream.specs.Told.{Told}
use Rattle.can_stream.specs.declared.fault.TraceFault.{TraceFault}
use Rattle.can_stream.specs.declared.fault.TraceFault.TheVariants.{BadByte, Read, Write, Long, FrameLine, ScenarioField, Memory}
use Rattle.can_stream.specs.declared.lines.LineReader.{LineReader}
use Rattle.can_stream.proofs.Turns.{PassesOn-flushed, TakesFront-flushed, unwritten}
use Rattle.can_texts.proofs.Answering.{Answering, AtLine, Answering-more, AtLine-flushed, AtLine-read, ended_lines-last, whole_lines-ended}
use Rattle.canhold_commands.specs.Adapters.{IsAnswered}
use Rattle.canhold_commands.specs.Commands.{quit_line}
use Rattle.canhold_commands.specs.Plays.{IsConversation, AnswersFront, BeginsPlaying, Plays, PlaysAll, PlaysEnded, PlaysFront, greeting}
use Rattle.canhold_commands.proofs.Running.{IsConversation-none, IsConversation-push, none_waits}

-- ---- line by line

module _ (before after held holds : Option (List ℕ)) where
  -- the writer has the greeting and the replies to the lines that were read
  pub record IsTalking (port : Option PortState) (unread : List ℕ) (taken : ℕ) : Type 0 where
    pub number : ℕ
    pub answering : Answering (IsConversation port) before after held holds unread [] taken number

  -- this, and one more line was read
  pub record HasRead (port : Option PortState) (found : Bool) (line unread : List ℕ) (taken : ℕ) : Type 0 where
    pub number : ℕ
    pub at : AtLine (IsConversation port) before after held holds found line unread [] taken number

-- a line is read if nothing waits to be written, and what waited is written
pub HasRead-next : (before between after held holds holds_now : Option (List ℕ)) (port : Option PortState) (found : Bool) (kept : ℕ) (old new : LineReader kept) (waiting : List ℕ)
    → IsTalking before between held holds port old.inbox.unread old.inbox.taken → (reads : ReadsLine found between after kept old new) → PassesOn holds holds_now [] waiting []
    → HasRead before after held holds_now port found reads.line new.inbox.unread new.inbox.taken
HasRead-next before between after held holds holds_now port found kept old new waiting talk reads passes =
    let at = AtLine-read (IsConversation port) before between after held holds found kept old new [] talk.number talk.answering reads in
    let none : PassesOn holds holds_now [] [] [] = subst (λ ws. PassesOn holds holds_now [] ws []) (none_waits holds holds_now waiting passes) passes in
    record {
      number = talk.number;
      at = AtLine-flushed (IsConversation port) before after held holds holds_now found reads.line new.inbox.unread [] [] new.inbox.taken talk.number at none;
    }

module _ (before after held holds : Option (List ℕ)) (port : Option PortState) (line unread : List ℕ) (taken : ℕ) where
  -- the line has its reply
  pub IsTalking-answered : (holds_now : Option (List ℕ)) (answer : List ℕ) (port_now : Option PortState) → HasRead before after held holds port true line unread taken
      → IsAnswered line port answer port_now → Appends holds holds_now answer → IsTalking before after held holds_now port_now unread taken
  IsTalking-answered holds_now answer port_now read step took =
      let at = read.at in
      let passes : PassesOn holds holds_now [] [] answer = record { taken = answer; appends = took; same = sym (append-nil answer) } in
      let pushed : IsConversation port_now (at.lines ++ line ∷ []) ((at.output ++ []) ++ answer) = IsConversation-push port at.lines (at.output ++ []) line answer port_now at.answer step in
      let same : (at.output ++ []) ++ answer ≡ (at.output ++ answer) ++ [] = ap (λ t. t ++ answer) (append-nil at.output) ∙ sym (append-nil (at.output ++ answer)) in
      record {
        number = read.number + 1;
        answering = Answering-more (IsConversation port) (IsConversation port_now) before after held holds holds_now line unread [] [] answer taken read.number at passes (subst (IsConversation port_now (at.lines ++ line ∷ [])) same pushed);
      }

  -- ---- what has been written

  module _ (read : HasRead before after held holds port true line unread taken) where
    -- the lines before this one have their replies
    answered_before : AnswersFront read.at.input read.at.output (line ∷ ended_lines unread)
    answered_before = record {
      lines = read.at.lines;
      split = whole_lines-ended false read.at;
      answers = (port, subst (IsConversation port read.at.lines) (append-nil read.at.output) read.at.answer);
    }

    pub PlaysAll-quit : line ≡ quit_line → PlaysAll read.at.input read.at.output
    PlaysAll-quit is = (line ∷ ended_lines unread, answered_before, is)

    pub PlaysFront-unanswered : PlaysFront read.at.input read.at.output
    PlaysFront-unanswered = (line ∷ ended_lines unread, answered_before)

    pub BeginsPlaying-answer : (answer : List ℕ) (port_now : Option PortState) (took left : List ℕ) → IsAnswered line port answer port_now → answer ≡ took ++ left
        → BeginsPlaying read.at.input (read.at.output ++ took)
    BeginsPlaying-answer answer port_now took left step split =
        let pushed : IsConversation port_now (read.at.lines ++ line ∷ []) ((read.at.output ++ []) ++ answer) = IsConversation-push port read.at.lines (read.at.output ++ []) line answer port_now read.at.answer step in
        let same : (read.at.output ++ []) ++ answer ≡ (read.at.output ++ took) ++ left =
        ap (λ t. t ++ answer) (append-nil read.at.output) ∙ ap (λ t. read.at.output ++ t) split ∙ sym (append_assoc read.at.output took left) in (
          left,
          (
            ended_lines unread,
            record {
              lines = read.at.lines ++ line ∷ [];
              split = whole_lines-ended false read.at ∙ sym (append_assoc read.at.lines (line ∷ []) (ended_lines unread));
              answers = (port_now, subst (IsConversation port_now (read.at.lines ++ line ∷ [])) same pushed);
            },
          ),
        )

  module _ (read : HasRead before after held holds port false line unread taken) where
    -- all complete lines have their replies
    pub PlaysEnded-last : PlaysEnded read.at.input read.at.output
    PlaysEnded-last = record {
      lines = read.at.lines;
      split = ended_lines-last read.at ∙ sym (append-nil read.at.lines);
      answers = (port, subst (IsConversation port read.at.lines) (append-nil read.at.output) read.at.answer);
    }

    pub PlaysAll-last : PlaysAll read.at.input read.at.output
    PlaysAll-last = ([], PlaysEnded-last, tt)

-- nothing was read, and the writer took a prefix of the greeting
pub BeginsPlaying-greeting : (took left : List ℕ) → greeting ≡ took ++ left → BeginsPlaying [] took
BeginsPlaying-greeting took left split = (left, ([], record { lines = []; split = refl; answers = (None, subst (IsConversation None []) split IsConversation-none) }))

-- if the writer took a prefix of nothing, it took nothing
took_nothing : (took left : List ℕ) → [] ≡ took ++ left → took ≡ []
took_nothing [] left split = refl
took_nothing (byte ∷ took) left split = absurd (let no : byte ∷ (took ++ left) ≡ [] = sym split in cc)

-- ---- how a call ends

module _ {R W : Type 0} (remaining : R → Option (List ℕ)) (r_before r : R) (contents : W → Option (List ℕ)) (w_before : W) where
  abbrev Ends : Result (Unit {0}) TraceFault → W → Type 0
  Ends result w = Told remaining r_before r contents w_before w (Plays result)

  -- the greeting was not written
  pub Told-ungreeted : (w : W) → r ≡ r_before → TakesFront (contents w_before) (contents w) greeting → Ends (Err Write) w
  Told-ungreeted w same front = record {
    input = [];
    output = front.taken;
    consumes = subst (λ x. Consumes (remaining r_before) (remaining x) []) (sym same) (Consumes-nil (remaining r_before));
    appends = front.appends;
    related = BeginsPlaying-greeting front.taken front.left front.split;
  }

  module _ (w : W) (port : Option PortState) (line unread : List ℕ) (taken : ℕ) where
    abbrev Reads : Bool → Type 0
    Reads found = HasRead (remaining r_before) (remaining r) (contents w_before) (contents w) port found line unread taken

    -- the line is `quit`
    pub Told-quit : Reads true → line ≡ quit_line → Ends (Ok tt) w
    Told-quit read is = record {
      input = read.at.input;
      output = read.at.output;
      consumes = read.at.consumes;
      appends = read.at.appends;
      related = PlaysAll-quit (remaining r_before) (remaining r) (contents w_before) (contents w) port line unread taken read is;
    }

    -- the input has ended
    pub Told-last : Reads false → Ends (Ok tt) w
    Told-last read = record {
      input = read.at.input;
      output = read.at.output;
      consumes = read.at.consumes;
      appends = read.at.appends;
      related = PlaysAll-last (remaining r_before) (remaining r) (contents w_before) (contents w) port line unread taken read;
    }

    -- an allocation failed
    pub Told-unanswered : Reads true → Ends (Err Memory) w
    Told-unanswered read = record {
      input = read.at.input;
      output = read.at.output;
      consumes = read.at.consumes;
      appends = read.at.appends;
      related = PlaysFront-unanswered (remaining r_before) (remaining r) (contents w_before) (contents w) port line unread taken read;
    }

    -- the reply was not written
    pub Told-unwritten : (w_now : W) (answer : List ℕ) (port_now : Option PortState) → Reads true → IsAnswered line port answer port_now → TakesFront (contents w) (contents w_now) answer
        → Ends (Err Write) w_now
    Told-unwritten w_now answer port_now read step front = record {
      input = read.at.input;
      output = read.at.output ++ front.taken;
      consumes = read.at.consumes;
      appends = Appends-trans _ _ _ read.at.output front.taken read.at.appends front.appends;
      related = BeginsPlaying-answer (remaining r_before) (remaining r) (contents w_before) (contents w) port line unread taken read answer port_now front.taken front.left step front.split;
    }

    -- no more is read
    stopped : (e : TraceFault) (failed : Bool) → Reads false → StopsReading e failed taken → Ends (Err e) w
    stopped e failed read stops = record {
      input = read.at.input;
      output = read.at.output;
      consumes = read.at.consumes;
      appends = read.at.appends;
      related = by_fault e stops;
    }
      where
        ended : PlaysEnded read.at.input read.at.output
        ended = PlaysEnded-last (remaining r_before) (remaining r) (contents w_before) (contents w) port line unread taken read

        by_fault : (e : TraceFault) → StopsReading e failed taken → Plays (Err e) read.at.input read.at.output
        by_fault Read stops = ended
        by_fault Long stops = ended
        by_fault Write stops = absurd stops
        by_fault (BadByte place) stops = absurd stops
        by_fault (FrameLine n fault) stops = absurd stops
        by_fault (ScenarioField wrong) stops = absurd stops
        by_fault Memory stops = absurd stops

  -- the reader stopped, or the writer failed, before a whole line was read
  pub Told-unread : (w w_now : W) (port : Option PortState) (kept : ℕ) (old new : LineReader kept) (waiting : List ℕ) (between : Option (List ℕ)) (e : TraceFault) (failed write_failed : Bool)
      → IsTalking (remaining r_before) between (contents w_before) (contents w) port old.inbox.unread old.inbox.taken → ReadsLine false between (remaining r) kept old new
      → write_failed ≡ is_write e → StopsTurn e failed new.inbox.taken → Flushes write_failed (contents w) (contents w_now) [] waiting → Ends (Err e) w_now
  Told-unread w w_now port kept old new waiting between e failed write_failed talk reads is (inl stops) flushes =
      let fails = TakesFront-flushed write_failed _ _ [] waiting (is ∙ ap is_write stops.0) flushes in
      let at = AtLine-read (IsConversation port) _ _ _ _ _ false kept old new [] talk.number talk.answering reads in
      let took = fails.0.taken in
      let none : took ≡ [] = took_nothing took fails.0.left fails.0.split in
      let all : PlaysEnded at.input at.output = record {
        lines = at.lines;
        split = ended_lines-last at ∙ sym (append-nil at.lines);
        answers = (port, subst (IsConversation port at.lines) (append-nil at.output) at.answer);
      } in
      let begins : BeginsPlaying at.input (at.output ++ took) =
      ([], ([], subst (λ o. PlaysEnded at.input o) (sym (append-nil (at.output ++ took) ∙ ap (λ t. at.output ++ t) none ∙ append-nil at.output)) all)) in
      subst (λ x. Ends (Err x) w_now) (sym stops.0) (record {
        input = at.input;
        output = at.output ++ took;
        consumes = at.consumes;
        appends = Appends-trans _ _ _ at.output took at.appends fails.0.appends;
        related = begins;
      })
  Told-unread w w_now port kept old new waiting between e failed write_failed talk reads is (inr stops) flushes =
      let passes = PassesOn-flushed write_failed _ _ [] waiting (is ∙ unwritten e failed new.inbox.taken stops) flushes in
      let read = HasRead-next _ _ _ _ _ _ port false kept old new waiting talk reads passes in
      stopped w_now port reads.line new.inbox.unread new.inbox.taken e failed read stops
