-- What was read and written when a call ends.
use Rattle.std.proofs.Common.{◌≡◌, ℕ, ◌+◌, ◌^◌, ◌≤◌, ◌<◌, inl, inr, Bool, true, false, List, [], ◌∷◌, ◌++◌, Option, Result, Ok, Err, OnOk, sym, ap, subst, ◌∙◌, append_assoc, arith}
use Rattle.std.proofs.lemmas.List.{append-nil}
use Rattle.std.proofs.KnownBytes.{Appends-trans, Appends-kept}
use Rattle.can_frame.specs.Text.{IsTextFault, IsFrameText}
use Rattle.can_frame.specs.declared.text.TextFault.{TextFault}
use Rattle.can_stream.specs.Lines.{lines_of, ended_lines, whole_lines}
use Rattle.can_texts.specs.Coded.{Codes, EncodesAll, EncodesEnded, EncodesTooLong, BeginsEncoding, IsFirstBadLine}
use Rattle.can_texts.specs.Answering.{EncodesLine, FailsToAnswer, Encodes}
use Rattle.can_stream.specs.Faults.{is_write}
use Rattle.can_stream.specs.Inbox.{StopsReading, StopsTurn}
use Rattle.can_stream.specs.Outbox.{Flushes, TakesFront}
use Rattle.can_stream.specs.Told.{Told}
use Rattle.can_stream.specs.declared.fault.TraceFault.{TraceFault}
use Rattle.can_stream.specs.declared.fault.TraceFault.TheVariants.{BadByte, Read, Write, Long, FrameLine, ScenarioField, Memory}
use Rattle.can_stream.proofs.LineLemmas.{open_lines, whole_lines-from_ended}
use Rattle.can_texts.proofs.Codings.{Codes-split}
use Rattle.can_texts.proofs.Answering.{AtLine, AtLine-flushed, Codes-answered, lines_of-last, ended_lines-last}
use Rattle.can_stream.proofs.Turns.{PassesOn-flushed, TakesFront-flushed, unwritten}

-- ---- by the state

module _ {before after held holds : Option (List ℕ)} {found : Bool} {line unread waiting : List ℕ} {taken number : ℕ}
    (ended : Bool) (others : List (List ℕ)) (at : AtLine Codes before after held holds found line unread waiting taken number) (whole : whole_lines ended at.input ≡ at.lines ++ line ∷ others) where
  -- the line is no frame's text
  pub IsFirstBadLine-at : (n : ℕ) (fault : TextFault) → n ≡ number + 1 → ¬ IsFrameText line → IsTextFault line fault → IsFirstBadLine n fault ended at.input (at.output ++ waiting)
  IsFirstBadLine-at n fault n_is is_bad has_fault = record {
    before = at.lines;
    bad = line;
    after = others;
    lines = whole;
    answers = at.answer;
    number_is = omega (arith, n_is, at.number_is);
    is_bad = (is_bad, has_fault);
  }

  -- the writer failed
  pub BeginsEncoding-at : (taken : List ℕ) (left : List ℕ) → waiting ≡ taken ++ left → BeginsEncoding ended at.input (at.output ++ taken)
  BeginsEncoding-at taken left split = record {
    good = at.lines;
    others = line ∷ others;
    rest = left;
    lines = whole;
    answers = Codes-split at.lines at.output waiting taken left split at.answer;
  }

module _ {before after held holds : Option (List ℕ)} {line unread waiting : List ℕ} {taken number : ℕ}
    (at : AtLine Codes before after held holds false line unread waiting taken number) where
  -- the reader failed
  pub EncodesEnded-at : EncodesEnded at.input (at.output ++ waiting)
  EncodesEnded-at = subst (λ ls. Codes ls (at.output ++ waiting)) (sym (ended_lines-last at)) at.answer

  -- the reader gave too much
  pub EncodesTooLong-at : 2 ^ 63 < taken → EncodesTooLong at.input (at.output ++ waiting)
  EncodesTooLong-at long = record { long = omega (arith, at.counted, long); codes = EncodesEnded-at }

  -- the reader ended after a line end
  pub EncodesAll-at : taken ≤ 2 ^ 63 → line ≡ [] → EncodesAll at.input (at.output ++ waiting)
  EncodesAll-at within none = record {
    within = omega (arith, at.counted, within);
    codes = subst (λ ls. Codes ls (at.output ++ waiting)) (sym (lines_of-last at ∙ ap (λ l. at.lines ++ open_lines l) none ∙ append-nil at.lines)) at.answer;
  }

  -- the reader ended, and the last line was encoded
  pub EncodesAll-answered : (holds_now : Option (List ℕ)) (waiting_now : List ℕ) → taken ≤ 2 ^ 63 → open_lines line ≡ line ∷ []
      → (answers : EncodesLine line holds holds_now waiting waiting_now) → EncodesAll at.input ((at.output ++ answers.passes.taken) ++ waiting_now)
  EncodesAll-answered holds_now waiting_now within some answers = record {
    within = omega (arith, at.counted, within);
    codes = subst (λ ls. Codes ls ((at.output ++ answers.passes.taken) ++ waiting_now)) (sym (lines_of-last at ∙ ap (λ ls. at.lines ++ ls) some))
        (Codes-answered at.lines at.output line waiting waiting_now holds holds_now at.answer answers);
  }

-- ---- before what waits is written

module _ {R W : Type 0} (remaining : R → Option (List ℕ)) (r_before r : R) (contents : W → Option (List ℕ)) (w_before w : W)
    (line unread waiting : List ℕ) (taken number : ℕ) where
  abbrev At : Bool → Type 0
  At found = AtLine Codes (remaining r_before) (remaining r) (contents w_before) (contents w) found line unread waiting taken number

  abbrev Ends : Result (Unit {0}) TraceFault → Bool → W → List ℕ → Type 0
  Ends result ended w_after waiting_after = Told remaining r_before r contents w_before w_after (λ input output. Encodes result ended input (output ++ waiting_after))

  -- no more is read
  pub Told-stopped : (e : TraceFault) (failed ended : Bool) → At false → StopsReading e failed taken → Ends (Err e) ended w waiting
  Told-stopped e failed ended at stops = record {
    input = at.input;
    output = at.output;
    consumes = at.consumes;
    appends = at.appends;
    related = by_fault e stops;
  }
    where
      by_fault : (e : TraceFault) → StopsReading e failed taken → Encodes {A = Unit {0}} (Err e) ended at.input (at.output ++ waiting)
      by_fault Read stops = EncodesEnded-at at
      by_fault Long stops = EncodesTooLong-at at stops.1
      by_fault Write stops = absurd stops
      by_fault (BadByte place) stops = absurd stops
      by_fault (FrameLine n fault) stops = absurd stops
      by_fault (ScenarioField wrong) stops = absurd stops
      by_fault Memory stops = absurd stops

  -- the line was not encoded
  pub Told-unanswered : (found ended : Bool) (others : List (List ℕ)) (w_after : W) (waiting_after : List ℕ) (e : TraceFault) (at : At found)
      → whole_lines ended at.input ≡ at.lines ++ line ∷ others → FailsToAnswer e (number + 1) line (contents w) (contents w_after) waiting waiting_after
      → Ends (Err e) ended w_after waiting_after
  Told-unanswered found ended others w_after waiting_after Write at whole fails =
      let front = fails.0 in
      record {
        input = at.input;
        output = at.output ++ front.taken;
        consumes = at.consumes;
        appends = Appends-trans _ _ _ at.output front.taken at.appends front.appends;
        related = rw (fails.1, append-nil (at.output ++ front.taken)) (BeginsEncoding-at ended others at whole front.taken front.left front.split);
      }
  Told-unanswered found ended others w_after waiting_after (FrameLine n fault) at whole fails = record {
    input = at.input;
    output = at.output;
    consumes = at.consumes;
    appends = Appends-kept _ _ _ at.output at.appends fails.3;
    related = rw fails.4 (IsFirstBadLine-at ended others at whole n fault fails.0 fails.1 fails.2);
  }
  Told-unanswered found ended others w_after waiting_after (BadByte place) at whole fails = absurd fails
  Told-unanswered found ended others w_after waiting_after Read at whole fails = absurd fails
  Told-unanswered found ended others w_after waiting_after Long at whole fails = absurd fails
  Told-unanswered found ended others w_after waiting_after (ScenarioField wrong) at whole fails = absurd fails
  Told-unanswered found ended others w_after waiting_after Memory at whole fails = absurd fails

  module _ (ended : Bool) (at : At false) (within : taken ≤ 2 ^ 63) where
    -- the reader ended after a line end
    pub Told-done : line ≡ [] → Ends (Ok tt) ended w waiting
    Told-done none = record {
      input = at.input;
      output = at.output;
      consumes = at.consumes;
      appends = at.appends;
      related = EncodesAll-at at within none;
    }

    -- the last line was encoded
    pub Told-answered : (w_after : W) (waiting_after : List ℕ) → open_lines line ≡ line ∷ [] → EncodesLine line (contents w) (contents w_after) waiting waiting_after
        → Ends (Ok tt) ended w_after waiting_after
    Told-answered w_after waiting_after some answers = record {
      input = at.input;
      output = at.output ++ answers.passes.taken;
      consumes = at.consumes;
      appends = Appends-trans _ _ _ at.output answers.passes.taken at.appends answers.passes.appends;
      related = EncodesAll-answered at (contents w_after) waiting_after within some answers;
    }

module _ {R W : Type 0} (remaining : R → Option (List ℕ)) (r_before r : R) (contents : W → Option (List ℕ)) (w_before w w_after : W)
    (line unread waiting waiting_after : List ℕ) (taken number : ℕ) (at : AtLine Codes (remaining r_before) (remaining r) (contents w_before) (contents w) false line unread waiting taken number) where
  abbrev Unread : TraceFault → Bool → Type 0
  Unread e ended = Told remaining r_before r contents w_before w_after (λ input output. Encodes {A = Unit {0}} (Err e) ended input (output ++ waiting_after))

  -- the writer failed before a read
  unwritten_at : (ended : Bool) → ended ≡ false → TakesFront (contents w) (contents w_after) waiting → waiting_after ≡ [] → Unread Write ended
  unwritten_at ended unended front none = record {
    input = at.input;
    output = at.output ++ front.taken;
    consumes = at.consumes;
    appends = Appends-trans _ _ _ at.output front.taken at.appends front.appends;
    related = record {
      good = at.lines;
      others = [];
      rest = front.left;
      lines = ap (λ b. whole_lines b at.input) unended ∙ ended_lines-last at ∙ sym (append-nil at.lines);
      answers = rw (none, append-nil (at.output ++ front.taken)) (Codes-split at.lines at.output waiting front.taken front.left front.split at.answer);
    };
  }

  -- reading stops, if the pending output is written before each read
  pub Told-unread : (e : TraceFault) (failed ended write_failed : Bool) → ended ≡ false → write_failed ≡ is_write e → StopsTurn e failed taken
      → Flushes write_failed (contents w) (contents w_after) waiting waiting_after → Unread e ended
  Told-unread e failed ended write_failed unended is (inl stops) flushes =
      let fails = TakesFront-flushed write_failed _ _ waiting waiting_after (is ∙ ap is_write stops.0) flushes in
      subst (λ x. Unread x ended) (sym stops.0) (unwritten_at ended unended fails.0 fails.1)
  Told-unread e failed ended write_failed unended is (inr stops) flushes =
      let passes = PassesOn-flushed write_failed _ _ waiting waiting_after (is ∙ unwritten e failed taken stops) flushes in
      Told-stopped remaining r_before r contents w_before w_after line unread waiting_after taken number e failed ended (AtLine-flushed Codes _ _ _ _ _ false line unread waiting waiting_after taken number at passes) stops

-- ---- and after it

-- however a call ends, a part of what was to be written is a prefix of the output
pub BeginsEncoding-from : (result : Result (Unit {0}) TraceFault) (ended : Bool) (input output waiting taken left : List ℕ) → OnOk result (ended ≡ true) → waiting ≡ taken ++ left
    → Encodes result ended input (output ++ waiting) → BeginsEncoding ended input (output ++ taken)
BeginsEncoding-from (Ok u) ended input output waiting taken left is_ended split all = record {
  good = lines_of input;
  others = [];
  rest = left;
  lines = ap (λ b. whole_lines b input) is_ended ∙ sym (append-nil (lines_of input));
  answers = Codes-split _ output waiting taken left split all.codes;
}
BeginsEncoding-from (Err (BadByte place)) ended input output waiting taken left _ split none = absurd none
BeginsEncoding-from (Err (ScenarioField wrong)) ended input output waiting taken left _ split none = absurd none
BeginsEncoding-from (Err Memory) ended input output waiting taken left _ split none = absurd none
BeginsEncoding-from (Err Read) ended input output waiting taken left _ split codes = let whole = whole_lines-from_ended ended input in record {
  good = ended_lines input;
  others = whole.0;
  rest = left;
  lines = whole.1;
  answers = Codes-split _ output waiting taken left split codes;
}
BeginsEncoding-from (Err Long) ended input output waiting taken left _ split long = let whole = whole_lines-from_ended ended input in record {
  good = ended_lines input;
  others = whole.0;
  rest = left;
  lines = whole.1;
  answers = Codes-split _ output waiting taken left split long.codes;
}
BeginsEncoding-from (Err Write) ended input output waiting taken left _ split begins = record {
  good = begins.good;
  others = begins.others;
  rest = left ++ begins.rest;
  lines = begins.lines;
  answers = subst (Codes begins.good)
      (ap (λ t. (output ++ t) ++ begins.rest) split ∙ ap (λ t. t ++ begins.rest) (sym (append_assoc output taken left)) ∙ append_assoc (output ++ taken) left begins.rest)
      begins.answers;
}
BeginsEncoding-from (Err (FrameLine n fault)) ended input output waiting taken left _ split bad = record {
  good = bad.before;
  others = bad.bad ∷ bad.after;
  rest = left;
  lines = bad.lines;
  answers = Codes-split _ output waiting taken left split bad.answers;
}
