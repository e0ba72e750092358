-- What was read and written when a call that checks lines ends.
use Rattle.std.proofs.Common.{◌≡◌, ℕ, ◌+◌, ◌^◌, ◌≤◌, inl, inr, Bool, true, false, List, [], ◌∷◌, ◌++◌, length, take, Option, Result, Ok, Err, OnOk, refl, sym, ap, subst, ◌∙◌, append_assoc, arith}
use Rattle.std.proofs.lemmas.List.{append-nil, length_push}
use Rattle.std.proofs.lemmas.Bool.{false≢true}
use Rattle.std.proofs.KnownBytes.{Appends-trans, Appends-kept}
use Rattle.std.specs.List.{flat_map}
use Rattle.can_stream.specs.Lines.{lines_of, ended_lines, whole_lines, with_end}
use Rattle.can_stream.specs.Faults.{is_write}
use Rattle.can_stream.specs.Outbox.{Flushes, PassesOn, TakesFront}
use Rattle.can_texts.specs.Checked.{total_line, BeginsChecking, Checks, ChecksAll, ChecksEach, ChecksEnded, ChecksLines, IsFirstBadByte}
use Rattle.can_texts.specs.Checking.{Comes, FailsToCheck, IsBadAt, IsUnbroken, Judges, StopsChecking}
use Rattle.can_stream.specs.Told.{Told}
use Rattle.can_stream.specs.declared.fault.TraceFault.{TraceFault}
use Rattle.can_stream.specs.declared.fault.TraceFault.TheVariants.{BadByte, Read, Write, Long, FrameLine, ScenarioField, Memory}
use Rattle.can_stream.proofs.LineLemmas.{open_lines, whole_lines-before, whole_lines-from_ended}
use Rattle.can_texts.proofs.Answering.{AtLine, AtLine-flushed, lines_of-last, ended_lines-last}
use Rattle.can_texts.proofs.CheckSteps.{Checks-answered, Passing}
use Rattle.can_texts.proofs.VectorFronts.{IsBadLevelByte-front, IsBadLevelByte-kept, IsBadLevelByte-within, IsBadVectorLine-front}
use Rattle.can_stream.proofs.Turns.{PassesOn-flushed, TakesFront-flushed}

-- a prefix of the output, and then the rest of it
ChecksLines-split : (lines : List (List ℕ)) (output waiting taken left : List ℕ) → waiting ≡ taken ++ left → ChecksLines lines (output ++ waiting) → ChecksLines lines ((output ++ taken) ++ left)
ChecksLines-split lines output waiting taken left split = subst (ChecksLines lines) (ap (λ t. output ++ t) split ∙ sym (append_assoc output taken left))

-- a line with a bad byte has bytes
open_bad : (line : List ℕ) (start place : ℕ) → IsBadAt start (take 193 line) place → open_lines line ≡ line ∷ []
open_bad [] start place bad = absurd (omega (arith, IsBadLevelByte-within [] bad.place_in_line (IsBadLevelByte-front [] bad.place_in_line bad.is_bad)))
open_bad (byte ∷ line) start place bad = refl

-- ---- by the state

module _ {before after held holds : Option (List ℕ)} {found : Bool} {line unread waiting : List ℕ} {taken number passed : ℕ}
    (others : List (List ℕ)) (at : AtLine (Passing passed) before after held holds found line unread waiting taken number) where
  -- a byte of the line is bad
  pub IsFirstBadByte-at : (start place : ℕ) → lines_of at.input ≡ at.lines ++ line ∷ others → start ≡ length (flat_map with_end at.lines) → IsBadAt start (take 193 line) place
      → IsFirstBadByte place at.input (at.output ++ waiting)
  IsFirstBadByte-at start place lines start_is bad = record {
    before = at.lines;
    bad = line;
    after = others;
    lines = lines;
    checks = (passed, at.answer);
    place_in_line = bad.place_in_line;
    is_bad = IsBadLevelByte-front line bad.place_in_line bad.is_bad;
    place_is = omega (arith, bad.place_is, start_is);
  }

  -- the writer failed
  pub BeginsChecking-at : (ended : Bool) (taken left : List ℕ) → whole_lines ended at.input ≡ at.lines ++ line ∷ others → waiting ≡ taken ++ left
      → BeginsChecking ended at.input (at.output ++ taken)
  BeginsChecking-at ended taken left lines split = inl (record {
    good = at.lines;
    others = line ∷ others;
    rest = left;
    lines = lines;
    answers = ChecksLines-split at.lines at.output waiting taken left split (passed, at.answer);
  })

module _ {before after held holds : Option (List ℕ)} {line unread waiting : List ℕ} {taken number passed : ℕ}
    (at : AtLine (Passing passed) before after held holds false line unread waiting taken number) where
  -- no more is read, and no byte of the last line is bad
  pub ChecksEnded-at : IsUnbroken (take 193 line) → ChecksEnded at.input (at.output ++ waiting)
  ChecksEnded-at unbroken =
      let ended = ended_lines-last at in
      record {
        open_line = line;
        split = at.split ∙ ap (λ t. flat_map with_end at.lines ++ t) (append-nil line) ∙ ap (λ ls. flat_map with_end ls ++ line) (sym ended);
        checks = subst (λ ls. ChecksLines ls (at.output ++ waiting)) (sym ended) (passed, at.answer);
        unbroken = λ place bad. unbroken place (IsBadLevelByte-kept line place bad);
      }

  -- the reader ended after a line end
  pub ChecksEach-at : taken ≤ 2 ^ 63 → line ≡ [] → ChecksEach passed number at.input (at.output ++ waiting)
  ChecksEach-at within none =
      let lines = lines_of-last at ∙ ap (λ l. at.lines ++ open_lines l) none ∙ append-nil at.lines in
      record {
        within = omega (arith, at.counted, within);
        checks = subst (λ ls. Checks ls passed (at.output ++ waiting)) (sym lines) at.answer;
        count_is = at.number_is ∙ ap length (sym lines);
      }

  -- the reader ended, and the last line was checked
  pub ChecksEach-answered : (holds_now : Option (List ℕ)) (waiting_now : List ℕ) (more : ℕ) → taken ≤ 2 ^ 63 → open_lines line ≡ line ∷ []
      → (judges : Judges (take 193 line) more holds holds_now waiting waiting_now) → ChecksEach (passed + more) (number + 1) at.input ((at.output ++ judges.put.taken) ++ waiting_now)
  ChecksEach-answered holds_now waiting_now more within some judges =
      let lines = lines_of-last at ∙ ap (λ ls. at.lines ++ ls) some in
      record {
        within = omega (arith, at.counted, within);
        checks = subst (λ ls. Checks ls (passed + more) ((at.output ++ judges.put.taken) ++ waiting_now)) (sym lines)
            (Checks-answered at.lines passed more at.output line waiting waiting_now holds holds_now at.answer judges);
        count_is = omega (arith, at.number_is, length_push at.lines line, ap length lines);
      }

-- ---- when a call ends

module _ {R W : Type 0} (remaining : R → Option (List ℕ)) (r_before r : R) (contents : W → Option (List ℕ)) (w_before w : W)
    (line unread waiting : List ℕ) (taken number passed start : ℕ) where
  abbrev At : Bool → Type 0
  At found = AtLine (Passing passed) (remaining r_before) (remaining r) (contents w_before) (contents w) found line unread waiting taken number

  abbrev Ends : Result (ℕ × ℕ) TraceFault → Bool → W → List ℕ → Type 0
  Ends result ended w_after waiting_after = Told remaining r_before r contents w_before w_after (λ input output. Comes ChecksEach result ended input (output ++ waiting_after))

  -- no more is read, and the writer has not failed
  pub Told-stopped : (e : TraceFault) (failed ended : Bool) (at : At false) → start ≡ length (flat_map with_end at.lines) → StopsChecking e start (take 193 line) failed taken → is_write e ≡ false
      → Ends (Err e) ended w waiting
  Told-stopped e failed ended at start_is stops unfailed = record {
    input = at.input;
    output = at.output;
    consumes = at.consumes;
    appends = at.appends;
    related = by_fault e stops unfailed;
  }
    where
      by_fault : (e : TraceFault) → StopsChecking e start (take 193 line) failed taken → is_write e ≡ false → Comes ChecksEach (Err e) ended at.input (at.output ++ waiting)
      by_fault (BadByte place) stops unfailed = IsFirstBadByte-at [] at start place (lines_of-last at ∙ ap (λ ls. at.lines ++ ls) (open_bad line start place stops)) start_is stops
      by_fault Read stops unfailed = ChecksEnded-at at stops.1
      by_fault Long stops unfailed = record { long = omega (arith, at.counted, stops.1); checks = ChecksEnded-at at stops.2 }
      by_fault Write stops unfailed = absurd (false≢true (sym unfailed))
      by_fault (FrameLine n fault) stops unfailed = absurd stops
      by_fault (ScenarioField wrong) stops unfailed = absurd stops
      by_fault Memory stops unfailed = absurd stops

  -- the writer failed before a read
  pub Told-unwritten : (ended : Bool) (at : At false) (w_after : W) (waiting_after : List ℕ) → ended ≡ false → TakesFront (contents w) (contents w_after) waiting → waiting_after ≡ []
      → Ends (Err Write) ended w_after waiting_after
  Told-unwritten ended at w_after waiting_after unended front none = record {
    input = at.input;
    output = at.output ++ front.taken;
    consumes = at.consumes;
    appends = Appends-trans _ _ _ at.output front.taken at.appends front.appends;
    related = inl (record {
      good = at.lines;
      others = [];
      rest = front.left;
      lines = ap (λ b. whole_lines b at.input) unended ∙ ended_lines-last at ∙ sym (append-nil at.lines);
      answers = rw (none, append-nil (at.output ++ front.taken)) (ChecksLines-split at.lines at.output waiting front.taken front.left front.split (passed, at.answer));
    });
  }

  -- the line was not checked
  pub Told-unanswered : (found ended : Bool) (others more : List (List ℕ)) (w_after : W) (waiting_after : List ℕ) (e : TraceFault) (at : At found)
      → whole_lines ended at.input ≡ at.lines ++ line ∷ others → lines_of at.input ≡ at.lines ++ line ∷ more → start ≡ length (flat_map with_end at.lines)
      → FailsToCheck e (number + 1) start (take 193 line) (contents w) (contents w_after) waiting waiting_after → Ends (Err e) ended w_after waiting_after
  Told-unanswered found ended others more w_after waiting_after Write at whole lines start_is fails =
      let front = fails.0 in
      record {
        input = at.input;
        output = at.output ++ front.taken;
        consumes = at.consumes;
        appends = Appends-trans _ _ _ at.output front.taken at.appends front.appends;
        related = rw (fails.1, append-nil (at.output ++ front.taken)) (BeginsChecking-at others at ended front.taken front.left whole front.split);
      }
  Told-unanswered found ended others more w_after waiting_after (FrameLine n fault) at whole lines start_is fails = record {
    input = at.input;
    output = at.output;
    consumes = at.consumes;
    appends = Appends-kept _ _ _ at.output at.appends fails.2;
    related = rw fails.3 (record {
      before = at.lines;
      bad = line;
      after = others;
      lines = whole;
      answers = (passed, at.answer);
      number_is = omega (arith, fails.0, at.number_is);
      is_bad = IsBadVectorLine-front line fault fails.1;
    });
  }
  Told-unanswered found ended others more w_after waiting_after (BadByte place) at whole lines start_is fails = record {
    input = at.input;
    output = at.output;
    consumes = at.consumes;
    appends = Appends-kept _ _ _ at.output at.appends fails.1;
    related = rw fails.2 (IsFirstBadByte-at more at start place lines start_is fails.0);
  }
  Told-unanswered found ended others more w_after waiting_after Read at whole lines start_is fails = absurd fails
  Told-unanswered found ended others more w_after waiting_after Long at whole lines start_is fails = absurd fails
  Told-unanswered found ended others more w_after waiting_after (ScenarioField wrong) at whole lines start_is fails = absurd fails
  Told-unanswered found ended others more w_after waiting_after Memory at whole lines start_is fails = absurd fails

  module _ (ended : Bool) (at : At false) (within : taken ≤ 2 ^ 63) where
    -- the reader ended after a line end
    pub Told-done : line ≡ [] → Ends (Ok (passed, number)) ended w waiting
    Told-done none = record {
      input = at.input;
      output = at.output;
      consumes = at.consumes;
      appends = at.appends;
      related = ChecksEach-at at within none;
    }

    -- the last line was checked
    pub Told-answered : (w_after : W) (waiting_after : List ℕ) (more : ℕ) → open_lines line ≡ line ∷ [] → Judges (take 193 line) more (contents w) (contents w_after) waiting waiting_after
        → Ends (Ok (passed + more, number + 1)) ended w_after waiting_after
    Told-answered w_after waiting_after more some judges = record {
      input = at.input;
      output = at.output ++ judges.put.taken;
      consumes = at.consumes;
      appends = Appends-trans _ _ _ at.output judges.put.taken at.appends judges.put.appends;
      related = ChecksEach-answered at (contents w_after) waiting_after more within some judges;
    }

module _ {R W : Type 0} (remaining : R → Option (List ℕ)) (r_before r : R) (contents : W → Option (List ℕ)) (w_before w w_after : W)
    (line unread waiting waiting_after : List ℕ) (taken number passed start : ℕ)
    (at : AtLine (Passing passed) (remaining r_before) (remaining r) (contents w_before) (contents w) false line unread waiting taken number) where
  abbrev Unread : TraceFault → Bool → Type 0
  Unread e ended = Told remaining r_before r contents w_before w_after (λ input output. Comes ChecksEach (Err e) ended input (output ++ waiting_after))

  -- reading stops, if the pending output is written before each read
  pub Told-unread : (e : TraceFault) (failed ended write_failed : Bool) → ended ≡ false → write_failed ≡ is_write e → start ≡ length (flat_map with_end at.lines)
      → StopsChecking e start (take 193 line) failed taken → Flushes write_failed (contents w) (contents w_after) waiting waiting_after → Unread e ended
  Told-unread e failed ended write_failed unended is start_is stops flushes = by_fault e is stops
    where
      here : PassesOn (contents w) (contents w_after) waiting waiting_after [] → AtLine (Passing passed) (remaining r_before) (remaining r) (contents w_before) (contents w_after) false line unread waiting_after taken number
      here passes = AtLine-flushed (Passing passed) _ _ _ _ _ false line unread waiting waiting_after taken number at passes

      stopped : (e : TraceFault) → write_failed ≡ is_write e → is_write e ≡ false → StopsChecking e start (take 193 line) failed taken → Unread e ended
      stopped e is unfailed stops =
          let passes = PassesOn-flushed write_failed _ _ waiting waiting_after (is ∙ unfailed) flushes in
          Told-stopped remaining r_before r contents w_before w_after line unread waiting_after taken number passed start e failed ended (here passes) start_is stops unfailed

      by_fault : (e : TraceFault) → write_failed ≡ is_write e → StopsChecking e start (take 193 line) failed taken → Unread e ended
      by_fault Write is stops =
          let fails = TakesFront-flushed write_failed _ _ waiting waiting_after is flushes in
          Told-unwritten remaining r_before r contents w_before w line unread waiting taken number passed start ended at w_after waiting_after unended fails.0 fails.1
      by_fault (BadByte place) is stops = stopped (BadByte place) is refl stops
      by_fault Read is stops = stopped Read is refl stops
      by_fault Long is stops = stopped Long is refl stops
      by_fault (FrameLine n fault) is stops = absurd stops
      by_fault (ScenarioField wrong) is stops = absurd stops
      by_fault Memory is stops = absurd stops

-- ---- and after it

ChecksLines-answers : (passed count : ℕ) (ended : Bool) (input output waiting taken left : List ℕ) → ended ≡ true → waiting ≡ taken ++ left → ChecksEach passed count input (output ++ waiting)
    → BeginsChecking ended input (output ++ taken)
ChecksLines-answers passed count ended input output waiting taken left is_ended split each = inl (record {
  good = lines_of input;
  others = [];
  rest = left;
  lines = ap (λ b. whole_lines b input) is_ended ∙ sym (append-nil (lines_of input));
  answers = ChecksLines-split _ output waiting taken left split (passed, each.checks);
})

-- more bytes are left of what was begun
moved : (output waiting taken left rest : List ℕ) → waiting ≡ taken ++ left → (output ++ waiting) ++ rest ≡ (output ++ taken) ++ (left ++ rest)
moved output waiting taken left rest split =
    ap (λ t. (output ++ t) ++ rest) split ∙ ap (λ t. t ++ rest) (sym (append_assoc output taken left)) ∙ append_assoc (output ++ taken) left rest

-- however a call ends, a part of what was to be written is a prefix of the output
pub BeginsChecking-from : (result : Result (ℕ × ℕ) TraceFault) (ended : Bool) (input output waiting taken left : List ℕ) → OnOk result (ended ≡ true) → waiting ≡ taken ++ left
    → Comes ChecksAll result ended input (output ++ waiting) → BeginsChecking ended input (output ++ taken)
BeginsChecking-from (Ok tally) ended input output waiting taken left is_ended split all = inr (record {
  ended = is_ended;
  rest = left;
  passed = tally.0;
  count = tally.1;
  checks = subst (ChecksAll tally.0 tally.1 input) (ap (λ t. output ++ t) split ∙ sym (append_assoc output taken left)) all;
})
BeginsChecking-from (Err Read) ended input output waiting taken left _ split checks = let whole = whole_lines-from_ended ended input in inl (record {
  good = ended_lines input;
  others = whole.0;
  rest = left;
  lines = whole.1;
  answers = ChecksLines-split _ output waiting taken left split checks.checks;
})
BeginsChecking-from (Err Long) ended input output waiting taken left _ split long = let whole = whole_lines-from_ended ended input in inl (record {
  good = ended_lines input;
  others = whole.0;
  rest = left;
  lines = whole.1;
  answers = ChecksLines-split _ output waiting taken left split long.checks.checks;
})
BeginsChecking-from (Err Write) ended input output waiting taken left _ split (inl begins) = inl (record {
  good = begins.good;
  others = begins.others;
  rest = left ++ begins.rest;
  lines = begins.lines;
  answers = subst (ChecksLines begins.good) (moved output waiting taken left begins.rest split) begins.answers;
})
BeginsChecking-from (Err Write) ended input output waiting taken left _ split (inr begins) = inr (record {
  ended = begins.ended;
  rest = left ++ begins.rest;
  passed = begins.passed;
  count = begins.count;
  checks = subst (ChecksAll begins.passed begins.count input) (moved output waiting taken left begins.rest split) begins.checks;
})
BeginsChecking-from (Err (FrameLine n fault)) ended input output waiting taken left _ split bad = inl (record {
  good = bad.before;
  others = bad.bad ∷ bad.after;
  rest = left;
  lines = bad.lines;
  answers = ChecksLines-split _ output waiting taken left split bad.answers;
})
BeginsChecking-from (Err (ScenarioField wrong)) ended input output waiting taken left _ split none = absurd none
BeginsChecking-from (Err Memory) ended input output waiting taken left _ split none = absurd none
BeginsChecking-from (Err (BadByte place)) ended input output waiting taken left _ split bad = let whole = whole_lines-before ended input bad.before bad.bad bad.after bad.lines in inl (record {
  good = bad.before;
  others = whole.0;
  rest = left;
  lines = whole.1;
  answers = ChecksLines-split _ output waiting taken left split bad.checks;
})

module _ {R W : Type 0} (remaining : R → Option (List ℕ)) (r_before r : R) (contents : W → Option (List ℕ)) (w_before w w_after : W) (waiting : List ℕ) where
  -- the total went into the buffer after the output for all lines
  pub Told-total : (tally : ℕ × ℕ) (ended : Bool) (waiting_now : List ℕ) → Told remaining r_before r contents w_before w (λ input output. ChecksEach tally.0 tally.1 input (output ++ waiting))
      → PassesOn (contents w) (contents w_after) waiting waiting_now (total_line tally.0 tally.1)
      → Told remaining r_before r contents w_before w_after (λ input output. Comes ChecksAll (Ok tally) ended input (output ++ waiting_now))
  Told-total tally ended waiting_now told passes =
      let total = total_line tally.0 tally.1 in
      record {
        input = told.input;
        output = told.output ++ passes.taken;
        consumes = told.consumes;
        appends = Appends-trans _ _ _ told.output passes.taken told.appends passes.appends;
        related = record {
          verdicts = told.output ++ waiting;
          checks = told.related;
          output_is = append_assoc told.output passes.taken waiting_now ∙ ap (λ t. told.output ++ t) (sym passes.same) ∙ sym (append_assoc told.output waiting total);
        };
      }

  -- the writer failed before the total was in the buffer
  pub Told-untotalled : (tally : ℕ × ℕ) (ended : Bool) → ended ≡ true → Told remaining r_before r contents w_before w (λ input output. ChecksEach tally.0 tally.1 input (output ++ waiting))
      → TakesFront (contents w) (contents w_after) waiting → Told remaining r_before r contents w_before w_after (λ input output. BeginsChecking ended input (output ++ []))
  Told-untotalled tally ended is_ended told front = record {
    input = told.input;
    output = told.output ++ front.taken;
    consumes = told.consumes;
    appends = Appends-trans _ _ _ told.output front.taken told.appends front.appends;
    related = rw (append-nil (told.output ++ front.taken)) (ChecksLines-answers tally.0 tally.1 ended told.input told.output waiting front.taken front.left is_ended front.split told.related);
  }
