-- The steps of encoding lines: a line is read, and its output goes through the buffer to the writer.
use Rattle.std.proofs.Common.{◌≡◌, ℕ, ◌+◌, ◌≤◌, ◌<◌, ◌==◌, Bool, true, false, cond, List, [], ◌∷◌, ◌++◌, length, take, Option, refl, sym, ap, subst, ◌∙◌, append_assoc, arith, eqb-true, eq-eqb}
use Rattle.std.proofs.lemmas.List.{append-nil, length-append, length-take, length_push, flat_map_more}
use Rattle.std.proofs.lemmas.Bool.{false≢true}
use Rattle.std.proofs.KnownBytes.{Consumes-nil, Consumes-trans, Appends-trans, Appends-nil}
use Rattle.std.specs.Io.KnownBytes.{Consumes, Appends}
use Rattle.std.specs.List.{flat_map, AllByRecursion}
use Rattle.can_stream.specs.Lines.{with_end, lines_of, ended_lines, whole_lines, IsLine}
use Rattle.can_stream.specs.LineReader.{ReadsLine}
use Rattle.can_texts.specs.Coded.{Codes, coded_line}
use Rattle.can_texts.specs.Answering.{EncodesLine, FailsToAnswer}
use Rattle.can_stream.specs.Outbox.{PassesOn}
use Rattle.can_stream.specs.declared.fault.TraceFault.{TraceFault}
use Rattle.can_stream.specs.declared.fault.TraceFault.TheVariants.{BadByte, Read, Write, Long, FrameLine, ScenarioField, Memory}
use Rattle.can_stream.specs.declared.lines.LineReader.{LineReader}
use Rattle.can_stream.proofs.Elements.{AllByRecursion-append}
use Rattle.can_stream.proofs.Turns.{same-flushed}
use Rattle.can_texts.proofs.Codings.{Codes-push}
use Rattle.can_stream.proofs.LineLemmas.{open_lines, lines_of-open, ended_lines-open, ended_lines-all, lines_of-all, whole_lines-all, whole_lines-line, length-with_ends}
use Rattle.can_texts.proofs.TextLemmas.{line_from_front, IsTextFault-front, IsFrameText-front}

-- ---- the state of a run

-- `Answer` says what is written for lines.
module _ (Answer : List (List ℕ) → List ℕ → Type 0) (before after held holds : Option (List ℕ)) where
  -- Since the call began, an input was read: these lines, each with its end, and the unread bytes.
  -- The output for the lines is with the writer and in the buffer.
  pub record Answering (unread waiting : List ℕ) (taken number : ℕ) : Type 0 where
    pub input : List ℕ
    pub output : List ℕ
    pub lines : List (List ℕ)
    pub consumes : Consumes before after input
    pub appends : Appends held holds output
    pub counted : taken ≡ length input
    pub each : AllByRecursion IsLine lines
    pub split : input ≡ flat_map with_end lines ++ unread
    pub answer : Answer lines (output ++ waiting)
    pub number_is : number ≡ length lines

  -- This, followed by one more line, with its end if that was found.
  pub record AtLine (found : Bool) (line unread waiting : List ℕ) (taken number : ℕ) : Type 0 where
    pub input : List ℕ
    pub output : List ℕ
    pub lines : List (List ℕ)
    pub consumes : Consumes before after input
    pub appends : Appends held holds output
    pub counted : taken ≡ length input
    pub each : AllByRecursion IsLine lines
    pub is_line : IsLine line
    pub split : input ≡ flat_map with_end lines ++ (line ++ cond found (10 ∷ unread) [])
    pub answer : Answer lines (output ++ waiting)
    pub number_is : number ≡ length lines

-- nothing was read so far
pub Answering-none : (Answer : List (List ℕ) → List ℕ → Type 0) (before held : Option (List ℕ)) → Answer [] [] → Answering Answer before before held held [] [] 0 0
Answering-none Answer before held none = record {
  input = [];
  output = [];
  lines = [];
  consumes = Consumes-nil before;
  appends = Appends-nil held;
  counted = refl;
  each = tt;
  split = refl;
  answer = none;
  number_is = refl;
}

-- a line was read
pub AtLine-read : (Answer : List (List ℕ) → List ℕ → Type 0) (before between after held holds : Option (List ℕ)) (found : Bool) (kept : ℕ) (old new : LineReader kept) (waiting : List ℕ) (number : ℕ)
    → Answering Answer before between held holds old.inbox.unread waiting old.inbox.taken number → (reads : ReadsLine found between after kept old new)
    → AtLine Answer before after held holds found reads.line new.inbox.unread waiting new.inbox.taken number
AtLine-read Answer before between after held holds found kept old new waiting number so_far reads =
    let given = flat_map with_end so_far.lines in
    record {
      input = so_far.input ++ reads.input;
      output = so_far.output;
      lines = so_far.lines;
      consumes = Consumes-trans before between after so_far.input reads.input so_far.consumes reads.consumes;
      appends = so_far.appends;
      counted = omega (arith, reads.taken, so_far.counted, length-append so_far.input reads.input);
      each = so_far.each;
      is_line = reads.splits.is_line;
      split = ap (λ t. t ++ reads.input) so_far.split ∙ append_assoc given old.inbox.unread reads.input ∙ ap (λ t. given ++ t) reads.splits.split;
      answer = so_far.answer;
      number_is = so_far.number_is;
    }

-- what was pending after the output so far was written
abbrev pub AtLine-flushed : (Answer : List (List ℕ) → List ℕ → Type 0) (before after held holds holds_now : Option (List ℕ)) (found : Bool) (line unread waiting waiting_now : List ℕ) (taken number : ℕ)
    → AtLine Answer before after held holds found line unread waiting taken number → PassesOn holds holds_now waiting waiting_now []
    → AtLine Answer before after held holds_now found line unread waiting_now taken number
AtLine-flushed Answer before after held holds holds_now found line unread waiting waiting_now taken number at passes = record {
  input = at.input;
  output = at.output ++ passes.taken;
  lines = at.lines;
  consumes = at.consumes;
  appends = Appends-trans held holds holds_now at.output passes.taken at.appends passes.appends;
  counted = at.counted;
  each = at.each;
  is_line = at.is_line;
  split = at.split;
  answer = subst (Answer at.lines) (same-flushed holds holds_now at.output waiting waiting_now passes) at.answer;
  number_is = at.number_is;
}

-- one more line was encoded
pub Codes-answered : (lines : List (List ℕ)) (output line waiting waiting_now : List ℕ) (held holds : Option (List ℕ)) → Codes lines (output ++ waiting)
    → (answers : EncodesLine line held holds waiting waiting_now) → Codes (lines ++ line ∷ []) ((output ++ answers.passes.taken) ++ waiting_now)
Codes-answered lines output line waiting waiting_now held holds codes answers =
    let put = coded_line answers.frame in
    let taken = answers.passes.taken in
    let passed : (output ++ waiting) ++ put ≡ (output ++ taken) ++ waiting_now =
    append_assoc output waiting put ∙ ap (λ t. output ++ t) answers.passes.same ∙ sym (append_assoc output taken waiting_now) in
    subst (Codes (lines ++ line ∷ [])) passed (Codes-push lines (output ++ waiting) line answers.frame codes answers.is_frame answers.text)

-- the output for an ended line was appended
pub Answering-more : (Answer AnswerNow : List (List ℕ) → List ℕ → Type 0) (before after held holds holds_now : Option (List ℕ)) (line unread waiting waiting_now put : List ℕ) (taken number : ℕ)
    → (at : AtLine Answer before after held holds true line unread waiting taken number) → (passes : PassesOn holds holds_now waiting waiting_now put)
    → AnswerNow (at.lines ++ line ∷ []) ((at.output ++ passes.taken) ++ waiting_now) → Answering AnswerNow before after held holds_now unread waiting_now taken (number + 1)
Answering-more Answer AnswerNow before after held holds holds_now line unread waiting waiting_now put taken number at passes answer =
    let given = flat_map with_end at.lines in
    let all : given ++ with_end line ≡ flat_map with_end (at.lines ++ line ∷ []) = flat_map_more with_end [] at.lines line in
    record {
      input = at.input;
      output = at.output ++ passes.taken;
      lines = at.lines ++ line ∷ [];
      consumes = at.consumes;
      appends = Appends-trans held holds holds_now at.output passes.taken at.appends passes.appends;
      counted = at.counted;
      each = AllByRecursion-append IsLine at.lines (line ∷ []) at.each (at.is_line, tt);
      split = at.split ∙ ap (λ t. given ++ t) (sym (append_assoc line (10 ∷ []) unread)) ∙ sym (append_assoc given (with_end line) unread) ∙ ap (λ t. t ++ unread) all;
      answer = answer;
      number_is = omega (arith, at.number_is, length_push at.lines line);
    }

pub Answering-answered : (before after held holds holds_now : Option (List ℕ)) (line unread waiting waiting_now : List ℕ) (taken number : ℕ)
    → AtLine Codes before after held holds true line unread waiting taken number → EncodesLine line holds holds_now waiting waiting_now
    → Answering Codes before after held holds_now unread waiting_now taken (number + 1)
Answering-answered before after held holds holds_now line unread waiting waiting_now taken number at answers =
    Answering-more Codes Codes before after held holds holds_now line unread waiting waiting_now (coded_line answers.frame) taken number at answers.passes
    (Codes-answered at.lines at.output line waiting waiting_now holds holds_now at.answer answers)

-- ---- which lines are whole

module _ {Answer : List (List ℕ) → List ℕ → Type 0} {before after held holds : Option (List ℕ)} {line unread waiting : List ℕ} {taken number : ℕ} where
  -- an ended line is among the whole lines
  pub whole_lines-ended : (ended : Bool) (at : AtLine Answer before after held holds true line unread waiting taken number)
      → whole_lines ended at.input ≡ at.lines ++ line ∷ whole_lines ended unread
  whole_lines-ended ended at =
      ap (whole_lines ended) at.split ∙ whole_lines-all ended at.lines (line ++ 10 ∷ unread) at.each
      ∙ ap (λ ls. at.lines ++ ls) (whole_lines-line ended line unread at.is_line)

  module _ (at : AtLine Answer before after held holds false line unread waiting taken number) where
    -- the last line, that isn't ended, is among the lines if it has bytes
    pub lines_of-last : lines_of at.input ≡ at.lines ++ open_lines line
    lines_of-last =
        ap lines_of at.split ∙ lines_of-all at.lines (line ++ []) at.each
        ∙ ap (λ t. at.lines ++ lines_of t) (append-nil line) ∙ ap (λ ls. at.lines ++ ls) (lines_of-open line at.is_line)

    -- and not among the ended ones
    pub ended_lines-last : ended_lines at.input ≡ at.lines
    ended_lines-last =
        ap ended_lines at.split ∙ ended_lines-all at.lines (line ++ []) at.each
        ∙ ap (λ t. at.lines ++ ended_lines t) (append-nil line) ∙ ap (λ ls. at.lines ++ ls) (ended_lines-open line at.is_line)
        ∙ append-nil at.lines

-- ---- how many lines there are

module _ (Answer : List (List ℕ) → List ℕ → Type 0) (before after held holds : Option (List ℕ)) (line unread waiting : List ℕ) (taken number : ℕ) where
  pub number_below-ended : AtLine Answer before after held holds true line unread waiting taken number → number + 1 ≤ taken
  number_below-ended at =
      let given = flat_map with_end at.lines in
      omega (
        arith,
        at.counted,
        at.number_is,
        ap length at.split,
        length-append given (line ++ 10 ∷ unread),
        length-append line (10 ∷ unread),
        length-with_ends at.lines,
      )

  pub number_below-last : (kept : ℕ) → AtLine Answer before after held holds false line unread waiting taken number → (length (take kept line) == 0) ≡ false → number + 1 ≤ taken
  number_below-last kept at some =
      let given = flat_map with_end at.lines in
      let there : ¬ (length (take kept line) ≡ 0) = λ none. false≢true (sym some ∙ eq-eqb _ _ none) in
      omega (
        arith,
        at.counted,
        at.number_is,
        ap length at.split,
        length-append given (line ++ []),
        length-append line [],
        length-with_ends at.lines,
        length-take kept line,
        there,
      )

-- ---- a line of which the first bytes are kept

pub EncodesLine-front : (line : List ℕ) (held holds : Option (List ℕ)) (old new : List ℕ) → EncodesLine (take 33 line) held holds old new → EncodesLine line held holds old new
EncodesLine-front line held holds old new answers = record {
  frame = answers.frame;
  is_frame = answers.is_frame;
  text = line_from_front answers.frame line answers.is_frame answers.text;
  passes = answers.passes;
}

pub FailsToAnswer-front : (e : TraceFault) (number : ℕ) (line : List ℕ) (held holds : Option (List ℕ)) (old new : List ℕ)
    → FailsToAnswer e number (take 33 line) held holds old new → FailsToAnswer e number line held holds old new
FailsToAnswer-front Write number line held holds old new fails = fails
FailsToAnswer-front (FrameLine n fault) number line held holds old new fails = (fails.0, λ text. fails.1 (IsFrameText-front line text), IsTextFault-front line fault fails.2, fails.3, fails.4)
FailsToAnswer-front (BadByte place) number line held holds old new fails = fails
FailsToAnswer-front Read number line held holds old new fails = fails
FailsToAnswer-front Long number line held holds old new fails = fails
FailsToAnswer-front (ScenarioField wrong) number line held holds old new fails = fails
FailsToAnswer-front Memory number line held holds old new fails = fails

pub empty_from_front : (kept : ℕ) (line : List ℕ) → 0 < kept → (length (take kept line) == 0) ≡ true → line ≡ []
empty_from_front kept [] some h = refl
empty_from_front kept (byte ∷ line) some h = let none = eqb-true _ _ h in absurd (omega (arith, length-take kept (byte ∷ line)))

pub open_from_front : (kept : ℕ) (line : List ℕ) → (length (take kept line) == 0) ≡ false → open_lines line ≡ line ∷ []
open_from_front kept [] h = absurd (false≢true (sym h ∙ eq-eqb _ _ (omega (arith, length-take {A = ℕ} kept []))))
open_from_front kept (byte ∷ line) h = refl
