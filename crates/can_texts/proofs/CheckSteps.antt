-- The steps of checking lines: a line is read, and its verdict goes through the buffer to the writer.
use Rattle.std.proofs.Common.{◌≡◌, ℕ, ◌+◌, ◌^◌, ◌<◌, ◌≤◌, inl, inr, Bool, true, false, cond, List, [], ◌∷◌, ◌++◌, length, take, Option, refl, sym, ap, subst, ◌∙◌, append_assoc, arith}
use Rattle.std.proofs.lemmas.List.{length-append, length-take, flat_map_more}
use Rattle.std.specs.List.{flat_map}
use Rattle.can_stream.specs.Lines.{with_end}
use Rattle.can_stream.specs.LineReader.{ReadsLine}
use Rattle.can_stream.specs.Inbox.{StopsTurn}
use Rattle.can_texts.specs.Checked.{passed_by, passed_in, vector_verdict_line, Checks, IsVectorVerdict, Judged}
use Rattle.can_texts.specs.Checking.{IsOpenFault, Judges, StopsChecking}
use Rattle.can_stream.specs.declared.fault.TraceFault.{TraceFault}
use Rattle.can_stream.specs.declared.fault.TraceFault.TheVariants.{BadByte, Read, Write, Long, FrameLine, ScenarioField, Memory}
use Rattle.can_stream.specs.declared.lines.LineReader.{LineReader}
use Rattle.can_texts.specs.declared.lines.vector.Verdict.{Verdict}
use Rattle.can_texts.proofs.Answering.{AtLine}
use Rattle.can_texts.proofs.VectorFronts.{IsVectorVerdict-front}

-- the output for lines of which n pass
abbrev pub Passing : ℕ → List (List ℕ) → List ℕ → Type 0
Passing passed lines output = Checks lines passed output

-- ---- the output so far

pub Checks-none : Checks [] 0 []
Checks-none = record { verdicts = []; judged = tt; passed_is = refl; output_is = refl }

Judged-push : (lines : List (List ℕ)) (verdicts : List Verdict) (line : List ℕ) (verdict : Verdict) → Judged lines verdicts → IsVectorVerdict line verdict
    → Judged (lines ++ line ∷ []) (verdicts ++ verdict ∷ [])
Judged-push [] [] line verdict h is = (is, tt)
Judged-push [] (v ∷ vs) line verdict h is = absurd h
Judged-push (l ∷ ls) [] line verdict h is = absurd h
Judged-push (l ∷ ls) (v ∷ vs) line verdict h is = (h.0, Judged-push ls vs line verdict h.1 is)

passed_in-push : (verdicts : List Verdict) (verdict : Verdict) → passed_in (verdicts ++ verdict ∷ []) ≡ passed_in verdicts + passed_by verdict
passed_in-push [] verdict = omega arith
passed_in-push (v ∷ vs) verdict = let rest = passed_in-push vs verdict in omega (arith, rest)

pub Checks-push : (lines : List (List ℕ)) (passed : ℕ) (output line : List ℕ) (verdict : Verdict) (more : ℕ) → Checks lines passed output → IsVectorVerdict line verdict → more ≡ passed_by verdict
    → Checks (lines ++ line ∷ []) (passed + more) (output ++ vector_verdict_line verdict)
Checks-push lines passed output line verdict more checks is more_is = record {
  verdicts = checks.verdicts ++ verdict ∷ [];
  judged = Judged-push lines checks.verdicts line verdict checks.judged is;
  passed_is = omega (arith, checks.passed_is, more_is, passed_in-push checks.verdicts verdict);
  output_is = ap (λ t. t ++ vector_verdict_line verdict) checks.output_is ∙ flat_map_more vector_verdict_line [] checks.verdicts verdict;
}

-- one more line was checked, of which the first bytes are kept
pub Checks-answered : (lines : List (List ℕ)) (passed more : ℕ) (output line waiting waiting_now : List ℕ) (held holds : Option (List ℕ)) → Checks lines passed (output ++ waiting)
    → (judges : Judges (take 193 line) more held holds waiting waiting_now) → Checks (lines ++ line ∷ []) (passed + more) ((output ++ judges.put.taken) ++ waiting_now)
Checks-answered lines passed more output line waiting waiting_now held holds checks judges =
    let put = vector_verdict_line judges.verdict in
    let taken = judges.put.taken in
    let moved : (output ++ waiting) ++ put ≡ (output ++ taken) ++ waiting_now =
    append_assoc output waiting put ∙ ap (λ t. output ++ t) judges.put.same ∙ sym (append_assoc output taken waiting_now) in
    subst (Checks (lines ++ line ∷ []) (passed + more)) moved
    (Checks-push lines passed (output ++ waiting) line judges.verdict more checks (IsVectorVerdict-front line judges.verdict judges.is_verdict) judges.passed_is)

-- ---- the beginning of a line

-- the line that was read begins at the first byte that was unread
pub behind_start : (found : Bool) (before after : Option (List ℕ)) (old new : LineReader 193) (start : ℕ) (reads : ReadsLine found before after 193 old new)
    → start + length old.inbox.unread ≡ old.inbox.taken → start + length (reads.line ++ cond found (10 ∷ new.inbox.unread) []) ≡ new.inbox.taken
behind_start found before after old new start reads is =
    omega (arith, is, reads.taken, ap length reads.splits.split, length-append old.inbox.unread reads.input)

pub line_fits : (line rest : List ℕ) (start taken : ℕ) → start + length (line ++ rest) ≡ taken → taken < 2 ^ 64 → start + length (take 193 line) < 2 ^ 64
line_fits line rest start taken is fits = omega (arith, is, fits, length-append line rest, length-take 193 line)

-- that is after the lines before it
pub start_is : (found : Bool) (Answer : List (List ℕ) → List ℕ → Type 0) (before after held holds : Option (List ℕ)) (line unread waiting : List ℕ) (taken number start : ℕ)
    → (at : AtLine Answer before after held holds found line unread waiting taken number) → start + length (line ++ cond found (10 ∷ unread) []) ≡ taken
    → start ≡ length (flat_map with_end at.lines)
start_is found Answer before after held holds line unread waiting taken number start at is =
    omega (arith, is, at.counted, ap length at.split, length-append (flat_map with_end at.lines) (line ++ cond found (10 ∷ unread) []))

pub unread_within : (Answer : List (List ℕ) → List ℕ → Type 0) (before after held holds : Option (List ℕ)) (line unread waiting : List ℕ) (taken number : ℕ)
    → AtLine Answer before after held holds true line unread waiting taken number → length unread ≤ taken
unread_within Answer before after held holds line unread waiting taken number at =
    omega (arith, at.counted, ap length at.split, length-append (flat_map with_end at.lines) (line ++ 10 ∷ unread), length-append line (10 ∷ unread))

-- ---- a line in which no more is read

-- the writer failed
pub StopsChecking-unwritten : (fault : TraceFault) (start : ℕ) (line : List ℕ) (failed : Bool) (taken : ℕ) → (fault ≡ Write) × (failed ≡ false) → StopsChecking fault start line failed taken
StopsChecking-unwritten fault start line failed taken stops = subst (λ e. StopsChecking e start line failed taken) (sym stops.0) stops.1

pub StopsChecking-from : (fault result : TraceFault) (start : ℕ) (line : List ℕ) (failed : Bool) (taken : ℕ) → StopsTurn fault failed taken → IsOpenFault start line fault result
    → StopsChecking result start line failed taken
StopsChecking-from fault result start line failed taken stops (inl bad) = subst (λ e. StopsChecking e start line failed taken) (sym bad.1) bad.2
StopsChecking-from fault result start line failed taken stops (inr good) = subst (λ e. StopsChecking e start line failed taken) (sym good.0) (same fault stops)
  where
    same : (e : TraceFault) → StopsTurn e failed taken → StopsChecking e start line failed taken
    same e (inl stops) = StopsChecking-unwritten e start line failed taken stops
    same Read (inr stops) = (stops, good.1)
    same Long (inr stops) = (stops.0, stops.1, good.1)
    same Write (inr stops) = absurd stops
    same (BadByte place) (inr stops) = absurd stops
    same (FrameLine n f) (inr stops) = absurd stops
    same (ScenarioField wrong) (inr stops) = absurd stops
    same Memory (inr stops) = absurd stops
