-- What a stream's fault says of what was read and written, and how a subcommand ends.
use Rattle.std.proofs.Common.{◌≡◌, ◌≢◌, ◌⊎◌, ◌<◌, ap, arith, eqb, inl, inr, refl, sym, ◌∙◌, ℕ, Bool, true, false, List, Option, Result, Ok, Err, IsTrue}
use Rattle.std.proofs.lemmas.Bool.{eqb-false}
use Rattle.std.specs.Io.KnownBytes.{IsAtEnd}
use Rattle.std.specs.Result.{IsErrOf}
use Rattle.can_texts.specs.Checked.{ChecksAll}
use Rattle.can_stream.specs.Told.{Told}
use Rattle.can_stream.specs.declared.fault.TraceFault.{TraceFault}
use Rattle.can_stream.specs.declared.fault.TraceFault.TheVariants.{BadByte, ScenarioField, Read, Write, Memory, Long, FrameLine}
use Rattle.canbit_commands.specs.declared.subcommands.Chosen.{Chosen}
use Rattle.canbit_commands.specs.declared.subcommands.Chosen.TheVariants.{Run, Check}
use Rattle.canbit_commands.specs.Answers.{AnswersAll, AnswersEnded, AnswersTooLong, BeginsAnswering, HasBadByte, HasBadLine, HasWrongField, PassesAll, RefusesInput}
use Rattle.canbit_commands.specs.Ends.{Ends}
use Rattle.can_program.specs.Status.{stream_status}

-- two numbers that differ as they are computed
pub apart : {m n : ℕ} → m ≡ n → eqb m n ≡ false → ⊥
apart {m} {n} same differ = eqb-false m n differ same

-- what is so is not otherwise
pub not-both-so : {b : Bool} → IsTrue b → b ≡ false → ⊥
not-both-so so not_so = cc

-- ---- the kinds of a stream's faults, by which two of them differ

abbrev pub kind : TraceFault → ℕ
kind (BadByte place) = 0
kind (ScenarioField wrong) = 1
kind Read = 2
kind Write = 3
kind Memory = 4
kind Long = 5
kind (FrameLine number fault) = 6

-- the fault of a result that is another is that
pub the-same : {T : Type 0} {fault other : TraceFault} → IsErrOf {T = T} (Err fault) other → fault ≡ other
the-same e = cc

-- a fault is not one of another kind
pub unlike : {T : Type 0} {fault own other : TraceFault} → fault ≡ own → IsErrOf {T = T} (Err fault) other → eqb (kind own) (kind other) ≡ false → ⊥
unlike {T} {fault} {own} {other} is e differ =
    let same : own ≡ other = sym is ∙ the-same e in
    apart (ap kind same) differ

-- a fault of one result is that of another
pub as-well : {T S : Type 0} {fault other : TraceFault} → IsErrOf {T = T} (Err fault) other → IsErrOf {T = S} (Err fault) other
as-well e = ap Err (the-same e)

-- what is done has no fault
pub not-ok : {T : Type 0} {done : T} {fault : TraceFault} → IsErrOf (Ok done) fault → ⊥
not-ok e = cc

-- ---- the statuses of a stream's faults

not-done : (fault : TraceFault) → stream_status fault ≡ 0 → ⊥
not-done (BadByte place) is = apart is refl
not-done (ScenarioField wrong) is = apart is refl
not-done Read is = apart is refl
not-done Write is = apart is refl
not-done Memory is = apart is refl
not-done Long is = apart is refl
not-done (FrameLine number fault) is = apart is refl

of-stream : (fault : TraceFault) → stream_status fault ≡ 3 → (fault ≡ Read) ⊎ (fault ≡ Write)
of-stream (BadByte place) is = absurd (apart is refl)
of-stream (ScenarioField wrong) is = absurd (apart is refl)
of-stream Read is = inl refl
of-stream Write is = inr refl
of-stream Memory is = absurd (apart is refl)
of-stream Long is = absurd (apart is refl)
of-stream (FrameLine number fault) is = absurd (apart is refl)

of-memory : (fault : TraceFault) → stream_status fault ≡ 4 → fault ≡ Memory
of-memory (BadByte place) is = absurd (apart is refl)
of-memory (ScenarioField wrong) is = absurd (apart is refl)
of-memory Read is = absurd (apart is refl)
of-memory Write is = absurd (apart is refl)
of-memory Memory is = refl
of-memory Long is = absurd (apart is refl)
of-memory (FrameLine number fault) is = absurd (apart is refl)

-- a status that exists, and that is not the one for words
abbrev IsProper : ℕ → Type 0
IsProper status = (status < 5) × (status ≢ 2)

proper-0 : IsProper 0
proper-0 = (omega arith, λ is. omega arith)

proper-1 : IsProper 1
proper-1 = (omega arith, λ is. omega arith)

proper-3 : IsProper 3
proper-3 = (omega arith, λ is. omega arith)

proper-4 : IsProper 4
proper-4 = (omega arith, λ is. omega arith)

limits : (fault : TraceFault) → IsProper (stream_status fault)
limits (BadByte place) = proper-1
limits (ScenarioField wrong) = proper-1
limits Read = proper-3
limits Write = proper-3
limits Memory = proper-4
limits Long = proper-1
limits (FrameLine number fault) = proper-1

-- why a call ended if the reader failed
abbrev pub Cause : TraceFault → Type 0
Cause fault = (fault ≡ Read) ⊎ ((fault ≡ Write) ⊎ ((place : ℕ) × (fault ≡ BadByte place)))

-- the reader's failure is the cause unless the writer has failed too
pub told-cause : (has_failed is_cut : Bool) (fault : TraceFault) → ((IsTrue has_failed × (is_cut ≡ false)) → fault ≡ Read) → (IsTrue is_cut → fault ≡ Write) → IsTrue has_failed → Cause fault
told-cause has_failed true fault read write failed = inr (inl (write refl))
told-cause has_failed false fault read write failed = inl (read (failed, refl))

-- a reader that failed, in a call that did not end because of it
pub not-both : (has_failed is_cut : Bool) → IsTrue has_failed → ((IsTrue has_failed × (is_cut ≡ false)) → ⊥) → (IsTrue is_cut → ⊥) → ⊥
not-both has_failed true failed whole uncut = uncut refl
not-both has_failed false failed whole uncut = whole (failed, refl)

-- the cause as a contract of `check_lines` has it
abbrev ToldCause : {T : Type 0} → Result T TraceFault → Type 0
ToldCause r = IsErrOf r Read ⊎ (IsErrOf r Write ⊎ ((place : ℕ) × IsErrOf r (BadByte place)))

pub caused : {T : Type 0} (fault : TraceFault) → ToldCause {T = T} (Err fault) → Cause fault
caused fault (inl e) = inl (the-same e)
caused fault (inr (inl e)) = inr (inl (the-same e))
caused fault (inr (inr at)) = inr (inr (at.0, the-same at.1))

pub uncaused : {T : Type 0} {x : T} → ToldCause (Ok x) → ⊥
uncaused (inl e) = not-ok e
uncaused (inr (inl e)) = not-ok e
uncaused (inr (inr at)) = not-ok at.1

module _ {R W : Type 0} (remaining : R → Option (List ℕ)) (before after : R) (contents : W → Option (List ℕ)) (held holds : W) where
  -- what was read and written is related in this way
  abbrev Says : (List ℕ → List ℕ → Type 0) → Type 0
  Says Related = Told remaining before after contents held holds Related

  pub weaker : (P Q : List ℕ → List ℕ → Type 0) → ((input output : List ℕ) → P input output → Q input output) → Says P → Says Q
  weaker P Q follows told = record {
    input = told.input;
    output = told.output;
    consumes = told.consumes;
    appends = told.appends;
    related = follows told.input told.output told.related;
  }

  -- a fault with status 1 is that of a refused input
  pub refused : (chosen : Chosen) (reader_ended : Bool) (fault : TraceFault) → stream_status fault ≡ 1
      → ((place : ℕ) → fault ≡ BadByte place → Says (HasBadByte chosen place))
      → (fault ≡ Long → Says (AnswersTooLong chosen))
      → ((number : ℕ) (text_fault : _) → fault ≡ FrameLine number text_fault → Says (HasBadLine chosen number reader_ended))
      → ((wrong : _) → fault ≡ ScenarioField wrong → Says (HasWrongField chosen reader_ended))
      → Says (RefusesInput chosen reader_ended)
  refused chosen reader_ended (BadByte place) is byte long line field = weaker _ _ (λ input output h. inl (place, h)) (byte place refl)
  refused chosen reader_ended (ScenarioField wrong) is byte long line field = weaker _ _ (λ input output h. inr (inr (inr (inr h)))) (field wrong refl)
  refused chosen reader_ended Read is byte long line field = absurd (apart is refl)
  refused chosen reader_ended Write is byte long line field = absurd (apart is refl)
  refused chosen reader_ended Memory is byte long line field = absurd (apart is refl)
  refused chosen reader_ended Long is byte long line field = weaker _ _ (λ input output h. inr (inr (inl h))) (long refl)
  refused chosen reader_ended (FrameLine number fault) is byte long line field = weaker _ _ (λ input output h. inr (inl (number, h))) (line number fault refl)

  -- all pass
  pub passes_all : (passed count : ℕ) → passed ≡ count → Says (ChecksAll passed count) → Says PassesAll
  passes_all passed count same told = weaker _ PassesAll (λ input output checks. (count, rw same at checks)) told

  -- not all pass
  pub passes_not_all : (passed count : ℕ) (reader_ended : Bool) → passed ≢ count → IsTrue reader_ended → Says (ChecksAll passed count) → Says (RefusesInput Check reader_ended)
  passes_not_all passed count reader_ended differ ended told =
      weaker _ (RefusesInput Check reader_ended) (λ input output checks. inr (inr (inr (inl (ended, (passed, (count, differ, checks))))))) told

  -- ---- how a subcommand ends

  module _ (has_ended has_failed is_cut : Bool) where
    abbrev Ended : Chosen → ℕ → Type 0
    Ended chosen status = Ends remaining before after contents held holds has_ended has_failed is_cut chosen status

    -- all was done
    pub finished : (chosen : Chosen) → Says (AnswersAll chosen) → IsTrue has_ended → IsAtEnd (remaining after) → (IsTrue has_failed → ⊥) → (IsTrue is_cut → ⊥) → Ended chosen 0
    finished chosen done ended at_end unfailed uncut = record {
      all_done = λ is. done;
      all_read = λ is. (ended, at_end);
      input_refused = λ is. absurd (apart is refl);
      reader_failed = λ is whole. absurd (apart is refl);
      writer_failed = λ cut. absurd (uncut cut);
      stream_failed = λ is. absurd (apart is refl);
      write_told = λ cut. absurd (uncut cut);
      read_told = λ failed. absurd (unfailed failed);
      limit = proper-0.0;
      no_misuse = proper-0.1;
      unwritten = λ is. absurd (apart is refl);
      memory = λ is. absurd (apart is refl);
    }

    -- vectors differ
    pub differing : Says (RefusesInput Check has_ended) → (IsTrue has_failed → ⊥) → (IsTrue is_cut → ⊥) → Ended Check 1
    differing refusal unfailed uncut = record {
      all_done = λ is. absurd (apart is refl);
      all_read = λ is. absurd (apart is refl);
      input_refused = λ is. refusal;
      reader_failed = λ is whole. absurd (apart is refl);
      writer_failed = λ cut. absurd (uncut cut);
      stream_failed = λ is. absurd (apart is refl);
      write_told = λ cut. absurd (uncut cut);
      read_told = λ failed. absurd (unfailed failed);
      limit = proper-1.0;
      no_misuse = proper-1.1;
      unwritten = λ is. absurd (apart is refl);
      memory = λ is. absurd (apart is refl);
    }

    failed-or-cut : (fault : TraceFault) → (fault ≡ Read → IsTrue has_failed) → (fault ≡ Write → IsTrue is_cut) → (fault ≡ Read) ⊎ (fault ≡ Write) → IsTrue has_failed ⊎ IsTrue is_cut
    failed-or-cut fault read write (inl is) = inl (read is)
    failed-or-cut fault read write (inr is) = inr (write is)

    read-if-uncut : (fault : TraceFault) → (fault ≡ Write → IsTrue is_cut) → is_cut ≡ false → (fault ≡ Read) ⊎ (fault ≡ Write) → fault ≡ Read
    read-if-uncut fault write uncut (inl is) = is
    read-if-uncut fault write uncut (inr is) = absurd (not-both-so (write is) uncut)

    by-cause : (chosen : Chosen) (fault : TraceFault) → ((place : ℕ) → fault ≡ BadByte place → Says (HasBadByte chosen place)) → Cause fault
        → (stream_status fault ≡ 3) ⊎ ((stream_status fault ≡ 1) × ((place : ℕ) × Says (HasBadByte chosen place)))
    by-cause chosen fault byte (inl is) = inl (rw is refl)
    by-cause chosen fault byte (inr (inl is)) = inl (rw is refl)
    by-cause chosen fault byte (inr (inr at)) = inr (rw at.1 refl, (at.0, byte at.0 at.1))

    -- a stream's fault ended it
    pub faulted : (chosen : Chosen) (fault : TraceFault)
        → ((place : ℕ) → fault ≡ BadByte place → Says (HasBadByte chosen place))
        → (fault ≡ Long → Says (AnswersTooLong chosen))
        → ((number : ℕ) (text_fault : _) → fault ≡ FrameLine number text_fault → Says (HasBadLine chosen number has_ended))
        → ((wrong : _) → fault ≡ ScenarioField wrong → Says (HasWrongField chosen has_ended))
        → (fault ≡ Read → Says (AnswersEnded chosen))
        → (fault ≡ Write → Says (BeginsAnswering chosen has_ended))
        → (fault ≡ Read → IsTrue has_failed)
        → (fault ≡ Write → IsTrue is_cut) → (IsTrue is_cut → fault ≡ Write)
        → (IsTrue has_failed → Cause fault)
        → (fault ≡ Memory → (chosen ≡ Run) × (holds ≡ held))
        → Ended chosen (stream_status fault)
    faulted chosen fault byte long line field read write read_failed write_failed failed_write cause memory = record {
      all_done = λ is. absurd (not-done fault is);
      all_read = λ is. absurd (not-done fault is);
      input_refused = λ is. refused chosen has_ended fault is byte long line field;
      reader_failed = λ is uncut. read (read-if-uncut fault write_failed uncut (of-stream fault is));
      writer_failed = λ cut. write (failed_write cut);
      stream_failed = λ is. failed-or-cut fault read_failed write_failed (of-stream fault is);
      write_told = λ cut. rw (failed_write cut) refl;
      read_told = λ failed. by-cause chosen fault byte (cause failed);
      limit = (limits fault).0;
      no_misuse = (limits fault).1;
      unwritten = λ is. (memory (of-memory fault is)).1;
      memory = λ is. (memory (of-memory fault is)).0;
    }
