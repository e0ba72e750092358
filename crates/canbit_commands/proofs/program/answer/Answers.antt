use Rattle.std.proofs.Common.{◌≡◌, ap, refl, rules, Err}
use Rattle.canbit_commands.proofs.Faults.{caused, differing, faulted, finished, not-both, not-ok, passes_all, passes_not_all, the-same, told-cause, uncaused, weaker}
use Rattle.canbit_commands.specs.Answers.{HasBadLine, HasWrongField}
use Rattle.canbit_commands.specs.declared.fault.CanbitFault.TheVariants.{Stream}
use Rattle.canbit_commands.specs.declared.subcommands.Chosen.TheVariants.{Encode, Decode, Run, Check}
use Rattle.canbit_commands.proofs.program.answer.Goals as goal

pub returns-in_err-encode_lines-in-Encode : goal.returns-in_err-encode_lines-in-Encode
returns-in_err-encode_lines-in-Encode g c =
    let told = c.in_err-encode_lines-in-Encode.ensures in
    let fault = c.in_err-encode_lines-in-Encode.field-0.0 in
    let outcome : c.from_residual.result ≡ Err (Stream fault) = search rules in
    let ended = g.R.Source.has_ended c.encode_lines.new.r in
    rw outcome (rw c.in-Encode.is (faulted _ _ _ _ _ _ _ _ _ Encode fault
    (λ place e. absurd (told.no_byte place (ap Err e)))
    (λ e. told.long (ap Err e))
    (λ number bad e. weaker _ _ _ _ _ _ _ (HasBadLine Encode number ended) (λ input output h. (bad, h)) (told.line number bad (ap Err e)))
    (λ wrong e. absurd (told.no_field wrong (ap Err e)))
    (λ e. told.read (ap Err e))
    (λ e. told.write (ap Err e))
    (λ e. (told.read_failed.0 (ap Err e)).0)
    (λ e. told.write_failed.0 (ap Err e))
    (λ cut. the-same (told.write_failed.1 cut))
    (λ failed. told-cause _ _ fault (λ are. the-same (told.read_failed.1 are)) (λ cut. the-same (told.write_failed.1 cut)) failed)
    (λ e. absurd (told.no_memory (ap Err e)))))

pub returns-in_err-decode_stream-in-Decode : goal.returns-in_err-decode_stream-in-Decode
returns-in_err-decode_stream-in-Decode g c =
    let told = c.in_err-decode_stream-in-Decode.ensures in
    let fault = c.in_err-decode_stream-in-Decode.field-0.0 in
    let outcome : c.from_residual-in_err-decode_stream-in-Decode.result ≡ Err (Stream fault) = search rules in
    rw outcome (rw c.in-Decode.is (faulted _ _ _ _ _ _ _ _ _ Decode fault
    (λ place e. told.byte place (ap Err e))
    (λ e. told.long (ap Err e))
    (λ number bad e. absurd (told.no_line number bad (ap Err e)))
    (λ wrong e. absurd (told.no_field wrong (ap Err e)))
    (λ e. told.read (ap Err e))
    (λ e. told.write (ap Err e))
    (λ e. (told.read_failed.0 (ap Err e)).0)
    (λ e. told.write_failed.0 (ap Err e))
    (λ cut. the-same (told.write_failed.1 cut))
    (λ failed. told-cause _ _ fault (λ are. the-same (told.read_failed.1 are)) (λ cut. the-same (told.write_failed.1 cut)) failed)
    (λ e. absurd (told.no_memory (ap Err e)))))

pub returns-in_err-run-in-Run : goal.returns-in_err-run-in-Run
returns-in_err-run-in-Run g c =
    let told = c.in_err-run-in-Run.ensures in
    let fault = c.in_err-run-in-Run.field-0.0 in
    let outcome : c.from_residual-in_err-run-in-Run.result ≡ Err (Stream fault) = search rules in
    let ended = g.R.Source.has_ended c.run.new.r in
    rw outcome (rw c.in-Run.is (faulted _ _ _ _ _ _ _ _ _ Run fault
    (λ place e. absurd (told.no_byte place (ap Err e)))
    (λ e. absurd (told.no_long (ap Err e)))
    (λ number bad e. absurd (told.no_line number bad (ap Err e)))
    (λ wrong e. weaker _ _ _ _ _ _ _ (HasWrongField Run ended) (λ input output h. (told.field_ended wrong (ap Err e), (wrong, h))) (told.field wrong (ap Err e)))
    (λ e. told.read (ap Err e))
    (λ e. weaker _ _ _ _ _ _ _ _ (λ input output h. (told.write_ended (ap Err e), h)) (told.write (ap Err e)))
    (λ e. told.read_failed.0 (ap Err e))
    (λ e. told.write_failed.0 (ap Err e))
    (λ cut. the-same (told.write_failed.1 cut))
    (λ failed. told-cause _ _ fault (λ are. the-same (told.read_failed.1 are.0)) (λ cut. the-same (told.write_failed.1 cut)) failed)
    (λ e. (refl, told.memory (ap Err e)))))

pub returns-in_err-passed-in-Check : goal.returns-in_err-passed-in-Check
returns-in_err-passed-in-Check g c =
    let told = c.in_err-passed-in-Check.ensures in
    let fault = c.in_err-passed-in-Check.field-0.0 in
    let outcome : c.from_residual-in_err-passed-in-Check.result ≡ Err (Stream fault) = search rules in
    let ended = g.R.Source.has_ended c.check_lines.new.r in
    rw outcome (rw c.in-Check.is (faulted _ _ _ _ _ _ _ _ _ Check fault
    (λ place e. told.byte place (ap Err e))
    (λ e. told.long (ap Err e))
    (λ number bad e. weaker _ _ _ _ _ _ _ (HasBadLine Check number ended) (λ input output h. (bad, h)) (told.line number bad (ap Err e)))
    (λ wrong e. absurd (told.no_field wrong (ap Err e)))
    (λ e. told.read (ap Err e))
    (λ e. told.write (ap Err e))
    (λ e. (told.read_failed (ap Err e)).0)
    (λ e. told.write_failed.0 (ap Err e))
    (λ cut. the-same (told.write_failed.1 cut))
    (λ failed. caused fault (told.failed_read failed))
    (λ e. absurd (told.no_memory (ap Err e)))))

pub returns-in_ok-encode_lines-in-Encode : goal.returns-in_ok-encode_lines-in-Encode
returns-in_ok-encode_lines-in-Encode g c =
    let told = c.in_ok-encode_lines-in-Encode.ensures in
    rw c.in-Encode.is (finished _ _ _ _ _ _ _ _ _ Encode told.ok told.ended told.at_end
    (λ failed. not-both _ _ failed (λ are. not-ok (told.read_failed.1 are)) (λ cut. not-ok (told.write_failed.1 cut)))
    (λ cut. not-ok (told.write_failed.1 cut)))

pub returns-in_ok-decode_stream-in-Decode : goal.returns-in_ok-decode_stream-in-Decode
returns-in_ok-decode_stream-in-Decode g c =
    let told = c.in_ok-decode_stream-in-Decode.ensures in
    rw c.in-Decode.is (finished _ _ _ _ _ _ _ _ _ Decode told.ok told.ended told.at_end
    (λ failed. not-both _ _ failed (λ are. not-ok (told.read_failed.1 are)) (λ cut. not-ok (told.write_failed.1 cut)))
    (λ cut. not-ok (told.write_failed.1 cut)))

pub returns-in_ok-run-in-Run : goal.returns-in_ok-run-in-Run
returns-in_ok-run-in-Run g c =
    let told = c.in_ok-run-in-Run.ensures in
    rw c.in-Run.is (finished _ _ _ _ _ _ _ _ _ Run told.ok told.ended told.at_end
    (λ failed. not-ok (told.read_failed.1 failed))
    (λ cut. not-ok (told.write_failed.1 cut)))

pub returns-then-passed-count : goal.returns-then-passed-count
returns-then-passed-count g c =
    let told = c.in_ok-passed-in-Check.ensures in
    rw c.in-Check.is (finished _ _ _ _ _ _ _ _ _ Check (passes_all _ _ _ _ _ _ _ _ c.if-passed-count.true told.ok) told.ended told.at_end
    (λ failed. uncaused (told.failed_read failed))
    (λ cut. not-ok (told.write_failed.1 cut)))

pub returns-else-passed-count : goal.returns-else-passed-count
returns-else-passed-count g c =
    let told = c.in_ok-passed-in-Check.ensures in
    rw c.in-Check.is (differing _ _ _ _ _ _ _ _ _ (passes_not_all _ _ _ _ _ _ _ _ _ c.if-passed-count.false told.ended told.ok)
    (λ failed. uncaused (told.failed_read failed))
    (λ cut. not-ok (told.write_failed.1 cut)))
