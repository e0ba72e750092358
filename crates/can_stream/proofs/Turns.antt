-- What waits is written before each read.
use Rattle.std.proofs.Common.{◌≡◌, ℕ, ◌++◌, Bool, true, false, List, [], Option, refl, sym, ap, subst, ◌∙◌, append_assoc, append-nil}
use Rattle.std.proofs.KnownBytes.{Appends-nil}
use Rattle.can_stream.specs.Faults.{is_write}
use Rattle.can_stream.specs.Inbox.{StopsReading}
use Rattle.can_stream.specs.Outbox.{Flushes, PassesOn, TakesFront}
use Rattle.can_stream.specs.declared.fault.TraceFault.{TraceFault}
use Rattle.can_stream.specs.declared.fault.TraceFault.TheVariants.{BadByte, Read, Write, Long, FrameLine, ScenarioField, Memory}
use Rattle.can_stream.proofs.PutParts.{PassesOn-joined, TakesFront-joined}

-- ---- what waits

-- nothing was written
pub PassesOn-none : (held : Option (List ℕ)) (waiting : List ℕ) → PassesOn held held waiting waiting []
PassesOn-none held waiting = record { taken = []; appends = Appends-nil held; same = append-nil waiting }

-- first some of it, and then more, or the writer failed
pub Flushes-joined : (failed : Bool) (held mid holds : Option (List ℕ)) (old between new : List ℕ) → PassesOn held mid old between [] → Flushes failed mid holds between new → Flushes failed held holds old new
Flushes-joined false held mid holds old between new passes more = PassesOn-joined held mid holds old between new [] [] passes more
Flushes-joined true held mid holds old between new passes fails =
    let front = subst (TakesFront mid holds) (sym (append-nil between)) fails.0 in
    (subst (TakesFront held holds) (append-nil old) (TakesFront-joined held mid holds old between [] [] passes front), fails.1)

-- if no write failed
pub PassesOn-flushed : (failed : Bool) (held holds : Option (List ℕ)) (old new : List ℕ) → failed ≡ false → Flushes failed held holds old new → PassesOn held holds old new []
PassesOn-flushed failed held holds old new unfailed = subst (λ b. Flushes b held holds old new) unfailed

-- if one did
pub TakesFront-flushed : (failed : Bool) (held holds : Option (List ℕ)) (old new : List ℕ) → failed ≡ true → Flushes failed held holds old new → TakesFront held holds old × (new ≡ [])
TakesFront-flushed failed held holds old new is_failed = subst (λ b. Flushes b held holds old new) is_failed

-- the output so far and what waits are the same bytes as before
pub same-flushed : (held holds : Option (List ℕ)) (output waiting waiting_now : List ℕ) → (passes : PassesOn held holds waiting waiting_now []) → output ++ waiting ≡ (output ++ passes.taken) ++ waiting_now
same-flushed held holds output waiting waiting_now passes =
    ap (λ t. output ++ t) (sym (append-nil waiting) ∙ passes.same) ∙ sym (append_assoc output passes.taken waiting_now)

-- ---- why no more is read

-- if the reader stops, the cause is not a failed write
pub unwritten : (fault : TraceFault) (failed : Bool) (taken : ℕ) → StopsReading fault failed taken → is_write fault ≡ false
unwritten Read failed taken stops = refl
unwritten Long failed taken stops = refl
unwritten Write failed taken stops = absurd stops
unwritten (BadByte place) failed taken stops = absurd stops
unwritten (FrameLine n fault) failed taken stops = absurd stops
unwritten (ScenarioField wrong) failed taken stops = absurd stops
unwritten Memory failed taken stops = absurd stops
