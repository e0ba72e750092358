-- A move, and what it counts.
use Rattle.std.proofs.Common.{◌≡◌, ℕ, ◌<◌, Bool, true, false, cond, Option, Some, None, refl, sym, ◌∙◌, ap, arith}
use Rattle.std.specs.Prelude.{nat_le}
use Rattle.std.proofs.lemmas.Bool.{leb-false}
use Rattle.can_frame.specs.declared.level.Level.{Level}
use Rattle.can_frame.specs.Parts.{Parts}
use Rattle.can_fault.specs.declared.cause.Cause.{Cause}
use Rattle.can_fault.specs.declared.cause.Cause.TheVariants.{ReceiverError, ReceiverFlagBit, ReceiverFirstDominant, ReceiverDominantRun, SenderError, SenderFlagBit, SenderDominantRun, PassiveUnacknowledged, FrameSent, FrameReceived}
use Rattle.can_fault.specs.Counters.{ConfineParts, counted, changed, is_bus_off}
use Rattle.can_terms.specs.declared.event.Event.TheVariants.{WentOff}
use Rattle.can_mac.specs.declared.phase.Overloads.{Overloads}
use Rattle.can_mac.specs.declared.phase.Role.TheVariants.{Receiver}
use Rattle.can_mac.specs.declared.phase.Phase.TheVariants.{Joining, Idle, StuffedPart, CrcDelimiter, AckSlot, AckDelimiter, EndOfFrame, ErrorFlag, PassiveFlag, OverloadFlag, AfterFlag, Delimiter, Intermission, Suspend, BusOff}
use Rattle.can_mac.specs.State.{MacPhase, MacState, IsMac, IsPhase, IsFrameOrNone, is_off_phase}
use Rattle.can_mac.specs.Moves.{MacMove, move}
use Rattle.can_mac.specs.Machine.{stance, state_after_move, step_or_bus_off, step_counting}
use Rattle.can_mac.proofs.KeptMoves.{move_kept}
use Rattle.can_gates.specs.Words.{number}
use Rattle.can_gates_mac.specs.declared.registers.Controller.{Controller}
use Rattle.can_gates_mac.specs.Counting.{tec_after, rec_after}
use Rattle.can_gates_mac.specs.Numbers.{Numbers, numbers, cause_number, place_number}
use Rattle.can_gates_mac.specs.Shown.{shown}
use Rattle.can_gates_mac.specs.Stepping.{HoldsCounters, IsStep, place_or_row, state_numbers}
use Rattle.can_gates_mac.proofs.ShownFields.{uncaused}

-- what goes off the bus
abbrev pub gone : Overloads → Numbers
gone o = record { phase = 14; place = 0; last = false; unacknowledged = false; first = false; sender = false; pending = o.pending; used = o.used; cause = 0; event = 10 }

on_state : (m : MacMove) (c : ConfineParts) → is_off_phase m.phase ≡ false → uncaused (numbers m) ≡ state_numbers (state_after_move m c) m.event
on_state m c e = rw e refl

off_state : (m : MacMove) (c : ConfineParts) → c.row ≡ 0 → gone m.overloads ≡ state_numbers (record { phase = BusOff; role = Receiver; overloads = m.overloads; counters = c }) (Some WentOff)
off_state m c e = rw e refl

step_or_off : (v : ℕ → Bool) (k : Controller) (m : MacMove) (c : ConfineParts) (b : Bool) → is_bus_off c ≡ b → uncaused (shown v k.wires) ≡ cond b (gone m.overloads) (uncaused (numbers m)) → HoldsCounters v k.counters c → c.row ≡ 0 → is_off_phase m.phase ≡ false → IsStep v k (step_or_bus_off m c)
step_or_off v k m c true b state counters row on = rw b (record { state = state ∙ off_state m c row; counters = counters })
step_or_off v k m c false b state counters row on = rw b (record { state = state ∙ on_state m c on; counters = counters })

not_off : (n : ℕ) → n < 256 → nat_le 256 n ≡ false
not_off n h = grind (arith, h)

counted_is : (c : ConfineParts) (cause : Cause) → c.tec < 256 → counted cause c ≡ changed cause c
counted_is c cause h = rw (not_off c.tec h) refl

-- what a cause changes, by its number
changed_is : (c : ConfineParts) (cause : Cause) → ((changed cause c).tec ≡ tec_after (cause_number (Some cause)) c.tec) × (((changed cause c).rec ≡ rec_after (cause_number (Some cause)) c.rec) × (((changed cause c).occurrences ≡ c.occurrences) × ((changed cause c).row ≡ c.row)))
changed_is c ReceiverError = (refl, (refl, (refl, refl)))
changed_is c ReceiverFlagBit = (refl, (refl, (refl, refl)))
changed_is c ReceiverFirstDominant = (refl, (refl, (refl, refl)))
changed_is c ReceiverDominantRun = (refl, (refl, (refl, refl)))
changed_is c SenderError = (refl, (refl, (refl, refl)))
changed_is c SenderFlagBit = (refl, (refl, (refl, refl)))
changed_is c SenderDominantRun = (refl, (refl, (refl, refl)))
changed_is c PassiveUnacknowledged = (refl, (refl, (refl, refl)))
changed_is c FrameSent = (refl, (refl, (refl, refl)))
changed_is c FrameReceived = (refl, (refl, (refl, refl)))

pub counting_step : (v : ℕ → Bool) (k : Controller) (m : MacMove) (c : ConfineParts) (cause : Option Cause) (off : Bool) → off ≡ nat_le 256 (number v k.counters.tec) → uncaused (shown v k.wires) ≡ cond off (gone m.overloads) (uncaused (numbers m)) → number v k.counters.tec ≡ tec_after (cause_number cause) c.tec → number v k.counters.rec ≡ rec_after (cause_number cause) c.rec → number v k.counters.occurrences ≡ c.occurrences → c.tec < 256 → c.row ≡ 0 → is_off_phase m.phase ≡ false → IsStep v k (step_counting m c cause)
counting_step v k m c None off is_off state tec rec occurrences low row on =
    let stays : off ≡ false = is_off ∙ rw tec (not_off c.tec low) in
    record { state = rw stays at state ∙ on_state m c on; counters = record { tec = tec; rec = rec; occurrences = occurrences } }
counting_step v k m c (Some cause) off is_off state tec rec occurrences low row on =
    let is = counted_is c cause low in
    let new = changed_is c cause in
    let tec_is = tec ∙ sym (ap (λ d. d.tec) is ∙ new.0) in
    step_or_off v k m (counted cause c) off (sym (is_off ∙ ap (nat_le 256) tec_is)) state (record { tec = tec_is; rec = rec ∙ sym (ap (λ d. d.rec) is ∙ new.1.0); occurrences = occurrences ∙ sym (ap (λ d. d.occurrences) is ∙ new.1.1.0) }) (ap (λ d. d.row) is ∙ new.1.1.1 ∙ row) on

pub few_causes : (cause : Option Cause) → cause_number cause < 6
few_causes None = omega arith
few_causes (Some ReceiverError) = omega arith
few_causes (Some ReceiverFlagBit) = omega arith
few_causes (Some ReceiverFirstDominant) = omega arith
few_causes (Some ReceiverDominantRun) = omega arith
few_causes (Some SenderError) = omega arith
few_causes (Some SenderFlagBit) = omega arith
few_causes (Some SenderDominantRun) = omega arith
few_causes (Some PassiveUnacknowledged) = omega arith
few_causes (Some FrameSent) = omega arith
few_causes (Some FrameReceived) = omega arith

-- A controller on the bus.

-- places fit their nibble
pub place_fits : (p : MacPhase) → IsPhase p → is_off_phase p ≡ false → place_number p < 15
place_fits (Joining row) h on = omega (arith, h)
place_fits Idle h on = omega arith
place_fits (StuffedPart front) h on = omega arith
place_fits (CrcDelimiter r) h on = omega arith
place_fits (AckSlot r) h on = omega arith
place_fits (AckDelimiter r) h on = omega arith
place_fits (EndOfFrame r place) h on = omega (arith, h.1)
place_fits (ErrorFlag place) h on = omega (arith, h)
place_fits (PassiveFlag last run unacknowledged) h on = omega (arith, h)
place_fits (OverloadFlag place) h on = omega (arith, h)
place_fits (AfterFlag first dominant) h on = omega (arith, h)
place_fits (Delimiter place) h on = omega (arith, h.1)
place_fits (Intermission place) h on = omega (arith, h)
place_fits (Suspend place) h on = omega (arith, h)
place_fits BusOff h on = omega arith

pub place_on : (m : MacState) → is_off_phase m.phase ≡ false → place_or_row m ≡ place_number m.phase
place_on m e = rw e refl

pub tec_on : (m : MacState) → IsMac m → is_off_phase m.phase ≡ false → m.counters.tec < 256
tec_on m h e = leb-false 256 m.counters.tec (sym h.off ∙ e)

-- a move stays on the bus
pub move_on : (m : MacState) (waiting : Option Parts) (x : Level) → IsMac m → IsFrameOrNone waiting → is_off_phase m.phase ≡ false → is_off_phase (move (stance m) m.phase waiting x).phase ≡ false
move_on m waiting x h w on = (move_kept (stance m) h.role h.pending h.used m.phase waiting x h.phase on w).on
