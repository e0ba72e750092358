-- The state after a bit time: that of its move, or bus off.
use Rattle.std.proofs.Common.{◌≡◌, Bool, true, false, Option, Some, None, refl, sym, subst, cond}
use Rattle.can_frame.specs.declared.level.Level.{Level}
use Rattle.can_frame.specs.Parts.{Parts}
use Rattle.can_fault.specs.declared.cause.Cause.{Cause}
use Rattle.can_fault.specs.declared.cause.Cause.TheVariants.{ReceiverError, ReceiverFlagBit, ReceiverFirstDominant, ReceiverDominantRun, SenderError, SenderFlagBit, SenderDominantRun, PassiveUnacknowledged, FrameSent, FrameReceived}
use Rattle.can_fault.specs.Counters.{ConfineParts, is_bus_off, changed, counted}
use Rattle.can_terms.specs.declared.event.Event.{Event}
use Rattle.can_terms.specs.declared.event.Event.TheVariants.{WentOff}
use Rattle.can_mac.specs.declared.phase.Phase.TheVariants.{BusOff}
use Rattle.can_mac.specs.State.{MacPhase, MacState, is_off_phase}
use Rattle.can_mac.proofs.Landing.{gone, step_off, step_on}
use Rattle.can_mac.specs.Moves.{MacMove, move}
use Rattle.can_mac.specs.Machine.{stance, state_after_move, step_counting, off_step, mac_step}

-- c and d count alike what recovery has seen
pub record SameWait (c d : ConfineParts) : Type 0 where
  pub occurrences : d.occurrences ≡ c.occurrences
  pub row : d.row ≡ c.row

-- what counts nothing leaves them
same_wait : (c : ConfineParts) → SameWait c c
same_wait c = record { occurrences = refl; row = refl }

-- what is counted for errors leaves them
changed-wait : (cause : Cause) (c : ConfineParts) → SameWait c (changed cause c)
changed-wait ReceiverError c = record { occurrences = refl; row = refl }
changed-wait ReceiverFlagBit c = record { occurrences = refl; row = refl }
changed-wait ReceiverFirstDominant c = record { occurrences = refl; row = refl }
changed-wait ReceiverDominantRun c = record { occurrences = refl; row = refl }
changed-wait SenderError c = record { occurrences = refl; row = refl }
changed-wait SenderFlagBit c = record { occurrences = refl; row = refl }
changed-wait SenderDominantRun c = record { occurrences = refl; row = refl }
changed-wait PassiveUnacknowledged c = record { occurrences = refl; row = refl }
changed-wait FrameSent c = record { occurrences = refl; row = refl }
changed-wait FrameReceived c = record { occurrences = refl; row = refl }

-- counted or not
counted-wait : (cause : Cause) (c : ConfineParts) → SameWait c (counted cause c)
counted-wait cause c = elim (is_bus_off c) as (λ b. SameWait c (cond b c (changed cause c))) [ true ↦ same_wait c | false ↦ changed-wait cause c ]

-- a move lands at its phase with its event, or off the bus
pub step_counting_at : (P : MacState → Option Event → Type 0) (v : MacMove) (c : ConfineParts) (cause : Option Cause)
    → ((d : ConfineParts) → SameWait c d → P (state_after_move v d) v.event)
    → ((d : ConfineParts) → SameWait c d → is_bus_off d ≡ true → P (gone v d) (Some WentOff))
    → P (step_counting v c cause).0 (step_counting v c cause).1
step_counting_at P v c None on off = on c (same_wait c)
step_counting_at P v c (Some cause) on off = by_test (is_bus_off (counted cause c)) refl
  where
    d : ConfineParts
    d = counted cause c

    by_test : (b : Bool) → is_bus_off d ≡ b → P (cond {A = MacState × Option Event} b (gone v d, Some WentOff) (state_after_move v d, v.event)).0 (cond {A = MacState × Option Event} b (gone v d, Some WentOff) (state_after_move v d, v.event)).1
    by_test true e = off d (counted-wait cause c) e
    by_test false e = on d (counted-wait cause c)

-- if the controller is not bus off, a bit time ends in the state after its move
pub on_bus : (P : MacState → Option Event → Type 0) (m : MacState) (waiting : Option Parts) (x : Level) → is_off_phase m.phase ≡ false
    → ((d : ConfineParts) → SameWait m.counters d → P (state_after_move (move (stance m) m.phase waiting x) d) (move (stance m) m.phase waiting x).event)
    → ((d : ConfineParts) → SameWait m.counters d → is_bus_off d ≡ true → P (gone (move (stance m) m.phase waiting x) d) (Some WentOff))
    → P (mac_step m waiting x).0 (mac_step m waiting x).1
on_bus P m waiting x h on off =
    let v = move (stance m) m.phase waiting x in
    subst (λ p. P p.0 p.1) (sym (step_on m waiting x h)) (step_counting_at P v m.counters v.cause on off)

-- off the bus, it is one for recovery
pub off_bus : (P : MacState → Option Event → Type 0) (m : MacState) (waiting : Option Parts) (x : Level) → is_off_phase m.phase ≡ true
    → P (off_step m x).0 (off_step m x).1 → P (mac_step m waiting x).0 (mac_step m waiting x).1
off_bus P m waiting x h is = subst (λ p. P p.0 p.1) (sym (step_off m waiting x h)) is

-- off the bus there is one phase
pub off_is : (phase : MacPhase) → is_off_phase phase ≡ true → phase ≡ BusOff
off_is BusOff h = refl
off_is _ h = cc
