-- A level off the bus, and a controller on the bus or off it.
use Rattle.std.proofs.Common.{◌≡◌, ℕ, ◌+◌, Bool, true, false, cond, Option, Some, None, refl, sym, subst, ◌∙◌, ap}
use Rattle.std.specs.Prelude.{nat_lt}
use Rattle.std.proofs.lemmas.Bool.{cond_both, cond-true, cond-false}
use Rattle.can_frame.specs.declared.level.Level.{Level}
use Rattle.can_frame.specs.declared.level.Level.TheVariants.{Dominant, Recessive}
use Rattle.can_fault.specs.Counters.{ConfineParts, fresh, is_bus_off}
use Rattle.can_fault.specs.Recovery.{after_level, ends_bus_off, recovered}
use Rattle.can_terms.specs.declared.event.Event.{Event}
use Rattle.can_terms.specs.declared.event.Event.TheVariants.{Recovered}
use Rattle.can_mac.specs.declared.phase.Role.{Role}
use Rattle.can_mac.specs.declared.phase.Overloads.{Overloads}
use Rattle.can_mac.specs.declared.phase.Phase.TheVariants.{Idle, BusOff}
use Rattle.can_mac.specs.State.{MacPhase, MacState, IsMac, is_off_phase}
use Rattle.can_mac.specs.Machine.{off_step}
use Rattle.can_mac.proofs.TurnEnds.{off_is}
use Rattle.can_gates.specs.Words.{number}
use Rattle.can_gates_mac.specs.declared.registers.Controller.{Controller}
use Rattle.can_gates_mac.specs.Numbers.{Numbers, is_sender}
use Rattle.can_gates_mac.specs.Shown.{shown}
use Rattle.can_gates_mac.specs.Stepping.{IsStep, place_or_row}
use Rattle.can_gates_mac.specs.StepParts.{IsChosen}
use Rattle.can_gates_mac.proofs.ShownFields.{uncaused}

after_keeps : (c : ConfineParts) (x : Level) → ((after_level x c).tec ≡ c.tec) × ((after_level x c).rec ≡ c.rec)
after_keeps c Dominant = (refl, refl)
after_keeps c Recessive = (
  cond_both (nat_lt c.row 10) (record c { row = c.row + 1 }) (record c { occurrences = c.occurrences + 1; row = 0 }) (λ n. n.tec ≡ c.tec) (λ d. refl) (λ d. refl),
  cond_both (nat_lt c.row 10) (record c { row = c.row + 1 }) (record c { occurrences = c.occurrences + 1; row = 0 }) (λ n. n.rec ≡ c.rec) (λ d. refl) (λ d. refl),
)

-- what the wires are off the bus
abbrev pub resting_numbers : Bool → ℕ → Role → Overloads → Numbers
resting_numbers ended row role o = record { phase = cond ended 0 14; place = row; last = false; unacknowledged = false; first = false; sender = is_sender role; pending = o.pending; used = o.used; cause = 0; event = cond ended 11 0 }

pub row_off : (m : MacState) → is_off_phase m.phase ≡ true → place_or_row m ≡ m.counters.row
row_off m e = rw e refl

pub bus_off : (m : MacState) → IsMac m → is_off_phase m.phase ≡ true → is_bus_off m.counters ≡ true
bus_off m h e = sym h.off ∙ e

-- a controller off the bus
abbrev off_mac : Role → Overloads → ConfineParts → MacState
off_mac role o c = record { phase = BusOff; role = role; overloads = o; counters = c }

abbrev ended_mac : Role → Overloads → ConfineParts → MacState × Option Event
ended_mac role o c = (record { phase = Idle; role = role; overloads = o; counters = c }, Some Recovered)

abbrev waiting_mac : Role → Overloads → ConfineParts → MacState × Option Event
waiting_mac role o c = (record { phase = BusOff; role = role; overloads = o; counters = c }, None)

rested : (v : ℕ → Bool) (k : Controller) (role : Role) (o : Overloads) (c : ConfineParts) (x : Level) (b : Bool) (row : ℕ) → is_bus_off c ≡ true → ends_bus_off x c ≡ b → uncaused (shown v k.wires) ≡ resting_numbers b row role o → row ≡ (recovered x c).row → number v k.counters.tec ≡ cond b 0 c.tec → number v k.counters.rec ≡ cond b 0 c.rec → number v k.counters.occurrences ≡ (recovered x c).occurrences → IsStep v k (off_step (off_mac role o c) x)
rested v k role o c x true row off end state is_row tec rec occurrences =
    let new : recovered x c ≡ fresh = cond-true (is_bus_off c) (cond (ends_bus_off x c) fresh (after_level x c)) c off ∙ cond-true (ends_bus_off x c) fresh (after_level x c) end in
    let none : row ≡ 0 = is_row ∙ ap (λ n. n.row) new in
    let P : MacState × Option Event → Type 0 = λ p. IsStep v k p in
    subst P (sym (cond-true (ends_bus_off x c) (ended_mac role o (recovered x c)) (waiting_mac role o (recovered x c)) end)) (record { state = state ∙ rw none refl; counters = record { tec = tec ∙ ap (λ n. n.tec) (sym new); rec = rec ∙ ap (λ n. n.rec) (sym new); occurrences = occurrences } })
rested v k role o c x false row off end state is_row tec rec occurrences =
    let new : recovered x c ≡ after_level x c = cond-true (is_bus_off c) (cond (ends_bus_off x c) fresh (after_level x c)) c off ∙ cond-false (ends_bus_off x c) fresh (after_level x c) end in
    let keeps = after_keeps c x in
    let P : MacState × Option Event → Type 0 = λ p. IsStep v k p in
    subst P (sym (cond-false (ends_bus_off x c) (ended_mac role o (recovered x c)) (waiting_mac role o (recovered x c)) end)) (record { state = state ∙ rw is_row refl; counters = record { tec = tec ∙ sym (ap (λ n. n.tec) new ∙ keeps.0); rec = rec ∙ sym (ap (λ n. n.rec) new ∙ keeps.1); occurrences = occurrences } })

-- the same, whichever phase it is
pub rests : (v : ℕ → Bool) (k : Controller) (p : MacPhase) (role : Role) (o : Overloads) (c : ConfineParts) (x : Level) (b : Bool) (row : ℕ) → is_off_phase p ≡ true → is_bus_off c ≡ true → b ≡ ends_bus_off x c → uncaused (shown v k.wires) ≡ resting_numbers b row role o → row ≡ (recovered x c).row → number v k.counters.tec ≡ cond b 0 c.tec → number v k.counters.rec ≡ cond b 0 c.rec → number v k.counters.occurrences ≡ (recovered x c).occurrences → IsStep v k (off_step (record { phase = p; role = role; overloads = o; counters = c }) x)
rests v k p role o c x b row is_off off end state is_row tec rec occurrences =
    let P : MacPhase → Type 0 = λ q. IsStep v k (off_step (record { phase = q; role = role; overloads = o; counters = c }) x) in
    subst P (sym (off_is p is_off)) (rested v k role o c x b row off (sym end) state is_row tec rec occurrences)

-- on the bus or off it
pub step_either : (v : ℕ → Bool) (b : Bool) (k off on : Controller) (m n : MacState × Option Event) → IsChosen v k b off on → (b ≡ true → IsStep v off m) → (b ≡ false → IsStep v on n) → IsStep v k (cond b m n)
step_either v true k off on m n chosen is_off is_on =
    let h = is_off refl in
    record { state = ap uncaused chosen.wires ∙ h.state; counters = record { tec = chosen.tec ∙ h.counters.tec; rec = chosen.rec ∙ h.counters.rec; occurrences = chosen.occurrences ∙ h.counters.occurrences } }
step_either v false k off on m n chosen is_off is_on =
    let h = is_on refl in
    record { state = ap uncaused chosen.wires ∙ h.state; counters = record { tec = chosen.tec ∙ h.counters.tec; rec = chosen.rec ∙ h.counters.rec; occurrences = chosen.occurrences ∙ h.counters.occurrences } }
