-- Each level of a frame and of its intermission leads to the next state of a controller, and causes its event.
use Rattle.std.proofs.Common.{◌≡◌, ℕ, ◌+◌, ◌<◌, ◌≤◌, false, Option, Some, None, length, refl, sym, ◌∙◌, ap, arith, inl, inr}
use Rattle.std.proofs.Math.Dec.{ltb}
use Rattle.std.proofs.lemmas.Bool.{cond-true, cond-false, lt-ltb, le-ltb, cases_lt}
use Rattle.can_frame.specs.declared.level.Level.{Level}
use Rattle.can_frame.specs.Parts.{Parts, IsFrame}
use Rattle.can_wire.specs.Wire.{stuffed_part, wire, unstuffed}
use Rattle.can_wire.specs.Layout.{level_at}
use Rattle.can_code.specs.Front.{FrontParts, heard_level}
use Rattle.can_code.proofs.StuffedParts.{IsPart-length}
use Rattle.can_code.proofs.UnstuffedLevels.{stuffed_part-part}
use Rattle.can_code.proofs.WireFronts.{front_at, front_at-no_error, front_at-next}
use Rattle.can_fault.specs.declared.cause.Cause.TheVariants.{FrameSent}
use Rattle.can_fault.specs.Counters.{ConfineParts, counted, is_bus_off, is_passive}
use Rattle.can_terms.specs.declared.event.Event.{Event}
use Rattle.can_terms.specs.declared.event.Event.TheVariants.{Lost}
use Rattle.can_mac.specs.declared.phase.Overloads.{Overloads}
use Rattle.can_mac.specs.declared.phase.Role.{Role}
use Rattle.can_mac.specs.declared.phase.Role.TheVariants.{Receiver, Sender}
use Rattle.can_mac.specs.declared.phase.Phase.TheVariants.{StuffedPart}
use Rattle.can_mac.specs.State.{MacState, IsFrameOrNone}
use Rattle.can_mac.specs.Moves.{part_phase}
use Rattle.can_mac.specs.Machine.{mac_step}
use Rattle.can_mac.specs.Frames.{with_intermission, behind_part, phase_at, role_at, role_after, counters_after, frame_state, loss, end_event, frame_event, GoesBehind}
use Rattle.can_mac.proofs.FrameEnds.{end_state, end_levels, receiver-ends, sender-ends}
use Rattle.can_mac.proofs.FrameParts.{part_state, step-hears, step-loses, length-wire, length-with_intermission, line-early, line-late, phase-early, phase-late, part_phase-at}
use Rattle.can_mac.proofs.FrameRoles.{stays, loses, standing, receives, sends, ending}

counters-start : (role : Role) (c : ConfineParts) → counters_after role c 0 ≡ c
counters-start Receiver c = refl
counters-start (Sender f) c = refl

pub loss-none : (old new : Role) → old ≡ new → loss old new ≡ None
loss-none Receiver new e = refl
loss-none (Sender g) (Sender h) e = refl
loss-none (Sender g) Receiver e = cc

abbrev pub outcome : MacState → Option Event → MacState × Option Event
outcome m told = (m, told)

-- a stuffed part continues after the start of frame
pub some_part : (f : Parts) → IsFrame f → 1 < length (stuffed_part f)
some_part f is = omega (arith, IsPart-length (unstuffed f) (stuffed_part f) (stuffed_part-part f is))

-- with the last level of intermission its transmitter is idle: it is not error passive
abbrev pub Awake : Parts → Option Parts → ConfineParts → ℕ → Type 0
Awake f waiting c o = o + 1 ≡ length (with_intermission f) → role_at f waiting o ≡ Sender f → is_passive (counted FrameSent c) ≡ false

-- the events of the levels of the stuffed part, and of those after it
module _ (f : Parts) (waiting : Option Parts) (o : ℕ) where
  pub event-early : o < length (stuffed_part f) → frame_event f waiting o ≡ loss (role_at f waiting o) (role_at f waiting (o + 1))
  event-early more = cond-true (ltb o (length (stuffed_part f))) _ _ (lt-ltb o (length (stuffed_part f)) more)

  event-late : length (stuffed_part f) ≤ o → frame_event f waiting o ≡ end_event f (role_at f waiting o) (behind_part f o)
  event-late past = cond-false (ltb o (length (stuffed_part f))) _ _ (le-ltb o (length (stuffed_part f)) past)

-- a controller goes through f
module _ (f : Parts) (is : IsFrame f) (waiting : Option Parts) (pending : ℕ) (c : ConfineParts) where
  abbrev wishes : Overloads
  wishes = record { pending = pending; used = 0 }

  abbrev state : ℕ → MacState
  state o = frame_state f waiting pending c o

  abbrev n : ℕ
  n = length (stuffed_part f)

  -- its state in the stuffed part, and after it
  pub state-early : (o : ℕ) → o ≤ n → state o ≡ part_state (phase_at f o) (role_at f waiting o) wishes c
  state-early o within =
      let none : behind_part f o ≡ 0 = omega (arith, within) in
      let role = role_at f waiting o in
      ap (λ k. part_state (phase_at f o) (role_after role k) wishes (counters_after role c k)) none ∙ ap (part_state (phase_at f o) role wishes) (counters-start role c)

  pub state-late : (o : ℕ) → n ≤ o → state o ≡ end_state f (role_at f waiting o) pending c (behind_part f o)
  state-late o past = rw (phase-late f o past) refl

  -- a level of the stuffed part
  module _ (o : ℕ) (some : 0 < o) (more : o < n) (now : Option Parts) where
    abbrev front : FrontParts
    front = front_at f o

    abbrev x : Level
    x = level_at (stuffed_part f) o

    was : mac_step (state o) now (level_at (with_intermission f) o) ≡ mac_step (part_state (StuffedPart front) (role_at f waiting o) wishes c) now x
    was =
        ap (λ y. mac_step (state o) now y) (line-early f o more)
        ∙ ap (λ m. mac_step m now x) (state-early o (omega (arith, more)) ∙ ap (λ p. part_state p (role_at f waiting o) wishes c) (phase-early f is o some more))

    next-phase : part_phase (heard_level front x) ≡ phase_at f (o + 1)
    next-phase = ap part_phase (sym (front_at-next f is o some more)) ∙ part_phase-at f is (o + 1) (omega arith) (omega (arith, more))

    becomes : (role : Role) (told : Option Event) → role ≡ role_at f waiting (o + 1) → told ≡ loss (role_at f waiting o) (role_at f waiting (o + 1))
        → outcome (part_state (part_phase (heard_level front x)) role wishes c) told ≡ outcome (state (o + 1)) (frame_event f waiting o)
    becomes role told same_role same_event =
        ap (λ p. outcome (part_state p role wishes c) told) next-phase
        ∙ ap (λ r. outcome (part_state (phase_at f (o + 1)) r wishes c) told) same_role
        ∙ ap (λ m. outcome m told) (sym (state-early (o + 1) (omega (arith, more))))
        ∙ ap (outcome (state (o + 1))) (same_event ∙ sym (event-early f waiting o more))

    pub step-early : IsFrameOrNone waiting → GoesBehind f waiting → mac_step (state o) now (level_at (with_intermission f) o) ≡ outcome (state (o + 1)) (frame_event f waiting o)
    step-early kept behind = was ∙ elim (standing f waiting is kept behind o some more) [
      | stays same takes ↦
          step-hears front wishes c now (role_at f waiting o) x (front_at-no_error f is o some more) takes
          ∙ becomes (role_at f waiting o) None same (sym (loss-none (role_at f waiting o) (role_at f waiting (o + 1)) same))
      | loses g e h ↦
          let old : role_at f waiting o ≡ Sender g = ap (λ w. role_at f w o) e ∙ h.was in
          let new : role_at f waiting (o + 1) ≡ Receiver = ap (λ w. role_at f w (o + 1)) e ∙ h.is in
          ap (λ r. mac_step (part_state (StuffedPart front) r wishes c) now x) old
          ∙ ap (λ y. mac_step (part_state (StuffedPart front) (Sender g) wishes c) now y) h.low
          ∙ step-loses front wishes c now g h.free h.sent h.within
          ∙ ap (λ y. outcome (part_state (part_phase (heard_level front y)) Receiver wishes c) (Some Lost)) (sym h.low)
          ∙ becomes Receiver (Some Lost) (sym new) (sym (ap (λ r. loss r (role_at f waiting (o + 1))) old ∙ ap (loss (Sender g)) new))
    ]

  -- a level after it
  module _ (o : ℕ) (past : n ≤ o) (more : o < length (with_intermission f)) (now : Option Parts) where
    abbrev k : ℕ
    k = behind_part f o

    few : k < 13
    few = omega (arith, length-with_intermission f)

    next-place : behind_part f (o + 1) ≡ k + 1
    next-place = omega arith

    ends : (role : Role) → role_at f waiting o ≡ role → role_at f waiting (o + 1) ≡ role
        → mac_step (end_state f role pending c k) now (level_at end_levels k) ≡ outcome (end_state f role pending c (k + 1)) (end_event f role k)
        → mac_step (state o) now (level_at (with_intermission f) o) ≡ outcome (state (o + 1)) (frame_event f waiting o)
    ends role old new step =
        ap (mac_step (state o) now) (line-late f o past)
        ∙ ap (λ m. mac_step m now (level_at end_levels k)) (state-late o past ∙ ap (λ r. end_state f r pending c k) old)
        ∙ step
        ∙ ap (λ m. outcome m (end_event f role k)) (ap (end_state f role pending c) (sym next-place) ∙ ap (λ r. end_state f r pending c (behind_part f (o + 1))) (sym new) ∙ sym (state-late (o + 1) (omega arith)))
        ∙ ap (outcome (state (o + 1))) (ap (λ r. end_event f r k) (sym old) ∙ sym (event-late f waiting o past))

    pub step-late : IsFrameOrNone waiting → GoesBehind f waiting → is_bus_off c ≡ false → (length (wire f) ≤ o + 1 → pending ≡ 0) → Awake f waiting c o
        → mac_step (state o) now (level_at (with_intermission f) o) ≡ outcome (state (o + 1)) (frame_event f waiting o)
    step-late kept behind on no_wish awake = elim (ending f waiting is kept behind) [
      | receives role ↦
          ends Receiver (role o past) (role (o + 1) (omega arith))
          (receiver-ends f c on now pending k few (λ late. no_wish (omega (arith, late, length-wire f))))
      | sends role ↦ ends (Sender f) (role o) (role (o + 1)) (sender-ends f c on now pending k few (λ last. awake (omega (arith, last, past, length-with_intermission f)) (role o)))
    ]

  -- any level of f but its start of frame
  pub step-next : IsFrameOrNone waiting → GoesBehind f waiting → is_bus_off c ≡ false → (now : Option Parts) (o : ℕ) → 0 < o → o < length (with_intermission f) → (length (wire f) ≤ o + 1 → pending ≡ 0)
      → Awake f waiting c o → mac_step (state o) now (level_at (with_intermission f) o) ≡ outcome (state (o + 1)) (frame_event f waiting o)
  step-next kept behind on now o some within no_wish awake = elim (cases_lt o n) [
    | inl more ↦ step-early o some more now kept behind
    | inr past ↦ step-late o past within now kept behind on no_wish awake
  ]
