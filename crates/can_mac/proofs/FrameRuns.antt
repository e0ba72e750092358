-- A frame from its start of frame to the end of intermission, at one controller.
use Rattle.std.proofs.Common.{◌≡◌, ℕ, zero, suc, ◌+◌, ◌<◌, ◌≤◌, Option, Some, None, length, refl, sym, ◌∙◌, ap, arith, inl, inr}
use Rattle.can_frame.specs.declared.level.Level.TheVariants.{Dominant}
use Rattle.can_frame.specs.Parts.{Parts, IsFrame}
use Rattle.can_wire.specs.Wire.{stuffed_part, wire}
use Rattle.can_wire.specs.Layout.{level_at}
use Rattle.can_code.specs.Front.{first_front}
use Rattle.can_code.proofs.WireFronts.{front_at-first}
use Rattle.can_fault.specs.Counters.{ConfineParts}
use Rattle.can_mac.specs.declared.phase.Overloads.{Overloads}
use Rattle.can_mac.specs.declared.phase.Role.{Role}
use Rattle.can_mac.specs.declared.phase.Role.TheVariants.{Receiver, Sender}
use Rattle.can_mac.specs.declared.phase.Phase.TheVariants.{Idle, StuffedPart, Suspend}
use Rattle.can_mac.specs.State.{MacState}
use Rattle.can_mac.specs.Machine.{mac_step}
use Rattle.can_mac.specs.Frames.{state_after, told_at, with_intermission, phase_at, role_at, frame_state, loss, frame_event, Begins, StartsWith, AreHeard}
use Rattle.can_mac.proofs.FrameEnds.{active-awake, active-on}
use Rattle.can_mac.proofs.FrameParts.{part_state, length-wire, phase-early}
use Rattle.can_mac.proofs.FrameRoles.{role-start, line-start}
use Rattle.can_mac.proofs.FrameSteps.{outcome, some_part, state-early, event-early, step-next}

-- an idle controller
abbrev at_rest : Role → Overloads → ConfineParts → MacState
at_rest role overloads c = record { phase = Idle; role = role; overloads = overloads; counters = c }

-- the role in which a controller starts, with this frame waiting
abbrev first_role : Option Parts → Role
first_role None = Receiver
first_role (Some g) = Sender g

begins-step : (role : Role) (overloads : Overloads) (c : ConfineParts) (waiting : Option Parts)
    → mac_step (at_rest role overloads c) waiting Dominant ≡ outcome (part_state (StuffedPart first_front) (first_role waiting) (record { pending = overloads.pending; used = 0 }) c) None
unfolding mac_step
begins-step role overloads c None = refl
begins-step role overloads c (Some g) = refl

role-first : (f : Parts) (waiting : Option Parts) → role_at f waiting 1 ≡ first_role waiting
role-first f None = refl
role-first f (Some g) = role-start f g

pub event-first : (f : Parts) → IsFrame f → (waiting : Option Parts) → frame_event f waiting 0 ≡ None
event-first f is None = event-early f None 0 (omega (arith, some_part f is))
event-first f is (Some g) = event-early f (Some g) 0 (omega (arith, some_part f is)) ∙ ap (loss (Sender g)) (role-start f g)

-- in suspend transmission a controller receives it
suspended-step : (place : ℕ) (role : Role) (overloads : Overloads) (c : ConfineParts) (waiting : Option Parts)
    → mac_step (record { phase = Suspend place; role = role; overloads = overloads; counters = c }) waiting Dominant
    ≡ outcome (part_state (StuffedPart first_front) Receiver (record { pending = overloads.pending; used = 0 }) c) None
unfolding mac_step
suspended-step place role overloads c waiting = refl

-- what a controller that is between frames begins with
begins-with : (m : MacState) (waiting next : Option Parts) → Begins m.phase waiting next
    → mac_step m waiting Dominant ≡ outcome (part_state (StuffedPart first_front) (first_role next) (record { pending = m.overloads.pending; used = 0 }) m.counters) None
begins-with m waiting next (inl idle) =
    ap (λ p. mac_step (part_state p m.role m.overloads m.counters) waiting Dominant) idle.0 ∙ begins-step m.role m.overloads m.counters waiting
    ∙ ap (λ w. outcome (part_state (StuffedPart first_front) (first_role w) (record { pending = m.overloads.pending; used = 0 }) m.counters) None) (sym idle.1)
begins-with m waiting next (inr suspended) =
    ap (λ p. mac_step (part_state p m.role m.overloads m.counters) waiting Dominant) suspended.1.0 ∙ suspended-step suspended.0 m.role m.overloads m.counters waiting
    ∙ ap (λ w. outcome (part_state (StuffedPart first_front) (first_role w) (record { pending = m.overloads.pending; used = 0 }) m.counters) None) (sym suspended.1.1)

-- the start of frame of f, at a controller that begins with this frame
pub enters-frame : (f : Parts) → IsFrame f → (m : MacState) (waiting next : Option Parts) → Begins m.phase waiting next
    → mac_step m waiting (level_at (with_intermission f) 0) ≡ outcome (frame_state f next m.overloads.pending m.counters 1) None
enters-frame f is m waiting next begins =
    let more = some_part f is in
    let wishes : Overloads = record { pending = m.overloads.pending; used = 0 } in
    ap (mac_step m waiting) (line-start f)
    ∙ begins-with m waiting next begins
    ∙ ap (λ p. outcome (part_state p (first_role next) wishes m.counters) None) (sym (phase-early f is 1 (omega arith) more ∙ ap StuffedPart (front_at-first f)))
    ∙ ap (λ r. outcome (part_state (phase_at f 1) r wishes m.counters) None) (sym (role-first f next))
    ∙ ap (λ s. outcome s None) (sym (state-early f is next m.overloads.pending m.counters 1 (omega (arith, more))))

module _ (f : Parts) (m : MacState) (waits : ℕ → Option Parts) (start : StartsWith f m (waits 0)) where
  abbrev state : ℕ → MacState
  state o = frame_state f (waits 0) m.overloads.pending m.counters o

  more : 1 < length (stuffed_part f)
  more = some_part f start.frame

  -- the start of frame
  first : mac_step m (waits 0) (level_at (with_intermission f) 0) ≡ outcome (state 1) None
  first =
      ap (λ p. mac_step (part_state p m.role m.overloads m.counters) (waits 0) (level_at (with_intermission f) 0)) start.idle
      ∙ ap (mac_step (at_rest m.role m.overloads m.counters) (waits 0)) (line-start f)
      ∙ begins-step m.role m.overloads m.counters (waits 0)
      ∙ ap (λ p. outcome (part_state p (first_role (waits 0)) (record { pending = m.overloads.pending; used = 0 }) m.counters) None)
      (sym (phase-early f start.frame 1 (omega arith) more ∙ ap StuffedPart (front_at-first f)))
      ∙ ap (λ r. outcome (part_state (phase_at f 1) r (record { pending = m.overloads.pending; used = 0 }) m.counters) None) (sym (role-first f (waits 0)))
      ∙ ap (λ s. outcome s None) (sym (state-early f start.frame (waits 0) m.overloads.pending m.counters 1 (omega (arith, more))))

  -- a level after it
  next : (o : ℕ) → 0 < o → o < length (with_intermission f) → (length (wire f) ≤ o + 1 → m.overloads.pending ≡ 0)
      → mac_step (state o) (waits o) (level_at (with_intermission f) o) ≡ outcome (state (o + 1)) (frame_event f (waits 0) o)
  next o some within no_wish = step-next f start.frame (waits 0) m.overloads.pending m.counters start.kept start.behind (active-on m.counters start.active) (waits o) o some within no_wish (λ last sends. active-awake m.counters start.active)

  run : (o : ℕ) → suc o ≤ length (with_intermission f) → (length (wire f) ≤ suc o → m.overloads.pending ≡ 0) → state_after m waits (with_intermission f) (suc o) ≡ state (suc o)
  run zero within no_wish = ap (λ r. r.0) first
  run (suc o) within no_wish =
      let size = length-wire f in
      let one_more : suc o + 1 ≡ suc (suc o) = omega arith in
      ap (λ s. (mac_step s (waits (suc o)) (level_at (with_intermission f) (suc o))).0) (run o (omega (arith, within)) (λ past. no_wish (omega (arith, past))))
      ∙ ap (λ r. r.0) (next (suc o) (omega arith) (omega (arith, within)) (λ past. no_wish (omega (arith, past))))
      ∙ ap state one_more

  -- after its first o levels
  pub state_after-frame : (o : ℕ) → AreHeard f m o → state_after m waits (with_intermission f) o ≡ state o
  state_after-frame zero heard = absurd (omega (arith, heard.some))
  state_after-frame (suc o) heard = run o heard.within heard.no_wish

  -- the event of each level
  pub told_at-frame : (o : ℕ) → AreHeard f m (o + 1) → told_at m waits (with_intermission f) o ≡ frame_event f (waits 0) o
  told_at-frame zero heard = ap (λ r. r.1) first ∙ sym (event-first f start.frame (waits 0))
  told_at-frame (suc o) heard =
      let within : suc o < length (with_intermission f) = omega (arith, heard.within) in
      ap (λ s. (mac_step s (waits (suc o)) (level_at (with_intermission f) (suc o))).1) (run o (omega (arith, within)) (λ past. heard.no_wish (omega (arith, past))))
      ∙ ap (λ r. r.1) (next (suc o) (omega arith) within heard.no_wish)
