-- After arbitration all receivers hear a frame alike.
use Rattle.std.proofs.Common.{◌≡◌, ℕ, zero, suc, ◌+◌, ◌-◌, ◌<◌, ◌≤◌, Option, Some, length, sym, ◌∙◌, ap, subst, arith, inl, inr}
use Rattle.std.specs.Prelude.{unwrap_or}
use Rattle.std.proofs.lemmas.Bool.{cases_lt, leb-true}
use Rattle.can_frame.specs.Arbitration.{arbitration_field, Before}
use Rattle.can_frame.specs.Parts.{Parts, IsFrame}
use Rattle.can_wire.specs.Wire.{stuffed_part}
use Rattle.can_wire.specs.Layout.{level_at, rtr_place}
use Rattle.can_code.specs.Front.{first_front}
use Rattle.can_code.proofs.FrontLemmas.{heard_level-longer}
use Rattle.can_code.proofs.WireFronts.{front_at, front_at-heard, front_at-next}
use Rattle.can_fault.specs.Counters.{ConfineParts}
use Rattle.can_mac.specs.declared.phase.Role.TheVariants.{Receiver}
use Rattle.can_mac.specs.Frames.{frame_state, heard_front, phase_at, role_at}
use Rattle.can_mac.proofs.FrameParts.{part_state}
use Rattle.can_mac.proofs.FrameRoles.{parting, role-parted}
use Rattle.can_mac.proofs.FrameSteps.{state-early}

front-grows : (f : Parts) → IsFrame f → (a k : ℕ) → 0 < a → a + k ≤ length (stuffed_part f) → length (front_at f a).unstuffed ≤ length (front_at f (a + k)).unstuffed
front-grows f is a zero some within = subst (λ n. length (front_at f a).unstuffed ≤ length (front_at f n).unstuffed) (let e : a ≡ a + zero = omega arith in e) (omega arith)
front-grows f is a (suc k) some within =
    let at : (a + k) + 1 ≡ a + suc k = omega arith in
    let next = front_at-next f is (a + k) (omega (arith, some)) (omega (arith, within)) in
    let before = front-grows f is a k some (omega (arith, within)) in
    let more = heard_level-longer (front_at f (a + k)) (level_at (stuffed_part f) (a + k)) in
    subst (λ n. length (front_at f a).unstuffed ≤ length (front_at f n).unstuffed) at
    (subst (λ v. length (front_at f a).unstuffed ≤ length v.unstuffed) (sym next) (omega (arith, before, more)))

-- a transmitter of another frame has lost once this many unstuffed levels have been heard
pub has-lost : (f g : Parts) → IsFrame f → IsFrame g → Before (arbitration_field f) (arbitration_field g) → (o : ℕ) → 0 < o → o < length (stuffed_part f) → rtr_place g.id.extended < length (front_at f o).unstuffed →
    role_at f (Some g) o ≡ Receiver
has-lost f g is g_is before o some within heard =
    let parts = parting f g is g_is before in
    let place = parts.0 in
    elim (cases_lt parts.0 o) [
      | inl past ↦ role-parted f g place parts.1 o past
      | inr early ↦
          let rest = parts.1.within in
          let at : o + (parts.0 - o) ≡ parts.0 = omega (arith, early) in
          let grows = subst (λ n. length (front_at f o).unstuffed ≤ length (front_at f n).unstuffed) at (front-grows f is o (place - o) some (omega (arith, rest, at))) in
          let front : heard_front f parts.0 ≡ front_at f parts.0 = ap (λ v. unwrap_or v first_front) (front_at-heard f is place (omega (arith, some, early)) (omega (arith, rest))) in
          let few : length (front_at f parts.0).unstuffed ≤ rtr_place g.id.extended = subst (λ v. length v.unstuffed ≤ rtr_place g.id.extended) front (leb-true (length (heard_front f place).unstuffed) (rtr_place g.id.extended) parts.1.arbitration) in
          absurd (omega (arith, heard, grows, few))
    ]

-- a receiver in the stuffed part
pub receiver-state : (f : Parts) → IsFrame f → (waiting : Option Parts) (pending : ℕ) (c : ConfineParts) (o : ℕ) → o ≤ length (stuffed_part f) → role_at f waiting o ≡ Receiver →
    frame_state f waiting pending c o ≡ part_state (phase_at f o) Receiver (record { pending = pending; used = 0 }) c
receiver-state f is waiting pending c o within role =
    state-early f is waiting pending c o within ∙ ap (λ r. part_state (phase_at f o) r (record { pending = pending; used = 0 }) c) role
