-- The state of a controller after each level that follows the stuffed part of a frame.
use Rattle.std.proofs.Common.{◌≡◌, ℕ, zero, suc, ◌+◌, ◌-◌, ◌<◌, ◌≤◌, true, false, Option, None, List, [], ◌∷◌, ◌++◌, refl, sym, ◌∙◌, subst, arith, inl, inr}
use Rattle.std.proofs.Math.Dec.{leb}
use Rattle.std.proofs.lemmas.Bool.{cases_Bool, cond-false, le-leb, leb-true, or_from, cases_lt, false_from_ne_true}
use Rattle.std.specs.Prelude.{slice_index_or}
use Rattle.can_frame.specs.declared.level.Level.{Level}
use Rattle.can_frame.specs.declared.level.Level.TheVariants.{Dominant, Recessive}
use Rattle.can_frame.specs.Parts.{Parts}
use Rattle.can_wire.specs.Wire.{tail}
use Rattle.can_wire.specs.Layout.{level_at}
use Rattle.can_fault.specs.declared.cause.Cause.{Cause}
use Rattle.can_fault.specs.declared.cause.Cause.TheVariants.{FrameSent, FrameReceived}
use Rattle.can_fault.specs.Counters.{ConfineParts, changed, counted, is_bus_off, is_passive}
use Rattle.can_mac.specs.declared.phase.Role.{Role}
use Rattle.can_mac.specs.declared.phase.Role.TheVariants.{Receiver, Sender}
use Rattle.can_mac.specs.declared.phase.Phase.TheVariants.{Idle}
use Rattle.can_mac.specs.State.{MacState}
use Rattle.can_mac.specs.Machine.{mac_step}
use Rattle.can_mac.specs.Frames.{IsActive, own_reading, end_phases, role_after, counters_after, end_event, settled}

-- it holds of each of n numbers in a row
abbrev pub Each : (ℕ → Type 0) → ℕ → ℕ → Type 0
Each P start zero = Unit {0}
Each P start (suc n) = P start × Each P (start + 1) n

pub Each-at : (P : ℕ → Type 0) (start n k : ℕ) → Each P start n → start ≤ k → k < start + n → P k
Each-at P start zero k h from to = absurd (omega arith)
Each-at P start (suc n) k h from to = elim (cases_lt start k) [
  | inl more ↦ Each-at P (start + 1) n k h.1 (omega arith) (omega arith)
  | inr here ↦ let first : start ≡ k = omega arith in subst P first h.0
]

-- an error active controller is neither error passive nor bus off
module _ (c : ConfineParts) (active : IsActive c) where
  pub active-on : is_bus_off c ≡ false
  active-on = false_from_ne_true (leb 256 c.tec) (λ e. omega (arith, leb-true 256 c.tec e, active.tec))

  pub active-not_passive : is_passive c ≡ false
  active-not_passive =
      or_from (leb 128 c.tec) (leb 128 c.rec)
      (false_from_ne_true (leb 128 c.tec) (λ e. omega (arith, leb-true 128 c.tec e, active.tec)))
      (false_from_ne_true (leb 128 c.rec) (λ e. omega (arith, leb-true 128 c.rec e, active.rec)))

  active-counted : (cause : Cause) → IsActive (changed cause c) → IsActive (counted cause c)
  active-counted cause h = subst IsActive (sym (cond-false (is_bus_off c) c (changed cause c) active-on)) h

  pub active-sent : IsActive (counted FrameSent c)
  active-sent = active-counted FrameSent (record { tec = omega (arith, active.tec); rec = active.rec })

  -- nor is it error passive after a frame that it has sent
  pub active-awake : is_passive (counted FrameSent c) ≡ false
  active-awake = or_from (leb 128 (counted FrameSent c).tec) (leb 128 (counted FrameSent c).rec) (false_from_ne_true (leb 128 (counted FrameSent c).tec) (λ e. omega (arith, leb-true 128 (counted FrameSent c).tec e, active-sent.tec))) (false_from_ne_true (leb 128 (counted FrameSent c).rec) (λ e. omega (arith, leb-true 128 (counted FrameSent c).rec e, active-sent.rec)))

-- a controller that is on the bus stays on it with a frame that goes well
module _ (c : ConfineParts) (on : is_bus_off c ≡ false) where
  on-counted : (cause : Cause) → is_bus_off (changed cause c) ≡ false → is_bus_off (counted cause c) ≡ false
  on-counted cause h = subst (λ d. is_bus_off d ≡ false) (sym (cond-false (is_bus_off c) c (changed cause c) on)) h

  pub on-received : is_bus_off (counted FrameReceived c) ≡ false
  on-received = on-counted FrameReceived on

  pub on-sent : is_bus_off (counted FrameSent c) ≡ false
  on-sent = on-counted FrameSent (false_from_ne_true (leb 256 (c.tec - 1)) (λ e. let less = leb-true 256 (c.tec - 1) e in let h : false ≡ true = sym on ∙ le-leb 256 c.tec (omega (arith, less)) in cc))

-- the state after k levels after the stuffed part of f, in this role
abbrev pub end_state : Parts → Role → ℕ → ConfineParts → ℕ → MacState
end_state f role pending c k = record {
  phase = slice_index_or (end_phases (own_reading f)) k Idle;
  role = role_after role k;
  overloads = record { pending = pending; used = 0 };
  counters = counters_after role c k;
}

-- the levels after the stuffed part, to the end of intermission
abbrev pub end_levels : List Level
end_levels = tail Dominant Recessive ++ (Recessive ∷ Recessive ∷ Recessive ∷ [])

-- each of these levels makes the next state, at a receiver and at the transmitter
module _ (f : Parts) (c : ConfineParts) (on : is_bus_off c ≡ false) (waiting : Option Parts) where
  abbrev Steps : Role → ℕ → ℕ → Type 0
  Steps role pending k = mac_step (end_state f role pending c k) waiting (level_at end_levels k) ≡ (end_state f role pending c (k + 1), end_event f role k)

  -- the ACK slot
  receiver-acknowledges : (pending : ℕ) → Steps Receiver pending 1
  unfolding mac_step
  receiver-acknowledges pending = rw (on-received c on) refl

  receiver-early : (pending : ℕ) → Each (Steps Receiver pending) 0 9
  unfolding mac_step
  receiver-early pending = (refl, (receiver-acknowledges pending, (refl, (refl, (refl, (refl, (refl, (refl, (refl, tt)))))))))

  receiver-late : Each (Steps Receiver 0) 9 4
  unfolding mac_step
  receiver-late = (refl, (refl, (refl, (refl, tt))))

  -- a receiver enters intermission if no overload frame is requested
  pub receiver-ends : (pending k : ℕ) → k < 13 → (9 ≤ k → pending ≡ 0) → Steps Receiver pending k
  receiver-ends pending k within no_wish = elim (cases_lt k 9) [
    | inl early ↦ Each-at (Steps Receiver pending) 0 9 k (receiver-early pending) (omega arith) (omega arith)
    | inr late ↦
        let past : 9 ≤ k = omega arith in
        subst (λ n. Steps Receiver n k) (sym (no_wish past)) (Each-at (Steps Receiver 0) 9 4 k receiver-late past (omega arith))
  ]

  -- the last level of the end of frame
  sender-sends : (pending : ℕ) → Steps (Sender f) pending 9
  unfolding mac_step
  sender-sends pending = rw (on-sent c on) refl

  -- the last level of intermission, at a transmitter that is not error passive
  sender-rests : (pending : ℕ) → is_passive (counted FrameSent c) ≡ false → Steps (Sender f) pending 12
  unfolding mac_step
  sender-rests pending awake = rw awake refl

  sender-early : (pending : ℕ) → Each (Steps (Sender f) pending) 0 12
  unfolding mac_step
  sender-early pending =
      (refl, (refl, (refl, (refl, (refl, (refl, (refl, (refl, (refl, (sender-sends pending, (refl, (refl, tt))))))))))))

  pub sender-ends : (pending k : ℕ) → k < 13 → (k ≡ 12 → is_passive (counted FrameSent c) ≡ false) → Steps (Sender f) pending k
  sender-ends pending k within awake = elim (cases_lt k 12) [
    | inl early ↦ Each-at (Steps (Sender f) pending) 0 12 k (sender-early pending) (omega arith) (omega arith)
    | inr late ↦ let last : k ≡ 12 = omega (arith, within, late) in subst (Steps (Sender f) pending) (sym last) (sender-rests pending (awake last))
  ]

  -- after the last level of intermission its transmitter is idle, or if it is error passive in suspend transmission
  pub sender-settles : (pending : ℕ) → mac_step (end_state f (Sender f) pending c 12) waiting Recessive ≡ (settled f (is_passive (counted FrameSent c)) pending (counted FrameSent c), None)
  unfolding mac_step
  sender-settles pending = elim (cases_Bool (is_passive (counted FrameSent c))) [
    | inl passive ↦ rw passive refl
    | inr active ↦ rw active refl
  ]
