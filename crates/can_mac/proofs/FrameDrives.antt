-- What a controller drives of a frame, level by level.
use Rattle.std.proofs.Common.{◌≡◌, ◌≢◌, ℕ, zero, suc, ◌+◌, ◌<◌, ◌≤◌, Option, Some, None, List, [], ◌∷◌, ◌++◌, length, refl, sym, ◌∙◌, ap, subst, arith, inl, inr, append_assoc, ◌⊎◌}
use Rattle.std.proofs.Math.Dec.{eqb}
use Rattle.std.proofs.lemmas.Bool.{cond-true, cond-false, eq-eqb, ne_eqb, cases_eq, cases_lt}
use Rattle.can_frame.specs.declared.level.Level.{Level}
use Rattle.can_frame.specs.declared.level.Level.TheVariants.{Dominant, Recessive}
use Rattle.can_frame.specs.Parts.{Parts, IsFrame}
use Rattle.can_wire.specs.Stuffing.{stuffed}
use Rattle.can_wire.specs.Wire.{head, unstuffed, stuffed_part, tail}
use Rattle.can_wire.specs.Layout.{level_at}
use Rattle.can_wire.proofs.LayoutPlaces.{level_at-append, level_at-behind}
use Rattle.can_code.proofs.WireFronts.{front_at}
use Rattle.can_fault.specs.Counters.{ConfineParts}
use Rattle.can_mac.specs.declared.phase.Role.{Role}
use Rattle.can_mac.specs.declared.phase.Role.TheVariants.{Receiver, Sender}
use Rattle.can_mac.specs.declared.phase.Phase.TheVariants.{Idle, Suspend}
use Rattle.can_mac.specs.State.{MacState, IsFrameOrNone}
use Rattle.can_mac.specs.Machine.{mac_drives, part_drives}
use Rattle.can_mac.specs.Frames.{Begins, driven_at, with_intermission, behind_part, driven_with_intermission, slot_place, role_at, role_drives, frame_state, frame_drives, StartsWith, AreHeard, PartsAt, GoesBehind}
use Rattle.can_mac.proofs.FrameEnds.{Each, Each-at, end_levels, end_state}
use Rattle.can_mac.proofs.FrameParts.{part_state, length-with_intermission, line-early, line-late, phase-early}
use Rattle.can_mac.proofs.FrameRoles.{role-own, role-together, role-parted, level-together, parting, listens, drives, driving, receives, sends, ending}
use Rattle.can_mac.proofs.FrameSteps.{state-early, state-late}
use Rattle.can_mac.proofs.FrameRuns.{state_after-frame}

-- the levels of a transmitter after the stuffed part, to the end of intermission
abbrev silence : List Level
silence = tail Recessive Recessive ++ (Recessive ∷ Recessive ∷ Recessive ∷ [])

own-parts : (g : Parts) → driven_with_intermission g ≡ stuffed_part g ++ silence
own-parts g = append_assoc (stuffed_part g) (tail Recessive Recessive) (Recessive ∷ Recessive ∷ Recessive ∷ [])

pub own-early : (g : Parts) (o : ℕ) → o < length (stuffed_part g) → level_at (driven_with_intermission g) o ≡ level_at (stuffed_part g) o
own-early g o more = ap (λ l. level_at l o) (own-parts g) ∙ level_at-append (stuffed_part g) silence o more

own-late : (g : Parts) (o : ℕ) → length (stuffed_part g) ≤ o → level_at (driven_with_intermission g) o ≡ level_at silence (behind_part g o)
own-late g o past = ap (λ l. level_at l o) (own-parts g) ∙ level_at-behind (stuffed_part g) silence o past

-- a receiver drives the ACK slot alone
pub receiver-slot : (f : Parts) (o : ℕ) → o ≡ slot_place f → role_drives f Receiver o ≡ Dominant
receiver-slot f o here = cond-true (eqb o (slot_place f)) Dominant Recessive (eq-eqb o (slot_place f) here)

pub receiver-elsewhere : (f : Parts) (o : ℕ) → o ≢ slot_place f → role_drives f Receiver o ≡ Recessive
receiver-elsewhere f o other = cond-false (eqb o (slot_place f)) Dominant Recessive (ne_eqb o (slot_place f) other)

-- the phases after the stuffed part
module _ (f : Parts) (pending : ℕ) (c : ConfineParts) (now : Option Parts) where
  abbrev Drives : Role → List Level → ℕ → Type 0
  Drives role levels k = mac_drives (end_state f role pending c k) now ≡ level_at levels k

  -- the acknowledgment
  abbrev slot : List Level
  slot = Recessive ∷ Dominant ∷ Recessive ∷ Recessive ∷ Recessive ∷ Recessive ∷ Recessive ∷ Recessive ∷ Recessive ∷ Recessive ∷ Recessive ∷ Recessive ∷ Recessive ∷ []

  receiver-each : Each (Drives Receiver slot) 0 13
  unfolding mac_drives
  receiver-each = (refl, (refl, (refl, (refl, (refl, (refl, (refl, (refl, (refl, (refl, (refl, (refl, (refl, tt)))))))))))))

  sender-each : Each (Drives (Sender f) silence) 0 13
  unfolding mac_drives
  sender-each = (refl, (refl, (refl, (refl, (refl, (refl, (refl, (refl, (refl, (refl, (refl, (refl, (refl, tt)))))))))))))

  abbrev Slot : ℕ → Type 0
  Slot k = (k ≢ 1 → level_at slot k ≡ Recessive)

  slot-each : Each Slot 0 13
  slot-each = (λ e. refl, (λ e. absurd (e refl), (λ e. refl, (λ e. refl, (λ e. refl, (λ e. refl, (λ e. refl, (λ e. refl, (λ e. refl, (λ e. refl, (λ e. refl, (λ e. refl, (λ e. refl, tt)))))))))))))

  receiver-end : (o : ℕ) → length (stuffed_part f) ≤ o → behind_part f o < 13 → mac_drives (end_state f Receiver pending c (behind_part f o)) now ≡ role_drives f Receiver o
  receiver-end o past few =
      let k = behind_part f o in
      let is = Each-at (Drives Receiver slot) 0 13 k receiver-each (omega arith) (omega arith) in
      elim (cases_eq k 1) [
        | inl here ↦ is ∙ ap (level_at slot) here ∙ sym (receiver-slot f o (omega (arith, here)))
        | inr other ↦ is ∙ Each-at Slot 0 13 k slot-each (omega arith) (omega arith) other ∙ sym (receiver-elsewhere f o (λ at. other (omega (arith, at))))
      ]

  sender-end : (o : ℕ) → length (stuffed_part f) ≤ o → behind_part f o < 13 → mac_drives (end_state f (Sender f) pending c (behind_part f o)) now ≡ role_drives f (Sender f) o
  sender-end o past few =
      Each-at (Drives (Sender f) silence) 0 13 (behind_part f o) sender-each (omega arith) (omega arith) ∙ sym (own-late f o past)

idle-drives : (f : Parts) (m : MacState) (waiting : Option Parts) → m.phase ≡ Idle → mac_drives m waiting ≡ frame_drives f waiting 0
unfolding mac_drives stuffed_part unstuffed stuffed head
idle-drives f m None idle = rw idle (sym (receiver-elsewhere f 0 (λ e. omega (arith, e))))
idle-drives f m (Some g) idle = rw idle refl

suspended-drives : (f : Parts) (m : MacState) (waiting : Option Parts) (place : ℕ) → m.phase ≡ Suspend place → mac_drives m waiting ≡ frame_drives f None 0
unfolding mac_drives stuffed_part unstuffed stuffed head
suspended-drives f m waiting place suspended = rw suspended (sym (receiver-elsewhere f 0 (λ e. omega (arith, e))))

-- what a controller that is between frames drives as f begins
pub begins-drives : (f : Parts) (m : MacState) (waiting next : Option Parts) → Begins m.phase waiting next → mac_drives m waiting ≡ frame_drives f next 0
begins-drives f m waiting next (inl idle) = idle-drives f m waiting idle.0 ∙ ap (λ w. frame_drives f w 0) (sym idle.1)
begins-drives f m waiting next (inr suspended) =
    suspended-drives f m waiting suspended.0 suspended.1.0 ∙ ap (λ w. frame_drives f w 0) (sym suspended.1.1)

module _ (f : Parts) (is : IsFrame f) (waiting : Option Parts) (kept : IsFrameOrNone waiting) (behind : GoesBehind f waiting) (pending : ℕ) (c : ConfineParts) (now : Option Parts) (o : ℕ) where
  abbrev state : MacState
  state = frame_state f waiting pending c o

  drives-as : (role : Role) → role_at f waiting o ≡ role → mac_drives state now ≡ role_drives f role o → mac_drives state now ≡ frame_drives f waiting o
  drives-as role was level = level ∙ ap (λ r. role_drives f r o) (sym was)

  drives-early : 0 < o → o < length (stuffed_part f) → mac_drives state now ≡ frame_drives f waiting o
  unfolding mac_drives
  drives-early some more =
      let here : (role : Role) → role_at f waiting o ≡ role → mac_drives state now ≡ part_drives role (front_at f o) =
      (λ role was.
      ap (λ m. mac_drives m now) (state-early f is waiting pending c o (omega (arith, more)))
      ∙ ap (λ p. mac_drives (part_state p (role_at f waiting o) (record { pending = pending; used = 0 }) c) now) (phase-early f is o some more)
      ∙ ap (λ r. part_drives r (front_at f o)) was) in
      elim (driving f waiting is kept behind o some more) [
        | listens was ↦ drives-as Receiver was (here Receiver was ∙ sym (receiver-elsewhere f o (λ e. omega (arith, e, more))))
        | drives g was level more_g ↦ drives-as (Sender g) was (here (Sender g) was ∙ level ∙ sym (own-early g o more_g))
      ]

  drives-late : length (stuffed_part f) ≤ o → o < length (with_intermission f) → mac_drives state now ≡ frame_drives f waiting o
  drives-late past within =
      let few : behind_part f o < 13 = omega (arith, within, length-with_intermission f) in
      let here : (role : Role) → role_at f waiting o ≡ role → mac_drives state now ≡ mac_drives (end_state f role pending c (behind_part f o)) now =
      (λ role was. ap (λ m. mac_drives m now) (state-late f is waiting pending c o past ∙ ap (λ r. end_state f r pending c (behind_part f o)) was)) in
      elim (ending f waiting is kept behind) [
        | receives role ↦ drives-as Receiver (role o past) (here Receiver (role o past) ∙ receiver-end f pending c now o past few)
        | sends role ↦ drives-as (Sender f) (role o) (here (Sender f) (role o) ∙ sender-end f pending c now o past few)
      ]

  pub drives-frame : 0 < o → o < length (with_intermission f) → mac_drives state now ≡ frame_drives f waiting o
  drives-frame some within = elim (cases_lt o (length (stuffed_part f))) [
    | inl more ↦ drives-early some more
    | inr past ↦ drives-late past within
  ]

-- what a controller drives in each bit time of f
pub driven_at-frame : (f : Parts) (m : MacState) (waits : ℕ → Option Parts) → StartsWith f m (waits 0) → (o : ℕ) → AreHeard f m (o + 1) → driven_at m waits (with_intermission f) o ≡ frame_drives f (waits 0) o
driven_at-frame f m waits start zero heard = idle-drives f m (waits 0) start.idle
driven_at-frame f m waits start (suc o) heard =
    let here : AreHeard f m (suc o) = record { some = omega arith; within = omega (arith, heard.within); no_wish = λ past. heard.no_wish (omega (arith, past)) } in
    ap (λ s. mac_drives s (waits (suc o))) (state_after-frame f m waits start (suc o) here)
    ∙ drives-frame f start.frame (waits 0) start.kept start.behind m.overloads.pending m.counters (waits (suc o)) (suc o) (omega arith) (omega (arith, heard.within))

-- after the stuffed part the bus has the levels that the transmitter drives, except in the ACK slot
abbrev Alike : ℕ → Type 0
Alike k = k ≢ 1 → level_at silence k ≡ level_at end_levels k

alike-each : Each Alike 0 13
alike-each = (λ e. refl, (λ e. absurd (e refl), (λ e. refl, (λ e. refl, (λ e. refl, (λ e. refl, (λ e. refl, (λ e. refl, (λ e. refl, (λ e. refl, (λ e. refl, (λ e. refl, (λ e. refl, tt)))))))))))))

pub own-line : (f : Parts) (o : ℕ) → o < length (with_intermission f) → o ≢ slot_place f → level_at (driven_with_intermission f) o ≡ level_at (with_intermission f) o
own-line f o within other = elim (cases_lt o (length (stuffed_part f))) [
  | inl more ↦ own-early f o more ∙ sym (line-early f o more)
  | inr past ↦
      let few : behind_part f o < 13 = omega (arith, within, length-with_intermission f) in
      own-late f o past ∙ Each-at Alike 0 13 (behind_part f o) alike-each (omega arith) few (λ e. other (omega (arith, e))) ∙ sym (line-late f o past)
]

pub own-slot : (f : Parts) (o : ℕ) → o ≡ slot_place f → level_at (driven_with_intermission f) o ≡ Recessive
own-slot f o here =
    let one : behind_part f o ≡ 1 = omega (arith, here) in
    own-late f o (omega (arith, here)) ∙ ap (level_at silence) one

line-slot : (f : Parts) (o : ℕ) → o ≡ slot_place f → level_at (with_intermission f) o ≡ Dominant
line-slot f o here =
    let one : behind_part f o ≡ 1 = omega (arith, here) in
    line-late f o (omega (arith, here)) ∙ ap (level_at end_levels) one

-- whoever drives f, or goes with it, drives the bus's level or recessive
receiver-over : (f : Parts) (o : ℕ) → (role_drives f Receiver o ≡ Recessive) ⊎ (role_drives f Receiver o ≡ level_at (with_intermission f) o)
receiver-over f o = elim (cases_eq o (slot_place f)) [
  | inl here ↦ inr (receiver-slot f o here ∙ sym (line-slot f o here))
  | inr other ↦ inl (receiver-elsewhere f o other)
]

sender-over : (f : Parts) (o : ℕ) → o < length (with_intermission f) → (level_at (driven_with_intermission f) o ≡ Recessive) ⊎ (level_at (driven_with_intermission f) o ≡ level_at (with_intermission f) o)
sender-over f o within = elim (cases_eq o (slot_place f)) [
  | inl here ↦ inl (own-slot f o here)
  | inr other ↦ inr (own-line f o within other)
]

abbrev pub Over : Parts → Option Parts → ℕ → Type 0
Over f waiting o = (frame_drives f waiting o ≡ Recessive) ⊎ (frame_drives f waiting o ≡ level_at (with_intermission f) o)

over-as : (f : Parts) (waiting : Option Parts) (o : ℕ) (role : Role) → role_at f waiting o ≡ role
    → (role_drives f role o ≡ Recessive) ⊎ (role_drives f role o ≡ level_at (with_intermission f) o) → Over f waiting o
over-as f waiting o role was level = subst (λ r. (role_drives f r o ≡ Recessive) ⊎ (role_drives f r o ≡ level_at (with_intermission f) o)) (sym was) level

contender-over : (f g : Parts) → IsFrame f → IsFrame g → (place : ℕ) → PartsAt f g place → (o : ℕ) → Over f (Some g) o
contender-over f g f_is g_is place parts o = elim (cases_lt place o) [
  | inl past ↦ over-as f (Some g) o Receiver (role-parted f g place parts o past) (receiver-over f o)
  | inr within ↦
      let more = parts.within_sent in
      let sent = own-early g o (omega arith) ∙ sym (line-early g o (omega arith)) in
      over-as f (Some g) o (Sender g) (role-together f g place parts o within) (elim (cases_eq o place) [
        | inl here ↦ inl (sent ∙ ap (level_at (with_intermission g)) here ∙ parts.high)
        | inr other ↦ inr (sent ∙ level-together f g place parts o (omega (arith, within, other)))
      ])
]

pub frame-over : (f : Parts) (waiting : Option Parts) → IsFrame f → IsFrameOrNone waiting → GoesBehind f waiting → (o : ℕ) → o < length (with_intermission f) → Over f waiting o
frame-over f None is kept behind o within = over-as f None o Receiver refl (receiver-over f o)
frame-over f (Some g) is kept (inl own) o within = subst (λ h. Over f (Some h) o) (sym own) (over-as f (Some f) o (Sender f) (role-own f o) (sender-over f o within))
frame-over f (Some g) is kept (inr before) o within =
    let place = parting f g is kept before in
    contender-over f g is kept place.0 place.1 o

-- the same in each role
module _ (f : Parts) (m : MacState) (waits : ℕ → Option Parts) (start : StartsWith f m (waits 0)) (o : ℕ) (heard : AreHeard f m (o + 1)) where
  driven-as : (waiting : Option Parts) → waits 0 ≡ waiting → driven_at m waits (with_intermission f) o ≡ frame_drives f waiting o
  driven-as waiting e = driven_at-frame f m waits start o heard ∙ ap (λ w. frame_drives f w o) e

  sender-drives : waits 0 ≡ Some f → driven_at m waits (with_intermission f) o ≡ level_at (driven_with_intermission f) o
  sender-drives e = driven-as (Some f) e ∙ ap (λ r. role_drives f r o) (role-own f o)

  pub sender-drives-line : waits 0 ≡ Some f → o ≢ slot_place f → driven_at m waits (with_intermission f) o ≡ level_at (with_intermission f) o
  sender-drives-line e other = sender-drives e ∙ own-line f o (omega (arith, heard.within)) other

  pub sender-drives-slot : waits 0 ≡ Some f → o ≡ slot_place f → driven_at m waits (with_intermission f) o ≡ Recessive
  sender-drives-slot e here = sender-drives e ∙ own-slot f o here

  pub receiver-drives-nothing : waits 0 ≡ None → o ≢ slot_place f → driven_at m waits (with_intermission f) o ≡ Recessive
  receiver-drives-nothing e other = driven-as None e ∙ receiver-elsewhere f o other

  pub receiver-drives-slot : waits 0 ≡ None → o ≡ slot_place f → driven_at m waits (with_intermission f) o ≡ Dominant
  receiver-drives-slot e here = driven-as None e ∙ receiver-slot f o here

  pub driven-over : (driven_at m waits (with_intermission f) o ≡ Recessive) ⊎ (driven_at m waits (with_intermission f) o ≡ level_at (with_intermission f) o)
  driven-over =
      subst (λ y. (y ≡ Recessive) ⊎ (y ≡ level_at (with_intermission f) o)) (sym (driven_at-frame f m waits start o heard))
      (frame-over f (waits 0) start.frame start.kept start.behind o (omega (arith, heard.within)))
