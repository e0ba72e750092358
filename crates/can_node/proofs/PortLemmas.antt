-- What a port's queue and log make of it.
use Rattle.std.proofs.Common.{◌≡◌, ℕ, ◌+◌, ◌<◌, ◌≤◌, List, [], ◌∷◌, ◌++◌, length, sym, ◌∙◌, ap, inl, inr}
use Rattle.std.specs.Prelude.{Option, None, min, nat_lt}
use Rattle.std.proofs.lemmas.Bool.{cond-true, cond-false, cases_Bool, ltb-true, ltb-false}
use Rattle.can_frame.specs.Parts.{Parts}
use Rattle.can_mac.specs.declared.phase.Phase.TheVariants.{Idle}
use Rattle.can_frame.specs.declared.level.Level.TheVariants.{Recessive}
use Rattle.can_mac.specs.State.{MacPhase, MacState}
use Rattle.can_mac.specs.Machine.{mac_drives, mac_step}
use Rattle.can_terms.specs.declared.event.Event.{Event}
use Rattle.can_node.specs.declared.entry.Entry.{Entry}
use Rattle.can_node.specs.Ports.{PortState, IsAtRest, port_drives, port_noting, port_step, port_logging, missed_limit}

-- a log with one entry more, or with one more missed
pub port_logging_is : (entry : Entry) (p : PortState) (log : List Entry) (missed : ℕ) →
    (length p.log < p.log_room → log ≡ p.log ++ entry ∷ []) → (length p.log < p.log_room → missed ≡ p.missed) →
    (p.log_room ≤ length p.log → log ≡ p.log) → (p.log_room ≤ length p.log → missed ≡ min (p.missed + 1) missed_limit) →
    record p { log = log; missed = missed } ≡ port_logging entry p
port_logging_is entry p log missed taken none full more =
    elim (cases_Bool (nat_lt (length p.log) p.log_room)) [
      | inl b ↦
          let fits : length p.log < p.log_room = ltb-true (length p.log) p.log_room b in
          ap (λ l. record p { log = l; missed = missed }) (taken fits)
          ∙ ap (λ m. record p { log = p.log ++ entry ∷ []; missed = m }) (none fits)
          ∙ sym (cond-true (nat_lt (length p.log) p.log_room) (record p { log = p.log ++ entry ∷ [] }) (record p { missed = min (p.missed + 1) missed_limit }) b)
      | inr b ↦
          let past : p.log_room ≤ length p.log = ltb-false (length p.log) p.log_room b in
          ap (λ l. record p { log = l; missed = missed }) (full past)
          ∙ ap (λ m. record p { missed = m }) (more past)
          ∙ sym (cond-false (nat_lt (length p.log) p.log_room) (record p { log = p.log ++ entry ∷ [] }) (record p { missed = min (p.missed + 1) missed_limit }) b)
    ]

-- a port at rest drives recessive
pub rests_recessive : (p : PortState) → IsAtRest p → port_drives p ≡ Recessive
unfolding port_drives mac_drives
rests_recessive p h =
    ap (λ (w : Option Parts). mac_drives p.mac w) h.1
    ∙ ap (λ (phase : MacPhase). mac_drives (record p.mac { phase = phase }) None) h.0

idle_stays : (m : MacState) → m.phase ≡ Idle → mac_step m None Recessive ≡ (m, None)
unfolding mac_step
idle_stays m idle =
    ap (λ (phase : MacPhase). mac_step (record m { phase = phase }) None Recessive) idle
    ∙ ap (λ (phase : MacPhase). (record m { phase = phase }, None)) (sym idle)

-- and a recessive level leaves it as it is
pub rests_unchanged : (p : PortState) → IsAtRest p → port_step p Recessive ≡ p
unfolding port_step
rests_unchanged p h =
    let still = ap (λ (w : Option Parts). mac_step p.mac w Recessive) h.1 ∙ idle_stays p.mac h.0 in
    ap (λ (r : MacState × Option Event). port_noting r.1 (record p { mac = r.0 })) still
