-- A receiver, bit time by bit time, until it detects an error.
use Rattle.std.proofs.Common.{◌≡◌, ℕ, suc, ◌<◌, ◌⊎◌, Option, Some, None, List, length, ◌∙◌, ap, subst, arith, inl, inr}
use Rattle.std.proofs.lemmas.Bool.{cases_lt}
use Rattle.can_frame.specs.declared.level.Level.{Level}
use Rattle.can_frame.specs.declared.level.Level.TheVariants.{Dominant, Recessive}
use Rattle.can_frame.specs.Parts.{Parts}
use Rattle.can_wire.specs.Layout.{level_at}
use Rattle.can_code.specs.Front.{first_front}
use Rattle.can_fault.specs.Counters.{ConfineParts}
use Rattle.can_terms.specs.declared.event.Event.{Event}
use Rattle.can_terms.specs.declared.event.Event.TheVariants.{Error}
use Rattle.can_terms.specs.declared.event.ErrorKind.{ErrorKind}
use Rattle.can_terms.specs.declared.phase_kind.PhaseKind.TheVariants as kind
use Rattle.can_mac.specs.declared.phase.Role.TheVariants.{Receiver}
use Rattle.can_mac.specs.declared.phase.Phase.TheVariants.{StuffedPart, ErrorFlag}
use Rattle.can_mac.specs.State.{MacPhase, MacState, phase_kind, kind_of}
use Rattle.can_mac.specs.Machine.{mac_drives, mac_step, phase_drives}
use Rattle.can_mac.specs.Frames.{state_after, told_at, driven_at}
use Rattle.can_mac.proofs.FrameParts.{part_state}
use Rattle.can_signalling.specs.Signalling.{over, sampled, IsReady, DrivesInSlot, IsQuietBefore}
use Rattle.can_signalling.proofs.Sampled.{sampled-at, over-recessive}

module _ (m : MacState) (waits : ℕ → Option Parts) (others : List Level) where
  abbrev levels : List Level
  levels = sampled m waits others

  -- a receiver of the frame in this phase, with these counters
  abbrev pub receiving : MacPhase → ConfineParts → MacState
  receiving phase c = part_state phase Receiver (record { pending = m.overloads.pending; used = 0 }) c

  -- it is in this phase in bit time t, and has reported nothing
  pub record Walks (slot t : ℕ) (phase : MacPhase) (c : ConfineParts) : Type 0 where
    pub state : state_after m waits (sampled m waits others) t ≡ receiving phase c
    pub quiet : IsQuietBefore m waits others slot t

  -- and has driven recessive all along
  abbrev pub Listens : ℕ → MacPhase → Type 0
  Listens t phase = (slot : ℕ) → Walks slot t phase m.counters

  -- one bit time more
  up_to : (P : ℕ → Type 0) (t : ℕ) → ((o : ℕ) → o < t → P o) → P t → (o : ℕ) → o < suc t → P o
  up_to P t before here o inside = elim (cases_lt o t) [
    | inl earlier ↦ before o earlier
    | inr last ↦ let same : t ≡ o = omega arith in subst P same here
  ]

  -- the start of frame
  pub Listens-begins : IsReady m waits → 0 < length others → level_at others 0 ≡ Dominant → Listens 1 (StuffedPart first_front)
  unfolding mac_drives mac_step
  Listens-begins ready some start slot =
      let seen : level_at levels 0 ≡ Dominant = sampled-at others m waits 0 some ∙ ap (λ x. over x (driven_at m waits levels 0)) start in
      let step : mac_step m (waits 0) (level_at levels 0) ≡ (receiving (StuffedPart first_front) m.counters, None) =
      ap (mac_step m (waits 0)) seen ∙ ap (λ w. mac_step m w Dominant) ready.none ∙ ap (λ p. mac_step (part_state p m.role m.overloads m.counters) None Dominant) ready.idle in
      let drives : driven_at m waits levels 0 ≡ Recessive = ap (mac_drives m) ready.none ∙ ap (λ p. mac_drives (part_state p m.role m.overloads m.counters) None) ready.idle in
      record {
        state = ap (λ r. r.0) step;
        quiet = record {
          silent = up_to (λ o. told_at m waits levels o ≡ None) 0 (λ o none. absurd (omega arith)) (ap (λ r. r.1) step);
          drives = up_to (DrivesInSlot m waits others slot) 0 (λ o none. absurd (omega arith)) (inl drives);
        };
      }

  module _ (slot t : ℕ) (phase : MacPhase) (c : ConfineParts) (more : t < length others) (walk : Walks slot t phase c) where
    -- it drives what its phase says
    pub Walks-driven : driven_at m waits (sampled m waits others) t ≡ phase_drives phase Receiver (waits t)
    unfolding mac_drives
    Walks-driven = ap (λ n. mac_drives n (waits t)) walk.state

    abbrev x : Level
    x = over (level_at others t) (phase_drives phase Receiver (waits t))

    -- so its step is that of its phase
    stepped : mac_step (state_after m waits levels t) (waits t) (level_at levels t) ≡ mac_step (receiving phase c) (waits t) x
    stepped = ap (λ n. mac_step n (waits t) (level_at levels t)) walk.state ∙ ap (mac_step (receiving phase c) (waits t)) (sampled-at others m waits t more ∙ ap (over (level_at others t)) Walks-driven)

    -- it goes on
    pub Walks-next : (next : MacPhase) (d : ConfineParts) → mac_step (receiving phase c) (waits t) (over (level_at others t) (phase_drives phase Receiver (waits t))) ≡ (receiving next d, None)
        → (phase_drives phase Receiver (waits t) ≡ Recessive) ⊎ ((t ≡ slot) × (phase_kind phase ≡ kind.AckSlot))
        → Walks slot (suc t) next d
    Walks-next next d step own =
        let whole = stepped ∙ step in
        record {
          state = ap (λ r. r.0) whole;
          quiet = record {
            silent = up_to (λ o. told_at m waits levels o ≡ None) t walk.quiet.silent (ap (λ r. r.1) whole);
            drives = up_to (DrivesInSlot m waits others slot) t walk.quiet.drives (drives own);
          };
        }
      where
        drives : (phase_drives phase Receiver (waits t) ≡ Recessive) ⊎ ((t ≡ slot) × (phase_kind phase ≡ kind.AckSlot)) → DrivesInSlot m waits others slot t
        drives (inl recessive) = inl (Walks-driven ∙ recessive)
        drives (inr here) = inr (here.0, ap kind_of walk.state ∙ here.1)

    -- or detects an error
    pub Walks-told : (error : ErrorKind) (d : ConfineParts) → mac_step (receiving phase c) (waits t) (over (level_at others t) (phase_drives phase Receiver (waits t))) ≡ (receiving (ErrorFlag 0) d, Some (Error error))
        → told_at m waits (sampled m waits others) t ≡ Some (Error error)
    Walks-told error d step = ap (λ r. r.1) (stepped ∙ step)

    pub Walks-flag : (error : ErrorKind) (d : ConfineParts) → mac_step (receiving phase c) (waits t) (over (level_at others t) (phase_drives phase Receiver (waits t))) ≡ (receiving (ErrorFlag 0) d, Some (Error error))
        → (state_after m waits (sampled m waits others) (suc t)).phase ≡ ErrorFlag 0
    Walks-flag error d step = ap (λ r. r.0.phase) (stepped ∙ step)

    -- where it drives recessive it samples the level of the others
    pub Walks-step : (v : Level) → level_at others t ≡ v → ((w : Option Parts) → phase_drives phase Receiver w ≡ Recessive) → (e : MacState × Option Event)
        → mac_step (receiving phase c) (waits t) v ≡ e → mac_step (receiving phase c) (waits t) (over (level_at others t) (phase_drives phase Receiver (waits t))) ≡ e
    Walks-step v here recessive e step =
        ap (mac_step (receiving phase c) (waits t)) (ap (over (level_at others t)) (recessive (waits t)) ∙ over-recessive (level_at others t) ∙ here) ∙ step
