-- A controller whose frame g has lower priority than the frame f on the bus: before the place where they differ, there, and after it.
use Rattle.std.proofs.Common.{◌≡◌, ℕ, ◌+◌, ◌<◌, ◌≤◌, Option, Some, refl, sym, ◌∙◌, ap, arith}
use Rattle.std.proofs.Math.Dec.{ltb}
use Rattle.std.proofs.lemmas.Bool.{cond_both}
use Rattle.can_frame.specs.Parts.{Parts}
use Rattle.can_wire.specs.Layout.{level_at}
use Rattle.can_terms.specs.declared.event.Event.TheVariants.{Lost}
use Rattle.can_mac.specs.declared.phase.Role.TheVariants.{Receiver, Sender}
use Rattle.can_mac.specs.State.{MacState}
use Rattle.can_mac.specs.Frames.{state_after, told_at, driven_at, with_intermission, behind_part, role_at, role_after, role_drives, frame_drives, frame_event, loss, StartsWith, AreHeard, PartsAt}
use Rattle.can_mac.proofs.FrameParts.{length-wire, length-with_intermission, line-early}
use Rattle.can_mac.proofs.FrameRoles.{role-together, role-parted}
use Rattle.can_mac.proofs.FrameSteps.{event-early}
use Rattle.can_mac.proofs.FrameRuns.{state_after-frame, told_at-frame}
use Rattle.can_mac.proofs.FrameDrives.{own-early, driven_at-frame}

module _ (f g : Parts) (m : MacState) (waits : ℕ → Option Parts) (start : StartsWith f m (waits 0)) (contends : waits 0 ≡ Some g) (place : ℕ) (parts : PartsAt f g place) where
  -- levels up to that place, and with it
  together : (o : ℕ) → 0 < o → o ≤ place + 1 → AreHeard f m o
  together o some within =
      let more = parts.within in
      record { some = some; within = omega (arith, length-with_intermission f); no_wish = λ past. absurd (omega (arith, past, length-wire f)) }

  -- up to there it is a transmitter
  pub contender-sends : (o : ℕ) → 0 < o → o ≤ place → (state_after m waits (with_intermission f) o).role ≡ Sender g
  contender-sends o some within =
      let more = parts.within in
      let none : behind_part f o ≡ 0 = omega arith in
      ap (λ s. s.role) (state_after-frame f m waits start o (together o some (omega arith)))
      ∙ ap (λ k. role_after (role_at f (waits 0) o) k) none
      ∙ ap (λ w. role_at f w o) contends
      ∙ role-together f g place parts o within

  -- it drives its own levels
  pub contender-drives : (o : ℕ) → o ≤ place → driven_at m waits (with_intermission f) o ≡ level_at (with_intermission g) o
  contender-drives o within =
      let more = parts.within_sent in
      driven_at-frame f m waits start o (together (o + 1) (omega arith) (omega arith))
      ∙ ap (λ w. frame_drives f w o) contends
      ∙ ap (λ r. role_drives f r o) (role-together f g place parts o within)
      ∙ own-early g o (omega arith)
      ∙ sym (line-early g o (omega arith))

  -- there it reports that it has lost
  pub contender-lost : told_at m waits (with_intermission f) place ≡ Some Lost
  contender-lost =
      told_at-frame f m waits start place (together (place + 1) (omega arith) (omega arith))
      ∙ ap (λ w. frame_event f w place) contends
      ∙ event-early f (Some g) place parts.within
      ∙ ap (λ r. loss r (role_at f (Some g) (place + 1))) (role-together f g place parts place (omega arith))
      ∙ ap (loss (Sender g)) (role-parted f g place parts (place + 1) (omega arith))

  receiver-stays : (k : ℕ) → role_after Receiver k ≡ Receiver
  receiver-stays k = cond_both (ltb k 13) Receiver Receiver (λ r. r ≡ Receiver) (λ e. refl) (λ e. refl)

  -- afterwards it is a receiver
  pub contender-receives : (o : ℕ) → place < o → AreHeard f m o → (state_after m waits (with_intermission f) o).role ≡ Receiver
  contender-receives o past heard =
      ap (λ s. s.role) (state_after-frame f m waits start o heard)
      ∙ ap (λ r. role_after r (behind_part f o)) (ap (λ w. role_at f w o) contends ∙ role-parted f g place parts o past)
      ∙ receiver-stays (behind_part f o)
