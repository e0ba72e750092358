-- In each bit time of a frame that is broken off, at a port at which frames arrive in the meantime: nothing is logged, no entry is
-- missed, and the counters stay within their bounds.
use Rattle.std.proofs.Common.{◌≡◌, ℕ, zero, suc, ◌<◌, ◌≤◌, Some, List, [], ◌∷◌, ◌++◌, length, take, refl, sym, ap, subst, ◌∙◌, arith, inl, inr}
use Rattle.std.proofs.lemmas.List.{length-take-le, get_or-take}
use Rattle.can_frame.specs.declared.level.Level.{Level}
use Rattle.can_frame.specs.declared.level.Level.TheVariants.{Dominant}
use Rattle.can_frame.specs.Parts.{Parts, IsFrame}
use Rattle.can_wire.specs.Layout.{level_at}
use Rattle.can_fault.specs.declared.cause.Cause.TheVariants.{ReceiverError, SenderError}
use Rattle.can_fault.specs.Counters.{counted}
use Rattle.can_mac.specs.declared.phase.Role.TheVariants.{Receiver}
use Rattle.can_mac.specs.State.{MacState}
use Rattle.can_mac.specs.Frames.{with_intermission, driven_with_intermission, frame_drives, behind_part, role_at, counters_after, frame_state}
use Rattle.can_mac.proofs.FrameEnds.{Each-at}
use Rattle.can_mac.proofs.FrameParts.{length-with_intermission}
use Rattle.can_mac.proofs.ErrorFrames.{Goes, unasked, left_idle}
use Rattle.can_mac.proofs.BrokenFrames.{sender_frame}
use Rattle.can_mac.proofs.HitLevels.{IsHit, breaks-soon, inverted}
use Rattle.can_node.specs.declared.entry.Entry.{Entry}
use Rattle.can_node.specs.Ports.{PortState, waiting}
use Rattle.can_node.proofs.Arrivals.{GainingPort, gaining_step, gaining_run}
use Rattle.can_node.proofs.OneFrame.{port_at, gaining_at, gaining_step-at}
use Rattle.can_node.proofs.FrameLeaves.{log-unsent, log-unreceived}
use Rattle.can_node.proofs.BrokenFrames.{seen_of, one-port_step}
use Rattle.can_node.proofs.GainingBreaks.{put, gained, one-gaining_step, sender-stood, receiver-stood}
use Rattle.can_bus.proofs.CalmPorts.{IsWithin, IsCalm}
use Rattle.can_bus.proofs.QuietLogs.{TakesPart, part-meets, misses-part}
use Rattle.can_bus.proofs.BrokenOnBus.{broken-seen, dead_time, receiver_dead, sender-seen, receiver-seen, sender-goes, receiver-goes}
use Rattle.can_bus.proofs.AttemptTallies.{within-more, sender-within, receiver-within, within-slot, Survives, survives-sender, survives-receiver}
use Rattle.can_bus.proofs.RepairCounts.{within-role}
use Rattle.can_bus.proofs.Repairs.{bear-port, broken_levels}

-- it holds of the port before each of these levels, and after the last
abbrev pub AllAlong : (PortState → Type 0) → List Level → GainingPort → Type 0
AllAlong P [] g = P g.port
AllAlong P (x ∷ levels) g = P g.port × AllAlong P levels (gaining_step g x)

module _ (P : PortState → Type 0) where
  pub along-part : (n : ℕ) (levels : List Level) (g : GainingPort) → AllAlong P levels g → P (gaining_run g (take n levels)).port
  along-part zero [] g along = along
  along-part zero (x ∷ levels) g along = along.0
  along-part (suc n) [] g along = along
  along-part (suc n) (x ∷ levels) g along = along-part n levels (gaining_step g x) along.1

  along-append : (a b : List Level) (g : GainingPort) → AllAlong P a g → AllAlong P b (gaining_run g a) → AllAlong P (a ++ b) g
  along-append [] b g first next = next
  along-append (x ∷ a) b g first next = (first.0, along-append a b (gaining_step g x) first.1 next)

  along-states : (levels : List Level) (s : ℕ → GainingPort) → ((o : ℕ) → o < length levels → gaining_step (s o) (level_at levels o) ≡ s (suc o)) →
      ((o : ℕ) → o ≤ length levels → P (s o).port) → AllAlong P levels (s 0)
  along-states [] s steps each = each 0 (omega arith)
  along-states (x ∷ levels) s steps each = (
    each 0 (omega arith),
    subst (AllAlong P levels) (sym (steps 0 (omega arith)))
        (along-states levels (λ o. s (suc o)) (λ o within. steps (suc o) (omega (arith, within))) (λ o within. each (suc o) (omega (arith, within)))),
  )

-- log and count of missed entries are these, and the counters are those of an error active port
pub record Kept (h : ℕ) (log : List Entry) (missed : ℕ) (q : PortState) : Type 0 where
  pub same_log : q.log ≡ log
  pub same_missed : q.missed ≡ missed
  pub within : IsWithin h q.mac.counters

goes-along : (h : ℕ) (log : List Entry) (missed : ℕ) (levels : List (Level × Level)) (m n : MacState) → Goes (IsWithin h) levels m n → IsWithin h n.counters →
    (g : GainingPort) → g.port.log ≡ log → g.port.missed ≡ missed → AllAlong (Kept h log missed) (seen_of levels) (put m g)
goes-along h log missed [] m n goes last g same_log same_missed =
    record { same_log = same_log; same_missed = same_missed; within = subst (λ (s : MacState). IsWithin h s.counters) (sym goes) last }
goes-along h log missed (l ∷ levels) m n goes last g same_log same_missed = (
  record { same_log = same_log; same_missed = same_missed; within = goes.0 },
  subst (AllAlong (Kept h log missed) (seen_of levels)) (sym (one-gaining_step m l goes.1.0 g (one-port_step m l.0 l.1 goes.1.0 goes.1.1.0 g.port)))
      (goes-along h log missed levels goes.1.0 n goes.1.1.1 last (gained 1 g) same_log same_missed),
)

module _ (h : ℕ) (f : Parts) (is : IsFrame f) (o : ℕ) (hit : IsHit f o) (g : GainingPort) where
  abbrev p : PortState
  p = g.port

  abbrev KeptHere : PortState → Type 0
  KeptHere = Kept (suc h) p.log p.missed

  abbrev front : List Level
  front = take o (with_intermission f)

  in_line : o ≤ length (with_intermission f)
  in_line = omega (arith, hit.within, length-with_intermission f)

  unlogged : TakesPart f p → (k : ℕ) → k ≤ o → (port_at f p g.arrives k).log ≡ p.log
  unlogged (inl sends) k within = log-unsent f p g.arrives sends k (omega (arith, within, hit.within))
  unlogged (inr receives) k within = log-unreceived f p g.arrives receives k (omega (arith, within, hit.within))

  kept-at : IsWithin (suc h) p.mac.counters → TakesPart f p → (k : ℕ) → k ≤ o → KeptHere (port_at f p g.arrives k)
  kept-at within part zero less = record { same_log = refl; same_missed = refl; within = within }
  kept-at within part (suc k) less = record {
    same_log = unlogged part (suc k) less;
    same_missed = misses-part f p g.arrives part (suc k);
    within = within-role (suc h) (role_at f (waiting p.queue) (suc k)) p.mac.counters (behind_part f (suc k)) within;
  }

  front-kept : IsWithin (suc h) p.mac.counters → TakesPart f p → AllAlong KeptHere front g
  front-kept within part =
      let long : length front ≡ o = length-take-le o (with_intermission f) in_line in
      along-states KeptHere front (gaining_at f g)
      (λ k less. ap (gaining_step (gaining_at f g k)) (get_or-take o (with_intermission f) k Dominant (omega (arith, less, long)))
      ∙ gaining_step-at f g (part-meets f p part) k (omega (arith, less, long, in_line)))
      (λ k less. kept-at within part k (omega (arith, less, long)))

  behind-kept : (n : ℕ) → IsCalm h n p → Survives f o p → TakesPart f p → AllAlong KeptHere (inverted f is o hit ∷ seen_of (dead_time (breaks-soon f is o hit).0)) (gaining_run g front)
  behind-kept n calm low (inl sends) =
      let soon = breaks-soon f is o hit in
      let seen : seen_of (sender_frame soon.0) ≡ seen_of (dead_time soon.0) = Each-at (λ i. seen_of (sender_frame i) ≡ seen_of (dead_time i)) 0 7 soon.0 sender-seen (omega arith) (omega (arith, soon.1.0)) in
      let state = frame_state f (Some f) p.mac.overloads.pending p.mac.counters o in
      subst (AllAlong KeptHere (inverted f is o hit ∷ seen_of (dead_time soon.0))) (sym (sender-stood f g o hit sends))
      (subst (λ xs. AllAlong KeptHere (inverted f is o hit ∷ xs) (put state (gained o g))) seen
      (goes-along (suc h) p.log p.missed ((level_at (driven_with_intermission f) o, inverted f is o hit) ∷ sender_frame soon.0) state
      (left_idle (record { pending = p.mac.overloads.pending; used = 0 }) (counted SenderError p.mac.counters))
      (sender-goes f is o hit (IsWithin (suc h)) soon.0 soon.1.0 soon.1.1 p sends ((bear-port h f is o hit n p calm low).0 sends))
      (sender-within h p.mac.counters calm.within (survives-sender f o p low sends)) (gained o g) refl refl))
  behind-kept n calm low (inr receives) =
      let soon = breaks-soon f is o hit in
      let later = counters_after Receiver p.mac.counters (behind_part f o) in
      let seen : seen_of (receiver_dead soon.0) ≡ seen_of (dead_time soon.0) = Each-at (λ i. seen_of (receiver_dead i) ≡ seen_of (dead_time i)) 0 7 soon.0 receiver-seen (omega arith) (omega (arith, soon.1.0)) in
      let state = frame_state f (waiting p.queue) 0 p.mac.counters o in
      subst (AllAlong KeptHere (inverted f is o hit ∷ seen_of (dead_time soon.0))) (sym (receiver-stood f g o hit receives))
      (subst (λ xs. AllAlong KeptHere (inverted f is o hit ∷ xs) (put state (gained o g))) seen
      (goes-along (suc h) p.log p.missed ((frame_drives f (waiting p.queue) o, inverted f is o hit) ∷ receiver_dead soon.0) state (left_idle unasked (counted ReceiverError later))
      (receiver-goes f is o hit (IsWithin (suc h)) soon.0 soon.1.0 soon.1.1 p receives ((bear-port h f is o hit n p calm low).1 receives))
      (receiver-within h later (within-slot h p.mac.counters (behind_part f o) calm.within) (survives-receiver h f o p calm.within low receives)) (gained o g) refl refl))

  pub hit-kept : (n : ℕ) → IsCalm h n p → Survives f o p → TakesPart f p → AllAlong KeptHere (seen_of (broken_levels f is o hit)) g
  hit-kept n calm low part =
      let j = (breaks-soon f is o hit).0 in
      subst (λ ls. AllAlong KeptHere ls g) (sym (broken-seen f is o hit j))
      (along-append KeptHere front (inverted f is o hit ∷ seen_of (dead_time j)) g (front-kept (within-more h p.mac.counters calm.within) part) (behind-kept n calm low part))
