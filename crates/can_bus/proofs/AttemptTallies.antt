-- What one attempt makes of the counters of a port: the tally, as long as the port is error active.
use Rattle.std.specs.Prelude.{nat_lt, if◌then◌else◌}
use Rattle.std.proofs.Common.{◌≡◌, ℕ, suc, ◌+◌, ◌-◌, ◌<◌, min, Bool, true, false, Some, refl, sym, ap, subst, ◌∙◌, arith, inl, inr}
use Rattle.std.proofs.Math.Dec.{ltb, leb}
use Rattle.std.proofs.lemmas.Bool.{cond-true, cond-false, cond_both, cases_lt, lt-ltb, le-ltb, leb-true, false_from_ne_true}
use Rattle.can_frame.specs.Parts.{Parts}
use Rattle.can_fault.specs.declared.cause.Cause.{Cause}
use Rattle.can_fault.specs.declared.cause.Cause.TheVariants.{FrameReceived, FrameSent, ReceiverError, SenderError}
use Rattle.can_fault.specs.Counters.{ConfineParts, changed, counted, is_bus_off}
use Rattle.can_mac.specs.declared.phase.Role.TheVariants.{Receiver}
use Rattle.can_mac.specs.Frames.{behind_part, counters_after, slot_place}
use Rattle.can_node.specs.Ports.{PortState, waiting}
use Rattle.can_node.proofs.FrameLeaves.{Sends, Receives}
use Rattle.can_bus.specs.Quiet.{holds}
use Rattle.can_bus.specs.Attempts.{Tally, IsLow, after_receiver_error, after_reception, tallied}
use Rattle.can_bus.proofs.CalmPorts.{IsWithin, received-fewer, within-received, sends-has}
use Rattle.can_bus.proofs.QuietLogs.{TakesPart, holds-own, holds-none, others-of}

-- ---- One error more.

module _ (h : ℕ) (c : ConfineParts) (within : IsWithin h c) where
  pub within-more : IsWithin (suc h) c
  within-more = record { low_tec = within.low_tec; low_rec = within.low_rec; tec = omega (arith, within.tec); rec = omega (arith, within.rec); occurrences = within.occurrences; row = within.row }

  pub sender-within : c.tec + 8 < 128 → IsWithin (suc h) (counted SenderError c)
  sender-within low =
      cond_both {A = ConfineParts} (is_bus_off c) c (changed SenderError c) (IsWithin (suc h)) (λ e. within-more)
      (λ e. record { low_tec = low; low_rec = within.low_rec; tec = omega (arith, within.tec); rec = omega (arith, within.rec); occurrences = within.occurrences; row = within.row })

  pub receiver-within : c.rec + 1 < 128 → IsWithin (suc h) (counted ReceiverError c)
  receiver-within low =
      cond_both {A = ConfineParts} (is_bus_off c) c (changed ReceiverError c) (IsWithin (suc h)) (λ e. within-more)
      (λ e. record { low_tec = within.low_tec; low_rec = omega (arith, low); tec = omega (arith, within.tec); rec = omega (arith, within.rec); occurrences = within.occurrences; row = within.row })

pub within-slot : (h : ℕ) (c : ConfineParts) (k : ℕ) → IsWithin h c → IsWithin h (counters_after Receiver c k)
within-slot h c k within = cond_both {A = ConfineParts} (nat_lt k 2) c (counted FrameReceived c) (IsWithin h) (λ e. within) (λ e. within-received h c within)

-- ---- The tally of one attempt.

abbrev pub tally_of : ConfineParts → Tally
tally_of c = record { tec = c.tec; rec = c.rec }

on-bus : (h : ℕ) (c : ConfineParts) → IsWithin h c → is_bus_off c ≡ false
on-bus h c within = false_from_ne_true (leb 256 c.tec) (λ e. omega (arith, leb-true 256 c.tec e, within.low_tec))

pub counted-on : (h : ℕ) (cause : Cause) (c : ConfineParts) → IsWithin h c → counted cause c ≡ changed cause c
counted-on h cause c within = cond-false (is_bus_off c) c (changed cause c) (on-bus h c within)

-- what can_fault counts, at an error active port, is what the tally says of a frame that is sent, of one that is received, and of an error
-- at its transmitter and at a receiver
module _ (h : ℕ) (c : ConfineParts) (within : IsWithin h c) where
  tally-by : (cause : Cause) (t : Tally) → tally_of (changed cause c) ≡ t → tally_of (counted cause c) ≡ t
  tally-by cause t same = ap tally_of (counted-on h cause c within) ∙ same

  pub sent-counts : tally_of (counted FrameSent c) ≡ record { tec = c.tec - 1; rec = c.rec }
  sent-counts = tally-by FrameSent _ refl

  pub reception-counts : tally_of (counted FrameReceived c) ≡ after_reception (tally_of c)
  reception-counts = tally-by FrameReceived _ (ap (λ n. let t : Tally = record { tec = c.tec; rec = n } in t) (received-fewer c.rec within.low_rec))

  pub sender-error-counts : tally_of (counted SenderError c) ≡ record { tec = c.tec + 8; rec = c.rec }
  sender-error-counts = tally-by SenderError _ refl

  pub receiver-error-counts : tally_of (counted ReceiverError c) ≡ after_receiver_error (tally_of c)
  receiver-error-counts =
      let few : min (c.rec + 1) 255 ≡ c.rec + 1 = omega (arith, within.low_rec) in
      tally-by ReceiverError _ (ap (λ n. let t : Tally = record { tec = c.tec; rec = n } in t) few)

abbrev pub part-holds : (f : Parts) (p : PortState) → TakesPart f p → Bool
part-holds f p (inl sends) = true
part-holds f p (inr receives) = false

pub holds-part : (f : Parts) (p : PortState) (part : TakesPart f p) → holds p.queue f ≡ part-holds f p part
holds-part f p (inl sends) = holds-own f p.queue (sends-has f p sends)
holds-part f p (inr receives) = holds-none f p.queue (others-of f p.queue (waiting p.queue) refl receives.other)

-- after the ACK slot a receiver has counted a reception
pub slot-tally : (h : ℕ) (f : Parts) (o : ℕ) (c : ConfineParts) → IsWithin h c →
    tally_of (counters_after Receiver c (behind_part f o)) ≡ (if nat_lt (slot_place f) o then after_reception (tally_of c) else tally_of c)
slot-tally h f o c within = elim (cases_lt (slot_place f) o) [
  | inl past ↦
      ap tally_of (cond-false (ltb (behind_part f o) 2) _ _ (le-ltb (behind_part f o) 2 (omega (arith, past)))) ∙ reception-counts h c within
      ∙ sym (cond-true (ltb (slot_place f) o) (after_reception (tally_of c)) (tally_of c) (lt-ltb (slot_place f) o past))
  | inr early ↦
      ap tally_of (cond-true (ltb (behind_part f o) 2) _ _ (lt-ltb (behind_part f o) 2 (omega (arith, early))))
      ∙ sym (cond-false (ltb (slot_place f) o) (after_reception (tally_of c)) (tally_of c) (le-ltb (slot_place f) o early))
]

-- ---- A port that a hit leaves error active.

abbrev pub Survives : Parts → ℕ → PortState → Type 0
Survives f o p = IsLow (tallied (holds p.queue f) f (Some o) (tally_of p.mac.counters))

pub survives-sender : (f : Parts) (o : ℕ) (p : PortState) → Survives f o p → Sends f p → p.mac.counters.tec + 8 < 128
survives-sender f o p low sends = (subst (λ b. IsLow (tallied b f (Some o) (tally_of p.mac.counters))) (holds-part f p (inl sends)) low).tec

pub survives-receiver : (h : ℕ) (f : Parts) (o : ℕ) (p : PortState) → IsWithin h p.mac.counters → Survives f o p → Receives f p →
    (counters_after Receiver p.mac.counters (behind_part f o)).rec + 1 < 128
survives-receiver h f o p within low receives =
    let less = (subst (λ b. IsLow (tallied b f (Some o) (tally_of p.mac.counters))) (holds-part f p (inr receives)) low).rec in
    subst (λ (t : Tally). t.rec + 1 < 128) (sym (slot-tally h f o p.mac.counters within)) (omega (arith, less))
