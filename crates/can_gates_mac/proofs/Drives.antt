-- What a controller drives.
use Rattle.std.specs.Prelude.{nat_lt, nat_le, ℕ, ◌≡◌, ◌+◌, ◌≤◌, ◌==◌, Bool, true, false, not, ◌&&◌, ◌||◌, if◌then◌else◌, Option, Some, None, [], ◌∷◌, ◌++◌, length, get_or, refl}
use Rattle.std.proofs.Common.{arith, sym, ◌∙◌, ap}
use Rattle.std.proofs.lemmas.Bool.{cond-true, cond-false}
use Rattle.can_frame.specs.declared.level.Level.{Level}
use Rattle.can_frame.specs.declared.level.Level.TheVariants.{Dominant, Recessive}
use Rattle.can_frame.specs.Levels.{is_recessive, same, opposite}
use Rattle.can_frame.specs.Parts.{Parts}
use Rattle.can_wire.specs.Layout.{rtr_place}
use Rattle.can_wire.specs.Stuffing.{run_after}
use Rattle.can_code.specs.Front.{FrontParts, heard_level}
use Rattle.can_code.specs.Sending.{sent_level}
use Rattle.can_mac.specs.declared.phase.Role.{Role}
use Rattle.can_mac.specs.declared.phase.Role.TheVariants.{Receiver, Sender}
use Rattle.can_mac.specs.declared.phase.Phase.TheVariants.{Joining, Idle, StuffedPart, CrcDelimiter, AckSlot, AckDelimiter, EndOfFrame, ErrorFlag, PassiveFlag, OverloadFlag, AfterFlag, Delimiter, Intermission, Suspend, BusOff}
use Rattle.can_mac.specs.State.{MacPhase}
use Rattle.can_mac.specs.Machine.{phase_drives, idle_drives, slot_drives, part_drives}
use Rattle.can_gates.specs.declared.literal.Literal.{Literal}
use Rattle.can_gates.specs.Circuit.{value, differ}
use Rattle.can_gates_mac.specs.declared.nibble.Nibble.{Nibble}
use Rattle.can_gates_mac.specs.declared.driving.Sends.{Sends}
use Rattle.can_gates_mac.specs.Nibbles.{nibble}
use Rattle.can_gates_mac.specs.Numbers.{is_sender, is_waiting, phase_number}
use Rattle.can_gates_mac.specs.Inputs.{TellsReading}
use Rattle.can_gates_mac.specs.Driving.{DrivesPart, HoldsRun}
use Rattle.can_gates_mac.proofs.NibbleBits.{bits}

idle_is : (waiting : Option Parts) → not (is_waiting waiting) ≡ is_recessive (idle_drives waiting)
idle_is None = refl
idle_is (Some f) = refl

slot_is : (role : Role) (agrees : Bool) → (is_sender role || not agrees) ≡ is_recessive (slot_drives role agrees)
slot_is Receiver true = refl
slot_is Receiver false = refl
slot_is (Sender f) agrees = refl

opposite_is : (b : Bool) (l m : Level) → (if b then not (is_recessive l) else is_recessive m) ≡ is_recessive (if b then opposite l else m)
opposite_is true Dominant m = refl
opposite_is true Recessive m = refl
opposite_is false l m = refl

part_is : (v : ℕ → Bool) (k : Sends) (role : Role) (front : FrontParts) → DrivesPart v k role front → (not (is_sender role) || (if value v k.due then not (value v k.last) else value v k.sent)) ≡ is_recessive (part_drives role front)
part_is v k Receiver front h = refl
part_is v k (Sender f) front h = rw (h.due, h.last, h.sent f refl) (opposite_is (front.run == 5) front.last (sent_level f (length front.unstuffed)))

-- what is driven in each phase, by its number
pub driven : (v : ℕ → Bool) (k : Sends) (p : MacPhase) (role : Role) (waiting : Option Parts) (on off l0 l2 l4 otherwise : Literal) → value v on ≡ true → value v off ≡ false → value v l0 ≡ not (is_waiting waiting) → value v l2 ≡ (not (is_sender role) || (if value v k.due then not (value v k.last) else value v k.sent)) → value v l4 ≡ (is_sender role || not (value v k.agrees)) → TellsReading p (value v k.agrees) → ((front : FrontParts) → p ≡ StuffedPart front → DrivesPart v k role front) → value v (get_or (l0 ∷ on ∷ l2 ∷ on ∷ l4 ∷ on ∷ on ∷ off ∷ on ∷ off ∷ on ∷ on ∷ on ∷ on ∷ on ∷ []) (phase_number p) otherwise) ≡ is_recessive (phase_drives p role waiting)
driven v k (Joining row) role waiting on off l0 l2 l4 otherwise y n e0 e2 e4 agrees part = y
driven v k Idle role waiting on off l0 l2 l4 otherwise y n e0 e2 e4 agrees part = e0 ∙ idle_is waiting
driven v k (StuffedPart front) role waiting on off l0 l2 l4 otherwise y n e0 e2 e4 agrees part = e2 ∙ part_is v k role front (part front refl)
driven v k (CrcDelimiter r) role waiting on off l0 l2 l4 otherwise y n e0 e2 e4 agrees part = y
driven v k (AckSlot r) role waiting on off l0 l2 l4 otherwise y n e0 e2 e4 agrees part = e4 ∙ rw (agrees r refl) (slot_is role r.agrees)
driven v k (AckDelimiter r) role waiting on off l0 l2 l4 otherwise y n e0 e2 e4 agrees part = y
driven v k (EndOfFrame r place) role waiting on off l0 l2 l4 otherwise y n e0 e2 e4 agrees part = y
driven v k (ErrorFlag place) role waiting on off l0 l2 l4 otherwise y n e0 e2 e4 agrees part = n
driven v k (PassiveFlag prior run u) role waiting on off l0 l2 l4 otherwise y n e0 e2 e4 agrees part = y
driven v k (OverloadFlag place) role waiting on off l0 l2 l4 otherwise y n e0 e2 e4 agrees part = n
driven v k (AfterFlag first dominant) role waiting on off l0 l2 l4 otherwise y n e0 e2 e4 agrees part = y
driven v k (Delimiter place) role waiting on off l0 l2 l4 otherwise y n e0 e2 e4 agrees part = y
driven v k (Intermission place) role waiting on off l0 l2 l4 otherwise y n e0 e2 e4 agrees part = y
driven v k (Suspend place) role waiting on off l0 l2 l4 otherwise y n e0 e2 e4 agrees part = y
driven v k BusOff role waiting on off l0 l2 l4 otherwise y n e0 e2 e4 agrees part = y

pub five_bits : (n : ℕ) (a b c d : Bool) → n ≡ bits a b c d → n ≤ 5 → (a && c) ≡ (n == 5)
five_bits n a b c true e h = absurd (omega (arith, e, h))
five_bits n a true true false e h = absurd (omega (arith, e, h))
five_bits n false false false false e h = rw e refl
five_bits n true false false false e h = rw e refl
five_bits n false true false false e h = rw e refl
five_bits n true true false false e h = rw e refl
five_bits n false false true false e h = rw e refl
five_bits n true false true false e h = rw e refl

same_is : (x l : Level) → not (differ (is_recessive x) (is_recessive l)) ≡ same x l
same_is Dominant Dominant = refl
same_is Dominant Recessive = refl
same_is Recessive Dominant = refl
same_is Recessive Recessive = refl

pub repeats_is : (x l : Level) (d r : Bool) → d ≡ differ (is_recessive x) (is_recessive l) → r ≡ not d → r ≡ same x l
repeats_is x l d r e f = f ∙ rw e (same_is x l)

-- the run after a level
run_is : (front : FrontParts) (x : Level) (b : Bool) (next made : ℕ) → (front.run == 5) ≡ b → next ≡ front.run + 1 → made ≡ (if not b && same x front.last then next else 1) → made ≡ (heard_level front x).run
run_is front x true next made at is e = e ∙ ap (λ (f : FrontParts). f.run) (sym (cond-true (front.run == 5) (record { unstuffed = front.unstuffed; last = x; run = 1 }) (record { unstuffed = front.unstuffed ++ x ∷ []; last = x; run = run_after front.last front.run x }) at))
run_is front x false next made at is e = e ∙ rw is refl ∙ ap (λ (f : FrontParts). f.run) (sym (cond-false (front.run == 5) (record { unstuffed = front.unstuffed; last = x; run = 1 }) (record { unstuffed = front.unstuffed ++ x ∷ []; last = x; run = run_after front.last front.run x }) at))

last_is : (front : FrontParts) (x : Level) (b : Bool) → (front.run == 5) ≡ b → (heard_level front x).last ≡ x
last_is front x true at = ap (λ (f : FrontParts). f.last) (cond-true (front.run == 5) (record { unstuffed = front.unstuffed; last = x; run = 1 }) (record { unstuffed = front.unstuffed ++ x ∷ []; last = x; run = run_after front.last front.run x }) at)
last_is front x false at = ap (λ (f : FrontParts). f.last) (cond-false (front.run == 5) (record { unstuffed = front.unstuffed; last = x; run = 1 }) (record { unstuffed = front.unstuffed ++ x ∷ []; last = x; run = run_after front.last front.run x }) at)

pub heard_run : (v : ℕ → Bool) (seen : Literal) (row : Nibble) (front : FrontParts) (x : Level) (next : ℕ) → value v seen ≡ is_recessive x → next ≡ front.run + 1 → nibble v row ≡ (if not (front.run == 5) && same x front.last then next else 1) → HoldsRun v seen row (heard_level front x)
heard_run v seen row front x next is e made = record { last = is ∙ ap is_recessive (sym (last_is front x (front.run == 5) refl)); run = run_is front x (front.run == 5) next (nibble v row) refl e made }

-- arbitration ends with the RTR bit

at_most : (n k m : ℕ) → m ≡ k + 1 → nat_lt n m ≡ nat_le n k
at_most n k m e = grind (arith, e)

pub in_front : (n : ℕ) (extended : Bool) → nat_lt n (if extended then 33 else 13) ≡ nat_le n (rtr_place extended)
in_front n true = at_most n 32 33 (omega arith)
in_front n false = at_most n 12 13 (omega arith)
