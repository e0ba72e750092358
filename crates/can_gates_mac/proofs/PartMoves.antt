-- The stuffed part's rows are the machine's move.
use Rattle.std.specs.Prelude.{◌≡◌, ◌==◌, length, Bool, true, false, not, ◌&&◌, if◌then◌else◌, Some, None, refl}
use Rattle.std.proofs.Common.{◌∙◌, ap, sym}
use Rattle.can_frame.specs.declared.level.Level.{Level}
use Rattle.can_frame.specs.declared.level.Level.TheVariants.{Dominant, Recessive}
use Rattle.can_frame.specs.Levels.{is_recessive, same}
use Rattle.can_frame.specs.Parts.{Parts}
use Rattle.can_code.specs.Front.{FrontParts, heard_level}
use Rattle.can_code.specs.Sending.{sent_level}
use Rattle.can_terms.specs.declared.event.Event.TheVariants.{Lost}
use Rattle.can_terms.specs.declared.event.ErrorKind.TheVariants.{Bit, Stuff}
use Rattle.can_mac.specs.declared.moves.Stance.{Stance}
use Rattle.can_mac.specs.declared.phase.Overloads.{Overloads}
use Rattle.can_mac.specs.declared.phase.Role.{Role}
use Rattle.can_mac.specs.declared.phase.Role.TheVariants.{Receiver, Sender}
use Rattle.can_mac.specs.declared.phase.Phase.TheVariants.{CrcDelimiter, StuffedPart}
use Rattle.can_mac.specs.Moves.{MacMove, goes, errs, errs_by, reading_of, ends_part, in_arbitration, stuffed_part_move, stuff_bit_move, sent_bit_move}
use Rattle.can_gates.specs.Circuit.{differ}
use Rattle.can_gates_mac.specs.Numbers.{Numbers, numbers, is_sender}
use Rattle.can_gates_mac.specs.Sensed.{going}
use Rattle.can_gates_mac.proofs.PhaseMoves.{stance}

-- the machine's move, as a function of what it reads of the front h after this level
abbrev hears : Stance → FrontParts → Bool → MacMove
hears s h ends = goes s (if ends then CrcDelimiter (reading_of h.unstuffed) else StuffedPart h)

abbrev uncounted : Role → Level → Bool → Bool
uncounted Receiver x arb = false
uncounted (Sender f) Dominant arb = arb
uncounted (Sender f) Recessive arb = false

abbrev stuff_error : Stance → Role → Level → Bool → MacMove
stuff_error s role x arb = if uncounted role x arb then errs_by None false s Stuff else errs s Stuff

abbrev sent_bit : Stance → FrontParts → Bool → Bool → Level → Level → MacMove
sent_bit s h arb ends Dominant Dominant = hears s h ends
sent_bit s h arb ends Recessive Recessive = hears s h ends
sent_bit s h arb ends Dominant Recessive = errs s Bit
sent_bit s h arb ends Recessive Dominant = if arb then record (hears s h ends) { role = Receiver; event = Some Lost } else errs s Bit

abbrev bit_of : Stance → Role → FrontParts → Bool → Bool → Level → Level → MacMove
bit_of s Receiver h arb ends sent x = hears s h ends
bit_of s (Sender f) h arb ends sent x = sent_bit s h arb ends sent x

abbrev part_of : Stance → Role → FrontParts → Bool → Bool → Bool → Bool → Level → Level → MacMove
part_of s role h due repeats arb ends sent x = if due then (if repeats then stuff_error s role x arb else hears s h ends) else bit_of s role h arb ends sent x

part_rows : (passive : Bool) (role : Role) (overloads : Overloads) (h : FrontParts) (due repeats arb ends : Bool) (sent x : Level) (w1 w2 w3 w4 w5 w6 w7 : Numbers) → w1 ≡ numbers (errs_by None false (stance passive role overloads) Stuff) → w2 ≡ numbers (errs (stance passive role overloads) Stuff) → w3 ≡ record (going (stance passive role overloads) 3 0 0 3) { sender = false } → w4 ≡ record (going (stance passive role overloads) 2 0 0 3) { sender = false } → w5 ≡ numbers (errs (stance passive role overloads) Bit) → w6 ≡ going (stance passive role overloads) 3 0 0 0 → w7 ≡ going (stance passive role overloads) 2 0 0 0 → (if (due && repeats) && ((is_sender role && not (is_recessive x)) && arb) then w1 else if true && (due && repeats) then w2 else if ((((not due && is_sender role) && differ (is_recessive sent) (is_recessive x)) && is_recessive sent) && arb) && ends then w3 else if true && ((((not due && is_sender role) && differ (is_recessive sent) (is_recessive x)) && is_recessive sent) && arb) then w4 else if true && ((not due && is_sender role) && differ (is_recessive sent) (is_recessive x)) then w5 else if true && ends then w6 else w7) ≡ numbers (part_of (stance passive role overloads) role h due repeats arb ends sent x)
part_rows passive Receiver overloads h true true arb ends sent Dominant w1 w2 w3 w4 w5 w6 w7 e1 e2 e3 e4 e5 e6 e7 = e2
part_rows passive Receiver overloads h true true arb ends sent Recessive w1 w2 w3 w4 w5 w6 w7 e1 e2 e3 e4 e5 e6 e7 = e2
part_rows passive Receiver overloads h true false arb true sent x w1 w2 w3 w4 w5 w6 w7 e1 e2 e3 e4 e5 e6 e7 = e6
part_rows passive Receiver overloads h true false arb false sent x w1 w2 w3 w4 w5 w6 w7 e1 e2 e3 e4 e5 e6 e7 = e7
part_rows passive (Sender f) overloads h true true true ends sent Dominant w1 w2 w3 w4 w5 w6 w7 e1 e2 e3 e4 e5 e6 e7 = e1
part_rows passive (Sender f) overloads h true true false ends sent Dominant w1 w2 w3 w4 w5 w6 w7 e1 e2 e3 e4 e5 e6 e7 = e2
part_rows passive (Sender f) overloads h true true arb ends sent Recessive w1 w2 w3 w4 w5 w6 w7 e1 e2 e3 e4 e5 e6 e7 = e2
part_rows passive (Sender f) overloads h true false arb true sent x w1 w2 w3 w4 w5 w6 w7 e1 e2 e3 e4 e5 e6 e7 = e6
part_rows passive (Sender f) overloads h true false arb false sent x w1 w2 w3 w4 w5 w6 w7 e1 e2 e3 e4 e5 e6 e7 = e7
part_rows passive Receiver overloads h false repeats arb true sent x w1 w2 w3 w4 w5 w6 w7 e1 e2 e3 e4 e5 e6 e7 = e6
part_rows passive Receiver overloads h false repeats arb false sent x w1 w2 w3 w4 w5 w6 w7 e1 e2 e3 e4 e5 e6 e7 = e7
part_rows passive (Sender f) overloads h false repeats arb true Dominant Dominant w1 w2 w3 w4 w5 w6 w7 e1 e2 e3 e4 e5 e6 e7 = e6
part_rows passive (Sender f) overloads h false repeats arb false Dominant Dominant w1 w2 w3 w4 w5 w6 w7 e1 e2 e3 e4 e5 e6 e7 = e7
part_rows passive (Sender f) overloads h false repeats arb ends Dominant Recessive w1 w2 w3 w4 w5 w6 w7 e1 e2 e3 e4 e5 e6 e7 = e5
part_rows passive (Sender f) overloads h false repeats true true Recessive Dominant w1 w2 w3 w4 w5 w6 w7 e1 e2 e3 e4 e5 e6 e7 = e3
part_rows passive (Sender f) overloads h false repeats true false Recessive Dominant w1 w2 w3 w4 w5 w6 w7 e1 e2 e3 e4 e5 e6 e7 = e4
part_rows passive (Sender f) overloads h false repeats false ends Recessive Dominant w1 w2 w3 w4 w5 w6 w7 e1 e2 e3 e4 e5 e6 e7 = e5
part_rows passive (Sender f) overloads h false repeats arb true Recessive Recessive w1 w2 w3 w4 w5 w6 w7 e1 e2 e3 e4 e5 e6 e7 = e6
part_rows passive (Sender f) overloads h false repeats arb false Recessive Recessive w1 w2 w3 w4 w5 w6 w7 e1 e2 e3 e4 e5 e6 e7 = e7

-- the machine's move is this one, case by case
part_is : (passive : Bool) (overloads : Overloads) (f : Parts) (front : FrontParts) (l x : Level) → (if front.run == 5 then stuff_bit_move (stance passive (Sender f) overloads) front x else sent_bit_move (stance passive (Sender f) overloads) f front l x) ≡ part_of (stance passive (Sender f) overloads) (Sender f) (heard_level front x) (front.run == 5) (same x front.last) (in_arbitration f front.unstuffed) (ends_part (heard_level front x)) l x
part_is passive overloads f front Dominant Dominant = refl
part_is passive overloads f front Dominant Recessive = refl
part_is passive overloads f front Recessive Dominant = refl
part_is passive overloads f front Recessive Recessive = refl

pub stuffed_part_rows : (passive : Bool) (role : Role) (overloads : Overloads) (front : FrontParts) (x : Level) (due repeats arb sent ends : Bool) (w1 w2 w3 w4 w5 w6 w7 : Numbers) → due ≡ (front.run == 5) → repeats ≡ same x front.last → ((f : Parts) → role ≡ Sender f → arb ≡ in_arbitration f front.unstuffed) → ((f : Parts) → role ≡ Sender f → sent ≡ is_recessive (sent_level f (length front.unstuffed))) → ends ≡ ends_part (heard_level front x) → w1 ≡ numbers (errs_by None false (stance passive role overloads) Stuff) → w2 ≡ numbers (errs (stance passive role overloads) Stuff) → w3 ≡ record (going (stance passive role overloads) 3 0 0 3) { sender = false } → w4 ≡ record (going (stance passive role overloads) 2 0 0 3) { sender = false } → w5 ≡ numbers (errs (stance passive role overloads) Bit) → w6 ≡ going (stance passive role overloads) 3 0 0 0 → w7 ≡ going (stance passive role overloads) 2 0 0 0 → (if (due && repeats) && ((is_sender role && not (is_recessive x)) && arb) then w1 else if true && (due && repeats) then w2 else if ((((not due && is_sender role) && differ sent (is_recessive x)) && sent) && arb) && ends then w3 else if true && ((((not due && is_sender role) && differ sent (is_recessive x)) && sent) && arb) then w4 else if true && ((not due && is_sender role) && differ sent (is_recessive x)) then w5 else if true && ends then w6 else w7) ≡ numbers (stuffed_part_move (stance passive role overloads) front x)
stuffed_part_rows passive Receiver overloads front x due repeats arb true ends w1 w2 w3 w4 w5 w6 w7 d r a s e e1 e2 e3 e4 e5 e6 e7 = rw (d, r, e) (part_rows passive Receiver overloads (heard_level front x) (front.run == 5) (same x front.last) arb (ends_part (heard_level front x)) Recessive x w1 w2 w3 w4 w5 w6 w7 e1 e2 e3 e4 e5 e6 e7)
stuffed_part_rows passive Receiver overloads front x due repeats arb false ends w1 w2 w3 w4 w5 w6 w7 d r a s e e1 e2 e3 e4 e5 e6 e7 = rw (d, r, e) (part_rows passive Receiver overloads (heard_level front x) (front.run == 5) (same x front.last) arb (ends_part (heard_level front x)) Dominant x w1 w2 w3 w4 w5 w6 w7 e1 e2 e3 e4 e5 e6 e7)
stuffed_part_rows passive (Sender f) overloads front x due repeats arb sent ends w1 w2 w3 w4 w5 w6 w7 d r a s e e1 e2 e3 e4 e5 e6 e7 = (rw (d, r, a f refl, s f refl, e) (part_rows passive (Sender f) overloads (heard_level front x) (front.run == 5) (same x front.last) (in_arbitration f front.unstuffed) (ends_part (heard_level front x)) (sent_level f (length front.unstuffed)) x w1 w2 w3 w4 w5 w6 w7 e1 e2 e3 e4 e5 e6 e7)) ∙ ap numbers (sym (part_is passive overloads f front (sent_level f (length front.unstuffed)) x))
