-- Each phase's rows are the machine's move.
use Rattle.std.specs.Prelude.{ℕ, ◌≡◌, ◌+◌, ◌-◌, nat_lt, Bool, true, false, not, ◌&&◌, if◌then◌else◌, Option, Some, None, refl}
use Rattle.std.proofs.lemmas.Bool.{and_parts}
use Rattle.can_frame.specs.declared.level.Level.{Level}
use Rattle.can_frame.specs.declared.level.Level.TheVariants.{Dominant, Recessive}
use Rattle.can_frame.specs.Levels.{is_recessive}
use Rattle.can_frame.specs.Parts.{Parts}
use Rattle.can_fault.specs.declared.cause.Cause.{Cause}
use Rattle.can_fault.specs.declared.cause.Cause.TheVariants.{ReceiverFirstDominant, ReceiverDominantRun, SenderDominantRun, PassiveUnacknowledged}
use Rattle.can_terms.specs.declared.event.ErrorKind.TheVariants.{Bit, Crc, Form, Ack}
use Rattle.can_mac.specs.declared.moves.Stance.{Stance}
use Rattle.can_mac.specs.declared.phase.Reading.{Reading}
use Rattle.can_mac.specs.declared.phase.Overloads.{Overloads}
use Rattle.can_mac.specs.declared.phase.Role.{Role}
use Rattle.can_mac.specs.declared.phase.Role.TheVariants.{Receiver, Sender}
use Rattle.can_mac.specs.declared.phase.Phase.TheVariants.{Idle, PassiveFlag, AfterFlag}
use Rattle.can_mac.specs.State.{MacPhase}
use Rattle.can_mac.specs.Moves.{MacMove, goes, overload, errs, errs_in_flag, begins_frame, form_kind, is_held_back, next_role, enters_intermission, joining_move, idle_move, crc_delimiter_move, ack_slot_move, ack_delimiter_move, end_of_frame_move, error_flag_move, overload_flag_move, passive_flag_move, after_flag_move, delimiter_move, intermission_move, suspend_move}
use Rattle.can_gates.specs.Circuit.{differ}
use Rattle.can_gates_mac.specs.Numbers.{Numbers, numbers, is_sender, is_waiting}
use Rattle.can_gates_mac.specs.Sensed.{going}

row : (b : Bool) (w rest : Numbers) (p q : MacMove) → w ≡ numbers p → rest ≡ numbers q → (if b then w else rest) ≡ numbers (if b then p else q)
row true w rest p q e f = e
row false w rest p q e f = f

-- the same, if the first is only right when it is taken
row_where : (b : Bool) (w rest : Numbers) (p q : MacMove) → (b ≡ true → w ≡ numbers p) → rest ≡ numbers q → (if b then w else rest) ≡ numbers (if b then p else q)
row_where true w rest p q e f = e refl
row_where false w rest p q e f = f

-- an overload frame of its own
abbrev own : Stance → MacMove
own s = record (overload s) { overloads = record { pending = s.overloads.pending - 1; used = s.overloads.used + 1 } }

enters : (s : Stance) (w rest : Numbers) → (nat_lt s.overloads.used 2 ≡ true → w ≡ numbers (own s)) → rest ≡ going s 12 0 0 0 → (if nat_lt 0 s.overloads.pending && nat_lt s.overloads.used 2 then w else rest) ≡ numbers (enters_intermission s Receiver)
enters s w rest e f = row_where (nat_lt 0 s.overloads.pending && nat_lt s.overloads.used 2) _ _ _ _ (λ h. e (and_parts (nat_lt 0 s.overloads.pending) (nat_lt s.overloads.used 2) h).1) f

pub joining_rows : (s : Stance) (n : ℕ) (x : Level) (w1 w2 w3 : Numbers) → w1 ≡ going s 1 0 0 0 → w2 ≡ going s 1 (n + 1) 0 0 → w3 ≡ going s 0 0 0 0 → (if true && not (is_recessive x) then w1 else if true && nat_lt n 10 then w2 else w3) ≡ numbers (joining_move s n x)
joining_rows s n Dominant w1 w2 w3 e1 e2 e3 = e1
joining_rows s n Recessive w1 w2 w3 e1 e2 e3 = row (nat_lt n 10) _ _ _ _ e2 e3

pub idle_rows : (s : Stance) (waiting : Option Parts) (x : Level) (w1 w2 w3 w4 : Numbers) → ((f : Parts) → w1 ≡ numbers (begins_frame s (Sender f))) → w2 ≡ numbers (begins_frame s Receiver) → ((f : Parts) → w3 ≡ numbers (errs (record s { role = Sender f }) Bit)) → w4 ≡ going s 0 0 0 0 → (if not (is_recessive x) && is_waiting waiting then w1 else if true && not (is_recessive x) then w2 else if true && is_waiting waiting then w3 else w4) ≡ numbers (idle_move s waiting x)
idle_rows s None Dominant w1 w2 w3 w4 e1 e2 e3 e4 = e2
idle_rows s None Recessive w1 w2 w3 w4 e1 e2 e3 e4 = e4
idle_rows s (Some f) Dominant w1 w2 w3 w4 e1 e2 e3 e4 = e1 f
idle_rows s (Some f) Recessive w1 w2 w3 w4 e1 e2 e3 e4 = e3 f

pub crc_delimiter_rows : (s : Stance) (r : Reading) (x : Level) (w1 w2 : Numbers) → w1 ≡ going s 4 0 0 0 → w2 ≡ numbers (errs s (form_kind s.role)) → (if true && is_recessive x then w1 else w2) ≡ numbers (crc_delimiter_move s r x)
crc_delimiter_rows s r Recessive w1 w2 e1 e2 = e1
crc_delimiter_rows s r Dominant w1 w2 e1 e2 = e2

abbrev pub stance : Bool → Role → Overloads → Stance
stance passive role overloads = record { passive = passive; role = role; overloads = overloads }

pub ack_slot_rows : (passive : Bool) (role : Role) (overloads : Overloads) (r : Reading) (x : Level) (w1 w2 w3 w4 w5 w6 : Numbers) → w1 ≡ going (stance passive role overloads) 5 0 0 0 → w2 ≡ record (going (stance passive role overloads) 8 0 0 8) { last = true; unacknowledged = true } → w3 ≡ numbers (errs (stance passive role overloads) Ack) → w4 ≡ going (stance passive role overloads) 5 0 5 0 → w5 ≡ numbers (errs (stance passive role overloads) Bit) → w6 ≡ going (stance passive role overloads) 5 0 0 0 → (if is_sender role && not (is_recessive x) then w1 else if is_sender role && passive then w2 else if true && is_sender role then w3 else if not (is_recessive x) && r.agrees then w4 else if is_recessive x && r.agrees then w5 else w6) ≡ numbers (ack_slot_move (stance passive role overloads) role r x)
ack_slot_rows passive (Sender f) overloads r Dominant w1 w2 w3 w4 w5 w6 e1 e2 e3 e4 e5 e6 = e1
ack_slot_rows true (Sender f) overloads r Recessive w1 w2 w3 w4 w5 w6 e1 e2 e3 e4 e5 e6 = e2
ack_slot_rows false (Sender f) overloads r Recessive w1 w2 w3 w4 w5 w6 e1 e2 e3 e4 e5 e6 = e3
ack_slot_rows passive Receiver overloads r Dominant w1 w2 w3 w4 w5 w6 e1 e2 e3 e4 e5 e6 = row r.agrees _ _ _ _ e4 e6
ack_slot_rows passive Receiver overloads r Recessive w1 w2 w3 w4 w5 w6 e1 e2 e3 e4 e5 e6 = row r.agrees _ _ _ _ e5 e6

pub ack_delimiter_rows : (passive : Bool) (role : Role) (overloads : Overloads) (r : Reading) (x : Level) (w1 w2 w3 : Numbers) → w1 ≡ numbers (errs (stance passive role overloads) (form_kind role)) → w2 ≡ numbers (errs (stance passive role overloads) Crc) → w3 ≡ going (stance passive role overloads) 6 0 0 0 → (if true && not (is_recessive x) then w1 else if true && (not (is_sender role) && not r.agrees) then w2 else w3) ≡ numbers (ack_delimiter_move (stance passive role overloads) r x)
ack_delimiter_rows passive role overloads r Dominant w1 w2 w3 e1 e2 e3 = e1
ack_delimiter_rows passive (Sender f) overloads r Recessive w1 w2 w3 e1 e2 e3 = e3
ack_delimiter_rows passive Receiver overloads r Recessive w1 w2 w3 e1 e2 e3 = row (not r.agrees) _ _ _ _ e2 e3

pub end_of_frame_rows : (passive : Bool) (role : Role) (overloads : Overloads) (r : Reading) (n : ℕ) (x : Level) (w1 w2 w3 w4 w5 w6 w7 w8 w9 : Numbers) → w1 ≡ numbers (errs (stance passive role overloads) Bit) → w2 ≡ going (stance passive role overloads) 6 (n + 1) 0 0 → w3 ≡ going (stance passive role overloads) 12 0 4 1 → w4 ≡ numbers (errs (stance passive role overloads) Form) → w5 ≡ going (stance passive role overloads) 9 0 0 9 → w6 ≡ going (stance passive role overloads) 6 (n + 1) 0 0 → w7 ≡ going (stance passive role overloads) 6 6 0 2 → (nat_lt overloads.used 2 ≡ true → w8 ≡ numbers (own (stance passive role overloads))) → w9 ≡ going (stance passive role overloads) 12 0 0 0 → (if is_sender role && not (is_recessive x) then w1 else if is_sender role && nat_lt n 6 then w2 else if true && is_sender role then w3 else if not (is_recessive x) && nat_lt n 6 then w4 else if true && not (is_recessive x) then w5 else if true && nat_lt n 5 then w6 else if true && nat_lt n 6 then w7 else if true && (nat_lt 0 overloads.pending && nat_lt overloads.used 2) then w8 else w9) ≡ numbers (end_of_frame_move (stance passive role overloads) role r n x)
end_of_frame_rows passive (Sender f) overloads r n Dominant w1 w2 w3 w4 w5 w6 w7 w8 w9 e1 e2 e3 e4 e5 e6 e7 e8 e9 = e1
end_of_frame_rows passive (Sender f) overloads r n Recessive w1 w2 w3 w4 w5 w6 w7 w8 w9 e1 e2 e3 e4 e5 e6 e7 e8 e9 = row (nat_lt n 6) _ _ _ _ e2 e3
end_of_frame_rows passive Receiver overloads r n Dominant w1 w2 w3 w4 w5 w6 w7 w8 w9 e1 e2 e3 e4 e5 e6 e7 e8 e9 = row (nat_lt n 6) _ _ _ _ e4 e5
end_of_frame_rows passive Receiver overloads r n Recessive w1 w2 w3 w4 w5 w6 w7 w8 w9 e1 e2 e3 e4 e5 e6 e7 e8 e9 = row (nat_lt n 5) _ _ _ _ e6 (row (nat_lt n 6) _ _ _ _ e7 (enters (stance passive Receiver overloads) _ _ e8 e9))

pub error_flag_rows : (s : Stance) (n : ℕ) (x : Level) (w1 w2 w3 : Numbers) → w1 ≡ numbers (errs_in_flag s) → w2 ≡ going s 7 (n + 1) 0 0 → w3 ≡ record (going s 10 0 0 0) { first = true } → (if true && is_recessive x then w1 else if true && nat_lt n 5 then w2 else w3) ≡ numbers (error_flag_move s n x)
error_flag_rows s n Recessive w1 w2 w3 e1 e2 e3 = e1
error_flag_rows s n Dominant w1 w2 w3 e1 e2 e3 = row (nat_lt n 5) _ _ _ _ e2 e3

pub overload_flag_rows : (s : Stance) (n : ℕ) (x : Level) (w1 w2 w3 : Numbers) → w1 ≡ numbers (errs_in_flag s) → w2 ≡ going s 9 (n + 1) 0 0 → w3 ≡ going s 10 0 0 0 → (if true && is_recessive x then w1 else if true && nat_lt n 5 then w2 else w3) ≡ numbers (overload_flag_move s n x)
overload_flag_rows s n Recessive w1 w2 w3 e1 e2 e3 = e1
overload_flag_rows s n Dominant w1 w2 w3 e1 e2 e3 = row (nat_lt n 5) _ _ _ _ e2 e3

-- a passive flag that goes on, or ends
ends_flag : (s : Stance) (b : Bool) (p q : MacPhase) (cause : Option Cause) (w rest : Numbers) → w ≡ numbers (record (goes s p) { cause = cause }) → rest ≡ numbers (record (goes s q) { cause = cause }) → (if b then w else rest) ≡ numbers (record (goes s (if b then p else q)) { cause = cause })
ends_flag s true p q cause w rest e f = e
ends_flag s false p q cause w rest e f = f

ends_flag_late : (s : Stance) (b : Bool) (p q : MacPhase) (cause : Option Cause) (w other rest : Numbers) → w ≡ numbers (record (goes s p) { cause = cause }) → rest ≡ numbers (record (goes s q) { cause = cause }) → (if b then w else if b then other else rest) ≡ numbers (record (goes s (if b then p else q)) { cause = cause })
ends_flag_late s true p q cause w other rest e f = e
ends_flag_late s false p q cause w other rest e f = f

pub passive_flag_rows : (s : Stance) (last : Level) (n : ℕ) (u : Bool) (x : Level) (w1 w2 w3 w4 : Numbers) → w1 ≡ record (going s 8 (if differ (is_recessive last) (is_recessive x) then 1 else n + 1) 3 0) { last = is_recessive x; unacknowledged = false } → w2 ≡ record (going s 8 (if differ (is_recessive last) (is_recessive x) then 1 else n + 1) 0 0) { last = is_recessive x; unacknowledged = u && is_recessive x } → w3 ≡ record (going s 10 0 3 0) { first = true } → w4 ≡ record (going s 10 0 0 0) { first = true } → (if (u && not (is_recessive x)) && nat_lt (if differ (is_recessive last) (is_recessive x) then 1 else n + 1) 6 then w1 else if true && nat_lt (if differ (is_recessive last) (is_recessive x) then 1 else n + 1) 6 then w2 else if true && (u && not (is_recessive x)) then w3 else w4) ≡ numbers (passive_flag_move s last n u x)
passive_flag_rows s Dominant n true Dominant w1 w2 w3 w4 e1 e2 e3 e4 = ends_flag_late s (nat_lt (n + 1) 6) (PassiveFlag Dominant (n + 1) false) (AfterFlag true 0) (Some PassiveUnacknowledged) w1 w2 w3 e1 e3
passive_flag_rows s Dominant n true Recessive w1 w2 w3 w4 e1 e2 e3 e4 = ends_flag s (nat_lt 1 6) (PassiveFlag Recessive 1 true) (AfterFlag true 0) None _ _ e2 e4
passive_flag_rows s Dominant n false Dominant w1 w2 w3 w4 e1 e2 e3 e4 = ends_flag s (nat_lt (n + 1) 6) (PassiveFlag Dominant (n + 1) false) (AfterFlag true 0) None _ _ e2 e4
passive_flag_rows s Dominant n false Recessive w1 w2 w3 w4 e1 e2 e3 e4 = ends_flag s (nat_lt 1 6) (PassiveFlag Recessive 1 false) (AfterFlag true 0) None _ _ e2 e4
passive_flag_rows s Recessive n true Dominant w1 w2 w3 w4 e1 e2 e3 e4 = ends_flag_late s (nat_lt 1 6) (PassiveFlag Dominant 1 false) (AfterFlag true 0) (Some PassiveUnacknowledged) w1 w2 w3 e1 e3
passive_flag_rows s Recessive n true Recessive w1 w2 w3 w4 e1 e2 e3 e4 = ends_flag s (nat_lt (n + 1) 6) (PassiveFlag Recessive (n + 1) true) (AfterFlag true 0) None _ _ e2 e4
passive_flag_rows s Recessive n false Dominant w1 w2 w3 w4 e1 e2 e3 e4 = ends_flag s (nat_lt 1 6) (PassiveFlag Dominant 1 false) (AfterFlag true 0) None _ _ e2 e4
passive_flag_rows s Recessive n false Recessive w1 w2 w3 w4 e1 e2 e3 e4 = ends_flag s (nat_lt (n + 1) 6) (PassiveFlag Recessive (n + 1) false) (AfterFlag true 0) None _ _ e2 e4

-- the cause of a dominant level after a flag
dominant_rows : (s : Stance) (c1 c2 : Option Cause) (b : Bool) (n : ℕ) (w1 w2 : Numbers) → w1 ≡ numbers (record (goes s (AfterFlag false (n + 1))) { cause = c1 }) → w2 ≡ numbers (record (goes s (AfterFlag false 0)) { cause = c2 }) → (if b then w1 else w2) ≡ numbers (record (goes s (AfterFlag false (if b then n + 1 else 0))) { cause = if b then c1 else c2 })
dominant_rows s c1 c2 true n w1 w2 e f = e
dominant_rows s c1 c2 false n w1 w2 e f = f

first_rows : (s : Stance) (c : Option Cause) (b : Bool) (n : ℕ) (w1 other w2 : Numbers) → w1 ≡ numbers (record (goes s (AfterFlag false (n + 1))) { cause = c }) → w2 ≡ numbers (record (goes s (AfterFlag false 0)) { cause = c }) → (if b then w1 else if b then other else w2) ≡ numbers (record (goes s (AfterFlag false (if b then n + 1 else 0))) { cause = c })
first_rows s c true n w1 other w2 e f = e
first_rows s c false n w1 other w2 e f = f

pub after_flag_rows : (passive : Bool) (role : Role) (overloads : Overloads) (first : Bool) (n : ℕ) (x : Level) (w1 w2 w3 w4 w5 : Numbers) → w1 ≡ going (stance passive role overloads) 11 1 0 0 → w2 ≡ going (stance passive role overloads) 10 (n + 1) 2 0 → w3 ≡ going (stance passive role overloads) 10 (n + 1) 0 0 → w4 ≡ going (stance passive role overloads) 10 0 2 0 → w5 ≡ going (stance passive role overloads) 10 0 3 0 → (if true && is_recessive x then w1 else if (not (is_sender role) && first) && nat_lt n 7 then w2 else if true && nat_lt n 7 then w3 else if true && not (is_sender role) then w4 else w5) ≡ numbers (after_flag_move (stance passive role overloads) first n x)
after_flag_rows passive role overloads first n Recessive w1 w2 w3 w4 w5 e1 e2 e3 e4 e5 = e1
after_flag_rows passive Receiver overloads true n Dominant w1 w2 w3 w4 w5 e1 e2 e3 e4 e5 = first_rows (stance passive Receiver overloads) (Some ReceiverFirstDominant) (nat_lt n 7) n _ _ _ e2 e4
after_flag_rows passive Receiver overloads false n Dominant w1 w2 w3 w4 w5 e1 e2 e3 e4 e5 = dominant_rows (stance passive Receiver overloads) None (Some ReceiverDominantRun) (nat_lt n 7) n _ _ e3 e4
after_flag_rows passive (Sender f) overloads first n Dominant w1 w2 w3 w4 w5 e1 e2 e3 e4 e5 = dominant_rows (stance passive (Sender f) overloads) None (Some SenderDominantRun) (nat_lt n 7) n _ _ e3 e5

pub delimiter_rows : (passive : Bool) (role : Role) (overloads : Overloads) (n : ℕ) (x : Level) (w1 w2 w3 w4 w5 : Numbers) → w1 ≡ numbers (errs (stance passive role overloads) Form) → w2 ≡ going (stance passive role overloads) 9 0 0 9 → w3 ≡ going (stance passive role overloads) 11 (n + 1) 0 0 → (nat_lt overloads.used 2 ≡ true → w4 ≡ numbers (own (stance passive role overloads))) → w5 ≡ going (stance passive role overloads) 12 0 0 0 → (if not (is_recessive x) && nat_lt n 7 then w1 else if true && not (is_recessive x) then w2 else if true && nat_lt n 7 then w3 else if not (is_sender role) && (nat_lt 0 overloads.pending && nat_lt overloads.used 2) then w4 else w5) ≡ numbers (delimiter_move (stance passive role overloads) n x)
delimiter_rows passive role overloads n Dominant w1 w2 w3 w4 w5 e1 e2 e3 e4 e5 = row (nat_lt n 7) _ _ _ _ e1 e2
delimiter_rows passive (Sender f) overloads n Recessive w1 w2 w3 w4 w5 e1 e2 e3 e4 e5 = row (nat_lt n 7) _ _ _ _ e3 e5
delimiter_rows passive Receiver overloads n Recessive w1 w2 w3 w4 w5 e1 e2 e3 e4 e5 = row (nat_lt n 7) _ _ _ _ e3 (enters (stance passive Receiver overloads) _ _ e4 e5)

starts_as : (held : Bool) (waiting : Option Parts) → (is_waiting waiting && not held) ≡ is_sender (next_role held waiting)
starts_as true None = refl
starts_as false None = refl
starts_as true (Some f) = refl
starts_as false (Some f) = refl

pub intermission_rows : (s : Stance) (n : ℕ) (waiting : Option Parts) (x : Level) (w1 w2 w3 w4 w5 : Numbers) → w1 ≡ going s 9 0 0 9 → ((role : Role) → (is_waiting waiting && not (is_held_back s s.role)) ≡ is_sender role → w2 ≡ numbers (begins_frame s role)) → w3 ≡ going s 12 (n + 1) 0 0 → w4 ≡ going s 13 0 0 0 → w5 ≡ numbers (goes (record s { role = Receiver }) Idle) → (if not (is_recessive x) && nat_lt n 2 then w1 else if true && not (is_recessive x) then w2 else if true && nat_lt n 2 then w3 else if true && is_held_back s s.role then w4 else w5) ≡ numbers (intermission_move s n waiting x)
intermission_rows s n waiting Dominant w1 w2 w3 w4 w5 e1 e2 e3 e4 e5 = row (nat_lt n 2) _ _ _ _ e1 (e2 (next_role (is_held_back s s.role) waiting) (starts_as (is_held_back s s.role) waiting))
intermission_rows s n waiting Recessive w1 w2 w3 w4 w5 e1 e2 e3 e4 e5 = row (nat_lt n 2) _ _ _ _ e3 (row (is_held_back s s.role) _ _ _ _ e4 e5)

pub suspend_rows : (s : Stance) (n : ℕ) (x : Level) (w1 w2 w3 : Numbers) → w1 ≡ numbers (begins_frame s Receiver) → w2 ≡ going s 13 (n + 1) 0 0 → w3 ≡ numbers (goes (record s { role = Receiver }) Idle) → (if true && not (is_recessive x) then w1 else if true && nat_lt n 7 then w2 else w3) ≡ numbers (suspend_move s n x)
suspend_rows s n Dominant w1 w2 w3 e1 e2 e3 = e1
suspend_rows s n Recessive w1 w2 w3 e1 e2 e3 = row (nat_lt n 7) _ _ _ _ e2 e3
