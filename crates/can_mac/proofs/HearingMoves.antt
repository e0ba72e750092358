-- Each move keeps what a controller knows of the levels, and its event is true of them.
use Rattle.std.proofs.Common.{◌≡◌, ℕ, ◌+◌, ◌<◌, Bool, true, false, not, ◌&&◌, Option, Some, None, List, [], ◌∷◌, ◌++◌, length, refl, ◌∙◌, ap, subst, arith, cond}
use Rattle.std.proofs.Math.Dec.{eqb}
use Rattle.std.specs.Prelude.{nat_lt}
use Rattle.std.proofs.lemmas.Bool.{cond_both, eqb-true, eqb-false, ltb-true, ltb-false}
use Rattle.can_frame.specs.declared.level.Level.{Level}
use Rattle.can_frame.specs.declared.level.Level.TheVariants.{Dominant, Recessive}
use Rattle.can_frame.specs.Levels.{same, is_recessive}
use Rattle.can_frame.specs.Parts.{Parts}
use Rattle.can_code.specs.Sending.{sent_level}
use Rattle.can_code.specs.Front.{FrontParts, first_front, is_stuff_error, heard_level}
use Rattle.can_fault.specs.declared.cause.Cause.{Cause}
use Rattle.can_terms.specs.declared.event.ErrorKind.{ErrorKind}
use Rattle.can_mac.specs.declared.phase.Role.{Role}
use Rattle.can_mac.specs.declared.phase.Role.TheVariants.{Receiver, Sender}
use Rattle.can_mac.specs.declared.phase.Reading.{Reading}
use Rattle.can_mac.specs.declared.phase.Overloads.{Overloads}
use Rattle.can_mac.specs.declared.phase.Phase.TheVariants.{Joining, Idle, StuffedPart, CrcDelimiter, AckSlot, AckDelimiter, EndOfFrame, ErrorFlag, PassiveFlag, OverloadFlag, AfterFlag, Delimiter, Intermission, Suspend, BusOff}
use Rattle.can_mac.specs.declared.moves.Stance.{Stance}
use Rattle.can_mac.specs.State.{MacPhase, IsFrameOrNone}
use Rattle.can_mac.specs.Moves.{MacMove, flag, errs_by, begins_frame, in_arbitration, is_uncounted, hears, stuff_error_move, stuff_bit_move, sent_bit_move, bit_move, refuses, enters_intermission, ack_slot_move, end_of_frame_move, passive_phase, is_held_back, next_role, move}
use Rattle.can_mac.proofs.Hearing.{IsOwnFront, HearsPart, HeardPart, HeardSlot, HeardEnd, Accepts, to_slot, to_end, Knows, KnowsAfter}
use Rattle.can_mac.proofs.PartHearing.{OwnFront-first, OwnFront-stuff_bit, OwnFront-bit, HearsPart-first, HearsPart-more}
use Rattle.can_mac.proofs.EndHearing.{HeardPart-more, HeardSlot-more, EndsSpelled-received, EndsIn-sent}
use Rattle.can_wire.specs.Stuffing.{run_after}

-- either of two moves
either : {v w : MacMove} {levels : List Level} (b : Bool) → KnowsAfter v levels → KnowsAfter w levels → KnowsAfter (cond b v w) levels
either true p q = p
either false p q = q

-- an error flag, active or passive
flag-knows : (passive un : Bool) (role : Role) (levels : List Level) → Knows (flag passive un) role levels
flag-knows true un role levels = tt
flag-knows false un role levels = tt

-- an error
error : {levels : List Level} (cause : Option Cause) (un : Bool) (s : Stance) (kind : ErrorKind) → KnowsAfter (errs_by cause un s kind) levels
error {levels} cause un s kind = record { knows = flag-knows s.passive un s.role levels; told = tt }

-- a passive error flag, and after it
passive_flag-knows : (x : Level) (run : ℕ) (un : Bool) (role : Role) (levels : List Level) → Knows (passive_phase x run un) role levels
passive_flag-knows x run un role levels = cond_both {A = MacPhase} (nat_lt run 6) (PassiveFlag x run un) (AfterFlag true 0) (λ phase. Knows phase role levels) (λ e. tt) (λ e. tt)

-- intermission, or an overload frame of the controller's own
enters : {levels : List Level} (s : Stance) (role : Role) → KnowsAfter (enters_intermission s role) levels
enters s (Sender f) = record { knows = tt; told = tt }
enters s Receiver = either (nat_lt 0 s.overloads.pending && nat_lt s.overloads.used 2) (record { knows = tt; told = tt }) (record { knows = tt; told = tt })

-- a frame begins
begin : (levels : List Level) (s : Stance) (role : Role) → IsOwnFront role (Dominant ∷ []) first_front → KnowsAfter (begins_frame s role) (levels ++ Dominant ∷ [])
begin levels s role own = record { knows = HearsPart-first role levels own; told = tt }

-- for its transmitter, if the pending frame is within its limits
next_role-own : (held_back : Bool) (waiting : Option Parts) → IsFrameOrNone waiting → IsOwnFront (next_role held_back waiting) (Dominant ∷ []) first_front
next_role-own held_back None is = tt
next_role-own true (Some f) is = tt
next_role-own false (Some f) is = OwnFront-first f is

module _ (passive : Bool) (overloads : Overloads) (levels : List Level) where
  -- a controller that is this to the frame on the bus
  abbrev acting : Role → Stance
  acting role = record { passive = passive; role = role; overloads = overloads }

  -- a stuffed part goes on
  module _ (front : FrontParts) (x : Level) where
    -- at a stuff place
    stuff_bit-knows : (role : Role) → HearsPart role front levels → eqb front.run 5 ≡ true → KnowsAfter (stuff_bit_move (acting role) front x) (levels ++ x ∷ [])
    stuff_bit-knows role h due =
        cond_both {A = MacMove} (same x front.last) (stuff_error_move (acting role) front x) (hears (acting role) front x) (λ v. KnowsAfter v (levels ++ x ∷ []))
        (λ e. either (is_uncounted role front.unstuffed x) (error _ _ _ _) (error _ _ _ _))
        (λ e. record { knows = HearsPart-more role role front x levels h (ap (λ b. b && same x front.last) due ∙ e) (own role h e); told = tt })
      where
        own : (role : Role) (h : HearsPart role front levels) → same x front.last ≡ false → IsOwnFront role (h.part ++ x ∷ []) (heard_level front x)
        own Receiver h other = tt
        own (Sender f) h other = OwnFront-stuff_bit f h.part front h.own h.goes_on x (eqb-true front.run 5 due) other

    module _ (not_due : eqb front.run 5 ≡ false) where
      -- no level at another place is a wrong stuff bit
      no_error-bit : is_stuff_error front x ≡ false
      no_error-bit = ap (λ b. b && same x front.last) not_due

      -- the level that a transmitter sent is its own
      sent-own : (f : Parts) (h : HearsPart (Sender f) front levels) → sent_level f (length front.unstuffed) ≡ x → IsOwnFront (Sender f) (h.part ++ x ∷ []) (heard_level front x)
      sent-own f h sent = OwnFront-bit f h.part front h.own h.goes_on x (eqb-false front.run 5 not_due) sent

  -- at another place, to a transmitter
  sent_bit-knows : (front : FrontParts) (f : Parts) (driven x : Level) → eqb front.run 5 ≡ false → HearsPart (Sender f) front levels → sent_level f (length front.unstuffed) ≡ driven
      → KnowsAfter (sent_bit_move (acting (Sender f)) f front driven x) (levels ++ x ∷ [])
  sent_bit-knows front f Dominant Dominant not_due h sent =
      record { knows = HearsPart-more (Sender f) (Sender f) front Dominant levels h (no_error-bit front Dominant not_due) (sent-own front Dominant not_due f h sent); told = tt }
  sent_bit-knows front f Recessive Recessive not_due h sent =
      record { knows = HearsPart-more (Sender f) (Sender f) front Recessive levels h (no_error-bit front Recessive not_due) (sent-own front Recessive not_due f h sent); told = tt }
  sent_bit-knows front f Dominant Recessive not_due h sent = error _ _ _ _
  sent_bit-knows front f Recessive Dominant not_due h sent =
      either (in_arbitration f front.unstuffed) (record { knows = HearsPart-more (Sender f) Receiver front Dominant levels h (no_error-bit front Dominant not_due) tt; told = tt }) (error _ _ _ _)

  -- and to any controller
  bit-knows : (front : FrontParts) (role : Role) (x : Level) → eqb front.run 5 ≡ false → HearsPart role front levels → KnowsAfter (bit_move (acting role) role front x) (levels ++ x ∷ [])
  bit-knows front Receiver x not_due h = record { knows = HearsPart-more Receiver Receiver front x levels h (no_error-bit front x not_due) tt; told = tt }
  bit-knows front (Sender f) x not_due h = sent_bit-knows front f (sent_level f (length front.unstuffed)) x not_due h refl

  -- the ACK slot
  ack_slot-knows : (role : Role) (r : Reading) (x : Level) → HeardPart role r (Recessive ∷ []) levels → KnowsAfter (ack_slot_move (acting role) role r x) (levels ++ x ∷ [])
  ack_slot-knows (Sender f) r Dominant h = record { knows = record { ack = Dominant; fits = refl; heard = HeardPart-more (Sender f) r (Recessive ∷ []) levels Dominant h }; told = tt }
  ack_slot-knows (Sender f) r Recessive h = either passive (error _ _ _ _) (error _ _ _ _)
  ack_slot-knows Receiver r Dominant h =
      let slot : HeardSlot Receiver r to_slot (levels ++ Dominant ∷ []) = record { ack = Dominant; fits = tt; heard = HeardPart-more Receiver r (Recessive ∷ []) levels Dominant h } in
      either r.agrees (record { knows = slot; told = tt }) (record { knows = slot; told = tt })
  ack_slot-knows Receiver r Recessive h =
      let slot : HeardSlot Receiver r to_slot (levels ++ Recessive ∷ []) = record { ack = Recessive; fits = tt; heard = HeardPart-more Receiver r (Recessive ∷ []) levels Recessive h } in
      either r.agrees (error _ _ _ _) (record { knows = slot; told = tt })

  -- what a controller doesn't refuse it accepts
  accepts-from : (role : Role) (r : Reading) → refuses role r ≡ false → Accepts role r
  accepts-from (Sender f) r e = tt
  accepts-from Receiver r e = by_test r.agrees e
    where
      by_test : (b : Bool) → not b ≡ false → b ≡ true
      by_test true e = refl
      by_test false e = cc

  -- the ACK delimiter
  ack_delimiter-knows : (role : Role) (r : Reading) → HeardSlot role r to_slot levels → KnowsAfter (move (acting role) (AckDelimiter r) None Recessive) (levels ++ Recessive ∷ [])
  ack_delimiter-knows role r h =
      cond_both {A = MacMove} (refuses role r) _ _ (λ v. KnowsAfter v (levels ++ Recessive ∷ []))
      (λ e. error _ _ _ _)
      (λ e. record {
        knows = record {
          within = omega arith;
          accepts = accepts-from role r e;
          slot = record { ack = h.ack; fits = h.fits; heard = HeardPart-more role r (to_slot h.ack) levels Recessive h.heard };
        };
        told = tt;
      })

  -- the end of a frame
  module _ (r : Reading) (place : ℕ) where
    -- one level more
    more-end : (role : Role) → place < 6 → HeardEnd role r place levels → HeardEnd role r (place + 1) (levels ++ Recessive ∷ [])
    more-end role room h = record { within = omega arith; accepts = h.accepts; slot = HeardSlot-more role r place levels h.slot }

    -- and the last ones
    end-knows : (role : Role) (x : Level) → HeardEnd role r place levels → KnowsAfter (end_of_frame_move (acting role) role r place x) (levels ++ x ∷ [])
    end-knows (Sender f) Dominant h = error _ _ _ _
    end-knows (Sender f) Recessive h =
        cond_both {A = MacMove} (nat_lt place 6) _ _ (λ v. KnowsAfter v (levels ++ Recessive ∷ []))
        (λ e. record { knows = more-end (Sender f) (ltb-true place 6 e) h; told = tt })
        (λ e.
        let last : place + 1 ≡ 7 = omega (arith, ltb-false place 6 e, h.within) in
        let slot = subst (λ n. HeardSlot (Sender f) r (to_end n) (levels ++ Recessive ∷ [])) last (HeardSlot-more (Sender f) r place levels h.slot) in
        record { knows = tt; told = EndsIn-sent f r (levels ++ Recessive ∷ []) slot })
    end-knows Receiver Dominant h = either (nat_lt place 6) (error _ _ _ _) (record { knows = tt; told = tt })
    end-knows Receiver Recessive h =
        cond_both {A = MacMove} (nat_lt place 5) _ _ (λ v. KnowsAfter v (levels ++ Recessive ∷ []))
        (λ e. record { knows = more-end Receiver (omega (arith, ltb-true place 5 e)) h; told = tt })
        (λ late. cond_both {A = MacMove} (nat_lt place 6) _ _ (λ v. KnowsAfter v (levels ++ Recessive ∷ []))
        (λ e.
        let sixth : place + 1 ≡ 6 = omega (arith, ltb-false place 5 late, ltb-true place 6 e) in
        let next = subst (λ n. HeardEnd Receiver r n (levels ++ Recessive ∷ [])) sixth (more-end Receiver (ltb-true place 6 e) h) in
        record { knows = next; told = EndsSpelled-received r (levels ++ Recessive ∷ []) h.accepts next.slot })
        (λ e. enters (acting Receiver) Receiver))

  -- any phase
  pub move-knows : (role : Role) (phase : MacPhase) (waiting : Option Parts) (x : Level) → IsFrameOrNone waiting → Knows phase role levels → KnowsAfter (move (acting role) phase waiting x) (levels ++ x ∷ [])
  move-knows role (Joining row) waiting Dominant is h = record { knows = tt; told = tt }
  move-knows role (Joining row) waiting Recessive is h = either (nat_lt row 10) (record { knows = tt; told = tt }) (record { knows = tt; told = tt })
  move-knows role Idle None Dominant is h = begin levels (acting role) Receiver tt
  move-knows role Idle None Recessive is h = record { knows = tt; told = tt }
  move-knows role Idle (Some f) Dominant is h = begin levels (acting role) (Sender f) (OwnFront-first f is)
  move-knows role Idle (Some f) Recessive is h = error _ _ (acting (Sender f)) _
  move-knows role (StuffedPart front) waiting x is h =
      cond_both {A = MacMove} (eqb front.run 5) (stuff_bit_move (acting role) front x) (bit_move (acting role) role front x) (λ v. KnowsAfter v (levels ++ x ∷ []))
      (λ due. stuff_bit-knows front x role h due)
      (λ not_due. bit-knows front role x not_due h)
  move-knows role (CrcDelimiter r) waiting Dominant is h = error _ _ _ _
  move-knows role (CrcDelimiter r) waiting Recessive is h = record { knows = HeardPart-more role r [] levels Recessive h; told = tt }
  move-knows role (AckSlot r) waiting x is h = ack_slot-knows role r x h
  move-knows role (AckDelimiter r) waiting Dominant is h = error _ _ _ _
  move-knows role (AckDelimiter r) waiting Recessive is h = ack_delimiter-knows role r h
  move-knows role (EndOfFrame r place) waiting x is h = end-knows r place role x h
  move-knows role (ErrorFlag place) waiting Dominant is h = either (nat_lt place 5) (record { knows = tt; told = tt }) (record { knows = tt; told = tt })
  move-knows role (ErrorFlag place) waiting Recessive is h = error _ _ _ _
  move-knows role (PassiveFlag last run un) waiting x is h =
      record { knows = passive_flag-knows x (run_after last run x) (un && is_recessive x) role (levels ++ x ∷ []); told = tt }
  move-knows role (OverloadFlag place) waiting Dominant is h = either (nat_lt place 5) (record { knows = tt; told = tt }) (record { knows = tt; told = tt })
  move-knows role (OverloadFlag place) waiting Recessive is h = error _ _ _ _
  move-knows role (AfterFlag first dominant) waiting Dominant is h = record { knows = tt; told = tt }
  move-knows role (AfterFlag first dominant) waiting Recessive is h = record { knows = tt; told = tt }
  move-knows role (Delimiter place) waiting Dominant is h = either (nat_lt place 7) (error _ _ _ _) (record { knows = tt; told = tt })
  move-knows role (Delimiter place) waiting Recessive is h = either (nat_lt place 7) (record { knows = tt; told = tt }) (enters (acting role) role)
  move-knows role (Intermission place) waiting Dominant is h =
      either (nat_lt place 2) (record { knows = tt; told = tt }) (begin levels (acting role) (next_role (is_held_back (acting role) role) waiting) (next_role-own (is_held_back (acting role) role) waiting is))
  move-knows role (Intermission place) waiting Recessive is h =
      either (nat_lt place 2) (record { knows = tt; told = tt }) (either (is_held_back (acting role) role) (record { knows = tt; told = tt }) (record { knows = tt; told = tt }))
  move-knows role (Suspend place) waiting Dominant is h = begin levels (acting role) Receiver tt
  move-knows role (Suspend place) waiting Recessive is h = either (nat_lt place 7) (record { knows = tt; told = tt }) (record { knows = tt; told = tt })
  move-knows role BusOff waiting x is h = record { knows = tt; told = tt }
