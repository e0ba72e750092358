-- One more level of a stuffed part.
use Rattle.std.proofs.Common.{◌≡◌, ◌≢◌, ◌+◌, ◌<◌, Bool, true, false, not, ◌&&◌, List, [], ◌∷◌, ◌++◌, length, take, drop, refl, sym, ◌∙◌, ap, subst, arith, cond, inl, inr}
use Rattle.std.proofs.Math.Dec.{eqb}
use Rattle.std.proofs.lemmas.Bool.{cond_both, cases_lt}
use Rattle.std.proofs.lemmas.List.{append-nil, take_more, take_all}
use Rattle.can_frame.specs.declared.level.Level.{Level}
use Rattle.can_frame.specs.declared.level.Level.TheVariants.{Dominant}
use Rattle.can_frame.specs.Levels.{same, opposite}
use Rattle.can_frame.specs.Parts.{Parts, IsFrame}
use Rattle.can_code.specs.declared.front.Place.TheVariants.{StuffBit, Bit, CrcDelimiter as ended}
use Rattle.can_wire.specs.Stuffing.{stuffed}
use Rattle.can_wire.specs.Wire.{head, unstuffed, stuffed_part}
use Rattle.can_wire.specs.Layout.{level_at}
use Rattle.can_code.specs.Sending.{sent_level}
use Rattle.can_code.specs.Front.{FrontParts, first_front, has_check, next_place, is_stuff_error, heard_level}
use Rattle.can_code.proofs.StuffedParts.{IsPart-length}
use Rattle.can_code.proofs.FrontLemmas.{next_place-first_front}
use Rattle.can_code.proofs.FrontsOf.{IsFrontOf, IsFrontOf-first_front, IsFrontOf-part, IsFrontOf-heard_level}
use Rattle.can_code.proofs.PartFronts.{opposite_from}
use Rattle.can_code.proofs.UnstuffedLevels.{stuffed_part-part}
use Rattle.can_code.proofs.WireFronts.{front_at, front_at-first, front_at-next, sent_stuff_bit, sent_bit, front_at-ended, front_at-unstuffed, front_at-ends}
use Rattle.can_mac.specs.declared.phase.Role.{Role}
use Rattle.can_mac.specs.declared.phase.Role.TheVariants.{Receiver, Sender}
use Rattle.can_mac.specs.declared.phase.Phase.TheVariants.{StuffedPart, CrcDelimiter}
use Rattle.can_mac.specs.State.{MacPhase}
use Rattle.can_mac.specs.Moves.{reading_of, ends_part, part_phase}
use Rattle.can_mac.proofs.Hearing.{EndsIn, EndsIn-more, OwnFront, IsOwnFront, IsOwnPart, HearsPart, Knows}

-- a stuffed part ends if the CRC delimiter is next
ended-from_ends_part : (front : FrontParts) → ends_part front ≡ true → next_place front ≡ ended
ended-from_ends_part front = by_tests (eqb front.run 5) (has_check front.unstuffed)
  where
    by_tests : (due whole : Bool) → (whole && not due) ≡ true → cond due StuffBit (cond whole ended Bit) ≡ ended
    by_tests true true h = cc
    by_tests true false h = cc
    by_tests false true h = refl
    by_tests false false h = cc

-- and otherwise it continues
goes_on-from_ends_part : (front : FrontParts) → ends_part front ≡ false → next_place front ≢ ended
goes_on-from_ends_part front = by_tests (eqb front.run 5) (has_check front.unstuffed)
  where
    by_tests : (due whole : Bool) → (whole && not due) ≡ false → cond due StuffBit (cond whole ended Bit) ≡ ended → ⊥
    by_tests true true h e = cc
    by_tests true false h e = cc
    by_tests false true h e = cc
    by_tests false false h e = cc

-- a frame's own levels begin with its start of frame
pub stuffed_part-first : (f : Parts) → stuffed_part f ≡ Dominant ∷ drop 1 (stuffed_part f)
unfolding stuffed_part unstuffed stuffed head
stuffed_part-first f = refl

-- so with it a transmitter has heard a front of its own
pub OwnFront-first : (f : Parts) → IsFrame f → OwnFront f (Dominant ∷ []) first_front
OwnFront-first f is = record {
  is = is;
  o = 1;
  some = omega arith;
  within = omega (arith, IsPart-length (unstuffed f) (stuffed_part f) (stuffed_part-part f is));
  part_is = ap (take 1) (sym (stuffed_part-first f));
  front_is = sym (front_at-first f);
}

-- if a transmitter's own stuffed part continues
module _ (f : Parts) (part : List Level) (front : FrontParts) (own : OwnFront f part front) (goes_on : next_place front ≢ ended) where
  -- more of it follows
  pub OwnFront-more : own.o < length (stuffed_part f)
  OwnFront-more = elim (cases_lt own.o (length (stuffed_part f))) [
    | inl more ↦ more
    | inr past ↦
        let all : own.o ≡ length (stuffed_part f) = omega (arith, own.within) in
        absurd (goes_on (ap next_place (own.front_is ∙ ap (front_at f) all) ∙ front_at-ended f own.is))
  ]

  -- one level more of its own
  own-next : (x : Level) → x ≡ level_at (stuffed_part f) own.o → OwnFront f (part ++ x ∷ []) (heard_level front x)
  own-next x e = record {
    is = own.is;
    o = own.o + 1;
    some = omega arith;
    within = omega (arith, OwnFront-more);
    part_is = ap (λ l. l ++ x ∷ []) own.part_is ∙ ap (λ z. take own.o (stuffed_part f) ++ z ∷ []) e ∙ sym (take_more (stuffed_part f) own.o Dominant OwnFront-more);
    front_is = ap (λ g. heard_level g x) own.front_is ∙ ap (heard_level (front_at f own.o)) e ∙ sym (front_at-next f own.is own.o own.some OwnFront-more);
  }

  -- its stuff bit
  pub OwnFront-stuff_bit : (x : Level) → front.run ≡ 5 → same x front.last ≡ false → OwnFront f (part ++ x ∷ []) (heard_level front x)
  OwnFront-stuff_bit x five other =
      let sent = sent_stuff_bit f own.is own.o own.some OwnFront-more (ap (λ g. g.run) (sym own.front_is) ∙ five) in
      own-next x (opposite_from x front.last other ∙ ap (λ g. opposite g.last) own.front_is ∙ sym sent)

  -- its next unstuffed level
  pub OwnFront-bit : (x : Level) → front.run ≢ 5 → sent_level f (length front.unstuffed) ≡ x → OwnFront f (part ++ x ∷ []) (heard_level front x)
  OwnFront-bit x other e =
      let sent = sent_bit f own.is own.o own.some OwnFront-more (λ five. other (ap (λ g. g.run) own.front_is ∙ five)) in
      own-next x (sym e ∙ ap (λ g. sent_level f (length g.unstuffed)) own.front_is ∙ sym sent)

-- if it has ended it is whole
IsOwnPart-ended : (role : Role) (part : List Level) (front : FrontParts) → next_place front ≡ ended → IsOwnFront role part front → IsOwnPart role part front.unstuffed
IsOwnPart-ended Receiver part front at_end own = tt
IsOwnPart-ended (Sender f) part front at_end own =
    let all : own.o ≡ length (stuffed_part f) = front_at-ends f own.is own.o own.some own.within (ap next_place (sym own.front_is) ∙ at_end) in
    record {
      is = own.is;
      part_is = own.part_is ∙ take_all own.o (stuffed_part f) (omega arith);
      unstuffed_is = ap (λ g. g.unstuffed) (own.front_is ∙ ap (front_at f) all) ∙ front_at-unstuffed f own.is;
    }

-- a frame begins
pub HearsPart-first : (role : Role) (levels : List Level) → IsOwnFront role (Dominant ∷ []) first_front → HearsPart role first_front (levels ++ Dominant ∷ [])
HearsPart-first role levels own = record { part = Dominant ∷ []; ends = (levels, refl); front_of = IsFrontOf-first_front; goes_on = next_place-first_front; own = own }

-- one more level that is no wrong stuff bit, to a controller that goes on in this role
pub HearsPart-more : (old role : Role) (front : FrontParts) (x : Level) (levels : List Level) (h : HearsPart old front levels) → is_stuff_error front x ≡ false
    → IsOwnFront role (h.part ++ x ∷ []) (heard_level front x) → Knows (part_phase (heard_level front x)) role (levels ++ x ∷ [])
HearsPart-more old role front x levels h no_error own =
    let next = heard_level front x in
    let part = h.part ++ x ∷ [] in
    let front_of : IsFrontOf part next = IsFrontOf-heard_level h.part front h.front_of x h.goes_on no_error in
    let ends : EndsIn part (levels ++ x ∷ []) = EndsIn-more h.part levels x h.ends in
    cond_both {A = MacPhase} (ends_part next) (CrcDelimiter (reading_of next.unstuffed)) (StuffedPart next) (λ phase. Knows phase role (levels ++ x ∷ []))
    (λ e.
    let at_end = ended-from_ends_part next e in
    record {
      u = next.unstuffed;
      part = part;
      ends = subst (λ l. EndsIn l (levels ++ x ∷ [])) (sym (append-nil part)) ends;
      is_part = IsFrontOf-part part next front_of at_end;
      read = refl;
      own = IsOwnPart-ended role part next at_end own;
    })
    (λ e. record { part = part; ends = ends; front_of = front_of; goes_on = goes_on-from_ends_part next e; own = own })
