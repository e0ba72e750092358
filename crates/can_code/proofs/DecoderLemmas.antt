-- What a decoder has received, level by level: it grows with each level, ends with the last one, and shows the fault if
-- there is one.
use Rattle.std.proofs.Common.{◌≡◌, ◌≢◌, ℕ, ◌-◌, ◌<◌, Bool, true, false, Option, Some, None, List, [], ◌∷◌, ◌++◌, length, take, drop, refl, sym, ◌∙◌, ap, subst, arith, append_assoc, length-append, inl, inr}
use Rattle.std.specs.Option.{option_and_then}
use Rattle.std.proofs.Math.Dec.{eqb}
use Rattle.std.proofs.lemmas.List.{append-nil, take-append-drop, length-drop}
use Rattle.std.proofs.lemmas.Bool.{and_parts, eqb-true}
use denote.Enum.Bare.{sameb}
use Rattle.can_frame.specs.declared.level.Level.{Level}
use Rattle.can_frame.specs.declared.level.Level.TheVariants.{Dominant, Recessive}
use Rattle.can_frame.specs.Levels.{same}
use Rattle.can_code.specs.declared.fault.CodeFaultKind.TheVariants.{Short, Stuff, Crc, Form}
use Rattle.can_code.specs.contracts.front.Place.{the_type}
use Rattle.can_code.specs.declared.front.Place.{Place}
use Rattle.can_code.specs.declared.front.Place.TheVariants.{StuffBit, Bit, CrcDelimiter}
use Rattle.can_wire.specs.Crc.{IsCrc}
use Rattle.can_wire.specs.Stuffing.{Stuffs}
use Rattle.can_wire.specs.Wire.{tail}
use Rattle.can_wire.specs.Heard.{HeardParts, ack_slot, Spells}
use Rattle.can_wire.specs.Layout.{heard_of, check_of, head_of, IsPart}
use Rattle.can_code.specs.CodeFaults.{IsCodeFault}
use Rattle.can_code.specs.Front.{FrontParts, first_front, next_place, is_stuff_error, heard_level, hear_at, heard_levels}
use Rattle.can_code.specs.Decoder.{DecoderParts, StandsBehind, HasHeard}
use Rattle.can_code.proofs.LayoutWrite.{IsHeard-heard_of, heard_head-heard_of, head_of-heard_head}
use Rattle.can_code.proofs.FrontLemmas.{next_place-first_front}
use Rattle.can_code.proofs.FrontsOf.{IsFrontOf, IsFrontOf-first_front, IsFrontOf-part, IsFrontOf-heard_level}
use Rattle.can_code.proofs.HeardLevels.{hear_at-going, ended_or_going, heard_levels-front}
use Rattle.can_code.proofs.CodeFaultLemmas.{IsCodeFault-short, IsCodeFault-stuff, IsCodeFault-crc, IsCodeFault-short_tail, IsCodeFault-form}

-- the start of frame
pub HasHeard-begin : (d : DecoderParts) → d.front ≡ first_front → d.behind ≡ [] → HasHeard d (Dominant ∷ [])
HasHeard-begin d first none = record {
  part = [];
  whole = ap (λ t. Dominant ∷ t) (sym none);
  front = ap Some (sym first);
  behind = λ ended. absurd (next_place-first_front (ap next_place (sym first) ∙ ended));
  none = λ going. none;
}

-- levels received after others
pub heard_levels-append : (xs ys : List Level) (f g : FrontParts) → heard_levels f xs ≡ Some g → heard_levels f (xs ++ ys) ≡ heard_levels g ys
heard_levels-append [] ys f g heard =
    let one : f ≡ g = cc in
    ap (λ h. heard_levels h ys) one
heard_levels-append (x ∷ xs) ys f g heard = by_next (hear_at (next_place f) f x) heard (λ h more. heard_levels-append xs ys h g more)
  where
    by_next : (o : Option FrontParts) → option_and_then (λ h. heard_levels h xs) o ≡ Some g
        → ((h : FrontParts) → heard_levels h xs ≡ Some g → heard_levels h (xs ++ ys) ≡ heard_levels g ys) → option_and_then (λ h. heard_levels h (xs ++ ys)) o ≡ heard_levels g ys
    by_next None e go_on = cc
    by_next (Some h) e go_on = go_on h e

module _ (d : DecoderParts) (l : List Level) (h : HasHeard d l) where
  front_is : IsFrontOf (Dominant ∷ h.part) d.front
  front_is = heard_levels-front h.part (Dominant ∷ []) first_front d.front IsFrontOf-first_front h.front

  -- the stuffed part has not ended
  module _ (going : next_place d.front ≢ CrcDelimiter) where
    all_part : l ≡ Dominant ∷ h.part
    all_part = h.whole ∙ ap (λ t. Dominant ∷ (h.part ++ t)) (h.none going) ∙ ap (λ t. Dominant ∷ t) (append-nil h.part)

    front_of_all : IsFrontOf l d.front
    front_of_all = subst (λ b. IsFrontOf b d.front) (sym all_part) front_is

    -- a wrong stuff bit
    pub HasHeard-stuff : (x : Level) (rest : List Level) → is_stuff_error d.front x ≡ true → IsCodeFault (l ++ x ∷ rest) (record { kind = Stuff; place = length l })
    HasHeard-stuff x rest error =
        let parts = and_parts (eqb d.front.run 5) (same x d.front.last) error in
        IsCodeFault-stuff l d.front x rest front_of_all (eqb-true d.front.run 5 parts.0) parts.1

    -- levels of the stuffed part, to its end only if its CRC sequence is right
    pub HasHeard-run : (xs : List Level) (e : DecoderParts) → heard_levels d.front xs ≡ Some e.front → e.behind ≡ d.behind → (next_place e.front ≡ CrcDelimiter → IsCrc (head_of e.front.unstuffed) (check_of e.front.unstuffed))
        → HasHeard e (l ++ xs)
    HasHeard-run xs e next same_behind agrees =
        let nothing : e.behind ≡ [] = same_behind ∙ h.none going in
        record {
          part = h.part ++ xs;
          whole = ap (λ t. t ++ xs) all_part ∙ ap (λ t. Dominant ∷ t) (sym (append-nil (h.part ++ xs))) ∙ ap (λ t. Dominant ∷ ((h.part ++ xs) ++ t)) (sym nothing);
          front = heard_levels-append h.part xs first_front d.front h.front ∙ next;
          behind = λ ended. record {
            agrees = agrees ended;
            acked = true;
            last = Recessive;
            more = tail (ack_slot true) Recessive;
            missing = omega arith;
            begins = ap (λ t. t ++ tail (ack_slot true) Recessive) nothing;
          };
          none = λ _. nothing;
        }

    -- another level
    module _ (x : Level) (no_error : is_stuff_error d.front x ≡ false) where
      longer : IsFrontOf (l ++ x ∷ []) (heard_level d.front x)
      longer = IsFrontOf-heard_level l d.front front_of_all x going no_error

      -- it completes a stuffed part whose CRC sequence is wrong
      pub HasHeard-crc : (rest : List Level) → next_place (heard_level d.front x) ≡ CrcDelimiter → (IsCrc (head_of (heard_level d.front x).unstuffed) (check_of (heard_level d.front x).unstuffed) → ⊥)
          → IsCodeFault (l ++ x ∷ rest) (record { kind = Crc; place = length l })
      HasHeard-crc rest ended wrong =
          let b = l ++ x ∷ [] in
          let u = (heard_level d.front x).unstuffed in
          let size : length b - 1 ≡ length l = omega (arith, length-append l (x ∷ [])) in
          let fault = IsCodeFault-crc u b (IsFrontOf-part b (heard_level d.front x) longer ended) rest wrong in
          subst (λ t. IsCodeFault t (record { kind = Crc; place = length l })) (append_assoc l (x ∷ []) rest)
          (subst (λ n. IsCodeFault (b ++ rest) (record { kind = Crc; place = n })) size fault)

      pub HasHeard-level : (e : DecoderParts) → e.front ≡ heard_level d.front x → e.behind ≡ d.behind → (next_place e.front ≡ CrcDelimiter → IsCrc (head_of e.front.unstuffed) (check_of e.front.unstuffed))
          → HasHeard e (l ++ x ∷ [])
      HasHeard-level e next = HasHeard-run (x ∷ []) e (ap (option_and_then (λ g. heard_levels g [])) (hear_at-going d.front x (next_place d.front) going no_error) ∙ ap Some (sym next))

  -- it has ended
  module _ (ended : next_place d.front ≡ CrcDelimiter) where
    abbrev part_of_all : List Level
    part_of_all = Dominant ∷ h.part

    part_is : IsPart d.front.unstuffed part_of_all
    part_is = IsFrontOf-part part_of_all d.front front_is ended

    stands : StandsBehind d.front d.behind
    stands = h.behind ended

    few : length d.behind < 10
    few = omega (arith, stands.missing, ap length stands.begins, length-append d.behind stands.more)

    -- a level that goes on to no tail
    pub HasHeard-form : (x : Level) (rest : List Level) → ((h : HeardParts) (more : List Level) → d.behind ++ x ∷ more ≡ tail (ack_slot h.acked) h.last → ⊥) → IsCodeFault (l ++ x ∷ rest) (record { kind = Form; place = length l })
    HasHeard-form x rest wrong =
        subst (λ t. IsCodeFault (t ++ x ∷ rest) (record { kind = Form; place = length t })) (sym h.whole)
        (IsCodeFault-form d.front.unstuffed part_of_all part_is stands.agrees stands.acked stands.last d.behind stands.more x rest few stands.begins wrong)

    -- more levels
    pub HasHeard-tail : (e : DecoderParts) (xs : List Level) (k : ℕ) (acked : Bool) → k < 10 → e.front ≡ d.front → e.behind ≡ d.behind ++ xs → e.behind ≡ take k (tail (ack_slot acked) Recessive) → HasHeard e (l ++ xs)
    HasHeard-tail e xs k acked within same_front longer is_tail =
        let ten = tail (ack_slot acked) Recessive in
        let place : next_place e.front ≡ CrcDelimiter = ap next_place same_front ∙ ended in
        record {
          part = h.part;
          whole = ap (λ t. t ++ xs) h.whole ∙ ap (λ t. Dominant ∷ t) (append_assoc h.part d.behind xs) ∙ ap (λ t. Dominant ∷ (h.part ++ t)) (sym longer);
          front = h.front ∙ ap Some (sym same_front);
          behind = λ _. record {
            agrees = subst (λ f. IsCrc (head_of f.unstuffed) (check_of f.unstuffed)) (sym same_front) stands.agrees;
            acked = acked;
            last = Recessive;
            more = drop k ten;
            missing = omega (arith, length-drop k ten);
            begins = ap (λ t. t ++ drop k ten) is_tail ∙ take-append-drop k ten;
          };
          none = λ going. absurd (going place);
        }

    -- another level
    pub HasHeard-behind : (e : DecoderParts) (x : Level) (k : ℕ) (acked : Bool) → k < 10 → e.front ≡ d.front → e.behind ≡ d.behind ++ x ∷ [] → e.behind ≡ take k (tail (ack_slot acked) Recessive) → HasHeard e (l ++ x ∷ [])
    HasHeard-behind e x k acked within same_front longer is_tail = HasHeard-tail e (x ∷ []) k acked within same_front longer is_tail

    -- the last level
    pub HasHeard-last : (x : Level) (acked : Bool) → d.behind ≡ take 9 (tail (ack_slot acked) Recessive) → Spells (heard_of d.front.unstuffed acked x) (l ++ x ∷ [])
    unfolding heard_of
    HasHeard-last x acked nine =
        let u = d.front.unstuffed in
        record {
          heard = IsHeard-heard_of u acked x;
          spelling = record {
            check = check_of u;
            is_check = subst (λ b. IsCrc b (check_of u)) (head_of-heard_head u acked x part_is.complete) stands.agrees;
            stuffed = part_of_all;
            is_stuffed = subst (λ a. Stuffs a part_of_all) (heard_head-heard_of u acked x part_is.complete) part_is.stuffs;
            whole = ap (λ t. t ++ x ∷ []) h.whole ∙ append_assoc part_of_all d.behind (x ∷ []) ∙ ap (λ t. part_of_all ++ (t ++ x ∷ [])) nine;
          };
        }

    short_behind : IsCodeFault l (record { kind = Short; place = length l })
    short_behind =
        subst (λ t. IsCodeFault t (record { kind = Short; place = length t })) (sym h.whole)
        (IsCodeFault-short_tail d.front.unstuffed part_of_all part_is stands.agrees stands.acked stands.last d.behind stands.more few stands.begins)

  -- no level is left
  pub HasHeard-short : IsCodeFault l (record { kind = Short; place = length l })
  HasHeard-short = elim (ended_or_going (next_place d.front)) [
    | inl ended ↦ short_behind ended
    | inr going ↦ IsCodeFault-short l d.front (front_of_all going) going
  ]

-- what follows from a test for the CRC delimiter
pub is_ended : (p : Place) → sameb the_type p CrcDelimiter ≡ true → p ≡ CrcDelimiter
is_ended StuffBit h = cc
is_ended Bit h = cc
is_ended CrcDelimiter h = refl

pub is_going : (p : Place) → sameb the_type p CrcDelimiter ≡ false → p ≢ CrcDelimiter
is_going StuffBit h = λ e. cc
is_going Bit h = λ e. cc
is_going CrcDelimiter h = cc
