-- A run of levels that are taken from their digits at once.
use Rattle.std.proofs.Common.{◌≡◌, ◌≢◌, ℕ, ◌+◌, ◌-◌, ◌*◌, ◌<◌, ◌≤◌, Bool, true, false, Option, Some, None, List, [], ◌∷◌, ◌++◌, length, map, take, drop, get_or, take-add, refl, sym, ◌∙◌, ap, subst, arith, length-append, append_assoc}
use Rattle.std.specs.Option.{option_and_then, is_some}
use denote.Enum.Bare.{sameb}
use Rattle.can_frame.specs.contracts.level.Level.{the_type}
use Rattle.std.proofs.Math.Dec.{eqb}
use Rattle.std.proofs.lemmas.Bool.{and_left, and_right, cond-true, cond-false, eq-eqb, ne_eqb, eqb-true}
use Rattle.std.proofs.lemmas.List.{append-nil, map-append, take_more}
use Rattle.can_frame.specs.declared.level.Level.{Level}
use Rattle.can_frame.specs.declared.level.Level.TheVariants.{Dominant, Recessive}
use Rattle.can_frame.specs.Levels.{bits_of, is_recessive, same, digit_of}
use Rattle.can_code.specs.declared.front.Place.TheVariants.{CrcDelimiter}
use Rattle.can_wire.specs.Crc.{IsCrc}
use Rattle.can_wire.specs.Stuffing.{run_after}
use Rattle.can_wire.specs.Wire.{tail}
use Rattle.can_wire.specs.Heard.{ack_slot}
use Rattle.can_wire.specs.Layout.{check_of, extended_of, data_place, frame_len, head_of}
use Rattle.can_code.specs.Reading.{TellsLength}
use Rattle.can_code.specs.Front.{FrontParts, IsFront, next_place, is_stuff_error, heard_level, heard_levels}
use Rattle.can_code.specs.Decoder.{DecoderParts, HasHeard}
use Rattle.can_code.specs.Digits.{DecodesDigits, HearsDigits, HearsTail}
use Rattle.can_code.specs.Unstuffing.{IsOpenFor}
use mir.Val.{bool_byte}
use Rattle.can_wire.proofs.LevelLemmas.{bits_of-zero}
use Rattle.can_wire.proofs.PackedLemmas.{bits_of-next}
use Rattle.can_wire.proofs.LayoutPlaces.{level_at-append}
use Rattle.can_wire.proofs.LayoutLengths.{frame_len_ge, frame_len-append, frame_len_least}
use Rattle.can_code.proofs.ReadingLemmas.{data_behind_ide}
use Rattle.can_code.proofs.FrontLemmas.{next_place-ended}
use Rattle.can_code.proofs.HeardLevels.{hear_at-going}
use Rattle.can_code.proofs.DecoderLemmas.{heard_levels-append, HasHeard-run, HasHeard-tail}

-- ---- the levels that may follow before the CRC sequence is whole

-- the data of an extended frame come later than those of a standard one
extended_place : (extended : Bool) → 19 < data_place extended → data_place extended ≡ 39
extended_place true h = refl
extended_place false h = absurd (omega arith)

module _ (u : List Level) where
  pub IsOpenFor-told : (n r : ℕ) → TellsLength u (Some n) → 0 < r → r ≤ n - 1 - length u → IsOpenFor u r
  IsOpenFor-told n r told some fits v short =
      let before : data_place (extended_of u) ≤ length u = told.0 in
      omega (arith, length-append u v, told.1, frame_len-append u v before)

  pub IsOpenFor-standard : (r : ℕ) → 0 < r → r ≤ 33 - length u → IsOpenFor u r
  IsOpenFor-standard r some fits v short = omega (arith, length-append u v, frame_len_ge (u ++ v))

  pub IsOpenFor-extended : (r : ℕ) → 0 < r → 19 ≤ length u → TellsLength u None → r ≤ 53 - length u → IsOpenFor u r
  IsOpenFor-extended r some long untold fits v short =
      let few : length u < data_place (extended_of u) = untold in
      let place : data_place (extended_of u) ≡ 39 = extended_place (extended_of u) (omega arith) in
      let kept : data_place (extended_of (u ++ v)) ≡ data_place (extended_of u) = ap (λ t. data_place (is_recessive t)) (level_at-append u v 13 (omega arith)) in
      omega (arith, length-append u v, place, kept, frame_len_least (u ++ v))

  -- a length that is determined stays
  pub TellsLength-append : (v : List Level) (n : ℕ) → TellsLength u (Some n) → TellsLength (u ++ v) (Some n)
  TellsLength-append v n told =
      let before : data_place (extended_of u) ≤ length u = told.0 in
      let place : data_place (extended_of (u ++ v)) ≡ data_place (extended_of u) =
      ap (λ t. data_place (is_recessive t)) (level_at-append u v 13 (omega (arith, data_behind_ide (extended_of u)))) in
      (omega (arith, place, length-append u v), told.1 ∙ sym (frame_len-append u v before))

  pub TellsLength-more : (v : List Level) (told : Option ℕ) → is_some told ≡ true → TellsLength u told → TellsLength (u ++ v) told
  TellsLength-more v None some h = cc
  TellsLength-more v (Some n) some h = TellsLength-append v n h

-- levels that code finds to differ
pub other_level : (x y : Level) → sameb the_type x y ≡ false → same x y ≡ false
other_level Dominant Dominant h = cc
other_level Dominant Recessive h = refl
other_level Recessive Dominant h = refl
other_level Recessive Recessive h = cc

-- a front with space for levels has not ended
pub next_place-room : (f : FrontParts) → length f.unstuffed < frame_len f.unstuffed → next_place f ≢ CrcDelimiter
next_place-room f room ended = absurd (omega (arith, eqb-true (frame_len f.unstuffed) (length f.unstuffed) (next_place-ended f ended).1))

start_stays : (u v : List Level) → take 1 u ≡ Dominant ∷ [] → take 1 (u ++ v) ≡ Dominant ∷ []
start_stays [] v h = cc
start_stays (x ∷ u) v h = h

-- a front with levels for which it has space
pub IsFront-run : (f : FrontParts) (v : List Level) (last : Level) (run r : ℕ) → IsFront f → IsOpenFor f.unstuffed r → length v ≤ r → 1 ≤ run → run ≤ 5
    → IsFront (record { unstuffed = f.unstuffed ++ v; last = last; run = run })
IsFront-run f v last run r h room short some few = record {
  start = start_stays f.unstuffed v h.start;
  within = omega (arith, room v short);
  some = some;
  short = few;
}

-- ---- digits

pub HearsDigits-none : (f : FrontParts) (digits : List ℕ) → HearsDigits f f (take 0 digits)
HearsDigits-none f digits = record { levels = []; digits_are = refl; heard = refl }

-- one more
pub HearsDigits-level : (f g : FrontParts) (digits : List ℕ) (n : ℕ) (x : Level) → n < length digits → get_or digits n 0 ≡ digit_of x → next_place g ≢ CrcDelimiter → is_stuff_error g x ≡ false
    → HearsDigits f g (take n digits) → HearsDigits f (heard_level g x) (take (n + 1) digits)
HearsDigits-level f g digits n x more is going no_error h = record {
  levels = h.levels ++ x ∷ [];
  digits_are = take_more digits n 0 more ∙ ap (λ d. take n digits ++ d ∷ []) is ∙ ap (λ l. l ++ digit_of x ∷ []) h.digits_are ∙ sym (map-append digit_of h.levels (x ∷ []));
  heard = heard_levels-append h.levels (x ∷ []) f g h.heard ∙ ap (option_and_then (λ e. heard_levels e [])) (hear_at-going g x (next_place g) going no_error);
}

module _ (f : FrontParts) (u : List Level) (last : Level) (run : ℕ) (digits : List ℕ) (n : ℕ) (x : Level) where
  abbrev now : FrontParts
  now = record { unstuffed = u; last = last; run = run }

  module _ (more : n < length digits) (is : get_or digits n 0 ≡ digit_of x) (room : length u < frame_len u) (so_far : HearsDigits f now (take n digits)) where
    -- a stuff bit
    pub HearsDigits-stuff_bit : run ≡ 5 → same x last ≡ false → HearsDigits f (record { unstuffed = u; last = x; run = 1 }) (take (n + 1) digits)
    HearsDigits-stuff_bit due other =
        let level : heard_level now x ≡ record { unstuffed = u; last = x; run = 1 } =
        cond-true (eqb run 5) (record { unstuffed = u; last = x; run = 1 }) (record { unstuffed = u ++ x ∷ []; last = x; run = run_after last run x }) (eq-eqb run 5 due) in
        subst (λ g. HearsDigits f g (take (n + 1) digits)) level
        (HearsDigits-level f now digits n x more is (next_place-room now room) (and_right (eqb run 5) (same x last) other) so_far)

    -- a level of the frame
    pub HearsDigits-bit : run ≢ 5 → HearsDigits f (record { unstuffed = u ++ x ∷ []; last = x; run = run_after last run x }) (take (n + 1) digits)
    HearsDigits-bit not_due =
        let level : heard_level now x ≡ record { unstuffed = u ++ x ∷ []; last = x; run = run_after last run x } =
        cond-false (eqb run 5) (record { unstuffed = u; last = x; run = 1 }) (record { unstuffed = u ++ x ∷ []; last = x; run = run_after last run x }) (ne_eqb run 5 not_due) in
        subst (λ g. HearsDigits f g (take (n + 1) digits)) level
        (HearsDigits-level f now digits n x more is (next_place-room now room) (and_left (eqb run 5) (same x last) (ne_eqb run 5 not_due)) so_far)

-- ---- the unstuffed ones among them, as a number

-- none
pub HearsDigits-begin : (u : List Level) (last : Level) (run : ℕ) (digits : List ℕ)
    → HearsDigits (record { unstuffed = u; last = last; run = run }) (record { unstuffed = u ++ bits_of 0 0; last = last; run = run }) (take 0 digits)
HearsDigits-begin u last run digits =
    subst (λ v. HearsDigits (record { unstuffed = u; last = last; run = run }) (record { unstuffed = v; last = last; run = run }) (take 0 digits))
    (sym (ap (λ t. u ++ t) (bits_of-zero 0) ∙ append-nil u)) (HearsDigits-none (record { unstuffed = u; last = last; run = run }) digits)

-- one more
pub HearsDigits-number : (f : FrontParts) (u : List Level) (len number : ℕ) (last : Level) (run : ℕ) (digits : List ℕ) (n : ℕ) (x : Level)
    → n < length digits → get_or digits n 0 ≡ digit_of x → length (u ++ bits_of len number) < frame_len (u ++ bits_of len number) → run ≢ 5
    → HearsDigits f (record { unstuffed = u ++ bits_of len number; last = last; run = run }) (take n digits)
    → HearsDigits f (record { unstuffed = u ++ bits_of (len + 1) (2 * number + bool_byte (is_recessive x)); last = x; run = run_after last run x }) (take (n + 1) digits)
HearsDigits-number f u len number last run digits n x more is room not_due so_far =
    subst (λ v. HearsDigits f (record { unstuffed = v; last = x; run = run_after last run x }) (take (n + 1) digits))
    (append_assoc u (bits_of len number) (x ∷ []) ∙ ap (λ t. u ++ t) (sym (bits_of-next len number x)))
    (HearsDigits-bit f (u ++ bits_of len number) last run digits n x more is room so_far not_due)

-- ---- a decoder that hears them

-- within the stuffed part, to its end only if its CRC sequence is right
pub DecodesDigits-part : (d e : DecoderParts) (digits : List ℕ) → next_place d.front ≢ CrcDelimiter → (next_place e.front ≡ CrcDelimiter → IsCrc (head_of e.front.unstuffed) (check_of e.front.unstuffed)) → e.behind ≡ d.behind
    → HearsDigits d.front e.front digits → DecodesDigits d e digits
DecodesDigits-part d e digits going agrees same_behind h = record {
  levels = h.levels;
  digits_are = h.digits_are;
  heard = λ before heard. HasHeard-run d before heard going h.levels e h.heard same_behind agrees;
}

-- some, and then more
pub DecodesDigits-join : (d e g : DecoderParts) (digits : List ℕ) (n k : ℕ) → DecodesDigits d e (take n digits) → DecodesDigits e g (take k (drop n digits)) → DecodesDigits d g (take (n + k) digits)
DecodesDigits-join d e g digits n k some more = record {
  levels = some.levels ++ more.levels;
  digits_are = take-add n k digits ∙ ap (λ t. t ++ take k (drop n digits)) some.digits_are ∙ ap (λ t. map digit_of some.levels ++ t) more.digits_are ∙ sym (map-append digit_of some.levels more.levels);
  heard = λ before heard. subst (HasHeard g) (append_assoc before some.levels more.levels) (more.heard (before ++ some.levels) (some.heard before heard));
}

-- after it, one more level
module _ (k : ℕ) (acked : Bool) (n : ℕ) (between : Bool) (digits : List ℕ) (so_far : HearsTail k acked (k + n) between (take n digits)) (more : n < length digits) (x : Level) (is : get_or digits n 0 ≡ digit_of x) where
  pub HearsTail-level : (after : Bool) → take (k + n + 1) (tail (ack_slot after) Recessive) ≡ take (k + n) (tail (ack_slot between) Recessive) ++ x ∷ [] → HearsTail k acked (k + (n + 1)) after (take (n + 1) digits)
  HearsTail-level after follows = record {
    levels = so_far.levels ++ x ∷ [];
    digits_are = take_more digits n 0 more ∙ ap (λ d. take n digits ++ d ∷ []) is ∙ ap (λ l. l ++ digit_of x ∷ []) so_far.digits_are ∙ sym (map-append digit_of so_far.levels (x ∷ []));
    follow = (let place : k + (n + 1) ≡ k + n + 1 = omega arith in ap (λ m. take m (tail (ack_slot after) Recessive)) place) ∙ follows
        ∙ ap (λ t. t ++ x ∷ []) so_far.follow ∙ append_assoc (take k (tail (ack_slot acked) Recessive)) so_far.levels (x ∷ []);
  }

pub DecodesDigits-behind : (d e : DecoderParts) (k n : ℕ) (acked after : Bool) (digits : List ℕ) → next_place d.front ≡ CrcDelimiter → n < 10 → e.front ≡ d.front
    → take k (tail (ack_slot acked) Recessive) ≡ d.behind → e.behind ≡ take n (tail (ack_slot after) Recessive) → HearsTail k acked n after digits → DecodesDigits d e digits
DecodesDigits-behind d e k n acked after digits ended few same_front behind_is behind_now h = record {
  levels = h.levels;
  digits_are = h.digits_are;
  heard = λ before heard. HasHeard-tail d before heard ended e h.levels n after few same_front (behind_now ∙ h.follow ∙ ap (λ t. t ++ h.levels) behind_is) behind_now;
}
