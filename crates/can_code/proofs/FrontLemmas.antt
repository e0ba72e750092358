-- A front stays one with each level that is received, and its levels determine how long it gets.
use Rattle.std.proofs.Common.{◌≡◌, ◌≢◌, ℕ, ◌+◌, ◌<◌, ◌≤◌, Bool, true, false, Option, Some, None, List, [], ◌∷◌, ◌++◌, length, take, refl, sym, ◌∙◌, ap, arith, length-append, cond, ◌⊎◌, inl, inr}
use Rattle.std.proofs.Math.Dec.{eqb}
use Rattle.std.proofs.lemmas.Bool.{cases_lt, cond-true, cond_both, eq-eqb, ne_eqb, eqb-true, eqb-false, cond-false}
use Rattle.std.specs.Option.{is_some, option_eq}
use Rattle.can_frame.specs.declared.level.Level.{Level}
use Rattle.can_frame.specs.declared.level.Level.TheVariants.{Dominant}
use Rattle.can_frame.specs.Levels.{is_recessive}
use Rattle.can_code.specs.declared.front.Place.TheVariants.{StuffBit, Bit, CrcDelimiter}
use Rattle.can_wire.specs.Stuffing.{run_after}
use Rattle.can_wire.specs.Layout.{level_at, extended_of, data_place, frame_len, IsComplete}
use Rattle.can_code.specs.Reading.{TellsLength}
use Rattle.can_code.specs.Front.{FrontParts, first_front, has_check, heard_level, next_place, IsFront}
use Rattle.can_wire.proofs.LayoutPlaces.{level_at-append}
use Rattle.can_wire.proofs.LayoutLengths.{frame_len_le, frame_len_ge, frame_len-grows, frame_len-append, frame_len_least}
use Rattle.can_code.proofs.ReadingLemmas.{data_behind_ide}
use Rattle.can_wire.proofs.Runs.{run_after-le, run_after-ge}

-- no level takes unstuffed levels away
pub heard_level-longer : (f : FrontParts) (x : Level) → length f.unstuffed ≤ length (heard_level f x).unstuffed
heard_level-longer f x =
    cond_both {A = FrontParts} (eqb f.run 5) _ _ (λ g. length f.unstuffed ≤ length g.unstuffed) (λ e. omega arith)
    (λ e. let more = length-append f.unstuffed (x ∷ []) in omega (arith, more))

-- the length that levels determine decides whether they have their whole CRC sequence
pub has_check-told : (u : List Level) (told : Option ℕ) → TellsLength u told → has_check u ≡ option_eq eqb told (Some (length u))
has_check-told u None h = ne_eqb (frame_len u) (length u) (λ e. omega (arith, frame_len_least u))
has_check-told u (Some n) h = ap (λ t. eqb t (length u)) (sym h.1)

-- a length that is determined stays
pub TellsLength-push : (u : List Level) (x : Level) (told : Option ℕ) → is_some told ≡ true → TellsLength u told → TellsLength (u ++ x ∷ []) told
TellsLength-push u x None some h = cc
TellsLength-push u x (Some n) some h =
    let size : length (u ++ x ∷ []) ≡ length u + 1 = length-append u (x ∷ []) in
    let told : data_place (extended_of u) ≤ length u = h.0 in
    let place : data_place (extended_of (u ++ x ∷ [])) ≡ data_place (extended_of u) =
    ap (λ t. data_place (is_recessive t)) (level_at-append u (x ∷ []) 13 (omega (arith, data_behind_ide (extended_of u)))) in
    (omega arith, h.1 ∙ sym (frame_len-append u (x ∷ []) told))

data_place_or : (extended : Bool) → (data_place extended ≡ data_place false) ⊎ (data_place extended ≡ data_place true)
data_place_or true = inr refl
data_place_or false = inl refl

-- a length that is not determined is not determined by one more level, if no data length code ends
-- with it
pub TellsLength-wait : (u : List Level) (x : Level) (told : Option ℕ) → is_some told ≡ false → TellsLength u told
    → (((length (u ++ x ∷ []) ≡ data_place false) ⊎ (length (u ++ x ∷ []) ≡ data_place true)) → ⊥) → TellsLength (u ++ x ∷ []) told
TellsLength-wait u x (Some n) none h no_end = cc
TellsLength-wait u x None none h no_end =
    let size : length (u ++ x ∷ []) ≡ length u + 1 = length-append u (x ∷ []) in
    let before : length u < data_place (extended_of u) = h in
    elim (cases_lt 13 (length u)) [
      | inl behind ↦
          let place : data_place (extended_of (u ++ x ∷ [])) ≡ data_place (extended_of u) = ap (λ t. data_place (is_recessive t)) (level_at-append u (x ∷ []) 13 behind) in
          elim (data_place_or (extended_of u)) [
            | inl e ↦ let other : length (u ++ x ∷ []) ≢ data_place (extended_of u) = λ q. no_end (inl (q ∙ e)) in omega arith
            | inr e ↦ let other : length (u ++ x ∷ []) ≢ data_place (extended_of u) = λ q. no_end (inr (q ∙ e)) in omega arith
          ]
      | inr few ↦ omega (arith, data_behind_ide (extended_of (u ++ x ∷ [])))
    ]

pub IsFront-first_front : IsFront first_front
IsFront-first_front = record { start = refl; within = omega (arith, frame_len_ge (Dominant ∷ [])); some = omega arith; short = omega arith }

start_stays : (u : List Level) (x : Level) → take 1 u ≡ Dominant ∷ [] → take 1 (u ++ x ∷ []) ≡ Dominant ∷ []
start_stays [] x h = cc
start_stays (y ∷ u) x h = h

-- the first level is the start of frame
pub IsFront-start : (f : FrontParts) → IsFront f → level_at f.unstuffed 0 ≡ Dominant
IsFront-start f h = first f.unstuffed h.start
  where
    first : (u : List Level) → take 1 u ≡ Dominant ∷ [] → level_at u 0 ≡ Dominant
    first [] e = refl
    first (y ∷ u) e = cc

-- unstuffed levels with their whole CRC sequence are complete
pub IsFront-complete : (f : FrontParts) → IsFront f → has_check f.unstuffed ≡ true → IsComplete f.unstuffed
IsFront-complete f h e = record { start = IsFront-start f h; whole = sym (eqb-true (frame_len f.unstuffed) (length f.unstuffed) e) }

module _ (f : FrontParts) (h : IsFront f) where
  -- the stuff bit that is due begins a run
  pub IsFront-stuff_bit : (x : Level) → IsFront (record { unstuffed = f.unstuffed; last = x; run = 1 })
  IsFront-stuff_bit x = record { start = h.start; within = h.within; some = omega arith; short = omega arith }

  module _ (not_due : f.run ≢ 5) (partial : has_check f.unstuffed ≡ false) where
    other_len : length f.unstuffed ≢ frame_len f.unstuffed
    other_len = λ e. eqb-false (frame_len f.unstuffed) (length f.unstuffed) partial (sym e)

    -- there is space for another level
    pub IsFront-room : length f.unstuffed < 118
    IsFront-room =
        let other : length f.unstuffed ≢ frame_len f.unstuffed = other_len in
        omega (arith, h.within, frame_len_le f.unstuffed)

    -- another level
    pub IsFront-bit : (x : Level) → IsFront (record { unstuffed = f.unstuffed ++ x ∷ []; last = x; run = run_after f.last f.run x })
    IsFront-bit x =
        let u = f.unstuffed in
        let other : f.run ≢ 5 = not_due in
        record {
          start = start_stays u x h.start;
          within = frame_len-grows u x h.within other_len;
          some = run_after-ge f.last f.run x;
          short = omega (arith, h.short, run_after-le f.last f.run x);
        }

-- what the next place determines of a front, and what determines the next place
module _ (f : FrontParts) where
  pub next_place-ended : next_place f ≡ CrcDelimiter → (f.run ≢ 5) × (has_check f.unstuffed ≡ true)
  next_place-ended h = by_tests (eqb f.run 5) (has_check f.unstuffed) refl refl h
    where
      by_tests : (due whole : Bool) → eqb f.run 5 ≡ due → has_check f.unstuffed ≡ whole → cond due StuffBit (cond whole CrcDelimiter Bit) ≡ CrcDelimiter
          → (f.run ≢ 5) × (has_check f.unstuffed ≡ true)
      by_tests true whole d w e = cc
      by_tests false true d w e = (eqb-false f.run 5 d, w)
      by_tests false false d w e = cc

  pub next_place-partial : next_place f ≢ CrcDelimiter → f.run ≢ 5 → has_check f.unstuffed ≡ false
  next_place-partial h not_due = by_tests (eqb f.run 5) (has_check f.unstuffed) (ne_eqb f.run 5 not_due) refl h
    where
      by_tests : (due whole : Bool) → due ≡ false → has_check f.unstuffed ≡ whole → (cond due StuffBit (cond whole CrcDelimiter Bit) ≡ CrcDelimiter → ⊥)
          → has_check f.unstuffed ≡ false
      by_tests true whole d w e = cc
      by_tests false true d w e = absurd (e refl)
      by_tests false false d w e = w

  pub next_place-bit : f.run ≢ 5 → has_check f.unstuffed ≡ false → next_place f ≡ Bit
  next_place-bit not_due partial =
      cond-false (eqb f.run 5) StuffBit (cond (has_check f.unstuffed) CrcDelimiter Bit) (ne_eqb f.run 5 not_due)
      ∙ cond-false (has_check f.unstuffed) CrcDelimiter Bit partial

  pub next_place-complete : f.run ≢ 5 → IsComplete f.unstuffed → next_place f ≡ CrcDelimiter
  next_place-complete not_due complete =
      cond-false (eqb f.run 5) StuffBit (cond (has_check f.unstuffed) CrcDelimiter Bit) (ne_eqb f.run 5 not_due)
      ∙ cond-true (has_check f.unstuffed) CrcDelimiter Bit (eq-eqb (frame_len f.unstuffed) (length f.unstuffed) (sym complete.whole))

  pub next_place-length : next_place f ≡ CrcDelimiter → 34 ≤ length f.unstuffed
  next_place-length h =
      let whole : frame_len f.unstuffed ≡ length f.unstuffed = eqb-true (frame_len f.unstuffed) (length f.unstuffed) (next_place-ended h).1 in
      omega (arith, frame_len_ge f.unstuffed)

pub next_place-first_front : next_place first_front ≢ CrcDelimiter
next_place-first_front ended = absurd (omega (arith, next_place-length first_front ended))
