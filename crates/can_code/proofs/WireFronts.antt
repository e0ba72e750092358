-- The front that each beginning of a frame's stuffed part makes, and what its sender drives next.
use Rattle.std.proofs.Common.{◌≡◌, ◌≢◌, ℕ, ◌+◌, ◌<◌, ◌≤◌, false, Some, List, [], ◌∷◌, length, take, drop, refl, sym, ◌∙◌, ap, arith, inl, inr, cond}
use Rattle.std.proofs.Math.Dec.{eqb}
use Rattle.std.proofs.lemmas.Bool.{cases_eq, cases_lt, eq-eqb, ne_eqb, cond-true, cond-false}
use Rattle.can_frame.specs.declared.level.Level.{Level}
use Rattle.can_frame.specs.declared.level.Level.TheVariants.{Dominant}
use Rattle.can_frame.specs.Levels.{opposite}
use Rattle.can_frame.specs.Parts.{Parts, IsFrame}
use Rattle.can_code.specs.declared.front.Place.TheVariants.{CrcDelimiter}
use Rattle.can_wire.specs.Stuffing.{stuffed}
use Rattle.can_wire.specs.Wire.{head, unstuffed, stuffed_part}
use Rattle.can_wire.specs.Layout.{level_at}
use Rattle.can_code.specs.Front.{FrontParts, first_front, next_place, is_stuff_error, heard_level, heard_levels}
use Rattle.can_code.specs.Sending.{sent_level}
use Rattle.can_code.proofs.FrontsOf.{IsFrontOf}
use Rattle.can_code.proofs.PartFronts.{front_made, part-front, part-heard, part-begins, part-going, part-no_error, part-next, part-stuff_bit, part-bit, part-ended, part-unstuffed}
use Rattle.can_code.proofs.UnstuffedLevels.{stuffed_part-part}

-- the front that the first o levels of a frame's stuffed part make
unfoldable pub front_at : Parts → ℕ → FrontParts
front_at f o = front_made (take o (stuffed_part f))

-- the first level is the start of frame
pub stuffed_part-start : (f : Parts) → level_at (stuffed_part f) 0 ≡ Dominant
unfolding stuffed_part unstuffed stuffed head
stuffed_part-start f = refl

first_of : (b : List Level) → drop 1 (take 1 b) ≡ []
first_of [] = refl
first_of (x ∷ b) = refl

-- with the start of frame it is the first front
pub front_at-first : (f : Parts) → front_at f 1 ≡ first_front
unfolding front_at
front_at-first f = rw (first_of (stuffed_part f)) refl

-- beginnings that are one make one front
pub front_at-same : (f g : Parts) (o : ℕ) → take o (stuffed_part f) ≡ take o (stuffed_part g) → front_at f o ≡ front_at g o
unfolding front_at
front_at-same f g o same = ap front_made same

module _ (f : Parts) (is : IsFrame f) where
  module _ (o : ℕ) (some : 0 < o) where
    -- the first o levels
    module _ (within : o ≤ length (stuffed_part f)) where
      pub front_at-front : IsFrontOf (take o (stuffed_part f)) (front_at f o)
      unfolding front_at
      front_at-front = part-front (unstuffed f) (stuffed_part f) (stuffed_part-part f is) o some within

      pub front_at-heard : heard_levels first_front (drop 1 (take o (stuffed_part f))) ≡ Some (front_at f o)
      unfolding front_at
      front_at-heard = part-heard (unstuffed f) (stuffed_part f) (stuffed_part-part f is) o some within

      -- the unstuffed levels that have been heard begin those of the frame
      pub front_at-begins : take (length (front_at f o).unstuffed) (unstuffed f) ≡ (front_at f o).unstuffed
      unfolding front_at
      front_at-begins = part-begins (unstuffed f) (stuffed_part f) (stuffed_part-part f is) o some within

    -- the first o levels, if more follow
    module _ (more : o < length (stuffed_part f)) where
      -- the stuffed part has not ended
      pub front_at-going : next_place (front_at f o) ≢ CrcDelimiter
      unfolding front_at
      front_at-going = part-going (unstuffed f) (stuffed_part f) (stuffed_part-part f is) o some more

      -- the next level is no wrong stuff bit
      pub front_at-no_error : is_stuff_error (front_at f o) (level_at (stuffed_part f) o) ≡ false
      unfolding front_at
      front_at-no_error = part-no_error (unstuffed f) (stuffed_part f) (stuffed_part-part f is) o some more

      -- with it the front is the next one
      pub front_at-next : front_at f (o + 1) ≡ heard_level (front_at f o) (level_at (stuffed_part f) o)
      unfolding front_at
      front_at-next = part-next (unstuffed f) (stuffed_part f) (stuffed_part-part f is) o some more

      -- at a stuff place the sender drives the other level
      pub sent_stuff_bit : (front_at f o).run ≡ 5 → level_at (stuffed_part f) o ≡ opposite (front_at f o).last
      unfolding front_at
      sent_stuff_bit = part-stuff_bit (unstuffed f) (stuffed_part f) (stuffed_part-part f is) o some more

      -- at another place the next unstuffed level
      pub sent_bit : (front_at f o).run ≢ 5 → level_at (stuffed_part f) o ≡ sent_level f (length (front_at f o).unstuffed)
      unfolding front_at
      sent_bit = part-bit (unstuffed f) (stuffed_part f) (stuffed_part-part f is) o some more

      -- and in one
      pub sent_next : level_at (stuffed_part f) o ≡ cond (eqb (front_at f o).run 5) (opposite (front_at f o).last) (sent_level f (length (front_at f o).unstuffed))
      sent_next =
          let v = front_at f o in
          let other = opposite v.last in
          let next = sent_level f (length v.unstuffed) in
          elim (cases_eq v.run 5) [
            | inl five ↦ sent_stuff_bit five ∙ sym (cond-true (eqb v.run 5) other next (eq-eqb v.run 5 five))
            | inr free ↦ sent_bit free ∙ sym (cond-false (eqb v.run 5) other next (ne_eqb v.run 5 free))
          ]

  -- all of the stuffed part: it has ended, with the frame's unstuffed levels
  pub front_at-ended : next_place (front_at f (length (stuffed_part f))) ≡ CrcDelimiter
  unfolding front_at
  front_at-ended = part-ended (unstuffed f) (stuffed_part f) (stuffed_part-part f is)

  pub front_at-unstuffed : (front_at f (length (stuffed_part f))).unstuffed ≡ unstuffed f
  unfolding front_at
  front_at-unstuffed = part-unstuffed (unstuffed f) (stuffed_part f) (stuffed_part-part f is)

  -- it ends nowhere else
  pub front_at-ends : (o : ℕ) → 0 < o → o ≤ length (stuffed_part f) → next_place (front_at f o) ≡ CrcDelimiter → o ≡ length (stuffed_part f)
  front_at-ends o some within ended = elim (cases_lt o (length (stuffed_part f))) [
    | inl more ↦ absurd (front_at-going o some more ended)
    | inr past ↦ omega arith
  ]
