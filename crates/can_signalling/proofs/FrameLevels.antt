-- The levels of an acknowledged frame of whose stuffed part one level is inverted.
use Rattle.std.proofs.Common.{◌≡◌, ◌≢◌, ℕ, zero, suc, ◌+◌, ◌-◌, ◌<◌, ◌≤◌, true, List, [], ◌∷◌, ◌++◌, length, refl, sym, ◌∙◌, ap, arith, length-append}
use Rattle.std.proofs.lemmas.List.{append-nil}
use Rattle.can_frame.specs.declared.level.Level.{Level}
use Rattle.can_frame.specs.declared.level.Level.TheVariants.{Dominant, Recessive}
use Rattle.can_frame.specs.Levels.{opposite}
use Rattle.can_wire.specs.Wire.{tail}
use Rattle.can_wire.specs.Heard.{HeardParts, heard_head, ack_slot, Spells}
use Rattle.can_wire.specs.Layout.{level_at, IsPart}
use Rattle.can_wire.proofs.LayoutPlaces.{level_at-append, level_at-behind}
use Rattle.can_code.proofs.StuffedParts.{IsPart-start}
use Rattle.can_detection.specs.WrongBit.{inverted_at, crc_delimiter}
use Rattle.can_detection.proofs.FixedForm.{delimiter-is, IsPart-spelled}

-- the other levels are as they were
pub inverted_at-other : (w : List Level) (p q : ℕ) → q ≢ p → level_at (inverted_at p w) q ≡ level_at w q
inverted_at-other [] p q other = refl
inverted_at-other (x ∷ w) zero zero other = absurd (other refl)
inverted_at-other (x ∷ w) zero (suc q) other = refl
inverted_at-other (x ∷ w) (suc p) zero other = refl
inverted_at-other (x ∷ w) (suc p) (suc q) other = inverted_at-other w p q (λ e. other (ap suc e))

-- and this one is the opposite
pub inverted_at-here : (w : List Level) (p : ℕ) → p < length w → level_at (inverted_at p w) p ≡ opposite (level_at w p)
inverted_at-here [] p inside = absurd (omega arith)
inverted_at-here (x ∷ w) zero inside = refl
inverted_at-here (x ∷ w) (suc p) inside = inverted_at-here w p (omega arith)

pub length-inverted_at : (w : List Level) (p : ℕ) → length (inverted_at p w) ≡ length w
length-inverted_at [] p = refl
length-inverted_at (x ∷ w) zero = refl
length-inverted_at (x ∷ w) (suc p) = ap suc (length-inverted_at w p)

-- from the ACK delimiter to the last but one level of the end of frame
tail-recessive : (a l : Level) (j : ℕ) → 2 ≤ j → j ≤ 8 → level_at (tail a l) j ≡ Recessive
tail-recessive a l zero from to = absurd (omega arith)
tail-recessive a l (suc zero) from to = absurd (omega arith)
tail-recessive a l (suc (suc zero)) from to = refl
tail-recessive a l (suc (suc (suc zero))) from to = refl
tail-recessive a l (suc (suc (suc (suc zero)))) from to = refl
tail-recessive a l (suc (suc (suc (suc (suc zero))))) from to = refl
tail-recessive a l (suc (suc (suc (suc (suc (suc zero)))))) from to = refl
tail-recessive a l (suc (suc (suc (suc (suc (suc (suc zero))))))) from to = refl
tail-recessive a l (suc (suc (suc (suc (suc (suc (suc (suc zero)))))))) from to = refl
tail-recessive a l (suc (suc (suc (suc (suc (suc (suc (suc (suc j))))))))) from to = absurd (omega arith)

start_of_part : (u s : List Level) → IsPart u s → level_at s 0 ≡ Dominant
start_of_part u [] part = refl
start_of_part u (Dominant ∷ s) part = refl
start_of_part u (Recessive ∷ s) part = absurd (IsPart-start u (Recessive ∷ s) [] s part (append-nil (Recessive ∷ s)))

module _ (h : HeardParts) (w : List Level) (p : ℕ) (rest : List Level) (spelled : Spells h w) (acked : h.acked ≡ true) (some : 0 < p) (within : p < crc_delimiter w) where
  abbrev s : List Level
  s = spelled.spelling.stuffed

  abbrev ten : List Level
  ten = tail (ack_slot h.acked) h.last

  abbrev others : List Level
  others = inverted_at p w ++ rest

  frame_size : length w ≡ crc_delimiter w + 10
  frame_size = ap length spelled.spelling.whole ∙ omega (arith, length-append s ten, delimiter-is h w spelled)

  pub others-size : crc_delimiter w + 10 ≤ length (inverted_at p w ++ rest)
  others-size = omega (arith, length-append (inverted_at p w) rest, length-inverted_at w p, frame_size)

  -- a level of the frame that is not the inverted one
  kept : (q : ℕ) → q < length w → q ≢ p → level_at others q ≡ level_at (s ++ ten) q
  kept q inside other =
      level_at-append (inverted_at p w) rest q (omega (arith, length-inverted_at w p))
      ∙ inverted_at-other w p q other
      ∙ ap (λ l. level_at l q) spelled.spelling.whole

  -- the start of frame
  pub others-first : level_at (inverted_at p w ++ rest) 0 ≡ Dominant
  others-first =
      kept 0 (omega (arith, frame_size)) (λ e. omega (arith, e, some))
      ∙ level_at-append s ten 0 (omega (arith, delimiter-is h w spelled, within))
      ∙ start_of_part (heard_head h ++ spelled.spelling.check) s (IsPart-spelled h w spelled)

  -- a level after the stuffed part
  after : (q : ℕ) → crc_delimiter w ≤ q → q < length w → level_at others q ≡ level_at ten (q - crc_delimiter w)
  after q from to =
      kept q to (λ e. omega (arith, e, from, within))
      ∙ level_at-behind s ten q (omega (arith, delimiter-is h w spelled))
      ∙ ap (λ k. level_at ten (q - k)) (sym (delimiter-is h w spelled))

  -- the acknowledgement
  pub others-slot : level_at (inverted_at p w ++ rest) (crc_delimiter w + 1) ≡ Dominant
  others-slot =
      let one : crc_delimiter w + 1 - crc_delimiter w ≡ 1 = omega arith in
      after (crc_delimiter w + 1) (omega arith) (omega (arith, frame_size)) ∙ ap (level_at ten) one ∙ ap ack_slot acked

  -- from the ACK delimiter to the last but one level of the end of frame
  pub others-recessive : (q : ℕ) → crc_delimiter w + 2 ≤ q → q ≤ crc_delimiter w + 8 → level_at (inverted_at p w ++ rest) q ≡ Recessive
  others-recessive q from to =
      after q (omega (arith, from)) (omega (arith, frame_size, to))
      ∙ tail-recessive (ack_slot h.acked) h.last (q - crc_delimiter w) (omega (arith, from)) (omega (arith, to))
