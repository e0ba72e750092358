-- A receiver of an acknowledged frame of whose stuffed part one level is inverted.
use Rattle.std.proofs.Common.{◌≡◌, ℕ, ◌+◌, ◌<◌, ◌≤◌, Bool, true, false, List, [], ◌∷◌, ◌++◌, length, take, drop, refl, sym, ◌∙◌, ap, subst, arith, append_assoc, length-append, ◌⊎◌, inl, inr}
use Rattle.std.proofs.Math.Seq.{take-append-add}
use Rattle.std.proofs.lemmas.List.{length-take-le, take-append-drop, take-take, drop_more, get_or-append-add}
use Rattle.std.proofs.lemmas.Bool.{cases_lt}
use Rattle.can_frame.specs.declared.level.Level.{Level}
use Rattle.can_frame.specs.declared.level.Level.TheVariants.{Dominant, Recessive}
use Rattle.can_frame.specs.Levels.{opposite}
use Rattle.can_wire.specs.Crc.{Multiple}
use Rattle.can_wire.specs.Wire.{tail}
use Rattle.can_wire.specs.Heard.{HeardParts, heard_head, ack_slot, Spells, IsShape, IsSound}
use Rattle.can_wire.specs.Layout.{level_at, IsPart}
use Rattle.can_wire.proofs.LayoutPlaces.{level_at-append}
use Rattle.can_code.specs.declared.fault.CodeFault.{CodeFault}
use Rattle.can_code.specs.CodeFaults.{IsCodeFault}
use Rattle.can_code.proofs.StuffedParts.{IsPart-from, front_of}
use Rattle.can_code.proofs.SoundLemmas.{IsSound-front}
use Rattle.can_detection.specs.WrongBit.{inverted_at, crc_delimiter, EndsLate}
use Rattle.can_detection.proofs.Inverted.{inverted_at-next}
use Rattle.can_detection.proofs.FixedForm.{delimiter-is, IsPart-spelled}
use Rattle.can_detection.proofs.OtherParts.{eight, IsLater, IsLater-read}

unacknowledged : (acked : Bool) → ack_slot acked ≡ Recessive → acked ≡ false
unacknowledged true e = cc
unacknowledged false e = refl

-- a sound list's fronts are sound
sound_front : (l : List Level) (n p : ℕ) → n ≤ p → IsSound (take p l) → IsSound (take n l)
sound_front l n p within sound =
    let rest = drop n (take p l) in
    let front : take n l ++ rest ≡ take p l = ap (λ t. t ++ rest) (sym (take-take n p l within)) ∙ take-append-drop n (take p l) in
    IsSound-front (take n l) rest (subst IsSound (sym front) sound)

module _ (h : HeardParts) (w : List Level) (p : ℕ) (rest : List Level) (spelled : Spells h w) (acked : h.acked ≡ true) (some : 0 < p) (within : p < crc_delimiter w) where
  -- the stuffed part as sent: the inverted level, and those before and after it
  abbrev s : List Level
  s = spelled.spelling.stuffed

  abbrev a : List Level
  a = take p s

  abbrev x : Level
  x = level_at s p

  abbrev b : List Level
  b = drop (p + 1) s

  -- as received
  abbrev m : List Level
  m = a ++ opposite x ∷ b

  abbrev levels : List Level
  levels = inverted_at p w ++ rest

  abbrev more : List Level
  more = Recessive ∷ h.last ∷ rest

  size : length s ≡ crc_delimiter w
  size = sym (delimiter-is h w spelled)

  a_size : length a ≡ p
  a_size = length-take-le p s (omega (arith, size))

  split : s ≡ a ++ x ∷ b
  split =
      let inside : p < length s = omega (arith, size) in
      sym (take-append-drop p s) ∙ ap (λ t. a ++ t) (drop_more s p Dominant inside)

  m_size : length m ≡ crc_delimiter w
  m_size = omega (arith, size, ap length split, length-append a (opposite x ∷ b), length-append a (x ∷ b))

  levels_are : levels ≡ m ++ (eight ++ more)
  levels_are =
      let ten = tail Dominant h.last in
      let whole : w ≡ a ++ x ∷ (b ++ ten) =
      spelled.spelling.whole ∙ ap (λ t. s ++ tail (ack_slot t) h.last) acked ∙ ap (λ t. t ++ ten) split ∙ append_assoc a (x ∷ b) ten in
      let inverted : inverted_at p w ≡ m ++ ten = ap (inverted_at p) whole ∙ inverted_at-next a x (b ++ ten) p a_size ∙ sym (append_assoc a (opposite x ∷ b) ten) in
      ap (λ t. t ++ rest) inverted ∙ append_assoc m ten rest

  abbrev u : List Level
  u = heard_head h ++ spelled.spelling.check

  -- a stuffed part that is read
  later : (v d z y : List Level) (ack last : Level) → IsPart v d → (m ≡ d → Multiple v) → m ++ (eight ++ z) ≡ d ++ (tail ack last ++ y) → IsLater (crc_delimiter w) d ack
  later v d z y ack last read divides same =
      let sent = subst (IsPart u) split (IsPart-spelled h w spelled) in
      let n : length (a ++ x ∷ b) ≡ crc_delimiter w = sym (ap length split) ∙ size in
      let begun : 0 < length a = omega (arith, a_size) in
      subst (λ k. IsLater k d ack) n (IsLater-read a b x u v d sent read begun spelled.spelling.is_check.divides divides z y ack last same)

  -- no prefix encodes an acknowledged frame
  pub Spells-unacknowledged : (g : HeardParts) (v y : List Level) → Spells g v → v ++ y ≡ inverted_at p w ++ rest → (g.acked ≡ false) × (length w < length v)
  Spells-unacknowledged g v y read same =
      let ten = tail (ack_slot g.acked) g.last in
      let d = read.spelling.stuffed in
      let whole : m ++ (eight ++ more) ≡ d ++ (ten ++ y) = sym levels_are ∙ sym same ∙ ap (λ t. t ++ y) read.spelling.whole ∙ append_assoc d ten y in
      let late = later (heard_head g ++ read.spelling.check) d more y (ack_slot g.acked) g.last (IsPart-spelled g v read) (λ e. read.spelling.is_check.divides) whole in
      let least = late.least in (
        unacknowledged g.acked late.slot,
        omega (arith, least, size, ap length spelled.spelling.whole, length-append s (tail (ack_slot h.acked) h.last), ap length read.spelling.whole, length-append d ten),
      )

  front_is : take (crc_delimiter w + 8) (inverted_at p w ++ rest) ≡ m ++ eight
  front_is =
      ap (take (crc_delimiter w + 8)) levels_are ∙ ap (λ k. take (k + 8) (m ++ (eight ++ more))) (sym m_size) ∙ take-append-add m (eight ++ more) 8

  -- if there is no fault by the fifth bit of the end of frame, a later stuffed part has been read
  module _ (sound : IsSound (m ++ eight)) where
    abbrev z : List Level
    z = sound.begins.0

    abbrev shape : IsShape ((m ++ eight) ++ z)
    shape = sound.begins.1

    abbrev d : List Level
    d = shape.s

    abbrev ten_read : List Level
    ten_read = tail (ack_slot shape.h.acked) shape.h.last

    late : IsLater (crc_delimiter w) d (ack_slot shape.h.acked)
    late =
        later (heard_head shape.h ++ shape.check) d z [] (ack_slot shape.h.acked) shape.h.last (IsPart-from shape.h shape.check d shape.part)
        (λ same. (sound.checked shape.h shape.check d eight shape.part (ap (λ t. t ++ eight) (sym same))).divides)
        (sym (append_assoc m eight z) ∙ shape.whole)

    front_size : length (m ++ eight) ≡ crc_delimiter w + 8
    front_size = omega (arith, length-append m eight, m_size)

    begun : m ++ eight ≡ d ++ drop (length d) (m ++ eight)
    begun = let most = late.most in front_of d (m ++ eight) ten_read z (sym shape.whole) (omega (arith, front_size))

    slot : level_at levels (length d + 1) ≡ Recessive
    slot =
        let k = length d + 1 in
        let most = late.most in
        let inside : k < length (m ++ eight) = omega (arith, front_size) in
        ap (λ t. level_at t k) (levels_are ∙ sym (append_assoc m eight more)) ∙ level_at-append (m ++ eight) more k inside
        ∙ sym (level_at-append (m ++ eight) z k inside) ∙ ap (λ t. level_at t k) shape.whole ∙ get_or-append-add d ten_read 1 Dominant ∙ late.slot

    ends_late : EndsLate (crc_delimiter w) levels
    ends_late =
        let after = drop (length d) (m ++ eight) in
        record {
          h = shape.h;
          check = shape.check;
          s = d;
          rest = after ++ more;
          part = shape.part;
          agrees = sound.checked shape.h shape.check d after shape.part (sym begun);
          begins = sym (append_assoc d after more) ∙ ap (λ t. t ++ more) (sym begun) ∙ append_assoc m eight more ∙ sym levels_are;
          least = late.least;
          most = late.most;
          unacknowledged = slot;
        }

  pub EndsLate-sound : IsSound (take (crc_delimiter w + 8) (inverted_at p w ++ rest)) → EndsLate (crc_delimiter w) (inverted_at p w ++ rest)
  EndsLate-sound sound = ends_late (subst IsSound front_is sound)

  -- so a fault comes by then, or such a part has been read
  pub EndsLate-fault : (fault : CodeFault) → IsCodeFault (inverted_at p w ++ rest) fault → (fault.place ≤ crc_delimiter w + 7) ⊎ EndsLate (crc_delimiter w) (inverted_at p w ++ rest)
  EndsLate-fault fault is = elim (cases_lt (crc_delimiter w + 7) fault.place) [
    | inl after ↦ inr (EndsLate-sound (sound_front levels (crc_delimiter w + 8) fault.place (omega arith) is.place.sound))
    | inr by_then ↦ inl by_then
  ]
