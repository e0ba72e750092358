-- No frame has more than 157 levels: later levels change neither the decoded frame nor the fault.
use Rattle.std.proofs.Common.{◌≡◌, ℕ, zero, suc, ◌+◌, ◌-◌, ◌*◌, ◌≤◌, Bool, true, false, List, [], ◌∷◌, ◌++◌, length, take, drop, refl, sym, ◌∙◌, ap, subst, arith, cond, length-append}
use Rattle.std.proofs.Math.Seq.{take-append-add}
use Rattle.std.proofs.lemmas.List.{append-nil, length-drop, length-take-le, take-append-drop, take-append-le, take_all}
use Rattle.can_frame.specs.declared.level.Level.{Level}
use Rattle.can_code.specs.declared.fault.CodeFault.{CodeFault}
use Rattle.can_code.specs.declared.fault.CodeFaultKind.{CodeFaultKind}
use Rattle.can_code.specs.declared.fault.CodeFaultKind.TheVariants.{Short, NoStartOfFrame, Stuff, Crc, Form}
use Rattle.can_code.specs.CodeFaults.{IsLongestSound, HasKind, HasStuffedPart, IsCodeFault}
use Rattle.can_wire.specs.Heard.{HeardParts, heard_head, ack_slot, Spells, IsShape, BeginsShape, IsSound}
use Rattle.can_wire.specs.Stuffing.{stuffed}
use Rattle.can_wire.specs.Wire.{tail}
use Rattle.can_wire.proofs.LayoutHead.{length-heard_head-le}
use Rattle.can_wire.proofs.SpellingLemmas.{Spells-only, length-spelling-le}
use Rattle.can_wire.proofs.StuffingLemmas.{length-stuffed, stuffed-only}

-- a spelling has at most 157 levels
Spells-length : (h : HeardParts) (w : List Level) → Spells h w → length w ≤ 157
Spells-length h w spelled = by h.frame.id.extended (length w) (omega (arith, ap length (Spells-only h w spelled), length-spelling-le h spelled.heard))
  where
    by : (e : Bool) (n : ℕ) → n ≤ cond e 157 132 → n ≤ 157
    by true n p = p
    by false n p = omega arith

-- and so does a list of that shape with any CRC sequence
IsShape-length : (w : List Level) → IsShape w → length w ≤ 157
IsShape-length w shape =
    let u = heard_head shape.h ++ shape.check in
    let ten = tail (ack_slot shape.h.acked) shape.h.last in
    let part : length shape.s ≡ length (stuffed u) = ap length (stuffed-only u shape.s shape.part.stuffed) in
    let whole : length w ≡ length shape.s + 10 = ap length shape.whole ∙ length-append shape.s ten in
    let size : length u ≡ length (heard_head shape.h) + 15 = omega (arith, length-append (heard_head shape.h) shape.check, shape.part.fifteen) in
    by shape.h.frame.id.extended (length (heard_head shape.h)) (length w) (length-heard_head-le shape.h shape.part.heard.frame) (omega (arith, length-stuffed u))
  where
    by : (e : Bool) (n w : ℕ) → n ≤ cond e 103 83 → 4 * w ≤ 5 * (n + 15) + 40 → w ≤ 157
    by true n w p q = omega arith
    by false n w p q = omega arith

-- and what begins such a list
BeginsShape-length : (b : List Level) → BeginsShape b → length b ≤ 157
BeginsShape-length b begins = omega (arith, length-append b begins.0, IsShape-length (b ++ begins.0) begins.1)

-- 157 levels of that shape, with their CRC sequence, are a spelling
Spells-full : (b : List Level) → length b ≡ 157 → IsSound b → (h : HeardParts) × Spells h b
Spells-full b full sound =
    let shape = sound.begins.1 in
    let none : sound.begins.0 ≡ [] = empty sound.begins.0 (omega (arith, IsShape-length (b ++ sound.begins.0) shape, length-append b sound.begins.0)) in
    let whole : b ≡ shape.s ++ tail (ack_slot shape.h.acked) shape.h.last = sym (append-nil b) ∙ ap (λ t. b ++ t) (sym none) ∙ shape.whole in (
      shape.h,
      record {
        heard = shape.part.heard;
        spelling = record {
          check = shape.check;
          is_check = sound.checked shape.h shape.check shape.s (tail (ack_slot shape.h.acked) shape.h.last) shape.part (sym whole);
          stuffed = shape.s;
          is_stuffed = shape.part.stuffed;
          whole = whole;
        };
      },
    )
  where
    empty : (xs : List Level) → length xs ≤ 0 → xs ≡ []
    empty [] p = refl
    empty (x ∷ xs) p = absurd (omega (arith, p))

-- levels, and the first 157 of them
module _ (l front : List Level) (is_front : front ≡ take 157 l) where
  whole : front ++ drop 157 l ≡ l
  whole = ap (λ t. t ++ drop 157 l) is_front ∙ take-append-drop 157 l

  pub length-front : length l ≡ length front + length (drop 157 l)
  length-front = ap length (sym whole) ∙ length-append front (drop 157 l)

  -- what begins the front begins the levels
  pub take-front : (n : ℕ) → n ≤ length front → take n front ≡ take n l
  take-front n h = sym (take-append-le n front (drop 157 l) h) ∙ ap (take n) whole

  -- a spelling with which the levels begin is in the front
  pub Spells-front : (h : HeardParts) (w rest : List Level) → Spells h w → w ++ rest ≡ l → w ++ take (157 - length w) rest ≡ front
  Spells-front h w rest spelled is_l =
      let room : length w + (157 - length w) ≡ 157 = omega (arith, Spells-length h w spelled) in
      sym (take-append-add w rest (157 - length w)) ∙ ap (λ n. take n (w ++ rest)) room ∙ ap (take 157) is_l ∙ sym is_front

  -- a fault of the front is one of the levels
  module _ (f : CodeFault) (fault : IsCodeFault front f) where
    low : f.place ≤ length front
    low = fault.place.within

    sound_in : (n : ℕ) → n ≤ length l → IsSound (take n l) → n ≤ length front
    sound_in n within sound = omega (arith, BeginsShape-length (take n l) sound.begins, length-take-le n l within, length-front, length-drop 157 l)

    IsLongestSound-levels : IsLongestSound l f.place
    IsLongestSound-levels = record {
      within = omega (arith, low, length-front);
      sound = subst IsSound (take-front f.place low) fault.place.sound;
      longest = λ n longer within sound. let inside = sound_in n within sound in fault.place.longest n longer inside (subst IsSound (sym (take-front n inside)) sound);
    }

    -- the front ends too early only if the levels do
    ends : f.place ≡ length front → f.place ≡ length l
    ends is = by (length (drop 157 l)) refl
      where
        by : (n : ℕ) → length (drop 157 l) ≡ n → f.place ≡ length l
        by zero none = omega (arith, is, none, length-front)
        by (suc n) some =
            let sound : IsSound front = subst IsSound (ap (λ k. take k front) is ∙ take_all (length front) front (omega arith)) fault.place.sound in
            let spelled = Spells-full front (omega (arith, some, length-front, length-drop 157 l)) sound in
            absurd (fault.unspelled spelled.0 front [] spelled.1 (append-nil front))

    kind : (k : CodeFaultKind) → HasKind front f.place k → HasKind l f.place k
    kind Short is = ends is
    kind NoStartOfFrame is = (omega (arith, is.0, length-front), is.1)
    kind Crc is = (omega (arith, is.0, length-front), is.1, subst BeginsShape (take-front (f.place + 1) (omega arith)) is.2)
    kind Stuff is = (omega (arith, is.0, length-front), is.1, λ begins. is.2 (subst BeginsShape (sym (take-front (f.place + 1) (omega arith))) begins), λ part. is.3 (subst HasStuffedPart (sym (take-front f.place low)) part))
    kind Form is = (omega (arith, is.0, length-front), is.1, λ begins. is.2 (subst BeginsShape (sym (take-front (f.place + 1) (omega arith))) begins), subst HasStuffedPart (take-front f.place low) is.3)

    pub IsCodeFault-levels : IsCodeFault l f
    IsCodeFault-levels = record {
      unspelled = λ h w rest spelled whole. fault.unspelled h w (take (157 - length w) rest) spelled (Spells-front h w rest spelled whole);
      place = IsLongestSound-levels;
      kind = kind f.kind fault.kind;
    }
