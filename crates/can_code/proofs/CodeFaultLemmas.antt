-- The faults of levels: what each of them takes, and that its kind and its place are then as defined.
use Rattle.std.proofs.Common.{◌≡◌, ◌+◌, ◌-◌, ◌<◌, Bool, true, List, [], ◌∷◌, ◌++◌, length, take, drop, refl, sym, ◌∙◌, ap, subst, arith, append_assoc, length-append}
use Rattle.std.proofs.Math.Seq.{take-append-add, take-append_seam}
use Rattle.std.proofs.lemmas.List.{append-nil, append_cancel_left, take-append-le}
use Rattle.can_frame.specs.declared.level.Level.{Level}
use Rattle.can_frame.specs.declared.level.Level.TheVariants.{Dominant, Recessive}
use Rattle.can_frame.specs.Levels.{same}
use Rattle.can_code.specs.declared.fault.CodeFaultKind.TheVariants.{Short, NoStartOfFrame, Stuff, Crc, Form}
use Rattle.can_code.specs.declared.front.Place.TheVariants.{CrcDelimiter}
use Rattle.can_wire.specs.Crc.{IsCrc}
use Rattle.can_wire.specs.Wire.{tail}
use Rattle.can_wire.specs.Heard.{HeardParts, ack_slot, heard_head, Spells, IsStuffedPart, IsShape, BeginsShape, IsSound}
use Rattle.can_wire.specs.Layout.{heard_of, check_of, head_of, IsPart}
use Rattle.can_code.specs.CodeFaults.{IsLongestSound, IsCodeFault}
use Rattle.can_code.specs.Front.{FrontParts, first_front, next_place}
use Rattle.can_code.proofs.FrontLemmas.{next_place-ended, next_place-first_front}
use Rattle.can_code.proofs.StuffedParts.{IsPart-from, IsPart-length, IsPart-start, front_of, IsStuffedPart-from, Spells-part}
use Rattle.can_code.proofs.FrontsOf.{IsFrontOf, IsFrontOf-first_front, IsFrontOf-no_part, IsFrontOf-no_part_repeated, IsFrontOf-nonempty}
use Rattle.can_code.proofs.SoundLemmas.{IsSound-front, IsLongestSound-next, IsLongestSound-whole, IsSound-open, IsShape-tail, IsPart-same, IsCrc-placed, IsSound-tail, IsSound-but_last, IsSound-wrong, IsShape-from}

-- the stuffed part at the front of levels that a spelled list begins
spelled_part : (h : HeardParts) (w rest l : List Level) → Spells h w → w ++ rest ≡ l
    → (check : List Level) × (s : List Level) × IsStuffedPart h check s × IsCrc (heard_head h) check × (s ++ (tail (ack_slot h.acked) h.last ++ rest) ≡ l)
spelled_part h w rest l spelled whole =
    let p = Spells-part h w spelled in
    (p.0, p.1, p.2, p.3, sym (append_assoc p.1 (tail (ack_slot h.acked) h.last) rest) ∙ ap (λ t. t ++ rest) (sym p.4) ∙ whole)

-- the first p levels, and one more
take_front : (b t : List Level) → take (length b) (b ++ t) ≡ b
take_front b t = take-append_seam b t

take_next : (b : List Level) (x : Level) (t : List Level) → take (length b + 1) (b ++ x ∷ t) ≡ b ++ x ∷ []
take_next b x t = take-append-add b (x ∷ t) 1

-- the levels end within the stuffed part
pub IsCodeFault-short : (b : List Level) (f : FrontParts) → IsFrontOf b f → (next_place f ≡ CrcDelimiter → ⊥) → IsCodeFault b (record { kind = Short; place = length b })
IsCodeFault-short b f r going = record {
  unspelled = λ h w rest spelled whole.
      let p = spelled_part h w rest b spelled whole in
      IsFrontOf-no_part b f r going (heard_head h ++ p.0) p.1 (tail (ack_slot h.acked) h.last ++ rest) (IsPart-from h p.0 p.1 p.2) p.4;
  place = IsLongestSound-whole b (IsSound-open b f r going);
  kind = refl;
}

-- there are no levels
pub IsCodeFault-none : IsCodeFault [] (record { kind = Short; place = 0 })
IsCodeFault-none = record {
  unspelled = λ h w rest spelled whole.
      let p = spelled_part h w rest [] spelled whole in
      let ten = tail (ack_slot h.acked) h.last in
      absurd (omega (arith, ap length p.4, length-append p.1 (ten ++ rest), length-append ten rest));
  place = IsLongestSound-whole [] (IsSound-front [] (Dominant ∷ []) (IsSound-open (Dominant ∷ []) first_front IsFrontOf-first_front next_place-first_front));
  kind = refl;
}

-- if one more level makes a list that begins no shape, the fault is at that level
module _ (b : List Level) (x : Level) (t : List Level) (sound : IsSound b) (broken : BeginsShape (b ++ x ∷ []) → ⊥) where
  next_broken : BeginsShape (take (length b + 1) (b ++ x ∷ t)) → ⊥
  next_broken begins = broken (subst BeginsShape (take_next b x t) begins)

  next_within : length b < length (b ++ x ∷ t)
  next_within = omega (arith, length-append b (x ∷ t))

  IsLongestSound-broken : IsLongestSound (b ++ x ∷ t) (length b)
  IsLongestSound-broken =
      IsLongestSound-next (b ++ x ∷ t) (length b) next_within (subst IsSound (sym (take_front b (x ∷ t))) sound) (λ longer. next_broken longer.begins)

-- the first level is recessive
pub IsCodeFault-no_start : (t : List Level) → IsCodeFault (Recessive ∷ t) (record { kind = NoStartOfFrame; place = 0 })
IsCodeFault-no_start t = record {
  unspelled = λ h w rest spelled whole.
      let p = spelled_part h w rest (Recessive ∷ t) spelled whole in
      IsPart-start (heard_head h ++ p.0) p.1 (tail (ack_slot h.acked) h.last ++ rest) t (IsPart-from h p.0 p.1 p.2) p.4;
  place = IsLongestSound-broken [] Recessive t (IsSound-front [] (Dominant ∷ []) (IsSound-open (Dominant ∷ []) first_front IsFrontOf-first_front next_place-first_front)) (λ begins.
      let shape = begins.1 in
      IsPart-start (heard_head shape.h ++ shape.check) shape.s (tail (ack_slot shape.h.acked) shape.h.last) begins.0 (IsPart-from shape.h shape.check shape.s shape.part) (sym shape.whole));
  kind = (omega arith, refl);
}

-- a stuff place repeats the level before it
module _ (b : List Level) (f : FrontParts) (x : Level) (t : List Level) (r : IsFrontOf b f) (five : f.run ≡ 5) (repeated : same x f.last ≡ true) where
  going : next_place f ≡ CrcDelimiter → ⊥
  going ended = (next_place-ended f ended).0 five

  stuff_broken : BeginsShape (b ++ x ∷ []) → ⊥
  stuff_broken begins =
      let shape = begins.1 in
      IsFrontOf-no_part_repeated b f r x five repeated (heard_head shape.h ++ shape.check) shape.s (tail (ack_slot shape.h.acked) shape.h.last) begins.0
      (IsPart-from shape.h shape.check shape.s shape.part) (sym shape.whole ∙ append_assoc b (x ∷ []) begins.0)

  pub IsCodeFault-stuff : IsCodeFault (b ++ x ∷ t) (record { kind = Stuff; place = length b })
  IsCodeFault-stuff =
      let sound = IsSound-open b f r going in
      record {
        unspelled = λ h w rest spelled whole.
            let p = spelled_part h w rest (b ++ x ∷ t) spelled whole in
            IsFrontOf-no_part_repeated b f r x five repeated (heard_head h ++ p.0) p.1 (tail (ack_slot h.acked) h.last ++ rest) t (IsPart-from h p.0 p.1 p.2) p.4;
        place = IsLongestSound-broken b x t sound stuff_broken;
        kind = (
          next_within b x t sound stuff_broken,
          IsFrontOf-nonempty b f r,
          next_broken b x t sound stuff_broken,
          λ has. IsFrontOf-no_part b f r going (heard_head has.0 ++ has.1) has.2 has.3 (IsPart-from has.0 has.1 has.2 has.4) (has.5 ∙ take_front b (x ∷ t)),
        );
      }

-- the levels begin with a complete stuffed part
module _ (u b : List Level) (part : IsPart u b) where
  -- its CRC sequence is wrong
  pub IsCodeFault-crc : (t : List Level) → (IsCrc (head_of u) (check_of u) → ⊥) → IsCodeFault (b ++ t) (record { kind = Crc; place = length b - 1 })
  IsCodeFault-crc t wrong =
      let l = b ++ t in
      let long = IsPart-length u b part in
      let within : length b - 1 < length l = omega (arith, length-append b t) in
      let back : length b - 1 + 1 ≡ length b = omega arith in
      let next : take (length b - 1 + 1) l ≡ b = ap (λ n. take n l) back ∙ take_front b t in
      let front : take (length b - 1) l ≡ take (length b - 1) b = take-append-le (length b - 1) b t (omega arith) in
      record {
        unspelled = λ h w rest spelled whole.
            let p = spelled_part h w rest l spelled whole in
            let one = IsPart-same u b part h p.0 p.1 (tail (ack_slot h.acked) h.last ++ rest) t p.2 p.4 in
            wrong (IsCrc-placed h p.0 u p.2.fifteen one.0 p.3);
        place = IsLongestSound-next l (length b - 1) within (subst IsSound (sym front) (IsSound-but_last u b part)) (λ longer.
            IsSound-wrong u b part [] wrong (subst IsSound (next ∙ sym (append-nil b)) longer));
        kind = (within, omega arith, (tail (ack_slot true) Recessive, subst (λ z. IsShape (z ++ tail (ack_slot true) Recessive)) (sym next) (IsShape-from u b part true Recessive)));
      }

  module _ (agrees : IsCrc (head_of u) (check_of u)) where
    -- the levels end within the tail
    pub IsCodeFault-short_tail : (acked : Bool) (last : Level) (t rest : List Level) → length t < 10 → t ++ rest ≡ tail (ack_slot acked) last → IsCodeFault (b ++ t) (record { kind = Short; place = length (b ++ t) })
    IsCodeFault-short_tail acked last t rest few ten = record {
      unspelled = λ h w more spelled whole.
          let p = spelled_part h w more (b ++ t) spelled whole in
          let one = IsPart-same u b part h p.0 p.1 (tail (ack_slot h.acked) h.last ++ more) t p.2 p.4 in
          let behind : t ≡ tail (ack_slot h.acked) h.last ++ more = append_cancel_left b t (tail (ack_slot h.acked) h.last ++ more) (sym p.4 ∙ ap (λ s. s ++ (tail (ack_slot h.acked) h.last ++ more)) (sym one.1)) in
          absurd (omega (arith, ap length behind, length-append (tail (ack_slot h.acked) h.last) more));
      place = IsLongestSound-whole (b ++ t) (IsSound-tail u b part acked last t rest agrees ten);
      kind = refl;
    }

    -- one level of the tail is wrong
    module _ (acked : Bool) (last : Level) (t rest : List Level) (x : Level) (y : List Level) (few : length t < 10) (ten : t ++ rest ≡ tail (ack_slot acked) last)
        (wrong : (h : HeardParts) (more : List Level) → t ++ x ∷ more ≡ tail (ack_slot h.acked) h.last → ⊥) where
      form_broken : BeginsShape ((b ++ t) ++ x ∷ []) → ⊥
      form_broken begins =
          let regroup : ((b ++ t) ++ x ∷ []) ++ begins.0 ≡ b ++ (t ++ x ∷ begins.0) = append_assoc (b ++ t) (x ∷ []) begins.0 ∙ append_assoc b t (x ∷ begins.0) in
          let behind = IsShape-tail u b (t ++ x ∷ begins.0) part (subst IsShape regroup begins.1) in
          wrong behind.0 begins.0 behind.1

      pub IsCodeFault-form : IsCodeFault ((b ++ t) ++ x ∷ y) (record { kind = Form; place = length (b ++ t) })
      IsCodeFault-form =
          let sound = IsSound-tail u b part acked last t rest agrees ten in
          record {
            unspelled = λ h w more spelled whole.
                let p = spelled_part h w more ((b ++ t) ++ x ∷ y) spelled whole in
                let ten_more = tail (ack_slot h.acked) h.last in
                let regrouped : p.1 ++ (ten_more ++ more) ≡ b ++ (t ++ x ∷ y) = p.4 ∙ append_assoc b t (x ∷ y) in
                let one = IsPart-same u b part h p.0 p.1 (ten_more ++ more) (t ++ x ∷ y) p.2 regrouped in
                let behind : t ++ x ∷ y ≡ ten_more ++ more = append_cancel_left b (t ++ x ∷ y) (ten_more ++ more) (sym regrouped ∙ ap (λ s. s ++ (ten_more ++ more)) (sym one.1)) in
                let begun : ten_more ≡ (t ++ x ∷ []) ++ drop (length (t ++ x ∷ [])) ten_more =
                front_of (t ++ x ∷ []) ten_more y more (append_assoc t (x ∷ []) y ∙ behind) (omega (arith, length-append t (x ∷ []))) in
                wrong h (drop (length (t ++ x ∷ [])) ten_more) (sym (append_assoc t (x ∷ []) (drop (length (t ++ x ∷ [])) ten_more)) ∙ sym begun);
            place = IsLongestSound-broken (b ++ t) x y sound form_broken;
            kind = (
              next_within (b ++ t) x y sound form_broken,
              omega (arith, IsPart-length u b part, length-append b t),
              next_broken (b ++ t) x y sound form_broken,
              (heard_of u acked last, check_of u, b, t, IsStuffedPart-from u b acked last part, sym (take_front (b ++ t) (x ∷ y))),
            );
          }
