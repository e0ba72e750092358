-- One inverted level after the stuffed part of a frame.
use Rattle.std.proofs.Common.{◌≡◌, ◌≢◌, ℕ, zero, suc, ◌+◌, ◌<◌, Bool, true, false, not, List, ◌∷◌, ◌++◌, length, take, drop, refl, sym, ◌∙◌, ap, subst, arith, append_assoc, length-append}
use Rattle.std.proofs.lemmas.List.{length-take-le, take-append-drop}
use Rattle.can_frame.specs.declared.level.Level.{Level}
use Rattle.can_frame.specs.declared.level.Level.TheVariants.{Dominant, Recessive}
use Rattle.can_frame.specs.Levels.{opposite}
use Rattle.can_wire.specs.Crc.{IsCrc}
use Rattle.can_wire.specs.Wire.{tail}
use Rattle.can_wire.specs.Heard.{HeardParts, heard_head, ack_slot, Spells}
use Rattle.can_wire.specs.Layout.{check_of, head_of, IsPart}
use Rattle.can_code.specs.declared.fault.CodeFaultKind.TheVariants.{Form}
use Rattle.can_code.specs.CodeFaults.{IsCodeFault}
use Rattle.can_code.proofs.StuffedParts.{IsPart-from}
use Rattle.can_code.proofs.SoundLemmas.{IsCrc-placed}
use Rattle.can_code.proofs.TailLemmas.{dominant_breaks}
use Rattle.can_code.proofs.CodeFaultLemmas.{IsCodeFault-form}
use Rattle.can_detection.specs.WrongBit.{inverted_at, crc_delimiter}
use Rattle.can_detection.proofs.Inverted.{inverted_at-after}

-- but for the ACK slot and the last level, an inverted level of a tail is dominant
dominant_at : (a l : Level) (k : ℕ) → k < 9 → k ≢ 1 → inverted_at k (tail a l) ≡ take k (tail a Recessive) ++ Dominant ∷ drop (k + 1) (tail a l)
dominant_at a l zero few other = refl
dominant_at a l (suc zero) few other = absurd (other refl)
dominant_at a l (suc (suc zero)) few other = refl
dominant_at a l (suc (suc (suc zero))) few other = refl
dominant_at a l (suc (suc (suc (suc zero)))) few other = refl
dominant_at a l (suc (suc (suc (suc (suc zero))))) few other = refl
dominant_at a l (suc (suc (suc (suc (suc (suc zero)))))) few other = refl
dominant_at a l (suc (suc (suc (suc (suc (suc (suc zero))))))) few other = refl
dominant_at a l (suc (suc (suc (suc (suc (suc (suc (suc zero)))))))) few other = refl
dominant_at a l (suc (suc (suc (suc (suc (suc (suc (suc (suc k))))))))) few other = absurd (omega arith)

opposite_slot : (acked : Bool) → opposite (ack_slot acked) ≡ ack_slot (not acked)
opposite_slot true = refl
opposite_slot false = refl

module _ (h : HeardParts) (w : List Level) (spelled : Spells h w) where
  abbrev s : List Level
  s = spelled.spelling.stuffed

  pub delimiter-is : crc_delimiter w ≡ length spelled.spelling.stuffed
  delimiter-is = omega (arith, ap length spelled.spelling.whole, length-append s (tail (ack_slot h.acked) h.last))

  inverted_tail : (k : ℕ) → inverted_at (crc_delimiter w + k) w ≡ spelled.spelling.stuffed ++ inverted_at k (tail (ack_slot h.acked) h.last)
  inverted_tail k =
      let ten = tail (ack_slot h.acked) h.last in
      ap (λ n. inverted_at (n + k) w) delimiter-is ∙ ap (inverted_at (length s + k)) spelled.spelling.whole ∙ inverted_at-after s ten k

  -- the unstuffed levels of the stuffed part, and that their CRC sequence is right
  abbrev u : List Level
  u = heard_head h ++ spelled.spelling.check

  pub IsPart-spelled : IsPart (heard_head h ++ spelled.spelling.check) spelled.spelling.stuffed
  IsPart-spelled = IsPart-from h spelled.spelling.check s (record { heard = spelled.heard; fifteen = spelled.spelling.is_check.length; stuffed = spelled.spelling.is_stuffed })

  agrees : IsCrc (head_of u) (check_of u)
  agrees = IsCrc-placed h spelled.spelling.check u spelled.spelling.is_check.length refl spelled.spelling.is_check

  pub IsCodeFault-inverted : (rest : List Level) (k : ℕ) → k < 9 → k ≢ 1 → IsCodeFault (inverted_at (crc_delimiter w + k) w ++ rest) (record { kind = Form; place = crc_delimiter w + k })
  IsCodeFault-inverted rest k few no_slot =
      let ten = tail (ack_slot h.acked) Recessive in
      let t = take k ten in
      let d = drop (k + 1) (tail (ack_slot h.acked) h.last) in
      let within : k < 10 = omega arith in
      let no_last : k ≢ 9 = omega arith in
      let size : length t ≡ k = length-take-le k ten (omega arith) in
      let levels : inverted_at (crc_delimiter w + k) w ++ rest ≡ (s ++ t) ++ Dominant ∷ (d ++ rest) =
      ap (λ l. l ++ rest) (inverted_tail k ∙ ap (λ l. s ++ l) (dominant_at (ack_slot h.acked) h.last k few no_slot))
      ∙ append_assoc s (t ++ Dominant ∷ d) rest ∙ ap (λ l. s ++ l) (append_assoc t (Dominant ∷ d) rest) ∙ sym (append_assoc s t (Dominant ∷ (d ++ rest))) in
      let place : crc_delimiter w + k ≡ length (s ++ t) = omega (arith, delimiter-is, length-append s t) in
      let fault =
      IsCodeFault-form u s IsPart-spelled agrees h.acked Recessive t (drop k ten) Dominant (d ++ rest) (omega arith) (take-append-drop k ten)
      (λ g more. dominant_breaks k h.acked Dominant within no_slot no_last refl g more) in
      subst (λ l. IsCodeFault l (record { kind = Form; place = crc_delimiter w + k })) (sym levels)
      (subst (λ n. IsCodeFault ((s ++ t) ++ Dominant ∷ (d ++ rest)) (record { kind = Form; place = n })) (sym place) fault)

  -- with the other ACK slot the levels encode the frame as received with it
  pub Spells-other_slot : Spells (record h { acked = not h.acked }) (inverted_at (crc_delimiter w + 1) w)
  unfolding heard_head
  Spells-other_slot = record {
    heard = record { frame = spelled.heard.frame; srr = spelled.heard.srr; r1 = spelled.heard.r1 };
    spelling = record {
      check = spelled.spelling.check;
      is_check = spelled.spelling.is_check;
      stuffed = s;
      is_stuffed = spelled.spelling.is_stuffed;
      whole = inverted_tail 1 ∙ ap (λ a. s ++ tail a h.last) (opposite_slot h.acked);
    };
  }

  -- and so with the other last level
  pub Spells-other_last : Spells (record h { last = opposite h.last }) (inverted_at (crc_delimiter w + 9) w)
  unfolding heard_head
  Spells-other_last = record {
    heard = record { frame = spelled.heard.frame; srr = spelled.heard.srr; r1 = spelled.heard.r1 };
    spelling = record {
      check = spelled.spelling.check;
      is_check = spelled.spelling.is_check;
      stuffed = s;
      is_stuffed = spelled.spelling.is_stuffed;
      whole = inverted_tail 9;
    };
  }
