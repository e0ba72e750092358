-- A stuffed part with a right CRC sequence, and the ten levels after it, encode a frame.
use Rattle.std.proofs.Common.{◌≡◌, ◌+◌, ℕ, ◌<◌, ◌≤◌, not, List, ◌∷◌, ◌++◌, length, take, drop, Bool, refl, sym, ◌∙◌, ap, subst, arith, append_assoc}
use Rattle.std.proofs.lemmas.List.{take-append-drop, drop_more}
use Rattle.can_frame.specs.declared.level.Level.{Level}
use Rattle.can_frame.specs.declared.level.Level.TheVariants.{Dominant, Recessive}
use Rattle.can_frame.specs.Levels.{is_recessive}
use Rattle.can_wire.specs.Crc.{IsCrc}
use Rattle.can_wire.specs.Stuffing.{Stuffs}
use Rattle.can_wire.specs.Wire.{tail}
use Rattle.can_wire.specs.Heard.{ack_slot, Spells}
use Rattle.can_wire.specs.Layout.{level_at, heard_of, check_of, head_of, IsPart}
use Rattle.can_code.proofs.LayoutWrite.{IsHeard-heard_of, heard_head-heard_of, head_of-heard_head}
use Rattle.can_code.proofs.TailLemmas.{ack_slot-told}

Spells-part : (u part : List Level) (acked : Bool) (last : Level) → IsPart u part → IsCrc (head_of u) (check_of u) → Spells (heard_of u acked last) (part ++ tail (ack_slot acked) last)
unfolding heard_of
Spells-part u part acked last is_part is_crc = record {
  heard = IsHeard-heard_of u acked last;
  spelling = record {
    check = check_of u;
    is_check = subst (λ b. IsCrc b (check_of u)) (head_of-heard_head u acked last is_part.complete) is_crc;
    stuffed = part;
    is_stuffed = subst (λ a. Stuffs a part) (heard_head-heard_of u acked last is_part.complete) is_part.stuffs;
    whole = refl;
  };
}

-- these levels have a stuffed part of k levels, whose frame ends without an error
module _ (u levels : List Level) (k : ℕ) (part : IsPart u (take k levels)) (is_crc : IsCrc (head_of u) (check_of u)) (room : k + 10 ≤ length levels)
    (delimiter : level_at levels k ≡ Recessive) (recessive : (i : ℕ) → i < 7 → level_at levels (k + 2 + i) ≡ Recessive) where
  abbrev ack : Level
  ack = level_at levels (k + 1)

  abbrev last : Level
  last = level_at levels (k + 9)

  abbrev acked : Bool
  acked = not (is_recessive ack)

  next : (i j : ℕ) (x : Level) → j ≡ i + 1 → i < length levels → level_at levels i ≡ x → drop i levels ≡ x ∷ drop j levels
  next i j x one inside here = drop_more levels i Dominant inside ∙ ap (λ y. y ∷ drop (i + 1) levels) here ∙ ap (λ q. x ∷ drop q levels) (sym one)

  -- a recessive one of the ACK delimiter and the end of frame
  next_of : (i j : ℕ) (q : ℕ) → q < 7 → i ≡ k + 2 + q → j ≡ i + 1 → drop i levels ≡ Recessive ∷ drop j levels
  next_of i j q few at one = next i j Recessive one (omega (arith, room)) (ap (level_at levels) at ∙ recessive q few)

  ten : drop k levels ≡ tail ack last ++ drop (k + 10) levels
  ten =
      next k (k + 1) Recessive (omega arith) (omega (arith, room)) delimiter
      ∙ ap (λ l. Recessive ∷ l) (next (k + 1) (k + 2) ack (omega arith) (omega (arith, room)) refl)
      ∙ ap (λ l. Recessive ∷ ack ∷ l) (next_of (k + 2) (k + 3) 0 (omega arith) (omega arith) (omega arith))
      ∙ ap (λ l. Recessive ∷ ack ∷ Recessive ∷ l) (next_of (k + 3) (k + 4) 1 (omega arith) (omega arith) (omega arith))
      ∙ ap (λ l. Recessive ∷ ack ∷ Recessive ∷ Recessive ∷ l) (next_of (k + 4) (k + 5) 2 (omega arith) (omega arith) (omega arith))
      ∙ ap (λ l. Recessive ∷ ack ∷ Recessive ∷ Recessive ∷ Recessive ∷ l) (next_of (k + 5) (k + 6) 3 (omega arith) (omega arith) (omega arith))
      ∙ ap (λ l. Recessive ∷ ack ∷ Recessive ∷ Recessive ∷ Recessive ∷ Recessive ∷ l) (next_of (k + 6) (k + 7) 4 (omega arith) (omega arith) (omega arith))
      ∙ ap (λ l. Recessive ∷ ack ∷ Recessive ∷ Recessive ∷ Recessive ∷ Recessive ∷ Recessive ∷ l) (next_of (k + 7) (k + 8) 5 (omega arith) (omega arith) (omega arith))
      ∙ ap (λ l. Recessive ∷ ack ∷ Recessive ∷ Recessive ∷ Recessive ∷ Recessive ∷ Recessive ∷ Recessive ∷ l) (next_of (k + 8) (k + 9) 6 (omega arith) (omega arith) (omega arith))
      ∙ ap (λ l. Recessive ∷ ack ∷ Recessive ∷ Recessive ∷ Recessive ∷ Recessive ∷ Recessive ∷ Recessive ∷ Recessive ∷ l) (next (k + 9) (k + 10) last (omega arith) (omega (arith, room)) refl)

  abbrev ending : List Level
  ending = tail (ack_slot acked) last

  -- the frame, and the levels after it
  pub part-spells : Spells (heard_of u (not (is_recessive (level_at levels (k + 1)))) (level_at levels (k + 9)))
      (take k levels ++ tail (ack_slot (not (is_recessive (level_at levels (k + 1))))) (level_at levels (k + 9)))
  part-spells = Spells-part u (take k levels) acked last part is_crc

  pub part-whole : (take k levels ++ tail (ack_slot (not (is_recessive (level_at levels (k + 1))))) (level_at levels (k + 9))) ++ drop (k + 10) levels ≡ levels
  part-whole =
      append_assoc (take k levels) ending (drop (k + 10) levels)
      ∙ ap (λ a. take k levels ++ (tail a last ++ drop (k + 10) levels)) (ack_slot-told ack)
      ∙ ap (λ l. take k levels ++ l) (sym ten)
      ∙ take-append-drop k levels
