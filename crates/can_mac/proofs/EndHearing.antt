-- The levels after the stuffed part, and the levels at the end of a frame.
use Rattle.std.proofs.Common.{◌≡◌, ℕ, ◌+◌, Bool, true, not, List, [], ◌∷◌, ◌++◌, refl, sym, ◌∙◌, ap, subst, append_assoc}
use Rattle.std.proofs.lemmas.List.{replicate-append-replicate}
use Rattle.can_frame.specs.declared.level.Level.{Level}
use Rattle.can_frame.specs.declared.level.Level.TheVariants.{Dominant, Recessive}
use Rattle.can_frame.specs.Levels.{is_recessive}
use Rattle.can_frame.specs.Parts.{Parts}
use Rattle.can_wire.specs.Crc.{IsCrc}
use Rattle.can_wire.specs.Stuffing.{Stuffs}
use Rattle.can_wire.specs.Wire.{wire, tail}
use Rattle.can_wire.specs.Heard.{ack_slot, Spells}
use Rattle.can_wire.specs.Layout.{frame_of, heard_of, check_of, head_of, IsPart}
use Rattle.can_code.proofs.LayoutWrite.{IsHeard-heard_of, heard_head-heard_of, head_of-heard_head}
use Rattle.can_mac.specs.declared.phase.Role.{Role}
use Rattle.can_mac.specs.declared.phase.Role.TheVariants.{Receiver, Sender}
use Rattle.can_mac.specs.declared.phase.Reading.{Reading}
use Rattle.can_mac.proofs.PartEnds.{agrees-Decides}
use Rattle.can_mac.proofs.Hearing.{EndsIn, EndsIn-more, HeardPart, HeardSlot, to_end, EndsSpelled}
use Rattle.can_code.proofs.TailLemmas.{ack_slot-told}

-- one level more after the stuffed part
pub HeardPart-more : (role : Role) (r : Reading) (behind levels : List Level) (x : Level) → HeardPart role r behind levels → HeardPart role r (behind ++ x ∷ []) (levels ++ x ∷ [])
HeardPart-more role r behind levels x h = record {
  u = h.u;
  part = h.part;
  ends = subst (λ l. EndsIn l (levels ++ x ∷ [])) (append_assoc h.part behind (x ∷ [])) (EndsIn-more (h.part ++ behind) levels x h.ends);
  is_part = h.is_part;
  read = h.read;
  own = h.own;
}

-- one level more of the end of frame
pub HeardSlot-more : (role : Role) (r : Reading) (place : ℕ) (levels : List Level) → HeardSlot role r (to_end place) levels → HeardSlot role r (to_end (place + 1)) (levels ++ Recessive ∷ [])
HeardSlot-more role r place levels h =
    let row = ap (λ l. Recessive ∷ h.ack ∷ Recessive ∷ l) (replicate-append-replicate place 1 Recessive) in
    record {
      ack = h.ack;
      fits = h.fits;
      heard = subst (λ b. HeardPart role r b (levels ++ Recessive ∷ [])) row (HeardPart-more role r (to_end place h.ack) levels Recessive h.heard);
    }

-- a stuffed part with a correct CRC sequence, and the levels after it, encode what was heard
Spells-part : (u part : List Level) (acked : Bool) (last : Level) → IsPart u part → IsCrc (head_of u) (check_of u) → Spells (heard_of u acked last) (part ++ tail (ack_slot acked) last)
unfolding heard_of
Spells-part u part acked last is_part is_crc = record {
  heard = IsHeard-heard_of u acked last;
  spelling = record {
    check = check_of u;
    is_check = subst (λ b. IsCrc b (check_of u)) (head_of-heard_head u acked last is_part.complete) is_crc;
    stuffed = part;
    is_stuffed = subst (λ a. Stuffs a part) (heard_head-heard_of u acked last is_part.complete) is_part.stuffs;
    whole = refl;
  };
}

-- the frame that is heard is the one that the unstuffed levels encode
frame_of-heard_of : (u : List Level) (acked : Bool) (last : Level) → (heard_of u acked last).frame ≡ frame_of u
unfolding heard_of
frame_of-heard_of u acked last = refl

-- the ACK slot shows whether a receiver has acknowledged
-- at the last but one level of the end of frame a receiver has heard a frame
pub EndsSpelled-received : (r : Reading) (levels : List Level) → r.agrees ≡ true → HeardSlot Receiver r (to_end 6) levels → EndsSpelled r.frame levels
EndsSpelled-received r levels agreed h =
    let u = h.heard.u in
    let part = h.heard.part in
    let acked = not (is_recessive h.ack) in
    let is_crc : IsCrc (head_of u) (check_of u) = (agrees-Decides u).0 (ap (λ s. s.agrees) (sym h.heard.read) ∙ agreed) in
    let spells = Spells-part u part acked Recessive h.heard.is_part is_crc in
    let whole : part ++ tail (ack_slot acked) Recessive ≡ (part ++ to_end 6 h.ack) ++ Recessive ∷ [] =
    ap (λ a. part ++ tail a Recessive) (ack_slot-told h.ack) ∙ sym (append_assoc part (to_end 6 h.ack) (Recessive ∷ [])) in
    record {
      h = heard_of u acked Recessive;
      spelled = part ++ to_end 6 h.ack;
      last = Recessive;
      spells = subst (Spells (heard_of u acked Recessive)) whole spells;
      holds = frame_of-heard_of u acked Recessive ∙ ap (λ s. s.frame) (sym h.heard.read);
      ends = h.heard.ends;
    }

-- at the last level of the end of frame a transmitter has seen its own wire
pub EndsIn-sent : (f : Parts) (r : Reading) (levels : List Level) → HeardSlot (Sender f) r (to_end 7) levels → EndsIn (wire f) levels
EndsIn-sent f r levels h =
    let whole : h.heard.part ++ to_end 7 h.ack ≡ wire f = ap (λ a. h.heard.part ++ to_end 7 a) h.fits ∙ ap (λ p. p ++ to_end 7 Dominant) h.heard.own.part_is in
    subst (λ l. EndsIn l levels) whole h.heard.ends
