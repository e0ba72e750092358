-- Which lists are sound, and which longest.
use Rattle.std.proofs.Common.{◌≡◌, ℕ, Bool, true, ◌+◌, ◌-◌, ◌<◌, List, [], ◌++◌, length, take, drop, refl, sym, ◌∙◌, ap, subst, arith, append_assoc, length-append}
use Rattle.std.proofs.lemmas.List.{append-nil, take-append-drop, take-take, take_all, append_cancel_left, length-take-le}
use Rattle.can_frame.specs.declared.level.Level.{Level}
use Rattle.can_frame.specs.declared.level.Level.TheVariants.{Recessive}
use Rattle.can_code.specs.declared.front.Place.TheVariants.{CrcDelimiter}
use Rattle.can_wire.specs.Crc.{IsCrc}
use Rattle.can_wire.specs.Wire.{tail}
use Rattle.can_wire.specs.Heard.{HeardParts, ack_slot, heard_head, IsStuffedPart, IsShape, IsSound}
use Rattle.can_wire.specs.Layout.{heard_of, check_of, head_of, IsPart}
use Rattle.can_code.specs.CodeFaults.{IsLongestSound}
use Rattle.can_code.specs.Front.{FrontParts, next_place}
use Rattle.can_code.proofs.StuffedParts.{IsPart-from, IsStuffedPart-from, IsPart-once, IsPart-length}
use Rattle.can_wire.proofs.LayoutRead.{check_of-append, head_of-append}
use Rattle.can_code.proofs.FrontsOf.{IsFrontOf, IsFrontOf-completes, IsFrontOf-no_part}

-- a front of a sound list is sound
pub IsSound-front : (a c : List Level) → IsSound (a ++ c) → IsSound a
IsSound-front a c sound = record {
  begins = (c ++ sound.begins.0, subst IsShape (append_assoc a c sound.begins.0) sound.begins.1);
  checked = λ h check s rest part whole. sound.checked h check s (rest ++ c) part (sym (append_assoc s rest c) ∙ ap (λ t. t ++ c) whole);
}

-- so a sound front is the longest if the next one isn't sound
pub IsLongestSound-next : (l : List Level) (p : ℕ) → p < length l → IsSound (take p l) → (IsSound (take (p + 1) l) → ⊥) → IsLongestSound l p
IsLongestSound-next l p within sound ends = record {
  within = omega arith;
  sound = sound;
  longest = λ n more fits longer.
      let front : take (p + 1) l ++ drop (p + 1) (take n l) ≡ take n l =
      ap (λ t. t ++ drop (p + 1) (take n l)) (sym (take-take (p + 1) n l (omega arith))) ∙ take-append-drop (p + 1) (take n l) in
      ends (IsSound-front (take (p + 1) l) (drop (p + 1) (take n l)) (subst IsSound (sym front) longer));
}

pub IsLongestSound-whole : (l : List Level) → IsSound l → IsLongestSound l (length l)
IsLongestSound-whole l sound = record {
  within = omega arith;
  sound = subst IsSound (sym (take_all (length l) l (omega arith))) sound;
  longest = λ n more fits longer. omega arith;
}

-- levels whose stuffed part has not ended are sound
pub IsSound-open : (b : List Level) (f : FrontParts) → IsFrontOf b f → (next_place f ≡ CrcDelimiter → ⊥) → IsSound b
IsSound-open b f r going =
    let more = IsFrontOf-completes b f r in
    let h = heard_of more.0 true Recessive in
    let ten = tail (ack_slot h.acked) h.last in
    record {
      begins = (
        more.1 ++ ten,
        record {
          h = h;
          check = check_of more.0;
          s = b ++ more.1;
          part = IsStuffedPart-from more.0 (b ++ more.1) true Recessive more.2;
          whole = sym (append_assoc b more.1 ten);
        },
      );
      checked = λ h check s rest part whole. absurd (IsFrontOf-no_part b f r going (heard_head h ++ check) s rest (IsPart-from h check s part) whole);
    }

-- what follows a complete stuffed part of a shape is a tail
pub IsShape-tail : (u b t : List Level) → IsPart u b → IsShape (b ++ t) → (h : HeardParts) × (t ≡ tail (ack_slot h.acked) h.last)
IsShape-tail u b t part shape =
    let ten = tail (ack_slot shape.h.acked) shape.h.last in
    let one = IsPart-once u (heard_head shape.h ++ shape.check) b shape.s t ten part (IsPart-from shape.h shape.check shape.s shape.part) shape.whole in
    (shape.h, append_cancel_left b t ten (shape.whole ∙ ap (λ s. s ++ ten) (sym one.1)))

-- a CRC sequence in its place
module _ (h : HeardParts) (check u : List Level) (fifteen : length check ≡ 15) (whole : u ≡ heard_head h ++ check) where
  head_is : head_of u ≡ heard_head h
  head_is = ap head_of whole ∙ head_of-append (heard_head h) check fifteen

  check_is : check_of u ≡ check
  check_is = ap check_of whole ∙ check_of-append (heard_head h) check fifteen

  pub IsCrc-placed : IsCrc (heard_head h) check → IsCrc (head_of u) (check_of u)
  IsCrc-placed is = subst (λ b. IsCrc b (check_of u)) (sym head_is) (subst (IsCrc (heard_head h)) (sym check_is) is)

  pub IsCrc-taken : IsCrc (head_of u) (check_of u) → IsCrc (heard_head h) check
  IsCrc-taken is = subst (λ b. IsCrc b check) head_is (subst (IsCrc (head_of u)) check_is is)

module _ (u b : List Level) (part : IsPart u b) where
  -- with any tail it is a shape
  pub IsShape-from : (acked : Bool) (last : Level) → IsShape (b ++ tail (ack_slot acked) last)
  unfolding heard_of
  IsShape-from acked last = record {
    h = heard_of u acked last;
    check = check_of u;
    s = b;
    part = IsStuffedPart-from u b acked last part;
    whole = refl;
  }

  -- another complete stuffed part at the front of a list that begins with it is the same
  pub IsPart-same : (h : HeardParts) (check s rest t : List Level) → IsStuffedPart h check s → s ++ rest ≡ b ++ t → (u ≡ heard_head h ++ check) × (b ≡ s)
  IsPart-same h check s rest t other same = IsPart-once u (heard_head h ++ check) b s t rest part (IsPart-from h check s other) (sym same)

  -- a prefix of the tail after a part whose CRC sequence is right
  pub IsSound-tail : (acked : Bool) (last : Level) (t rest : List Level) → IsCrc (head_of u) (check_of u) → t ++ rest ≡ tail (ack_slot acked) last → IsSound (b ++ t)
  IsSound-tail acked last t rest agrees ten = record {
    begins = (rest, subst IsShape (ap (λ z. b ++ z) (sym ten) ∙ sym (append_assoc b t rest)) (IsShape-from acked last));
    checked = λ h check s more other same. IsCrc-taken h check u other.fifteen (IsPart-same h check s more t other same).0 agrees;
  }

  -- all of a part but its last level
  pub IsSound-but_last : IsSound (take (length b - 1) b)
  IsSound-but_last =
      let short = take (length b - 1) b in
      let last = drop (length b - 1) b in
      let whole : short ++ last ≡ b = take-append-drop (length b - 1) b in
      let size : length short ≡ length b - 1 = length-take-le (length b - 1) b (omega arith) in
      let ten = tail (ack_slot true) Recessive in
      record {
        begins = (last ++ ten, subst IsShape (ap (λ z. z ++ ten) (sym whole) ∙ append_assoc short last ten) (IsShape-from true Recessive));
        checked = λ h check s rest other same.
            let longer : s ++ (rest ++ last) ≡ b ++ [] = sym (append_assoc s rest last) ∙ ap (λ z. z ++ last) same ∙ whole ∙ sym (append-nil b) in
            let one = IsPart-same h check s (rest ++ last) [] other longer in
            absurd (omega (arith, IsPart-length u b part, size, ap length same, length-append s rest, ap length one.1));
      }

  -- a part whose CRC sequence is wrong is not sound
  pub IsSound-wrong : (t : List Level) → (IsCrc (head_of u) (check_of u) → ⊥) → IsSound (b ++ t) → ⊥
  IsSound-wrong t wrong sound =
      let h = heard_of u true Recessive in
      let mine = IsStuffedPart-from u b true Recessive part in
      wrong (IsCrc-placed h (check_of u) u mine.fifteen (IsPart-same h (check_of u) b t t mine refl).0 (sound.checked h (check_of u) b t mine refl))
