-- A frame's text has at most 32 bytes, so the first 33 bytes of a line determine whether it is one, and
-- otherwise its fault.
use Rattle.std.proofs.Common.{◌≡◌, ℕ, ◌≤◌, ◌↔◌, List, length, take, sym, ap, subst, ◌∙◌, arith}
use Rattle.std.proofs.lemmas.List.{length-append, length-take, take_all, take-take}
use Rattle.can_frame.specs.Parts.{Parts, IsFrame}
use Rattle.can_frame.specs.Text.{frame_text, IsTextFault, IsLongestBeginning, BeginsText, BeginsSomeText, IsFrameText, part_at}
use Rattle.can_frame.specs.declared.text.TextFaultKind.TheVariants.{Trailing}
use Rattle.can_frame.specs.declared.text.TextFault.{TextFault}
pub use Rattle.can_frame.proofs.TextLengths.{length-frame_text}

front_short : (n : ℕ) (line : List ℕ) → BeginsSomeText (take n line) → n ≤ length line → n ≤ 32
front_short n line begins within =
    let b = begins.1 in
    omega (arith, length-frame_text begins.0 b.frame, ap length b.text, length-append (take n line) b.rest, length-take n line)

pub line_from_front : (f : Parts) (line : List ℕ) → IsFrame f → frame_text f ≡ take 33 line → frame_text f ≡ line
line_from_front f line whole text =
    let short = length-frame_text f whole in
    let within : length line ≤ 33 = omega (arith, ap length text, length-take 33 line) in
    text ∙ take_all 33 line within

longest_from_front : (line : List ℕ) (n : ℕ) → IsLongestBeginning (take 33 line) n → n ≤ 32 → IsLongestBeginning line n
longest_from_front line n h short =
    let len = length-take 33 line in
    let same : (m : ℕ) → m ≤ 32 → take m (take 33 line) ≡ take m line = λ m within. take-take m 33 line (omega arith) in
    record {
      within = omega (arith, h.within);
      begins = subst BeginsSomeText (same n short) h.begins;
      longest = λ m longer within begins.
          let m_short = front_short m line begins within in
          h.longest m longer (omega (arith, len)) (subst BeginsSomeText (sym (same m m_short)) begins);
    }

pub IsTextFault-front : (line : List ℕ) (fault : TextFault) → IsTextFault (take 33 line) fault → IsTextFault line fault
IsTextFault-front line fault h =
    let short = front_short fault.place (take 33 line) h.place.begins h.place.within in
    let same : take fault.place (take 33 line) ≡ take fault.place line = take-take fault.place 33 line (omega arith) in
    record {
      place = longest_from_front line fault.place h.place short;
      trailing = subst (λ (t : List ℕ). (fault.kind ≡ Trailing) ↔ IsFrameText t) same h.trailing;
      part = subst (λ (t : List ℕ). (f : Parts) → BeginsText t f → (IsFrameText t → ⊥) → fault.kind ≡ part_at f fault.place) same h.part;
    }

-- a frame's text is its own front
pub IsFrameText-front : (line : List ℕ) → IsFrameText line → IsFrameText (take 33 line)
IsFrameText-front line text =
    let short = length-frame_text text.0 text.1 in
    let within : length line ≤ 33 = omega (arith, ap length text.2) in
    (text.0, text.1, text.2 ∙ sym (take_all 33 line within))

-- the fault of a line is that of its front
pub IsTextFault-kept : (line : List ℕ) (fault : TextFault) → IsTextFault line fault → IsTextFault (take 33 line) fault
IsTextFault-kept line fault h =
    let n = fault.place in
    let short = front_short n line h.place.begins h.place.within in
    let len = length-take 33 line in
    let same : take n line ≡ take n (take 33 line) = sym (take-take n 33 line (omega arith)) in
    record {
      place = record {
        within = omega (arith, len, h.place.within);
        begins = subst BeginsSomeText same h.place.begins;
        longest = λ m longer within begins. h.place.longest m longer (omega (arith, len)) (subst BeginsSomeText (take-take m 33 line (omega (arith, len))) begins);
      };
      trailing = subst (λ (t : List ℕ). (fault.kind ≡ Trailing) ↔ IsFrameText t) same h.trailing;
      part = subst (λ (t : List ℕ). (f : Parts) → BeginsText t f → (IsFrameText t → ⊥) → fault.kind ≡ part_at f fault.place) same h.part;
    }
