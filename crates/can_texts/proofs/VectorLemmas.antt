-- A line that is read as a frame text, a mark and levels.
use Rattle.std.proofs.Common.{◌≡◌, ◌≢◌, ℕ, Option, None, Some, ◌+◌, ◌-◌, ◌<◌, ◌≤◌, inr, Bool, true, false, List, ◌++◌, length, get_or, take, drop, map, refl, sym, ap, subst, ◌∙◌, append_assoc, arith, eqb}
use Rattle.std.proofs.lemmas.Bool.{eq-eqb, false≢true}
use Rattle.std.proofs.lemmas.Bool.Decides.{Decides-eqb}
use Rattle.std.proofs.lemmas.List.{get_or-drop, get_or-take, length-append, length-map, length-take, take-append-drop, take_rest}
use Rattle.std.proofs.lemmas.Slice.Eq.{starts_is}
use Rattle.std.specs.List.{starts_with}
use Rattle.std.specs.Option.{unwrap_or}
use Rattle.memchr.specs.Find.{is_byte, IsFirstByte}
use Rattle.can_frame.specs.declared.level.Level.{Level}
use Rattle.can_frame.specs.Parts.{Parts, IsFrame}
use Rattle.can_frame.specs.Text.{frame_text}
use Rattle.can_frame.specs.declared.text.TextFault.{TextFault}
use Rattle.can_wire.specs.Wire.{driven}
use Rattle.can_frame.specs.Levels.{digit_of}
use Rattle.can_texts.specs.Checked.{mark, ComparesDigits, IsBadLevelByte, IsBadVectorLine, IsFirstBadDigit, IsFramePart, IsLevels, IsMarkedLine, IsVectorVerdict}
use Rattle.can_texts.specs.declared.lines.vector.Verdict.{Verdict}
use Rattle.can_texts.specs.declared.lines.vector.Verdict.TheVariants.{Agrees}
use Rattle.can_texts.proofs.DigitLemmas.{IsFirstBadDigit-only, IsLevels-good}
use Rattle.can_texts.proofs.MarkLemmas.{IsFramePart-marked, IsFramePart-only, marked-others, marked-text}

-- ---- the search for the mark

module _ (line : List ℕ) (place : ℕ) (found : Bool) (is : found ≡ starts_with eqb (take (length line - place) (drop place line)) mark) where
  tells : (found ≡ true → drop place line ≡ mark ++ drop 3 (drop place line)) × ((rest : List ℕ) → drop place line ≡ mark ++ rest → found ≡ true)
  tells = starts_is Decides-eqb (drop place line) mark found (rw (sym (take_rest line place)) is)

  pub mark_found : found ≡ true → take 3 (drop place line) ≡ mark
  mark_found there = ap (take 3) (tells.0 there)

  pub mark_missing : found ≡ false → take 3 (drop place line) ≢ mark
  mark_missing no_mark there =
      let whole : drop place line ≡ mark ++ drop 3 (drop place line) = sym (take-append-drop 3 (drop place line)) ∙ ap (λ t. t ++ drop 3 (drop place line)) there in
      false≢true (sym no_mark ∙ tells.1 (drop 3 (drop place line)) whole)

-- no mark has its `=` before the line's first
pub unmarked_before : (line : List ℕ) (equals : Option ℕ) (place : ℕ) → IsFirstByte (is_byte 61) line equals → place + 1 < unwrap_or equals (length line) → take 3 (drop place line) ≢ mark
unmarked_before line equals place first less there = earlier equals first less
  where
    equals_at : get_or line (place + 1) 0 ≡ 61
    equals_at = sym (get_or-drop place line 1 0) ∙ sym (get_or-take 3 (drop place line) 1 0 (omega arith)) ∙ ap (λ l. get_or l 1 0) there

    earlier : (found : Option ℕ) → IsFirstByte (is_byte 61) line found → place + 1 < unwrap_or found (length line) → ⊥
    earlier None none less = none (place + 1) (omega arith) less (eq-eqb _ _ equals_at)
    earlier (Some at) found less =
        let before = found.0 in
        before.before (place + 1) (omega arith) less (eq-eqb _ _ equals_at)

pub IsFramePart-found : (line : List ℕ) (n : ℕ) → ((place : ℕ) → place < n → take 3 (drop place line) ≢ mark) → take 3 (drop n line) ≡ mark → IsFramePart line (take n line)
IsFramePart-found line n first there = record {
  rest = drop n line;
  line_is = sym (take-append-drop n line);
  marked = inr there;
  first = λ place less. first place (omega (arith, length-take n line));
}

-- ---- the levels

-- the digits of the driven levels
pub ComparesDigits-agrees : (digits : List ℕ) (f : Parts) → digits ≡ map digit_of (driven f) → length digits ≤ 157 → ComparesDigits digits f Agrees
ComparesDigits-agrees digits f same within = record {
  levels = driven f;
  are_levels = record { within = omega (arith, ap length same, length-map (driven f) digit_of); digits_are = same };
  compares = refl;
}

-- ---- the line

module _ (line : List ℕ) (f : Parts) (start : ℕ) (is : IsFrame f) (text : take start line ≡ frame_text f ++ mark) where
  pub IsMarkedLine-at : IsMarkedLine line f (drop start line)
  IsMarkedLine-at = record {
    is_frame = is;
    line_is = sym (take-append-drop start line) ∙ ap (λ t. t ++ drop start line) text ∙ append_assoc (frame_text f) mark (drop start line);
  }

  -- the levels were compared
  pub IsVectorVerdict-read : (verdict : Verdict) → ComparesDigits (drop start line) f verdict → IsVectorVerdict line verdict
  IsVectorVerdict-read verdict compares = record {
    frame = f;
    levels = compares.levels;
    vector = record { digits = drop start line; marked = IsMarkedLine-at; are_levels = compares.are_levels };
    compares = compares.compares;
  }

  digits_bad : (place : ℕ) (bad : IsBadLevelByte line place) → IsFirstBadDigit (drop start line) bad.place_in_digits
  digits_bad place bad = subst (λ ds. IsFirstBadDigit ds bad.place_in_digits) (sym (marked-others line f bad.frame (drop start line) bad.digits IsMarkedLine-at bad.marked)) bad.is_bad

  pub IsBadLevelByte-good : (levels : List Level) (place : ℕ) → IsLevels (drop start line) levels → ¬ IsBadLevelByte line place
  IsBadLevelByte-good levels place are = λ bad. IsLevels-good (drop start line) levels bad.place_in_digits are (digits_bad place bad)

  module _ (within : start ≤ length line) where
    start_is : start ≡ length (frame_text f) + 3
    start_is = omega (arith, ap length text, length-take start line, length-append (frame_text f) mark)

    pub IsBadLevelByte-read : (place : ℕ) → IsFirstBadDigit (drop start line) place → IsBadLevelByte line (start + place)
    IsBadLevelByte-read place bad = record {
      frame = f;
      digits = drop start line;
      marked = IsMarkedLine-at;
      place_in_digits = place;
      is_bad = bad;
      place_is = omega (arith, start_is);
    }

    pub IsBadLevelByte-only : (place other : ℕ) → IsFirstBadDigit (drop start line) place → IsBadLevelByte line other → start + place ≡ other
    IsBadLevelByte-only place other bad at =
        let same = IsFirstBadDigit-only (drop start line) place at.place_in_digits bad (digits_bad other at) in
        let one = ap length (marked-text line f at.frame (drop start line) at.digits IsMarkedLine-at at.marked) in
        omega (arith, same, one, at.place_is, start_is)

-- a line whose frame text is bad has no bad byte among its levels
pub IsBadVectorLine-unbroken : (line : List ℕ) (fault : TextFault) (place : ℕ) → IsBadVectorLine fault line → ¬ IsBadLevelByte line place
IsBadVectorLine-unbroken line fault place bad = λ at.
    let text = frame_text at.frame in
    let same : bad.front ≡ text = IsFramePart-only line bad.front text bad.is_front (IsFramePart-marked line at.frame at.digits at.marked) in
    let all : bad.front ≡ line = bad.is_bad (at.frame, at.marked.is_frame, sym same) in
    omega (arith, ap length same, ap length all, ap length at.marked.line_is, length-append text (mark ++ at.digits), length-append mark at.digits)
