-- A frame text has at most 32 bytes, a mark three, and a line at most 157 levels, so the first 193 bytes
-- of a line are enough for its verdict and faults.
use Rattle.std.proofs.Common.{◌≡◌, ◌≢◌, ℕ, zero, suc, ◌+◌, ◌-◌, ◌<◌, ◌≤◌, ◌⊎◌, inl, inr, Bool, true, false, List, [], ◌∷◌, ◌++◌, length, take, drop, map, refl, sym, ap, subst, ◌∙◌, append_assoc, arith, eqb}
use Rattle.std.proofs.lemmas.Bool.{cases_lt, false≢true}
use Rattle.std.proofs.lemmas.Bool.Decides.{Decides-eqb}
use Rattle.std.proofs.lemmas.Slice.Eq.{starts_is}
use Rattle.std.proofs.lemmas.List.{append-nil, length-append, length-map, length-take, length-drop, take_all, take-append-drop, take-append-le, take-take, drop-append-le}
use Rattle.std.proofs.Math.Seq.{take-append-add}
use Rattle.std.specs.List.{starts_with}
use Rattle.can_frame.specs.declared.text.TextFault.{TextFault}
use Rattle.can_frame.specs.Text.{frame_text, IsTextFault}
use Rattle.can_frame.specs.Levels.{digit_of}
use Rattle.can_texts.specs.Checked.{mark, IsBadLevelByte, IsBadVectorLine, IsFramePart, IsVectorVerdict}
use Rattle.can_texts.specs.declared.lines.vector.Verdict.{Verdict}
use Rattle.can_texts.proofs.TextLemmas.{length-frame_text, IsTextFault-front, IsTextFault-kept}
use Rattle.can_texts.proofs.MarkLemmas.{mark_behind}

abbrev kept_of : List ℕ → List ℕ
kept_of line = take 193 line

split_kept : (line : List ℕ) → line ≡ kept_of line ++ drop 193 line
split_kept line = sym (take-append-drop 193 line)

kept_whole : (line : List ℕ) → length (kept_of line) ≤ 192 → kept_of line ≡ line
kept_whole line short = take_all 193 line (omega (arith, length-take 193 line))

-- ---- a verdict

pub IsVectorVerdict-front : (line : List ℕ) (verdict : Verdict) → IsVectorVerdict (kept_of line) verdict → IsVectorVerdict line verdict
IsVectorVerdict-front line verdict v =
    let vector = v.vector in
    let marked = vector.marked in
    let short : length (kept_of line) ≤ 192 = omega (
      arith,
      ap length marked.line_is,
      length-append (frame_text v.frame) (mark ++ vector.digits),
      length-append mark vector.digits,
      length-frame_text v.frame marked.is_frame,
      ap length vector.are_levels.digits_are,
      length-map v.levels digit_of,
      vector.are_levels.within,
    ) in
    subst (λ l. IsVectorVerdict l verdict) (kept_whole line short) v

-- ---- a bad byte

IsBadLevelByte-more : (kept more : List ℕ) (place : ℕ) → IsBadLevelByte kept place → IsBadLevelByte (kept ++ more) place
IsBadLevelByte-more kept more place b =
    let text = frame_text b.frame in
    let digits = map digit_of b.is_bad.levels in
    record {
      frame = b.frame;
      digits = b.digits ++ more;
      marked = record {
        is_frame = b.marked.is_frame;
        line_is = ap (λ t. t ++ more) b.marked.line_is ∙ append_assoc text (mark ++ b.digits) more ∙ ap (λ t. text ++ t) (append_assoc mark b.digits more);
      };
      place_in_digits = b.place_in_digits;
      is_bad = record {
        levels = b.is_bad.levels;
        wrong = b.is_bad.wrong;
        others = b.is_bad.others ++ more;
        within = b.is_bad.within;
        digits_are = ap (λ t. t ++ more) b.is_bad.digits_are ∙ append_assoc digits (b.is_bad.wrong ∷ b.is_bad.others) more;
        is_wrong = b.is_bad.is_wrong;
        place_is = b.is_bad.place_is;
      };
      place_is = b.place_is;
    }

pub IsBadLevelByte-front : (line : List ℕ) (place : ℕ) → IsBadLevelByte (kept_of line) place → IsBadLevelByte line place
IsBadLevelByte-front line place b = subst (λ l. IsBadLevelByte l place) (sym (split_kept line)) (IsBadLevelByte-more (kept_of line) (drop 193 line) place b)

-- the bad byte is among the kept ones
pub IsBadLevelByte-kept : (line : List ℕ) (place : ℕ) → IsBadLevelByte line place → IsBadLevelByte (kept_of line) place
IsBadLevelByte-kept line place b =
    let text = frame_text b.frame in
    let digits = map digit_of b.is_bad.levels in
    let before = text ++ (mark ++ digits) in
    let short : length before ≤ 192 = omega (
      arith,
      length-append text (mark ++ digits),
      length-append mark digits,
      length-frame_text b.frame b.marked.is_frame,
      length-map b.is_bad.levels digit_of,
      b.is_bad.within,
    ) in
    let room = 192 - length before in
    let others = take room b.is_bad.others in
    let digits_are : b.digits ≡ digits ++ b.is_bad.wrong ∷ b.is_bad.others = b.is_bad.digits_are in
    let whole : line ≡ before ++ b.is_bad.wrong ∷ b.is_bad.others =
    b.marked.line_is ∙ ap (λ t. text ++ (mark ++ t)) digits_are ∙ ap (λ t. text ++ t) (sym (append_assoc mark digits (b.is_bad.wrong ∷ b.is_bad.others)))
    ∙ sym (append_assoc text (mark ++ digits) (b.is_bad.wrong ∷ b.is_bad.others)) in
    let count : 193 ≡ length before + suc room = omega arith in
    let kept : kept_of line ≡ before ++ b.is_bad.wrong ∷ others =
    ap kept_of whole ∙ ap (λ n. take n (before ++ b.is_bad.wrong ∷ b.is_bad.others)) count ∙ take-append-add before (b.is_bad.wrong ∷ b.is_bad.others) (suc room) in
    record {
      frame = b.frame;
      digits = digits ++ b.is_bad.wrong ∷ others;
      marked = record {
        is_frame = b.marked.is_frame;
        line_is = kept ∙ append_assoc text (mark ++ digits) (b.is_bad.wrong ∷ others) ∙ ap (λ t. text ++ t) (append_assoc mark digits (b.is_bad.wrong ∷ others));
      };
      place_in_digits = b.place_in_digits;
      is_bad = record {
        levels = b.is_bad.levels;
        wrong = b.is_bad.wrong;
        others = others;
        within = b.is_bad.within;
        digits_are = refl;
        is_wrong = b.is_bad.is_wrong;
        place_is = b.is_bad.place_is;
      };
      place_is = b.place_is;
    }

-- a bad byte's place is in its line
pub IsBadLevelByte-within : (line : List ℕ) (place : ℕ) → IsBadLevelByte line place → place < length line
IsBadLevelByte-within line place b =
    let digits = map digit_of b.is_bad.levels in
    omega (
      arith,
      b.place_is,
      b.is_bad.place_is,
      ap length b.marked.line_is,
      length-append (frame_text b.frame) (mark ++ b.digits),
      length-append mark b.digits,
      ap length b.is_bad.digits_are,
      length-append digits (b.is_bad.wrong ∷ b.is_bad.others),
      length-map b.is_bad.levels digit_of,
    )

-- ---- a bad frame text

is_marked : (line : List ℕ) (found : Bool) → found ≡ starts_with eqb line mark → (take 3 line ≡ mark) ⊎ (take 3 line ≢ mark)
is_marked line true is = inl (ap (take 3) ((starts_is Decides-eqb line mark true is).0 refl))
is_marked line false is = inr (λ there.
    let whole : line ≡ mark ++ drop 3 line = sym (take-append-drop 3 line) ∙ ap (λ t. t ++ drop 3 line) there in
    false≢true ((starts_is Decides-eqb line mark false is).1 (drop 3 line) whole))

-- each line has a frame part
with_first : (byte : ℕ) (line : List ℕ) → (front : List ℕ) × IsFramePart line front → (take 3 (byte ∷ line) ≡ mark) ⊎ (take 3 (byte ∷ line) ≢ mark) → (front : List ℕ) × IsFramePart (byte ∷ line) front
with_first byte line part (inl there) = ([], record { rest = byte ∷ line; line_is = refl; marked = inr there; first = λ place less. absurd (omega arith) })
with_first byte line part (inr other) = (byte ∷ part.0, record { rest = part.1.rest; line_is = ap (λ t. byte ∷ t) part.1.line_is; marked = part.1.marked; first = not_there })
  where
    not_there : (place : ℕ) → place < length (byte ∷ part.0) → take 3 (drop place (byte ∷ line)) ≢ mark
    not_there zero less = other
    not_there (suc place) less = part.1.first place (omega arith)

frame_part : (line : List ℕ) → (front : List ℕ) × IsFramePart line front
frame_part [] = ([], record { rest = []; line_is = refl; marked = inl refl; first = λ place less. absurd (omega arith) })
frame_part (byte ∷ line) = with_first byte line (frame_part line) (is_marked (byte ∷ line) (starts_with eqb (byte ∷ line) mark) refl)

-- the frame part of more bytes
part_more : (kept more front : List ℕ) (part : IsFramePart kept front) → take 3 part.rest ≡ mark → IsFramePart (kept ++ more) front
part_more kept more front part there =
    let three : 3 ≤ length part.rest = omega (arith, ap length there, length-take 3 part.rest) in
    record {
      rest = part.rest ++ more;
      line_is = ap (λ t. t ++ more) part.line_is ∙ append_assoc front part.rest more;
      marked = inr (take-append-le 3 part.rest more three ∙ there);
      first = λ place less is.
          let room : place + 3 ≤ length kept = omega (arith, ap length part.line_is, length-append front part.rest) in
          part.first place less
          (sym (ap (take 3) (drop-append-le place kept more (omega arith)) ∙ take-append-le 3 (drop place kept) more (omega (arith, length-drop place kept))) ∙ is);
    }

-- the mark after a short frame part is among the kept bytes
long_part : (line front b : List ℕ) → IsFramePart (kept_of line) front → front ≡ kept_of line → 193 ≤ length (kept_of line) → IsFramePart line b → 191 ≤ length b
long_part line front b part all long other = by_size (cases_lt (length b) 191)
  where
    by_size : (length b < 191) ⊎ (191 ≤ length b) → 191 ≤ length b
    by_size (inr enough) = enough
    by_size (inl short) =
        let kept = kept_of line in
        let more = drop 193 line in
        let there : take 3 (drop (length b) line) ≡ mark = mark_behind line b other (omega (arith, length-take 193 line)) in
        let same : take 3 (drop (length b) line) ≡ take 3 (drop (length b) kept) =
        ap (λ l. take 3 (drop (length b) l)) (split_kept line) ∙ ap (take 3) (drop-append-le (length b) kept more (omega arith))
        ∙ take-append-le 3 (drop (length b) kept) more (omega (arith, length-drop (length b) kept)) in
        absurd (part.first (length b) (omega (arith, ap length all)) (sym same ∙ there))

pub IsBadVectorLine-front : (line : List ℕ) (fault : TextFault) → IsBadVectorLine fault (kept_of line) → IsBadVectorLine fault line
IsBadVectorLine-front line fault bad = by_mark bad.is_front.marked
  where
    unmarked : bad.front ≡ kept_of line → (length (kept_of line) < 193) ⊎ (193 ≤ length (kept_of line)) → IsBadVectorLine fault line
    unmarked all (inl short) = subst (IsBadVectorLine fault) (kept_whole line (omega arith)) bad
    unmarked all (inr long) =
        let other = frame_part line in
        let b = other.0 in
        let enough = long_part line bad.front b bad.is_front all long other.1 in
        let fronts : take 33 bad.front ≡ take 33 b =
        ap (take 33) all ∙ take-take 33 193 line (omega arith) ∙ ap (take 33) other.1.line_is ∙ take-append-le 33 b other.1.rest (omega arith) in
        record {
          front = b;
          is_front = other.1;
          has_fault = IsTextFault-front b fault (subst (λ t. IsTextFault t fault) fronts (IsTextFault-kept bad.front fault bad.has_fault));
          is_bad = λ text. absurd (omega (arith, enough, ap length text.2, length-frame_text text.0 text.1));
        }

    by_mark : (bad.is_front.rest ≡ []) ⊎ (take 3 bad.is_front.rest ≡ mark) → IsBadVectorLine fault line
    by_mark (inl none) = unmarked (sym (bad.is_front.line_is ∙ ap (λ t. bad.front ++ t) none ∙ append-nil bad.front)) (cases_lt (length (kept_of line)) 193)
    by_mark (inr there) = record {
      front = bad.front;
      is_front = subst (λ l. IsFramePart l bad.front) (sym (split_kept line)) (part_more (kept_of line) (drop 193 line) bad.front bad.is_front there);
      has_fault = bad.has_fault;
      is_bad = λ text. absurd (omega (
        arith,
        ap length (bad.is_bad text),
        ap length bad.is_front.line_is,
        length-append bad.front bad.is_front.rest,
        ap length there,
        length-take 3 bad.is_front.rest,
      ));
    }
