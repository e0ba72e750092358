-- How a text falls into lines.
use Rattle.std.proofs.Common.{◌≡◌, ℕ, zero, suc, ◌+◌, ◌≤◌, ◌<◌, ◌==◌, Bool, true, false, cond, List, [], ◌∷◌, ◌++◌, length, get_or, take, drop, position, Option, Some, None, refl, sym, ap, subst, ◌∙◌, append_assoc, arith, eqb-true}
use Rattle.std.proofs.lemmas.Bool.{false_from_ne_true}
use Rattle.std.proofs.lemmas.List.{append-nil, length-append, take-append-drop, drop_more, take_all, drop_all}
use Rattle.std.proofs.lemmas.List.Quantifiers.{position-Some}
use Rattle.std.proofs.lemmas.List.Sums.{fails_before_first, position_or_len_is}
use Rattle.std.proofs.lemmas.Grind.{common_steps}
use Rattle.std.specs.List.{flat_map, AllByRecursion, position_or_len}
use Rattle.memchr.specs.Find.{IsFirstByte}
use Rattle.can_stream.specs.Lines.{with_end, lines_of, ended_lines, onto_first, onto_ended, whole_lines, IsLine, SplitsLine}

abbrev pub is_end : ℕ → Bool
is_end byte = byte == 10

-- the bytes after the last line end, as the lines that they are
abbrev pub open_lines : List ℕ → List (List ℕ)
open_lines [] = []
open_lines (byte ∷ line) = (byte ∷ line) ∷ []

-- ---- the first byte that passes a test

pub position-first : (test : ℕ → Bool) (xs : List ℕ) (found : Option ℕ) → IsFirstByte test xs found → found ≡ position test xs
position-first test xs None none =
    let all : position_or_len test xs ≡ length xs =
    position_or_len_is test xs (length xs) 0 (omega arith) (λ k less. false_from_ne_true (test (get_or xs k 0)) (none k (omega arith) less)) (λ less. absurd (omega arith))
    in
    grind (arith, common_steps)
position-first test xs (Some i) first =
    let before = first.0 in
    let at : position_or_len test xs ≡ i =
    position_or_len_is test xs i 0 (omega arith) (λ k less. false_from_ne_true (test (get_or xs k 0)) (before.before k (omega arith) less)) (λ less. first.1)
    in
    grind (arith, common_steps)

-- ---- one line

pub ended_lines-line : (line text : List ℕ) → IsLine line → ended_lines (line ++ 10 ∷ text) ≡ line ∷ ended_lines text
ended_lines-line [] text h = refl
ended_lines-line (byte ∷ line) text h = rw (h.0, ended_lines-line line text h.1) refl

pub lines_of-line : (line text : List ℕ) → IsLine line → lines_of (line ++ 10 ∷ text) ≡ line ∷ lines_of text
lines_of-line [] text h = refl
lines_of-line (byte ∷ line) text h = rw (h.0, lines_of-line line text h.1) refl

pub ended_lines-open : (line : List ℕ) → IsLine line → ended_lines line ≡ []
ended_lines-open [] h = refl
ended_lines-open (byte ∷ line) h = rw (h.0, ended_lines-open line h.1) refl

pub lines_of-open : (line : List ℕ) → IsLine line → lines_of line ≡ open_lines line
lines_of-open [] h = refl
lines_of-open (byte ∷ line) h = rw (h.0, lines_of-open line h.1) (onto_open byte line)
  where
    onto_open : (b : ℕ) (l : List ℕ) → onto_first b (open_lines l) ≡ (b ∷ l) ∷ []
    onto_open b [] = refl
    onto_open b (c ∷ l) = refl

-- ---- the end of the first line

-- a front of the bytes in which no byte is a line end
line_below : (xs : List ℕ) (n : ℕ) → ((k : ℕ) → k < n → is_end (get_or xs k 0) ≡ false) → IsLine (take n xs)
line_below xs zero h = tt
line_below [] (suc n) h = tt
line_below (x ∷ xs) (suc n) h = (h 0 (omega arith), line_below xs n (λ k lt. h (suc k) (omega arith)))

pub IsLine-position : (xs : List ℕ) (i : ℕ) → position is_end xs ≡ Some i → IsLine (take i xs)
IsLine-position xs i at = line_below xs i (position-Some is_end xs i 0 at).2

pub split-position : (xs : List ℕ) (i : ℕ) → position is_end xs ≡ Some i → xs ≡ take i xs ++ 10 ∷ drop (i + 1) xs
split-position xs i at =
    let found = position-Some is_end xs i 0 at in
    sym (take-append-drop i xs) ∙ ap (λ t. take i xs ++ t) (drop_more xs i 0 found.0)
    ∙ ap (λ byte. take i xs ++ byte ∷ drop (i + 1) xs) (eqb-true _ _ found.1)

pub IsLine-no_position : (xs : List ℕ) → position is_end xs ≡ None → IsLine xs
IsLine-no_position xs none =
    let past : length xs ≤ position_or_len is_end xs = grind (arith, common_steps) in
    subst IsLine (take_all (length xs) xs (omega arith)) (line_below xs (length xs) (λ k lt. fails_before_first is_end xs k 0 (omega arith)))

pub SplitsLine-position : (unread rest : List ℕ) (n : ℕ) → position is_end unread ≡ Some n → rest ≡ drop (n + 1) unread → SplitsLine true unread [] (take n unread) rest
SplitsLine-position unread rest n at is = record {
  is_line = IsLine-position unread n at;
  split = append-nil unread ∙ split-position unread n at ∙ ap (λ t. take n unread ++ 10 ∷ t) (sym is);
  closed = λ e. cc;
}

pub SplitsLine-no_position : (unread rest : List ℕ) → position is_end unread ≡ None → rest ≡ drop (length unread) unread → SplitsLine false unread [] unread rest
SplitsLine-no_position unread rest none is = record {
  is_line = IsLine-no_position unread none;
  split = refl;
  closed = λ e. is ∙ drop_all (length unread) unread (omega arith);
}

-- ---- many lines

-- a text that begins with ended lines
regrouped : (line : List ℕ) (lines : List (List ℕ)) (text : List ℕ) → flat_map with_end (line ∷ lines) ++ text ≡ line ++ 10 ∷ (flat_map with_end lines ++ text)
regrouped line lines text = append_assoc (with_end line) (flat_map with_end lines) text ∙ append_assoc line (10 ∷ []) (flat_map with_end lines ++ text)

pub ended_lines-all : (lines : List (List ℕ)) (text : List ℕ) → AllByRecursion IsLine lines → ended_lines (flat_map with_end lines ++ text) ≡ lines ++ ended_lines text
ended_lines-all [] text h = refl
ended_lines-all (line ∷ lines) text h =
    ap ended_lines (regrouped line lines text) ∙ ended_lines-line line (flat_map with_end lines ++ text) h.0
    ∙ ap (λ ls. line ∷ ls) (ended_lines-all lines text h.1)

pub lines_of-all : (lines : List (List ℕ)) (text : List ℕ) → AllByRecursion IsLine lines → lines_of (flat_map with_end lines ++ text) ≡ lines ++ lines_of text
lines_of-all [] text h = refl
lines_of-all (line ∷ lines) text h =
    ap lines_of (regrouped line lines text) ∙ lines_of-line line (flat_map with_end lines ++ text) h.0
    ∙ ap (λ ls. line ∷ ls) (lines_of-all lines text h.1)

pub whole_lines-all : (ended : Bool) (lines : List (List ℕ)) (text : List ℕ) → AllByRecursion IsLine lines → whole_lines ended (flat_map with_end lines ++ text) ≡ lines ++ whole_lines ended text
whole_lines-all true lines text h = lines_of-all lines text h
whole_lines-all false lines text h = ended_lines-all lines text h

pub whole_lines-line : (ended : Bool) (line text : List ℕ) → IsLine line → whole_lines ended (line ++ 10 ∷ text) ≡ line ∷ whole_lines ended text
whole_lines-line true line text h = lines_of-line line text h
whole_lines-line false line text h = ended_lines-line line text h

-- each ended line takes a byte at least
pub length-with_ends : (lines : List (List ℕ)) → length lines ≤ length (flat_map with_end lines)
length-with_ends [] = omega arith
length-with_ends (line ∷ lines) =
    let rest = length-with_ends lines in
    omega (arith, rest, length-append (with_end line) (flat_map with_end lines), length-append line (10 ∷ []))

-- ---- ended lines are among the lines

onto_front : (byte : ℕ) (lines others : List (List ℕ)) → (more : List (List ℕ)) × (onto_first byte (lines ++ others) ≡ onto_ended byte lines ++ more)
onto_front byte [] others = (onto_first byte others, refl)
onto_front byte (line ∷ lines) others = (others, refl)

pub lines_of-ended : (text : List ℕ) → (others : List (List ℕ)) × (lines_of text ≡ ended_lines text ++ others)
lines_of-ended [] = ([], refl)
lines_of-ended (byte ∷ text) = onto (lines_of-ended text) (byte == 10)
  where
    onto : (others : List (List ℕ)) × (lines_of text ≡ ended_lines text ++ others) → (b : Bool)
        → (others : List (List ℕ)) × (cond b ([] ∷ lines_of text) (onto_first byte (lines_of text)) ≡ cond b ([] ∷ ended_lines text) (onto_ended byte (ended_lines text)) ++ others)
    onto rest true = (rest.0, ap (λ ls. [] ∷ ls) rest.1)
    onto rest false = let front = onto_front byte (ended_lines text) rest.0 in (front.0, ap (onto_first byte) rest.1 ∙ front.1)

pub whole_lines-from_ended : (ended : Bool) (text : List ℕ) → (others : List (List ℕ)) × (whole_lines ended text ≡ ended_lines text ++ others)
whole_lines-from_ended true text = lines_of-ended text
whole_lines-from_ended false text = ([], sym (append-nil (ended_lines text)))

-- the lines before another line are ended
ended_before : (text : List ℕ) (before : List (List ℕ)) (line : List ℕ) (after : List (List ℕ)) → lines_of text ≡ before ++ line ∷ after
    → (others : List (List ℕ)) × (ended_lines text ≡ before ++ others)
ended_before text [] line after e = (ended_lines text, refl)
ended_before [] (l ∷ before) line after e = let never : ⊥ = cc in absurd never
ended_before (byte ∷ text) (l ∷ before) line after e = onto (λ b. ended_before text b line after) (byte == 10) (lines_of text) refl e
  where
    onto : ((b : List (List ℕ)) → lines_of text ≡ b ++ line ∷ after → (others : List (List ℕ)) × (ended_lines text ≡ b ++ others)) → (is_end : Bool) (lines : List (List ℕ)) → lines_of text ≡ lines
        → cond is_end ([] ∷ lines_of text) (onto_first byte (lines_of text)) ≡ l ∷ (before ++ line ∷ after)
        → (others : List (List ℕ)) × (cond is_end ([] ∷ ended_lines text) (onto_ended byte (ended_lines text)) ≡ l ∷ (before ++ others))
    onto rest true lines is e =
        let behind : lines_of text ≡ before ++ line ∷ after = cc in
        let first : [] ≡ l = cc in
        let r = rest before behind in
        (r.0, ap (λ ls. [] ∷ ls) r.1 ∙ ap (λ f. f ∷ (before ++ r.0)) first)
    onto rest false [] is e =
        let only : (byte ∷ []) ∷ [] ≡ l ∷ (before ++ line ∷ after) = sym (ap (onto_first byte) is) ∙ e in
        absurd (omega (arith, ap length only, length-append before (line ∷ after)))
    onto rest false (m ∷ lines) is e =
        let both : (byte ∷ m) ∷ lines ≡ l ∷ (before ++ line ∷ after) = sym (ap (onto_first byte) is) ∙ e in
        let behind : lines ≡ before ++ line ∷ after = cc in
        let first : byte ∷ m ≡ l = cc in
        let r = rest (m ∷ before) (is ∙ ap (λ ls. m ∷ ls) behind) in
        (r.0, ap (onto_ended byte) r.1 ∙ ap (λ f. f ∷ (before ++ r.0)) first)

pub whole_lines-before : (ended : Bool) (text : List ℕ) (before : List (List ℕ)) (line : List ℕ) (after : List (List ℕ)) → lines_of text ≡ before ++ line ∷ after
    → (others : List (List ℕ)) × (whole_lines ended text ≡ before ++ others)
whole_lines-before true text before line after e = (line ∷ after, e)
whole_lines-before false text before line after e = ended_before text before line after e
