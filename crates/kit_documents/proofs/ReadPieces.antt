-- The levels of the pieces of a text.
use Rattle.std.specs.Str.{bytes_eq}
use Rattle.std.proofs.lemmas.Bool.{cases_lt, false≢true}
use Rattle.std.proofs.lemmas.Slice.Eq.{bytes_eq-Decides}
use Rattle.std.proofs.Common.{Bool, false, Result, Ok, Err, IfOk, ◌≡◌, ◌≢◌, ℕ, ◌+◌, ◌^◌, ◌<◌, ◌≤◌, ◌⊎◌, take, append-nil, List, [], ◌∷◌, ◌++◌, length, map, get_or, replicate, decimal, refl, sym, ap, subst, ◌∙◌, inl, inr, arith, append_assoc}
use Rattle.std.proofs.lemmas.List.{get_or-map, length-append, length-map, length-take, length-take-le, map-append, take-append-le, take-take, take_all, take_more}
use Rattle.std.proofs.lemmas.Fmt.{decimal_injective}
use Rattle.can_frame.specs.declared.level.Level.{Level}
use Rattle.can_frame.specs.declared.level.Level.TheVariants.{Dominant, Recessive}
use Rattle.can_frame.specs.Levels.{digit_of}
use Rattle.can_frame.proofs.LevelDigits.{one-digit, one-digits}
use Rattle.kit_documents.specs.LevelTexts.{IsRunToken, SaysPiece, SayPieces, SaysLevels, AddsLevels, longest_run, pieces_of}

-- ---- digits

no-star : (x : Level) → digit_of x ≢ 42
no-star Dominant e = omega (arith, e)
no-star Recessive e = omega (arith, e)

-- levels one by one are no run
no-run : (digit : ℕ) (rest : List ℕ) (xs : List Level) → map digit_of xs ≡ digit ∷ 42 ∷ rest → ⊥
no-run digit rest [] e = cc
no-run digit rest (x ∷ []) e = cc
no-run digit rest (x ∷ y ∷ xs) e =
    let second : digit_of y ≡ 42 = cc in
    no-star y second

one-run : (piece : List ℕ) (xs ys : List Level) → IsRunToken piece xs → IsRunToken piece ys → xs ≡ ys
one-run piece xs ys a b =
    let texts : digit_of a.level ∷ 42 ∷ decimal a.count ≡ digit_of b.level ∷ 42 ∷ decimal b.count = sym a.text ∙ b.text in
    let digits : digit_of a.level ≡ digit_of b.level = cc in
    let numbers : decimal a.count ≡ decimal b.count = cc in
    let counts : a.count ≡ b.count = decimal_injective a.count b.count (omega (arith, a.few)) (omega (arith, b.few)) numbers in
    let levels : a.level ≡ b.level = one-digit a.level b.level digits in
    a.all ∙ ap (λ n. replicate n a.level) counts ∙ ap (λ x. replicate b.count x) levels ∙ sym b.all

-- a piece has levels in one way
pub one-piece : (piece : List ℕ) (xs ys : List Level) → SaysPiece piece xs → SaysPiece piece ys → xs ≡ ys
one-piece piece xs ys (inl a) (inl b) = one-digits xs ys (sym a ∙ b)
one-piece piece xs ys (inl a) (inr b) = absurd (no-run (digit_of b.level) (decimal b.count) xs (sym a ∙ b.text))
one-piece piece xs ys (inr a) (inl b) = absurd (no-run (digit_of a.level) (decimal a.count) ys (sym b ∙ a.text))
one-piece piece xs ys (inr a) (inr b) = one-run piece xs ys a b

pub one-pieces : (pieces : List (List ℕ)) (xs ys : List Level) → SayPieces pieces xs → SayPieces pieces ys → xs ≡ ys
one-pieces [] xs ys a b = a ∙ sym b
one-pieces (piece ∷ pieces) xs ys a b =
    let firsts : a.0 ≡ b.0 = one-piece piece a.0 b.0 a.2 b.2 in
    let rests : a.1 ≡ b.1 = one-pieces pieces a.1 b.1 a.3 b.3 in
    a.4 ∙ ap (λ l. l ++ a.1) firsts ∙ ap (λ l. b.0 ++ l) rests ∙ sym b.4

-- a text has levels in one way
pub one-levels : (text : List ℕ) (xs ys : List Level) → SaysLevels text xs → SaysLevels text ys → xs ≡ ys
one-levels text xs ys a b = one-pieces (pieces_of text) xs ys a.pieces b.pieces

-- ---- runs

-- ---- numbers

-- another number than 1 to 100000 is written in another way
pub no-count : (digits : List ℕ) (count : ℕ) → count < 2 ^ 32 → digits ≡ decimal count → (count ≡ 0) ⊎ (longest_run < count) → (n : ℕ) → 0 < n → n ≤ longest_run → digits ≢ decimal n
no-count digits count low is out n some few same =
    let equal : count ≡ n = decimal_injective count n (omega (arith, low)) (omega (arith, few)) (sym is ∙ same) in
    elim out [ inl zero ↦ omega (arith, zero, equal, some) | inr many ↦ omega (arith, many, equal, few) ]

-- ---- at most `most` levels

-- what was left out of the first list stays left out
pub take-joined : (most : ℕ) (xs ys : List Level) → take most (take most xs ++ ys) ≡ take most (xs ++ ys)
take-joined most xs ys = elim (cases_lt most (length xs)) [
  | inl many ↦
      let few : most ≤ length xs = omega (arith, many) in
      let full : length (take most xs) ≡ most = length-take-le most xs few in
      take-append-le most (take most xs) ys (omega (arith, full)) ∙ take-take most most xs (omega arith) ∙ sym (take-append-le most xs ys few)
  | inr few ↦ ap (λ ls. take most (ls ++ ys)) (take_all most xs few)
]

pub take-few : (most : ℕ) (xs : List Level) → length (take most xs) ≤ most
take-few most xs = omega (arith, length-take most xs)

-- the first `place` digits are read
abbrev pub AreRead : List ℕ → ℕ → ℕ → List Level → List Level → Type 0
AreRead digits place most before after = AddsLevels (λ read. take place digits ≡ map digit_of read) most before after

pub adds-few : {Says : List Level → Type 0} (most : ℕ) (before after : List Level) → AddsLevels Says most before after → length after ≤ most
adds-few most before after adds = subst (λ (ls : List Level). length ls ≤ most) (sym adds.all) (take-few most (before ++ adds.read))

pub read-none : (digits : List ℕ) (most : ℕ) (before : List Level) → length before ≤ most → AreRead digits 0 most before before
read-none digits most before few = record { read = []; said = refl; all = sym (ap (take most) (append-nil before) ∙ take_all most before few) }

-- one more digit is read, whatever is kept of it
read-digit : (digits : List ℕ) (place most : ℕ) (before after later : List Level) (level : Level) → place < length digits → digit_of level ≡ get_or digits place 0 → later ≡ take most (after ++ level ∷ [])
    → AreRead digits place most before after → AreRead digits (place + 1) most before later
read-digit digits place most before after later level within is kept are = record {
  read = are.read ++ level ∷ [];
  said = take_more digits place 0 within ∙ ap (λ ds. ds ++ get_or digits place 0 ∷ []) are.said ∙ ap (λ d. map digit_of are.read ++ d ∷ []) (sym is) ∙ sym (map-append digit_of are.read (level ∷ []));
  all = kept ∙ ap (λ ls. take most (ls ++ level ∷ [])) are.all ∙ take-joined most (before ++ are.read) (level ∷ []) ∙ ap (take most) (append_assoc before are.read (level ∷ []));
}

pub read-more : (digits : List ℕ) (place most : ℕ) (before after : List Level) (level : Level) → place < length digits → digit_of level ≡ get_or digits place 0 → length after < most
    → AreRead digits place most before after → AreRead digits (place + 1) most before (after ++ level ∷ [])
read-more digits place most before after level within is room are =
    read-digit digits place most before after (after ++ level ∷ []) level within is (sym (take_all most (after ++ level ∷ []) (omega (arith, room, length-append after (level ∷ []))))) are

pub read-past : (digits : List ℕ) (place most : ℕ) (before after : List Level) (level : Level) → place < length digits → digit_of level ≡ get_or digits place 0 → most ≤ length after
    → AreRead digits place most before after → AreRead digits (place + 1) most before after
read-past digits place most before after level within is full are =
    let few = adds-few most before after are in
    read-digit digits place most before after after level within is (sym (take-append-le most after (level ∷ []) full ∙ take_all most after few)) are

-- a digit that is no level's
pub read-other : (digits : List ℕ) (place : ℕ) → place < length digits → ((level : Level) → digit_of level ≢ get_or digits place 0) → (read : List Level) → digits ≢ map digit_of read
read-other digits place within none read is =
    let inside : place < length read = omega (arith, within, ap length is, length-map read digit_of) in
    none (get_or read place Dominant) (sym (get_or-map digit_of read place Dominant 0 inside) ∙ ap (λ ds. get_or ds place 0) (sym is))

pub read-all : (digits : List ℕ) (place most : ℕ) (before after : List Level) → length digits ≤ place → AreRead digits place most before after → AddsLevels (λ read. digits ≡ map digit_of read) most before after
read-all digits place most before after past are = record { read = are.read; said = sym (take_all place digits past) ∙ are.said; all = are.all }

-- ---- what is no number, and no piece

-- digits that aren't those of their number are those of no number
pub not-written : (digits written : List ℕ) (number n : ℕ) → written ≡ decimal number → bytes_eq written digits ≡ false → number ≡ n → digits ≢ decimal n
not-written digits written number n text other is same = false≢true (sym other ∙ (bytes_eq-Decides written digits).1 (text ∙ ap decimal is ∙ sym same))

-- what is neither a run nor digits of levels has no levels
pub no-piece : {E : Type 0} (r : Result Bool E) (piece digits : List ℕ) → digits ≡ piece → ((levels : List Level) → IsRunToken piece levels → ⊥)
    → IfOk r (λ said. said ≡ false → (read : List Level) → digits ≢ map digit_of read) → IfOk r (λ said. said ≡ false → (read : List Level) → SaysPiece piece read → ⊥)
no-piece (Err e) piece digits is no_run none = tt
no-piece (Ok said) piece digits is no_run none = λ no read says. elim says [ inl one ↦ none no read (is ∙ one) | inr run ↦ no_run read run ]
