-- The pieces of a text, read one after another.
use Rattle.std.proofs.Common.{Bool, true, false, not, MatchBool, ◌==◌, ◌≡◌, ℕ, zero, suc, ◌+◌, ◌-◌, ◌<◌, ◌≤◌, min, List, [], ◌∷◌, ◌++◌, length, take, replicate, get_or, refl, sym, ap, subst, ◌∙◌, arith, append_assoc, append-nil, inl, inr}
use Rattle.std.proofs.lemmas.Bool.Decides.{nat_tests}
use Rattle.std.proofs.Math.Seq.{take-append-add}
use Rattle.std.proofs.lemmas.List.{length-append, length-map, length-replicate, take-replicate, take_all, take_min}
use Rattle.can_frame.specs.Levels.{digit_of}
use Rattle.can_frame.specs.declared.level.Level.{Level}
use Rattle.kit_documents.specs.LevelTexts.{AddsLevels, IsRunToken, SaysLevels, SaysPiece, SayPieces, pieces_of}
use Rattle.kit_documents.proofs.ReadPieces.{one-pieces, take-joined}

pub pieces-push : (pieces : List (List ℕ)) (piece : List ℕ) (levels more : List Level) → SayPieces pieces levels → SaysPiece piece more → SayPieces (pieces ++ piece ∷ []) (levels ++ more)
pieces-push [] piece levels more said here = (more, [], here, refl, ap (λ ls. ls ++ more) said ∙ sym (append-nil more))
pieces-push (first ∷ pieces) piece levels more said here =
    (said.0, said.1 ++ more, said.2, pieces-push pieces piece said.1 more said.3 here, ap (λ ls. ls ++ more) said.4 ∙ append_assoc said.0 said.1 more)

-- one more piece is read
pub adds-more : (pieces : List (List ℕ)) (piece : List ℕ) (most : ℕ) (before between after : List Level) → AddsLevels (SayPieces pieces) most before between → AddsLevels (SaysPiece piece) most between after → AddsLevels (SayPieces (pieces ++ piece ∷ [])) most before after
adds-more pieces piece most before between after read more = record {
  read = read.read ++ more.read;
  said = pieces-push pieces piece read.read more.read read.said more.said;
  all = more.all ∙ ap (λ ls. take most (ls ++ more.read)) read.all ∙ take-joined most (before ++ read.read) more.read ∙ ap (take most) (append_assoc before read.read more.read);
}

-- ---- whether there are any

-- these pieces are read, and whether they say a level is known
pub record AreSome (pieces : List (List ℕ)) (most : ℕ) (before after : List Level) (some : Bool) : Type 0 where
  pub adds : AddsLevels (SayPieces pieces) most before after
  pub any : MatchBool some (0 < length adds.read) (length adds.read ≡ 0)

pub some-none : (most : ℕ) (before : List Level) → length before ≤ most → AreSome [] most before before false
some-none most before few = record {
  adds = record { read = []; said = refl; all = sym (ap (take most) (append-nil before) ∙ take_all most before few) };
  any = refl;
}

-- a piece has a level if it is not empty
piece-some : (piece : List ℕ) (read : List Level) → SaysPiece piece read → 0 < length piece → 0 < length read
piece-some piece read (inl literal) longer = omega (arith, longer, ap length literal, length-map read digit_of)
piece-some piece read (inr run) longer = omega (arith, run.some, ap length run.all, length-replicate run.count run.level)

piece-none : (piece : List ℕ) (read : List Level) → SaysPiece piece read → length piece ≡ 0 → length read ≡ 0
piece-none piece read (inl literal) empty = omega (arith, empty, ap length literal, length-map read digit_of)
piece-none piece read (inr run) empty = absurd (omega (arith, empty, ap length run.text))

pub some-before : (pieces : List (List ℕ)) (piece : List ℕ) (most : ℕ) (before between after : List Level) → AreSome pieces most before between true → AddsLevels (SaysPiece piece) most between after
    → AreSome (pieces ++ piece ∷ []) most before after true
unfolding adds-more
some-before pieces piece most before between after are more = record {
  adds = adds-more pieces piece most before between after are.adds more;
  any = omega (arith, are.any, length-append are.adds.read more.read);
}

pub some-here : (pieces : List (List ℕ)) (piece : List ℕ) (most : ℕ) (before between after : List Level) (empty : Bool) → empty ≡ (length piece == 0)
    → AreSome pieces most before between false → AddsLevels (SaysPiece piece) most between after → AreSome (pieces ++ piece ∷ []) most before after (not empty)
unfolding adds-more
some-here pieces piece most before between after true is are more =
    let none : length piece ≡ 0 = grind (arith, nat_tests, is) in
    record {
      adds = adds-more pieces piece most before between after are.adds more;
      any = omega (arith, are.any, piece-none piece more.read more.said none, length-append are.adds.read more.read);
    }
some-here pieces piece most before between after false is are more =
    let some : 0 < length piece = grind (arith, nat_tests, is) in
    record {
      adds = adds-more pieces piece most before between after are.adds more;
      any = omega (arith, piece-some piece more.read more.said some, length-append are.adds.read more.read);
    }

-- if one piece is not one of levels, nor are all together
pub pieces-other : (pieces : List (List ℕ)) (place : ℕ) (piece : List ℕ) → place < length pieces → piece ≡ get_or pieces place piece → ((read : List Level) → SaysPiece piece read → ⊥) → (read : List Level) → SayPieces pieces read → ⊥
pieces-other [] place piece within is none read said = absurd (omega (arith, within))
pieces-other (first ∷ pieces) zero piece within is none read said = none said.0 (subst (λ p. SaysPiece p said.0) (sym is) said.2)
pieces-other (first ∷ pieces) (suc place) piece within is none read said = pieces-other pieces place piece (omega (arith, within)) is none said.1 said.3

-- a text has the levels of its pieces, if it has any
pub text-said : (text : List ℕ) (most : ℕ) (before after : List Level) → AreSome (pieces_of text) most before after true → AddsLevels (SaysLevels text) most before after
text-said text most before after are = record {
  read = are.adds.read;
  said = record { some = are.any; pieces = are.adds.said };
  all = are.adds.all;
}

pub text-none : (text : List ℕ) (most : ℕ) (before after : List Level) → AreSome (pieces_of text) most before after false → (levels : List Level) → SaysLevels text levels → ⊥
text-none text most before after are levels says =
    let same : are.adds.read ≡ levels = one-pieces (pieces_of text) are.adds.read levels are.adds.said says.pieces in
    omega (arith, are.any, says.some, ap length same)

-- a run is read until there are `most` levels
pub run-said : (piece : List ℕ) (most : ℕ) (before after : List Level) (level : Level) (count : ℕ) → length before ≤ most → after ≡ before ++ replicate (min (most - length before) count) level → IsRunToken piece (replicate count level)
    → AddsLevels (SaysPiece piece) most before after
run-said piece most before after level count few all is =
    let room = most - length before in
    let whole : length before + room ≡ most = omega (arith, few) in
    let kept : take room (replicate count level) ≡ replicate (min room count) level =
    sym (take_min room (replicate count level)) ∙ ap (λ n. take (min room n) (replicate count level)) (length-replicate count level) ∙ take-replicate (min room count) count level (omega arith) in
    record {
      read = replicate count level;
      said = inr is;
      all = all ∙ ap (λ ls. before ++ ls) (sym kept) ∙ sym (take-append-add before (replicate count level) room) ∙ ap (λ n. take n (before ++ replicate count level)) whole;
    }
