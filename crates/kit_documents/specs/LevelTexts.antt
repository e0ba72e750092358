-- Which levels a text has: tokens, separated by spaces. (docs/CONFORMANCE.md)
use Rattle.std.specs.Prelude.{ℕ, ◌≡◌, ◌⊎◌, ◌==◌, ◌≤◌, ◌<◌, List, [], ◌∷◌, ◌++◌, length, map, take, codes, decimal, replicate}
use Rattle.std.specs.List.{slice_split}
use Rattle.can_frame.specs.declared.level.Level.{Level}
use Rattle.can_frame.specs.Levels.{digit_of}

-- The pieces between the spaces of a text. A piece between two adjacent spaces is empty.
abbrev pub pieces_of : List ℕ → List (List ℕ)
pieces_of text = slice_split (λ byte. byte == 32) text

-- the maximum number of levels of a token `L*N`
abbrev pub longest_run : ℕ
longest_run = 100000

-- A token `L*N`: level L, N times, with N in decimal from 1 to `longest_run`.
pub record IsRunToken (piece : List ℕ) (levels : List Level) : Type 0 where
  pub level : Level
  pub count : ℕ
  pub some : 0 < count
  pub few : count ≤ longest_run
  pub text : piece ≡ digit_of level ∷ (codes "*" ++ decimal count)
  pub all : levels ≡ replicate count level

-- A piece has its levels one by one, or as a run.
abbrev pub SaysPiece : List ℕ → List Level → Type 0
SaysPiece piece levels = (piece ≡ map digit_of levels) ⊎ IsRunToken piece levels

-- The pieces have these levels, one piece after another.
abbrev pub SayPieces : List (List ℕ) → List Level → Type 0
SayPieces [] levels = levels ≡ []
SayPieces (piece ∷ pieces) levels =
    (first : List Level) × (rest : List Level)
    × SaysPiece piece first × SayPieces pieces rest × (levels ≡ first ++ rest)

-- The text has these levels, at least one.
pub record SaysLevels (text : List ℕ) (levels : List Level) : Type 0 where
  pub some : 0 < length levels
  pub pieces : SayPieces (pieces_of text) levels

-- The levels that are read are appended to those before, until there are `most`.
pub record AddsLevels (Says : List Level → Type 0) (most : ℕ) (before after : List Level) : Type 0 where
  pub read : List Level
  pub said : Says read
  pub all : after ≡ take most (before ++ read)
