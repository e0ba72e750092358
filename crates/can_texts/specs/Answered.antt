-- How much of its output a stream of lines has written. `Answer` relates lines to their output. (docs/FORMATS.md,
-- "Faults and statuses of the program")
use Rattle.std.specs.Prelude.{◌≡◌, ℕ, ◌+◌, List, ◌∷◌, ◌++◌, length, Bool}
use Rattle.can_stream.specs.Lines.{whole_lines}

-- The output is a prefix of the output for some first lines of the input. These lines are known to be complete.
pub record BeginsAnswer (Answer : List (List ℕ) → List ℕ → Type 0)
    (reader_ended : Bool) (input output : List ℕ) : Type 0 where
  pub good : List (List ℕ)
  pub others : List (List ℕ)
  pub rest : List ℕ
  pub lines : whole_lines reader_ended input ≡ good ++ others
  pub answers : Answer good (output ++ rest)

-- Of the input lines that are known to be complete, the one with this number, from 1, is bad. The output is that for
-- the lines before it.
pub record StopsAtLine (Answer : List (List ℕ) → List ℕ → Type 0) (IsBad : List ℕ → Type 0)
    (number : ℕ) (reader_ended : Bool) (input output : List ℕ) : Type 0 where
  pub before : List (List ℕ)
  pub bad : List ℕ
  pub after : List (List ℕ)
  pub lines : whole_lines reader_ended input ≡ before ++ bad ∷ after
  pub answers : Answer before output
  pub number_is : number ≡ length before + 1
  pub is_bad : IsBad bad
