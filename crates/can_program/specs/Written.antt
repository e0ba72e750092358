-- What a program has written if it has not written its whole output. (docs/FORMATS.md, "Faults and statuses of the program")
use Rattle.std.specs.Prelude.{ℕ, ◌≡◌, List, [], ◌++◌}

-- nothing is written, whatever the input
abbrev pub WritesNothing : List ℕ → List ℕ → Type 0
WritesNothing input output = output ≡ []

-- the output is the beginning of one that belongs to the input in this way
pub record WritesBeginning (Answers : List ℕ → List ℕ → Type 0) (input output : List ℕ) : Type 0 where
  pub answer : List ℕ
  pub is : Answers input answer
  pub rest : List ℕ
  pub all : answer ≡ output ++ rest
