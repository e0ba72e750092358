-- Levels as tokens: a run of eight or more as `L*N`, the others one by one. One space separates a token `L*N` from its
-- neighbours. (docs/CONFORMANCE.md)
use Rattle.std.specs.Prelude.{ℕ, ◌+◌, nat_le, if◌then◌else◌, List, [], ◌∷◌, ◌++◌, codes, decimal, replicate}
use Rattle.can_frame.specs.declared.level.Level.{Level}
use Rattle.can_frame.specs.Levels.{same, digit_of}
use Rattle.kit_documents.specs.declared.words.levels.Before.{Before}
use Rattle.kit_documents.specs.declared.words.levels.Before.TheVariants.{Nothing, Literal, LongRun}

-- A space separates a long run from what comes before it.
abbrev pub gap_before_run : Before → List ℕ
gap_before_run Nothing = []
gap_before_run Literal = codes " "
gap_before_run LongRun = codes " "

-- A space separates levels one by one from a long run before them, but not from other levels.
abbrev pub gap_before_literal : Before → List ℕ
gap_before_literal Nothing = []
gap_before_literal Literal = []
gap_before_literal LongRun = codes " "

-- A run of n equal levels after what comes before it.
abbrev pub run_text : Before → Level → ℕ → List ℕ
run_text b x n =
    if nat_le 8 n then gap_before_run b ++ (digit_of x ∷ (codes "*" ++ decimal n))
    else gap_before_literal b ++ replicate n (digit_of x)

-- What such a run is for the next one.
abbrev pub behind_run : ℕ → Before
behind_run n = if nat_le 8 n then LongRun else Literal

-- The text of n levels x followed by these levels, after what comes before it.
abbrev pub tokens_from : Before → Level → ℕ → List Level → List ℕ
tokens_from b x n [] = run_text b x n
tokens_from b x n (y ∷ ys) =
    if same x y then tokens_from b x (n + 1) ys
    else run_text b x n ++ tokens_from (behind_run n) y 1 ys

-- The text of a list of levels, as tokens.
abbrev pub levels_text : List Level → List ℕ
levels_text [] = []
levels_text (x ∷ xs) = tokens_from Nothing x 1 xs
