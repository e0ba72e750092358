-- The line that counts the cases of a run. (docs/CONFORMANCE.md, "Verdict lines")
use Rattle.std.specs.Prelude.{ℕ, ◌+◌, ◌==◌, if◌then◌else◌, List, [], ◌++◌, codes, decimal}
use Rattle.canhold_commands.specs.declared.tally.Tally.{Tally}

-- the number of cases: each has one verdict
abbrev pub cases_in : Tally → ℕ
cases_in t = t.passed + t.failed + t.void + t.skipped

-- the number of cases with each verdict, and their sum
abbrev pub verdicts_text : Tally → List ℕ
verdicts_text t =
    codes "passed " ++ (decimal t.passed ++
    (codes " failed " ++ (decimal t.failed ++
    (codes " void " ++ (decimal t.void ++
    (codes " skipped " ++ (decimal t.skipped ++
    (codes " of " ++ decimal (cases_in t)))))))))

-- The number of cases without a verdict, because they have no transcript; empty if there are none.
abbrev pub without_text : ℕ → List ℕ
without_text without = if without == 0 then [] else codes ", " ++ (decimal without ++ codes " without a transcript")

-- the line that counts the cases of a run
abbrev pub count_line : Tally → ℕ → List ℕ
count_line t without = verdicts_text t ++ (without_text without ++ codes "\n")
