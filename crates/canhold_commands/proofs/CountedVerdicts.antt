-- The number of counted verdicts is that of the transcripts.
use Rattle.std.proofs.Common.{◌≡◌, ℕ, ◌+◌, ◌≤◌, List, [], ◌∷◌, length, ap, sym, subst, arith}
use Rattle.can_conform.specs.declared.judging.Verdict.{Verdict}
use Rattle.can_conform.specs.declared.judging.Verdict.TheVariants.{Pass, Fail}
use Rattle.kit_documents.specs.declared.cases.case.Case.{Case}
use Rattle.kit_documents.specs.declared.transcripts.told.Told.{Told}
use Rattle.canhold_commands.specs.declared.tally.Tally.{Tally}
use Rattle.canhold_commands.specs.Counts.{cases_in}
use Rattle.canhold_commands.specs.Judgements.{with_verdict, AddVerdicts, Lines}

-- at most this number of verdicts of each kind is counted
abbrev pub HasAtMost : ℕ → Tally → Type 0
HasAtMost n tally = (tally.passed ≤ n) × (tally.failed ≤ n)

one-more : (n : ℕ) (tally : Tally) (verdict : Verdict) → HasAtMost n tally → HasAtMost (n + 1) (with_verdict tally verdict)
one-more n tally Pass (passed, failed) = (omega (arith, passed), omega (arith, failed))
one-more n tally (Fail failure) (passed, failed) = (omega (arith, passed), omega (arith, failed))

pub counted-within : (n : ℕ) (before after : Tally) (verdict : Verdict) → after ≡ with_verdict before verdict → HasAtMost n before → HasAtMost (n + 1) after
counted-within n before after verdict is few = subst (HasAtMost (n + 1)) (sym is) (one-more n before verdict few)

one-counted : (before : Tally) (verdict : Verdict) → cases_in (with_verdict before verdict) ≡ cases_in before + 1
one-counted before Pass = omega arith
one-counted before (Fail failure) = omega arith

-- after the verdicts on these transcripts, their number more are counted
pub each-counted : (cases : List Case) (transcripts : List Told) (before after : Lines) → AddVerdicts cases transcripts before after
    → cases_in after.tally ≡ cases_in before.tally + length transcripts
each-counted cases [] before after same =
    let counts : cases_in after.tally ≡ cases_in before.tally = ap (λ (lines : Lines). cases_in lines.tally) same in
    omega (arith, counts)
each-counted cases (told ∷ transcripts) before after (case, is, between, one, later) =
    let front : cases_in between.tally ≡ cases_in before.tally + 1 = subst (λ (tally : Tally). cases_in tally ≡ cases_in before.tally + 1) (sym one.count) (one-counted before.tally one.verdict) in
    let rest = each-counted cases transcripts between after later in
    omega (arith, front, rest)
