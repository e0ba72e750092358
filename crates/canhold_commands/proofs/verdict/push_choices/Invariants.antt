use Rattle.std.proofs.Common.{◌≡◌, ◌++◌, drop}
use Rattle.canhold_commands.specs.Verdicts.{choices_text}
use Rattle.canhold_commands.proofs.verdict.push_choices.Given as goal

-- the other choices would follow what is written
abbrev pub invariant-loop-choice : goal.invariant-loop-choice
invariant-loop-choice l =
    l.out.items ++ choices_text (drop l.choice-index l.choices) ≡ l.fn.out.items ++ choices_text l.fn.choices
