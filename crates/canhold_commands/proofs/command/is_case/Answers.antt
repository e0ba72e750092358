use Rattle.std.proofs.Common.{arith}
use Rattle.std.proofs.lemmas.Bool.{false≢true, le-leb, leb-true}
use Rattle.canhold_commands.proofs.CommandLines.{case_length}
use Rattle.canhold_commands.proofs.command.is_case.Goals as goal

pub returns-in_default : goal.returns-in_default
returns-in_default c = (λ told. absurd (false≢true told), λ is. absurd (c.in_default.ensures is.name is.text))

pub returns : goal.returns
returns c =
    let starts = c.in-Some.ensures in (
      λ told. record { name = c.in-Some.name.now; short = omega (arith, leb-true _ _ told); text = starts },
      λ is. le-leb _ _ (let same = case_length c.args.line.now c.args.ending.now c.in-Some.name.now starts is in omega (arith, same, is.short)),
    )
