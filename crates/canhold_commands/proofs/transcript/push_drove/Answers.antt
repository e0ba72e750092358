use Rattle.std.proofs.Common.{rules, ◌≡◌, ◌==◌, false, length}
use Rattle.canhold_commands.proofs.Appends.{three-appended}
use Rattle.canhold_commands.proofs.transcript.push_drove.Goals as goal

pub returns : goal.returns
returns c =
    let some : (length c.args.levels.now == 0) ≡ false = search rules in
    rw some (three-appended c.push_text-3.result _ _ _ _ _ _ _ c.in_ok-push_text.ensures c.in_ok-push_levels.ensures c.push_text-3.ensures)
