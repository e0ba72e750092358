use Rattle.canhold_commands.proofs.Appends.{four-appended}
use Rattle.canhold_commands.proofs.difference.push_level_difference.Goals as goal

pub returns-in_ok-push_text-in-Some-Some-2 : goal.returns-in_ok-push_text-in-Some-Some-2
returns-in_ok-push_text-in-Some-Some-2 c =
    rw c.in-Some-Some.is-0 (rw c.in-Some-Some.is-1
    (four-appended c.push_level-in-Some-Some.result _ _ _ _ _ _ _ _ _ c.in_ok-push_text-in-Some-Some.ensures c.in_ok-push_level-in-Some-Some.ensures c.in_ok-push_text-in-Some-Some-2.ensures
    c.push_level-in-Some-Some.ensures))
