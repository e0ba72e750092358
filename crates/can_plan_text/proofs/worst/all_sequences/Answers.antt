use Rattle.can_plan_text.proofs.worst.all_sequences.Goals as goal

pub returns : goal.returns
returns c =
    let pushed = c.in_ok-push_blocker.ensures in
    record { often = c.in_ok-sequences.sequences.items; once = pushed.0; of_level = c.in_ok-sequences.ensures; of_blocker = pushed.1; all = pushed.2 }
