use Rattle.std.proofs.Common.{take, drop, ap, ◌∙◌}
use Rattle.std.proofs.lemmas.List.{drop_min, take_min}
use Rattle.can_plan_text.specs.Scenario.{own_ports}
use Rattle.can_plan_text.proofs.scenario.divided.Goals as goal

pub returns-clause-own : goal.returns-clause-own
returns-clause-own c =
    let xs = c.args.sequences.now in
    c.split_at.ensures.front ∙ ap (λ n. take n xs) c.min.ensures ∙ take_min own_ports xs

pub returns-clause-shared : goal.returns-clause-shared
returns-clause-shared c =
    let xs = c.args.sequences.now in
    c.split_at.ensures.back ∙ ap (λ n. drop n xs) c.min.ensures ∙ drop_min own_ports xs
