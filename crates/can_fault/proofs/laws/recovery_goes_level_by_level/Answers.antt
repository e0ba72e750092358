use Rattle.std.proofs.lemmas.Bool.{false_from_ne_true}
use Rattle.can_fault.specs.Recovery.{after_levels, ends_bus_off}
use Rattle.can_fault.proofs.RecoveryLemmas.{IsWaiting-after, IsWaiting-push, IsWaiting-ended, IsWaiting-ends}
use Rattle.can_fault.proofs.laws.recovery_goes_level_by_level.Goals as goal

pub returns-clause-ends : goal.returns-clause-ends
returns-clause-ends c =
    λ n l x held off stays.
    let w = IsWaiting-after n l held off stays in
    (λ e. (IsWaiting-ended n l (after_levels n l) w x e).0, IsWaiting-ends n l (after_levels n l) w x)

pub returns-clause-cleared : goal.returns-clause-cleared
returns-clause-cleared c =
    λ n l x held off stays ends.
    let w = IsWaiting-after n l held off stays in
    (IsWaiting-ended n l (after_levels n l) w x (IsWaiting-ends n l (after_levels n l) w x ends)).1

pub returns-clause-waiting : goal.returns-clause-waiting
returns-clause-waiting c =
    λ n l x held off stays goes_on.
    let w = IsWaiting-after n l held off stays in
    let none = false_from_ne_true (ends_bus_off x (after_levels n l)) (λ e. goes_on (IsWaiting-ended n l (after_levels n l) w x e).0) in
    (IsWaiting-push n l (after_levels n l) w x none).here
