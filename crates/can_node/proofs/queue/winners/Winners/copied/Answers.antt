use Rattle.std.proofs.Common.{◌≡◌, ◌≤◌, length, rules, subst, sym}
use Rattle.std.specs.Prelude.{◌^◌}
use Rattle.can_node.proofs.queue.winners.Winners.copied.Goals as goal

pub invariant_of-result : goal.invariant_of-result
invariant_of-result c =
    let now = c.args.self.now in
    let same : c.in_ok-copied_with_room.field-0.items ≡ now.entrants.items = (search rules) in
    record { few = subst (λ entrants. length entrants ≤ 2 ^ 62) (sym same) now.few }
