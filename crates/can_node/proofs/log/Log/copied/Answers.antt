use Rattle.std.proofs.Common.{◌≡◌, ◌∙◌, length, rules, arith, sym, ap}
use Rattle.std.specs.List.{slice_get}
use Rattle.can_node.proofs.log.Log.copied.Goals as goal

pub invariant_of-result : goal.invariant_of-result
invariant_of-result c =
    let now = c.args.self.now in
    let copied = c.in_ok-copied_with_room in
    let same : copied.field-0.items ≡ now.entries.items = (search rules) in
    record {
      are_frames = λ n entry at. now.are_frames n entry (ap (λ entries. slice_get entries n) (sym same) ∙ at);
      fits = omega (arith, ap length same, now.fits);
      has_room = copied.ensures.room;
      counted = now.counted;
    }
