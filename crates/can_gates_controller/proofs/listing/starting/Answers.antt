use Rattle.can_gates.specs.Circuit.{never}
use Rattle.std.proofs.Common.{◌≡◌, get_or, length, refl, rules, arith}
use Rattle.can_gates_controller.specs.Stepped.{IsRegister}
use Rattle.can_gates_controller.proofs.ListedLemmas.{pushed_at}
use Rattle.can_gates_controller.proofs.listing.starting.Goals as goal

pub loop-place-preserved : goal.loop-place-preserved
loop-place-preserved c =
    let l = c.loop-place in
    let next = c.args.next.now in (
      search rules,
      λ i h. pushed_at (λ q r. IsRegister r (get_or next q never)) l.all.items c.push.new.self.items _ l.place i c.in_ok-push.ensures.items l.invariant.0 (record { next = c.literal_at.ensures; starts = refl }) l.invariant.1 h,
    )

pub returns : goal.returns
returns c =
    let l = c.loop-place in
    let e : l.place ≡ length c.args.next.now = omega (arith, c.loop-place-test.false, l.auto.place-end) in
    rw e at l.invariant
