use Rattle.std.proofs.Common.{◌≡◌, true, get_or, sym, subst, ◌∙◌}
use Rattle.can_frame.specs.Arbitration.{arbitration_field}
use Rattle.can_bus.specs.Passing.{PassesBy, Receives}
use Rattle.can_bus.proofs.PassingPorts.{passes-more, received-here, received-more}
use Rattle.can_bus.proofs.bus.passing.is_received.Goals as goal
use Rattle.can_bus.proofs.bus.passing.is_received.Goals.{then-branch, else-branch}

pub loop-port-preserved : goal.loop-port-preserved
loop-port-preserved g c =
    let S = g.P.Port.port in
    let f = c.args.frame.now in
    let ports = c.args.ports.now in
    let index = c.loop-port.port-index in
    let item = c.port-item.result in
    let key : arbitration_field c.args.frame.now ≡ c.key-key.result = sym c.key-key.ensures in
    let here : PassesBy c.args.frame.now (g.P.Port.port (get_or c.args.ports.now c.loop-port.port-index c.port-item.result)) =
    subst (λ x. PassesBy c.args.frame.now (g.P.Port.port x)) c.port-item.is (c.in_ok-receives.ensures.passes f key) in
    let gets : c.in_ok-receives.field-0 ≡ true → Receives c.args.frame.now (g.P.Port.port (get_or c.args.ports.now c.loop-port.port-index c.port-item.result)) =
    λ told. subst (λ x. Receives c.args.frame.now (g.P.Port.port x)) c.port-item.is (c.in_ok-receives.ensures.receives told f key) in (
      passes-more S f ports index item c.loop-port-test.true c.loop-port.invariant.0 here,
      elim c.if-branch.branch [
        | then-branch w ↦
            λ yes. received-here S f ports index item c.loop-port-test.true (gets w.if-branch.true)
        | else-branch w ↦ λ yes. received-more S f ports index (c.loop-port.invariant.1 (sym w.received-is ∙ yes))
      ],
    )
