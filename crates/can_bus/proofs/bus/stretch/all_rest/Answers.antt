use Rattle.std.proofs.Common.{◌≡◌, true, get_or, map, rules, refl, subst}
use Rattle.std.proofs.lemmas.List.{take_all}
use Rattle.can_frame.specs.declared.level.Level.TheVariants.{Recessive}
use Rattle.can_node.specs.Ports.{port_step}
use Rattle.can_bus.proofs.BusAtRest.{still_more}
use Rattle.can_bus.proofs.bus.stretch.all_rest.Goals as goal

pub loop-port-init : goal.loop-port-init
loop-port-init g c = refl

pub loop-port-preserved : goal.loop-port-preserved
loop-port-preserved g c =
    let rests : c.rests.result ≡ true = search rules in
    let port : c.port-item.result ≡ get_or c.args.ports.now c.loop-port.port-index c.port-item.result = c.port-item.is in
    let here : port_step (g.P.Port.port (get_or c.args.ports.now c.loop-port.port-index c.port-item.result)) Recessive ≡ g.P.Port.port (get_or c.args.ports.now c.loop-port.port-index c.port-item.result) =
    subst (λ x. port_step (g.P.Port.port x) Recessive ≡ g.P.Port.port x) port (c.rests.ensures.unchanged rests) in
    still_more g.P.Port.port (λ p. port_step p Recessive) c.args.ports.now c.loop-port.port-index c.port-item.result c.loop-port-test.true c.loop-port.invariant here

pub returns : goal.returns
returns g c = λ told.
    subst (λ xs. map (λ p. port_step p Recessive) (map g.P.Port.port xs) ≡ map g.P.Port.port xs)
    (take_all c.loop-port.port-index c.args.ports.now c.loop-port-test.false) c.loop-port.invariant
