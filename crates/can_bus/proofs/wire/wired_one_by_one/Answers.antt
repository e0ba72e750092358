use Rattle.std.proofs.Common.{◌≡◌, true, false, get_or, map, rules, sym, ◌∙◌}
use Rattle.can_node.specs.Ports.{port_drives}
use Rattle.can_bus.specs.Wired.{wired}
use Rattle.can_bus.proofs.WiredLemmas.{wired_ports, wired_one, one_dominant, one_recessive, all_passed, wired_empty}
use Rattle.can_bus.proofs.wire.wired_one_by_one.Goals as goal

pub returns-then-not-is_recessive : goal.returns-then-not-is_recessive
returns-then-not-is_recessive g c =
    let low : c.is_recessive.result ≡ false = search rules in
    let port : c.port-item.result ≡ get_or c.args.ports.now c.loop-port.port-index c.port-item.result = c.port-item.is in
    let here : c.drive.result ≡ port_drives (g.P.Port.port (get_or c.args.ports.now c.loop-port.port-index c.port-item.result)) = first_of (cc, search rules) in
    one_dominant (λ ps. wired (map port_drives (map g.P.Port.port ps))) (wired_ports port_drives g.P.Port.port) c.args.ports.now c.loop-port.port-index c.port-item.result c.drive.result
    c.loop-port-test.true c.loop-port.invariant (here ∙ wired_one _) (sym c.is_recessive.ensures ∙ low)

pub loop-port-preserved : goal.loop-port-preserved
loop-port-preserved g c =
    let high : c.is_recessive.result ≡ true = search rules in
    let port : c.port-item.result ≡ get_or c.args.ports.now c.loop-port.port-index c.port-item.result = c.port-item.is in
    let here : c.drive.result ≡ port_drives (g.P.Port.port (get_or c.args.ports.now c.loop-port.port-index c.port-item.result)) = first_of (cc, search rules) in
    one_recessive (λ ps. wired (map port_drives (map g.P.Port.port ps))) (wired_ports port_drives g.P.Port.port) c.args.ports.now c.loop-port.port-index c.port-item.result c.drive.result
    c.loop-port-test.true c.loop-port.invariant (here ∙ wired_one _) (sym c.is_recessive.ensures ∙ high)

pub returns : goal.returns
returns g c =
    all_passed (λ ps. wired (map port_drives (map g.P.Port.port ps))) c.args.ports.now c.loop-port.port-index wired_empty c.loop-port-test.false c.loop-port.invariant
