use Rattle.std.proofs.Common.{◌≡◌, true, false, map, rules, sym, ◌∙◌}
use Rattle.can_node.specs.Ports.{port_drives}
use Rattle.can_bus.specs.Wired.{wired}
use Rattle.can_bus.proofs.WiredLemmas.{wired_ports, part_dominant, part_recessive}
use Rattle.can_bus.proofs.wire.wired_level.Goals as goal

pub returns-then-not-is_recessive : goal.returns-then-not-is_recessive
returns-then-not-is_recessive g c =
    let low : c.is_recessive.result ≡ false = search rules in
    part_dominant (λ ps. wired (map port_drives (map g.P.Port.port ps))) (wired_ports port_drives g.P.Port.port) _ _ _ _ c.wired_vector.result
    c.split_at.ensures.by_index.0 c.loop-ahead.invariant c.wired_vector.ensures (sym c.is_recessive.ensures ∙ low)

pub loop-ahead-preserved : goal.loop-ahead-preserved
loop-ahead-preserved g c =
    let high : c.is_recessive.result ≡ true = search rules in
    part_recessive (λ ps. wired (map port_drives (map g.P.Port.port ps))) (wired_ports port_drives g.P.Port.port) _ _ _ _ c.wired_vector.result
    c.split_at.ensures.by_index.0 c.loop-ahead.invariant c.wired_vector.ensures (sym c.is_recessive.ensures ∙ high)

pub returns : goal.returns
returns g c = c.wired_one_by_one.ensures ∙ c.loop-ahead.invariant
