use Rattle.std.proofs.Common.{◌≡◌, ◌≢◌, get_or, map, take, arith, rules, sym, ap, ◌∙◌, refl, get_or-set_other, length-set}
use Rattle.std.proofs.lemmas.List.{take_all}
use Rattle.std.proofs.lemmas.Simd.{map-map}
use Rattle.can_frame.specs.declared.level.Level.TheVariants.{Recessive}
use Rattle.can_node.specs.Ports.{port_drives}
use Rattle.can_bus.specs.Wired.{over, wired}
use Rattle.can_bus.proofs.WiredLemmas.{wired_none, wired_empty, wired-set, wired_more, resting_all}
use Rattle.can_bus.proofs.wire.wired_vector.Goals as goal

pub loop-node-init : goal.loop-node-init
loop-node-init g c = record { driven = wired_none 32 ∙ sym wired_empty; resting = λ k h. resting_all 32 k; whole = refl }

pub loop-node-preserved : goal.loop-node-preserved
loop-node-preserved g c =
    let ports = c.args.ports.now in
    let x = c.drive.result in
    let port : c.index-ports-node.result ≡ get_or c.args.ports.now c.loop-node.node c.index-ports-node.result = c.index-ports-node.is in
    let here : c.drive.result ≡ port_drives (g.P.Port.port (get_or c.args.ports.now c.loop-node.node c.index-ports-node.result)) = first_of (cc, search rules) in
    record {
      driven =
          wired-set c.loop-node.levels c.loop-node.node x (omega arith) (c.loop-node.invariant.resting c.loop-node.node (omega arith))
          ∙ ap (over x) c.loop-node.invariant.driven
          ∙ ap (λ y. over y (wired (map (λ p. port_drives (g.P.Port.port p)) (take c.loop-node.node ports)))) here
          ∙ sym (wired_more (λ p. port_drives (g.P.Port.port p)) ports c.loop-node.node c.index-ports-node.result c.loop-node-test.true);
      resting = λ k h.
          let other : k ≢ c.loop-node.node = omega arith in
          get_or-set_other c.loop-node.levels c.loop-node.node k x Recessive other ∙ c.loop-node.invariant.resting k (omega arith);
      whole = length-set c.loop-node.levels c.loop-node.node x ∙ c.loop-node.invariant.whole;
    }

pub returns : goal.returns
returns g c =
    c.wired.ensures ∙ c.loop-node.invariant.driven
    ∙ ap (λ ps. wired (map (λ p. port_drives (g.P.Port.port p)) ps)) (take_all c.loop-node.node c.args.ports.now c.loop-node-test.false)
    ∙ ap wired (sym (map-map port_drives g.P.Port.port c.args.ports.now))
