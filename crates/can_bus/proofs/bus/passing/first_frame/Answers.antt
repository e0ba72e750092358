use Rattle.std.proofs.Common.{◌≡◌, ◌+◌, ◌-◌, ◌<◌, drop, get_or, length, map, take, arith, rules, subst, inl, inr}
use Rattle.std.proofs.lemmas.List.{length-drop, take_all}
use Rattle.can_bus.specs.Passing.{IsReceived, PassesByAll, PassesFrom}
use Rattle.can_bus.proofs.PassingPorts.{passes-at, received-behind, received-first, sender-at}
use Rattle.can_bus.proofs.bus.passing.first_frame.Goals as goal

pub returns-then-behind : goal.returns-then-behind
returns-then-behind g c =
    let S = g.P.Port.port in
    let f = c.in_ok-frame.frame in
    let ports = c.args.ports.now in
    let place = c.in_ok-place.place in
    let item = c.index-ports-place.result in
    let within : c.in_ok-place.place < length c.args.ports.now = omega (arith, c.if-place-ports.false) in
    let own : PassesFrom c.in_ok-frame.frame (g.P.Port.port (get_or c.args.ports.now c.in_ok-place.place c.index-ports-place.result)) =
    subst (λ x. PassesFrom c.in_ok-frame.frame (g.P.Port.port x)) c.index-ports-place.is c.in_ok-frame.ensures in
    let rest : take (length ports - (place + 1)) (drop (place + 1) ports) ≡ drop (place + 1) ports = take_all _ _ (omega (arith, length-drop (place + 1) ports)) in
    let behind = subst (λ xs. PassesByAll f (map S xs)) rest c.in_ok-behind.ensures.passes in
    record {
      passes = passes-at S f ports place item within c.in_ok-before.ensures.passes own behind;
      received = elim c.if-behind.either [
        | inl before ↦ received-first S f ports place (c.in_ok-before.ensures.received before)
        | inr told ↦ received-behind S f ports (place + 1) (subst (λ xs. IsReceived f (map S xs)) rest (c.in_ok-behind.ensures.received told.1))
      ];
      sender = sender-at S f ports place item within c.in_ok-before.ensures.passes own behind;
      whole = search rules;
      place = within;
    }
