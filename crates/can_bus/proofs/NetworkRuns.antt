-- A bus with offers at run time, and with hits within attempts: a wire with hits, of ports that gain frames.
use Rattle.std.proofs.Common.{◌≡◌, ℕ, zero, suc, ◌+◌, List, map, refl, sym, ap, subst, ◌∙◌, arith}
use Rattle.can_frame.specs.declared.level.Level.{Level}
use Rattle.can_node.specs.Ports.{port_drives}
use Rattle.can_node.proofs.Arrivals.{GainingPort, gaining_drives}
use Rattle.can_terms.specs.declared.hit.Hit.{Hit}
use Rattle.can_bus.specs.declared.offer.Offer.{Offer}
use Rattle.can_bus.specs.Wired.{wired}
use Rattle.can_bus.specs.Run.{BusState, CallState, inverted_if, rest_after, attempt_now, recorded, bus_step}
use Rattle.can_bus.specs.Offers.{all_made, offered_now, call_after, call_level, call_refused}
use Rattle.can_bus.specs.Timed.{offered_to}
use Rattle.can_bus.proofs.Reduction.{maps-alike}
use Rattle.can_bus.proofs.FrameOnBus.{gaining_sees}
use Rattle.can_bus.proofs.OfferTimes.{AreInOrder}
use Rattle.can_bus.proofs.PlayedRuns.{HaveRoomNow, AreRoomy, all_arrived, all-taken, none-refused, open_ports, open-step, open-now, room-next}
use Rattle.can_bus.proofs.HitRuns.{AreWithin, falls, falls-always, all-see, latest_now, sees}
use Rattle.can_bus.proofs.HitWires.{HitWire, hit_latest, hit_seen, hit_step, hit_run, hit_runs-joined}

-- the bus in the bit time of this number: its ports, with what is still to be offered to them
abbrev pub open_wire : List Offer → ℕ → CallState → HitWire GainingPort
open_wire offers t c = record { machines = open_ports offers t 0 c.bus.ports; rest = c.bus.rest; latest = c.latest }

module _ (offers : List Offer) (hits : List Hit) (order : (number : ℕ) → AreInOrder (offered_to number offers)) (within : AreWithin hits) where
  -- the call at this time, when its offers are made
  abbrev pub now_at : ℕ → BusState → CallState
  now_at t bus = offered_now offers (call_after offers hits t bus)

  pub record IsGoing (t : ℕ) (bus : BusState) (w : HitWire GainingPort) : Type 0 where
    pub wire : w ≡ open_wire offers t (now_at t bus)
    pub time : (call_after offers hits t bus).time ≡ t
    pub room : AreRoomy offers t 0 (now_at t bus).bus.ports
    pub have : HaveRoomNow offers t 0 (call_after offers hits t bus).bus.ports

  -- the level that is recorded
  level-now : (t : ℕ) (c : CallState) → recorded hits c ≡ hit_seen gaining_drives gaining_sees hits (open_wire offers t c)
  unfolding recorded
  level-now t c =
      let x : Level = wired (map port_drives c.bus.ports) in
      let drives : wired (map gaining_drives (open_ports offers t 0 c.bus.ports)) ≡ x =
      sym (ap wired (maps-alike (λ (g : GainingPort). g.port) port_drives gaining_drives (λ g. refl) (open_ports offers t 0 c.bus.ports)))
      ∙ ap (λ ps. wired (map port_drives ps)) (open-now offers t 0 c.bus.ports) in
      let at : Level → Level = λ y. inverted_if (falls hits (latest_now c.latest c.bus.rest y)) y in
      ap (λ b. inverted_if b x) (falls-always hits within c.time (attempt_now c)) ∙ ap at (sym drives)

  one-step : (t : ℕ) (bus : BusState) (w : HitWire GainingPort) → IsGoing t bus w → IsGoing (suc t) bus (hit_step gaining_drives gaining_sees hits w)
  unfolding call_after bus_step
  one-step t bus w going =
      let now : CallState = now_at t bus in
      let ports = now.bus.ports in
      let x : Level = recorded hits now in
      let next : CallState = call_after offers hits (suc t) bus in
      let time : next.time ≡ suc t = omega (arith, going.time) in
      let here : HitWire GainingPort = open_wire offers t now in
      let level : hit_seen gaining_drives gaining_sees hits here ≡ x = sym (level-now t now) in
      let drives : wired (map gaining_drives here.machines) ≡ wired (map port_drives ports) =
      sym (ap wired (maps-alike (λ (g : GainingPort). g.port) port_drives gaining_drives (λ g. refl) here.machines)) ∙ ap (λ ps. wired (map port_drives ps)) (open-now offers t 0 ports) in
      let ran : next.bus.ports ≡ map (sees x) ports = all-see hits within now.time 0 x ports in
      let room = room-next offers order t 0 x ports going.room in
      let taken : (now_at (suc t) bus).bus.ports ≡ all_arrived offers (suc t) 0 (map (sees x) ports) =
      ap (λ k. all_made offers k next.bus.ports) time ∙ ap (all_made offers (suc t)) ran ∙ all-taken offers (suc t) (map (sees x) ports) room.0 in
      record {
        wire =
            ap (hit_step gaining_drives gaining_sees hits) going.wire
            ∙ ap (λ y. let v : HitWire GainingPort = record { machines = map (gaining_sees y) here.machines; rest = rest_after now.bus.rest y; latest = hit_latest gaining_drives gaining_sees hits here } in v) level
            ∙ ap (λ y. let v : HitWire GainingPort = record { machines = map (gaining_sees x) here.machines; rest = rest_after now.bus.rest x; latest = latest_now now.latest now.bus.rest y } in v) drives
            ∙ ap (λ gs. let v : HitWire GainingPort = record { machines = gs; rest = rest_after now.bus.rest x; latest = attempt_now now } in v)
            (open-step offers t 0 x ports ∙ ap (open_ports offers (suc t) 0) (sym taken));
        time = time;
        room = subst (AreRoomy offers (suc t) 0) (sym taken) room.1;
        have = subst (HaveRoomNow offers (suc t) 0) (sym ran) room.0;
      }

  -- so at each time the bus is that wire
  pub wire-after : (n : ℕ) (bus : BusState) (w : HitWire GainingPort) → IsGoing 0 bus w → IsGoing n bus (hit_run gaining_drives gaining_sees hits n w)
  wire-after zero bus w going = going
  wire-after (suc n) bus w going =
      subst (IsGoing (suc n) bus)
      (sym (ap (λ k. hit_run gaining_drives gaining_sees hits k w) (let e : suc n ≡ n + 1 = omega arith in e) ∙ hit_runs-joined gaining_drives gaining_sees hits n 1 w))
      (one-step n bus (hit_run gaining_drives gaining_sees hits n w) (wire-after n bus w going))

  -- its level is recorded
  pub call-level : (n : ℕ) (bus : BusState) (w : HitWire GainingPort) → IsGoing 0 bus w →
      call_level offers hits n bus ≡ hit_seen gaining_drives gaining_sees hits (hit_run gaining_drives gaining_sees hits n w)
  unfolding call_level
  call-level n bus w going = level-now n (now_at n bus) ∙ ap (hit_seen gaining_drives gaining_sees hits) (sym (wire-after n bus w going).wire)

  -- and no queue was full
  pub call-refused : (n : ℕ) (bus : BusState) (w : HitWire GainingPort) → IsGoing 0 bus w → call_refused offers hits n bus ≡ 0
  unfolding call_refused
  call-refused zero bus w going = refl
  call-refused (suc n) bus w going =
      omega (arith, call-refused n bus w going, none-refused offers n (call_after offers hits n bus).bus.ports (wire-after n bus w going).have)
