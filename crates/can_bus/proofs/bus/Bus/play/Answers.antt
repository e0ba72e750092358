use Rattle.std.specs.Prelude.{IsOk}
use Rattle.std.proofs.Common.{◌≡◌, Some, length, map, rules, ap, ◌∙◌}
use Rattle.can_bus.specs.Offers.{AreOffered, played, played_level, refused}
use Rattle.can_bus.specs.Run.{AreLevelsOf}
use Rattle.can_bus.specs.State.{bus_state, port_count}
use Rattle.can_bus.proofs.CallCases.{if-ok, no-hits, offers-taken, ok-is, ok-on}
use Rattle.can_bus.proofs.OpenNetworks.{open-counters, open-logs, open-missed, open-refused, open-track, open-whole}
use Rattle.can_bus.proofs.NetworkCalls.{valid-ports}
use Rattle.can_bus.proofs.bus.Bus.play.Goals as goal

pub returns : goal.returns
returns g c =
    let S = g.P.Port.port in
    let items = c.args.self.now.ports.items in
    let offers = c.args.offers.now in
    let bus = bus_state S c.args.self.now in
    let did = c.play_disturbed.ensures in
    let valid = valid-ports S (λ x. g.met.P.Port.valid x) items in
    let ok : AreOffered (length (map S items)) offers → IsOk c.play_disturbed.result = offers-taken S items offers c.play_disturbed.result did.taken in
    let ran : IsOk c.play_disturbed.result → bus_state S c.play_disturbed.new.self ≡ played offers (length c.play_disturbed.new.rec) bus =
    λ is. ok-on c.play_disturbed.result (bus_state S c.play_disturbed.new.self ≡ played offers (length c.play_disturbed.new.rec) bus) is did.bus in
    record {
      taken = (λ is. (did.taken.0 is).0, λ offered. did.taken.1 (offered, no-hits (port_count c.args.self.now)));
      fault = search rules;
      bus = did.bus;
      levels = did.levels;
      count = did.count;
      answer = λ starts call.
          let is = ok call.offered in
          ok-is c.play_disturbed.result 0 is
          (if-ok c.play_disturbed.result (λ count. count ≡ refused offers (length c.play_disturbed.new.rec) bus) (λ count. count ≡ 0)
          (λ count e. e ∙ open-refused offers starts bus valid (did.known is) call (length c.play_disturbed.new.rec)) did.count);
      track = λ starts call t within.
          let is = ok call.offered in
          ok-on c.play_disturbed.result (AreLevelsOf (λ t. played_level offers t bus) c.play_disturbed.new.rec) is did.levels t within ∙ ap Some (open-track offers starts bus valid (did.known is) call t);
      open_logs = λ starts call. let is = ok call.offered in open-logs offers starts bus valid (did.known is) call _ _ (ran is);
      open_whole = λ starts call past. let is = ok call.offered in open-whole offers starts bus valid (did.known is) call _ _ (ran is) past;
      open_counters = λ starts call. let is = ok call.offered in open-counters offers starts bus valid (did.known is) call _ _ (ran is);
      open_missed = λ starts call. let is = ok call.offered in open-missed offers starts bus valid (did.known is) call _ _ (ran is);
      unchanged = did.unchanged;
      unrecorded = did.unrecorded;
    }
