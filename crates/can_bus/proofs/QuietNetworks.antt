-- A quiet call is a repaired one without hits, however long the bus has been at rest: its theorem follows from the network's.
use Rattle.std.proofs.Common.{◌≡◌, ℕ, ◌≤◌, List, [], refl, sym, ap, subst, ◌∙◌, arith}
use Rattle.can_frame.specs.Parts.{Parts}
use Rattle.can_node.specs.Ports.{IsPort}
use Rattle.can_terms.specs.declared.hit.Hit.{Hit}
use Rattle.can_bus.specs.Quiet.{AtEachPort, CountsNothing, IsQuietCall, LogsBegin, LogsWhole, MissesNothing, line_at, span}
use Rattle.can_bus.specs.Repair.{IsRepairedCall}
use Rattle.can_bus.specs.Run.{BusState, bus_level, bus_run, new_bus}
use Rattle.can_bus.proofs.Contests.{AllPorts}
use Rattle.can_bus.proofs.OpenNetworks.{plain-level, plain-ports}
use Rattle.can_bus.proofs.RepairedCalls.{quiet-span, repaired-call}
use Rattle.can_bus.proofs.RepairedLevels.{unhit-line}
use Rattle.can_bus.proofs.CallLemmas.{call_bus-run, call_level-run}
use Rattle.can_bus.proofs.RepairedNetworks.{repaired-line, repaired-logs, repaired-missed, repaired-unmoved, repaired-whole}

-- ---- the bus has rested

still-level : (t : ℕ) (bus : BusState) → bus_level [] t bus ≡ bus_level [] t (new_bus bus.ports)
still-level t bus = sym (call_level-run [] t bus) ∙ plain-level [] bus (new_bus bus.ports) refl t ∙ call_level-run [] t (new_bus bus.ports)

still-ports : (n : ℕ) (bus : BusState) → (bus_run [] n bus).ports ≡ (bus_run [] n (new_bus bus.ports)).ports
still-ports n bus =
    ap (λ (b : BusState). b.ports) (sym (call_bus-run [] n bus)) ∙ plain-ports [] bus (new_bus bus.ports) refl n
    ∙ ap (λ (b : BusState). b.ports) (call_bus-run [] n (new_bus bus.ports))

-- ---- a call

module _ (hits : List Hit) (bus : BusState) (valid : AllPorts IsPort bus.ports) where
  same-call : (frames : List Parts) → IsQuietCall hits bus.ports frames → IsQuietCall [] bus.ports frames
  same-call frames call = subst (λ none. IsQuietCall none bus.ports frames) call.undisturbed call

  repaired : (frames : List Parts) → IsQuietCall hits bus.ports frames → IsRepairedCall [] (new_bus bus.ports) frames
  repaired frames call = repaired-call (new_bus bus.ports) frames (same-call frames call) refl

  pub call-line : (frames : List Parts) → IsQuietCall hits bus.ports frames → (t : ℕ) → bus_level hits t bus ≡ line_at frames t
  call-line frames call t =
      ap (λ none. bus_level none t bus) call.undisturbed ∙ still-level t bus
      ∙ repaired-line [] (new_bus bus.ports) valid frames (repaired frames call) t ∙ unhit-line frames t

  module _ (n : ℕ) (after : BusState) (ran : after ≡ bus_run hits n bus) where
    abbrev end : BusState
    end = bus_run [] n (new_bus bus.ports)

    plain : (frames : List Parts) → IsQuietCall hits bus.ports frames → end.ports ≡ after.ports
    plain frames call = sym (ap (λ (b : BusState). b.ports) (ran ∙ ap (λ none. bus_run none n bus) call.undisturbed) ∙ still-ports n bus)

    pub call-logs : (frames : List Parts) → IsQuietCall hits bus.ports frames → AtEachPort (LogsBegin frames) bus.ports after.ports
    call-logs frames call =
        subst (AtEachPort (LogsBegin frames) bus.ports) (plain frames call) (repaired-logs [] (new_bus bus.ports) valid frames (repaired frames call) n end refl)

    pub call-whole : (frames : List Parts) → IsQuietCall hits bus.ports frames → span frames ≤ n → AtEachPort (LogsWhole frames) bus.ports after.ports
    call-whole frames call past =
        subst (AtEachPort (LogsWhole frames) bus.ports) (plain frames call)
        (repaired-whole [] (new_bus bus.ports) valid frames (repaired frames call) n end refl (omega (arith, past, quiet-span frames)))

    pub call-counters : (frames : List Parts) → IsQuietCall hits bus.ports frames → AtEachPort CountsNothing bus.ports after.ports
    call-counters frames call =
        subst (AtEachPort CountsNothing bus.ports) (plain frames call) (repaired-unmoved [] (new_bus bus.ports) valid frames (repaired frames call) n end refl refl)

    pub call-missed : (frames : List Parts) → IsQuietCall hits bus.ports frames → AtEachPort MissesNothing bus.ports after.ports
    call-missed frames call =
        subst (AtEachPort MissesNothing bus.ports) (plain frames call) (repaired-missed [] (new_bus bus.ports) valid frames (repaired frames call) n end refl)
