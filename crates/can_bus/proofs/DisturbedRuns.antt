-- A run, bit time by bit time, is a disturbed run over whole lists of levels, and there is one: a call to which nothing is offered.
use Rattle.std.specs.Prelude.{slice_get}
use Rattle.std.specs.List.{zip}
use Rattle.std.proofs.Common.{◌≡◌, ℕ, ◌+◌, ◌<◌, ◌≤◌, List, [], ◌∷◌, Some, length, map, take, refl, ap, sym, ◌∙◌, subst}
use Rattle.can_frame.specs.declared.level.Level.{Level}
use Rattle.can_node.specs.Ports.{PortState, port_run, port_step}
use Rattle.can_terms.specs.declared.hit.Hit.{Hit}
use Rattle.can_bus.specs.DisturbedPlay.{IsDisturbedPlay, IsDisturbedRun, WasDisturbed, WasPlayed, all_given, played_then, port_played}
use Rattle.can_bus.specs.Offers.{call_after, call_refused}
use Rattle.can_bus.specs.Run.{BusState, bus_level, bus_run}
use Rattle.can_bus.proofs.CallLemmas.{call_bus-run, call_level-run}
use Rattle.can_bus.proofs.DisturbedPlays.{call-played, played-end, played-levels, played-one}
use Rattle.can_bus.proofs.GivenPorts.{given-none}

-- ---- ports to which nothing is offered

port_run-played : (t node : ℕ) (p : PortState) (levels : List Level) → port_played [] t node p levels ≡ port_run p levels
unfolding port_run
port_run-played t node p [] = refl
port_run-played t node p (x ∷ levels) = port_run-played (t + 1) node (port_step p x) levels

pub ports-led : (t node : ℕ) (ports : List PortState) (seen : List (List Level)) → (all_given [] t node ports ≡ ports)
    × (played_then [] t node ports seen ≡ map (λ (beside : PortState × List Level). port_run beside.0 (take t beside.1)) (zip ports seen))
ports-led t node [] [] = (refl, refl)
ports-led t node [] (levels ∷ seen) = (refl, refl)
ports-led t node (p ∷ ports) [] = (sym (given-none t node (p ∷ ports)), refl)
ports-led t node (p ∷ ports) (levels ∷ seen) = (
  sym (given-none t node (p ∷ ports)),
  ap (λ q. q ∷ played_then [] t (node + 1) ports seen) (port_run-played 0 node p (take t levels)) ∙ ap (λ qs. port_run p (take t levels) ∷ qs) (ports-led t (node + 1) ports seen).1,
)

-- ---- what holds of calls holds of runs

pub run-disturbed : (hits : List Hit) (before : BusState) (recorded : List Level) → before.rest ≤ 11 →
    ((t : ℕ) → t < length recorded → slice_get recorded t ≡ Some (bus_level hits t before)) → WasDisturbed hits before recorded (bus_run hits (length recorded) before)
run-disturbed hits before recorded rested told =
    let few = call_refused [] hits (length recorded) before in
    let play : WasPlayed [] hits before recorded (call_after [] hits (length recorded) before).bus few =
    call-played [] hits before recorded rested (λ t within. told t within ∙ ap Some (sym (call_level-run hits t before))) in
    subst (WasDisturbed hits before recorded) (call_bus-run hits (length recorded) before)
    (play.0, play.1, subst (λ n. IsDisturbedPlay [] hits before play.0 recorded play.1 (call_after [] hits (length recorded) before).bus n) play.2.refuses play.2)

pub disturbed-levels : (hits : List Hit) (before after : BusState) (recorded : List Level) → before.rest ≤ 11 → WasDisturbed hits before recorded after →
    (t : ℕ) → t < length recorded → slice_get recorded t ≡ Some (bus_level hits t before)
disturbed-levels hits before after recorded rested run t within =
    played-levels [] hits before after recorded 0 rested run t within ∙ ap Some (call_level-run hits t before)

pub disturbed-end : (hits : List Hit) (before after : BusState) (recorded : List Level) → before.rest ≤ 11 → WasDisturbed hits before recorded after →
    after ≡ bus_run hits (length recorded) before
disturbed-end hits before after recorded rested run =
    played-end [] hits before after recorded 0 rested run ∙ call_bus-run hits (length recorded) before

pub disturbed-one : (hits : List Hit) (before one other : BusState) (wired wires recorded records : List Level) (seen views : List (List Level)) → before.rest ≤ 11 →
    IsDisturbedRun hits before wired recorded seen one → IsDisturbedRun hits before wires records views other → length recorded ≡ length records →
    (recorded ≡ records) × (one ≡ other) × (wired ≡ wires) × (seen ≡ views)
disturbed-one hits before one other wired wires recorded records seen views rested first second long =
    let same = played-one [] hits before one other wired wires recorded records seen views 0 0 rested first second long in
    (same.0, same.1, same.2, same.3)
