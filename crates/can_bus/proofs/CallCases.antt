-- A call with offers and hits, if it has no offers or no hits: it is the run, or what is played.
use Rattle.std.proofs.Common.{◌≡◌, ℕ, suc, Some, None, Ok, Err, List, [], length, map, sym, ap, subst, ◌∙◌}
use Rattle.std.proofs.lemmas.List.{length-map}
use Rattle.std.specs.Prelude.{◌↔◌, IfOk, IsOk, OnOk, Result}
use Rattle.can_node.specs.Ports.{PortState, port_drives}
use Rattle.can_bus.specs.declared.offer.Offer.{Offer}
use Rattle.can_terms.specs.Hits.{AreTaken}
use Rattle.can_bus.specs.Offers.{AreOffered, all_made, call_after, call_level, offered_now, played, played_level}
use Rattle.can_bus.specs.Run.{BusState, CallState, bus_after, bus_level, bus_run, bus_step, call_begun, recorded, rest_after}
use Rattle.can_bus.specs.Wired.{wired}
use Rattle.can_bus.proofs.CallLemmas.{call-time}
use Rattle.can_bus.proofs.HitRuns.{all-see, sees}

pub no-hits : (ports : ℕ) → AreTaken ports []
no-hits ports place hit at = absurd (let h : None ≡ Some hit = at in cc)

-- ---- what holds of a result

pub offers-taken : {X T E : Type 0} (state : X → PortState) (xs : List X) (offers : List Offer) (r : Result T E) → (IsOk r ↔ (AreOffered (length xs) offers × AreTaken (length xs) [])) →
    AreOffered (length (map state xs)) offers → IsOk r
offers-taken state xs offers r taken offered = taken.1 (subst (λ n. AreOffered n offers) (length-map xs state) offered, no-hits (length xs))

pub if-ok : {T E : Type 0} (r : Result T E) (P Q : T → Type 0) → ((x : T) → P x → Q x) → IfOk r P → IfOk r Q
if-ok (Ok x) P Q k h = k x h
if-ok (Err e) P Q k h = h

pub ok-on : {T E : Type 0} (r : Result T E) (A : Type 0) → IsOk r → OnOk r A → A
ok-on (Ok x) A ok h = h
ok-on (Err e) A ok h = cc

pub ok-is : {E : Type 0} (r : Result ℕ E) (n : ℕ) → IsOk r → IfOk r (λ count. count ≡ n) → r ≡ Ok n
ok-is (Ok x) n ok h = ap Ok h
ok-is (Err e) n ok h = cc

-- ---- without hits

pub plain-bus : (c : CallState) → (bus_step [] c).bus ≡ record { ports = map (sees (wired (map port_drives c.bus.ports))) c.bus.ports; rest = rest_after c.bus.rest (wired (map port_drives c.bus.ports)) }
unfolding bus_step recorded
plain-bus c =
    let x = wired (map port_drives c.bus.ports) in
    ap (λ ps. let b : BusState = record { ports = ps; rest = rest_after c.bus.rest x } in b) (all-see [] tt c.time 0 x c.bus.ports)

pub run_one : (bus : BusState) → bus_run [] 1 bus ≡ record { ports = map (sees (wired (map port_drives bus.ports))) bus.ports; rest = rest_after bus.rest (wired (map port_drives bus.ports)) }
unfolding bus_run bus_after
run_one bus = plain-bus (call_begun bus)

-- it goes one bit time after another, before each of which the offers of its number are made
module _ (offers : List Offer) (bus : BusState) (n : ℕ) where
  abbrev now : BusState
  now = record (played offers n bus) { ports = all_made offers n (played offers n bus).ports }

  offered-is : (offered_now offers (call_after offers [] n bus)).bus ≡ now
  offered-is = ap (λ t. record (played offers n bus) { ports = all_made offers t (played offers n bus).ports }) (call-time offers [] bus n)

  pub played-next : played offers (suc n) bus ≡ bus_run [] 1 now
  unfolding call_after
  played-next =
      plain-bus (offered_now offers (call_after offers [] n bus))
      ∙ ap (λ (b : BusState). let x = wired (map port_drives b.ports) in let next : BusState = record { ports = map (sees x) b.ports; rest = rest_after b.rest x } in next) offered-is
      ∙ sym (run_one now)

  pub played-level : played_level offers n bus ≡ bus_level [] 0 now
  unfolding call_level bus_level bus_after recorded
  played-level = ap (λ (b : BusState). wired (map port_drives b.ports)) offered-is
