-- The ports of a scenario as they are made, and the levels that are recorded.
use Rattle.std.specs.List.{slice_get}
use Rattle.std.proofs.Common.{◌≡◌, ◌≢◌, ℕ, zero, suc, refl, ◌+◌, ◌<◌, ◌≤◌, Some, List, [], ◌∷◌, ◌++◌, length, map, get_or, set, take, drop, sym, ap, ◌∙◌, arith, length-take}
use Rattle.std.proofs.lemmas.List.{nil_from_length, get_or-take, length-map, map_more, map_push, take_all, take_more}
use Rattle.std.proofs.lemmas.Option.{slice_get-get_or, get_or_from_slice_get}
use Rattle.can_frame.specs.declared.level.Level.{Level}
use Rattle.can_frame.specs.declared.level.Level.TheVariants.{Recessive}
use Rattle.can_node.specs.Ports.{PortState}
use Rattle.can_terms.specs.declared.hit.Hit.{Hit}
use Rattle.can_bus.specs.declared.offer.Offer.{Offer}
use Rattle.can_bus.specs.Offers.{played, played_level}
use Rattle.can_bus.specs.Run.{BusState, bus_level, bus_run}
use Rattle.can_trace.specs.Report.{ended_bus, ended_with, level_by, levels_until, made_bus, made_port, recorded_levels, waiting_bus, waiting_port}
use Rattle.can_trace.specs.ScenarioOffers.{scenario_offers}
use Rattle.can_scenario_text.specs.declared.scenario.PortPlan.{PortPlan}
use Rattle.can_scenario_text.specs.declared.scenario.Scenario.{Scenario}

-- one port more is made
pub made-next : {N : Type 0} (port : N → PortState) (nodes : List N) (plans : List PortPlan) (n : ℕ) (node : N) (plan : PortPlan) → n < length plans →
    map port nodes ≡ map made_port (take n plans) → port node ≡ made_port plan → plan ≡ get_or plans n plan → map port (nodes ++ node ∷ []) ≡ map made_port (take (n + 1) plans)
made-next port nodes plans n node plan h before made is =
    map_push port nodes node ∙ ap (λ ports. ports ++ port node ∷ []) before
    ∙ ap (λ p. map made_port (take n plans) ++ p ∷ []) (made ∙ ap made_port is) ∙ sym (map_more made_port plans n plan h)

pub made-all : {N : Type 0} (port : N → PortState) (nodes : List N) (plans : List PortPlan) (n : ℕ) → length plans ≤ n → map port nodes ≡ map made_port (take n plans) →
    map port nodes ≡ map made_port plans
made-all port nodes plans n h before = before ∙ ap (map made_port) (take_all n plans h)

-- there are as many ports as plans
pub made-size : {N : Type 0} (port : N → PortState) (nodes : List N) (plans : List PortPlan) → map port nodes ≡ map made_port plans → length nodes ≡ length plans
made-size port nodes plans is = sym (length-map nodes port) ∙ ap length is ∙ length-map plans made_port

-- the first i ports have been offered their frames
abbrev pub partly_waiting : ℕ → List PortPlan → List PortState
partly_waiting i plans = map waiting_port (take i plans) ++ map made_port (drop i plans)

pub waits-next : {N : Type 0} (port : N → PortState) (nodes : List N) (plans : List PortPlan) (i : ℕ) (node : N) (plan : PortPlan) → i < length plans →
    map port nodes ≡ partly_waiting i plans → plan ≡ get_or plans i plan → port node ≡ waiting_port plan → map port (set nodes i node) ≡ partly_waiting (suc i) plans
waits-next port nodes [] i node plan h before is waits = absurd (omega arith)
waits-next port [] (p ∷ plans) zero node plan h before is waits = absurd (let e : [] ≡ made_port p ∷ map made_port plans = before in cc)
waits-next port (x ∷ nodes) (p ∷ plans) zero node plan h before is waits =
    let rest : map port nodes ≡ map made_port plans = (let e : port x ∷ map port nodes ≡ made_port p ∷ map made_port plans = before in cc) in
    ap (λ q. q ∷ map port nodes) (waits ∙ ap waiting_port is) ∙ ap (λ qs. waiting_port p ∷ qs) rest
waits-next port [] (p ∷ plans) (suc i) node plan h before is waits = absurd (let e : [] ≡ waiting_port p ∷ partly_waiting i plans = before in cc)
waits-next port (x ∷ nodes) (p ∷ plans) (suc i) node plan h before is waits =
    let whole : port x ∷ map port nodes ≡ waiting_port p ∷ partly_waiting i plans = before in
    let first : port x ≡ waiting_port p = cc in
    let rest : map port nodes ≡ partly_waiting i plans = cc in
    ap (λ q. q ∷ map port (set nodes i node)) first ∙ ap (λ qs. waiting_port p ∷ qs) (waits-next port nodes plans i node plan (omega arith) rest is waits)

-- the next is as it was made
pub waits-not : {N : Type 0} (port : N → PortState) (nodes : List N) (plans : List PortPlan) (i : ℕ) (d : N) (plan : PortPlan) → i < length plans →
    map port nodes ≡ partly_waiting i plans → plan ≡ get_or plans i plan → port (get_or nodes i d) ≡ made_port plan
waits-not port nodes [] i d plan h before is = absurd (omega arith)
waits-not port [] (p ∷ plans) zero d plan h before is = absurd (let e : [] ≡ made_port p ∷ map made_port plans = before in cc)
waits-not port (x ∷ nodes) (p ∷ plans) zero d plan h before is =
    (let e : port x ∷ map port nodes ≡ made_port p ∷ map made_port plans = before in let first : port x ≡ made_port p = cc in first) ∙ ap made_port (sym is)
waits-not port [] (p ∷ plans) (suc i) d plan h before is = absurd (let e : [] ≡ waiting_port p ∷ partly_waiting i plans = before in cc)
waits-not port (x ∷ nodes) (p ∷ plans) (suc i) d plan h before is =
    let whole : port x ∷ map port nodes ≡ waiting_port p ∷ partly_waiting i plans = before in
    let rest : map port nodes ≡ partly_waiting i plans = cc in
    waits-not port nodes plans i d plan (omega arith) rest is

-- levels that are known one by one
pub levels_until-is : (level : ℕ → Level) (n : ℕ) (levels : List Level) → length levels ≡ n → ((t : ℕ) → t < n → slice_get levels t ≡ Some (level t)) → levels ≡ levels_until level n
levels_until-is level zero levels size known = nil_from_length levels size
levels_until-is level (suc n) levels size known =
    let inside : n < length levels = omega arith in
    let short : length (take n levels) ≡ n = omega (arith, length-take n levels) in
    let front : take n levels ≡ levels_until level n = levels_until-is level n (take n levels) short
    (λ t h. let within : t < length (take n levels) = omega arith in
    slice_get-get_or (take n levels) t Recessive within
    ∙ ap Some (get_or-take n levels t Recessive h ∙ get_or_from_slice_get levels t (level t) Recessive (known t (omega arith)))) in
    let last : get_or levels n Recessive ≡ level n = get_or_from_slice_get levels n (level n) Recessive (known n (omega arith)) in
    sym (take_all (n + 1) levels (omega arith)) ∙ take_more levels n Recessive inside
    ∙ ap (λ xs. xs ++ get_or levels n Recessive ∷ []) front ∙ ap (λ x. levels_until level n ++ x ∷ []) last

-- the levels that are recorded
pub recorded-is : (s : Scenario) (levels : List Level) → length levels ≡ s.bits → ((t : ℕ) → t < length levels → slice_get levels t ≡ Some (level_by s.hits.items s t)) →
    levels ≡ recorded_levels s
recorded-is s levels size known = levels_until-is (level_by s.hits.items s) s.bits levels size (λ t h. known t (omega arith))

-- ---- a run without disturbances

pub played-known : (s : Scenario) (levels : List Level) (offers : List Offer) (start : BusState) → s.hits.items ≡ [] → offers ≡ scenario_offers s → start ≡ made_bus s → length levels ≡ s.bits →
    ((t : ℕ) → t < length levels → slice_get levels t ≡ Some (played_level offers t start)) → levels ≡ recorded_levels s
played-known s levels offers start none are from size known =
    recorded-is s levels size (λ t h.
    known t h ∙ ap (λ os. Some (played_level os t start)) are ∙ ap (λ b. Some (played_level (scenario_offers s) t b)) from
    ∙ sym (ap (λ hits. Some (level_by hits s t)) none))

pub played-ends : (s : Scenario) (n : ℕ) (offers : List Offer) (start after : BusState) → s.hits.items ≡ [] → offers ≡ scenario_offers s → start ≡ made_bus s → n ≡ s.bits →
    after ≡ played offers n start → after.ports ≡ (ended_bus s).ports
played-ends s n offers start after none are from size ran =
    ap (λ (b : BusState). b.ports)
    (ran ∙ ap (λ os. played os n start) are ∙ ap (λ b. played (scenario_offers s) n b) from ∙ ap (λ k. played (scenario_offers s) k (made_bus s)) size
    ∙ sym (ap (λ hits. ended_with hits s) none))

-- ---- a run with disturbances, at whose beginning the frames wait

disturbed-level : (s : Scenario) (hits : List Hit) → hits ≢ [] → (t : ℕ) → level_by hits s t ≡ bus_level hits t (waiting_bus s)
disturbed-level s [] some t = absurd (some refl)
disturbed-level s (hit ∷ hits) some t = refl

disturbed-end : (s : Scenario) (hits : List Hit) → hits ≢ [] → ended_with hits s ≡ bus_run hits s.bits (waiting_bus s)
disturbed-end s [] some = absurd (some refl)
disturbed-end s (hit ∷ hits) some = refl

pub disturbed-known : (s : Scenario) (levels : List Level) (start : BusState) → s.hits.items ≢ [] → start ≡ waiting_bus s → length levels ≡ s.bits →
    ((t : ℕ) → t < length levels → slice_get levels t ≡ Some (bus_level s.hits.items t start)) → levels ≡ recorded_levels s
disturbed-known s levels start some from size known =
    recorded-is s levels size (λ t h. known t h ∙ ap (λ b. Some (bus_level s.hits.items t b)) from ∙ sym (ap Some (disturbed-level s s.hits.items some t)))

pub disturbed-ends : (s : Scenario) (n : ℕ) (start after : BusState) → s.hits.items ≢ [] → start ≡ waiting_bus s → n ≡ s.bits → after ≡ bus_run s.hits.items n start →
    after.ports ≡ (ended_bus s).ports
disturbed-ends s n start after some from size ran =
    ap (λ (b : BusState). b.ports)
    (ran ∙ ap (λ b. bus_run s.hits.items n b) from ∙ ap (λ k. bus_run s.hits.items k (waiting_bus s)) size ∙ sym (disturbed-end s s.hits.items some))

-- there are as many ports as plans
pub same-size : {N : Type 0} (port : N → PortState) (from : PortPlan → PortState) (nodes : List N) (plans : List PortPlan) → map port nodes ≡ map from plans → length nodes ≡ length plans
same-size port from nodes plans is = sym (length-map nodes port) ∙ ap length is ∙ length-map plans from
