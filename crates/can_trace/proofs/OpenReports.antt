-- The report of an open scenario: the track of its starts, and at each port all frames in the order in which they start.
use Rattle.std.specs.Prelude.{slice_get, option_map, if◌then◌else◌}
use Rattle.std.specs.List.Sorted.{IsPermutation}
use Rattle.std.proofs.Common.{◌≡◌, ℕ, zero, suc, ◌+◌, ◌<◌, ◌≤◌, Bool, Some, None, List, [], ◌∷◌, ◌++◌, length, map, get_or, refl, sym, ap, subst, ◌∙◌, arith}
use Rattle.std.proofs.lemmas.Bool.{le-leb, lt-ltb}
use Rattle.std.proofs.lemmas.List.{length-map}
use Rattle.std.proofs.lemmas.List.Sorted.{IsPermutation-sym, length_permutation, list_any-IsPermutation}
use Rattle.std.proofs.lemmas.Option.{get_or_from_slice_get, slice_get-map, slice_get_within}
use Rattle.can_frame.specs.declared.level.Level.{Level}
use Rattle.can_frame.specs.Parts.{Parts}
use Rattle.can_fault.specs.Counters.{ConfineParts, fresh}
use Rattle.can_mac.specs.State.{idle, joining}
use Rattle.can_node.specs.declared.entry.Entry.{Entry}
use Rattle.can_node.specs.Ports.{PortState, IsPort, fresh_port, port_holding, same_field}
use Rattle.can_bus.specs.declared.offer.Offer.{Offer}
use Rattle.can_bus.specs.Offers.{AreOffered, call_after, played, played_level}
use Rattle.can_bus.specs.OpenBus.{AreOver, IsOpenCall, OpenLogWhole}
use Rattle.can_bus.specs.Quiet.{AreDifferent, AtEachPort, CountsNothing, IsQuietPort, MissesNothing, holds, marked, queued, AtEachNode}
use Rattle.can_bus.specs.Run.{BusState}
use Rattle.can_bus.specs.Schedule.{IsScheduleOf, track_at}
use Rattle.can_bus.specs.Timed.{TimedParts, frames_of, all_offers, offered_to, own_offers, timed, QueuesHaveRoom}
use Rattle.can_bus.proofs.CallCases.{played-next}
use Rattle.can_bus.proofs.CourseSchedules.{one-schedule}
use Rattle.can_bus.proofs.Ascending.{different_permuted}
use Rattle.can_bus.proofs.Contests.{AllPorts}
use Rattle.can_bus.proofs.Members.{stands-permuted}
use Rattle.can_bus.proofs.OfferLemmas.{length-all_made}
use Rattle.can_bus.proofs.OpenNetworks.{open-counters, open-missed, open-track, open-whole}
use Rattle.can_bus.proofs.OpenStart.{OfFrames}
use Rattle.can_bus.proofs.RunLemmas.{length-run}
use Rattle.can_scenario_text.specs.declared.scenario.Scenario.{Scenario}
use Rattle.can_scenario_text.specs.declared.scenario.PortPlan.{PortPlan}
use Rattle.can_trace.specs.OpenReport.{IsOpenScenario, IsReadyPlan, all_frames, open_report, queues, quiet_port, scenario_starts}
use Rattle.can_trace.specs.Report.{PortReport, ended_bus, ended_with, recorded_levels, frames_of_queue, level_by, levels_until, made_bus, made_port, report, reported, report_text}
use Rattle.can_trace.specs.ScenarioOffers.{in_time, offers_from, scenario_offers}
use Rattle.can_trace.proofs.Started.{levels_until-is}
use Rattle.can_trace.proofs.OfferOrder.{in_time-is, in_time-permuted}
use Rattle.can_trace.proofs.PlannedOffers.{all-permuted, offers-named, own-permuted, own-size}

-- ---- the ports as they are made

-- each of them is quiet
abbrev pub AllQuiet : ℕ → List PortPlan → Type 0
AllQuiet entries plans = (n : ℕ) (plan : PortPlan) → slice_get plans n ≡ Some plan → IsReadyPlan entries plan

-- a quiet port as it is made
abbrev pub fresh_quiet : PortPlan → PortState
fresh_quiet plan = port_holding 0 (fresh_port idle (length plan.queue.items) plan.log_room)

pub made-quiet : (entries : ℕ) (plan : PortPlan) → IsReadyPlan entries plan → made_port plan ≡ fresh_quiet plan
made-quiet entries plan quiet =
    ap (λ joins. port_holding plan.overloads (fresh_port (if joins then joining else idle) (length plan.queue.items) plan.log_room)) quiet.idle
    ∙ ap (λ n. port_holding n (fresh_port idle (length plan.queue.items) plan.log_room)) quiet.unasked

pub quiet-port : (entries : ℕ) (plan : PortPlan) → IsReadyPlan entries plan → IsQuietPort entries (made_port plan)
quiet-port entries plan quiet =
    subst (IsQuietPort entries) (sym (made-quiet entries plan quiet)) (record { idle = refl; tec = refl; rec = refl; unasked = refl; empty = refl; room = quiet.room })

nothing-queued : (plans : List PortPlan) → queued (map made_port plans) ≡ []
nothing-queued [] = refl
nothing-queued (plan ∷ plans) = nothing-queued plans

-- ---- the offers

-- offers to ports that are there, in the order of time
pub offered : (plans : List PortPlan) → AreOffered (length plans) (in_time (offers_from 0 plans))
offered plans place item there = (
  λ n last after before.
      let rising = (in_time-is (offers_from 0 plans)).rising in
      let within = slice_get_within (in_time (offers_from 0 plans)) place item there in
      let times : (get_or (in_time (offers_from 0 plans)) n last).time ≤ (get_or (in_time (offers_from 0 plans)) place last).time = rising n place last (omega (arith, after)) within in
      let first : get_or (in_time (offers_from 0 plans)) n last ≡ last = get_or_from_slice_get (in_time (offers_from 0 plans)) n last last before in
      let second : get_or (in_time (offers_from 0 plans)) place last ≡ item = get_or_from_slice_get (in_time (offers_from 0 plans)) place item last there in
      le-leb last.time item.time
      (subst (λ (o : Offer). o.time ≤ item.time) first (subst (λ (o : Offer). (get_or (in_time (offers_from 0 plans)) n last).time ≤ o.time) second times)),
  lt-ltb item.node (length plans)
      (let named = offers-named 0 plans item (stands-permuted (in_time (offers_from 0 plans)) (offers_from 0 plans) item (in_time-permuted (offers_from 0 plans)) (place, there)) in
      omega (arith, named)),
)

-- which plan a port is made by
plan-of : (plans : List PortPlan) (n : ℕ) (p : PortState) → slice_get (map made_port plans) n ≡ Some p → (plan : PortPlan) × (slice_get plans n ≡ Some plan) × (p ≡ made_port plan)
plan-of [] n p there = absurd (let e : None ≡ Some p = there in cc)
plan-of (plan ∷ plans) zero p there = (plan, refl, (let e : Some (made_port plan) ≡ Some p = there in cc))
plan-of (plan ∷ plans) (suc n) p there = plan-of plans n p there

-- each queue has space for what its port is offered
pub planned-room : (plans : List PortPlan) → QueuesHaveRoom (in_time (offers_from 0 plans)) (map made_port plans)
planned-room plans n p there =
    let offers = in_time (offers_from 0 plans) in
    let of = plan-of plans n p there in
    let fits : length (own_offers offers n (made_port of.0)) ≤ (made_port of.0).queue_room = omega (arith, own-size plans n of.0 of.1) in
    subst (λ (q : PortState). length (own_offers offers n q) ≤ q.queue_room) (sym of.2) fits

-- the marks are those of the same frames in another order
pub marked-same : (own queue frames : List Parts) → IsPermutation own queue → marked own frames ≡ marked queue frames
marked-same own queue [] same = refl
marked-same own queue (f ∷ frames) same =
    let entry : Bool → Entry = λ sent. record { frame = f; sent = sent } in
    ap (λ sent. entry sent ∷ marked own frames) (list_any-IsPermutation (same_field f) own queue same)
    ∙ ap (λ log. entry (holds queue f) ∷ log) (marked-same own queue frames same)

module _ (s : Scenario) (is : IsOpenScenario s) where
  abbrev plans : List PortPlan
  plans = s.ports.items

  abbrev ports : List PortState
  ports = map made_port plans

  abbrev offers : List Offer
  offers = scenario_offers s

  abbrev starts : List TimedParts
  starts = scenario_starts s

  all-are : all_offers offers ports ≡ map timed offers
  all-are = ap (λ fs. map (λ (f : Parts). let x : TimedParts = record { time = 0; frame = f } in x) fs ++ map timed offers) (nothing-queued plans)

  different : AreDifferent (frames_of (map timed offers))
  different =
      different_permuted (all_frames (queues s)) (frames_of (map timed offers)) (IsPermutation-sym (frames_of (map timed offers)) (all_frames (queues s)) (all-permuted plans)) is.different

  size : length (all_offers offers ports) ≡ length (all_frames (queues s))
  size =
      ap length all-are ∙ sym (length-map (map timed offers) (λ (x : TimedParts). x.frame))
      ∙ sym (length_permutation (frames_of (map timed offers)) (all_frames (queues s)) (all-permuted plans))

  -- the premises of the theorem
  pub open-call : IsOpenCall (scenario_offers s) (map made_port s.ports.items) (scenario_starts s)
  open-call = record {
    two = omega (arith, is.two, length-map plans made_port);
    most = omega (arith, s.few, length-map plans made_port);
    offered = subst (λ n. AreOffered n offers) (sym (length-map plans made_port)) (offered plans);
    quiet = λ n p there.
        let of = plan-of plans n p there in
        subst (IsQuietPort (length (all_offers offers ports))) (sym of.2)
        (subst (λ k. IsQuietPort k (made_port of.0)) (sym size) (quiet-port (length (all_frames (queues s))) of.0 (is.quiet n of.0 of.1)));
    room = planned-room plans;
    scheduled = subst (λ all. IsScheduleOf all starts) (sym all-are) (one-schedule (map timed offers) different);
  }

  -- ---- the reports of the ports at the end

  -- the whole line in the log, and nothing counted or missed
  abbrev EndsOpen : ℕ → PortState → PortState → Type 0
  EndsOpen n p q = OpenLogWhole offers starts n p q × CountsNothing p q × MissesNothing p q

  told : (n : ℕ) (plan : PortPlan) (q : PortState) → slice_get plans n ≡ Some plan → EndsOpen n (made_port plan) q → reported q ≡ quiet_port (frames_of starts) (frames_of_queue plan)
  told n plan q there ends =
      let quiet : made_port plan ≡ fresh_quiet plan = made-quiet (length (all_frames (queues s))) plan (is.quiet n plan there) in
      let log : q.log ≡ marked (frames_of_queue plan) (frames_of starts) =
      ends.0 ∙ marked-same (frames_of (offered_to n offers)) (frames_of_queue plan) (frames_of starts) (own-permuted plans n plan there) in
      let counters : q.mac.counters ≡ fresh = ends.1 ∙ ap (λ (p : PortState). p.mac.counters) quiet in
      let missed : q.missed ≡ 0 = ends.2 ∙ ap (λ (p : PortState). p.missed) quiet in
      ap (λ (c : ConfineParts). reported (record q { mac = record q.mac { counters = c } })) counters
      ∙ ap (λ (n : ℕ). record (quiet_port (frames_of starts) (frames_of_queue plan)) { missed = n; log = q.log }) missed
      ∙ ap (λ (entries : List Entry). record (quiet_port (frames_of starts) (frames_of_queue plan)) { log = entries }) log

  all-told : (number : ℕ) (some : List PortPlan) (after : List PortState) → ((n : ℕ) (plan : PortPlan) → slice_get some n ≡ Some plan → slice_get plans (number + n) ≡ Some plan) →
      length after ≡ length some →
      ((n : ℕ) (plan : PortPlan) (q : PortState) → slice_get some n ≡ Some plan → slice_get after n ≡ Some q → EndsOpen (number + n) (made_port plan) q) →
      map reported after ≡ map (quiet_port (frames_of starts)) (map frames_of_queue some)
  all-told number [] [] within size ends = refl
  all-told number [] (q ∷ after) within size ends = absurd (omega (arith, size))
  all-told number (plan ∷ some) [] within size ends = absurd (omega (arith, size))
  all-told number (plan ∷ some) (q ∷ after) within size ends =
      let next : (n : ℕ) → (number + 1) + n ≡ number + suc n = λ n. omega arith in
      ap (λ (r : PortReport). r ∷ map reported after) (told (number + 0) plan q (within 0 plan refl) (ends 0 plan q refl refl))
      ∙ ap (λ reports. quiet_port (frames_of starts) (frames_of_queue plan) ∷ reports)
      (all-told (number + 1) some after
      (λ n other there. subst (λ k. slice_get plans k ≡ Some other) (sym (next n)) (within (suc n) other there)) (omega (arith, size))
      (λ n other r there now. subst (λ k. EndsOpen k (made_port other) r) (sym (next n)) (ends (suc n) other r there now)))

  pub ports-told : (after : List PortState) → length after ≡ length s.ports.items → AtEachNode (OpenLogWhole (scenario_offers s) (scenario_starts s)) (map made_port s.ports.items) after →
      AtEachPort CountsNothing (map made_port s.ports.items) after → AtEachPort MissesNothing (map made_port s.ports.items) after →
      map reported after ≡ map (quiet_port (frames_of (scenario_starts s))) (queues s)
  ports-told after size logs counters missed =
      let zero-first : (n : ℕ) → 0 + n ≡ n = λ n. omega arith in
      all-told 0 plans after (λ n plan there. subst (λ k. slice_get plans k ≡ Some plan) (sym (zero-first n)) there) size
      (λ n plan q there now.
      let before : slice_get ports n ≡ Some (made_port plan) = slice_get-map made_port plans n ∙ ap (λ o. option_map made_port o) there in
      subst (λ k. EndsOpen k (made_port plan) q) (sym (zero-first n)) (logs n (made_port plan) q before now, counters n (made_port plan) q before now, missed n (made_port plan) q before now))

-- ---- the report

pub levels-same : (f g : ℕ → Level) → ((t : ℕ) → f t ≡ g t) → (n : ℕ) → levels_until f n ≡ levels_until g n
levels-same f g same zero = refl
levels-same f g same (suc n) = ap (λ levels. levels ++ f n ∷ []) (levels-same f g same n) ∙ ap (λ x. levels_until g n ++ x ∷ []) (same n)

pub length-played : (offers : List Offer) (n : ℕ) (bus : BusState) → length (played offers n bus).ports ≡ length bus.ports
unfolding call_after
length-played offers zero bus = refl
length-played offers (suc n) bus = ap (λ (b : BusState). length b.ports) (played-next offers bus n) ∙ length-run [] 1 _ ∙ length-all_made offers n (played offers n bus).ports ∙ length-played offers n bus

-- the report of a scenario without disturbances
abbrev pub played_report : Scenario → List ℕ
played_report s = report_text (levels_until (λ t. played_level (scenario_offers s) t (made_bus s)) s.bits) (map reported (played (scenario_offers s) s.bits (made_bus s)).ports)

pub undisturbed-report : (s : Scenario) → s.hits.items ≡ [] → report s ≡ played_report s
undisturbed-report s none = ap (λ hits. report_text (levels_until (level_by hits s) s.bits) (map reported (ended_with hits s).ports)) none

-- the report of an open scenario, as the definition of a run has it
module _ (s : Scenario) (valid : AllPorts IsPort (map made_port s.ports.items)) (framed : OfFrames (scenario_offers s)) (is : IsOpenScenario s) where
  pub report-open : AreOver (scenario_starts s) s.bits → report s ≡ open_report s.bits (scenario_starts s) (queues s)
  report-open past =
      let offers = scenario_offers s in
      let starts = scenario_starts s in
      let call = open-call s is in
      let after = played offers s.bits (made_bus s) in
      undisturbed-report s is.undisturbed
      ∙ ap (λ levels. report_text levels (map reported after.ports))
      (levels-same (λ t. played_level offers t (made_bus s)) (track_at starts) (open-track offers starts (made_bus s) valid framed call) s.bits)
      ∙ ap (report_text (levels_until (track_at starts) s.bits))
      (ports-told s is after.ports (length-played offers s.bits (made_bus s) ∙ length-map s.ports.items made_port)
      (open-whole offers starts (made_bus s) valid framed call s.bits after refl past)
      (open-counters offers starts (made_bus s) valid framed call s.bits after refl)
      (open-missed offers starts (made_bus s) valid framed call s.bits after refl))

-- the same, from what is known of levels that were recorded and of ports that have ended
pub played-told : (s : Scenario) (is : IsOpenScenario s) (levels : List Level) (after : List PortState) → levels ≡ recorded_levels s → after ≡ (ended_bus s).ports → length levels ≡ s.bits →
    ((t : ℕ) → t < length levels → slice_get levels t ≡ Some (track_at (scenario_starts s) t)) →
    AtEachNode (OpenLogWhole (scenario_offers s) (scenario_starts s)) (map made_port s.ports.items) after →
    AtEachPort CountsNothing (map made_port s.ports.items) after → AtEachPort MissesNothing (map made_port s.ports.items) after →
    report s ≡ open_report s.bits (scenario_starts s) (queues s)
played-told s is levels after recorded ended size known logs counters missed =
    let ports : map reported after ≡ map (quiet_port (frames_of (scenario_starts s))) (queues s) =
    ports-told s is after
    (ap length ended ∙ ap (λ (b : BusState). length b.ports) (ap (λ hits. ended_with hits s) is.undisturbed)
    ∙ length-played (scenario_offers s) s.bits (made_bus s) ∙ length-map s.ports.items made_port)
    logs counters missed in
    let track : levels ≡ levels_until (track_at (scenario_starts s)) s.bits =
    levels_until-is (track_at (scenario_starts s)) s.bits levels size (λ t h. known t (omega (arith, h, size))) in
    ap (λ (ps : List PortState). report_text (recorded_levels s) (map reported ps)) (sym ended)
    ∙ ap (report_text (recorded_levels s)) ports
    ∙ ap (λ ls. report_text ls (map (quiet_port (frames_of (scenario_starts s))) (queues s))) (sym recorded ∙ track)

-- and from what a bus promises that is played
pub scheduled-told : (s : Scenario) (is : IsOpenScenario s) (levels : List Level) (offers : List Offer) (before after : List PortState) →
    offers ≡ scenario_offers s → before ≡ map made_port s.ports.items → levels ≡ recorded_levels s → after ≡ (ended_bus s).ports → length levels ≡ s.bits → AreOver (scenario_starts s) s.bits →
    ((starts : List TimedParts) → IsOpenCall offers before starts → (t : ℕ) → t < length levels → slice_get levels t ≡ Some (track_at starts t)) →
    ((starts : List TimedParts) → IsOpenCall offers before starts → AreOver starts (length levels) → AtEachNode (OpenLogWhole offers starts) before after) →
    ((starts : List TimedParts) → IsOpenCall offers before starts → AtEachPort CountsNothing before after) → ((starts : List TimedParts) → IsOpenCall offers before starts → AtEachPort MissesNothing before after) →
    report s ≡ open_report s.bits (scenario_starts s) (queues s)
scheduled-told s is levels offers before after are from recorded ended size past track whole counters missed =
    let starts = scenario_starts s in
    let call : IsOpenCall offers before starts =
    subst (λ os. IsOpenCall os before starts) (sym are) (subst (λ ports. IsOpenCall (scenario_offers s) ports starts) (sym from) (open-call s is)) in
    played-told s is levels after recorded ended size (track starts call)
    (subst (λ os. AtEachNode (OpenLogWhole os starts) (map made_port s.ports.items) after) are
    (subst (λ ports. AtEachNode (OpenLogWhole offers starts) ports after) from (whole starts call (subst (AreOver starts) (sym size) past))))
    (subst (λ ports. AtEachPort CountsNothing ports after) from (counters starts call))
    (subst (λ ports. AtEachPort MissesNothing ports after) from (missed starts call))
