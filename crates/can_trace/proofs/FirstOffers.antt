-- A scenario all frames of which have time 0 runs as a bus at which they wait.
use Rattle.std.specs.Prelude.{slice_get, All}
use Rattle.std.proofs.Common.{◌≡◌, ℕ, zero, suc, ◌+◌, Some, List, [], ◌∷◌, map, refl, sym, ap, subst, ◌∙◌, arith}
use Rattle.can_terms.specs.declared.hit.Hit.{Hit}
use Rattle.can_bus.specs.declared.offer.Offer.{Offer}
use Rattle.can_bus.specs.Offers.{all_made, call_after, played, played_level}
use Rattle.can_bus.specs.OpenBus.{with_first}
use Rattle.can_bus.specs.Timed.{timed}
use Rattle.can_bus.specs.Run.{BusState, bus_after, bus_level, bus_run, new_bus}
use Rattle.can_bus.proofs.Members.{Stands, stands-here, stands-later}
use Rattle.can_bus.proofs.OfferTimes.{at-now, offered_at}
use Rattle.can_bus.proofs.OpenAtOnce.{at_once-level, at_once-run}
use Rattle.can_bus.proofs.OpenStart.{rooms}
use Rattle.can_bus.proofs.PlayedRuns.{all-taken, all_arrived, arriving}
use Rattle.can_scenario_text.specs.declared.scenario.Scenario.{Scenario}
use Rattle.can_scenario_text.specs.declared.scenario.PortPlan.{PortPlan}
use Rattle.can_scenario_text.specs.declared.scenario.TimedFrame.{TimedFrame}
use Rattle.can_trace.specs.QuietReport.{AreFirst}
use Rattle.can_trace.specs.Report.{PortReport, ended_with, frames_of_queue, level_by, levels_until, made_bus, made_port, report, report_text, reported, waiting_bus, waiting_port, waiting_report}
use Rattle.can_trace.specs.ScenarioOffers.{in_time, offer_to, offers_from, scenario_offers}
use Rattle.can_trace.proofs.OfferOrder.{in_time-first}
use Rattle.can_trace.proofs.OpenReports.{levels-same, planned-room}
use Rattle.can_trace.proofs.PlannedOffers.{own-is}
use Rattle.can_trace.proofs.QuietReports.{all-at, first-offers, offers-at_once}
use Rattle.can_node.proofs.Arrivals.{gains, offered-gains}

-- ---- the ports

-- pending frames are not reported
told-alike : (plans : List PortPlan) → map reported (map made_port plans) ≡ map reported (map waiting_port plans)
told-alike [] = refl
told-alike (plan ∷ plans) =
    ap (λ (r : PortReport). r ∷ map reported (map made_port plans)) (sym (ap reported (offered-gains (frames_of_queue plan) (made_port plan))))
    ∙ ap (λ rs. reported (waiting_port plan) ∷ rs) (told-alike plans)

now-frames : (n : ℕ) (queue : List TimedFrame) → ((x : TimedFrame) → Stands queue x → x.time ≡ 0) → offered_at (map timed (map (offer_to n) queue)) 0 ≡ map (λ (x : TimedFrame). x.frame) queue
now-frames n [] first = refl
now-frames n (x ∷ queue) first =
    at-now (timed (offer_to n x)) (map timed (map (offer_to n) queue)) 0 (first x (stands-here x queue))
    ∙ ap (λ fs. x.frame ∷ fs) (now-frames n queue (λ y there. first y (stands-later x queue y there)))

module _ (plans : List PortPlan) (first : All AreFirst plans) where
  abbrev offers : List Offer
  offers = in_time (offers_from 0 plans)

  as-they-are : offers ≡ offers_from 0 plans
  as-they-are = in_time-first (offers_from 0 plans) (first-offers plans first)

  -- what a port is offered at time 0 is its queue
  arrive : (n : ℕ) (plan : PortPlan) → slice_get plans n ≡ Some plan → arriving offers n 0 ≡ frames_of_queue plan
  arrive n plan there =
      ap (λ os. arriving os n 0) as-they-are ∙ ap (λ os. offered_at (map timed os) 0) (own-is plans n plan there)
      ∙ now-frames n plan.queue.items (λ x at. all-at (λ (y : TimedFrame). y.time ≡ 0) plan.queue.items x (all-at AreFirst plans plan first (n, there)) at)

  all-arrive : (number : ℕ) (some : List PortPlan) → ((n : ℕ) (plan : PortPlan) → slice_get some n ≡ Some plan → slice_get plans (number + n) ≡ Some plan) →
      all_arrived offers 0 number (map made_port some) ≡ map waiting_port some
  all-arrive number [] within = refl
  all-arrive number (plan ∷ some) within =
      let here : number + 0 ≡ number = omega arith in
      let next : (n : ℕ) → (number + 1) + n ≡ number + suc n = λ n. omega arith in
      let own : arriving offers number 0 ≡ frames_of_queue plan = arrive number plan (subst (λ k. slice_get plans k ≡ Some plan) here (within 0 plan refl)) in
      ap (λ fs. gains fs (made_port plan) ∷ all_arrived offers 0 (number + 1) (map made_port some)) own
      ∙ ap (λ p. p ∷ all_arrived offers 0 (number + 1) (map made_port some)) (sym (offered-gains (frames_of_queue plan) (made_port plan)))
      ∙ ap (λ ps. waiting_port plan ∷ ps) (all-arrive (number + 1) some (λ n other there. subst (λ k. slice_get plans k ≡ Some other) (sym (next n)) (within (suc n) other there)))

  -- with the offers of time 0 made all frames wait
  pub made-first : all_made (in_time (offers_from 0 plans)) 0 (map made_port plans) ≡ map waiting_port plans
  made-first =
      let zero-first : (n : ℕ) → 0 + n ≡ n = λ n. omega arith in
      all-taken offers 0 (map made_port plans) (rooms offers (map made_port plans) (planned-room plans)).0
      ∙ all-arrive 0 plans (λ n plan there. subst (λ k. slice_get plans k ≡ Some plan) (sym (zero-first n)) there)

-- ---- the run

module _ (s : Scenario) (first : All AreFirst s.ports.items) where
  waits : with_first (scenario_offers s) (made_bus s) ≡ waiting_bus s
  waits = ap new_bus (made-first s.ports.items first)

  level-first : (t : ℕ) → played_level (scenario_offers s) t (made_bus s) ≡ bus_level [] t (waiting_bus s)
  level-first t = at_once-level (scenario_offers s) (offers-at_once s first) t (made_bus s) ∙ ap (bus_level [] t) waits

  ports-first : (n : ℕ) → map reported (played (scenario_offers s) n (made_bus s)).ports ≡ map reported (bus_run [] n (waiting_bus s)).ports
  unfolding call_after bus_run bus_after
  ports-first zero = told-alike s.ports.items
  ports-first (suc n) = ap (λ (b : BusState). map reported b.ports) (at_once-run (scenario_offers s) (offers-at_once s first) (suc n) (made_bus s) (omega arith) ∙ ap (bus_run [] (suc n)) waits)

  by-hits : (hits : List Hit) → report_text (levels_until (level_by hits s) s.bits) (map reported (ended_with hits s).ports)
      ≡ report_text (levels_until (λ t. bus_level hits t (waiting_bus s)) s.bits) (map reported (bus_run hits s.bits (waiting_bus s)).ports)
  by-hits [] =
      ap (λ levels. report_text levels (map reported (played (scenario_offers s) s.bits (made_bus s)).ports))
      (levels-same (λ t. played_level (scenario_offers s) t (made_bus s)) (λ t. bus_level [] t (waiting_bus s)) level-first s.bits)
      ∙ ap (report_text (levels_until (λ t. bus_level [] t (waiting_bus s)) s.bits)) (ports-first s.bits)
  by-hits (hit ∷ hits) = refl

  pub first-report : report s ≡ waiting_report s
  first-report = by-hits s.hits.items
