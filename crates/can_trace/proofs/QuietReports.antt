-- The report of a quiet scenario: the line of its frames, and at each port all of them.
use Rattle.std.specs.Prelude.{All}
use Rattle.std.specs.List.Sorted.{IsPermutation}
use Rattle.std.proofs.Common.{◌≡◌, ℕ, ◌+◌, ◌≤◌, Some, None, List, [], ◌∷◌, length, map, sym, ap, subst, ◌∙◌, arith, inl, inr}
use Rattle.std.proofs.lemmas.List.Elements.{All-get_or}
use Rattle.std.proofs.lemmas.List.Sums.{sum_by-cons}
use Rattle.std.proofs.lemmas.Option.{get_or_from_slice_get, slice_get_within}
use Rattle.std.proofs.lemmas.List.Sorted.{IsPermutation-sym}
use Rattle.can_frame.specs.Parts.{Parts}
use Rattle.can_wire.specs.Wire.{wire}
use Rattle.can_bus.specs.declared.offer.Offer.{Offer}
use Rattle.can_bus.specs.Course.{IsCourse, IsMade, Transmission, attempted, frames_sent, over}
use Rattle.can_bus.specs.OpenBus.{AreOver}
use Rattle.can_bus.specs.Quiet.{AreDifferent, ascending, line_at, span}
use Rattle.can_bus.specs.Timed.{AreAtOnce, TimedParts, frames_of, timed}
use Rattle.can_bus.specs.Schedule.{track_at}
use Rattle.can_bus.proofs.CourseSchedules.{one-schedule, one_unhit, schedule-frames, unhit-frames, unhit-made}
use Rattle.can_bus.proofs.Fields.{without-listed}
use Rattle.can_bus.proofs.Ascending.{ascending_permuted, different_permuted}
use Rattle.can_bus.proofs.AtOnce.{at_once-frames, at_once-line}
use Rattle.can_bus.proofs.Members.{Stands, map-stands, stands-permuted}
use Rattle.can_bus.proofs.LeftOffers.{offered-stands}
use Rattle.can_bus.proofs.QuietAgreement.{span-permuted}
use Rattle.can_scenario_text.specs.declared.scenario.Scenario.{Scenario}
use Rattle.can_scenario_text.specs.declared.scenario.PortPlan.{PortPlan}
use Rattle.can_scenario_text.specs.declared.scenario.TimedFrame.{TimedFrame}
use Rattle.can_trace.specs.OpenReport.{all_frames, open_report, queues, quiet_port, scenario_starts}
use Rattle.can_trace.specs.QuietReport.{AreFirst, IsQuietScenario, quiet_report}
use Rattle.can_trace.specs.Report.{levels_until, report_text}
use Rattle.can_trace.specs.ScenarioOffers.{offers_from, scenario_offers}
use Rattle.can_trace.proofs.OfferOrder.{in_time-permuted}
use Rattle.can_trace.proofs.OpenReports.{levels-same}
use Rattle.can_trace.proofs.PlannedOffers.{all-permuted, each-offer}

-- ---- offers at time 0

pub all-at : {X : Type 0} (P : X → Type 0) (xs : List X) (x : X) → All P xs → Stands xs x → P x
all-at P xs x all there = subst P (get_or_from_slice_get xs there.0 x x there.1) (All-get_or P xs there.0 x (slice_get_within xs there.0 x there.1) all)

-- each offer is made at time 0
pub first-offers : (plans : List PortPlan) → All AreFirst plans → (o : Offer) → Stands (offers_from 0 plans) o → o.time ≡ 0
first-offers plans first =
    each-offer (λ time frame. time ≡ 0) 0 plans
    (λ plan at x there. all-at (λ (y : TimedFrame). y.time ≡ 0) plan.queue.items x (all-at AreFirst plans plan first at) there)

pub offers-at_once : (s : Scenario) → All AreFirst s.ports.items → AreAtOnce (map timed (scenario_offers s))
offers-at_once s first x there =
    let made = map-stands timed (scenario_offers s) x there in
    sym (ap (λ (y : TimedParts). y.time) made.2)
    ∙ first-offers s.ports.items first made.0 (stands-permuted (scenario_offers s) (offers_from 0 s.ports.items) made.0 (in_time-permuted (offers_from 0 s.ports.items)) made.1)

-- ---- how long the starts take

-- starts of offers at time 0 adjoin
over-at_once : {number free : ℕ} {left : List TimedParts} {course : List Transmission} → IsCourse [] number free left course → AreAtOnce left → (s : Transmission) → IsMade course s →
    s.time + length (wire s.frame) ≤ free + span (frames_sent course)
unfolding span
over-at_once (over number free) all s made = absurd made
over-at_once (attempted number free time f None left course is unhit window rest) all s made =
    let there = offered-stands time left f (is.waits.place, is.waits.stands) in
    let from : time ≡ free = omega (arith, is.soon there.0 there.1, all there.0 there.1, is.is_free) in
    let whole : span (f ∷ frames_sent course) ≡ length (wire f) + 3 + span (frames_sent course) = sum_by-cons (λ (g : Parts). length (wire g) + 3) f (frames_sent course) in
    elim made [
      | inl here ↦ subst (λ (z : Transmission). z.time + length (wire z.frame) ≤ free + span (f ∷ frames_sent course)) here (omega (arith, whole, from))
      | inr later ↦ omega (arith, whole, from, over-at_once rest (λ x listed. all x (without-listed f left x listed)) s later)
    ]
over-at_once (attempted number free time f (Some offset) left course is struck window rest) all s made = absurd (let none : None ≡ Some offset = struck in cc)

-- ---- the report

module _ (s : Scenario) (is : IsQuietScenario s) where
  abbrev offers : List TimedParts
  offers = map timed (scenario_offers s)

  abbrev frames : List Parts
  frames = all_frames (queues s)

  permuted : IsPermutation (frames_of offers) frames
  permuted = all-permuted s.ports.items

  different : AreDifferent (frames_of offers)
  different = different_permuted frames (frames_of offers) (IsPermutation-sym (frames_of offers) frames permuted) is.is_open.different

  at_once : AreAtOnce offers
  at_once = offers-at_once s is.first

  in_order : ascending (frames_of offers) ≡ ascending frames
  in_order = ascending_permuted (frames_of offers) frames permuted different

  -- the starts are over when the frames are
  pub quiet-over : span (all_frames (queues s)) ≤ s.bits → AreOver (scenario_starts s) s.bits
  quiet-over past x there =
      let ends = over-at_once (one-schedule offers different).scheduled at_once (one_unhit x) (unhit-made (scenario_starts s) x there) in
      let same : span (frames_of (scenario_starts s)) ≡ span frames =
      span-permuted (frames_of offers) (frames_of (scenario_starts s)) (schedule-frames offers (scenario_starts s) (one-schedule offers different)) ∙ sym (span-permuted (frames_of offers) frames permuted) in
      omega (arith, ends, ap span (unhit-frames (scenario_starts s)), same, past)

  -- and their report is that of the quiet bus
  pub open-is-quiet : open_report s.bits (scenario_starts s) (queues s) ≡ quiet_report s.bits (queues s)
  open-is-quiet =
      ap (λ levels. report_text levels (map (quiet_port (frames_of (scenario_starts s))) (queues s)))
      (levels-same (track_at (scenario_starts s)) (line_at (ascending frames)) (λ t. at_once-line offers different at_once t ∙ ap (λ fs. line_at fs t) in_order) s.bits)
      ∙ ap (λ fs. report_text (levels_until (line_at (ascending frames)) s.bits) (map (quiet_port fs) (queues s))) (at_once-frames offers different at_once ∙ in_order)
