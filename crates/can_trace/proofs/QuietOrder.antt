-- The report of a quiet scenario does not depend on the order in which a port was offered its
-- frames.
use Rattle.std.specs.Prelude.{All}
use Rattle.std.specs.List.{AllByRecursion}
use Rattle.std.specs.List.Sorted.{IsPermutation}
use Rattle.std.proofs.Common.{◌≡◌, ℕ, suc, ◌≤◌, List, [], ◌∷◌, length, map, refl, sym, ◌∙◌, ap, subst, inl, inr, arith}
use Rattle.std.proofs.lemmas.List.Elements.{All-nil}
use Rattle.std.proofs.lemmas.List.Sorted.{IsPermutation-append, IsPermutation-refl}
use Rattle.can_frame.specs.Parts.{Parts, IsFrame}
use Rattle.can_node.specs.declared.entry.Entry.{Entry}
use Rattle.can_node.specs.Ports.{IsPort}
use Rattle.can_bus.specs.Plans.{PlannedPort as ReadyPlan}
use Rattle.can_bus.specs.Quiet.{AreDifferent, ascending, line_at, span}
use Rattle.can_bus.proofs.Ascending.{ascending_permuted}
use Rattle.can_bus.proofs.Contests.{AllPorts}
use Rattle.can_bus.proofs.Members.{Stands, stands-cases, stands-map, stands-none, stands-permuted}
use Rattle.can_bus.proofs.OpenStart.{OfFrames}
use Rattle.can_bus.proofs.QuietAgreement.{span-permuted}
use Rattle.can_bus.proofs.QuietPlans.{ready-port}
use Rattle.can_scenario_text.specs.declared.scenario.Scenario.{Scenario}
use Rattle.can_scenario_text.specs.declared.scenario.PortPlan.{PortPlan}
use Rattle.can_scenario_text.specs.declared.scenario.TimedFrame.{TimedFrame}
use Rattle.can_trace.specs.OpenReport.{IsReadyPlan, all_frames, queues, quiet_port}
use Rattle.can_trace.specs.QuietReport.{AreReordered, AreReorderings, HoldsFrames, IsQuietScenario, quiet_report}
use Rattle.can_trace.specs.Report.{PortReport, frames_of_queue, levels_until, made_port, report, report_text}
use Rattle.can_trace.specs.ScenarioOffers.{offers_from, scenario_offers}
use Rattle.can_trace.proofs.OfferOrder.{in_time-permuted}
use Rattle.can_trace.proofs.OpenReports.{AllQuiet, made-quiet, marked-same, report-open}
use Rattle.can_trace.proofs.PlannedOffers.{each-offer}
use Rattle.can_trace.proofs.QuietReports.{all-at, open-is-quiet, quiet-over}

-- ---- the report

frames-reordered : (waiting others : List (List Parts)) → AreReordered waiting others → IsPermutation (all_frames waiting) (all_frames others)
frames-reordered [] [] same = IsPermutation-refl []
frames-reordered [] (other ∷ others) same = absurd same
frames-reordered (queue ∷ waiting) [] same = absurd same
frames-reordered (queue ∷ waiting) (other ∷ others) same =
    IsPermutation-append queue other (all_frames waiting) (all_frames others) same.0 (frames-reordered waiting others same.1)

ports-reordered : (frames : List Parts) (waiting others : List (List Parts)) → AreReordered waiting others → map (quiet_port frames) waiting ≡ map (quiet_port frames) others
ports-reordered frames [] [] same = refl
ports-reordered frames [] (other ∷ others) same = absurd same
ports-reordered frames (queue ∷ waiting) [] same = absurd same
ports-reordered frames (queue ∷ waiting) (other ∷ others) same =
    let told : List Entry → PortReport = λ log. record (quiet_port frames queue) { log = log } in
    ap (λ log. told log ∷ map (quiet_port frames) waiting) (marked-same queue other frames same.0)
    ∙ ap (λ reports. quiet_port frames other ∷ reports) (ports-reordered frames waiting others same.1)

pub quiet_report-reordered : (bits : ℕ) (waiting others : List (List Parts)) → AreDifferent (all_frames waiting) → AreReordered waiting others → quiet_report bits waiting ≡ quiet_report bits others
quiet_report-reordered bits waiting others different same =
    let frames : List Parts = ascending (all_frames others) in
    ap (λ (frames : List Parts). report_text (levels_until (line_at frames) bits) (map (quiet_port frames) waiting))
    (ascending_permuted (all_frames waiting) (all_frames others) (frames-reordered waiting others same) different)
    ∙ ap (report_text (levels_until (line_at frames) bits)) (ports-reordered frames waiting others same)

-- ---- the scenarios

-- quiet ports as they are made
made-ready : (entries : ℕ) (plan : PortPlan) → IsReadyPlan entries plan → IsPort (made_port plan)
made-ready entries plan quiet =
    let ready : ReadyPlan = record { queue_room = length plan.queue.items; log_room = plan.log_room; frames = [] } in
    subst IsPort (sym (made-quiet entries plan quiet)) (ready-port ready (record { frames = All-nil IsFrame; room = omega arith }))

made-valid : (entries : ℕ) (plans : List PortPlan) → AllQuiet entries plans → AllPorts IsPort (map made_port plans)
made-valid entries [] quiet = tt
made-valid entries (plan ∷ plans) quiet = (made-ready entries plan (quiet 0 plan refl), made-valid entries plans (λ n. quiet (suc n)))

frame-at : (queue : List TimedFrame) → All IsFrame (map (λ (x : TimedFrame). x.frame) queue) → (x : TimedFrame) → Stands queue x → IsFrame x.frame
frame-at queue all x there = all-at IsFrame (map (λ (y : TimedFrame). y.frame) queue) x.frame all (stands-map (λ (y : TimedFrame). y.frame) queue x there)

frame-of : (plans : List PortPlan) → AllByRecursion (λ queue. All IsFrame queue) (map frames_of_queue plans) → (plan : PortPlan) → Stands plans plan → (x : TimedFrame) → Stands plan.queue.items x → IsFrame x.frame
frame-of [] hold plan at x there = absurd (stands-none plan at)
frame-of (first ∷ plans) hold plan at x there = elim (stands-cases first plans plan at) [
  | inl same ↦ frame-at first.queue.items hold.0 x (subst (λ (p : PortPlan). Stands p.queue.items x) (sym same) there)
  | inr later ↦ frame-of plans hold.1 plan later x there
]

offers-framed : (s : Scenario) → HoldsFrames s → OfFrames (scenario_offers s)
offers-framed s hold n o there =
    each-offer (λ time frame. IsFrame frame) 0 s.ports.items (frame-of s.ports.items hold) o
    (stands-permuted (scenario_offers s) (offers_from 0 s.ports.items) o (in_time-permuted (offers_from 0 s.ports.items)) (n, there))

report-quiet : (s : Scenario) → HoldsFrames s → IsQuietScenario s → span (all_frames (queues s)) ≤ s.bits → report s ≡ quiet_report s.bits (queues s)
report-quiet s hold is past =
    report-open s (made-valid (length (all_frames (queues s))) s.ports.items is.is_open.quiet) (offers-framed s hold) is.is_open (quiet-over s is past) ∙ open-is-quiet s is

pub report-reordered : (s t : Scenario) → AreReorderings s t → span (all_frames (queues s)) ≤ s.bits → report s ≡ report t
report-reordered s t are past =
    let long : span (all_frames (queues t)) ≤ t.bits =
    omega (arith, past, are.bits, span-permuted (all_frames (queues s)) (all_frames (queues t)) (frames-reordered (queues s) (queues t) are.same)) in
    report-quiet s are.frames.0 are.first past ∙ ap (λ bits. quiet_report bits (queues s)) are.bits
    ∙ quiet_report-reordered t.bits (queues s) (queues t) are.first.is_open.different are.same ∙ sym (report-quiet t are.frames.1 are.second long)
