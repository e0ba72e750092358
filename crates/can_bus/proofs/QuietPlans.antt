-- Ports that are made idle and offered their frames are a quiet bus.
use Rattle.std.specs.Prelude.{slice_get}
use Rattle.std.proofs.Common.{◌≡◌, ℕ, zero, suc, ◌≤◌, Some, None, List, [], ◌∷◌, ◌++◌, All, length, map, refl, sym, ◌∙◌, ap, subst, arith}
use Rattle.std.proofs.lemmas.List.{length-map}
use Rattle.std.proofs.lemmas.List.Elements.{All-tail}
use Rattle.std.proofs.lemmas.Option.{slice_get_within, get_or_from_slice_get}
use Rattle.can_frame.specs.Parts.{IsFrame}
use Rattle.can_mac.specs.State.{idle}
use Rattle.can_mac.proofs.Kept.{IsMac-idle}
use Rattle.can_node.specs.Ports.{PortState, IsPort, fresh_port}
use Rattle.can_bus.specs.Quiet.{AreDifferent, IsQuiet, IsQuietPort, queued}
use Rattle.can_bus.specs.Run.{BusState}
use Rattle.can_bus.specs.Plans.{PlannedPort, FitsQueue, IsQuietPlan, planned, ready_port}
use Rattle.can_node.proofs.Arrivals.{offered-gains}

-- the port as its parts
abbrev pub filled_port : PlannedPort → PortState
filled_port plan = record (fresh_port idle plan.queue_room plan.log_room) { queue = plan.frames }

pub ready-filled : (plan : PlannedPort) → ready_port plan ≡ filled_port plan
ready-filled plan = offered-gains plan.frames (fresh_port idle plan.queue_room plan.log_room)

pub ready-queued : (plans : List PlannedPort) → queued (map ready_port plans) ≡ planned plans
ready-queued [] = refl
ready-queued (plan ∷ plans) =
    ap (λ (p : PortState). p.queue ++ queued (map ready_port plans)) (ready-filled plan) ∙ ap (λ frames. plan.frames ++ frames) (ready-queued plans)

pub ready-port : (plan : PlannedPort) → FitsQueue plan → IsPort (ready_port plan)
ready-port plan fits = subst IsPort (sym (ready-filled plan)) (record {
  mac = IsMac-idle;
  queued = λ n f there. subst IsFrame (get_or_from_slice_get plan.frames n f f there) (fits.frames n f (slice_get_within plan.frames n f there));
  logged = λ n entry there. absurd (let h : None ≡ Some entry = there in cc);
  queue_fits = fits.room;
  log_fits = omega arith;
  missed_fits = omega arith;
})

quiet-filled : (entries : ℕ) (plan : PlannedPort) → entries ≤ plan.log_room → IsQuietPort entries (ready_port plan)
quiet-filled entries plan room =
    subst (IsQuietPort entries) (sym (ready-filled plan)) (record { idle = refl; tec = refl; rec = refl; unasked = refl; empty = refl; room = room })

pub quiet-each : (entries : ℕ) (plans : List PlannedPort) → All (λ plan. entries ≤ plan.log_room) plans → (n : ℕ) (p : PortState) → slice_get (map ready_port plans) n ≡ Some p → IsQuietPort entries p
quiet-each entries [] room n p there = absurd (let h : None ≡ Some p = there in cc)
quiet-each entries (plan ∷ plans) room zero p there =
    let is : ready_port plan ≡ p = (let h : Some (ready_port plan) ≡ Some p = there in cc) in
    subst (IsQuietPort entries) is (quiet-filled entries plan (room 0 plan (omega arith)))
quiet-each entries (plan ∷ plans) room (suc n) p there =
    quiet-each entries plans (All-tail (λ plan. entries ≤ plan.log_room) plan plans room) n p there

pub ready-quiet : (plans : List PlannedPort) → IsQuietPlan plans → IsQuiet (map ready_port plans)
ready-quiet plans is =
    let frames : planned plans ≡ queued (map ready_port plans) = sym (ready-queued plans) in
    record {
      two = omega (arith, is.two, length-map plans ready_port);
      most = omega (arith, is.most, length-map plans ready_port);
      quiet = subst (λ k. (n : ℕ) (p : PortState) → slice_get (map ready_port plans) n ≡ Some p → IsQuietPort k p) (ap length frames) (quiet-each (length (planned plans)) plans is.room);
      different = subst AreDifferent frames is.different;
    }

-- ---- as a bus

-- the bus of these ports
abbrev pub ready_bus : ℕ → List PlannedPort → BusState
ready_bus rest plans = record { ports = map ready_port plans; rest = rest }
