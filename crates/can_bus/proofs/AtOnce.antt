-- If all frames are offered at time 0 the schedule is that of a quiet bus: its frames ascend, and its track is their line.
use Rattle.std.specs.Prelude.{slice_index_or}
use Rattle.std.proofs.Common.{◌≡◌, ℕ, ◌+◌, List, [], subst, sym, ◌∙◌, ap, arith}
use Rattle.can_frame.specs.declared.level.Level.TheVariants.{Recessive}
use Rattle.can_bus.specs.Course.{course_at}
use Rattle.can_bus.specs.Quiet.{AreDifferent, ascending, line_at}
use Rattle.can_bus.specs.Repair.{course_levels, repaired_line_at}
use Rattle.can_bus.specs.Schedule.{schedule, track_at, unhit}
use Rattle.can_bus.specs.Timed.{AreAtOnce, TimedParts, frames_of}
use Rattle.can_bus.proofs.CourseCases.{course-ascends}
use Rattle.can_bus.proofs.CoursePlans.{plan-frames, plan-track}
use Rattle.can_bus.proofs.CourseSchedules.{one-schedule, unhit-frames}
use Rattle.can_bus.proofs.RepairPlans.{Plan, plan}
use Rattle.can_bus.proofs.RepairedCalls.{no-windows}
use Rattle.can_bus.proofs.RepairedLevels.{unhit-line}

module _ (offers : List TimedParts) (different : AreDifferent (frames_of offers)) (all : AreAtOnce offers) where
  -- the schedule is what is planned for the ascending list, if nothing is hit
  planned : Plan [] 0 0 (ascending (frames_of offers)) (unhit (schedule offers))
  planned =
      let none = no-windows (ascending (frames_of offers)) in
      subst (Plan [] 0 0 (ascending (frames_of offers))) (sym (course-ascends [] offers different all none (unhit (schedule offers)) (one-schedule offers different).scheduled))
      (plan [] (ascending (frames_of offers)) none.windows)

  pub at_once-frames : frames_of (schedule offers) ≡ ascending (frames_of offers)
  at_once-frames = sym (unhit-frames (schedule offers)) ∙ plan-frames planned

  pub at_once-line : (t : ℕ) → track_at (schedule offers) t ≡ line_at (ascending (frames_of offers)) t
  unfolding repaired_line_at
  at_once-line t =
      ap (course_at (unhit (schedule offers))) (let e : t ≡ 0 + t = omega arith in e) ∙ plan-track planned t
      ∙ ap (λ course. slice_index_or (course_levels course) t Recessive) (course-ascends [] offers different all (no-windows (ascending (frames_of offers))) (unhit (schedule offers)) (one-schedule offers different).scheduled)
      ∙ unhit-line (ascending (frames_of offers)) t
