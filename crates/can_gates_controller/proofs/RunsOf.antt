-- From one step to the next.
use Rattle.std.proofs.Common.{ℕ, zero, suc, ◌<◌, Bool, arith}
use Rattle.can_mac.specs.State.{MacState}
use Rattle.can_gates_controller.specs.declared.design.Design.{Design}
use Rattle.can_gates_controller.specs.Whole.{HoldsAll}
use Rattle.can_gates_controller.specs.Steps.{state_before}
use Rattle.can_gates_controller.specs.Runs.{steps_in, Shows, IsRun, IsController, RunsAlike}

-- a run, step by step
module _ (d : Design) (is : IsController d) (v : ℕ → ℕ → Bool) (m : MacState) (n : ℕ) (run : IsRun d v n) (start : HoldsAll (v 0) d.held m) where
  held_at : (t : ℕ) → t < n → HoldsAll (v t) d.held (state_before m (steps_in d v) t)
  held_at zero within = start
  held_at (suc t) within =
      let before : t < n = omega (arith, within) in
      (is (v t) (state_before m (steps_in d v) t) (run.keeps t before) (held_at t before)).1 (v (suc t)) (run.takes t within)

  run_at : (t : ℕ) → t < n → Shows (v t) d.outputs (state_before m (steps_in d v) t) (steps_in d v t)
  run_at t within = (is (v t) (state_before m (steps_in d v) t) (run.keeps t within) (held_at t within)).0

pub runs_alike : (d : Design) → IsController d → RunsAlike d
runs_alike d is = λ v m n run start t within. run_at d is v m n run start t within
