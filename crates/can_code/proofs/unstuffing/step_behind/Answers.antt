use Rattle.std.proofs.Common.{arith, ap}
use Rattle.can_code.specs.Steps.{begun, row_last, row_run, steps_on}
use Rattle.can_code.specs.Digits.{levels_up}
use Rattle.can_code.specs.Unstuffing.{as_run}
use Rattle.can_wire.proofs.PackedLemmas.{moved-fits}
use Rattle.can_code.proofs.StepLemmas.{StepBounds, Unstuffs-step, taken-bounds}
use Rattle.can_code.proofs.StepTable.{in_table-some, row_of-small}
use Rattle.can_code.proofs.StepRows.{Unstuffs-row}
use Rattle.can_code.proofs.unstuffing.step_behind.Goals as goal

pub overflow_shl-result : goal.overflow_shl-result
overflow_shl-result c =
    let r = c.args.now in
    let found = in_table-some (steps_on (begun (row_last r.row) (row_run r.row)) (levels_up c.args.count c.args.levels)) c.in-Some.step c.in-Some.ensures in
    let h : StepBounds found.0 8 = taken-bounds (row_last r.row) (row_run r.row) 8 c.args.count c.args.levels found.0 (omega arith) (omega arith) c.requires.few found.1 in
    omega (arith, h.few, ap (λ t. t.len) found.2)

pub overflow_add-result : goal.overflow_add-result
overflow_add-result c =
    let r = c.args.now in
    let found = in_table-some (steps_on (begun (row_last r.row) (row_run r.row)) (levels_up c.args.count c.args.levels)) c.in-Some.step c.in-Some.ensures in
    let h : StepBounds found.0 8 = taken-bounds (row_last r.row) (row_run r.row) 8 c.args.count c.args.levels found.0 (omega arith) (omega arith) c.requires.few found.1 in
    rw (c.from.ensures, found.2) (omega (arith, moved-fits 64 found.0.len r.number found.0.number (omega (arith, h.few)) h.small))

pub returns-clause-row : goal.returns-clause-row
returns-clause-row c =
    let r = c.args.now in
    let found = in_table-some (steps_on (begun (row_last r.row) (row_run r.row)) (levels_up c.args.count c.args.levels)) c.in-Some.step c.in-Some.ensures in
    let h : StepBounds found.0 8 = taken-bounds (row_last r.row) (row_run r.row) 8 c.args.count c.args.levels found.0 (omega arith) (omega arith) c.requires.few found.1 in
    rw (found.2) (row_of-small found.0.last found.0.run h.short)

pub returns-clause-few : goal.returns-clause-few
returns-clause-few c =
    let r = c.args.now in
    let count = c.args.count in
    let found = in_table-some (steps_on (begun (row_last r.row) (row_run r.row)) (levels_up count c.args.levels)) c.in-Some.step c.in-Some.ensures in
    let h : StepBounds found.0 count = taken-bounds (row_last r.row) (row_run r.row) count count c.args.levels found.0 (omega arith) (omega arith) (omega arith) found.1 in
    rw (c.from-2.ensures, found.2) (omega (arith, h.few))

pub returns-clause-taken : goal.returns-clause-taken
returns-clause-taken c =
    let r = c.args.now in
    let count = c.args.count in
    let found = in_table-some (steps_on (begun (row_last r.row) (row_run r.row)) (levels_up count c.args.levels)) c.in-Some.step c.in-Some.ensures in
    let s = found.0 in
    let h : StepBounds s 8 = taken-bounds (row_last r.row) (row_run r.row) 8 count c.args.levels s (omega arith) (omega arith) c.requires.few found.1 in
    λ digits room before so_far begins_with fits wide.
    rw (c.from.ensures, c.from-2.ensures, found.2)
    (Unstuffs-row digits room before _ _ _ s h.some h.short
    (Unstuffs-step digits room before (as_run r) c.args.levels count s so_far wide begins_with fits found.1))
