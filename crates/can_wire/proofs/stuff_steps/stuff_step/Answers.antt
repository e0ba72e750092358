use Rattle.std.proofs.Common.{◌+◌, ◌%◌, take, ap, ◌∙◌, arith}
use Rattle.can_frame.specs.Levels.{bits_of}
use Rattle.can_wire.specs.StuffSteps.{last_of, run_of}
use Rattle.can_wire.proofs.LevelLemmas.{length-bits_of}
use Rattle.can_wire.proofs.StuffSteps.{some_run, entry-few, entry-last, entry-len, entry-levels, entry-row, entry-run}
use Rattle.can_wire.proofs.stuff_steps.stuff_step.Goals as goal

pub returns-clause-step : goal.returns-clause-step
returns-clause-step c =
    let last = last_of c.args.row in
    let run = run_of c.args.row in
    let xs = bits_of 8 c.args.octet in
    let eight = length-bits_of 8 c.args.octet in
    let e = c.entry-entry.result in
    let is = c.entry-entry.ensures in
    let some = (some_run c.args.row).0 in
    let short = (some_run c.args.row).1 in
    record {
      levels = ap (λ n. take (8 + n) (bits_of 10 (e % 1024))) c.from.ensures ∙ entry-levels last run xs e is eight some short;
      len = ap (λ n. 8 + n) c.from.ensures ∙ entry-len last run xs e is eight some short;
      ends = entry-last last run xs e is eight some short;
      ends_run = entry-run last run xs e is eight some short;
    }

pub returns-clause-few : goal.returns-clause-few
returns-clause-few c =
    let few = entry-few (last_of c.args.row) (run_of c.args.row) (bits_of 8 c.args.octet) c.entry-entry.result c.entry-entry.ensures (length-bits_of 8 c.args.octet) (some_run c.args.row).0 (some_run c.args.row).1 in
    omega (arith, few, c.from.ensures)

pub returns-clause-row : goal.returns-clause-row
returns-clause-row c =
    entry-row (last_of c.args.row) (run_of c.args.row) (bits_of 8 c.args.octet) c.entry-entry.result c.entry-entry.ensures (length-bits_of 8 c.args.octet) (some_run c.args.row).0 (some_run c.args.row).1
