use Rattle.std.proofs.Common.{◌+◌}
use Rattle.std.proofs.lemmas.List.{take_rest}
use Rattle.can_texts.proofs.DecodeSteps.{Untold-then}
use Rattle.can_texts.proofs.traces.decode.hear_levels.Goals as goal

pub returns-clause-text : goal.returns-clause-text
returns-clause-text c =
    let bytes = c.args.bytes.now in
    let row = c.skip_row-row in
    let start = c.hear_start in
    let first = take_rest bytes row.result in
    let second = take_rest bytes (row.result + start.result) in
    let begun = Untold-then c.args.trace.now row.new.trace start.new.trace bytes row.result start.result row.ensures.text row.ensures.hears
    (rw first at start.ensures.text) (rw first at start.ensures.hears) in
    (Untold-then c.args.trace.now start.new.trace c.hear_digits.new.self bytes (row.result + start.result) c.hear_digits.result begun.0 begun.1
    (rw second at c.hear_digits.ensures.text) (rw second at c.hear_digits.ensures.hears)).0

pub returns-clause-hears : goal.returns-clause-hears
returns-clause-hears c =
    let bytes = c.args.bytes.now in
    let row = c.skip_row-row in
    let start = c.hear_start in
    let first = take_rest bytes row.result in
    let second = take_rest bytes (row.result + start.result) in
    let begun = Untold-then c.args.trace.now row.new.trace start.new.trace bytes row.result start.result row.ensures.text row.ensures.hears
    (rw first at start.ensures.text) (rw first at start.ensures.hears) in
    (Untold-then c.args.trace.now start.new.trace c.hear_digits.new.self bytes (row.result + start.result) c.hear_digits.result begun.0 begun.1
    (rw second at c.hear_digits.ensures.text) (rw second at c.hear_digits.ensures.hears)).1

pub returns-then-is_idle-clause-text : goal.returns-then-is_idle-clause-text
returns-then-is_idle-clause-text c =
    let row = c.skip_row-row in
    let start = c.hear_start in
    let first = take_rest c.args.bytes.now row.result in
    (Untold-then c.args.trace.now row.new.trace start.new.trace c.args.bytes.now row.result start.result row.ensures.text row.ensures.hears
    (rw first at start.ensures.text) (rw first at start.ensures.hears)).0

pub returns-then-is_idle-clause-hears : goal.returns-then-is_idle-clause-hears
returns-then-is_idle-clause-hears c =
    let row = c.skip_row-row in
    let start = c.hear_start in
    let first = take_rest c.args.bytes.now row.result in
    (Untold-then c.args.trace.now row.new.trace start.new.trace c.args.bytes.now row.result start.result row.ensures.text row.ensures.hears
    (rw first at start.ensures.text) (rw first at start.ensures.hears)).1
