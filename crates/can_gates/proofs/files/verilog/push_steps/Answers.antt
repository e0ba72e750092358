use Rattle.can_gates.specs.Verilog.{steps_text}
use Rattle.can_gates.proofs.Pieces.{written}
use Rattle.can_gates.proofs.files.verilog.push_steps.Goals as goal

pub returns : goal.returns
unfolding steps_text
returns c =
    let begun = c.push.new.self in
    let taken = c.push_takes.new.text in
    let ended = c.push-2.new.self in
    written c.args.text.now begun ended _ _ c.push.ensures (written begun taken ended _ _ c.push_takes.ensures c.push-2.ensures)
