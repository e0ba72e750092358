use Rattle.can_gates.specs.Verilog.{declarations_text}
use Rattle.can_gates.proofs.Pieces.{written}
use Rattle.can_gates.proofs.files.verilog.push_all_declarations.Goals as goal

pub returns : goal.returns
unfolding declarations_text
returns c =
    let begun = c.push.new.self in
    let taken = c.push_declarations.new.text in
    let given = c.push_declarations-2.new.text in
    let held = c.push_declarations-3.new.text in
    let ended = c.push-2.new.self in
    written c.args.text.now begun ended _ _ c.push.ensures
    (written begun taken ended _ _ c.push_declarations.ensures (written taken given ended _ _ c.push_declarations-2.ensures (written given held ended _ _ c.push_declarations-3.ensures c.push-2.ensures)))
