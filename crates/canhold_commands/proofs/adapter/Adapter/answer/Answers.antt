use Rattle.std.proofs.Common.{map}
use Rattle.canhold_commands.specs.Commands.{begins, offers, plays, tester_of, wishes}
use Rattle.canhold_commands.proofs.CommandLines.{step-done}
use Rattle.canhold_commands.proofs.adapter.Adapter.answer.Goals as goal

pub returns-in-Some : goal.returns-in-Some
returns-in-Some c = step-done c.begin.result c.args.line.now _ _ _ _ (begins c.in-Some.start) c.in-Some.ensures c.clear.ensures.items c.begin.ensures.text c.begin.ensures.port

pub returns-in-Some-frame_in : goal.returns-in-Some-frame_in
returns-in-Some-frame_in c =
    step-done c.offer.result c.args.line.now _ _ _ _ (offers c.in-Some-frame_in.frame) c.in-Some-frame_in.ensures c.clear.ensures.items c.offer.ensures.text c.offer.ensures.port

pub returns-in-Some-wish_in : goal.returns-in-Some-wish_in
returns-in-Some-wish_in c =
    step-done c.hold.result c.args.line.now _ _ _ _ (wishes c.in-Some-wish_in.count) c.in-Some-wish_in.ensures c.clear.ensures.items c.hold.ensures.text c.hold.ensures.port

pub returns-in-Some-digits_in : goal.returns-in-Some-digits_in
returns-in-Some-digits_in c =
    step-done c.play.result c.args.line.now _ _ _ _ (plays (map tester_of c.in-Some-digits_in.digits.now)) c.in-Some-digits_in.ensures c.clear.ensures.items c.play.ensures.text c.play.ensures.port
