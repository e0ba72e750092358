use Rattle.can_gates_controller.proofs.Cleared.{frame_in-is}
use Rattle.can_gates_controller.proofs.fields.Fields.are_a_frame.Goals as goal

pub returns : goal.returns
returns c = λ v. frame_in-is v c.args.self.now
