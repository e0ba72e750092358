use Rattle.std.proofs.Common.{arith, length-drop}
use Rattle.std.proofs.lemmas.List.{take_rest}
use Rattle.can_code.proofs.UnstuffingLemmas.{HearsDigits-none}
use Rattle.can_code.proofs.StepLemmas.{HearsDigits-join}
use Rattle.can_code.proofs.front.Front.hear_parts.Goals as goal

pub loop-taken-init : goal.loop-taken-init
loop-taken-init g c = record { within = omega arith; heard = HearsDigits-none c.args.self.now c.args.digits.now; going = c.requires }

pub loop-taken-preserved : goal.loop-taken-preserved
loop-taken-preserved g c =
    let digits = c.args.digits.now in
    let taken = c.loop-taken.taken in
    let rest = take_rest digits taken in
    record {
      within = omega (arith, c.hear_part-more.ensures.within, rw rest at c.hear_part-more.ensures.within, length-drop taken digits, c.loop-taken.invariant.within);
      heard = HearsDigits-join c.args.self.now c.loop-taken.self c.hear_part-more.new.self digits taken c.hear_part-more.result c.loop-taken.invariant.heard (rw rest at c.hear_part-more.ensures.heard);
      going = c.hear_part-more.ensures.going;
    }
