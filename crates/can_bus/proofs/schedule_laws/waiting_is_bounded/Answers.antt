use Rattle.can_bus.proofs.WaitBounds.{exact, meanwhile, bound, few, longest, longest_standard, at_once}
use Rattle.can_bus.proofs.schedule_laws.waiting_is_bounded.Goals as goal

pub returns : goal.returns
returns c =
    record {
      exact = exact;
      meanwhile = meanwhile;
      bound = bound;
      few = few;
      longest = λ offers starts is frames offer start at. longest offers starts is offer start at frames;
      longest_standard = λ offers starts is frames offer start at. longest_standard offers starts is offer start at frames;
      at_once = at_once;
    }
