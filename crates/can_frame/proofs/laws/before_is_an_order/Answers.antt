use Rattle.can_frame.proofs.BeforeLemmas.{Before-trans, Before-append}
use Rattle.can_frame.proofs.laws.before_is_an_order.Goals as goal

pub returns-clause-transitive : goal.returns-clause-transitive
returns-clause-transitive c = Before-trans

pub returns-clause-fronts_decide : goal.returns-clause-fronts_decide
returns-clause-fronts_decide c = Before-append
