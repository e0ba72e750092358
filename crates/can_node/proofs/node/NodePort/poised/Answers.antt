use Rattle.std.proofs.Common.{subst}
use Rattle.can_mac.specs.Frames.{IsPoised}
use Rattle.can_node.proofs.node.NodePort.poised.Goals as goal

pub returns-clause-no : goal.returns-clause-no
returns-clause-no g c = λ not_poised next. subst (λ w. IsPoised c.args.self.now.mac w next → ⊥) c.waiting.ensures (c.poised.ensures.no not_poised next)
