use Rattle.std.proofs.Common.{◌≡◌, true, get_or, rules, arith}
use Rattle.can_terms.specs.declared.hit.Hit.TheVariants.{At}
use Rattle.can_terms.specs.Hits.{is_above}
use Rattle.can_bus.proofs.CursorLemmas.{reach_none, reach_past}
use Rattle.can_bus.proofs.cursor.Cursor.reach.Goals as goal

pub returns-in-Greater-clause-result : goal.returns-in-Greater-clause-result
returns-in-Greater-clause-result c =
    let above : is_above (get_or c.args.hits.now c.loop-self.self.place (At 0)) c.args.hit ≡ true = search rules in
    reach_past c.args.hits.now c.loop-self.self.place c.args.hit (At 0) c.requires.rising c.loop-self.invariant c.loop-self-test.true above

pub returns-clause-result : goal.returns-clause-result
returns-clause-result c = reach_none c.args.hits.now c.loop-self.self.place c.args.hit c.loop-self.invariant (omega arith)
