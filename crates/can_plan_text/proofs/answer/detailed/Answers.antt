use Rattle.std.proofs.Common.{rules}
use Rattle.can_plan_text.proofs.answer.detailed.Goals as goal

pub returns-clause-found : goal.returns-clause-found
returns-clause-found c = record {
  plan = c.in_ok-plan.plan;
  said = c.in_ok-plan.ensures.found;
  analysis = c.in_ok-analysis.analysis;
  answered = c.in_ok-analysis.ensures;
  details = c.in_ok-details.details.items;
  detailed = c.in_ok-details.ensures;
  left = c.in_ok-left.left;
  leaves = c.in_ok-left.ensures;
  written = search rules;
  counted = search rules;
  kept = c.in_ok-analysis.ensures.verdicts.kept c.in_ok-plan.ensures.found.2.ordered.set;
}
