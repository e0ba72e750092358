use Rattle.can_trace.proofs.QuietOrder.{quiet_report-reordered, report-reordered}
use Rattle.can_trace.proofs.laws.offering_order_is_untold.Goals as goal

pub returns-clause-quiet : goal.returns-clause-quiet
returns-clause-quiet c = quiet_report-reordered

pub returns-clause-report : goal.returns-clause-report
returns-clause-report c = report-reordered
