use Rattle.can_bus.proofs.QuietAgreement.{levels-agree, spans-agree, logs-agree}
use Rattle.can_bus.proofs.laws.quiet_buses_agree.Goals as goal

pub returns : goal.returns
returns c = record { levels = levels-agree; span = spans-agree; logs = logs-agree }
