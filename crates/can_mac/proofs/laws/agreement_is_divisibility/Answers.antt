use Rattle.can_mac.proofs.Agreement.{agrees-Multiple, heard-part}
use Rattle.can_mac.proofs.laws.agreement_is_divisibility.Goals as goal

pub returns-clause-exactly : goal.returns-clause-exactly
returns-clause-exactly c = λ u whole. agrees-Multiple u whole

pub returns-clause-heard : goal.returns-clause-heard
returns-clause-heard c = λ u part m waits is idle none. heard-part u part is m waits idle none
