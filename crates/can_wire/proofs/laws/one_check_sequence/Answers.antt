use Rattle.can_wire.proofs.DivisionLemmas.{IsCrc-crc_of, IsCrc-only}
use Rattle.can_wire.proofs.laws.one_check_sequence.Goals as goal

pub returns-clause-exists : goal.returns-clause-exists
returns-clause-exists c = IsCrc-crc_of

pub returns-clause-only : goal.returns-clause-only
returns-clause-only c = IsCrc-only
