use Rattle.can_conform.proofs.TranscriptLemmas.{one-agrees, one-counters, one-events, one-exists, one-levels}
use Rattle.can_conform.proofs.laws.one_transcript.Goals as goal

pub returns-clause-exists : goal.returns-clause-exists
returns-clause-exists c = one-exists

pub returns-clause-levels : goal.returns-clause-levels
returns-clause-levels c = one-levels

pub returns-clause-events : goal.returns-clause-events
returns-clause-events c = one-events

pub returns-clause-counters : goal.returns-clause-counters
returns-clause-counters c = one-counters

pub returns-clause-agrees : goal.returns-clause-agrees
returns-clause-agrees c = one-agrees
