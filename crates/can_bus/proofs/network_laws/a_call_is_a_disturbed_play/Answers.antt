use Rattle.can_bus.proofs.DisturbedPlays.{call-played, played-end, played-levels, played-one, played-refused}
use Rattle.can_bus.proofs.network_laws.a_call_is_a_disturbed_play.Goals as goal

pub returns : goal.returns
returns c = record { exists = call-played; levels = played-levels; bus = played-end; refused = played-refused; one = played-one }
