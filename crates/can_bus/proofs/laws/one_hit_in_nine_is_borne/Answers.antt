use Rattle.can_bus.proofs.BorneHits.{nine-borne}
use Rattle.can_bus.proofs.laws.one_hit_in_nine_is_borne.Goals as goal

pub returns : goal.returns
returns c = λ frames hits ports windows nine. λ of_one. nine-borne hits nine frames ports of_one
