use Rattle.can_bus.proofs.RepairedCalls.{made-call, taken-attempts, window-there}
use Rattle.can_bus.proofs.laws.a_repaired_call_can_be_made.Goals as goal

pub returns : goal.returns
returns c = record { call = made-call; taken = λ ports frames hits fall apart. taken-attempts ports hits fall.within apart; window = window-there }
