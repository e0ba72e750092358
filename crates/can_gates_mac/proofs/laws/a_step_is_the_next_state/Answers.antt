use Rattle.std.proofs.Common.{refl}
use Rattle.can_gates_mac.proofs.Next.{next_holds}
use Rattle.can_gates_mac.proofs.laws.a_step_is_the_next_state.Goals as goal

pub returns-clause-next : goal.returns-clause-next
returns-clause-next c = λ v k after h. next_holds v k after h

pub returns-clause-idle : goal.returns-clause-idle
returns-clause-idle c = refl

pub returns-clause-joining : goal.returns-clause-joining
returns-clause-joining c = refl
