use Rattle.can_mac.proofs.Kept.{IsMac-idle, IsMac-joining, holding_kept, step_kept}
use Rattle.can_mac.proofs.laws.access_is_kept.Goals as goal

pub returns-clause-idle : goal.returns-clause-idle
returns-clause-idle c = IsMac-idle

pub returns-clause-joining : goal.returns-clause-joining
returns-clause-joining c = IsMac-joining

pub returns-clause-step : goal.returns-clause-step
returns-clause-step c = λ m waiting level h w. step_kept m h waiting level w

pub returns-clause-wish : goal.returns-clause-wish
returns-clause-wish c = λ m n h few. holding_kept m h n few
