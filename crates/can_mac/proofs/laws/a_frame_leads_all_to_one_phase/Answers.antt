use Rattle.std.proofs.Common.{ap}
use Rattle.can_mac.proofs.FrameRoles.{role-own}
use Rattle.can_mac.proofs.FrameRuns.{state_after-frame, told_at-frame}
use Rattle.can_mac.proofs.laws.a_frame_leads_all_to_one_phase.Goals as goal

pub returns-clause-phase : goal.returns-clause-phase
returns-clause-phase c = λ f m waits o start heard. ap (λ s. s.phase) (state_after-frame f m waits start o heard)

pub returns-clause-state : goal.returns-clause-state
returns-clause-state c = λ f m waits o start heard. state_after-frame f m waits start o heard

pub returns-clause-event : goal.returns-clause-event
returns-clause-event c = λ f m waits o start heard. told_at-frame f m waits start o heard

pub returns-clause-sender : goal.returns-clause-sender
returns-clause-sender c = λ f o. role-own f o
