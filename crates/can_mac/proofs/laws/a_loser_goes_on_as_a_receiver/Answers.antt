use Rattle.can_mac.proofs.FrameRoles.{parting}
use Rattle.can_mac.proofs.Contending.{contender-sends, contender-drives, contender-lost, contender-receives}
use Rattle.can_mac.proofs.laws.a_loser_goes_on_as_a_receiver.Goals as goal

pub returns-clause-parts : goal.returns-clause-parts
returns-clause-parts c = λ f g f_is g_is before. parting f g f_is g_is before

pub returns-clause-sender : goal.returns-clause-sender
returns-clause-sender c = λ f g m waits place o start e parts some within. contender-sends f g m waits start e place parts o some within

pub returns-clause-drives : goal.returns-clause-drives
returns-clause-drives c = λ f g m waits place o start e parts within. contender-drives f g m waits start e place parts o within

pub returns-clause-lost : goal.returns-clause-lost
returns-clause-lost c = λ f g m waits place start e parts. contender-lost f g m waits start e place parts

pub returns-clause-receiver : goal.returns-clause-receiver
returns-clause-receiver c = λ f g m waits place o start e parts past heard. contender-receives f g m waits start e place parts o past heard
