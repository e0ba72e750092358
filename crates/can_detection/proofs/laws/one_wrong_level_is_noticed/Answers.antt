use Rattle.can_detection.proofs.Receivers.{Spells-unacknowledged, EndsLate-sound, EndsLate-fault}
use Rattle.can_detection.proofs.Exception.{read_longer}
use Rattle.can_detection.proofs.laws.one_wrong_level_is_noticed.Goals as goal

pub returns : goal.returns
returns c = record {
  accepted = λ h g w v p rest more spelled acked some within read same. Spells-unacknowledged h w p rest spelled acked some within g v more read same;
  sound = EndsLate-sound;
  exception = read_longer;
  place = λ h w p rest fault spelled acked some within. EndsLate-fault h w p rest spelled acked some within fault;
}
