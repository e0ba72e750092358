use Rattle.can_signalling.proofs.Sampled.{sampled-at}
use Rattle.can_signalling.proofs.Receivers.{receiver-signals}
use Rattle.can_signalling.proofs.InvertedFrames.{ready-form}
use Rattle.can_signalling.proofs.Rows.{latest_error, breaks_end}
use Rattle.can_signalling.proofs.laws.a_receiver_signals_one_wrong_level.Goals as goal

pub returns : goal.returns
returns c = record {
  signals = λ h w p rest m waits spelled acked some within ready. receiver-signals h w p rest spelled acked some within m waits ready;
  fixed_form = ready-form;
  latest = latest_error;
  breaks_end = breaks_end;
  samples = λ m waits others t within. sampled-at others m waits t within;
}
