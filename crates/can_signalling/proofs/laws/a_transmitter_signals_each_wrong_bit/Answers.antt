use Rattle.can_signalling.proofs.Transmitters.{transmitter-part, transmitter-slot, transmitter-form, flag-drives}
use Rattle.can_signalling.proofs.InvertedFrames.{sender-signals}
use Rattle.can_signalling.proofs.laws.a_transmitter_signals_each_wrong_bit.Goals as goal

pub returns : goal.returns
returns c = record {
  stuffed_part = λ f front m waiting is phase past. transmitter-part f m is front waiting phase past;
  ack_slot = λ f r m waiting is phase. transmitter-slot f m is r waiting phase;
  fixed_form = λ f m waiting is form. transmitter-form f m is waiting form;
  frame = λ f m waits o start own some within bit. sender-signals f m waits o start some within own bit;
  flag = flag-drives;
}
