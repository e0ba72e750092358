-- The definitions of what is written for a vector, computed on values that are known from elsewhere.
use Rattle.std.proofs.Common.{◌++◌, refl, sym, ap, arith}
use Rattle.std.specs.Prelude.{codes}
use Rattle.can_frame.specs.Levels.{bits_of}
use Rattle.can_frame.specs.Arbitration.{arbitration_field}
use Rattle.can_wire.specs.Crc.{crc_of}
use Rattle.can_wire.specs.Stuffing.{stuffed}
use Rattle.can_wire.specs.Wire.{head, unstuffed, stuffed_part, driven}
use Rattle.can_stream.proofs.KnownFrame.{frame_001, frame_001-whole, text_001}
use Rattle.can_texts.specs.Checked.{IsVectorVerdict, mark}
use Rattle.can_texts.specs.declared.lines.vector.Verdict.TheVariants.{Agrees}

verdict_001 : IsVectorVerdict (codes "S 001 D 0 = 00000100000101000001000100010000100111111111111") Agrees
unfolding stuffed_part unstuffed stuffed crc_of head arbitration_field bits_of
verdict_001 = record {
  frame = frame_001;
  levels = driven frame_001;
  vector = record {
    digits = codes "00000100000101000001000100010000100111111111111";
    marked = record { is_frame = frame_001-whole; line_is = ap (λ t. t ++ (mark ++ codes "00000100000101000001000100010000100111111111111")) (sym text_001) };
    are_levels = record { within = omega arith; digits_are = refl };
  };
  compares = refl;
}
