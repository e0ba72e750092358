-- The unstuffed levels of a frame that is sent: they are complete, and they give the frame back.
use Rattle.std.proofs.Common.{◌≡◌, ◌≤◌, ◌++◌, ap, length, arith}
use Rattle.can_frame.specs.Parts.{Parts, IsFrame}
use Rattle.can_wire.specs.Crc.{IsCrc, crc_of}
use Rattle.can_wire.specs.Heard.{heard_head, sent}
use Rattle.can_wire.specs.Wire.{head, unstuffed, stuffed_part}
use Rattle.can_wire.specs.Layout.{IsComplete, frame_of, check_of, head_of, IsPart}
use Rattle.can_wire.proofs.DivisionLemmas.{length-crc_of, IsCrc-crc_of}
use Rattle.can_wire.proofs.StuffingLemmas.{Stuffs-stuffed}
use Rattle.can_wire.proofs.LayoutHead.{heard_head-sent}
use Rattle.can_wire.proofs.LayoutLengths.{frame_len_ge}
use Rattle.can_wire.proofs.LayoutRead.{frame_of-head, head-complete, check_of-append, head_of-append}

module _ (f : Parts) where
  -- they are those of a frame as received if all is as sent
  pub unstuffed-sent : heard_head (sent f) ++ crc_of (heard_head (sent f)) ≡ unstuffed f
  unfolding unstuffed
  unstuffed-sent = ap (λ b. b ++ crc_of b) (heard_head-sent f)

  -- the CRC sequence is that of the levels before it
  pub head_of-unstuffed : head_of (unstuffed f) ≡ head f
  unfolding unstuffed
  head_of-unstuffed = head_of-append (head f) (crc_of (head f)) (length-crc_of (head f))

  pub check_of-unstuffed : check_of (unstuffed f) ≡ crc_of (head f)
  unfolding unstuffed
  check_of-unstuffed = check_of-append (head f) (crc_of (head f)) (length-crc_of (head f))

  pub unstuffed-agrees : IsCrc (head_of (unstuffed f)) (check_of (unstuffed f))
  unstuffed-agrees = rw (head_of-unstuffed, check_of-unstuffed) (IsCrc-crc_of (head f))

  module _ (is : IsFrame f) where
    pub unstuffed-complete : IsComplete (unstuffed f)
    unfolding unstuffed
    unstuffed-complete = head-complete f (crc_of (head f)) is (length-crc_of (head f))

    pub length-unstuffed-ge : 34 ≤ length (unstuffed f)
    length-unstuffed-ge = omega (arith, unstuffed-complete.whole, frame_len_ge (unstuffed f))

    -- they give the frame back
    pub frame_of-unstuffed : frame_of (unstuffed f) ≡ f
    unfolding unstuffed
    frame_of-unstuffed = frame_of-head f (crc_of (head f)) is

    -- stuffed, they are the frame's stuffed part
    pub stuffed_part-part : IsPart (unstuffed f) (stuffed_part f)
    unfolding stuffed_part
    stuffed_part-part = record { complete = unstuffed-complete; stuffs = Stuffs-stuffed (unstuffed f) }
