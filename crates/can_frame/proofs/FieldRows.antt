-- The definition of the arbitration field, at a frame of each kind.
use Rattle.std.proofs.Common.{◌≡◌, ◌-◌, true, false, [], map, refl}
use Rattle.std.specs.Prelude.{codes}
use Rattle.can_frame.specs.Levels.{level_of, bits_of}
use Rattle.can_frame.specs.Arbitration.{arbitration_field}

-- identifier, RTR, IDE
standard_row : arbitration_field (record {
  id = record { raw = 0x123; extended = false };
  remote = false;
  dlc = 0;
  bytes = [];
}) ≡ map (λ c. level_of (c - 48)) (codes "0010010001100")
unfolding arbitration_field bits_of
standard_row = refl

-- the identifier's eleven highest bits, SRR, IDE, its other bits, RTR
extended_row : arbitration_field (record {
  id = record { raw = 0x048c0000; extended = true };
  remote = false;
  dlc = 0;
  bytes = [];
}) ≡ map (λ c. level_of (c - 48)) (codes "00100100011110000000000000000000")
unfolding arbitration_field bits_of
extended_row = refl
