-- How many data bytes a frame has.
use Rattle.std.proofs.Common.{◌≤◌, length, subst, sym}
use Rattle.can_frame.specs.Parts.{Parts, IsFrame}
use Rattle.can_frame.specs.Stored.{byte_count_le}

pub few_bytes : (f : Parts) → IsFrame f → length f.bytes ≤ 8
few_bytes f is = subst (λ n. n ≤ 8) (sym is.count) (byte_count_le f.remote f.dlc)
