use Rattle.std.proofs.Common.{◌≡◌, ◌+◌, ◌*◌, ◌^◌, ◌<◌, ◌≤◌, ◌++◌, ℕ, List, [], length, get_or}
use Rattle.std.specs.List.{flat_map}
use Rattle.can_frame.specs.declared.level.Level.{Level}
use Rattle.can_frame.specs.declared.level.Level.TheVariants.{Dominant}
use Rattle.can_frame.specs.Levels.{bits_of}
use Rattle.can_wire.specs.Crc.{crc_of}
use Rattle.can_wire.specs.FrameNumber.{header_of}
use Rattle.can_wire.specs.Stuffing.{stuffed_from}
use Rattle.can_wire.proofs.DivisionLemmas.{none}
use Rattle.can_longest.specs.Longest.{with_bytes, IsLongestWire}
use Rattle.can_longest.specs.ToCome.{most}
use Rattle.can_longest.proofs.wires.LongestWires.longest_data.Given as goal

abbrev pub invariant-loop-left : goal.invariant-loop-left
invariant-loop-left l =
    let header = header_of (with_bytes l.fn.id l.fn.remote l.fn.dlc []) in
    let chosen = flat_map (bits_of 8) l.data.items in record {
      within : l.left ≤ 8;
      count : length l.data.items + l.left ≡ l.initial.left;
      small : (k : ℕ) → get_or l.data.items k 0 < 256;
      some : 1 ≤ l.begun.heard.run;
      short : l.begun.heard.run < 5;
      range : l.begun.check < 2 ^ 15;
      room : l.begun.heard.levels + 16 * l.left ≤ 206;
      behind : (rest : List Level) → length (stuffed_from Dominant 0 (header ++ (chosen ++ rest))) ≡ l.begun.heard.levels + length (stuffed_from l.begun.heard.last l.begun.heard.run rest);
      check : bits_of 15 l.begun.check ≡ crc_of (header ++ (chosen ++ none (8 * l.left)));
      total : IsLongestWire l.fn.id l.fn.remote l.fn.dlc (l.begun.heard.levels + most (8 * l.left) l.begun.heard.last l.begun.heard.run (bits_of 15 l.begun.check) + 10);
    }

abbrev pub decreases-loop-left : goal.decreases-loop-left
decreases-loop-left l = l.left
