use Rattle.std.proofs.Common.{◌≡◌, length, subst, rules}
use Rattle.can_frame.specs.Parts.{Parts}
use Rattle.can_wire.specs.Wire.{wire}
use Rattle.can_longest.specs.Longest.{IsFrameOf, IsLongestWire, with_bytes}
use Rattle.can_plan_text.proofs.LongestFrames.{longest-is}
use Rattle.can_plan_text.proofs.frames.longest_frame.Goals as goal

pub returns : goal.returns
returns c =
    let id = c.id-id.result in
    let remote = c.is_remote-remote.result in
    let dlc = c.min-dlc.result in
    let told = c.longest_data.ensures in
    let same : with_bytes id remote dlc c.longest_data.result.items ≡ c.frame_with.result = search rules in
    longest-is c.args.planned.now id remote dlc c.frame_with.result c.id-id.ensures c.is_remote-remote.ensures c.min-dlc.ensures
    (subst (λ (f : Parts). IsFrameOf id remote dlc f) same told.frame) (subst (λ (f : Parts). IsLongestWire id remote dlc (length (wire f))) same told.longest)
