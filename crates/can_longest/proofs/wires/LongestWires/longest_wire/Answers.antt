use Rattle.std.proofs.Common.{◌+◌, ◌*◌, ◌∙◌, sym, subst, ap}
use Rattle.can_frame.proofs.LevelLemmas.{length-bits_of}
use Rattle.can_frame.specs.Levels.{bits_of}
use Rattle.can_longest.specs.Longest.{IsLongestWire}
use Rattle.can_longest.specs.ToCome.{most}
use Rattle.can_longest.proofs.Frames.{longest-few, longest-is}
use Rattle.can_longest.proofs.wires.LongestWires.longest_wire.Goals as goal

pub returns : goal.returns
returns c =
    let begun = c.hear_header-begun.result in
    let e = c.hear_header-begun.ensures in
    let h = begun.heard in
    let check = bits_of 15 begun.check in
    let is = longest-is c.args.id c.args.remote c.args.dlc h.levels h.last h.run check (length-bits_of 15 begun.check) e.known c.requires e.behind e.check in
    let entry = c.from.ensures ∙ c.most-most.ensures ∙ ap (λ n. most (8 * n) h.last h.run check) c.byte_count.ensures.value in
    let longest = subst (λ n. IsLongestWire c.args.id c.args.remote c.args.dlc (h.levels + n + 10)) (sym entry) is in
    record { longest = longest; few = longest-few c.args.id c.args.remote c.args.dlc (h.levels + c.from.result + 10) longest }
