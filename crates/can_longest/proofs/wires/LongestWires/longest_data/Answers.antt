use Rattle.std.proofs.Common.{◌≡◌, ◌+◌, ◌-◌, ◌*◌, ◌<◌, ◌++◌, [], length, get_or, subst, sym, ◌∙◌, ap, arith, length-append}
use Rattle.std.specs.List.{flat_map}
use Rattle.std.proofs.lemmas.List.{append-nil}
use Rattle.can_frame.proofs.LevelLemmas.{length-bits_of}
use Rattle.can_frame.specs.declared.level.Level.TheVariants.{Dominant}
use Rattle.can_frame.specs.Levels.{bits_of}
use Rattle.can_wire.specs.Crc.{crc_of, xor}
use Rattle.can_wire.specs.FrameNumber.{header_of}
use Rattle.can_wire.specs.Stuffing.{stuffed_from}
use Rattle.can_wire.proofs.DivisionLemmas.{none}
use Rattle.can_longest.specs.Longest.{with_bytes, IsLongestWire}
use Rattle.can_longest.specs.ToCome.{most}
use Rattle.can_longest.proofs.Chosen.{check_push, data_push, small_push}
use Rattle.can_longest.proofs.Frames.{length-wire_of, longest-is}
use Rattle.can_longest.proofs.wires.LongestWires.longest_data.Goals as goal

pub loop-left-init : goal.loop-left-init
loop-left-init c =
    let b = c.hear_header-begun.result in
    let e = c.hear_header-begun.ensures in
    let h = b.heard in
    let check = bits_of 15 b.check in
    let header = header_of (with_bytes c.args.id c.args.remote c.args.dlc []) in record {
      within = c.byte_count-left.ensures.few;
      count = omega (arith, ap length c.new-data.ensures);
      small = λ k. subst (λ t. get_or t k 0 < 256) (sym c.new-data.ensures) (omega arith);
      some = e.some;
      short = e.short;
      range = e.range;
      room = omega (arith, e.few, c.byte_count-left.ensures.few);
      behind = λ rest. ap (λ t. length (stuffed_from Dominant 0 (header ++ (flat_map (bits_of 8) t ++ rest)))) c.new-data.ensures ∙ e.behind rest;
      check = e.check ∙ ap (λ n. crc_of (header ++ none (8 * n))) (sym c.byte_count-left.ensures.value) ∙ ap (λ t. crc_of (header ++ (flat_map (bits_of 8) t ++ none (8 * c.byte_count-left.result)))) (sym c.new-data.ensures);
      total =
          subst (λ n. IsLongestWire c.args.id c.args.remote c.args.dlc (h.levels + most (8 * n) h.last h.run check + 10)) (sym c.byte_count-left.ensures.value)
          (longest-is c.args.id c.args.remote c.args.dlc h.levels h.last h.run check (length-bits_of 15 b.check) e.known c.requires e.behind e.check);
    }

pub loop-left-preserved : goal.loop-left-preserved
loop-left-preserved c =
    let l = c.loop-left in
    let h = l.begun.heard in
    let e = c.longest_octet-chosen.ensures in
    let chosen = c.longest_octet-chosen.result in
    let after = chosen.begun in
    let header = header_of (with_bytes c.args.id c.args.remote c.args.dlc []) in
    let items = c.push.ensures.items in
    let before : l.left ≡ l.left - 1 + 1 = omega (arith, c.loop-left-test.true) in
    let most_is = ap (λ n. h.levels + most (8 * n) h.last h.run (bits_of 15 l.begun.check)) before ∙ e.most in record {
      within = omega (arith, l.invariant.within);
      count = omega (arith, l.invariant.count, ap length items, length-append l.data.items, before);
      small = λ k. subst (λ t. get_or t k 0 < 256) (sym items) (small_push l.data.items chosen.octet l.invariant.small e.byte k);
      some = e.some;
      short = e.short;
      range = e.range;
      room = omega (arith, l.invariant.room, e.few, before);
      behind = λ rest.
          ap (λ t. length (stuffed_from Dominant 0 (header ++ (flat_map (bits_of 8) t ++ rest)))) items
          ∙ ap (λ t. length (stuffed_from Dominant 0 (header ++ t))) (data_push l.data.items chosen.octet rest) ∙ l.invariant.behind (bits_of 8 chosen.octet ++ rest) ∙ e.behind rest;
      check =
          e.check ∙ ap (λ u. xor u (crc_of (bits_of 8 chosen.octet ++ none (8 * (l.left - 1))))) (l.invariant.check ∙ ap (λ n. crc_of (header ++ (flat_map (bits_of 8) l.data.items ++ none (8 * n)))) before)
          ∙ check_push header l.data.items chosen.octet (l.left - 1) ∙ ap (λ t. crc_of (header ++ (flat_map (bits_of 8) t ++ none (8 * (l.left - 1))))) (sym items);
      total = subst (λ n. IsLongestWire c.args.id c.args.remote c.args.dlc (n + 10)) most_is l.invariant.total;
    }

pub returns-clause-longest : goal.returns-clause-longest
returns-clause-longest c =
    let l = c.loop-left in
    let h = l.begun.heard in
    let check = bits_of 15 l.begun.check in
    let over : l.left ≡ 0 = omega (arith, c.loop-left-test.false) in
    let header = header_of (with_bytes c.args.id c.args.remote c.args.dlc []) in
    let chosen = flat_map (bits_of 8) l.data.items in
    let check_is = l.invariant.check ∙ ap (λ n. crc_of (header ++ (chosen ++ none (8 * n)))) over ∙ ap (λ t. crc_of (header ++ t)) (append-nil chosen) in
    let long = length-wire_of c.args.id c.args.remote c.args.dlc l.data.items h.levels h.last h.run check l.invariant.behind check_is in
    subst (IsLongestWire c.args.id c.args.remote c.args.dlc) (ap (λ n. h.levels + most (8 * n) h.last h.run check + 10) over ∙ sym long) l.invariant.total
