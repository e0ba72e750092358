use Rattle.std.proofs.Common.{◌≡◌, ◌+◌, ◌++◌, length, take, arith, sym, ap, ◌∙◌}
use Rattle.can_mac.proofs.FrameEnds.{end_levels}
use Rattle.can_mac.proofs.FrameParts.{line-parts}
use Rattle.can_bus.proofs.Members.{none-taken}
use Rattle.can_bus.proofs.PassedFrames.{part-of}
use Rattle.can_bus.proofs.bus.line.lay_out.Goals as goal

pub returns-clause-levels : goal.returns-clause-levels
returns-clause-levels c = λ some.
    let f = c.args.frame.now in
    let part = c.saturating_sub-part.result in
    let own = take part c.encode_into.new.levels in
    let is = part-of f c.encode_into.new.levels c.encode_into.result part (omega (arith, c.encode_into.array_long, c.encode_into.ensures.bound)) c.encode_into.ensures.levels c.saturating_sub-part.ensures in
    let size : length own ≡ part = ap length is.0 ∙ sym is.1 in
    let first : take part c.put.new.rec ≡ own =
    ap (λ n. take n c.put.new.rec) (let e : part ≡ 0 + length own = omega (arith, size) in e) ∙ c.put.ensures.levels ∙ ap (λ front. front ++ own) (none-taken c.args.rec.now) in
    c.put-2.ensures.levels ∙ ap (λ front. front ++ end_levels) (first ∙ is.0) ∙ sym (line-parts f)
