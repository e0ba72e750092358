use Rattle.std.proofs.Common.{◌∙◌, ap}
use Rattle.can_code.specs.Front.{FrontParts, next_place}
use Rattle.can_code.proofs.ReadingLemmas.{IsComplete-HasData}
use Rattle.can_code.proofs.FrontLemmas.{IsFront-complete, next_place-ended}
use Rattle.can_code.proofs.front.Front.heard.Goals as goal

pub heard-requires : goal.heard-requires
heard-requires g c =
    let inside = c.self.inside in
    let front : FrontParts = record { unstuffed = g.B.FrameBits.levels inside.bits; last = inside.run.last; run = inside.run.run } in
    let ended = next_place-ended front (ap next_place c.self.view_is ∙ c.requires) in
    IsComplete-HasData front.unstuffed (IsFront-complete front c.self.invariant.0 ended.1)
