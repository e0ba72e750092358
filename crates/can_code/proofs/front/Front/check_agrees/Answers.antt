use Rattle.std.proofs.Common.{arith, ◌∙◌, ap}
use Rattle.can_code.specs.Front.{FrontParts, next_place}
use Rattle.can_code.proofs.FrontLemmas.{next_place-length}
use Rattle.can_code.proofs.front.Front.check_agrees.Goals as goal

pub check_agrees-requires : goal.check_agrees-requires
check_agrees-requires g c =
    let inside = c.self.inside in
    let front : FrontParts = record { unstuffed = g.B.FrameBits.levels inside.bits; last = inside.run.last; run = inside.run.run } in
    omega (arith, next_place-length front (ap next_place c.self.view_is ∙ c.requires))
