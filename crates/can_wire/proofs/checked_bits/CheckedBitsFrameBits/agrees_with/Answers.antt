use Rattle.std.proofs.Common.{◌≡◌, ◌≤◌, [], ◌∷◌, ◌++◌, length, length-append, ap, ◌∙◌, arith}
use Rattle.std.proofs.lemmas.Bool.{eqb-true, eq-eqb}
use Rattle.can_frame.specs.Levels.{bits_of}
use Rattle.can_wire.specs.Crc.{crc_of}
use Rattle.can_wire.proofs.CheckRuns.{IsCrc-same, IsCrc-zero, zero-IsCrc}
use Rattle.can_wire.proofs.DivisionLemmas.{IsCrc-only}
use Rattle.can_wire.proofs.checked_bits.CheckedBitsFrameBits.agrees_with.Goals as goal

pub returns : goal.returns
returns c =
    let u = c.args.self.now in
    let all = u ++ c.args.level ∷ [] in
    let check = c.value.result in
    let long : 15 ≤ length all = omega (arith, c.requires, length-append u (c.args.level ∷ [])) in
    let computed : bits_of 15 check ≡ crc_of all =
    ap (bits_of 15) c.value.ensures.value ∙ IsCrc-only all _ (c.push.ensures.check u (IsCrc-same c.self.view_is c.self.invariant.3)) in (
      λ equal. IsCrc-zero all long check computed (eqb-true check 0 equal),
      λ agrees. eq-eqb check 0 (zero-IsCrc all long check computed c.value.ensures.range agrees),
    )
