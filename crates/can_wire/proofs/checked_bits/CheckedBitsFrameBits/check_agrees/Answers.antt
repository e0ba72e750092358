use Rattle.std.proofs.Common.{◌≡◌, ap, ◌∙◌}
use Rattle.std.proofs.lemmas.Bool.{eqb-true, eq-eqb}
use Rattle.can_frame.specs.Levels.{bits_of}
use Rattle.can_wire.specs.Crc.{crc_of}
use Rattle.can_wire.proofs.CheckRuns.{IsCrc-zero, zero-IsCrc}
use Rattle.can_wire.proofs.DivisionLemmas.{IsCrc-only}
use Rattle.can_wire.proofs.checked_bits.CheckedBitsFrameBits.check_agrees.Goals as goal

pub returns : goal.returns
returns c =
    let u = c.args.self.now in
    let check = c.value.result in
    let computed : bits_of 15 check ≡ crc_of u =
    ap (bits_of 15) c.value.ensures.value ∙ IsCrc-only (bits_of c.self.inside.count c.self.inside.register) (bits_of 15 c.self.inside.run) c.self.invariant.3 ∙ ap crc_of c.self.view_is in (
      λ equal. IsCrc-zero u c.requires check computed (eqb-true check 0 equal),
      λ agrees. eq-eqb check 0 (zero-IsCrc u c.requires check computed c.value.ensures.range agrees),
    )
