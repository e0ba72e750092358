use Rattle.std.proofs.lemmas.Bool.{eqb-true, eq-eqb}
use Rattle.can_wire.proofs.CheckRuns.{IsCrc-zero, zero-IsCrc}
use Rattle.can_wire.proofs.packed_bits.PackedBitsFrameBits.check_agrees.Goals as goal

pub returns : goal.returns
returns c =
    let u = c.args.self.now in
    let check = c.check.result in (
      λ equal. IsCrc-zero u c.requires check c.check.ensures.computed (eqb-true check 0 equal),
      λ agrees. eq-eqb check 0 (zero-IsCrc u c.requires check c.check.ensures.computed c.check.ensures.range agrees),
    )
