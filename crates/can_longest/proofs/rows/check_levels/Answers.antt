use Rattle.std.proofs.Common.{[], length, ◌∙◌, ap, arith}
use Rattle.std.proofs.lemmas.List.{append-nil}
use Rattle.can_frame.specs.declared.level.Level.TheVariants.{Dominant}
use Rattle.can_frame.specs.Levels.{bits_of}
use Rattle.can_wire.specs.Stuffing.{stuffed_from}
use Rattle.can_longest.proofs.rows.check_levels.Goals as goal

pub returns : goal.returns
returns c =
    let check = bits_of 15 c.args.check in
    let number = ap (bits_of 15) c.from.ensures in
    let whole = ap (λ t. length (stuffed_from Dominant c.args.run t)) (append-nil (bits_of 15 c.from.result) ∙ number) in
    omega (arith, c.hear_bits.ensures.behind [], whole)
