use Rattle.std.proofs.Common.{◌++◌, ◌∙◌}
use Rattle.can_frame.proofs.Written.{eight_digits, pairs_joined}
use Rattle.can_frame.proofs.text.write.digits.Goals as goal

pub returns : goal.returns
returns c =
    c.to_le_bytes.ensures
    ∙ pairs_joined c.pair.result c.pair-2.result c.pair-3.result c.pair-4.result c.pair.ensures.small c.pair-2.ensures.small c.pair-3.ensures.small c.pair-4.ensures.small
    ∙ (λ i. c.pair.ensures.digits i ++ (c.pair-2.ensures.digits i ++ (c.pair-3.ensures.digits i ++ c.pair-4.ensures.digits i)))
    ∙ eight_digits c.args.number
