use Rattle.std.proofs.Common.{◌≡◌, ◌++◌, ap, subst, sym, ◌∙◌}
use Rattle.can_frame.specs.Parts.{IsFrame}
use Rattle.can_wire.specs.Crc.{crc_of}
use Rattle.can_wire.specs.Heard.{heard_head}
use Rattle.can_wire.specs.Layout.{frame_of}
use Rattle.can_wire.specs.Wire.{unstuffed}
use Rattle.can_code.proofs.UnstuffedLevels.{frame_of-unstuffed, unstuffed-sent}
use Rattle.can_code.proofs.sending.Sending.new.Goals as goal
use Rattle.can_code.proofs.sending.Sending.new.Goals.{After-head_and_crc}

whole : (c : After-head_and_crc) → IsFrame c.args.frame.now
whole c = subst (λ h. IsFrame h.frame) c.sent.ensures c.head_and_crc.ensures.whole.frame

levels : (c : After-head_and_crc) → c.head_and_crc.result ≡ unstuffed c.args.frame.now
levels c = c.head_and_crc.ensures.levels ∙ ap (λ h. heard_head h ++ crc_of (heard_head h)) c.sent.ensures ∙ unstuffed-sent c.args.frame.now

-- the levels give the frame back
back : (c : After-head_and_crc) → frame_of c.head_and_crc.result ≡ c.args.frame.now
back c = ap frame_of (levels c) ∙ frame_of-unstuffed c.args.frame.now (whole c)

pub invariant_of-result : goal.invariant_of-result
invariant_of-result c = (subst IsFrame (sym (back c)) (whole c), ap unstuffed (back c) ∙ sym (levels c))

pub returns : goal.returns
returns c = back c
