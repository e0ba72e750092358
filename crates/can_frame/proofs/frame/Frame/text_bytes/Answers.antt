use Rattle.std.proofs.Common.{◌≡◌, ◌++◌, ap, subst, sym, ◌∙◌}
use Rattle.std.specs.Str.{IsAscii}
use Rattle.can_frame.specs.Text.{frame_text}
use Rattle.can_frame.proofs.frame.Frame.text_bytes.Goals as goal
use Rattle.can_frame.proofs.frame.Frame.text_bytes.Goals.{After-push_text}

written : (c : After-push_text) → c.push_text.new.text.items ≡ frame_text c.args.self.now
written c = c.push_text.ensures.written ∙ ap (λ t. t ++ frame_text c.args.self.now) c.new-text.ensures

pub returns-clause-text : goal.returns-clause-text
returns-clause-text c = written c

pub returns-clause-ascii : goal.returns-clause-ascii
returns-clause-ascii c = subst IsAscii (sym (written c)) c.push_text.ensures.ascii
