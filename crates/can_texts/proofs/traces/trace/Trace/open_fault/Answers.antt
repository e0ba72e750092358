use Rattle.std.proofs.Common.{inl, inr}
use Rattle.can_texts.proofs.TraceSteps.{EndsWith-in_frame, EndsWith-idle, EndsWith-lost}
use Rattle.can_texts.proofs.traces.trace.Trace.open_fault.Goals as goal

pub returns-in-InFrame : goal.returns-in-InFrame
returns-in-InFrame c = λ levels told hearing. EndsWith-in_frame c.args.self.now levels told hearing c.in-InFrame.start c.in-InFrame.decoder c.in-InFrame.is

pub returns-in-Idle : goal.returns-in-Idle
returns-in-Idle c = λ levels told hearing. elim c.in-Idle.is [
  | inl is ↦ EndsWith-idle c.args.self.now levels told hearing is
  | inr is ↦ EndsWith-lost c.args.self.now levels told hearing is.0 is.1
]
