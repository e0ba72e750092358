use Rattle.std.proofs.Common.{refl}
use Rattle.can_texts.proofs.TraceSteps.{Hearing-row}
use Rattle.can_texts.proofs.traces.trace.Trace.skip.Goals as goal

pub returns-clause-hears : goal.returns-clause-hears
returns-clause-hears c = λ levels told hearing. Hearing-row c.args.self.now _ levels told hearing c.args.count c.requires.idle c.requires.idle refl
