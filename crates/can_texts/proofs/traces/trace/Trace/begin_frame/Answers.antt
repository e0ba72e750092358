use Rattle.std.proofs.Common.{refl}
use Rattle.can_frame.specs.declared.level.Level.TheVariants.{Dominant}
use Rattle.can_texts.proofs.TraceSteps.{Hearing-begun}
use Rattle.can_texts.proofs.traces.trace.Trace.begin_frame.Goals as goal

pub returns-clause-hears : goal.returns-clause-hears
returns-clause-hears c = λ levels told hearing. Hearing-begun c.args.self.now _ levels told hearing Dominant refl c.begin.result c.requires.idle refl c.begin.ensures refl
