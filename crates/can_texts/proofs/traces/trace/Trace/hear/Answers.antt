use Rattle.std.proofs.Common.{Ok, refl, sym, ap, ◌∙◌, arith}
use Rattle.can_texts.specs.declared.traces.trace.Trace.{Trace}
use Rattle.can_texts.proofs.TraceSteps.{Hearing-recessive, Hearing-begun, Hearing-more, Hearing-frame, Hearing-fault}
use Rattle.can_texts.proofs.traces.trace.Trace.hear.Goals.{then-not-is_recessive, else-not-is_recessive}
use Rattle.can_texts.proofs.traces.trace.Trace.hear.Goals as goal

pub returns-after-not-is_recessive-clause-hears : goal.returns-after-not-is_recessive-clause-hears
returns-after-not-is_recessive-clause-hears c =
    let old = c.args.self.now in
    λ levels told hearing. elim c.if-not-is_recessive.branch [
      | then-not-is_recessive w ↦
          Hearing-begun old c.if-not-is_recessive.self levels told hearing c.args.level (ap (λ (t : Trace). t.place) w.self-is) w.begin.result
          c.in-Idle.is (ap (λ (t : Trace). t.state) w.self-is) w.begin.ensures (sym c.is_recessive.ensures ∙ w.if-not-is_recessive.true)
      | else-not-is_recessive w ↦
          Hearing-recessive old c.if-not-is_recessive.self levels told hearing c.args.level (ap (λ (t : Trace). t.place) w.self-is)
          c.in-Idle.is (ap (λ (t : Trace). t.state) w.self-is ∙ c.in-Idle.is) (sym c.is_recessive.ensures ∙ w.if-not-is_recessive.false)
    ]

pub returns-in-Ok-None-clause-hears : goal.returns-in-Ok-None-clause-hears
returns-in-Ok-None-clause-hears c =
    λ levels told hearing. Hearing-more c.args.self.now _ levels told hearing c.args.level refl c.in-InFrame.start c.in-InFrame.decoder c.in-InFrame.is c.hear.new.self refl
    (c.hear.ensures.more (c.in-Ok-None.is ∙ ap Ok c.in-Ok-None.field-0-is))

pub returns-in-Ok-Some-clause-hears : goal.returns-in-Ok-Some-clause-hears
returns-in-Ok-Some-clause-hears c =
    λ levels told hearing. rw c.in-Ok-Some.heard-is
    (Hearing-frame c.args.self.now _ levels told hearing c.args.level refl c.in-InFrame.start c.in-InFrame.decoder c.in-InFrame.is c.in-Ok-Some.heard refl
    (λ l heard. c.hear.ensures.heard _ l (c.in-Ok-Some.is ∙ ap Ok c.in-Ok-Some.field-0-is) heard))

pub returns-in-Err-clause-hears : goal.returns-in-Err-clause-hears
returns-in-Err-clause-hears c =
    λ levels told hearing. Hearing-fault c.args.self.now _ levels told hearing c.args.level refl c.in-InFrame.start c.in-InFrame.decoder c.in-InFrame.is c.in-Err.kind
    c.in-Err.ensures.fault (λ done found on. c.searched-self.ensures done found (omega arith) on)
