use Rattle.std.proofs.Common.{take, subst, sym, ap, ◌∙◌}
use Rattle.can_code.specs.Digits.{HearsDigits}
use Rattle.can_code.specs.Front.{next_place}
use Rattle.can_code.proofs.DecoderLemmas.{is_going}
use Rattle.can_code.proofs.UnstuffingLemmas.{DecodesDigits-part}
use Rattle.can_code.proofs.decoder.Decoder.hear_front.Goals as goal

pub returns-clause-heard : goal.returns-clause-heard
returns-clause-heard g c =
    let front_is = ap (λ d. d.front) c.self.view_is in
    let going = is_going c.next_place.result (sym c.eq.ensures ∙ c.if-eq.false) in
    DecodesDigits-part c.args.self.now _ (take c.hear_run.result c.args.digits.now) (λ e. going (c.next_place.ensures.place ∙ ap next_place front_is ∙ e)) c.hear_run.ensures.agrees (ap (λ d. d.behind) c.self.view_is)
    (subst (λ f. HearsDigits f c.hear_run.new.self (take c.hear_run.result c.args.digits.now)) front_is c.hear_run.ensures.heard)
