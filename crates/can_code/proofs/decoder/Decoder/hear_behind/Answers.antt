use Rattle.std.proofs.Common.{◌≡◌, ◌+◌, refl, sym, ◌∙◌, ap}
use Rattle.std.proofs.lemmas.Bool.{not-false}
use Rattle.can_code.specs.declared.front.Place.TheVariants.{CrcDelimiter}
use Rattle.can_code.specs.Front.{next_place}
use Rattle.can_code.proofs.DecoderLemmas.{is_ended}
use Rattle.can_code.proofs.UnstuffingLemmas.{DecodesDigits-behind}
use Rattle.can_code.proofs.decoder.Decoder.hear_behind.Goals as goal

pub returns-clause-heard : goal.returns-clause-heard
returns-clause-heard g c =
    let heard = c.tail_of-heard in
    let front_is = ap (λ d. d.front) c.self.view_is in
    let ended : next_place c.args.self.now.front ≡ CrcDelimiter =
    ap next_place (sym front_is) ∙ sym c.next_place.ensures.place ∙ is_ended c.next_place.result (not-false _ (sym c.ne.ensures ∙ c.if-ne.false)) in
    DecodesDigits-behind c.args.self.now _ c.self.inside.behind (c.self.inside.behind + heard.result.taken) c.self.inside.acked heard.result.acked _ ended heard.ensures.few
    front_is (ap (λ d. d.behind) c.self.view_is) refl heard.ensures.tail
