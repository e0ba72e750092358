use Rattle.std.proofs.Common.{◌≡◌, drop, get_or, sym, ◌∙◌, ap, subst, length, ◌+◌, ◌<◌}
use Rattle.std.proofs.lemmas.List.{at_drop_more}
use Rattle.can_frame.specs.declared.level.Level.TheVariants.{Dominant}
use Rattle.can_code.proofs.DecoderLemmas.{is_ended}
use Rattle.can_fields.specs.Marks.{heard_to}
use Rattle.can_fields.proofs.MarkLemmas.{heard_to-ended, heard_to-wrong, is_bit, room_at_bit}
use Rattle.can_fields.proofs.mark.unstuffed.Goals as goal
use Rattle.can_fields.proofs.mark.unstuffed.Goals.{then-eq-via-then-eq, then-eq-via-else-eq+then-is_err}

pub returns-then-eq : goal.returns-then-eq
returns-then-eq c =
    let f = c.loop-level.front in
    let i = c.loop-level.level-index in
    let next = at_drop_more (heard_to f) c.args.rest.now i Dominant c.loop-level-test.true in
    let x = get_or c.args.rest.now i Dominant in
    let more = drop (i + 1) c.args.rest.now in
    let stays : heard_to f (drop i c.args.rest.now) ≡ f = elim c.then-eq.branch [
      | then-eq-via-then-eq w ↦ next ∙ heard_to-ended f x more (sym c.next_place-place.ensures.place ∙ is_ended c.next_place-place.result (sym c.eq.ensures ∙ w.if-eq.true))
      | then-eq-via-else-eq+then-is_err w ↦ next ∙ heard_to-wrong f x more (w.hear.ensures.error.0 (sym w.is_err.ensures.value ∙ w.if-is_err.true))
    ] in
    c.loop-level.invariant.bits ∙ ap (λ g. g.unstuffed) (sym stays ∙ c.loop-level.invariant.rest)

pub push-requires : goal.push-requires
push-requires c =
    subst (λ b. length b < 118) (sym c.loop-level.invariant.bits)
    (room_at_bit c.loop-level.front c.next_place-place.ensures.whole (sym c.next_place-place.ensures.place ∙ is_bit c.next_place-place.result (sym c.eq-in-loop-level.ensures ∙ c.if-eq-2.true)))
