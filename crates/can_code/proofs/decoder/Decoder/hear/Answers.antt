use Rattle.std.proofs.Common.{◌≡◌, ◌≢◌, ◌<◌, ◌+◌, [], ◌∷◌, ◌++◌, take, not, refl, sym, ◌∙◌, ap, subst, arith, rules}
use Rattle.std.proofs.lemmas.Bool.{false_from_ne_true, both_ways, not-true, not-false}
use Rattle.std.specs.Result.{is_err}
use Rattle.can_frame.specs.declared.level.Level.TheVariants.{Recessive}
use Rattle.can_frame.specs.Levels.{is_recessive}
use Rattle.can_code.specs.declared.front.Place.TheVariants.{CrcDelimiter}
use Rattle.can_wire.specs.Crc.{IsCrc}
use Rattle.can_wire.specs.Wire.{tail}
use Rattle.can_wire.specs.Heard.{ack_slot, Spells}
use Rattle.can_wire.specs.Layout.{check_of, head_of, heard_of}
use Rattle.can_code.specs.Front.{next_place, is_stuff_error, heard_level}
use Rattle.can_code.proofs.HeardLevels.{at_ok}
use Rattle.can_code.proofs.TailLemmas.{ack_slot_heard, recessive_heard, dominant_breaks}
use Rattle.can_code.proofs.DecoderLemmas.{is_ended, is_going, HasHeard-stuff, HasHeard-crc, HasHeard-level, HasHeard-form, HasHeard-behind, HasHeard-last}
use Rattle.can_code.proofs.decoder.Decoder.hear.Goals as goal
use Rattle.can_code.proofs.decoder.Decoder.hear.Goals.{else-eq-via-then-eq+else-not-check_agrees, else-eq-via-else-eq, in-1, in_default}

pub returns-then-is_err-clause-fault : goal.returns-then-is_err-clause-fault
returns-then-is_err-clause-fault g c =
    let front_is = ap (λ d. d.front) c.self.view_is in
    let going = is_going c.next_place.result (not-true _ (sym c.ne.ensures ∙ c.if-ne.true)) in
    let error = c.hear.ensures.error.0 (sym c.is_err.ensures.value ∙ c.if-is_err.true) in
    λ l rest heard.
    HasHeard-stuff c.args.self.now l heard (λ e. going (c.next_place.ensures.place ∙ ap next_place front_is ∙ e)) c.args.level rest (ap (λ f. is_stuff_error f c.args.level) (sym front_is) ∙ error)

pub returns-then-not-check_agrees-clause-fault : goal.returns-then-not-check_agrees-clause-fault
returns-then-not-check_agrees-clause-fault g c =
    let x = c.args.level in
    let front_is = ap (λ d. d.front) c.self.view_is in
    let heard_well = sym c.is_err.ensures.value ∙ c.if-is_err.false in
    let going = is_going c.next_place.result (not-true _ (sym c.ne.ensures ∙ c.if-ne.true)) in
    let no_error = false_from_ne_true (is_stuff_error c.self.inside.front x) (λ error. both_ways (is_err c.hear.result) heard_well (c.hear.ensures.error.1 error)) in
    let ended = is_ended c.next_place-then-ne.result (sym c.eq.ensures ∙ c.if-eq.true) in
    let next : c.hear.new.self ≡ heard_level c.args.self.now.front x = at_ok c.hear.result heard_well c.hear.ensures.ok ∙ ap (λ f. heard_level f x) front_is in
    λ l rest heard.
    HasHeard-crc c.args.self.now l heard (λ e. going (c.next_place.ensures.place ∙ ap next_place front_is ∙ e)) x (ap (λ f. is_stuff_error f x) (sym front_is) ∙ no_error) rest
    (ap next_place (sym next) ∙ sym c.next_place-then-ne.ensures.place ∙ ended)
    (λ agrees. both_ways c.check_agrees.result c.if-not-check_agrees.true (c.check_agrees.ensures.1 (subst (λ f. IsCrc (head_of f.unstuffed) (check_of f.unstuffed)) (sym next) agrees)))

pub returns-then-ne-clause-more : goal.returns-then-ne-clause-more
returns-then-ne-clause-more g c =
    let x = c.args.level in
    let f = c.hear.new.self in
    let front_is = ap (λ d. d.front) c.self.view_is in
    let heard_well = sym c.is_err.ensures.value ∙ c.if-is_err.false in
    let going = is_going c.next_place.result (not-true _ (sym c.ne.ensures ∙ c.if-ne.true)) in
    let no_error = false_from_ne_true (is_stuff_error c.self.inside.front x) (λ error. both_ways (is_err c.hear.result) heard_well (c.hear.ensures.error.1 error)) in
    let next : f ≡ heard_level c.args.self.now.front x = at_ok c.hear.result heard_well c.hear.ensures.ok ∙ ap (λ f. heard_level f x) front_is in
    let agrees : next_place f ≡ CrcDelimiter → IsCrc (head_of f.unstuffed) (check_of f.unstuffed) = λ ended.
    elim c.else-eq.branch [
      | else-eq-via-then-eq+else-not-check_agrees w ↦ w.check_agrees.ensures.0 w.if-not-check_agrees.false
      | else-eq-via-else-eq w ↦ absurd (is_going c.next_place-then-ne.result (sym c.eq.ensures ∙ w.if-eq.false) (c.next_place-then-ne.ensures.place ∙ ended))
    ] in
    λ _ l heard.
    HasHeard-level c.args.self.now l heard (λ e. going (c.next_place.ensures.place ∙ ap next_place front_is ∙ e)) x (ap (λ f. is_stuff_error f x) (sym front_is) ∙ no_error)
    _ next (ap (λ d. d.behind) c.self.view_is) agrees

pub returns-in-9-clause-heard : goal.returns-in-9-clause-heard
returns-in-9-clause-heard g c =
    let x = c.args.level in
    let front_is = ap (λ d. d.front) c.self.view_is in
    let ended = is_ended c.next_place.result (not-false _ (sym c.ne.ensures ∙ c.if-ne.false)) in
    let behind : c.args.self.now.behind ≡ take 9 (tail (ack_slot c.self.inside.acked) Recessive) =
    ap (λ d. d.behind) (sym c.self.view_is) ∙ ap (λ n. take n (tail (ack_slot c.self.inside.acked) Recessive)) c.in-9.is in
    λ h l result heard.
    let told : h ≡ heard_of c.args.self.now.front.unstuffed c.self.inside.acked x =
    (let same : c.heard.result ≡ h = cc in sym same) ∙ c.heard.ensures ∙ ap (λ f. heard_of f.unstuffed c.self.inside.acked x) front_is in
    subst (λ h. Spells h (l ++ x ∷ [])) (sym told)
    (HasHeard-last c.args.self.now l heard (ap next_place (sym front_is) ∙ sym c.next_place.ensures.place ∙ ended) x c.self.inside.acked behind)

pub returns-in_default-2-clause-fault : goal.returns-in_default-2-clause-fault
returns-in_default-2-clause-fault g c =
    let x = c.args.level in
    let k = c.self.inside.behind in
    let acked = c.self.inside.acked in
    let front_is = ap (λ d. d.front) c.self.view_is in
    let ended = is_ended c.next_place.result (not-false _ (sym c.ne.ensures ∙ c.if-ne.false)) in
    let breaks = dominant_breaks k acked x c.self.invariant (λ e. omega arith) (λ e. omega arith) (sym c.if-is_recessive.ensures) in
    λ l rest heard.
    HasHeard-form c.args.self.now l heard (ap next_place (sym front_is) ∙ sym c.next_place.ensures.place ∙ ended) x rest
    (λ h more same. breaks h more (ap (λ d. d.behind ++ x ∷ more) c.self.view_is ∙ same))

pub returns-clause-more : goal.returns-clause-more
returns-clause-more g c =
    let x = c.args.level in
    let k = c.self.inside.behind in
    let d = c.args.self.now in
    let front_is = ap (λ d. d.front) c.self.view_is in
    let behind_is : take k (tail (ack_slot c.self.inside.acked) Recessive) ≡ d.behind = ap (λ d. d.behind) c.self.view_is in
    let ended = is_ended c.next_place.result (not-false _ (sym c.ne.ensures ∙ c.if-ne.false)) in
    let ended_here : next_place d.front ≡ CrcDelimiter = ap next_place (sym front_is) ∙ sym c.next_place.ensures.place ∙ ended in
    λ _ l heard.
    elim c.match-self.branch [
      | in-1 w ↦
          let slot : k ≡ 1 = w.in-1.is in
          rw (w.self-inside-is, w.is_recessive.ensures) (
          HasHeard-behind d l heard ended_here _ x (k + 1) (not (is_recessive x)) (omega arith) front_is
          (ack_slot_heard k c.self.inside.acked x slot ∙ ap (λ t. t ++ x ∷ []) behind_is) refl
          )
      | in_default w ↦
          let no_slot : k ≢ 1 = λ e. omega arith in
          let no_last : k ≢ 9 = λ e. omega arith in
          let few : k < 10 = c.self.invariant in
          rw w.self-inside-is (
          HasHeard-behind d l heard ended_here _ x (k + 1) c.self.inside.acked (omega arith) front_is
          (recessive_heard k c.self.inside.acked x few no_slot no_last (sym w.if-is_recessive.ensures) ∙ ap (λ t. t ++ x ∷ []) behind_is) refl
          )
    ]

pub returns-then-is_err-clause-more : goal.returns-then-is_err-clause-more
returns-then-is_err-clause-more g c = search rules

pub returns-then-not-check_agrees-clause-more : goal.returns-then-not-check_agrees-clause-more
returns-then-not-check_agrees-clause-more g c = search rules
