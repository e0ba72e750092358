use Rattle.std.specs.Prelude.{slice_get}
use Rattle.std.proofs.Common.{◌≡◌, Some, None, length, refl, ap, sym, ◌∙◌, arith}
use Rattle.std.proofs.lemmas.Option.{slice_get_past, slice_get_read}
use Rattle.std.specs.Option.{unwrap_or}
use Rattle.can_frame.specs.declared.level.Level.TheVariants.{Recessive}
use Rattle.can_mac.specs.State.{MacState, kind_of}
use Rattle.can_conform.specs.declared.moment.Moment.{Moment}
use Rattle.can_terms.specs.Cases.{seen_by}
use Rattle.can_conform.specs.Runs.{before, last_event, moment_at}
use Rattle.can_conform.specs.Standings.{rule_after}
use Rattle.can_conform.proofs.RunLemmas.{rule-met, rule-stays, since-more, since-stays}
use Rattle.can_conform.proofs.watch.Watch.follow.Goals as goal

pub returns-in_default-clause-rule : goal.returns-in_default-clause-rule
returns-in_default-clause-rule g c =
    let t = c.args.time in
    let none = sym (ap (λ xs. slice_get xs t) c.deref.ensures.value) ∙ slice_get_past c.deref.result.now t c.in_default.ensures.lookup.3 in
    c.requires.rule ∙ sym (rule-stays c.args.script.now t none)

pub returns-in_default-clause-since : goal.returns-in_default-clause-since
returns-in_default-clause-since g c =
    let t = c.args.time in
    let none = sym (ap (λ xs. slice_get xs t) c.deref.ensures.value) ∙ slice_get_past c.deref.result.now t c.in_default.ensures.lookup.3 in
    c.requires.since ∙ sym (since-stays c.args.script.now t none)

pub returns-clause-rule : goal.returns-clause-rule
returns-clause-rule g c =
    let t = c.args.time in
    let x = c.in-Some.tester.now in
    let there : slice_get c.deref.result.now c.args.time ≡ Some c.in-Some.tester.now =
    slice_get_read c.deref.result.now (length c.deref.result.now) t x refl c.in-Some.ensures.lookup.3.0 (c.in-Some.ensures.lookup.4 (omega arith) x) in
    let here = sym (ap (λ xs. slice_get xs t) c.deref.ensures.value) ∙ there in
    let s = c.args.script.now in
    let event = (moment_at s t).event in
    let phase = kind_of (before s t).mac in
    let seen : c.seen_by-seen.result ≡ seen_by x (unwrap_or (moment_at s t).drove Recessive) =
    c.seen_by-seen.ensures ∙ ap (seen_by x) (c.unwrap_or.ensures ∙ ap (λ (m : Moment). unwrap_or m.drove Recessive) c.requires.moment) in
    c.rule_after-self.ensures
    ∙ ap (λ (m : Moment). rule_after m.event c.args.position.phase c.seen_by-seen.result c.args.next.now) c.requires.moment
    ∙ ap (λ n. rule_after event n c.seen_by-seen.result c.args.next.now) c.requires.position
    ∙ ap (λ l. rule_after event phase l c.args.next.now) seen
    ∙ ap (λ (m : MacState). rule_after event phase (seen_by x (unwrap_or (moment_at s t).drove Recessive)) m) c.requires.next
    ∙ rule-met s t x here

pub returns-clause-since : goal.returns-clause-since
returns-clause-since g c =
    let s = c.args.script.now in
    let t = c.args.time in
    c.note_event.ensures ∙ ap (λ (m : Moment). last_event m.event t c.args.self.now.since) c.requires.moment ∙ ap (last_event (moment_at s t).event t) c.requires.since ∙ sym (since-more s t)
