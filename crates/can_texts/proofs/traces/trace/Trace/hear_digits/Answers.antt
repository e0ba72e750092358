use Rattle.std.proofs.Common.{◌≡◌, ◌+◌, [], length, take, subst, sym, ap, refl, ◌∙◌}
use Rattle.std.proofs.lemmas.List.{length-map, length-take-le}
use Rattle.can_frame.specs.Levels.{digit_of}
use Rattle.can_texts.specs.TraceText.{IsTraceText, levels_in}
use Rattle.can_texts.specs.Decoding.{Hears}
use Rattle.can_texts.specs.declared.traces.trace.State.TheVariants.{InFrame, Lost}
use Rattle.can_texts.specs.declared.traces.trace.Trace.{Trace}
use Rattle.can_texts.proofs.DecodeSteps.{levels_in-digits, IsTraceText-digits}
use Rattle.can_texts.proofs.TraceSteps.{Hearing-run, Hearing-row, Hearing-search}
use Rattle.can_texts.proofs.traces.trace.Trace.hear_digits.Goals.{in-Idle, in-InFrame, in-Lost}
use Rattle.can_texts.proofs.traces.trace.Trace.hear_digits.Goals as goal

pub returns-clause-text : goal.returns-clause-text
returns-clause-text c = elim c.match-self.branch [
  | in-Idle w ↦ rw w.heard-is tt
  | in-InFrame w ↦ (let run = w.hear_run-heard.ensures.heard in rw w.heard-is (subst IsTraceText (sym run.digits_are) (IsTraceText-digits run.levels)))
  | in-Lost w ↦ rw w.heard-is w.search-searched.ensures.searched.is_text
]

pub returns-clause-hears : goal.returns-clause-hears
returns-clause-hears c = elim c.match-self.branch [
  | in-Idle w ↦ rw (w.self-is, w.heard-is) (λ levels told hearing.
      Hearing-row c.args.self.now (record { state = c.args.self.now.state; place = c.args.self.now.place + 0 }) levels told hearing 0 w.in-Idle.is w.in-Idle.is refl)
  | in-InFrame w ↦
      let run = w.hear_run-heard.ensures.heard in
      let count = w.hear_run-heard.result in
      let size : length run.levels ≡ count =
      sym (length-map run.levels digit_of) ∙ ap length (sym run.digits_are) ∙ length-take-le count c.args.digits.now w.hear_run-heard.ensures.within in
      let new : Trace = record { state = InFrame w.in-InFrame.start w.hear_run-heard.new.self; place = c.args.self.now.place + count } in
      rw (w.self-is, w.heard-is)
      (subst (λ l. Hears c.args.self.now new l []) (sym (ap levels_in run.digits_are ∙ levels_in-digits run.levels))
      (λ levels told hearing.
      Hearing-run c.args.self.now new levels told hearing run.levels (ap (λ n. c.args.self.now.place + n) (sym size)) w.in-InFrame.start w.in-InFrame.decoder w.hear_run-heard.new.self w.in-InFrame.is refl run.heard))
  | in-Lost w ↦
      let run = w.search-searched.result in
      let searched = w.search-searched.ensures.searched in
      let size : run.taken ≡ length (levels_in (take run.taken c.args.digits.now)) =
      sym (searched.all ∙ length-take-le run.taken c.args.digits.now w.search-searched.ensures.within) in
      let new : Trace = record { state = Lost run.row; place = c.args.self.now.place + run.taken } in
      rw (w.self-is, w.heard-is) (λ levels told hearing.
      Hearing-search c.args.self.now new levels told hearing (levels_in (take run.taken c.args.digits.now)) (ap (λ n. c.args.self.now.place + n) size)
      w.in-Lost.row run.row w.in-Lost.is refl (searched.lost levels told))
]
