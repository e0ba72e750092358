use Rattle.std.specs.Prelude.{if◌then◌else◌}
use Rattle.std.proofs.Common.{◌≡◌, ◌+◌, ◌<◌, Option, Some, None, length, sym, subst, ap, ◌∙◌, arith, rules}
use Rattle.can_conform.specs.declared.moment.Moment.{Moment}
use Rattle.can_terms.specs.declared.transcript.Counters.{Counters}
use Rattle.can_conform.specs.Runs.{before, counters_of, ending_of, moment_at}
use Rattle.can_conform.specs.Transcripts.{changed_in, same_counters}
use Rattle.can_conform.specs.Walks.{Foresees}
use Rattle.can_conform.proofs.AgreementLemmas.{counters-start}
use Rattle.can_conform.proofs.Drives.{AreDriven, driven-all, driven-next, driven-none}
use Rattle.can_conform.proofs.Growing.{IsToldUpTo, told-all, told-next, told-none}
use Rattle.can_node.proofs.NodePort.{node_port}
use Rattle.can_conform.proofs.RunLemmas.{before-first, changed-past, event-past}
use Rattle.can_conform.proofs.expecting.expect.Goals as goal

pub loop-time-init : goal.loop-time-init
loop-time-init c =
    let s = c.args.script.now in
    record {
      port = c.in_ok-bench.ensures.port;
      foresees = c.in_ok-bench.ensures.foresees;
      time = c.in_ok-bench.ensures.time;
      drove = subst (λ xs. AreDriven s xs 0) (sym c.in_ok-drove.ensures.items) (driven-none s);
      events = subst (λ xs. IsToldUpTo (λ t. (moment_at s t).event) xs 0) (sym c.new-events.ensures.items) (told-none (λ t. (moment_at s t).event));
      counters = subst (λ xs. IsToldUpTo (changed_in s) xs 0) (sym c.new-counters.ensures.items) (told-none (changed_in s));
      held = counters-start s.start ∙ sym (ap counters_of (before-first s));
    }

pub loop-time-preserved : goal.loop-time-preserved
loop-time-preserved c =
    let s = c.args.script.now in
    let t = c.loop-time.time in
    let size : c.len-time-end.result ≡ length c.args.script.now.tester.items = search rules in
    let within : c.loop-time.time < length c.args.script.now.tester.items = omega arith in
    let moment : c.step-moment.result ≡ moment_at c.args.script.now c.loop-time.time = c.step-moment.ensures.moment ∙ ap (moment_at s) c.loop-time.invariant.time in
    let now : c.step-moment.result.counters ≡ counters_of (before c.args.script.now (c.loop-time.time + 1)) = ap (λ (m : Moment). m.counters) moment in
    let F : Counters → Counters → Option Counters = λ one other. if same_counters one other then None else Some one in
    let changed : c.change.result ≡ changed_in c.args.script.now c.loop-time.time =
    c.change.ensures ∙ ap (λ n. F n c.loop-time.held) now ∙ ap (F (counters_of (before s (t + 1)))) c.loop-time.invariant.held in
    record {
      port = c.step-moment.ensures.port ∙ ap (λ k. before s (k + 1)) c.loop-time.invariant.time;
      foresees = subst (λ k. Foresees s (k + 1) c.step-moment.new.self.outlook) c.loop-time.invariant.time c.step-moment.ensures.foresees;
      time = c.step-moment.ensures.time ∙ ap (λ k. k + 1) c.loop-time.invariant.time;
      drove = subst (λ xs. AreDriven s xs (t + 1)) (sym c.in_ok-push_some.ensures)
          (driven-next s c.loop-time.drove.items t c.step-moment.result.drove (ap (λ (m : Moment). m.drove) moment) within c.loop-time.invariant.drove);
      events = subst (λ xs. IsToldUpTo (λ u. (moment_at s u).event) xs (t + 1)) (sym c.in_ok-push_timed.ensures)
          (told-next (λ u. (moment_at s u).event) c.loop-time.events.items t c.step-moment.result.event (ap (λ (m : Moment). m.event) moment) c.loop-time.invariant.events);
      counters = subst (λ xs. IsToldUpTo (changed_in s) xs (t + 1)) (sym c.in_ok-push_timed-2.ensures)
          (told-next (changed_in s) c.loop-time.counters.items t c.change.result changed c.loop-time.invariant.counters);
      held = now;
    }

pub returns : goal.returns
returns c =
    let s = c.args.script.now in
    let n = c.loop-time.time in
    let whole : c.len-time-end.result ≡ length c.args.script.now.tester.items = search rules in
    let size : length c.args.script.now.tester.items ≡ c.loop-time.time = omega arith in
    record {
      levels = driven-all s c.loop-time.drove.items n size c.loop-time.invariant.drove;
      events = told-all (λ t. (moment_at s t).event) c.loop-time.events.items n (λ t late. event-past s t (omega (arith, size, late))) c.loop-time.invariant.events;
      counters = told-all (changed_in s) c.loop-time.counters.items n (λ t late. changed-past s t (omega (arith, size, late))) c.loop-time.invariant.counters;
      end = ap (λ e. Some e) (c.ending_of.ensures ∙ ap ending_of (c.loop-time.invariant.port ∙ ap (before s) (sym size)));
    }
