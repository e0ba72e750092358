use Rattle.std.proofs.Common.{◌≡◌, ◌+◌, refl, sym, subst, ap, ◌∙◌, arith, rules}
use Rattle.can_mac.specs.State.{MacState}
use Rattle.can_node.specs.Ports.{PortState}
use Rattle.can_conform.specs.Standings.{phase_rule}
use Rattle.can_conform.specs.Runs.{before, moment_at}
use Rattle.can_conform.specs.Transcripts.{AgreesAt}
use Rattle.can_conform.specs.Walks.{Foresees}
use Rattle.can_conform.proofs.AgreementLemmas.{agrees-all, agrees-more, reached-start, stands-past}
use Rattle.can_node.proofs.NodePort.{node_port}
use Rattle.can_conform.proofs.RunLemmas.{before-first, rule-first, since-first}
use Rattle.can_conform.proofs.judging.judge.Goals as goal

pub loop-time-init : goal.loop-time-init
loop-time-init c = record {
  stands = record {
    port = c.in_ok-bench.ensures.port;
    decides = c.begin-watch.ensures.rule
        ∙ ap (λ (m : MacState). phase_rule m.phase m.role) (c.access.ensures ∙ ap (λ (p : PortState). p.mac) (c.in_ok-bench.ensures.port ∙ before-first c.args.script.now))
        ∙ sym (rule-first c.args.script.now);
    last = c.begin-watch.ensures.since ∙ sym (since-first c.args.script.now);
  };
  foresees = c.in_ok-bench.ensures.foresees;
  time = c.in_ok-bench.ensures.time;
  agrees = λ t h. absurd (omega arith);
  reached = reached-start c.args.transcript.now _ refl refl refl;
}

pub loop-time-preserved : goal.loop-time-preserved
loop-time-preserved c =
    let s = c.args.script.now in
    let told = c.args.transcript.now in
    let t = c.loop-time.time in
    let moment : c.step-moment.result ≡ moment_at c.args.script.now c.loop-time.time = c.step-moment.ensures.moment ∙ ap (moment_at s) c.loop-time.invariant.time in
    record {
      stands = record {
        port = c.step-moment.ensures.port ∙ ap (λ k. before s (k + 1)) c.loop-time.invariant.time;
        decides = c.follow.ensures.rule;
        last = c.follow.ensures.since;
      };
      foresees = subst (λ k. Foresees s (k + 1) c.step-moment.new.self.outlook) c.loop-time.invariant.time c.step-moment.ensures.foresees;
      time = c.step-moment.ensures.time ∙ ap (λ k. k + 1) c.loop-time.invariant.time;
      agrees = agrees-more s told t c.loop-time.invariant.agrees (subst (λ m. AgreesAt told t m) moment (c.in_default.ensures.none refl));
      reached = c.in_default.ensures.reached refl;
    }

pub concluded-requires-clause-agrees : goal.concluded-requires-clause-agrees
concluded-requires-clause-agrees c =
    let end = c.horizon-time-end.ensures in
    let same : c.horizon-time-end.result ≡ c.loop-time.time = omega arith in
    agrees-all c.args.script.now c.args.transcript.now c.horizon-time-end.result end.bits end.levels end.events end.counters
    (λ t less. c.loop-time.invariant.agrees t (omega (arith, same, less)))

pub concluded-requires-clause-stands : goal.concluded-requires-clause-stands
concluded-requires-clause-stands c =
    let same : c.horizon-time-end.result ≡ c.loop-time.time = omega arith in
    stands-past c.args.script.now c.loop-time.time (node_port c.loop-time.bench.node) c.loop-time.watch.rule c.loop-time.watch.since (omega (arith, same, c.horizon-time-end.ensures.bits)) c.loop-time.invariant.stands

pub returns-in-Some : goal.returns-in-Some
returns-in-Some c = search rules
