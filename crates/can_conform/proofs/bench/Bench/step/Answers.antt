use Rattle.std.specs.Prelude.{slice_get}
use Rattle.std.proofs.Common.{◌≡◌, Some, None, length, refl, ap, sym, ◌∙◌, arith}
use Rattle.std.proofs.lemmas.Option.{slice_get_past, slice_get_read}
use Rattle.can_conform.specs.declared.moment.Moment.{Moment}
use Rattle.can_node.proofs.NodePort.{node_port}
use Rattle.can_conform.proofs.OutlookLemmas.{foresees-later}
use Rattle.can_conform.proofs.RunLemmas.{moment-met, moment-still, port-met, port-still}
use Rattle.can_conform.proofs.bench.Bench.step.Goals as goal

pub returns-in_default-clause-port : goal.returns-in_default-clause-port
returns-in_default-clause-port c =
    let t = c.args.self.now.time in
    let none = sym (ap (λ xs. slice_get xs t) c.deref.ensures.value) ∙ slice_get_past c.deref.result.now t c.in_default.ensures.lookup.3 in
    port-still c.args.script.now t (node_port c.args.self.now.node) none c.requires.port

pub returns-in_default-clause-foresees : goal.returns-in_default-clause-foresees
returns-in_default-clause-foresees c = foresees-later c.args.script.now c.args.self.now.time c.args.self.now.outlook c.requires.foresees

pub returns-in_default-clause-moment : goal.returns-in_default-clause-moment
returns-in_default-clause-moment c =
    let t = c.args.self.now.time in
    let none = sym (ap (λ xs. slice_get xs t) c.deref.ensures.value) ∙ slice_get_past c.deref.result.now t c.in_default.ensures.lookup.3 in
    ap (λ k. let m : Moment = record { drove = None; event = None; counters = k } in m) c.counters_of.ensures
    ∙ moment-still c.args.script.now t (node_port c.args.self.now.node) none (port-still c.args.script.now t (node_port c.args.self.now.node) none c.requires.port)

pub returns-clause-port : goal.returns-clause-port
returns-clause-port c =
    let t = c.args.self.now.time in
    let x = c.in-Some.tester.now in
    let there : slice_get c.deref.result.now c.args.self.now.time ≡ Some c.in-Some.tester.now =
    slice_get_read c.deref.result.now (length c.deref.result.now) t x refl c.in-Some.ensures.lookup.3.0 (c.in-Some.ensures.lookup.4 (omega arith) x) in
    let here = sym (ap (λ xs. slice_get xs t) c.deref.ensures.value) ∙ there in
    port-met c.args.script.now t x (node_port c.args.self.now.node) (node_port c.play-drove.new.self.node) here c.requires.port c.play-drove.ensures.port

pub returns-clause-moment : goal.returns-clause-moment
returns-clause-moment c =
    let t = c.args.self.now.time in
    let x = c.in-Some.tester.now in
    let there : slice_get c.deref.result.now c.args.self.now.time ≡ Some c.in-Some.tester.now =
    slice_get_read c.deref.result.now (length c.deref.result.now) t x refl c.in-Some.ensures.lookup.3.0 (c.in-Some.ensures.lookup.4 (omega arith) x) in
    let here = sym (ap (λ xs. slice_get xs t) c.deref.ensures.value) ∙ there in
    let next = port-met c.args.script.now t x (node_port c.args.self.now.node) (node_port c.play-drove.new.self.node) here c.requires.port c.play-drove.ensures.port in
    ap (λ k. let m : Moment = record { drove = Some c.play-drove.result.0; event = c.play-drove.result.1; counters = k } in m) c.counters_of-2.ensures
    ∙ moment-met c.args.script.now t x (node_port c.args.self.now.node) (node_port c.play-drove.new.self.node) (Some c.play-drove.result.0) c.play-drove.result.1
    here c.requires.port next (ap (λ l. Some l) c.play-drove.ensures.drove) c.play-drove.ensures.event
