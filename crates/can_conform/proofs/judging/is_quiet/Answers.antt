use Rattle.std.specs.Prelude.{slice_get}
use Rattle.std.proofs.Common.{◌≡◌, None, rules}
use Rattle.can_conform.proofs.AgreementLemmas.{quiet-agrees, quiet-reached}
use Rattle.can_conform.proofs.judging.is_quiet.Goals as goal

pub returns-clause-agrees : goal.returns-clause-agrees
returns-clause-agrees c = λ same.
    let m = c.args.moment.now in
    let event : m.event ≡ None = search rules in
    let held : c.args.progress.now.held ≡ m.counters = search rules in
    let level : slice_get c.args.transcript.now.drove.items c.args.time ≡ m.drove = search rules in
    quiet-agrees c.args.transcript.now c.args.progress.now c.args.time m c.requires.told c.requires.reached event held level (c.comes.ensures.none c.if-comes.false) (c.comes-2.ensures.none c.if-comes-2.false)

pub returns-clause-reached : goal.returns-clause-reached
returns-clause-reached c = λ same.
    quiet-reached c.args.transcript.now c.args.progress.now c.args.time c.requires.told c.requires.reached (c.comes.ensures.reached c.if-comes.false) (c.comes-2.ensures.reached c.if-comes-2.false) (c.comes-2.ensures.none c.if-comes-2.false)
