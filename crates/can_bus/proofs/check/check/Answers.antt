use Rattle.std.proofs.Common.{◌≡◌, ◌<◌, true, false, Some, length, slice_get, rules, arith, refl, sym, ◌∙◌}
use Rattle.std.proofs.lemmas.Option.{slice_get_read, slice_get_within}
use Rattle.can_bus.specs.declared.fault.BusFault.TheVariants.{NotRising, NoSuchPort}
use Rattle.can_bus.proofs.CheckLemmas.{first_wrong, holds_more, wrong_unsound}
use Rattle.can_bus.proofs.check.check.Goals as goal

pub returns-then-not-follows_last-clause-fault : goal.returns-then-not-follows_last-clause-fault
returns-then-not-follows_last-clause-fault g c =
    let input = c.index-inputs-place.result in
    let here : slice_get c.args.inputs.now c.loop-place.place ≡ Some c.index-inputs-place.result =
    slice_get_read c.args.inputs.now _ c.loop-place.place input refl c.loop-place-test.true c.index-inputs-place.is in
    let no : c.follows_last.result ≡ false = search rules in
    first_wrong g.I.Input.follows g.I.Input.names c.args.ports c.args.inputs.now c.loop-place.place input NotRising here c.loop-place.invariant.0
    (λ behind. let yes : c.follows_last.result ≡ true = (c.follows_last.ensures input here).1 behind in let e : false ≡ true = sym no ∙ yes in cc)

pub returns-then-not-follows_last-clause-taken : goal.returns-then-not-follows_last-clause-taken
returns-then-not-follows_last-clause-taken g c = (
  λ e. absurd (let k : false ≡ true = e in cc),
  λ sound. absurd (wrong_unsound g.I.Input.follows g.I.Input.names c.args.ports c.args.inputs.now NotRising (returns-then-not-follows_last-clause-fault g c) sound),
)

pub returns-then-not-names_port-clause-fault : goal.returns-then-not-names_port-clause-fault
returns-then-not-names_port-clause-fault g c =
    let input = c.index-inputs-place.result in
    let here : slice_get c.args.inputs.now c.loop-place.place ≡ Some c.index-inputs-place.result =
    slice_get_read c.args.inputs.now _ c.loop-place.place input refl c.loop-place-test.true c.index-inputs-place.is in
    let yes : c.follows_last.result ≡ true = search rules in
    let no : c.names_port.result ≡ false = search rules in
    first_wrong g.I.Input.follows g.I.Input.names c.args.ports c.args.inputs.now c.loop-place.place input NoSuchPort here c.loop-place.invariant.0
    ((c.follows_last.ensures input here).0 yes, sym c.names_port.ensures.answer ∙ no)

pub returns-then-not-names_port-clause-taken : goal.returns-then-not-names_port-clause-taken
returns-then-not-names_port-clause-taken g c = (
  λ e. absurd (let k : false ≡ true = e in cc),
  λ sound. absurd (wrong_unsound g.I.Input.follows g.I.Input.names c.args.ports c.args.inputs.now NoSuchPort (returns-then-not-names_port-clause-fault g c) sound),
)

pub loop-place-preserved : goal.loop-place-preserved
loop-place-preserved g c =
    let input = c.index-inputs-place.result in
    let here : slice_get c.args.inputs.now c.loop-place.place ≡ Some c.index-inputs-place.result =
    slice_get_read c.args.inputs.now _ c.loop-place.place input refl c.loop-place-test.true c.index-inputs-place.is in
    let yes : c.follows_last.result ≡ true = search rules in
    let named : c.names_port.result ≡ true = search rules in (
      holds_more c.args.inputs.now _ c.loop-place.place input here c.loop-place.invariant.0 ((c.follows_last.ensures input here).0 yes, sym c.names_port.ensures.answer ∙ named),
      holds_more c.args.inputs.now _ c.loop-place.place input here c.loop-place.invariant.1 c.names_port.ensures.known,
    )

pub returns-clause-taken : goal.returns-clause-taken
returns-clause-taken g c = (
  λ e place input there.
      let within : place < length c.args.inputs.now = slice_get_within c.args.inputs.now place input there in
      c.loop-place.invariant.0 place input (omega arith) there,
  λ sound. refl,
)

pub returns-clause-known : goal.returns-clause-known
returns-clause-known g c = λ done n input there.
    let within : n < length c.args.inputs.now = slice_get_within c.args.inputs.now n input there in
    c.loop-place.invariant.1 n input (omega arith) there
