use Rattle.can_gates.specs.Circuit.{never}
use Rattle.std.proofs.Common.{◌<◌, ◌+◌, ◌-◌, ◌*◌, ◌/◌, ◌%◌, ◌∙◌, sym, drop, length, get_or, arith}
use Rattle.std.proofs.lemmas.List.{length-set, get_or-drop, ext_get_or}
use Rattle.can_gates_controller.specs.Laying.{turned_bytes}
use Rattle.can_gates_controller.proofs.FrontPlaces.{written_literal}
use Rattle.can_gates_controller.proofs.TurnedLevels.{turned_bytes_at, length-turned_bytes}
use Rattle.can_gates_controller.proofs.turning.turn_bytes.Goals as goal

pub loop-place-preserved : goal.loop-place-preserved
loop-place-preserved c =
    let l = c.loop-place in
    let items = c.args.items.now in
    let first = c.args.first in
    let here : l.place < 8 * 8 = omega (arith, c.loop-place-test.true, l.auto.place-end) in
    let within : l.place < length l.all = omega (arith, here, l.invariant.0) in
    let is = c.literal_at.ensures ∙ sym (turned_bytes_at 8 (drop first items) l.place here ∙ get_or-drop first items (l.place / 8 * 8 + (7 - l.place % 8)) never) in (
      length-set l.all l.place c.literal_at.result ∙ l.invariant.0,
      λ p h. written_literal (λ q. get_or (turned_bytes 8 (drop first items)) q never) l.all c.literal_at.result l.place p within is l.invariant.1 h,
    )

pub returns : goal.returns
returns c =
    let l = c.loop-place in
    let word = turned_bytes 8 (drop c.args.first c.args.items.now) in
    ext_get_or never l.all word (omega (arith, l.invariant.0, length-turned_bytes 8 (drop c.args.first c.args.items.now))) (λ p h. l.invariant.1 p (omega (arith, h, l.invariant.0, c.loop-place-test.false, l.auto.place-end)))
