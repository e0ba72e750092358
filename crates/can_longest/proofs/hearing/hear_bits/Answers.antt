use Rattle.std.proofs.Common.{◌≡◌, ◌+◌, ◌-◌, ◌++◌, length, sym, ◌∙◌, ap, arith}
use Rattle.can_frame.specs.Levels.{bits_of}
use Rattle.can_wire.specs.Stuffing.{stuffed_from}
use Rattle.can_wire.proofs.LevelLemmas.{bits_of-zero}
use Rattle.can_longest.specs.ToCome.{next_run, wire_levels}
use Rattle.can_longest.proofs.Steps.{stuffed_further}
use Rattle.can_longest.proofs.hearing.hear_bits.Goals as goal

pub loop-left-preserved : goal.loop-left-preserved
loop-left-preserved c =
    let l = c.loop-left in
    let h = l.heard in
    let next = c.hear-heard.result in
    let level = c.from_code-level.result in record {
      within = omega (arith, l.invariant.within);
      some = λ less. c.hear-heard.ensures.some;
      short = c.hear-heard.ensures.short;
      room = omega (arith, l.invariant.room, c.hear-heard.ensures.few, c.loop-left-test.true);
      rest = λ rest.
          let others = bits_of (l.left - 1) c.args.number ++ rest in
          let step : length (stuffed_from h.last h.run (bits_of l.left c.args.number ++ rest)) ≡ wire_levels h.last h.run level + length (stuffed_from next.last next.run others) =
          stuffed_further l.left c.args.number c.loop-left-test.true h.last h.run level c.from_code-level.ensures rest
          ∙ ap (λ y. wire_levels h.last h.run level + length (stuffed_from y (next_run h.last h.run level) others)) (sym c.hear-heard.ensures.last)
          ∙ ap (λ n. wire_levels h.last h.run level + length (stuffed_from next.last n others)) (sym c.hear-heard.ensures.run) in
          omega (arith, l.invariant.rest rest, step, c.hear-heard.ensures.levels);
    }

pub returns-clause-behind : goal.returns-clause-behind
returns-clause-behind c =
    let l = c.loop-left in
    let over : l.left ≡ 0 = omega (arith, c.loop-left-test.false) in
    let none = ap (λ n. bits_of n c.args.number) over ∙ bits_of-zero c.args.number in
    λ rest. l.invariant.rest rest ∙ ap (λ t. l.heard.levels + length (stuffed_from l.heard.last l.heard.run (t ++ rest))) none
