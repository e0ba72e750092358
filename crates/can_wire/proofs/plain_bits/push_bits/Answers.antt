use Rattle.std.proofs.Common.{◌≡◌, ◌++◌, ◌-◌, [], ◌∷◌, ap, sym, ◌∙◌, arith}
use Rattle.std.proofs.lemmas.List.{append-nil}
use Rattle.can_frame.specs.Levels.{bits_of}
use Rattle.can_wire.proofs.LevelLemmas.{bits_of-zero, bits_of-pushed}
use Rattle.can_wire.proofs.plain_bits.push_bits.Goals as goal

pub loop-place-preserved : goal.loop-place-preserved
loop-place-preserved c =
    let items = c.loop-place.levels.items in
    let pushed = c.push.ensures.items ∙ ap (λ t. items ++ t ∷ []) c.bit.ensures in record {
      items = ap (λ t. t ++ bits_of (c.loop-place.place - 1) c.args.value) pushed
          ∙ bits_of-pushed items c.loop-place.place c.args.value (omega arith) ∙ c.loop-place.invariant.items;
      len = omega (arith, c.push.ensures.len, c.loop-place.invariant.len);
    }

pub returns-clause-items : goal.returns-clause-items
returns-clause-items c =
    let items = c.loop-place.levels.items in
    let none : c.loop-place.place ≡ 0 = omega arith in
    sym (append-nil items) ∙ ap (λ t. items ++ t) (sym (bits_of-zero c.args.value))
    ∙ ap (λ k. items ++ bits_of k c.args.value) (sym none) ∙ c.loop-place.invariant.items
