use Rattle.std.proofs.Common.{◌∙◌, refl}
use Rattle.can_gates_mac.proofs.NibbleBits.{nibble-bits, some_bits, free_bits}
use Rattle.can_gates_mac.proofs.sensing.asks.Goals as goal

pub returns : goal.returns
returns c = (
  c.and.ensures.made.0 ∙ c.or-some.ensures.made.0,
  λ v keeps.
      let made = c.and.ensures.made.1 v keeps in
      let some = c.or-some.ensures.made.1 v made.0 in
      (some.0, λ few few_used. made.1 ∙ rw (some.1, c.opposite.ensures.value v, some_bits _ _ _ _ _ (nibble-bits v c.args.pending) few, free_bits _ _ _ _ _ (nibble-bits v c.args.used) few_used) refl),
)
