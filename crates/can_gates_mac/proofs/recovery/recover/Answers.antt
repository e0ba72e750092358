use Rattle.std.proofs.Common.{◌≡◌, ◌+◌, ◌*◌, ◌∙◌, arith}
use Rattle.can_gates.specs.Circuit.{value}
use Rattle.can_gates.specs.Words.{number, bit}
use Rattle.can_gates.proofs.Constants.{zero-kept, value-never}
use Rattle.can_gates.proofs.WordNumbers.{number-lt}
use Rattle.can_gates_mac.specs.Nibbles.{nibble}
use Rattle.can_gates_mac.proofs.Recovering.{recovers}
use Rattle.can_gates_mac.proofs.recovery.recover.Goals as goal

pub returns-clause-places : goal.returns-clause-places
returns-clause-places c = c.add-occurrences.ensures.places

pub returns-clause-recovers : goal.returns-clause-recovers
returns-clause-recovers c =
    let word = c.add-occurrences.result in (
      c.add-occurrences.ensures.sum.0 ∙ c.choose-row.ensures.0 ∙ c.and-full.ensures.made.0 ∙ c.and-early.ensures.made.0,
      λ v keeps.
          let sum = c.add-occurrences.ensures.sum.1 v keeps in
          let row = c.choose-row.ensures.1 v sum.0 in
          let full = c.and-full.ensures.made.1 v row.0 in
          let early = c.and-early.ensures.made.1 v full.0 in
          let zero_is = zero-kept v c.args.circuit.now early.0 in (
            early.0,
            λ parts x off low few places seen held.
                let is_early = rw (seen, places.below_10) at early.1 in
                let is_full = rw (seen, c.opposite-late.ensures.value v, places.below_10) at full.1 in
                let is_row = rw (c.of.ensures v zero_is) at row.1 in
                let one : parts.occurrences + (bit (value v c.and-full.result) + 2 * 0) + 0 ≡ parts.occurrences + bit (value v c.and-full.result) = omega arith in
                let is_sum = rw (held, value-never v zero_is) at sum.1 ∙ one in
                let small = rw c.add-occurrences.ensures.places at (number-lt v word) in
                let made = recovers parts x (value v c.and-early.result) (value v c.and-full.result) (value v c.add-occurrences.new.carry) (nibble v c.args.places.now.next) (nibble v c.choose-row.result) (number v word) off few is_early is_full is_row (places.next (omega (arith, low))) is_sum small in
                record { in_row = made.0; occurred = made.1; ended = made.2 },
          ),
    )
