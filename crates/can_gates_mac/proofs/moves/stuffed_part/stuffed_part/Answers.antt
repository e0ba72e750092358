use Rattle.std.specs.Prelude.{None}
use Rattle.std.proofs.Common.{◌∙◌}
use Rattle.can_terms.specs.declared.event.ErrorKind.TheVariants.{Bit, Stuff}
use Rattle.can_gates.proofs.Constants.{value-always}
use Rattle.can_gates_mac.proofs.PartMoves.{stuffed_part_rows}
use Rattle.can_gates_mac.proofs.moves.stuffed_part.stuffed_part.Goals as goal

pub returns : goal.returns
returns c = (
  c.first_row.ensures.0 ∙ c.and-loses.ensures.made.0 ∙ c.and-hidden.ensures.made.0 ∙ c.and-fails.ensures.made.0 ∙ c.xor-differs.ensures.made.0 ∙ c.and-sends.ensures.made.0 ∙ c.and-uncounted.ensures.made.0 ∙ c.and-overridden.ensures.made.0 ∙ c.and-wrong.ensures.made.0,
  λ v keeps.
      let made = c.first_row.ensures.1 v keeps in
      let loses = c.and-loses.ensures.made.1 v made.0 in
      let hidden = c.and-hidden.ensures.made.1 v loses.0 in
      let fails = c.and-fails.ensures.made.1 v hidden.0 in
      let differs = c.xor-differs.ensures.made.1 v fails.0 in
      let sends = c.and-sends.ensures.made.1 v differs.0 in
      let uncounted = c.and-uncounted.ensures.made.1 v sends.0 in
      let overridden = c.and-overridden.ensures.made.1 v uncounted.0 in
      let wrong = c.and-wrong.ensures.made.1 v overridden.0 in (
        wrong.0,
        λ s front waiting x k part.
            let zero = c.of-zero.ensures v k.never in
            let stuff = c.of-stuff.ensures v k.never in
            let bit = c.of-bit.ensures v k.never in
            let none = c.of-none.ensures v k.never in
            made.1 ∙ rw (wrong.1, uncounted.1, overridden.1, loses.1, hidden.1, fails.1, sends.1, c.opposite-plain.ensures.value v, differs.1, value-always v k.never, k.sender, k.dominant, k.recessive) (stuffed_part_rows s.passive s.role s.overloads front x _ _ _ _ _ _ _ _ _ _ _ _ part.due part.repeats part.arbitrates part.sent part.ends
            (c.errs_by-stuff_uncounted.ensures v s _ waiting x k s.role None Stuff k.sender none stuff)
            (c.errs-stuff_counted.ensures v s _ waiting x k Stuff stuff)
            (c.loses-lost_at_end.ensures v s _ waiting x k)
            (c.loses-lost.ensures v s _ waiting x k)
            (c.errs-bit_error.ensures v s _ waiting x k Bit bit)
            (c.goes-ended.ensures v s _ waiting x k _ zero)
            (c.goes-on.ensures v s _ waiting x k _ zero)),
      ),
)
