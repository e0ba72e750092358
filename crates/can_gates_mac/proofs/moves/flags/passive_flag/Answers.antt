use Rattle.std.proofs.Common.{◌∙◌}
use Rattle.std.specs.Prelude.{false}
use Rattle.can_gates.proofs.Constants.{value-never, value-always}
use Rattle.can_gates_mac.proofs.PhaseMoves.{passive_flag_rows}
use Rattle.can_gates_mac.proofs.moves.flags.passive_flag.Goals as goal

pub returns : goal.returns
returns c = (
  c.first_row.ensures.0,
  λ v keeps.
      let made = c.first_row.ensures.1 v keeps in (
        made.0,
        λ last n u s waiting x k.
            made.1 ∙ rw (value-always v k.never, k.counts, k.run_below_6) (passive_flag_rows s last n u x _ _ _ _ (c.stays_in_passive_flag-counted.ensures v s _ waiting x k false (value-never v k.never)) (c.stays_in_passive_flag-on.ensures v s _ waiting x k _ k.still) (c.ends_error_flag-counted_last.ensures v s _ waiting x k) (c.ends_error_flag-ended.ensures v s _ waiting x k)),
      ),
)
