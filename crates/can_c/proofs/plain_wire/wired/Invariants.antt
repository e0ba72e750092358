use Rattle.std.proofs.Common.{◌≡◌, drop}
use Rattle.can_frame.specs.Levels.{levels_of_codes}
use Rattle.can_bus.specs.Wired.{wired}
use Rattle.can_c.proofs.plain_wire.wired.Given as goal

abbrev pub invariant-loop-code : goal.invariant-loop-code
invariant-loop-code l = wired (levels_of_codes (drop l.code-index l.drives)) ≡ wired (levels_of_codes l.drives)
