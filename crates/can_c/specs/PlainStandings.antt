-- The protocol state of a port for C: its phase, its role, and the rule of docs/ACCESS.md that decides in the phase, by
-- the numbers of bindings/riddlesage.h. (Bosch CAN 2.0 part B, sections 3.2 and 7)
use Rattle.std.specs.Int.{from_bool}
use Rattle.can_terms.specs.Codes.{phase_code}
use Rattle.can_mac.specs.State.{MacState, is_sender, kind_of, place_of}
use Rattle.can_conform.specs.Standings.{phase_rule, rule_code}
use Rattle.can_c.specs.declared.standing.PlainStanding.{PlainStanding}

-- the plain fields of a controller's protocol state
abbrev pub plain_standing : MacState → PlainStanding
plain_standing m = record {
  phase = phase_code (kind_of m);
  place = place_of m;
  sender = from_bool (is_sender m.role);
  rule = rule_code (phase_rule m.phase m.role);
}
