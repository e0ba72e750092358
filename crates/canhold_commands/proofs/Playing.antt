-- Bit times that are played one after another.
use Rattle.std.proofs.Common.{◌≡◌, ℕ, List, ◌++◌, length, drop, map}
use Rattle.can_node.specs.Ports.{PortState}
use Rattle.can_frame.specs.Levels.{digit_of}
use Rattle.canhold_commands.specs.Adapters.{drove_in, event_lines, behind_levels}
use Rattle.canhold_commands.specs.Commands.{tester_of}

-- This number of bit times was played. With the remaining bit times, port, reported events and driven levels are those
-- of all.
pub record IsPlaying (digits : List ℕ) (first : PortState) (told : List ℕ) (place : ℕ) (port : PortState) (now drove : List ℕ) : Type 0 where
  pub ahead : behind_levels (map tester_of (drop place digits)) port ≡ behind_levels (map tester_of digits) first
  pub events : now ++ event_lines place (map tester_of (drop place digits)) port ≡ told ++ event_lines 0 (map tester_of digits) first
  pub levels : drove ++ map digit_of (drove_in (map tester_of (drop place digits)) port) ≡ map digit_of (drove_in (map tester_of digits) first)
  pub count : length drove ≡ place
