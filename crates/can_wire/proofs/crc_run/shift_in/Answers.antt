use Rattle.std.proofs.Common.{arith, ◌*◌, ◌%◌, ◌^◌}
use Rattle.std.specs.Int.Bits.{mask_lt}
use Rattle.std.proofs.lemmas.Nat.{xor_lt}
use Rattle.can_wire.proofs.RegisterWord.{register-fed}
use Rattle.can_wire.proofs.crc_run.shift_in.Goals as goal

pub returns-clause-range : goal.returns-clause-range
returns-clause-range c = xor_lt 15 _ _ (mask_lt (c.args.register * 2 ^ 1 % 2 ^ 16) 15) (omega arith)

pub returns-clause-step : goal.returns-clause-step
returns-clause-step c = register-fed c.args.register c.feedback-fed.result c.args.level c.feedback-fed.ensures.bit c.feedback-fed.ensures.sum
