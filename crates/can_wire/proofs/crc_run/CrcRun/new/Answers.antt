use Rattle.std.proofs.Common.{[], subst, sym, ◌∙◌}
use Rattle.can_wire.specs.Crc.{IsCrc}
use Rattle.can_wire.proofs.DivisionLemmas.{IsCrc-crc_of}
use Rattle.can_wire.proofs.LevelLemmas.{bits_of-none}
use Rattle.can_wire.proofs.Register.{register-crc_of}
use Rattle.can_wire.proofs.crc_run.CrcRun.new.Goals as goal

pub returns-clause-check : goal.returns-clause-check
returns-clause-check c = subst (IsCrc []) (sym (bits_of-none 15 ∙ register-crc_of [])) (IsCrc-crc_of [])
