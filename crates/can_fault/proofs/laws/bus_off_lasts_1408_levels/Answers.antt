use Rattle.std.proofs.Common.{◌≡◌, ◌++◌, replicate, ap, arith}
use Rattle.can_frame.specs.declared.level.Level.TheVariants.{Recessive}
use Rattle.can_fault.specs.Recovery.{occurrences_in, since_last}
use Rattle.can_fault.proofs.RunLemmas.{occurrences_in-le, occurrences_in-replicate}
use Rattle.can_fault.proofs.laws.bus_off_lasts_1408_levels.Goals as goal

pub returns-clause-least : goal.returns-clause-least
returns-clause-least c =
    λ n l none empty ends.
    let begun : since_last n l ≡ l = ap (λ r. replicate r Recessive ++ l) empty in
    omega (arith, ap occurrences_in begun, occurrences_in-le l, ends, none)

pub returns-clause-recessive : goal.returns-clause-recessive
returns-clause-recessive c =
    λ n none empty.
    let l = replicate 1408 Recessive in
    let begun : since_last n l ≡ l = ap (λ r. replicate r Recessive ++ l) empty in
    omega (arith, ap occurrences_in begun, occurrences_in-replicate 1408, none)
