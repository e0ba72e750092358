use Rattle.std.proofs.Common.{◌≡◌, ◌++◌, ◌∷◌, length, replicate, ◌∙◌, ap, arith, length-append}
use Rattle.can_frame.specs.declared.level.Level.TheVariants.{Dominant}
use Rattle.can_frame.specs.Levels.{bits_of}
use Rattle.can_wire.specs.Crc.{crc_of}
use Rattle.can_wire.proofs.LevelLemmas.{bits_of-none, length-bits_of}
use Rattle.can_wire.proofs.Register.{crc_of-behind_none}
use Rattle.can_longest.proofs.sums.added.Goals as goal

pub append-requires-2-clause-room : goal.append-requires-2-clause-room
append-requires-2-clause-room c =
    omega (
      arith,
      ap length c.start-levels.ensures,
      ap length c.append.ensures,
      length-append c.start-levels.result (bits_of c.args.count c.args.number),
      length-bits_of c.args.count c.args.number,
      c.requires.few,
      c.requires.within,
    )

pub returns-clause-sum : goal.returns-clause-sum
returns-clause-sum c =
    let sent = bits_of c.args.count c.args.number in
    let levels : c.append-2.new.self ≡ Dominant ∷ (sent ++ replicate c.args.behind Dominant) =
    c.append-2.ensures ∙ ap (λ t. c.append.new.self ++ t) (bits_of-none c.args.behind)
    ∙ ap (λ t. t ++ replicate c.args.behind Dominant) (c.append.ensures ∙ ap (λ t. t ++ sent) c.start-levels.ensures) in
    c.check.ensures.computed ∙ ap crc_of levels ∙ crc_of-behind_none 1 (sent ++ replicate c.args.behind Dominant)
