use Rattle.std.proofs.Common.{sym, ◌∙◌, ap}
use Rattle.std.proofs.lemmas.Nat.{xor_lt}
use Rattle.can_frame.specs.declared.level.Level.TheVariants.{Dominant}
use Rattle.can_frame.specs.Levels.{bits_of}
use Rattle.can_frame.proofs.LevelTests.{level_dominant, level_recessive}
use Rattle.can_wire.specs.Crc.{xor}
use Rattle.can_wire.proofs.LevelLemmas.{bits_of-xor, length-bits_of}
use Rattle.can_longest.specs.ToCome.{most}
use Rattle.can_longest.proofs.Turned.{most-opposite}
use Rattle.can_longest.proofs.rows.Row.place.Goals as goal

pub returns-then-is_recessive-clause-range : goal.returns-then-is_recessive-clause-range
returns-then-is_recessive-clause-range c = xor_lt 15 c.args.check c.args.self.now.turned c.requires.range c.requires.turned

pub returns-then-is_recessive-clause-same : goal.returns-then-is_recessive-clause-same
returns-then-is_recessive-clause-same c = λ k run is.
    let check = bits_of 15 c.args.check in
    let last = level_recessive c.args.last (sym c.is_recessive.ensures ∙ c.if-is_recessive.true) in
    ap (λ y. most k y run check) last ∙ most-opposite k Dominant run check (length-bits_of 15 c.args.check)
    ∙ ap (most k Dominant run) (ap (xor check) (sym is.turned) ∙ sym (bits_of-xor 15 c.args.check c.args.self.now.turned))

pub returns-else-is_recessive-clause-same : goal.returns-else-is_recessive-clause-same
returns-else-is_recessive-clause-same c = λ k run is.
    ap (λ y. most k y run (bits_of 15 c.args.check)) (level_dominant c.args.last (sym c.is_recessive.ensures ∙ c.if-is_recessive.false))
