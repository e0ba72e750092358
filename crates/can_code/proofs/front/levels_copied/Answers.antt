use Rattle.std.proofs.Common.{◌≡◌, ◌+◌, ◌-◌, ◌++◌, ◌∷◌, [], length, arith, ap, ◌∙◌}
use Rattle.can_frame.specs.declared.level.Level.TheVariants.{Dominant}
use Rattle.can_frame.specs.Levels.{bits_of}
use Rattle.can_frame.proofs.LevelLemmas.{length-bits_of}
use Rattle.can_wire.specs.Layout.{levels_at}
use Rattle.can_code.proofs.CopiedLevels.{in-parts, some-start, part-back}
use Rattle.can_code.proofs.ReadingLemmas.{levels_at-lt}
use Rattle.can_code.proofs.front.levels_copied.Goals as goal

pub append-requires-clause-small : goal.append-requires-clause-small
append-requires-clause-small g c = search (levels_at-lt, c.number_at.ensures)

pub append-requires-2-clause-small : goal.append-requires-2-clause-small
append-requires-2-clause-small g c = search (levels_at-lt, c.number_at-2.ensures)

pub append-requires-2-clause-room : goal.append-requires-2-clause-room
append-requires-2-clause-room g c =
    let first = c.min-first.result in
    let bits = length-bits_of first c.number_at.result in
    let size : length (g.B.FrameBits.levels c.append.new.self) ≡ length (Dominant ∷ [] ++ bits_of c.min-first.result c.number_at.result) =
    ap length (c.append.ensures ∙ ap (λ l. l ++ bits_of first c.number_at.result) c.start-copy.ensures) in
    let some = some-start (g.B.FrameBits.levels c.args.bits.now) c.requires.start in
    omega (arith, size, bits, some, c.requires.longest, c.len.ensures, c.saturating_sub-behind.ensures, c.min-first.ensures)

pub returns : goal.returns
returns g c =
    let u = g.B.FrameBits.levels c.args.bits.now in
    let first = c.min-first.result in
    let rest = c.saturating_sub-behind.result - c.min-first.result in
    let some = some-start (g.B.FrameBits.levels c.args.bits.now) c.requires.start in
    c.append-2.ensures
    ∙ ap (λ l. l ++ bits_of rest c.number_at-2.result) (c.append.ensures ∙ ap (λ l. l ++ bits_of first c.number_at.result) c.start-copy.ensures)
    ∙ ap (λ n. (Dominant ∷ [] ++ bits_of first n) ++ bits_of rest c.number_at-2.result) c.number_at.ensures
    ∙ ap (λ l. (Dominant ∷ [] ++ l) ++ bits_of rest c.number_at-2.result) (part-back u 1 first)
    ∙ ap (λ n. (Dominant ∷ [] ++ levels_at u 1 first) ++ bits_of rest n) c.number_at-2.ensures
    ∙ ap (λ l. (Dominant ∷ [] ++ levels_at u 1 first) ++ l) (part-back u (1 + first) rest)
    ∙ in-parts u first rest (omega (arith, some, c.len.ensures, c.saturating_sub-behind.ensures, c.min-first.ensures)) c.requires.start
