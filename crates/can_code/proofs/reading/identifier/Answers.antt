use Rattle.std.proofs.Common.{sym, ◌∙◌, arith}
use Rattle.std.proofs.lemmas.Bool.{true_from_ne_false}
use Rattle.std.specs.Option.{is_some}
use Rattle.can_code.proofs.ReadingLemmas.{levels_at-lt, identifier_joined, identifier_joined-lt, extended_identifier}
use Rattle.can_code.proofs.reading.identifier.Goals as goal

pub unwrap-requires : goal.unwrap-requires
unwrap-requires g c =
    let u = g.B.FrameBits.levels c.args.bits.now in
    let joined = identifier_joined u c.number_at-base.result c.number_at-extension.result c.number_at-base.ensures c.number_at-extension.ensures in
    true_from_ne_false (is_some c.extended.result) (λ none. omega (arith, c.extended.ensures.none.0 none, joined, identifier_joined-lt u))

pub overflow_cast-extension : goal.overflow_cast-extension
overflow_cast-extension g c = omega (arith, levels_at-lt (g.B.FrameBits.levels c.args.bits.now) 14 18, c.number_at-extension.ensures)

pub overflow_cast-base : goal.overflow_cast-base
overflow_cast-base g c = omega (arith, levels_at-lt (g.B.FrameBits.levels c.args.bits.now) 1 11, c.number_at-base.ensures)

pub overflow_cast-base-else-is_extended : goal.overflow_cast-base-else-is_extended
overflow_cast-base-else-is_extended g c = omega (arith, levels_at-lt (g.B.FrameBits.levels c.args.bits.now) 1 11, c.number_at-base.ensures)

pub unwrap-requires-else-is_extended : goal.unwrap-requires-else-is_extended
unwrap-requires-else-is_extended g c =
    true_from_ne_false (is_some c.standard.result) (λ none. omega (arith, c.standard.ensures.none.0 none, levels_at-lt (g.B.FrameBits.levels c.args.bits.now) 1 11, c.number_at-base.ensures))

pub returns-then-is_extended : goal.returns-then-is_extended
returns-then-is_extended g c =
    let u = g.B.FrameBits.levels c.args.bits.now in
    let joined = identifier_joined u c.number_at-base.result c.number_at-extension.result c.number_at-base.ensures c.number_at-extension.ensures in
    extended_identifier u c.unwrap.result _ joined (sym c.is_extended.ensures ∙ c.if-is_extended.true) (rw c.unwrap.ensures at c.extended.ensures.some)
