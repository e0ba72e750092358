use Rattle.std.proofs.Common.{◌≡◌, ◌∙◌, sym, subst, suc, ◌^◌, ◌<◌, ap, arith, length, length-append, slice_get}
use Rattle.std.specs.Prelude.{bit_xor}
use Rattle.std.proofs.lemmas.Nat.{xor_lt}
use Rattle.can_frame.specs.declared.level.Level.TheVariants.{Dominant}
use Rattle.can_frame.specs.Levels.{bits_of}
use Rattle.can_frame.proofs.LevelLemmas.{length-bits_of}
use Rattle.can_wire.specs.Crc.{xor}
use Rattle.can_wire.proofs.XorLemmas.{length-xor}
use Rattle.can_longest.specs.ToCome.{IsAhead, most}
use Rattle.can_longest.proofs.Places.{entry_at, entry_of_sum, IsAhead-few, IsAhead-suc, pushed, turned_added}
use Rattle.can_longest.proofs.rows.row_before.Goals as goal

pub index-requires : goal.index-requires
index-requires c =
    omega (arith, c.from-in-loop-check-2.ensures, xor_lt 15 c.loop-check.check c.args.later.now.turned (omega (arith, c.loop-check-test.true)) c.requires.row.range, c.requires.row.full)

pub index-requires-in-loop-check : goal.index-requires-in-loop-check
index-requires-in-loop-check c =
    let turned_small = xor_lt 15 c.args.later.now.turned c.added.result c.requires.row.range c.added.ensures.range in
    omega (arith, c.from-in-loop-check-3.ensures, xor_lt 15 c.loop-check.check _ (omega (arith, c.loop-check-test.true)) turned_small, c.requires.row.full)

pub with_level-requires-clause-two : goal.with_level-requires-clause-two
with_level-requires-clause-two c =
    let is = entry_at c.args.bits c.args.later.now c.requires.row c.from-in-loop-check.result c.loop-check.check c.from-in-loop-check.ensures (omega (arith, c.loop-check-test.true)) c.index-dominant.result.now c.index-dominant.ensures in
    let few = IsAhead-few c.args.bits (bits_of 15 c.loop-check.check) c.index-dominant.result.now (length-bits_of 15 c.loop-check.check) is c.requires.few in
    few.two

pub with_level-requires-clause-three : goal.with_level-requires-clause-three
with_level-requires-clause-three c =
    let is = entry_at c.args.bits c.args.later.now c.requires.row c.from-in-loop-check.result c.loop-check.check c.from-in-loop-check.ensures (omega (arith, c.loop-check-test.true)) c.index-dominant.result.now c.index-dominant.ensures in
    let few = IsAhead-few c.args.bits (bits_of 15 c.loop-check.check) c.index-dominant.result.now (length-bits_of 15 c.loop-check.check) is c.requires.few in
    few.three

pub with_level-requires-clause-four : goal.with_level-requires-clause-four
with_level-requires-clause-four c =
    let is = entry_at c.args.bits c.args.later.now c.requires.row c.from-in-loop-check.result c.loop-check.check c.from-in-loop-check.ensures (omega (arith, c.loop-check-test.true)) c.index-dominant.result.now c.index-dominant.ensures in
    let few = IsAhead-few c.args.bits (bits_of 15 c.loop-check.check) c.index-dominant.result.now (length-bits_of 15 c.loop-check.check) is c.requires.few in
    few.four

pub with_level-requires-clause-fifth : goal.with_level-requires-clause-fifth
with_level-requires-clause-fifth c =
    let l = c.args.later.now in
    let check = bits_of 15 c.loop-check.check in
    let is = entry_of_sum c.args.bits l c.requires.row c.from-in-loop-check-2.result c.loop-check.check l.turned c.from-in-loop-check-2.ensures (omega (arith, c.loop-check-test.true)) c.requires.row.range c.index.result.now c.index.ensures in
    let sum = xor check (bits_of 15 l.turned) in
    let size = length-xor check (bits_of 15 l.turned) (omega (arith, length-bits_of 15 c.loop-check.check, length-bits_of 15 l.turned)) ∙ length-bits_of 15 c.loop-check.check in
    let few = IsAhead-few c.args.bits sum c.index.result.now size is c.requires.few in
    few.one

pub with_level-requires-clause-recessive : goal.with_level-requires-clause-recessive
with_level-requires-clause-recessive c =
    let l = c.args.later.now in
    let t = bit_xor l.turned c.added.result in
    let check = bits_of 15 c.loop-check.check in
    let is = entry_of_sum c.args.bits l c.requires.row c.from-in-loop-check-3.result c.loop-check.check t c.from-in-loop-check-3.ensures (omega (arith, c.loop-check-test.true))
    (xor_lt 15 l.turned c.added.result c.requires.row.range c.added.ensures.range) c.index-in-loop-check.result.now c.index-in-loop-check.ensures in
    let size = length-xor check (bits_of 15 t) (omega (arith, length-bits_of 15 c.loop-check.check, length-bits_of 15 t)) ∙ length-bits_of 15 c.loop-check.check in
    let few = IsAhead-few c.args.bits (xor check (bits_of 15 t)) c.index-in-loop-check.result.now size is c.requires.few in
    few.one

pub loop-check-preserved : goal.loop-check-preserved
loop-check-preserved c =
    let k = c.args.bits in
    let loop = c.loop-check in
    let l = c.args.later.now in
    let small : loop.check < 2 ^ 15 = omega (arith, c.loop-check-test.true) in
    let t = bit_xor l.turned c.added.result in
    let t_small = xor_lt 15 l.turned c.added.result c.requires.row.range c.added.ensures.range in
    let check = bits_of 15 loop.check in
    let dominant = entry_at k l c.requires.row c.from-in-loop-check.result loop.check c.from-in-loop-check.ensures small c.index-dominant.result.now c.index-dominant.ensures in
    let fifth = entry_of_sum k l c.requires.row c.from-in-loop-check-2.result loop.check l.turned c.from-in-loop-check-2.ensures small c.requires.row.range c.index.result.now c.index.ensures in
    let recessive = entry_of_sum k l c.requires.row c.from-in-loop-check-3.result loop.check t c.from-in-loop-check-3.ensures small t_small c.index-in-loop-check.result.now c.index-in-loop-check.ensures in
    let fifth_is = fifth.one ∙ ap (λ u. most k Dominant 1 (xor check u)) c.requires.row.turned in
    let recessive_is = recessive.one ∙ ap (λ u. most k Dominant 1 (xor check u)) (turned_added k l.turned c.added.result c.requires.row.turned c.added.ensures.sum) in
    let e = c.with_level.ensures in
    let a = c.with_level.result in
    let here = IsAhead-suc k check (length-bits_of 15 loop.check) c.index-dominant.result.now dominant c.index.result.now.one c.index-in-loop-check.result.now.one fifth_is recessive_is a e.one e.two e.three e.four in record {
      full = omega (arith, ap length c.in_ok-push.ensures.items, length-append loop.ahead.items, loop.invariant.full);
      each = λ p b at. pushed (λ n x. IsAhead (suc k) (bits_of 15 n) x) loop.ahead.items a loop.invariant.each (subst (λ n. IsAhead (suc k) (bits_of 15 n) a) (sym loop.invariant.full) here) p b (sym (ap (λ t. slice_get t p) c.in_ok-push.ensures.items) ∙ at);
    }

pub returns : goal.returns
returns c =
    let all : c.loop-check.check ≡ 32768 = omega (arith, c.loop-check.auto.check-end, c.loop-check-test.false) in
    record {
      turned = turned_added c.args.bits c.args.later.now.turned c.added.result c.requires.row.turned c.added.ensures.sum;
      range = xor_lt 15 c.args.later.now.turned c.added.result c.requires.row.range c.added.ensures.range;
      full = c.loop-check.invariant.full ∙ all;
      each = c.loop-check.invariant.each;
    }
