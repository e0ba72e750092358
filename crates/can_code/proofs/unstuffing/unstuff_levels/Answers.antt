use Rattle.std.proofs.Common.{◌≢◌, ◌≤◌, ◌++◌, length, ap, sym, ◌∙◌, arith}
use Rattle.std.proofs.lemmas.Bool.{eqb-false, eqb-true}
use denote.Enum.Bare.{sameb}
use Rattle.can_frame.specs.contracts.level.Level.{the_type}
use Rattle.can_frame.specs.Levels.{bits_of}
use Rattle.can_wire.proofs.LevelLemmas.{length-bits_of}
use Rattle.can_wire.proofs.Runs.{run_after-le, run_after-ge}
use Rattle.can_wire.proofs.PackedLemmas.{bool_small, next-fits, next-small}
use Rattle.can_code.proofs.StepLemmas.{Unstuffs-begin}
use Rattle.can_code.proofs.UnstuffingLemmas.{HearsDigits-number, HearsDigits-stuff_bit, other_level}
use Rattle.can_code.proofs.unstuffing.unstuff_levels.Goals as goal
use Rattle.can_code.proofs.unstuffing.unstuff_levels.Goals.{then-is_longest+else-eq, else-is_longest}

pub loop-now-init : goal.loop-now-init
loop-now-init c = Unstuffs-begin c.args.digits.now c.args.room c.args.before c.begin-now.result c.requires.some c.requires.short c.begin-now.ensures

pub overflow_mul-now : goal.overflow_mul-now
overflow_mul-now c = omega (arith, next-fits c.loop-now.now.len c.loop-now.now.number c.loop-now.invariant.small (omega (arith, c.loop-now-test.true, c.requires.wide)))

pub overflow_add-now : goal.overflow_add-now
overflow_add-now c =
    omega (
      arith,
      c.from.ensures,
      bool_small c.is_recessive.result,
      next-fits c.loop-now.now.len c.loop-now.now.number c.loop-now.invariant.small (omega (arith, c.loop-now-test.true, c.requires.wide)),
    )

pub and-now-requires : goal.and-now-requires
and-now-requires c =
    let not_due : c.loop-now.now.behind.run ≢ 5 = eqb-false c.loop-now.now.behind.run 5 (sym c.is_longest.ensures ∙ c.if-is_longest.false) in
    omega (arith, c.loop-now.invariant.short)

pub loop-now-preserved : goal.loop-now-preserved
loop-now-preserved c =
    let s = c.loop-now.now in
    let inv = c.loop-now.invariant in
    let x = c.in-Some.level in
    let bits = bits_of s.len s.number in
    let few : length bits ≤ c.args.room = omega (arith, inv.few, length-bits_of s.len s.number) in
    elim c.if-is_longest.branch [
      | then-is_longest+else-eq w ↦ rw (w.now-is, w.begin-now-then-is_longest.ensures) (
          record {
            within = omega (arith, c.if-now-digits.true);
            few = inv.few;
            small = inv.small;
            some = omega arith;
            short = omega arith;
            heard = λ u room.
                HearsDigits-stuff_bit (record { unstuffed = u; last = c.args.before.last; run = c.args.before.run }) (u ++ bits) s.behind.last s.behind.run c.args.digits.now s.taken x
                c.if-now-digits.true (sym c.in-Some.ensures) (room bits few) (inv.heard u room) (eqb-true s.behind.run 5 (sym c.is_longest.ensures ∙ w.if-is_longest.true)) (other_level x s.behind.last (ap (λ l. sameb the_type x l) (sym w.level.ensures) ∙ sym w.eq.ensures ∙ w.if-eq.false));
          })
      | else-is_longest w ↦
          let not_due : s.behind.run ≢ 5 = eqb-false s.behind.run 5 (sym c.is_longest.ensures ∙ w.if-is_longest.false) in
          rw (w.now-is, w.from.ensures, w.is_recessive.ensures, w.and-now.ensures) (
          record {
            within = omega (arith, c.if-now-digits.true);
            few = omega (arith, c.loop-now-test.true);
            small = next-small s.len s.number x inv.small;
            some = run_after-ge s.behind.last s.behind.run x;
            short = omega (arith, inv.short, run_after-le s.behind.last s.behind.run x);
            heard = λ u room.
                HearsDigits-number (record { unstuffed = u; last = c.args.before.last; run = c.args.before.run }) u s.len s.number s.behind.last s.behind.run c.args.digits.now s.taken x
                c.if-now-digits.true (sym c.in-Some.ensures) (room bits few) not_due (inv.heard u room);
          })
    ]
