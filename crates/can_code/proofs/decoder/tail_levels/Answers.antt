use Rattle.std.proofs.Common.{◌≢◌, ◌+◌, not, sym, ◌∙◌, arith}
use Rattle.can_frame.specs.Levels.{is_recessive}
use Rattle.can_code.proofs.UnstuffingLemmas.{HearsTail-level}
use Rattle.can_code.proofs.TailLemmas.{ack_slot_heard, recessive_heard}
use Rattle.can_code.proofs.decoder.tail_levels.Goals as goal
use Rattle.can_code.proofs.decoder.tail_levels.Goals.{then-behind-now-eq-ACK_SLOT, else-behind-now-eq-ACK_SLOT+else-not-is_recessive}

pub loop-now-preserved : goal.loop-now-preserved
loop-now-preserved c =
    let k = c.args.behind in
    let n = c.loop-now.now.taken in
    let before = c.loop-now.now.acked in
    let x = c.in-Some.level in
    let go_on = HearsTail-level k c.args.acked n before c.args.digits.now c.loop-now.invariant.tail c.loop-now-test.true x (sym c.in-Some.ensures) in
    elim c.if-behind-now-eq-ACK_SLOT.branch [
      | then-behind-now-eq-ACK_SLOT w ↦ rw (w.now-is, w.is_recessive.ensures) (
          record {
            within = omega (arith, c.loop-now-test.true);
            few = omega (arith, c.if-behind-now-lt-LAST_LEVEL.true);
            tail = go_on (not (is_recessive x)) (ack_slot_heard (k + n) before x w.if-behind-now-eq-ACK_SLOT.true);
          })
      | else-behind-now-eq-ACK_SLOT+else-not-is_recessive w ↦
          let no_last : k + n ≢ 9 = λ e. omega (arith, c.if-behind-now-lt-LAST_LEVEL.true) in
          let recessive = sym w.is_recessive-else-behind-now-eq-ACK_SLOT.ensures ∙ w.if-not-is_recessive.false in
          rw w.now-is (
          record {
            within = omega (arith, c.loop-now-test.true);
            few = omega (arith, c.if-behind-now-lt-LAST_LEVEL.true);
            tail = go_on before (recessive_heard (k + n) before x (omega (arith, c.if-behind-now-lt-LAST_LEVEL.true)) w.if-behind-now-eq-ACK_SLOT.false no_last recessive);
          })
    ]
