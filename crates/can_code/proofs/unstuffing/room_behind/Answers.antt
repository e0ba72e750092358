use Rattle.std.proofs.Common.{subst, arith}
use Rattle.can_code.specs.Reading.{TellsLength}
use Rattle.can_code.proofs.UnstuffingLemmas.{IsOpenFor-told, IsOpenFor-standard, IsOpenFor-extended}
use Rattle.can_code.proofs.unstuffing.room_behind.Goals as goal
use Rattle.can_code.proofs.unstuffing.room_behind.Goals.{in-Some, in-None, in-None-2}

pub returns-clause-room : goal.returns-clause-room
returns-clause-room c =
    λ u len_is told some v short. elim c.match-told.branch [
      | in-Some w ↦
          IsOpenFor-told u w.in-Some.length c.min.result (subst (TellsLength u) w.in-Some.is told) some
          (omega (arith, c.min.ensures, c.saturating_sub.ensures, w.end-is, w.saturating_sub-end.ensures, len_is)) v short
      | in-None w ↦
          IsOpenFor-standard u c.min.result some (omega (arith, c.min.ensures, c.saturating_sub.ensures, w.end-is, len_is)) v short
      | in-None-2 w ↦
          IsOpenFor-extended u c.min.result some (omega (arith, len_is, w.if-len-lt-STANDARD_HEADER.false)) (subst (TellsLength u) w.in-None.is told)
          (omega (arith, c.min.ensures, c.saturating_sub.ensures, w.end-is, len_is)) v short
    ]
