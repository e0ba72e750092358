use Rattle.std.proofs.Common.{◌≢◌, ◌<◌, ◌≤◌, ◌++◌, length, sym, subst, arith, length-append}
use Rattle.can_frame.specs.Levels.{bits_of}
use Rattle.can_wire.specs.Layout.{frame_len}
use Rattle.can_code.specs.Front.{FrontParts}
use Rattle.can_code.specs.Unstuffing.{IsOpenFor}
use Rattle.can_wire.proofs.LayoutLengths.{frame_len_le}
use Rattle.can_wire.proofs.LevelLemmas.{length-bits_of}
use Rattle.can_code.proofs.UnstuffingLemmas.{IsFront-run, TellsLength-more, next_place-room}
use Rattle.can_code.proofs.front.Front.hear_part.Goals as goal

pub append-requires-clause-room : goal.append-requires-clause-room
append-requires-clause-room g c =
    let u = g.B.FrameBits.levels c.self.inside.bits in
    let heard = c.unstuff-heard.result in
    let v = bits_of heard.len heard.number in
    let some : c.room_behind-room.result ≢ 0 = c.if-room-eq0.false in
    let has : IsOpenFor u c.room_behind-room.result = c.room_behind-room.ensures.room u c.len.ensures c.self.invariant.1 (omega arith) in
    let few : length v ≤ c.room_behind-room.result = omega (arith, c.unstuff-heard.ensures.few, length-bits_of heard.len heard.number) in
    omega (arith, has v few, frame_len_le (u ++ v), length-append u v, length-bits_of heard.len heard.number)

pub invariant_of-self : goal.invariant_of-self
invariant_of-self g c =
    let u = g.B.FrameBits.levels c.self.inside.bits in
    let front : FrontParts = record { unstuffed = u; last = c.self.inside.run.last; run = c.self.inside.run.run } in
    let heard = c.unstuff-heard.result in
    let v = bits_of heard.len heard.number in
    let r = c.room_behind-room.result in
    let some : r ≢ 0 = c.if-room-eq0.false in
    let has : IsOpenFor u r = c.room_behind-room.ensures.room u c.len.ensures c.self.invariant.1 (omega arith) in
    let few : length v ≤ r = omega (arith, c.unstuff-heard.ensures.few, length-bits_of heard.len heard.number) in (
      rw c.append.ensures (IsFront-run front v heard.behind.last heard.behind.run r c.self.invariant.0 has few c.unstuff-heard.ensures.some c.unstuff-heard.ensures.short),
      c.frame_len-self-inside.ensures,
    )

pub invariant_of-self-else-is_none-2 : goal.invariant_of-self-else-is_none-2
invariant_of-self-else-is_none-2 g c =
    let u = g.B.FrameBits.levels c.self.inside.bits in
    let front : FrontParts = record { unstuffed = u; last = c.self.inside.run.last; run = c.self.inside.run.run } in
    let heard = c.unstuff-heard.result in
    let v = bits_of heard.len heard.number in
    let r = c.room_behind-room.result in
    let some : r ≢ 0 = c.if-room-eq0.false in
    let has : IsOpenFor u r = c.room_behind-room.ensures.room u c.len.ensures c.self.invariant.1 (omega arith) in
    let few : length v ≤ r = omega (arith, c.unstuff-heard.ensures.few, length-bits_of heard.len heard.number) in (
      rw c.append.ensures (IsFront-run front v heard.behind.last heard.behind.run r c.self.invariant.0 has few c.unstuff-heard.ensures.some c.unstuff-heard.ensures.short),
      rw c.append.ensures (TellsLength-more u v c.self.inside.length c.if-is_none-2.ensures c.self.invariant.1),
    )

pub returns-then-is_none-2-clause-going : goal.returns-then-is_none-2-clause-going
returns-then-is_none-2-clause-going g c =
    let u = g.B.FrameBits.levels c.self.inside.bits in
    let heard = c.unstuff-heard.result in
    let v = bits_of heard.len heard.number in
    let r = c.room_behind-room.result in
    let some : r ≢ 0 = c.if-room-eq0.false in
    let has : IsOpenFor u r = c.room_behind-room.ensures.room u c.len.ensures c.self.invariant.1 (omega arith) in
    let few : length v ≤ r = omega (arith, c.unstuff-heard.ensures.few, length-bits_of heard.len heard.number) in
    next_place-room (record { unstuffed = g.B.FrameBits.levels c.append.new.self; last = heard.behind.last; run = heard.behind.run })
    (subst (λ t. length t < frame_len t) (sym c.append.ensures) (has v few))

pub returns-else-is_none-2-clause-going : goal.returns-else-is_none-2-clause-going
returns-else-is_none-2-clause-going g c =
    let u = g.B.FrameBits.levels c.self.inside.bits in
    let heard = c.unstuff-heard.result in
    let v = bits_of heard.len heard.number in
    let r = c.room_behind-room.result in
    let some : r ≢ 0 = c.if-room-eq0.false in
    let has : IsOpenFor u r = c.room_behind-room.ensures.room u c.len.ensures c.self.invariant.1 (omega arith) in
    let few : length v ≤ r = omega (arith, c.unstuff-heard.ensures.few, length-bits_of heard.len heard.number) in
    next_place-room (record { unstuffed = g.B.FrameBits.levels c.append.new.self; last = heard.behind.last; run = heard.behind.run })
    (subst (λ t. length t < frame_len t) (sym c.append.ensures) (has v few))
