use Rattle.std.proofs.Common.{length, refl, sym, arith}
use Rattle.std.proofs.lemmas.Option.{slice_get_read}
use Rattle.can_conform.proofs.TimedLemmas.{reached-here, reached-later, reached-none}
use Rattle.can_conform.proofs.judging.next_at.Goals as goal
use Rattle.can_conform.proofs.judging.next_at.Goals.{in_default-via-in-Some+else-next-time, in_default-via-in_default}

pub returns-in-Some-clause-told : goal.returns-in-Some-clause-told
returns-in-Some-clause-told g c =
    let xs = c.args.list.now in
    let place = c.args.place.now in
    let x = c.in-Some.next.now in
    let here = slice_get_read xs (length xs) place x refl c.in-Some.ensures.lookup.3.0 (c.in-Some.ensures.lookup.4 (omega arith) x) in
    sym (reached-here xs place c.args.time x c.requires.rising here c.if-next-time.true c.requires.reached).0

pub returns-in-Some-clause-reached : goal.returns-in-Some-clause-reached
returns-in-Some-clause-reached g c =
    let xs = c.args.list.now in
    let place = c.args.place.now in
    let x = c.in-Some.next.now in
    let here = slice_get_read xs (length xs) place x refl c.in-Some.ensures.lookup.3.0 (c.in-Some.ensures.lookup.4 (omega arith) x) in
    (reached-here xs place c.args.time x c.requires.rising here c.if-next-time.true c.requires.reached).1

pub returns-in_default-clause-told : goal.returns-in_default-clause-told
returns-in_default-clause-told g c =
    let xs = c.args.list.now in
    let place = c.args.place.now in
    elim c.in_default.branch [
      | in_default-via-in-Some+else-next-time w ↦
          let x = w.in-Some.next.now in
          let here = slice_get_read xs (length xs) place x refl w.in-Some.ensures.lookup.3.0 (w.in-Some.ensures.lookup.4 (omega arith) x) in
          sym (reached-later xs place c.args.time x c.requires.rising here w.if-next-time.false c.requires.reached).0
      | in_default-via-in_default w ↦ sym (reached-none xs place c.args.time w.in_default.ensures.lookup.3 c.requires.reached).0
    ]

pub returns-in_default-clause-reached : goal.returns-in_default-clause-reached
returns-in_default-clause-reached g c =
    let xs = c.args.list.now in
    let place = c.args.place.now in
    elim c.in_default.branch [
      | in_default-via-in-Some+else-next-time w ↦
          let x = w.in-Some.next.now in
          let here = slice_get_read xs (length xs) place x refl w.in-Some.ensures.lookup.3.0 (w.in-Some.ensures.lookup.4 (omega arith) x) in
          (reached-later xs place c.args.time x c.requires.rising here w.if-next-time.false c.requires.reached).1
      | in_default-via-in_default w ↦ (reached-none xs place c.args.time w.in_default.ensures.lookup.3 c.requires.reached).1
    ]
