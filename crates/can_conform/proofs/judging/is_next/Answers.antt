use Rattle.std.specs.Prelude.{◌==◌}
use Rattle.std.proofs.Common.{◌≡◌, ◌≢◌, true, length, refl, arith}
use Rattle.std.proofs.lemmas.Bool.Decides.{Decides-eqb}
use Rattle.std.proofs.lemmas.Option.{slice_get_read}
use Rattle.can_conform.proofs.TimedLemmas.{reached-later, reached-none}
use Rattle.can_conform.proofs.judging.is_next.Goals as goal

pub returns-in-Some-clause-none : goal.returns-in-Some-clause-none
returns-in-Some-clause-none g c = λ apart.
    let xs = c.args.list.now in
    let place = c.args.place in
    let x = c.in-Some.next.now in
    let t = c.args.time in
    let here = slice_get_read xs (length xs) place x refl c.in-Some.ensures.lookup.3.0 (c.in-Some.ensures.lookup.4 (omega arith) x) in
    let differ : x.time ≢ t = λ same. let is : (x.time == t) ≡ true = (Decides-eqb x.time t).1 same in cc in
    (reached-later xs place t x c.requires.rising here differ c.requires.reached).0

pub returns-in-Some-clause-reached : goal.returns-in-Some-clause-reached
returns-in-Some-clause-reached g c = λ apart.
    let xs = c.args.list.now in
    let place = c.args.place in
    let x = c.in-Some.next.now in
    let t = c.args.time in
    let here = slice_get_read xs (length xs) place x refl c.in-Some.ensures.lookup.3.0 (c.in-Some.ensures.lookup.4 (omega arith) x) in
    let differ : x.time ≢ t = λ same. let is : (x.time == t) ≡ true = (Decides-eqb x.time t).1 same in cc in
    (reached-later xs place t x c.requires.rising here differ c.requires.reached).1

pub returns-in-None-clause-none : goal.returns-in-None-clause-none
returns-in-None-clause-none g c = λ none. (reached-none c.args.list.now c.args.place c.args.time c.in-None.ensures.lookup.3 c.requires.reached).0

pub returns-in-None-clause-reached : goal.returns-in-None-clause-reached
returns-in-None-clause-reached g c = λ none. (reached-none c.args.list.now c.args.place c.args.time c.in-None.ensures.lookup.3 c.requires.reached).1
