use Rattle.std.proofs.Common.{◌≡◌, ◌∙◌, Some, length, map, arith, ap, refl, subst}
use Rattle.std.specs.Prelude.{option_map, slice_get}
use Rattle.std.proofs.lemmas.Option.{slice_get-map, slice_get_read}
use Rattle.can_bus.specs.Passing.{HasRoom}
use Rattle.can_bus.proofs.NetworkCalls.{valid-ports}
use Rattle.can_bus.proofs.SenderRoom.{place-room, valid-room}
use Rattle.can_bus.proofs.bus.passing.has_room.Goals as goal

pub returns-then-count-eq0 : goal.returns-then-count-eq0
returns-then-count-eq0 g c = λ e.
    let S = g.P.Port.port in
    subst (λ n. HasRoom c.args.place n 0 (map S c.args.ports.now)) (let none : 0 ≡ c.args.count = omega (arith, c.if-count-eq0.true) in none)
    (valid-room c.args.place 0 (map S c.args.ports.now) (valid-ports S (λ x. g.met.P.Port.valid x) c.args.ports.now))

pub returns-in-Some : goal.returns-in-Some
returns-in-Some g c = λ fits.
    let S = g.P.Port.port in
    let xs = c.args.ports.now in
    let x = c.in-Some.port.now in
    let there : slice_get xs c.args.place ≡ Some x = slice_get_read xs (length xs) c.args.place x refl c.in-Some.ensures.lookup.3.0 (c.in-Some.ensures.lookup.4 (omega arith) x) in
    place-room c.args.place c.args.count 0 c.args.place (map S xs) (S x) (omega arith) (slice_get-map S xs c.args.place ∙ ap (option_map S) there) (c.has_room.ensures.yes fits)
