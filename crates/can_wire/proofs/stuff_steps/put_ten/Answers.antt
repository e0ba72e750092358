use Rattle.std.proofs.Common.{◌≡◌, ◌≤◌, ◌+◌, ◌/◌, ◌%◌, ◌++◌, take, ap, ◌∙◌, arith, append_assoc, length, length-append, ◌-◌}
use Rattle.std.proofs.lemmas.List.{length-take, length-take-le}
use Rattle.std.proofs.lemmas.Slice.{take-put_mid}
use borrow.Rule.Slice.PartMut.{put_mid}
use Rattle.can_frame.specs.Levels.{bits_of}
use Rattle.can_wire.proofs.LevelLemmas.{length-bits_of}
use Rattle.can_wire.proofs.StuffSteps.{bits_of-ten}
use Rattle.can_wire.proofs.stuff_steps.put_ten.Goals as goal

pub returns : goal.returns
returns c =
    let number = c.args.number in
    let place = c.args.place in
    let one = c.copy_from_slice.new.self in
    let two = c.copy_from_slice-2.new.self in
    let first : one ≡ bits_of 5 (number / 32) =
    c.copy_from_slice.ensures.after ∙ c.five_levels-first.ensures in
    let second : two ≡ bits_of 5 (number % 32) =
    c.copy_from_slice-2.ensures.after ∙ c.five_levels-second.ensures in
    let one_size : length one ≡ 5 = ap length first ∙ length-bits_of 5 (number / 32) in
    let two_size : length two ≡ 5 = ap length second ∙ length-bits_of 5 (number % 32) in
    let old = c.args.levels.now in
    let within : place ≤ length old = omega (arith, c.told-levels, c.requires.room) in
    let begun = take-put_mid place (place + 5 - place) old one (place + 5) (omega (arith, one_size)) within in
    let reached : length (take (place + 5) (put_mid place (place + 5 - place) old one)) ≡ place + 5 =
    ap length begun ∙ omega (arith, length-append (take place old) one, length-take-le place old within, one_size) in
    take-put_mid (place + 5) _ _ two (place + 10) (omega (arith, two_size)) (omega (arith, reached, length-take (place + 5) (put_mid place (place + 5 - place) old one)))
    ∙ ap (λ l. l ++ two) begun
    ∙ append_assoc (take place c.args.levels.now) one two
    ∙ ap (λ l. take place old ++ (l ++ two)) first
    ∙ ap (λ l. take place old ++ (bits_of 5 (number / 32) ++ l)) second
    ∙ ap (λ l. take place old ++ l) (bits_of-ten number)
