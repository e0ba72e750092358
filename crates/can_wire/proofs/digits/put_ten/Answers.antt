use Rattle.std.proofs.Common.{◌≡◌, ◌≤◌, ◌+◌, ◌/◌, ◌%◌, ◌++◌, map, take, ap, ◌∙◌, arith, append_assoc, length, length-append, ◌-◌}
use Rattle.std.proofs.lemmas.List.{length-map, length-take, length-take-le}
use Rattle.std.proofs.lemmas.Slice.{take-put_mid}
use borrow.Rule.Slice.PartMut.{put_mid}
use Rattle.can_frame.specs.Levels.{bits_of, digit_of}
use Rattle.can_wire.proofs.LevelLemmas.{length-bits_of}
use Rattle.can_wire.proofs.DrivenDigits.{ten_digits}
use Rattle.can_wire.proofs.digits.put_ten.Goals as goal

pub returns : goal.returns
returns c =
    let number = c.args.number in
    let place = c.args.place in
    let one = c.copy_from_slice.new.self in
    let two = c.copy_from_slice-2.new.self in
    let eight = map digit_of (bits_of 8 (number / 4)) in
    let pair = map digit_of (bits_of 2 (number % 4)) in
    let first : one ≡ eight = c.copy_from_slice.ensures.after ∙ c.octet_digits-first.ensures in
    let second : two ≡ pair = c.copy_from_slice-2.ensures.after ∙ c.pair_digits-second.ensures in
    let one_size : length one ≡ 8 = ap length first ∙ length-map (bits_of 8 (number / 4)) digit_of ∙ length-bits_of 8 (number / 4) in
    let two_size : length two ≡ 2 = ap length second ∙ length-map (bits_of 2 (number % 4)) digit_of ∙ length-bits_of 2 (number % 4) in
    let old = c.args.digits.now in
    let within : place ≤ length old = omega (arith, c.told-digits, c.requires.room) in
    let begun = take-put_mid place (place + 8 - place) old one (place + 8) (omega (arith, one_size)) within in
    let reached : length (take (place + 8) (put_mid place (place + 8 - place) old one)) ≡ place + 8 =
    ap length begun ∙ omega (arith, length-append (take place old) one, length-take-le place old within, one_size) in
    take-put_mid (place + 8) _ _ two (place + 10) (omega (arith, two_size)) (omega (arith, reached, length-take (place + 8) (put_mid place (place + 8 - place) old one)))
    ∙ ap (λ l. l ++ two) begun
    ∙ append_assoc (take place old) one two
    ∙ ap (λ l. take place old ++ (l ++ two)) first
    ∙ ap (λ l. take place old ++ (eight ++ l)) second
    ∙ ap (λ l. take place old ++ l) (ten_digits number)
