use Rattle.std.proofs.Common.{false, ◌-◌, ◌*◌, ◌%◌, ◌^◌, ◌≤◌, ◌∙◌, ap, arith, drop, length, min, take}
use Rattle.std.specs.Int.{to_be_bytes, w64}
use Rattle.can_frame.proofs.DataNumber.{moved, stored_front, stored_rest}
use Rattle.can_frame.proofs.frame.Frame.data_of_number.Goals as goal

pub invariant_of-result : goal.invariant_of-result
invariant_of-result c =
    let count = min c.args.dlc 8 in
    let few : count ≤ 8 = omega arith in
    let store = c.to_be_bytes.ensures ∙ ap (λ n. to_be_bytes w64 ((c.args.number * 2 ^ (4 * (8 - n)) % 2 ^ 64) * 2 ^ (4 * (8 - n)) % 2 ^ 64)) c.min.ensures ∙ ap (to_be_bytes w64) (moved count c.args.number few c.requires.small) in
    (c.requires.range, ap length c.to_be_bytes.ensures, ap (drop count) store ∙ stored_rest count c.args.number few)

pub returns : goal.returns
returns c =
    let count = min c.args.dlc 8 in
    let few : count ≤ 8 = omega arith in
    let store = c.to_be_bytes.ensures ∙ ap (λ n. to_be_bytes w64 ((c.args.number * 2 ^ (4 * (8 - n)) % 2 ^ 64) * 2 ^ (4 * (8 - n)) % 2 ^ 64)) c.min.ensures ∙ ap (to_be_bytes w64) (moved count c.args.number few c.requires.small) in
    ap (λ bytes. record { id = c.args.id; remote = false; dlc = c.args.dlc; bytes = bytes })
    (ap (take count) store ∙ stored_front count c.args.number few)
