use Rattle.std.proofs.Common.{◌+◌, ◌*◌, ◌/◌, ◌^◌, ◌++◌, length, take, ap, ◌∙◌}
use Rattle.can_frame.specs.Text.{hex_digits}
use Rattle.can_frame.proofs.Written.{data_written}
use Rattle.can_frame.proofs.text.write.data.Goals as goal

pub returns-clause-written : goal.returns-clause-written
returns-clause-written g c =
    let old = c.args.text.now.items in
    let written = c.append-2.ensures ∙ ap (λ t. t ++ c.digits-2.result) (c.append.ensures ∙ ap (λ t. old ++ t) c.digits.ensures) ∙ ap (λ t. (old ++ hex_digits 8 (c.from_be_bytes-number.result / 2 ^ 32)) ++ t) c.digits-2.ensures in
    let end = ap (λ n. n + 2 * length c.bytes.result.now) c.len.ensures.value ∙ ap (λ t. length old + 2 * length t) c.bytes.ensures.value in
    c.truncate.ensures.items ∙ ap (take _) written
    ∙ data_written c.args.frame.now c.bytes.ensures.whole old c.octets.result c.from_be_bytes-number.result _ c.octets.ensures c.from_be_bytes-number.ensures end
