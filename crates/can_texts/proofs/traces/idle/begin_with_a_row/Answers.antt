use Rattle.std.proofs.Common.{◌≡◌, arith, drop, length-drop}
use Rattle.std.proofs.lemmas.Bool.{eqb-true}
use Rattle.std.proofs.lemmas.List.{take_rest}
use Rattle.std.proofs.lemmas.Nat.{le_or_l, le_or_r}
use Rattle.can_texts.proofs.Blocks.{row_longer, row_through}
use Rattle.can_texts.proofs.traces.idle.begin_with_a_row.Goals as goal

pub returns : goal.returns
returns c none =
    let bytes = c.args.bytes.now in
    let first = c.others_in_block in
    let second = c.others_in_block-2 in
    let no_first : first.result ≡ 0 = omega (arith, eqb-true _ 0 none, le_or_l first.result second.result) in
    let no_second : second.result ≡ 0 = omega (arith, eqb-true _ 0 none, le_or_r first.result second.result) in
    row_longer bytes 64 64 (row_through 64 (omega arith) bytes (omega (arith, c.requires)) first.result first.ensures no_first)
    (row_through 64 (omega arith) (drop 64 bytes) (omega (arith, c.requires, length-drop 64 bytes)) second.result (rw (take_rest bytes 64) at second.ensures) no_second)
