use Rattle.std.proofs.Common.{ℕ, ◌≡◌, ◌-◌, ◌∙◌, refl, sym, ap, arith, drop, min, replicate, false}
use Rattle.std.proofs.lemmas.List.{drop-replicate}
use Rattle.std.specs.Int.{to_be_bytes, w64}
use Rattle.can_frame.specs.Parts.{byte_count}
use Rattle.can_longest.specs.Longest.{with_bytes}
use Rattle.can_longest.proofs.header.with_dominant_data.Goals as goal

pub returns-then-not-remote : goal.returns-then-not-remote
returns-then-not-remote c =
    let n = min c.args.dlc 8 in
    let zeros : to_be_bytes w64 0 ≡ replicate 8 0 = refl in
    let few : 8 - (8 - n) ≡ n = omega arith in
    let bytes = ap (drop (8 - n)) zeros ∙ drop-replicate (8 - n) 8 0 ∙ ap (λ k. replicate k 0) few in
    let no_remote : c.args.remote ≡ false = c.if-not-remote.true in
    c.data_of_number.ensures ∙ ap (λ b. with_bytes c.args.id false c.args.dlc b) bytes
    ∙ ap (λ r. with_bytes c.args.id r c.args.dlc (replicate {A = ℕ} (byte_count r c.args.dlc) 0)) (sym no_remote)
