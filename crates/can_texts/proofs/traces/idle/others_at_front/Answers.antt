use Rattle.std.proofs.Common.{eqb, not, take, arith, w8}
use Rattle.std.proofs.lemmas.List.{length-take-le}
use Rattle.std.proofs.lemmas.Simd.{bitmask_splat}
use Rattle.can_texts.proofs.traces.idle.others_at_front.Goals as goal

pub returns : goal.returns
returns c =
    let bytes = c.args.bytes.now in
    bitmask_splat w8 (λ a b. not (eqb a b)) (take 16 bytes) 16 49 (length-take-le 16 bytes c.requires) (omega arith)
