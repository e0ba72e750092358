use Rattle.std.proofs.Common.{◌≡◌, ◌^◌, ◌<◌, eqb, map, length, ap, subst, arith, w8}
use Rattle.std.proofs.lemmas.List.{length-map}
use Rattle.std.proofs.lemmas.Simd.{bitmask_splat}
use lib.Lanes.{mask_l}
use Rattle.can_code.proofs.StepLemmas.{mask-small}
use Rattle.can_code.proofs.digits.places_of.Goals as goal

pub returns-clause-places : goal.returns-clause-places
returns-clause-places c = bitmask_splat w8 eqb c.args.block.now 16 c.args.byte (omega arith) (omega arith)

pub returns-clause-small : goal.returns-clause-small
returns-clause-small c =
    let block = c.args.block.now in
    let byte = c.args.byte in
    let size : length block ≡ 16 = omega arith in
    let small : mask_l (map (λ x. eqb x byte) block) < 2 ^ length block =
    subst (λ n. mask_l (map (λ x. eqb x byte) block) < 2 ^ n) (length-map block (λ x. eqb x byte)) (mask-small (map (λ x. eqb x byte) block)) in
    omega (arith, bitmask_splat w8 eqb block 16 byte (omega arith) (omega arith), small, ap (λ n. 2 ^ n) size)
