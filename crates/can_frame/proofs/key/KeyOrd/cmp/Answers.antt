use Rattle.can_frame.proofs.KeyLemmas.{Keeps, nat_cmp-kept, nat_cmp-tells}
use Rattle.can_frame.proofs.key.KeyOrd.cmp.Goals as goal

pub returns : goal.returns
returns c =
    let a : Keeps c.self.inside.bits c.args.self.now = record { kept = c.self.invariant; is = c.self.view_is } in
    let b : Keeps c.other.inside.bits c.args.other.now = record { kept = c.other.invariant; is = c.other.view_is } in
    let tells = nat_cmp-tells a b in
    rw c.cmp.ensures record { value = nat_cmp-kept a b; less = tells.less; equal = tells.equal; greater = tells.greater }
