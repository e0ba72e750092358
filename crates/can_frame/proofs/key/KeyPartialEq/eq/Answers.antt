use Rattle.can_frame.proofs.KeyLemmas.{Keeps, nat_eq-kept, nat_eq-Decides}
use Rattle.can_frame.proofs.key.KeyPartialEq.eq.Goals as goal

pub returns : goal.returns
returns c =
    let a : Keeps c.self.inside.bits c.args.self.now = record { kept = c.self.invariant; is = c.self.view_is } in
    let b : Keeps c.other.inside.bits c.args.other.now = record { kept = c.other.invariant; is = c.other.view_is } in
    record { test = nat_eq-kept a b; equal = nat_eq-Decides a b }
