use Rattle.std.proofs.Common.{◌≡◌, true, false, arith, rules}
use Rattle.std.proofs.lemmas.Bool.Decides.{nat_tests}
use Rattle.can_c.specs.Play.{held_in, lacks_port}
use Rattle.can_c.proofs.PlayLemmas.{by-lack}
use Rattle.can_c.proofs.play.check_ports.Goals as goal

pub returns-then-not-all_hold-clause-why : goal.returns-then-not-all_hold-clause-why
returns-then-not-all_hold-clause-why c =
    let lacks : lacks_port (held_in c.args.handles.now) ≡ true = search rules in
    by-lack c.args.handles.now true (grind (arith, nat_tests)) (grind (arith, nat_tests)) lacks

pub returns-clause-fits : goal.returns-clause-fits
returns-clause-fits c =
    let lacks : lacks_port (held_in c.args.handles.now) ≡ false = search rules in
    by-lack c.args.handles.now false (grind (arith, nat_tests)) (grind (arith, nat_tests)) lacks
