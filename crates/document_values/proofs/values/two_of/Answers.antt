use Rattle.std.proofs.Common.{◌≡◌, length, arith}
use Rattle.toml.specs.View.{view}
use Rattle.document_values.proofs.Pairs.{two-values}
use Rattle.document_values.proofs.values.two_of.Goals as goal

pub returns-in-len2-clause-said : goal.returns-in-len2-clause-said
returns-in-len2-clause-said c =
    let size : length c.in_ok-elements_of.field-0.now ≡ 2 = omega arith in
    two-values c.in_ok-elements_of.field-0.now (view c.args.value.now) c.first-item.result c.second-item.result c.in_ok-elements_of.ensures.met c.in_ok-elements_of.ensures.said size c.first-item.is c.second-item.is
