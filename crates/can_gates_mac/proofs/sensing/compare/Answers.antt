use Rattle.std.proofs.Common.{◌∙◌}
use Rattle.can_gates_mac.proofs.sensing.compare.Goals as goal

pub returns : goal.returns
returns c = (
  c.next-next.ensures.0 ∙ c.less-below_10.ensures.0 ∙ c.less-below_7.ensures.0 ∙ c.less-below_6.ensures.0 ∙ c.less-below_5.ensures.0 ∙ c.less-below_2.ensures.0,
  λ v keeps.
      let next = c.next-next.ensures.1 v keeps in
      let below_10 = c.less-below_10.ensures.1 v next.0 in
      let below_7 = c.less-below_7.ensures.1 v below_10.0 in
      let below_6 = c.less-below_6.ensures.1 v below_7.0 in
      let below_5 = c.less-below_5.ensures.1 v below_6.0 in
      let below_2 = c.less-below_2.ensures.1 v below_5.0 in
      (below_2.0, record { below_2 = below_2.1; below_5 = below_5.1; below_6 = below_6.1; below_7 = below_7.1; below_10 = below_10.1; next = next.1 }),
)
