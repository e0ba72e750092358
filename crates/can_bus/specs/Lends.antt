-- A bus that lends a port, to be changed in place. (docs/BUS.md, "Runs")
use Rattle.std.specs.Prelude.{ℕ, Option}
use Rattle.std.specs.Borrow.{LendsIf, Fml, RattleType, MutBor}
use Rattle.std.specs.Vec.{with_item}
use Rattle.can_bus.specs.declared.bus.Bus.{Bus}
use Rattle.can_bus.specs.contracts.bus.Bus.{the_row}

module _ (T : RattleType) (b : MutBor (Bus T.Denot)) where
  -- afterwards the bus has port i as the borrower left it
  abbrev pub lends_port : ℕ → Option (MutBor T.Denot) → Fml
  lends_port i r = LendsIf (the_row T) T b r (λ w. record (b.now) { ports = with_item b.now.ports i w }) b.now
