use Rattle.can_trace.proofs.OfferOrder.{in_time-is, in_time-permuted, one-order}
use Rattle.can_trace.proofs.laws.one_order_of_offers.Goals as goal

pub returns : goal.returns
returns c = record { exists = in_time-is; only = one-order; same = in_time-permuted }
