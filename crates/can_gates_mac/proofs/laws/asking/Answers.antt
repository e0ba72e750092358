use Rattle.can_gates_mac.proofs.laws.asking.Goals as goal

pub returns : goal.returns
returns c = λ v m n h is. record { phase = h.phase; place = h.place; last = h.last; unacknowledged = h.unacknowledged; first = h.first; sender = h.sender; pending = is; used = h.used; counters = h.counters }
