-- An open bus is a network without hits: its theorem follows from the network's.
use Rattle.std.specs.Prelude.{slice_get}
use Rattle.std.specs.List.Sorted.{IsPermutation}
use Rattle.std.proofs.Common.{◌≡◌, ℕ, zero, suc, ◌+◌, ◌<◌, Some, None, List, [], ◌∷◌, ◌++◌, length, map, refl, sym, ap, subst, ◌∙◌, arith}
use Rattle.std.proofs.lemmas.List.Sorted.{IsPermutation-map, IsPermutation-sym}
use Rattle.can_node.specs.Ports.{PortState, IsPort, port_drives}
use Rattle.can_bus.specs.declared.offer.Offer.{Offer}
use Rattle.can_bus.specs.Course.{frames_sent}
use Rattle.can_bus.specs.Schedule.{unhit, track_at}
use Rattle.can_bus.specs.Network.{AllCountAtMost, IsFit, IsNetworkCall, port_tally}
use Rattle.can_bus.specs.Offers.{call_after, call_level, call_refused, offered_now, all_made, played, played_level, refused, refused_at}
use Rattle.can_bus.specs.OpenBus.{AreOver, IsOpenCall, OpenLogBegins, OpenLogWhole}
use Rattle.can_bus.specs.Quiet.{AtEachNode, AtEachPort, CountsNothing, IsPrefixOf, IsQuietPort, MissesNothing, marked}
use Rattle.can_bus.specs.Attempts.{IsLow}
use Rattle.can_bus.specs.Run.{BusState, new_bus, recorded}
use Rattle.can_bus.specs.Timed.{TimedParts, Lists, frames_of, all_offers, own_offers}
use Rattle.can_bus.specs.Wired.{wired}
use Rattle.can_bus.proofs.Ascending.{Other, different_permuted}
use Rattle.can_bus.proofs.Contests.{AllPorts}
use Rattle.can_bus.proofs.CourseSchedules.{unhit-ended, unhit-frames, unhit-low, unhit-none}
use Rattle.can_bus.proofs.CallCases.{plain-bus}
use Rattle.can_bus.proofs.CallLemmas.{call-time}
use Rattle.can_bus.proofs.HitRuns.{sees}
use Rattle.can_bus.proofs.Members.{stands-back, stands-front}
use Rattle.can_bus.proofs.NetworkCalls.{network-logs, network-missed, network-refused, network-track, network-unmoved, network-whole}
use Rattle.can_bus.proofs.LeftOffers.{AllDiffer, differ-from}
use Rattle.can_bus.proofs.OpenStart.{OfFrames}
use Rattle.can_bus.proofs.OwnOffers.{differ-across, differ-back}
use Rattle.can_bus.proofs.PortOffers.{offers-by-port, port_offers}

-- ---- without hits it is all the same how long the bus has rested

module _ (offers : List Offer) (bus other : BusState) (same : bus.ports ≡ other.ports) where
  made-now : (n : ℕ) → (played offers n bus).ports ≡ (played offers n other).ports →
      (offered_now offers (call_after offers [] n bus)).bus.ports ≡ (offered_now offers (call_after offers [] n other)).bus.ports
  made-now n e = ap (λ t. all_made offers t (played offers n bus).ports) (call-time offers [] bus n ∙ sym (call-time offers [] other n)) ∙ ap (all_made offers (call_after offers [] n other).time) e

  pub plain-ports : (n : ℕ) → (played offers n bus).ports ≡ (played offers n other).ports
  unfolding call_after
  plain-ports zero = same
  plain-ports (suc n) =
      ap (λ (b : BusState). b.ports) (plain-bus (offered_now offers (call_after offers [] n bus)))
      ∙ ap (λ ps. map (sees (wired (map port_drives ps))) ps) (made-now n (plain-ports n))
      ∙ sym (ap (λ (b : BusState). b.ports) (plain-bus (offered_now offers (call_after offers [] n other))))

  pub plain-level : (t : ℕ) → played_level offers t bus ≡ played_level offers t other
  unfolding call_level recorded
  plain-level t = ap (λ ps. wired (map port_drives ps)) (made-now t (plain-ports t))

  pub plain-refused : (n : ℕ) → refused offers n bus ≡ refused offers n other
  unfolding call_refused
  plain-refused zero = refl
  plain-refused (suc n) =
      ap (λ k. k + refused_at offers n (played offers n bus).ports) (plain-refused n)
      ∙ ap (λ ps. refused offers n other + refused_at offers n ps) (plain-ports n)

-- ---- the premises

-- a port's own offers are among those of all
stands-port : (offers : List Offer) (node : ℕ) (ports : List PortState) (n : ℕ) (q : PortState) → slice_get ports n ≡ Some q → (y : TimedParts) → Lists (own_offers offers (node + n) q) y →
    Lists (port_offers offers node ports) y
stands-port offers node [] n q at y there = absurd (let h : None ≡ Some q = at in cc)
stands-port offers node (p ∷ ports) zero q at y there =
    let same : p ≡ q = (let h : Some p ≡ Some q = at in cc) in
    stands-front (own_offers offers node p) (port_offers offers (node + 1) ports) y
    (subst (λ r. Lists (own_offers offers node r) y) (sym same) (subst (λ k. Lists (own_offers offers k q) y) (let e : node + 0 ≡ node = omega arith in e) there))
stands-port offers node (p ∷ ports) (suc n) q at y there =
    stands-back (own_offers offers node p) (port_offers offers (node + 1) ports) y
    (stands-port offers (node + 1) ports n q at y (subst (λ k. Lists (own_offers offers k q) y) (let e : node + suc n ≡ (node + 1) + n = omega arith in e) there))

pub differ-owned : (offers : List Offer) (node : ℕ) (ports : List PortState) → AllDiffer (port_offers offers node ports) → (m n : ℕ) (p q : PortState) → m < n → slice_get ports m ≡ Some p → slice_get ports n ≡ Some q →
    (x y : TimedParts) → Lists (own_offers offers (node + m) p) x → Lists (own_offers offers (node + n) q) y → Other x.frame y.frame
differ-owned offers node [] apart m n p q less at there x y a b = absurd (let h : None ≡ Some p = at in cc)
differ-owned offers node (r ∷ ports) apart m zero p q less at there x y a b = absurd (omega (arith, less))
differ-owned offers node (r ∷ ports) apart zero (suc n) p q less at there x y a b =
    let same : r ≡ p = (let h : Some r ≡ Some p = at in cc) in
    differ-across (own_offers offers node r) (port_offers offers (node + 1) ports) apart x y
    (subst (λ s. Lists (own_offers offers node s) x) (sym same) (subst (λ k. Lists (own_offers offers k p) x) (let e : node + 0 ≡ node = omega arith in e) a))
    (stands-port offers (node + 1) ports n q there y (subst (λ k. Lists (own_offers offers k q) y) (let e : node + suc n ≡ (node + 1) + n = omega arith in e) b))
differ-owned offers node (r ∷ ports) apart (suc m) (suc n) p q less at there x y a b =
    differ-owned offers (node + 1) ports (differ-back (own_offers offers node r) (port_offers offers (node + 1) ports) apart) m n p q (omega (arith, less)) at there x y
    (subst (λ k. Lists (own_offers offers k p) x) (let e : node + suc m ≡ (node + 1) + m = omega arith in e) a)
    (subst (λ k. Lists (own_offers offers k q) y) (let e : node + suc n ≡ (node + 1) + n = omega arith in e) b)

pub quiet-low : (n : ℕ) (p : PortState) → IsQuietPort n p → IsLow (port_tally p)
quiet-low n p quiet = record { tec = omega (arith, quiet.tec); rec = omega (arith, quiet.rec) }

pub quiet-fit : (entries : ℕ) (p : PortState) → IsQuietPort entries p → IsFit entries p
quiet-fit entries p quiet = record { idle = quiet.idle; low = quiet-low entries p quiet; unasked = quiet.unasked; room = omega (arith, ap length quiet.empty, quiet.room) }

pub quiet-counts : (entries : ℕ) (ports : List PortState) → ((n : ℕ) (p : PortState) → slice_get ports n ≡ Some p → IsQuietPort entries p) → AllCountAtMost 0 ports
quiet-counts entries ports quiet n p at = let still = quiet n p at in record { tec = omega (arith, still.tec); rec = omega (arith, still.rec) }

module _ (offers : List Offer) (starts : List TimedParts) (ports : List PortState) (call : IsOpenCall offers ports starts) where
  abbrev all : List TimedParts
  all = all_offers offers ports

  pub open-network : IsNetworkCall offers [] (new_bus ports) (unhit starts)
  open-network =
      let by_port : IsPermutation (port_offers offers 0 ports) all = offers-by-port offers ports call.offered in
      let other_way : IsPermutation all (port_offers offers 0 ports) = IsPermutation-sym (port_offers offers 0 ports) all by_port in
      let apart : AllDiffer (port_offers offers 0 ports) =
      differ-from (port_offers offers 0 ports) (different_permuted (frames_of all) (frames_of (port_offers offers 0 ports)) (IsPermutation-map (λ (x : TimedParts). x.frame) all (port_offers offers 0 ports) other_way) call.scheduled.different) in
      record {
        two = call.two;
        most = call.most;
        rest = refl;
        offered = call.offered;
        fit = λ n p at. quiet-fit (length all) p (call.quiet n p at);
        room = call.room;
        owned = λ m n p q less at there x y a b.
            differ-owned offers 0 ports apart m n p q less at there x y
            (subst (λ k. Lists (own_offers offers k p) x) (let e : m ≡ 0 + m = omega arith in e) a)
            (subst (λ k. Lists (own_offers offers k q) y) (let e : n ≡ 0 + n = omega arith in e) b);
        within = λ n hit at. absurd (let h : None ≡ Some hit = at in cc);
        apart = λ m n a b less at there. absurd (let h : None ≡ Some a = at in cc);
        is_course = call.scheduled.scheduled;
        borne = λ n p at number within. unhit-low (frames_of (own_offers offers n p)) starts number (port_tally p) (quiet-low (length all) p (call.quiet n p at));
      }

-- ---- the clauses

module _ (offers : List Offer) (starts : List TimedParts) (bus : BusState) (valid : AllPorts IsPort bus.ports) (framed : OfFrames offers)
    (call : IsOpenCall offers bus.ports starts) where
  abbrev net : IsNetworkCall offers [] (new_bus bus.ports) (unhit starts)
  net = open-network offers starts bus.ports call

  -- the level at each time is that of the track
  pub open-track : (t : ℕ) → played_level offers t bus ≡ track_at starts t
  open-track t = plain-level offers bus (new_bus bus.ports) refl t ∙ network-track offers [] (unhit starts) (new_bus bus.ports) valid framed net t

  -- no queue was full
  pub open-refused : (n : ℕ) → refused offers n bus ≡ 0
  open-refused n = plain-refused offers bus (new_bus bus.ports) refl n ∙ network-refused offers [] (unhit starts) (new_bus bus.ports) valid framed net n

  module _ (n : ℕ) (after : BusState) (ran : after ≡ played offers n bus) where
    abbrev end : BusState
    end = (call_after offers [] n (new_bus bus.ports)).bus

    same-ports : after.ports ≡ end.ports
    same-ports = ap (λ (b : BusState). b.ports) ran ∙ plain-ports offers bus (new_bus bus.ports) refl n

    now-at : (node : ℕ) (q : PortState) → slice_get after.ports node ≡ Some q → slice_get end.ports node ≡ Some q
    now-at node q at = ap (λ ps. slice_get ps node) (sym same-ports) ∙ at

    entries : (node : ℕ) (p : PortState) → slice_get bus.ports node ≡ Some p →
        p.log ++ marked (frames_of (own_offers offers node p)) (frames_sent (unhit starts)) ≡ marked (frames_of (own_offers offers node p)) (frames_of starts)
    entries node p at =
        ap (λ es. es ++ marked (frames_of (own_offers offers node p)) (frames_sent (unhit starts))) (call.quiet node p at).empty
        ∙ ap (marked (frames_of (own_offers offers node p))) (unhit-frames starts)

    pub open-logs : AtEachNode (OpenLogBegins offers starts) bus.ports after.ports
    open-logs node p q before now =
        subst (IsPrefixOf q.log) (entries node p before) (network-logs offers [] (unhit starts) (new_bus bus.ports) valid framed net n end refl node p q before (now-at node q now))

    pub open-whole : AreOver starts n → AtEachNode (OpenLogWhole offers starts) bus.ports after.ports
    open-whole past node p q before now =
        network-whole offers [] (unhit starts) (new_bus bus.ports) valid framed net n end refl (unhit-ended starts n past) node p q before (now-at node q now) ∙ entries node p before

    pub open-counters : AtEachPort CountsNothing bus.ports after.ports
    open-counters node p q before now =
        network-unmoved offers [] (unhit starts) (new_bus bus.ports) valid framed net n end refl (quiet-counts (length (all_offers offers bus.ports)) bus.ports call.quiet) (unhit-none starts) node p q before (now-at node q now)

    pub open-missed : AtEachPort MissesNothing bus.ports after.ports
    open-missed node p q before now = network-missed offers [] (unhit starts) (new_bus bus.ports) valid framed net n end refl node p q before (now-at node q now)
