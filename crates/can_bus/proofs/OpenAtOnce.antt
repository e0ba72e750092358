-- If all frames are offered at time 0 a bus to which frames are offered is a quiet bus at which they wait.
use Rattle.std.specs.Prelude.{filter, option_map, slice_get}
use Rattle.std.proofs.Common.{◌≡◌, ℕ, zero, suc, ◌+◌, ◌<◌, Option, Some, None, List, [], ◌∷◌, ◌++◌, length, map, refl, sym, ap, subst, ◌∙◌, arith, inl, inr}
use Rattle.std.specs.List.Sorted.{IsPermutation}
use Rattle.std.proofs.Math.Dec.{eqb}
use Rattle.std.proofs.lemmas.List.Sorted.{IsPermutation-map, IsPermutation-sym, length_permutation}
use Rattle.std.proofs.lemmas.List.{length-map, map-append}
use Rattle.can_frame.specs.Parts.{Parts}
use Rattle.can_node.specs.Ports.{PortState}
use Rattle.can_node.proofs.Arrivals.{gains}
use Rattle.can_bus.specs.declared.offer.Offer.{Offer}
use Rattle.can_bus.specs.OpenBus.{IsOpenCall, WaitsAt, with_first}
use Rattle.can_bus.specs.Offers.{AreOffered, all_made, call_after, played, played_level}
use Rattle.can_bus.specs.Quiet.{AreDifferent, IsAscending, IsQuiet, IsQuietCall, IsQuietPort, ascending, line_at, queued, AtEachNode}
use Rattle.can_bus.specs.Run.{BusState, bus_level, bus_run}
use Rattle.can_bus.specs.Timed.{AreAtOnce, TimedParts, frames_of, all_offers, offered_first, offered_to, own_offers, timed, QueuesHaveRoom}
use Rattle.can_bus.specs.Schedule.{schedule, track_at}
use Rattle.can_bus.proofs.CourseSchedules.{no-other-schedule, one-schedule}
use Rattle.can_bus.proofs.Ascending.{ascending_permuted, ascending_there, different_permuted}
use Rattle.can_bus.proofs.CallCases.{played-level, played-next}
use Rattle.can_bus.proofs.CallLemmas.{call_bus-run, call_level-run}
use Rattle.can_bus.proofs.AtOnce.{at_once-frames, at_once-line}
use Rattle.can_bus.proofs.Members.{filter-stands, map-stands, stands-map, stands-here, stands-later, stands-either}
use Rattle.can_bus.proofs.OfferLemmas.{none_made}
use Rattle.can_bus.proofs.OfferTimes.{at-now, offered_at}
use Rattle.can_bus.proofs.OpenStart.{rooms}
use Rattle.can_bus.proofs.PlayedRuns.{all-taken, all_arrived, arriving}
use Rattle.can_bus.proofs.PortOffers.{offers-by-port, port_offers}

-- ---- what is offered

pub first-frames : (queue : List Parts) (own : List TimedParts) → frames_of (offered_first queue ++ own) ≡ queue ++ frames_of own
first-frames [] own = refl
first-frames (f ∷ queue) own = ap (λ fs. f ∷ fs) (first-frames queue own)

at_once-now : (own : List TimedParts) → AreAtOnce own → offered_at own 0 ≡ frames_of own
at_once-now [] all = refl
at_once-now (x ∷ own) all =
    at-now x own 0 (all x (stands-here x own)) ∙ ap (λ fs. x.frame ∷ fs) (at_once-now own (λ y there. all y (stands-later x own y there)))

-- the number of ports stays, and each has what is offered to it
length-offered : (offers : List Offer) (node : ℕ) (ports : List PortState) → length (all_arrived offers 0 node ports) ≡ length ports
length-offered offers node [] = refl
length-offered offers node (p ∷ ports) = ap suc (length-offered offers (node + 1) ports)

port-offered : (offers : List Offer) (node : ℕ) (ports : List PortState) (n : ℕ) →
    slice_get (all_arrived offers 0 node ports) n ≡ option_map (gains (arriving offers (node + n) 0)) (slice_get ports n)
port-offered offers node [] n = refl
port-offered offers node (p ∷ ports) zero = ap (λ k. Some (gains (arriving offers k 0) p)) (let e : node ≡ node + 0 = omega arith in e)
port-offered offers node (p ∷ ports) (suc n) =
    port-offered offers (node + 1) ports n ∙ ap (λ k. option_map (gains (arriving offers k 0)) (slice_get ports n)) (let e : (node + 1) + n ≡ node + suc n = omega arith in e)

-- what is offered has no part in whether a port is quiet
gains-quiet : (n : ℕ) (p : PortState) (more : List Parts) → IsQuietPort n (gains more p) → IsQuietPort n p
gains-quiet n p more quiet = record { idle = quiet.idle; tec = quiet.tec; rec = quiet.rec; unasked = quiet.unasked; empty = quiet.empty; room = quiet.room }

quiet-gains : (n : ℕ) (before : Option PortState) (more : List Parts) (q : PortState) → ((p : PortState) → before ≡ Some p → IsQuietPort n p) → option_map (gains more) before ≡ Some q → IsQuietPort n q
quiet-gains n None more q each is = absurd (let h : None ≡ Some q = is in cc)
quiet-gains n (Some p) more q each is =
    let quiet = each p refl in
    let e : gains more p ≡ q = (let h : Some (gains more p) ≡ Some q = is in cc) in
    subst (IsQuietPort n) e (record { idle = quiet.idle; tec = quiet.tec; rec = quiet.rec; unasked = quiet.unasked; empty = quiet.empty; room = quiet.room })

module _ (offers : List Offer) (first : AreAtOnce (map timed offers)) where
  to-at_once : (node : ℕ) → AreAtOnce (offered_to node offers)
  to-at_once node x there =
      let made = map-stands timed (filter (λ (o : Offer). eqb o.node node) offers) x there in
      let at = (filter-stands (λ (o : Offer). eqb o.node node) offers made.0 made.1).0 in
      sym (ap (λ (y : TimedParts). y.time) made.2) ∙ first (timed made.0) (stands-map timed offers made.0 at)

  all-at_once : (ports : List PortState) → AreAtOnce (all_offers offers ports)
  all-at_once ports x there = elim (stands-either (offered_first (queued ports)) (map timed offers) x there) [
    | inl waits ↦
        let one = map-stands (λ (f : Parts). let y : TimedParts = record { time = 0; frame = f } in y) (queued ports) x waits in
        sym (ap (λ (y : TimedParts). y.time) one.2)
    | inr made ↦ first x made
  ]

  own-frames : (node : ℕ) (p : PortState) → (gains (arriving offers node 0) p).queue ≡ frames_of (own_offers offers node p)
  own-frames node p = ap (λ fs. p.queue ++ fs) (at_once-now (offered_to node offers) (to-at_once node)) ∙ sym (first-frames p.queue (offered_to node offers))

  port-frames : (node : ℕ) (ports : List PortState) → queued (all_arrived offers 0 node ports) ≡ frames_of (port_offers offers node ports)
  port-frames node [] = refl
  port-frames node (p ∷ ports) =
      ap (λ fs. fs ++ queued (all_arrived offers 0 (node + 1) ports)) (own-frames node p)
      ∙ ap (λ fs. frames_of (own_offers offers node p) ++ fs) (port-frames (node + 1) ports)
      ∙ sym (map-append (λ (x : TimedParts). x.frame) (own_offers offers node p) (port_offers offers (node + 1) ports))

  -- all frames wait
  all-wait : (ports : List PortState) → AreOffered (length ports) offers → IsPermutation (queued (all_arrived offers 0 0 ports)) (frames_of (all_offers offers ports))
  all-wait ports offered =
      subst (λ fs. IsPermutation fs (frames_of (all_offers offers ports))) (sym (port-frames 0 ports))
      (IsPermutation-map (λ (x : TimedParts). x.frame) (port_offers offers 0 ports) (all_offers offers ports) (offers-by-port offers ports offered))

  all-size : (ports : List PortState) → AreOffered (length ports) offers → length (queued (all_arrived offers 0 0 ports)) ≡ length (all_offers offers ports)
  all-size ports offered =
      sym (length_permutation (queued (all_arrived offers 0 0 ports)) (frames_of (all_offers offers ports)) (all-wait ports offered))
      ∙ length-map (all_offers offers ports) (λ (x : TimedParts). x.frame)

  module _ (ports : List PortState) (room : QueuesHaveRoom offers ports) where
    abbrev all : List TimedParts
    all = all_offers offers ports

    abbrev waiting_ports : List PortState
    waiting_ports = all_arrived offers 0 0 ports

    taken : all_made offers 0 ports ≡ waiting_ports
    taken = all-taken offers 0 ports (rooms offers ports room).0

    pub at_once-queues : AtEachNode (WaitsAt offers) ports (all_made offers 0 ports)
    at_once-queues n p q before after =
        let is : Some (gains (arriving offers (0 + n) 0) p) ≡ Some q =
        ap (option_map (gains (arriving offers (0 + n) 0))) (sym before) ∙ sym (port-offered offers 0 ports n) ∙ ap (λ ps. slice_get ps n) (sym taken) ∙ after in
        let becomes : gains (arriving offers (0 + n) 0) p ≡ q = cc in
        ap (λ (r : PortState). r.queue) (sym becomes) ∙ ap (λ k. (gains (arriving offers k 0) p).queue) (let e : 0 + n ≡ n = omega arith in e) ∙ own-frames n p

    -- the premises of an open call are those of a quiet one
    module _ (starts : List TimedParts) (call : IsOpenCall offers ports starts) where
      ascending-starts : frames_of starts ≡ ascending (frames_of all)
      ascending-starts = ap frames_of (no-other-schedule all starts call.scheduled) ∙ at_once-frames all call.scheduled.different (all-at_once ports)

      pub at_once-line_at : (t : ℕ) → track_at starts t ≡ line_at (frames_of starts) t
      at_once-line_at t =
          ap (λ s. track_at s t) (no-other-schedule all starts call.scheduled) ∙ at_once-line all call.scheduled.different (all-at_once ports) t
          ∙ ap (λ frames. line_at frames t) (sym ascending-starts)

      pub at_once-quiet : IsQuietCall [] (all_made offers 0 ports) (frames_of starts)
      at_once-quiet =
          let moved = all-wait ports call.offered in
          let other_way = IsPermutation-sym (queued waiting_ports) (frames_of all) moved in
          let different : AreDifferent (queued waiting_ports) = different_permuted (frames_of all) (queued waiting_ports) other_way call.scheduled.different in
          let same_size = all-size ports call.offered in
          let ascends : frames_of starts ≡ ascending (queued waiting_ports) = ascending-starts ∙ ascending_permuted (frames_of all) (queued waiting_ports) other_way call.scheduled.different in
          subst (λ ps. IsQuietCall [] ps (frames_of starts)) (sym taken) (record {
            undisturbed = refl;
            quiet = record {
              two = omega (arith, call.two, length-offered offers 0 ports);
              most = omega (arith, call.most, length-offered offers 0 ports);
              quiet = λ n q there.
                  quiet-gains (length (queued waiting_ports)) (slice_get ports n) (arriving offers (0 + n) 0) q (λ p before. subst (λ k. IsQuietPort k p) (sym same_size) (call.quiet n p before))
                  (sym (port-offered offers 0 ports n) ∙ there);
              different = different;
            };
            ascending = subst (IsAscending (queued waiting_ports)) (sym ascends) (ascending_there (queued waiting_ports) different);
          })

    -- and the other way round
    pub at_once-open : (frames : List Parts) → AreOffered (length ports) offers → IsQuietCall [] (all_made offers 0 ports) frames →
        IsOpenCall offers ports (schedule (all_offers offers ports))
    at_once-open frames offered call =
        let quiet : IsQuiet waiting_ports = subst IsQuiet taken call.quiet in
        let same_size = all-size ports offered in
        record {
          two = omega (arith, quiet.two, length-offered offers 0 ports);
          most = omega (arith, quiet.most, length-offered offers 0 ports);
          offered = offered;
          quiet = λ n p there.
              subst (λ k. IsQuietPort k p) same_size
              (gains-quiet (length (queued waiting_ports)) p (arriving offers (0 + n) 0)
              (quiet.quiet n (gains (arriving offers (0 + n) 0) p) (port-offered offers 0 ports n ∙ ap (option_map (gains (arriving offers (0 + n) 0))) there)));
          room = room;
          scheduled = one-schedule all (different_permuted (queued waiting_ports) (frames_of all) (all-wait ports offered) quiet.different);
        }

  -- ---- the run

  none-later : (t : ℕ) (ports : List PortState) → all_made offers (suc t) ports ≡ ports
  none-later t ports = (none_made offers (suc t) ports (λ n offer there now. omega (arith, now, first (timed offer) (stands-map timed offers offer (n, there))))).0

  -- so it is what is played afterwards without offers
  abbrev IsStill : ℕ → BusState → Type 0
  IsStill n bus = record (played offers n bus) { ports = all_made offers n (played offers n bus).ports } ≡ played [] n (with_first offers bus)

  still-next : (n : ℕ) (bus : BusState) → IsStill n bus → played offers (suc n) bus ≡ played [] (suc n) (with_first offers bus)
  still-next n bus still = played-next offers bus n ∙ ap (bus_run [] 1) still ∙ sym (played-next [] (with_first offers bus) n)

  still-played : (n : ℕ) (bus : BusState) → IsStill n bus
  unfolding call_after
  still-played zero bus = refl
  still-played (suc n) bus = ap (λ ps. record (played offers (suc n) bus) { ports = ps }) (none-later n (played offers (suc n) bus).ports) ∙ still-next n bus (still-played n bus)

  pub at_once-run : (n : ℕ) (bus : BusState) → 0 < n → played offers n bus ≡ bus_run [] n (with_first offers bus)
  at_once-run zero bus some = absurd (omega (arith, some))
  at_once-run (suc n) bus some = still-next n bus (still-played n bus) ∙ call_bus-run [] (suc n) (with_first offers bus)

  pub at_once-level : (t : ℕ) (bus : BusState) → played_level offers t bus ≡ bus_level [] t (with_first offers bus)
  at_once-level t bus =
      played-level offers bus t ∙ ap (bus_level [] 0) (still-played t bus) ∙ sym (played-level [] (with_first offers bus) t) ∙ call_level-run [] t (with_first offers bus)
