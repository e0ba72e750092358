-- A repaired call is a network to which nothing is offered: its theorem follows from the network's.
use Rattle.std.specs.Prelude.{slice_get}
use Rattle.std.proofs.Common.{◌≡◌, ℕ, ◌+◌, ◌≤◌, Some, None, List, [], ◌++◌, length, take, sym, ap, subst, ◌∙◌, arith, inl, inr}
use Rattle.std.proofs.lemmas.List.{append-nil, length-map}
use Rattle.can_frame.specs.Parts.{Parts}
use Rattle.can_node.specs.Ports.{PortState, IsPort}
use Rattle.can_terms.specs.declared.hit.Hit.{Hit}
use Rattle.can_bus.specs.Course.{AllEnded, Transmission, course_at, course_tally, frames_sent}
use Rattle.can_bus.specs.Network.{AllCountAtMost, IsFit, IsNetworkCall, port_tally}
use Rattle.can_bus.specs.Offers.{call_after}
use Rattle.can_bus.specs.Quiet.{AreDifferent, AtEachPort, CountsNothing, IsAscending, IsPrefixOf, LogsBegin, LogsWhole, MissesNothing, marked, queued}
use Rattle.can_bus.specs.Attempts.{IsLow, Tally}
use Rattle.can_bus.specs.Repair.{AreBorne, CountsAs, CountsFew, IsRepairedCall, no_errors, repaired_course, repaired_line_at, repaired_span}
use Rattle.can_bus.specs.Run.{BusState, bus_level, bus_run}
use Rattle.can_bus.specs.Timed.{TimedParts, Lists, frames_of, all_offers, offered_first, own_offers}
use Rattle.can_bus.proofs.CallLemmas.{call_bus-run, call_level-run}
use Rattle.can_bus.proofs.Contests.{AllPorts}
use Rattle.can_bus.proofs.CoursePlans.{AreLeft, left-ascending, plan-course, plan-frames, plan-track}
use Rattle.can_bus.proofs.Members.{map-stands}
use Rattle.can_bus.proofs.NetworkCalls.{port-at, network-active, network-counts, network-logs, network-missed, network-tally, network-track, network-unmoved, network-whole}
use Rattle.can_bus.proofs.LeftOffers.{AllDiffer}
use Rattle.can_bus.proofs.OpenAtOnce.{first-frames}
use Rattle.can_bus.proofs.OpenNetworks.{differ-owned, quiet-counts, quiet-fit}
use Rattle.can_bus.proofs.OpenStart.{OfFrames}
use Rattle.can_bus.proofs.PortOffers.{no-offers}
use Rattle.can_bus.proofs.RepairCounts.{plan-ended}
use Rattle.can_bus.proofs.RepairPlans.{Plan, few-made, plan}
use Rattle.can_bus.proofs.BorneHits.{fifteen-borne}

-- ---- what a port has to send is what waits there

pub own-queue : (node : ℕ) (p : PortState) → frames_of (own_offers [] node p) ≡ p.queue
own-queue node p = first-frames p.queue [] ∙ append-nil p.queue

all-queued : (ports : List PortState) → frames_of (all_offers [] ports) ≡ queued ports
all-queued ports = first-frames (queued ports) [] ∙ append-nil (queued ports)

length-all : (ports : List PortState) → length (all_offers [] ports) ≡ length (queued ports)
length-all ports = sym (length-map (all_offers [] ports) (λ (x : TimedParts). x.frame)) ∙ ap length (all-queued ports)

first-times : (queue : List Parts) (x : TimedParts) → Lists (offered_first queue ++ []) x → x.time ≡ 0
first-times queue x there =
    let at = map-stands (λ f. let y : TimedParts = record { time = 0; frame = f } in y) queue x (subst (λ l. Lists l x) (append-nil (offered_first queue)) there) in
    sym (ap (λ (y : TimedParts). y.time) at.2)

no-framed : OfFrames []
no-framed n offer at = absurd (let h : None ≡ Some offer = at in cc)

-- ---- the premises

module _ (hits : List Hit) (bus : BusState) (valid : AllPorts IsPort bus.ports) (frames : List Parts) (call : IsRepairedCall hits bus frames) where
  abbrev pub course : List Transmission
  course = repaired_course frames hits

  planned : Plan hits 0 0 frames course
  planned = plan hits frames call.windows.windows

  different : AreDifferent (frames_of (all_offers [] bus.ports))
  different = subst AreDifferent (sym (all-queued bus.ports)) call.quiet.different

  all-left : AreLeft frames (all_offers [] bus.ports)
  all-left = left-ascending (all_offers [] bus.ports) frames different (first-times (queued bus.ports)) (subst (λ fs. IsAscending fs frames) (sym (all-queued bus.ports)) call.ascending)

  start-tally : (node : ℕ) (p : PortState) → slice_get bus.ports node ≡ Some p → port_tally p ≡ no_errors
  start-tally node p at =
      let quiet = call.quiet.quiet node p at in
      ap (λ t. let u : Tally = record { tec = t; rec = p.mac.counters.rec } in u) quiet.tec ∙ ap (λ r. let u : Tally = record { tec = 0; rec = r } in u) quiet.rec

  none-counted : AllCountAtMost 0 bus.ports
  none-counted = quiet-counts (length (queued bus.ports)) bus.ports call.quiet.quiet

  is-borne : AreBorne frames hits bus.ports
  is-borne = elim call.borne [ inl few ↦ fifteen-borne frames hits bus.ports few | inr low ↦ low ]

  pub repaired-network : IsNetworkCall [] hits bus course
  repaired-network = record {
    two = call.quiet.two;
    most = call.quiet.most;
    rest = call.rest;
    offered = λ place offer at. absurd (let h : None ≡ Some offer = at in cc);
    fit = λ n p at. subst (λ entries. IsFit entries p) (sym (length-all bus.ports)) (quiet-fit (length (queued bus.ports)) p (call.quiet.quiet n p at));
    room = λ n p at. let port = port-at IsPort bus.ports n p valid at in
        omega (arith, port.queue_fits, sym (length-map (own_offers [] n p) (λ (x : TimedParts). x.frame)) ∙ ap length (own-queue n p));
    owned = λ m n p q less at there x y a b.
        differ-owned [] 0 bus.ports (subst AllDiffer (append-nil (offered_first (queued bus.ports)) ∙ sym (no-offers 0 bus.ports)) (all-left.apart)) m n p q less at there x y a b;
    within = call.windows.within;
    apart = call.apart;
    is_course = plan-course planned (all_offers [] bus.ports) call.ascending.rising all-left;
    borne = λ n p at number within.
        subst IsLow
        (sym (ap (λ queue. course_tally queue (take number course) (port_tally p)) (own-queue n p)
        ∙ ap (course_tally p.queue (take number course)) (start-tally n p at)))
        (is-borne n p at number);
  }

  -- ---- the clauses

  -- the level at each time
  pub repaired-line : (t : ℕ) → bus_level hits t bus ≡ repaired_line_at frames hits t
  unfolding repaired_line_at
  repaired-line t =
      sym (call_level-run hits t bus) ∙ network-track [] hits course bus valid no-framed repaired-network t
      ∙ ap (course_at course) (let e : t ≡ 0 + t = omega arith in e) ∙ plan-track planned t

  module _ (n : ℕ) (after : BusState) (ran : after ≡ bus_run hits n bus) where
    is-call : after ≡ (call_after [] hits n bus).bus
    is-call = ran ∙ sym (call_bus-run hits n bus)

    entries : (node : ℕ) (p : PortState) → slice_get bus.ports node ≡ Some p →
        p.log ++ marked (frames_of (own_offers [] node p)) (frames_sent course) ≡ marked p.queue frames
    entries node p at =
        ap (λ es. es ++ marked (frames_of (own_offers [] node p)) (frames_sent course)) (call.quiet.quiet node p at).empty
        ∙ ap (λ queue. marked queue (frames_sent course)) (own-queue node p) ∙ ap (marked p.queue) (plan-frames planned)

    pub repaired-logs : AtEachPort (LogsBegin frames) bus.ports after.ports
    repaired-logs node p q before now =
        subst (IsPrefixOf q.log) (entries node p before) (network-logs [] hits course bus valid no-framed repaired-network n after is-call node p q before now)

    pub repaired-few : AtEachPort (CountsFew (length hits)) bus.ports after.ports
    repaired-few node p q before now =
        let few = network-counts [] hits course bus valid no-framed repaired-network n after is-call 0 none-counted node p q before now in
        let made = few-made hits frames in
        (network-active [] hits course bus valid no-framed repaired-network n after is-call node p q before now, record { tec = omega (arith, few.tec, made); rec = omega (arith, few.rec, made) })

    pub repaired-unmoved : hits ≡ [] → AtEachPort CountsNothing bus.ports after.ports
    repaired-unmoved unhit node p q before now =
        network-unmoved [] hits course bus valid no-framed repaired-network n after is-call none-counted (omega (arith, few-made hits frames, ap length unhit)) node p q before now

    pub repaired-missed : AtEachPort MissesNothing bus.ports after.ports
    repaired-missed node p q before now = network-missed [] hits course bus valid no-framed repaired-network n after is-call node p q before now

    module _ (past : repaired_span frames hits ≤ n) where
      ended : AllEnded course n
      ended = plan-ended planned n past

      pub repaired-whole : AtEachPort (LogsWhole frames) bus.ports after.ports
      repaired-whole node p q before now =
          network-whole [] hits course bus valid no-framed repaired-network n after is-call ended node p q before now ∙ entries node p before

      pub repaired-tally : AtEachPort (CountsAs frames hits) bus.ports after.ports
      repaired-tally node p q before now =
          network-tally [] hits course bus valid no-framed repaired-network n after is-call ended node p q before now
          ∙ ap (λ queue. course_tally queue course (port_tally p)) (own-queue node p) ∙ ap (course_tally p.queue course) (start-tally node p before)
