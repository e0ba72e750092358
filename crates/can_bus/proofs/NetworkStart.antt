-- The start of a network: its ports after the offers of time 0, and the offers that are left, which are all.
use Rattle.std.specs.Prelude.{slice_get}
use Rattle.std.proofs.Common.{◌≡◌, ℕ, suc, ◌+◌, ◌<◌, ◌≤◌, true, false, Some, None, List, [], ◌∷◌, ◌++◌, length, take, refl, sym, ap, subst, ◌∙◌, arith, inl, inr, append_assoc}
use Rattle.std.proofs.lemmas.List.{append-nil}
use Rattle.can_frame.specs.Parts.{Parts}
use Rattle.can_frame.specs.Arbitration.{arbitration_field}
use Rattle.can_node.specs.Ports.{PortState, IsPort}
use Rattle.can_node.proofs.Arrivals.{GainingPort, gaining, gains, arrived}
use Rattle.can_node.proofs.FramesWaiting.{AreFrames, AreFrames-from}
use Rattle.can_bus.specs.CourseWaiting.{of_field}
use Rattle.can_terms.specs.declared.hit.Hit.{Hit}
use Rattle.can_terms.specs.declared.hit.Hit.TheVariants.{At, In, View}
use Rattle.can_bus.specs.declared.offer.Offer.{Offer}
use Rattle.can_bus.specs.Course.{Transmission, course_tally}
use Rattle.can_bus.specs.Attempts.{AreInAttempts, AreApart, IsLow, Tally, tallied}
use Rattle.can_bus.specs.Network.{CountsAtMost, AllCountAtMost, IsFit, IsNetworkCall, port_tally}
use Rattle.can_bus.specs.Offers.{call_after, all_made}
use Rattle.can_bus.specs.Quiet.{holds}
use Rattle.can_bus.specs.Run.{BusState}
use Rattle.can_bus.specs.Timed.{TimedParts, Lists, frames_of, offered_by, all_offers, offered_first, offered_to, own_offers}
use Rattle.can_bus.proofs.Contests.{AllPorts}
use Rattle.can_bus.proofs.Members.{none-taken, stands-map}
use Rattle.can_bus.proofs.OfferLemmas.{offers-rise}
use Rattle.can_bus.proofs.OfferTimes.{AreInOrder, offered-arrived, offered_by-append, offered_by-first, frames-offered}
use Rattle.can_bus.proofs.OpenStart.{EachFrom, OfFrames, each-from, frames-first, frames-to, order-of, rooms}
use Rattle.can_bus.proofs.PlayedRuns.{AreRoomy, all-taken, all_arrived, arriving, open_ports}
use Rattle.can_bus.proofs.PortOffers.{port_offers}
use Rattle.can_bus.proofs.QuietLogs.{holds-own}
use Rattle.can_bus.proofs.HitRuns.{AreWithin}
use Rattle.can_bus.proofs.HitWires.{HitWire}
use Rattle.can_bus.proofs.RepairPlans.{Apart, apart-within, later-from}
use Rattle.can_bus.proofs.CoursePorts.{CoursePort, IsCoursePort}
use Rattle.can_bus.proofs.CourseRounds.{CourseRound, Owned, held, machines_of}
use Rattle.can_bus.proofs.CourseRuns.{CourseBears, PortBears, wire_with}
use Rattle.can_bus.proofs.NetworkRuns.{IsGoing}
use Rattle.can_bus.proofs.OwnedFields.{field-cases, none-holds, start-fields}

-- the port of this number, which gains what is offered to it, from time 0 on
abbrev pub course_port : List Offer → ℕ → PortState → CoursePort
course_port offers node p = record {
  machine = gaining (gains (arriving offers node 0) p) (arriving offers node);
  own = own_offers offers node p;
  mine = frames_of (own_offers offers node p);
}

-- these ports, of which the first has this number
abbrev pub all_course : List Offer → ℕ → List PortState → List CoursePort
all_course offers node [] = []
all_course offers node (p ∷ ports) = course_port offers node p ∷ all_course offers (node + 1) ports

held-course : (offers : List Offer) (node : ℕ) (ports : List PortState) → held (all_course offers node ports) ≡ port_offers offers node ports
held-course offers node [] = refl
held-course offers node (p ∷ ports) = ap (λ l. own_offers offers node p ++ l) (held-course offers (node + 1) ports)

machines-course : (offers : List Offer) (node : ℕ) (ports : List PortState) → machines_of (all_course offers node ports) ≡ open_ports offers 0 node (all_arrived offers 0 node ports)
machines-course offers node [] = refl
machines-course offers node (p ∷ ports) = ap (λ gs. gaining (gains (arriving offers node 0) p) (arriving offers node) ∷ gs) (machines-course offers (node + 1) ports)

-- ---- hits in attempts that rise

pub apart-attempts : (hits : List Hit) → AreInAttempts hits → AreApart 1 hits → Apart hits
apart-attempts [] within apart = tt
apart-attempts (In a offset ∷ hits) within apart = (
  later-from a offset hits (λ n b e. apart 0 (suc n) (In a offset) b (omega arith) refl e),
  apart-attempts hits (λ n hit e. within (suc n) hit e) (λ m n c d less e q. apart (suc m) (suc n) c d (omega (arith, less)) e q),
)
apart-attempts (At time ∷ hits) within apart = let there = within 0 (At time) refl in let e = there.2 in cc
apart-attempts (View time node ∷ hits) within apart = let there = within 0 (View time node) refl in let e = there.2 in cc

-- ---- a tally that stays low

pub bears-from : (queue : List Parts) (course : List Transmission) (t : Tally) → ((number : ℕ) → number ≤ length course → IsLow (course_tally queue (take number course) t)) →
    CourseBears queue course t
bears-from queue [] t low = tt
bears-from queue (s ∷ course) t low =
    let next : Tally = tallied (holds queue s.frame) s.frame s.hit t in (
      subst (λ some. IsLow (course_tally queue some next)) (none-taken course) (low 1 (omega arith)),
      bears-from queue course next (λ number within. low (suc number) (omega (arith, within))),
    )

-- ---- the offers to a port

order-first : (queue : List Parts) (own : List TimedParts) → AreInOrder own → AreInOrder (offered_first queue ++ own)
order-first [] own order = order
order-first (f ∷ queue) own order = ((λ x there. omega arith), order-first queue own order)

-- a port has its own offers
own-holds : (own : List TimedParts) (x : TimedParts) → Lists own x → holds (frames_of own) x.frame ≡ true
own-holds own x there =
    holds-own x.frame (frames_of own) (stands-map (λ (y : TimedParts). y.frame) own x there)

module _ (offers : List Offer) (order : (node : ℕ) → AreInOrder (offered_to node offers)) (frames : (node : ℕ) → AreFrames (frames_of (offered_to node offers))) where
  start-port : (h entries node : ℕ) (p : PortState) → IsPort p → IsFit entries p → CountsAtMost h p → IsCoursePort h 0 entries (course_port offers node p)
  start-port h entries node p valid fit few =
      let own = offered_to node offers in
      let all = own_offers offers node p in
      let first = arriving offers node 0 in
      let queue : (n : ℕ) → (p.queue ++ first) ++ arrived (arriving offers node) n ≡ offered_by (0 + n) all = λ n.
      append_assoc p.queue first (arrived (arriving offers node) n) ∙ ap (λ fs. p.queue ++ fs) (offered-arrived own (order node) n)
      ∙ sym (offered_by-append n (offered_first p.queue) own ∙ ap (λ fs. fs ++ offered_by n own) (offered_by-first n p.queue))
      ∙ ap (λ t. offered_by t all) (let e : n ≡ 0 + n = omega arith in e) in
      let framed : AreFrames (frames_of all) = frames-first p.queue own (AreFrames-from p.queue valid.queued) (frames node) in
      let now : p.queue ++ first ≡ offered_by 0 all = sym (append-nil (p.queue ++ first)) ∙ queue 0 in
      record {
        calm = record {
          idle = fit.idle;
          within = record { low_tec = fit.low.tec; low_rec = fit.low.rec; tec = few.tec; rec = few.rec; occurrences = valid.mac.counters.no_occurrences (omega (arith, fit.low.tec)); row = valid.mac.counters.empty_row (omega (arith, fit.low.tec)) };
          unasked = fit.unasked;
          frames = subst AreFrames (sym now) (frames-offered 0 all framed);
          room = fit.room;
        };
        frames = framed;
        order = order-first p.queue own (order node);
        owns = own-holds all;
        queue = queue;
      }

  start-ports : (h entries node : ℕ) (ports : List PortState) → AllPorts IsPort ports → EachFrom (λ n p. IsFit entries p × CountsAtMost h p) node ports →
      AllPorts (IsCoursePort h 0 entries) (all_course offers node ports)
  start-ports h entries node [] valid fit = tt
  start-ports h entries node (p ∷ ports) valid fit = (start-port h entries node p valid.0 fit.0.0 fit.0.1, start-ports h entries (node + 1) ports valid.1 fit.1)

-- a field that one port has, no other has
abbrev OwnedFrom : List Offer → ℕ → List PortState → Type 0
OwnedFrom offers node ports = (m n : ℕ) (p q : PortState) → m < n → slice_get ports m ≡ Some p → slice_get ports n ≡ Some q →
    (x y : TimedParts) → Lists (own_offers offers (node + m) p) x → Lists (own_offers offers (node + n) q) y → arbitration_field x.frame ≡ arbitration_field y.frame → ⊥

none-from : (offers : List Offer) (f : Parts) (node : ℕ) (ports : List PortState) →
    ((n : ℕ) (q : PortState) → slice_get ports n ≡ Some q → holds (frames_of (own_offers offers (node + n) q)) f ≡ false) →
    AllPorts (λ (o : CoursePort). holds o.mine f ≡ false) (all_course offers node ports)
none-from offers f node [] each = tt
none-from offers f node (q ∷ ports) each = (
  subst (λ k. holds (frames_of (own_offers offers k q)) f ≡ false) (let e : node + 0 ≡ node = omega arith in e) (each 0 q refl),
  none-from offers f (node + 1) ports (λ n p at. subst (λ k. holds (frames_of (own_offers offers k p)) f ≡ false) (let e : node + suc n ≡ (node + 1) + n = omega arith in e) (each (suc n) p at)),
)

owned-from : (offers : List Offer) (node : ℕ) (ports : List PortState) → OwnedFrom offers node ports → Owned (all_course offers node ports)
owned-from offers node [] owned = tt
owned-from offers node (p ∷ ports) owned = (
  λ f own. elim (field-cases f (own_offers offers node p)) [
    | inl none ↦ (let other = none-holds f (own_offers offers node p) none in cc)
    | inr has ↦ none-from offers f (node + 1) ports (λ n q at.
        none-holds f (own_offers offers ((node + 1) + n) q) (λ y there e.
        owned 0 (suc n) p q (omega arith) refl at has.0 y
        (subst (λ k. Lists (own_offers offers k p) has.0) (let s : node ≡ node + 0 = omega arith in s) has.1)
        (subst (λ k. Lists (own_offers offers k q) y) (let s : (node + 1) + n ≡ node + suc n = omega arith in s) there)
        (sym has.2 ∙ e)))
  ],
  owned-from offers (node + 1) ports (λ m n q r less at there x y a b.
      owned (suc m) (suc n) q r (omega (arith, less)) at there x y
      (subst (λ k. Lists (own_offers offers k q) x) (let s : (node + 1) + m ≡ node + suc m = omega arith in s) a)
      (subst (λ k. Lists (own_offers offers k r) y) (let s : (node + 1) + n ≡ node + suc n = omega arith in s) b)),
)

-- ---- a call

module _ (offers : List Offer) (hits : List Hit) (course : List Transmission) (bus : BusState) (valid : AllPorts IsPort bus.ports) (framed : OfFrames offers)
    (call : IsNetworkCall offers hits bus course) where
  abbrev pub os : List CoursePort
  os = all_course offers 0 bus.ports

  pub call-order : (node : ℕ) → AreInOrder (offered_to node offers)
  call-order = order-of offers (offers-rise (length bus.ports) offers call.offered)

  pub call-apart : Apart hits
  call-apart = apart-attempts hits call.within call.apart

  pub call-within : AreWithin hits
  call-within = apart-within hits call-apart

  pub call-round : (h : ℕ) → AllCountAtMost h bus.ports → CourseRound h 0 (all_offers offers bus.ports) os
  call-round h few =
      let size = length (all_offers offers bus.ports) in
      record {
        ports = start-ports offers call-order (frames-to offers framed) h size 0 bus.ports valid
            (each-from (λ n p. IsFit size p × CountsAtMost h p) 0 bus.ports (λ n p at. (call.fit n p at, few n p at)));
        owned = owned-from offers 0 bus.ports (λ m n p q less at there x y a b.
            call.owned m n p q less at there x y
            (subst (λ k. Lists (own_offers offers k p) x) (let e : 0 + m ≡ m = omega arith in e) a)
            (subst (λ k. Lists (own_offers offers k q) y) (let e : 0 + n ≡ n = omega arith in e) b));
        fields = λ f. start-fields f offers bus.ports call.offered call.owned ∙ ap (of_field f) (sym (held-course offers 0 bus.ports));
      }

  all-bear : (node : ℕ) (ports : List PortState) → EachFrom (λ n p. CourseBears (frames_of (own_offers offers n p)) course (port_tally p)) node ports → AllPorts (PortBears course) (all_course offers node ports)
  all-bear node [] each = tt
  all-bear node (p ∷ ports) each = (each.0, all-bear (node + 1) ports each.1)

  pub call-bears : AllPorts (PortBears course) os
  call-bears =
      all-bear 0 bus.ports (each-from (λ n p. CourseBears (frames_of (own_offers offers n p)) course (port_tally p)) 0 bus.ports
      (λ n p at. subst (λ k. CourseBears (frames_of (own_offers offers k p)) course (port_tally p)) (let e : n ≡ 0 + n = omega arith in e)
      (bears-from (frames_of (own_offers offers n p)) course (port_tally p) (call.borne n p at))))

  pub call-wire : IsGoing offers hits call-order call-within 0 bus (wire_with os None)
  unfolding call_after
  call-wire =
      let room = rooms offers bus.ports call.room in
      let made : all_made offers 0 bus.ports ≡ all_arrived offers 0 0 bus.ports = all-taken offers 0 bus.ports room.0 in
      record {
        wire =
            ap (λ gs. let w : HitWire GainingPort = record { machines = gs; rest = 11; latest = None } in w)
            (machines-course offers 0 bus.ports ∙ ap (open_ports offers 0 0) (sym made))
            ∙ ap (λ r. let w : HitWire GainingPort = record { machines = open_ports offers 0 0 (all_made offers 0 bus.ports); rest = r; latest = None } in w) (sym call.rest);
        time = refl;
        room = subst (AreRoomy offers 0 0) (sym made) room.1;
        have = room.0;
      }
