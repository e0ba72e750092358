-- What a bus of any ports does with offers at run time and hits, in terms of its course: the clauses of the theorem.
use Rattle.std.specs.Prelude.{◌↔◌, slice_get}
use Rattle.std.proofs.Common.{◌≡◌, ℕ, zero, suc, ◌+◌, ◌<◌, false, Some, None, List, [], ◌∷◌, ◌++◌, length, map, refl, sym, ap, subst, ◌∙◌, arith, true}
use Rattle.std.proofs.Math.Dec.{leb}
use Rattle.std.proofs.lemmas.Bool.{cond-false, leb-true, false_from_ne_true, or_from}
use Rattle.std.proofs.lemmas.List.{length-map}
use Rattle.can_frame.specs.Parts.{Parts}
use Rattle.can_node.specs.Ports.{PortState, IsPort}
use Rattle.can_fault.specs.declared.state.State.TheVariants.{Active}
use Rattle.can_fault.specs.Counters.{ConfineParts, state_of, is_bus_off, is_passive}
use Rattle.can_node.proofs.Arrivals.{GainingPort}
use Rattle.can_terms.specs.declared.hit.Hit.{Hit}
use Rattle.can_terms.specs.declared.hit.Hit.TheVariants.{At, In, View}
use Rattle.can_bus.specs.declared.offer.Offer.{Offer}
use Rattle.can_bus.specs.Course.{AllEnded, Transmission, course_at, hits_made}
use Rattle.can_bus.specs.Network.{AllCountAtMost, AllOver, CountsAtMost, IsNetworkCall, NetworkLogBegins, NetworkLogHas, NetworkLogWhole, NetworkTally, OnNetworkCall, RestsAgain, StaysActive}
use Rattle.can_bus.specs.Offers.{call_after, call_level, call_refused, AreOffered, all_made}
use Rattle.can_terms.specs.Hits.{AreTaken}
use Rattle.can_bus.proofs.RepairedCalls.{taken-attempts}
use Rattle.can_bus.specs.Quiet.{AtEachNode, AtEachPort, CountsNothing, MissesNothing}
use Rattle.can_bus.specs.Run.{BusState}
use Rattle.can_bus.proofs.Contests.{AllPorts}
use Rattle.can_bus.proofs.FrameOnBus.{ports_of}
use Rattle.can_bus.specs.Timed.{offered_to}
use Rattle.can_bus.proofs.HitRuns.{AreWithin, falls}
use Rattle.can_bus.proofs.OfferTimes.{AreInOrder}
use Rattle.can_bus.proofs.HitWires.{HitWire}
use Rattle.can_bus.proofs.OpenStart.{OfFrames}
use Rattle.can_bus.proofs.PlayedRuns.{all_arrived, all-taken, open-now}
use Rattle.can_bus.proofs.CalmPorts.{IsWithin}
use Rattle.can_bus.proofs.CallsFollow.{call-rooms, room-at, rooms_of}
use Rattle.can_bus.proofs.CourseLogs.{Becomes}
use Rattle.can_bus.proofs.CoursePorts.{CoursePort}
use Rattle.can_bus.proofs.CourseRuns.{Each, Follows, follows, later, wire_with}
use Rattle.can_bus.proofs.NetworkRuns.{call-level, call-refused, now_at, wire-after}
use Rattle.can_bus.proofs.NetworkStart.{all_course, call-apart, call-bears, call-order, call-round, call-wire, call-within, course_port}

length-course : (offers : List Offer) (node : ℕ) (ports : List PortState) → length (all_course offers node ports) ≡ length ports
length-course offers node [] = refl
length-course offers node (p ∷ ports) = ap suc (length-course offers (node + 1) ports)

pub port-at : (P : PortState → Type 0) (ports : List PortState) (n : ℕ) (p : PortState) → AllPorts P ports → slice_get ports n ≡ Some p → P p
port-at P [] n p all at = absurd (let h : None ≡ Some p = at in cc)
port-at P (q ∷ ports) zero p all at = let same : q ≡ p = (let h : Some q ≡ Some p = at in cc) in subst P same all.0
port-at P (q ∷ ports) (suc n) p all at = port-at P ports n p all.1 at

pub valid-ports : {X : Type 0} (state : X → PortState) → ((x : X) → IsPort (state x)) → (xs : List X) → AllPorts IsPort (map state xs)
valid-ports state valid [] = tt
valid-ports state valid (x ∷ xs) = (valid x, valid-ports state valid xs)

-- if no attempt has begun none is hit
none-falls : (hits : List Hit) → AreWithin hits → falls hits None ≡ false
none-falls [] h = refl
none-falls (In number offset ∷ hits) h = none-falls hits h
none-falls (At time ∷ hits) h = absurd h
none-falls (View time node ∷ hits) h = absurd h

-- a port with such counters is error active
within-active : (h : ℕ) (c : ConfineParts) → IsWithin h c → state_of c ≡ Active
within-active h c within =
    cond-false (is_bus_off c) _ _ (false_from_ne_true (leb 256 c.tec) (λ e. omega (arith, leb-true 256 c.tec e, within.low_tec)))
    ∙ cond-false (is_passive c) _ _
    (or_from (leb 128 c.tec) (leb 128 c.rec)
    (false_from_ne_true (leb 128 c.tec) (λ e. omega (arith, leb-true 128 c.tec e, within.low_tec)))
    (false_from_ne_true (leb 128 c.rec) (λ e. omega (arith, leb-true 128 c.rec e, within.low_rec))))

front-empty : (a b : List Parts) → a ++ b ≡ [] → a ≡ []
front-empty [] b e = refl
front-empty (f ∷ a) b e = absurd (let h : f ∷ (a ++ b) ≡ [] = e in cc)

module _ (most : ℕ) (course : List Transmission) (until : ℕ) (offers : List Offer) where
  -- what is offered after the last bit time has no influence on a port
  each-before : (t node : ℕ) (os : List CoursePort) (ports : List PortState) → Each (Becomes most course until) os (all_arrived offers t node ports) → Each (Becomes most course until) os ports
  each-before t node [] [] each = tt
  each-before t node [] (p ∷ ports) each = each
  each-before t node (o ∷ os) [] each = each
  each-before t node (o ∷ os) (p ∷ ports) each = (
    record {
      begins = each.0.begins;
      has = each.0.has;
      whole = each.0.whole;
      within = each.0.within;
      tally = each.0.tally;
      missed = each.0.missed;
      done = λ over. let done = each.0.done over in record { idle = done.idle; empty = front-empty p.queue _ done.empty; unasked = done.unasked };
    },
    each-before t (node + 1) os ports each.1,
  )

  -- at the port of a number
  node-of : (node : ℕ) (before after : List PortState) → Each (Becomes most course until) (all_course offers node before) after →
      (n : ℕ) (p q : PortState) → slice_get before n ≡ Some p → slice_get after n ≡ Some q → Becomes most course until (course_port offers (node + n) p) q
  node-of node [] after each n p q a b = absurd (let h : None ≡ Some p = a in cc)
  node-of node (x ∷ before) [] each n p q a b = absurd each
  node-of node (x ∷ before) (y ∷ after) each zero p q a b =
      let first : x ≡ p = (let h : Some x ≡ Some p = a in cc) in
      let second : y ≡ q = (let h : Some y ≡ Some q = b in cc) in
      let same : node ≡ node + 0 = omega arith in
      subst (λ z. Becomes most course until (course_port offers (node + 0) p) z) second
      (subst (λ z. Becomes most course until (course_port offers (node + 0) z) y) first (subst (λ k. Becomes most course until (course_port offers k x) y) same each.0))
  node-of node (x ∷ before) (y ∷ after) each (suc n) p q a b =
      subst (λ k. Becomes most course until (course_port offers k p) q) (let e : (node + 1) + n ≡ node + suc n = omega arith in e)
      (node-of (node + 1) before after each.1 n p q a b)

module _ (offers : List Offer) (hits : List Hit) (course : List Transmission) (bus : BusState) (valid : AllPorts IsPort bus.ports) (framed : OfFrames offers)
    (call : IsNetworkCall offers hits bus course) where
  abbrev os : List CoursePort
  os = all_course offers 0 bus.ports

  abbrev w : HitWire GainingPort
  w = wire_with os None

  abbrev order : (node : ℕ) → AreInOrder (offered_to node offers)
  order = call-order offers hits course bus valid framed call

  abbrev within : AreWithin hits
  within = call-within offers hits course bus valid framed call

  -- from counters of this many errors at most
  follows-call : (h : ℕ) → AllCountAtMost h bus.ports → (n : ℕ) → Follows hits (h + hits_made course) course n os (later hits (h + hits_made course) n w)
  follows-call h few n =
      let two : 1 < length os = omega (arith, length-course offers 0 bus.ports, call.two) in
      let most : ℕ = h + hits_made course in
      subst (λ t. Follows hits most course t os (later hits most n w)) (let e : 0 + n ≡ n = omega arith in e)
      (follows hits most (call-apart offers hits course bus valid framed call) (suc n) n h os None (omega arith) two (call-round offers hits course bus valid framed call h few) call.is_course
      (call-bears offers hits course bus valid framed call) (omega arith) refl (λ still. none-falls hits within))

  -- all are low
  all-low : AllCountAtMost 128 bus.ports
  all-low n p at = let low = (call.fit n p at).low in record { tec = omega (arith, low.tec); rec = omega (arith, low.rec) }

  -- the level at each time is that of the track
  pub network-track : (t : ℕ) → call_level offers hits t bus ≡ course_at course t
  network-track t = call-level offers hits order within t bus w (call-wire offers hits course bus valid framed call) ∙ (follows-call 128 all-low t).level

  -- no queue was full
  pub network-refused : (n : ℕ) → call_refused offers hits n bus ≡ 0
  network-refused n = call-refused offers hits order within n bus w (call-wire offers hits course bus valid framed call)

  -- each port
  each-port : (h : ℕ) → AllCountAtMost h bus.ports → (n : ℕ) → Each (Becomes (h + hits_made course) course n) os (call_after offers hits n bus).bus.ports
  each-port h few n =
      let most : ℕ = h + hits_made course in
      let before : List PortState = (call_after offers hits n bus).bus.ports in
      let ran = wire-after offers hits order within n bus w (call-wire offers hits course bus valid framed call) in
      let made : ports_of (later hits most n w).machines ≡ all_arrived offers n 0 before =
      ap (λ (v : HitWire GainingPort). ports_of v.machines) ran.wire ∙ open-now offers n 0 (now_at offers hits order within n bus).bus.ports
      ∙ ap (λ t. all_made offers t before) ran.time ∙ all-taken offers n before ran.have in
      each-before most course n offers n 0 os before (subst (Each (Becomes most course n) os) made (follows-call h few n).each)

  becomes : (h : ℕ) → AllCountAtMost h bus.ports → (n node : ℕ) (p q : PortState) → slice_get bus.ports node ≡ Some p → slice_get (call_after offers hits n bus).bus.ports node ≡ Some q →
      Becomes (h + hits_made course) course n (course_port offers node p) q
  becomes h few n node p q before after =
      subst (λ k. Becomes (h + hits_made course) course n (course_port offers k p) q) (let e : 0 + node ≡ node = omega arith in e)
      (node-of (h + hits_made course) course n offers 0 bus.ports (call_after offers hits n bus).bus.ports (each-port h few n) node p q before after)

  module _ (n : ℕ) (after : BusState) (ran : after ≡ (call_after offers hits n bus).bus) where
    at-port : (h : ℕ) → AllCountAtMost h bus.ports → (node : ℕ) (p q : PortState) → slice_get bus.ports node ≡ Some p → slice_get after.ports node ≡ Some q →
        Becomes (h + hits_made course) course n (course_port offers node p) q
    at-port h few node p q before now = becomes h few n node p q before (ap (λ (b : BusState). slice_get b.ports node) (sym ran) ∙ now)

    pub network-logs : AtEachNode (NetworkLogBegins offers course) bus.ports after.ports
    network-logs node p q before now = (at-port 128 all-low node p q before now).begins

    pub network-has : AtEachNode (NetworkLogHas offers course n) bus.ports after.ports
    network-has node p q before now = (at-port 128 all-low node p q before now).has

    pub network-whole : AllEnded course n → AtEachNode (NetworkLogWhole offers course) bus.ports after.ports
    network-whole past node p q before now = (at-port 128 all-low node p q before now).whole past

    pub network-tally : AllEnded course n → AtEachNode (NetworkTally offers course) bus.ports after.ports
    network-tally past node p q before now = (at-port 128 all-low node p q before now).tally past

    pub network-active : AtEachPort StaysActive bus.ports after.ports
    network-active node p q before now = within-active (128 + hits_made course) q.mac.counters (at-port 128 all-low node p q before now).within

    pub network-counts : (errors : ℕ) → AllCountAtMost errors bus.ports → AtEachPort (λ p q. CountsAtMost (errors + hits_made course) q) bus.ports after.ports
    network-counts errors few node p q before now =
        let is = (at-port errors few node p q before now).within in
        record { tec = is.tec; rec = is.rec }

    -- if nothing is counted, and nothing has been, they are as they were
    pub network-unmoved : AllCountAtMost 0 bus.ports → hits_made course ≡ 0 → AtEachPort CountsNothing bus.ports after.ports
    network-unmoved none unhit node p q before now =
        let is = (at-port 0 none node p q before now).within in
        let few = none node p before in
        let c = p.mac.counters in
        let d = q.mac.counters in
        let one = (port-at IsPort bus.ports node p valid before).mac.counters in
        ap (λ n. let e : ConfineParts = record { tec = n; rec = d.rec; occurrences = d.occurrences; row = d.row } in e) (let e : d.tec ≡ c.tec = omega (arith, few.tec, is.tec, unhit) in e)
        ∙ ap (λ n. let e : ConfineParts = record { tec = c.tec; rec = n; occurrences = d.occurrences; row = d.row } in e) (let e : d.rec ≡ c.rec = omega (arith, few.rec, is.rec, unhit) in e)
        ∙ ap (λ n. let e : ConfineParts = record { tec = c.tec; rec = c.rec; occurrences = n; row = d.row } in e) (is.occurrences ∙ sym (one.no_occurrences (omega (arith, few.tec))))
        ∙ ap (λ n. let e : ConfineParts = record { tec = c.tec; rec = c.rec; occurrences = c.occurrences; row = n } in e) (is.row ∙ sym (one.empty_row (omega (arith, few.tec))))

    pub network-missed : AtEachPort MissesNothing bus.ports after.ports
    network-missed node p q before now = (at-port 128 all-low node p q before now).missed

    -- after the last attempt all are at rest
    pub network-rests : AllOver course n → RestsAgain bus after
    network-rests over =
        let rooms : map rooms_of after.ports ≡ map rooms_of bus.ports = ap (λ (b : BusState). map rooms_of b.ports) ran ∙ call-rooms offers hits n bus in
        record {
          count = sym (length-map after.ports rooms_of) ∙ ap length rooms ∙ length-map bus.ports rooms_of;
          rest =
              ap (λ (b : BusState). b.rest) ran
              ∙ sym (ap (λ (v : HitWire GainingPort). v.rest) (wire-after offers hits order within n bus w (call-wire offers hits course bus valid framed call)).wire)
              ∙ (follows-call 128 all-low n).rests over;
          ports = λ node p q before now.
              let done = (at-port 128 all-low node p q before now).done over in
              let same : rooms_of q ≡ rooms_of p = room-at bus.ports after.ports rooms node p q before now in
              record {
                idle = done.idle;
                empty = done.empty;
                unasked = done.unasked;
                queue_room = ap (λ (r : ℕ × ℕ). r.0) same;
                log_room = ap (λ (r : ℕ × ℕ). r.1) same;
              };
        }

-- ---- offers and hits that are not taken meet no premises

pub untaken : {X : Type 0} (state : X → PortState) (xs : List X) (size rest : ℕ) (offers : List Offer) (hits : List Hit) → size ≡ length xs → ((false ≡ true) ↔ (AreOffered size offers × AreTaken size hits)) →
    (Claim : List Transmission → Type 0) → OnNetworkCall offers hits (record { ports = map state xs; rest = rest }) Claim
untaken state xs size rest offers hits same taken Claim course call =
    absurd (let e : false ≡ true = taken.1 (subst (λ n. AreOffered n offers) (length-map xs state ∙ sym same) call.offered, taken-attempts size hits call.within call.apart) in cc)
