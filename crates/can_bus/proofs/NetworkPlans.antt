-- Ports that are made idle, with offers and hits as planned, are a network.
use Rattle.std.specs.Prelude.{slice_get, max}
use Rattle.std.proofs.Common.{◌≡◌, ℕ, zero, suc, ◌+◌, ◌≤◌, Option, Some, None, List, [], ◌∷◌, All, length, map, refl, sym, ap, subst, ◌∙◌, arith, inl, inr}
use Rattle.std.proofs.lemmas.Bool.{le-leb}
use Rattle.std.proofs.lemmas.List.{length-map}
use Rattle.can_frame.specs.Parts.{Parts}
use Rattle.can_node.specs.Ports.{PortState}
use Rattle.can_node.specs.Waiting.{IsWaiting}
use Rattle.can_node.proofs.WaitingLaws.{waiting-IsWaiting}
use Rattle.can_terms.specs.declared.hit.Hit.{Hit}
use Rattle.can_bus.specs.declared.offer.Offer.{Offer}
use Rattle.can_bus.specs.Course.{FallsInWindow, HitInWindows, IsCourse, Transmission, attempt_of, attempted, course_from, course_of, hits_made, keeping, left_by, over}
use Rattle.can_bus.specs.Network.{AllCountAtMost, CourseIsBorne, FieldsAreOwned, IsNetworkCall, port_tally}
use Rattle.can_bus.specs.Attempts.{AreInAttempts, AreApart, hit_of}
use Rattle.can_bus.specs.NetworkPlans.{AllInWindow, AreNoEarlier, IsNetworkPlan, network_course, offered_again, two_ports}
use Rattle.can_bus.specs.Offers.{AreOffered, offer_names_port}
use Rattle.can_bus.specs.Plans.{PlannedPort, planned, ready_port}
use Rattle.can_bus.specs.Quiet.{IsQuietPort}
use Rattle.can_bus.specs.Timed.{TimedParts, Lists, earliest, frames_of, offered_by, all_offers, offered_to, own_offers, timed}
use Rattle.can_bus.proofs.BorneHits.{few-course}
use Rattle.can_bus.proofs.CourseLaws.{course-there, frame-there}
use Rattle.can_bus.proofs.CourseTracks.{left-listed}
use Rattle.can_bus.proofs.Members.{stands-none}
use Rattle.can_bus.proofs.LeftOffers.{offered-stands}
use Rattle.can_bus.proofs.OpenNetworks.{quiet-counts, quiet-fit}
use Rattle.can_bus.proofs.OpenPlans.{all-size, own-room}
use Rattle.can_bus.proofs.PlayedRuns.{to-other}
use Rattle.can_bus.proofs.QuietPlans.{quiet-each}
use Rattle.can_bus.proofs.RepairPlans.{few-before, hit-counts, hits_before, struck-there}

-- ---- fifteen hits are tolerated

-- no more attempts are hit than there are hits
hits-few : {hits : List Hit} {number free : ℕ} {left : List TimedParts} {course : List Transmission} → IsCourse hits number free left course → hits_before hits number + hits_made course ≤ length hits
hits-few {hits} (over number free) = omega (arith, few-before hits number)
hits-few {hits} (attempted number free time f hit left course is told window rest) = omega (arith, hits-few rest, hit-counts hits number hit told (hits_made course))

pub fifteen-borne : (offers : List Offer) (ports : List PortState) (course : List Transmission) (errors : ℕ) → AllCountAtMost errors ports → errors + hits_made course ≤ 15 → CourseIsBorne offers ports course
fifteen-borne offers ports course errors most few n p at number within =
    let now = most n p at in
    let all = few-course (frames_of (own_offers offers n p)) course number errors (port_tally p) (omega (arith, now.tec), omega (arith, now.rec)) in
    record { tec = omega (arith, all.0, few); rec = omega (arith, all.1, few) }

-- ---- the call

module _ (offers : List Offer) (hits : List Hit) (plans : List PlannedPort) (is : IsNetworkPlan offers hits plans) where
  abbrev ports : List PortState
  ports = map ready_port plans

  abbrev all : List TimedParts
  all = all_offers offers ports

  quiet : (n : ℕ) (p : PortState) → slice_get ports n ≡ Some p → IsQuietPort (length all) p
  quiet = quiet-each (length all) plans (subst (λ k. All (λ plan. k ≤ plan.log_room) plans) (sym (all-size offers plans)) is.logs)

  course-made : IsCourse hits 0 0 all (network_course offers hits ports)
  course-made = course-there hits all is.windows

  pub network-made : IsNetworkCall offers hits (record { ports = ports; rest = 11 }) (network_course offers hits ports)
  network-made = record {
    two = omega (arith, is.two, length-map plans ready_port);
    most = omega (arith, is.most, length-map plans ready_port);
    rest = refl;
    offered = subst (λ n. AreOffered n offers) (sym (length-map plans ready_port)) is.offered;
    fit = λ n p at. quiet-fit (length all) p (quiet n p at);
    room = λ n p there. own-room offers (length (planned plans)) plans (omega arith) is.queues n n p there;
    owned = is.owned;
    within = is.within;
    apart = is.apart;
    is_course = course-made;
    borne = elim is.borne [
      | inl few ↦ fifteen-borne offers ports (network_course offers hits ports) 0 (quiet-counts (length all) ports quiet) (omega (arith, hits-few course-made, few))
      | inr borne ↦ borne
    ];
  }

-- ---- a frame that comes back

-- all offers are of one frame
abbrev AreOfFrame : Parts → List TimedParts → Type 0
AreOfFrame f left = (x : TimedParts) → Lists left x → x.frame ≡ f

module _ (f : Parts) (hits : List Hit) (windows : AllInWindow f hits) where
  in-window : (number : ℕ) (hit : Option ℕ) → hit_of hits number ≡ hit → FallsInWindow f hit
  in-window number None e = tt
  in-window number (Some offset) e = let at = struck-there hits number offset e in windows at.0 number offset at.1

  windows-from : (count number free : ℕ) (left : List TimedParts) → AreOfFrame f left → HitInWindows (course_from count hits number free left)
  windows-from zero number free left are = λ s made. absurd made
  windows-from (suc count) number free [] are = λ s made. absurd made
  windows-from (suc count) number free (x ∷ others) are =
      let left : List TimedParts = x ∷ others in
      let time : ℕ = max free (earliest x others) in
      let hit : Option ℕ = hit_of hits number in
      let behind : Parts → List Transmission = λ g. course_from count hits (number + 1) (time + keeping g hit) (left_by g hit left) in
      let some = frame-there free x others in
      let waits : IsWaiting (offered_by time left) some.0 = waiting-IsWaiting (offered_by time left) some.0 some.1 in
      let there = offered-stands time left some.0 (waits.place, waits.stands) in
      let same : f ≡ some.0 = sym (are there.0 there.1) ∙ there.3 in
      subst HitInWindows (sym (ap (attempt_of behind time hit) (some.1 ∙ ap Some (sym same))))
      (λ s made. elim made [
        | inl here ↦ subst (λ (z : Transmission). FallsInWindow z.frame z.hit) here (in-window number hit refl)
        | inr later ↦ windows-from count (number + 1) (time + keeping f hit) (left_by f hit left) (λ y l. are y (left-listed f hit left y l)) s later
      ])

again-at : (f : Parts) (times : List ℕ) (n : ℕ) (offer : Offer) → slice_get (offered_again f times) n ≡ Some offer →
    (t : ℕ) × (slice_get times n ≡ Some t) × (offer ≡ record { time = t; node = 0; frame = f })
again-at f [] n offer at = absurd (let h : None ≡ Some offer = at in cc)
again-at f (t ∷ times) zero offer at = (t, refl, sym (let h : Some (let x : Offer = record { time = t; node = 0; frame = f } in x) ≡ Some offer = at in cc))
again-at f (t ∷ times) (suc n) offer at = again-at f times n offer at

again-offered : (f : Parts) (times : List ℕ) → AreNoEarlier times → AreOffered 2 (offered_again f times)
again-offered f times rise place item at =
    let here = again-at f times place item at in (
      λ n last before there.
          let other = again-at f times n last there in
          let late : other.0 ≤ here.0 = rise n place other.0 here.0 (omega (arith, before)) other.1 here.1 in
          let t : item.time ≡ here.0 = ap (λ (o : Offer). o.time) here.2 in
          let u : last.time ≡ other.0 = ap (λ (o : Offer). o.time) other.2 in
          le-leb last.time item.time (omega (arith, late, t, u)),
      ap (λ (o : Offer). offer_names_port 2 o) here.2,
    )

-- nothing is offered to the other port
again-elsewhere : (f : Parts) (times : List ℕ) (node : ℕ) → offered_to (suc node) (offered_again f times) ≡ []
again-elsewhere f [] node = refl
again-elsewhere f (t ∷ times) node =
    to-other (record { time = t; node = 0; frame = f }) (offered_again f times) (suc node) (λ e. omega (arith, e)) ∙ again-elsewhere f times node

again-owned : (f : Parts) (times : List ℕ) (room : ℕ) → FieldsAreOwned (offered_again f times) (map ready_port (two_ports room))
again-owned f times room m zero p q less at there x y a b = absurd (omega (arith, less))
again-owned f times room m (suc zero) p q less at there x y a b =
    let e : ready_port (record { queue_room = room; log_room = room; frames = [] }) ≡ q = (let h : Some (ready_port (record { queue_room = room; log_room = room; frames = [] })) ≡ Some q = there in cc) in
    let none : own_offers (offered_again f times) 1 q ≡ [] =
    ap (λ r. own_offers (offered_again f times) 1 r) (sym e) ∙ again-elsewhere f times 0 in
    absurd (stands-none y (subst (λ l. Lists l y) none b))
again-owned f times room m (suc (suc n)) p q less at there x y a b = absurd (let h : None ≡ Some q = there in cc)

again-frames : (f : Parts) (times : List ℕ) → AreOfFrame f (map timed (offered_again f times))
again-frames f [] x there = absurd (stands-none x there)
again-frames f (t ∷ times) x (zero, at) = sym (ap (λ (z : TimedParts). z.frame) (let e : timed (record { time = t; node = 0; frame = f }) ≡ x = (let h : Some (timed (record { time = t; node = 0; frame = f })) ≡ Some x = at in cc) in e))
again-frames f (t ∷ times) x (suc n, at) = again-frames f times x (n, at)

pub comes-back : (f : Parts) (times : List ℕ) (hits : List Hit) → AreNoEarlier times → AreInAttempts hits → AreApart 1 hits → AllInWindow f hits → length hits ≤ 15 →
    IsNetworkPlan (offered_again f times) hits (two_ports (length times))
unfolding course_of
comes-back f times hits rise within alone windows few =
    let all : List TimedParts = all_offers (offered_again f times) (map ready_port (two_ports (length times))) in
    let size : length (offered_again f times) ≡ length times = length-map times (λ t. let x : Offer = record { time = t; node = 0; frame = f } in x) in
    record {
      two = omega arith;
      most = omega arith;
      offered = again-offered f times rise;
      queues = both-roomy (λ (plan : PlannedPort). length (planned (two_ports (length times))) + length (offered_again f times) ≤ plan.queue_room) (omega (arith, size));
      logs = both-roomy (λ (plan : PlannedPort). length (planned (two_ports (length times))) + length (offered_again f times) ≤ plan.log_room) (omega (arith, size));
      owned = again-owned f times (length times);
      within = within;
      apart = alone;
      windows = windows-from f hits windows (length all + length hits) 0 0 all (again-frames f times);
      borne = inl few;
    }
  where
    both-roomy : (P : PlannedPort → Type 0) → P (record { queue_room = length times; log_room = length times; frames = [] }) → All P (two_ports (length times))
    both-roomy P h zero d within = h
    both-roomy P h (suc zero) d within = h
    both-roomy P h (suc (suc n)) d within = absurd (omega (arith, within))
