-- Calls that follow one another: no bit time changes the capacities of a port; and what is required of the next call, after the last
-- attempt of the one before.
use Rattle.std.specs.Prelude.{slice_get, option_map}
use Rattle.std.proofs.Common.{◌≡◌, ℕ, zero, suc, ◌+◌, Some, List, [], ◌∷◌, ◌++◌, length, map, take, get_or, refl, sym, ap, subst, ◌∙◌, arith}
use Rattle.std.proofs.lemmas.Bool.{cond_both}
use Rattle.std.proofs.lemmas.List.{length-append, length-map, take_all}
use Rattle.std.proofs.lemmas.Option.{slice_get-get_or, slice_get-map, slice_get_within}
use Rattle.can_frame.specs.declared.level.Level.{Level}
use Rattle.can_node.specs.Ports.{PortState, with_offer, port_offered, port_step}
use Rattle.can_terms.specs.declared.hit.Hit.{Hit}
use Rattle.can_bus.specs.declared.offer.Offer.{Offer}
use Rattle.can_bus.specs.Course.{IsCourse, Transmission, course_tally, frames_sent}
use Rattle.can_bus.specs.Network.{IsFreeAgain, IsNetworkCall, IsNextCall, NetworkLogWhole, NetworkTally, RestsAgain, port_tally}
use Rattle.can_bus.specs.Offers.{call_after, AreOffered, all_made, made}
use Rattle.can_bus.specs.Quiet.{AtEachNode, marked, queued}
use Rattle.can_bus.specs.Attempts.{IsLow}
use Rattle.can_bus.specs.Run.{BusState, all_sampled, bus_step}
use Rattle.can_bus.specs.Timed.{Lists, frames_of, all_offers, offered_first, offered_to, own_offers, timed}
use Rattle.can_bus.proofs.PlayedRuns.{step-fits}

-- ---- the rooms of a port

abbrev pub rooms_of : PortState → ℕ × ℕ
rooms_of p = (p.queue_room, p.log_room)

step-rooms : (p : PortState) (x : Level) → rooms_of (port_step p x) ≡ rooms_of p
step-rooms p x =
    let fits = step-fits p x in
    ap (λ (n : ℕ). let r : ℕ × ℕ = (n, (port_step p x).log_room) in r) fits.room ∙ ap (λ (n : ℕ). let r : ℕ × ℕ = (p.queue_room, n) in r) fits.log_room

sampled-rooms : (hits : List Hit) (time : ℕ) (x : Level) (number : ℕ) (ports : List PortState) → map rooms_of (all_sampled hits time x number ports) ≡ map rooms_of ports
sampled-rooms hits time x number [] = refl
sampled-rooms hits time x number (p ∷ ports) =
    ap (λ r. r ∷ map rooms_of (all_sampled hits time x (number + 1) ports)) (step-rooms p _) ∙ ap (λ rs. rooms_of p ∷ rs) (sampled-rooms hits time x (number + 1) ports)

made-rooms : (offer : Offer) (number : ℕ) (ports : List PortState) → map rooms_of (made offer number ports) ≡ map rooms_of ports
made-rooms offer number [] = refl
made-rooms offer number (p ∷ ports) =
    ap (λ r. r ∷ map rooms_of (made offer (number + 1) ports))
    (cond_both {A = PortState} _ (with_offer offer.frame p) p (λ q. rooms_of q ≡ rooms_of p)
    (λ e. cond_both {A = PortState} _ (port_offered offer.frame p) p (λ q. rooms_of q ≡ rooms_of p) (λ fits. refl) (λ full. refl)) (λ e. refl))
    ∙ ap (λ rs. rooms_of p ∷ rs) (made-rooms offer (number + 1) ports)

all_made-rooms : (offers : List Offer) (t : ℕ) (ports : List PortState) → map rooms_of (all_made offers t ports) ≡ map rooms_of ports
all_made-rooms [] t ports = refl
all_made-rooms (offer ∷ offers) t ports =
    all_made-rooms offers t _
    ∙ cond_both {A = List PortState} _ (made offer 0 ports) ports (λ ps. map rooms_of ps ≡ map rooms_of ports) (λ e. made-rooms offer 0 ports) (λ e. refl)

pub call-rooms : (offers : List Offer) (hits : List Hit) (n : ℕ) (bus : BusState) → map rooms_of (call_after offers hits n bus).bus.ports ≡ map rooms_of bus.ports
unfolding call_after bus_step
call-rooms offers hits zero bus = refl
call-rooms offers hits (suc n) bus =
    let before = call_after offers hits n bus in
    sampled-rooms hits before.time _ 0 (all_made offers before.time before.bus.ports) ∙ all_made-rooms offers before.time before.bus.ports ∙ call-rooms offers hits n bus

pub room-at : (before after : List PortState) → map rooms_of after ≡ map rooms_of before → (n : ℕ) (p q : PortState) → slice_get before n ≡ Some p → slice_get after n ≡ Some q → rooms_of q ≡ rooms_of p
room-at before after same n p q was is =
    let e : Some (rooms_of q) ≡ Some (rooms_of p) =
    sym (slice_get-map rooms_of after n ∙ ap (option_map rooms_of) is) ∙ ap (λ rs. slice_get rs n) same ∙ slice_get-map rooms_of before n ∙ ap (option_map rooms_of) was in
    cc

-- ---- the next call

none-queued : (ports : List PortState) → ((n : ℕ) (q : PortState) → slice_get ports n ≡ Some q → q.queue ≡ []) → queued ports ≡ []
none-queued [] none = refl
none-queued (p ∷ ports) none = ap (λ l. l ++ queued ports) (none 0 p refl) ∙ none-queued ports (λ n q at. none (suc n) q at)

module _ (offers next : List Offer) (hits struck : List Hit) (before after : BusState) (course behind : List Transmission)
    (call : IsNetworkCall offers hits before course) (free : RestsAgain before after)
    (logs : AtEachNode (NetworkLogWhole offers course) before.ports after.ports) (tallies : AtEachNode (NetworkTally offers course) before.ports after.ports)
    (is : IsNextCall offers course before.ports next struck behind) where
  -- a port as it was
  port-before : (n : ℕ) (q : PortState) → slice_get after.ports n ≡ Some q → (p : PortState) × (slice_get before.ports n ≡ Some p)
  port-before n q at = (get_or before.ports n q, slice_get-get_or before.ports n q (omega (arith, free.count, slice_get_within after.ports n q at)))

  empty-at : (n : ℕ) (q : PortState) → slice_get after.ports n ≡ Some q → q.queue ≡ []
  empty-at n q at = let was = port-before n q at in (free.ports n was.0 q was.1 at).empty

  all-next : all_offers next after.ports ≡ map timed next
  all-next = ap (λ queue. offered_first queue ++ map timed next) (none-queued after.ports empty-at)

  own-next : (n : ℕ) (q : PortState) → slice_get after.ports n ≡ Some q → own_offers next n q ≡ offered_to n next
  own-next n q at = ap (λ queue. offered_first queue ++ offered_to n next) (empty-at n q at)

  counters-at : (n : ℕ) (p q : PortState) → slice_get before.ports n ≡ Some p → slice_get after.ports n ≡ Some q → port_tally q ≡ course_tally (frames_of (own_offers offers n p)) course (port_tally p)
  counters-at n p q was at = tallies n p q was at

  pub next-network : IsNetworkCall next struck after behind
  next-network = record {
    two = omega (arith, call.two, free.count);
    most = omega (arith, call.most, free.count);
    rest = free.rest;
    offered = subst (λ n. AreOffered n next) (sym free.count) is.offered;
    fit = λ n q at.
        let was = port-before n q at in
        let p = was.0 in
        let done : IsFreeAgain p q = free.ports n p q was.1 at in
        let log : length q.log ≡ length p.log + length (frames_sent course) =
        ap length (logs n p q was.1 at) ∙ length-append p.log (marked (frames_of (own_offers offers n p)) (frames_sent course)) ∙ ap (λ k. length p.log + k) (length-map (frames_sent course) _) in
        let size : length (all_offers next after.ports) ≡ length next = ap length all-next ∙ length-map next timed in
        record {
          idle = done.idle;
          low = subst IsLow (sym (counters-at n p q was.1 at))
              (subst (λ some. IsLow (course_tally (frames_of (own_offers offers n p)) some (port_tally p))) (take_all (length course) course (omega arith))
              (call.borne n p was.1 (length course) (omega arith)));
          unasked = done.unasked;
          room = omega (arith, log, size, done.log_room, is.logs n p was.1);
        };
    room = λ n q at.
        let was = port-before n q at in
        let done : IsFreeAgain was.0 q = free.ports n was.0 q was.1 at in
        omega (arith, ap length (own-next n q at), done.queue_room, is.room n was.0 was.1);
    owned = λ m n p q less at there x y a b.
        is.owned m n less x y (subst (λ l. Lists l x) (own-next m p at) a) (subst (λ l. Lists l y) (own-next n q there) b);
    within = is.within;
    apart = is.apart;
    is_course = subst (λ all. IsCourse struck 0 0 all behind) (sym all-next) is.is_course;
    borne = λ n q at number within.
        let was = port-before n q at in
        subst (λ own. IsLow (course_tally (frames_of own) (take number behind) (port_tally q))) (sym (own-next n q at))
        (subst (λ t. IsLow (course_tally (frames_of (offered_to n next)) (take number behind) t)) (sym (counters-at n was.0 q was.1 at)) (is.borne n was.0 was.1 number within));
  }
