-- Offers to the port that sends a frame: its queue has capacity for all that are due before the frame's end.
use Rattle.std.specs.Prelude.{if◌then◌else◌, nat_lt, slice_get}
use Rattle.std.proofs.Common.{◌≡◌, ◌≢◌, ℕ, zero, suc, ◌+◌, ◌<◌, ◌≤◌, ◌==◌, Bool, true, false, Some, List, [], ◌∷◌, ◌++◌, drop, length, map, refl, sym, ap, subst, ◌∙◌, arith, inl, inr}
use Rattle.std.proofs.lemmas.Bool.{cases_eq, cases_order, cond-false, cond-true, cond_both, eq-eqb, lt-ltb, le-ltb, ne_eqb}
use Rattle.std.proofs.lemmas.Bool.Decides.{nat_tests}
use Rattle.std.proofs.lemmas.List.{length-append}
use Rattle.can_frame.specs.declared.level.Level.{Level}
use Rattle.can_frame.specs.Parts.{Parts}
use Rattle.can_node.specs.Ports.{PortState, IsPort, port_offered, port_run, with_offer}
use Rattle.can_node.proofs.Riding.{run-no-longer, step-no-longer}
use Rattle.can_bus.specs.declared.offer.Offer.{Offer}
use Rattle.can_bus.specs.Offers.{all_made, is_full, made}
use Rattle.can_bus.specs.Passing.{HasRoom, due_before, made_behind}
use Rattle.can_bus.proofs.Contests.{AllPorts}
use Rattle.can_bus.proofs.HitRuns.{sees}

-- ---- how many are due

-- one that is made, as far as it is to this port
abbrev one : Bool → Bool → ℕ
one true true = 1
one true false = 0
one false own = 0

-- to the port of number s, at time t
abbrev pub due_at : ℕ → ℕ → List Offer → ℕ
due_at s t [] = 0
due_at s t (offer ∷ offers) = one (offer.time == t) (offer.node == s) + due_at s t offers

-- and from time b on, before an end
abbrev pub due_from : ℕ → ℕ → ℕ → List Offer → ℕ
due_from s b end [] = 0
due_from s b end (offer ∷ offers) = (if nat_lt offer.time b then 0 else one (nat_lt offer.time end) (offer.node == s)) + due_from s b end offers

module _ (s end : ℕ) where
  one-next : (offer : Offer) (t : ℕ) → t < end →
      (if nat_lt offer.time t then 0 else one (nat_lt offer.time end) (offer.node == s))
      ≡ one (offer.time == t) (offer.node == s) + (if nat_lt offer.time (t + 1) then 0 else one (nat_lt offer.time end) (offer.node == s))
  one-next offer t within = elim (cases_order offer.time t) [
    | inl same ↦
        let past : nat_lt offer.time t ≡ false = grind (arith, nat_tests) in
        let now : (offer.time == t) ≡ true = grind (arith, nat_tests) in
        let next : nat_lt offer.time (t + 1) ≡ true = grind (arith, nat_tests) in
        let ends : nat_lt offer.time end ≡ true = grind (arith, nat_tests) in
        rw past (rw now (rw next (rw ends (omega arith))))
    | inr (inl before) ↦
        let past : nat_lt offer.time t ≡ true = grind (arith, nat_tests) in
        let now : (offer.time == t) ≡ false = grind (arith, nat_tests) in
        let next : nat_lt offer.time (t + 1) ≡ true = grind (arith, nat_tests) in
        rw past (rw now (rw next refl))
    | inr (inr after) ↦
        let past : nat_lt offer.time t ≡ false = grind (arith, nat_tests) in
        let now : (offer.time == t) ≡ false = grind (arith, nat_tests) in
        let next : nat_lt offer.time (t + 1) ≡ false = grind (arith, nat_tests) in
        rw past (rw now (rw next (omega arith)))
  ]

  pub due-next : (offers : List Offer) (t : ℕ) → t < end → due_from s t end offers ≡ due_at s t offers + due_from s (t + 1) end offers
  due-next [] t within = refl
  due-next (offer ∷ offers) t within =
      let first = one-next offer t within in
      let others = due-next offers t within in
      omega (arith, first, others)

  -- of a sorted list, those from a place on
  one-due : (offer : Offer) (b : ℕ) → (if nat_lt offer.time b then 0 else one (nat_lt offer.time end) (offer.node == s)) ≤ (if offer.node == s then (if nat_lt offer.time end then 1 else 0) else 0)
  one-due offer b = by_tests (nat_lt offer.time b) (nat_lt offer.time end) (offer.node == s)
    where
      by_tests : (past ends own : Bool) → (if past then 0 else one ends own) ≤ (if own then (if ends then 1 else 0) else 0)
      by_tests true ends own = omega arith
      by_tests false true true = omega arith
      by_tests false true false = omega arith
      by_tests false false true = omega arith
      by_tests false false false = omega arith

  pub due-ahead : (offers : List Offer) (place b : ℕ) → ((n : ℕ) (offer : Offer) → n < place → slice_get offers n ≡ Some offer → offer.time < b) → due_from s b end offers ≤ due_before s end (drop place offers)
  due-ahead [] zero b passed = omega arith
  due-ahead [] (suc place) b passed = omega arith
  due-ahead (offer ∷ offers) zero b passed =
      let first = one-due offer b in
      let others = due-ahead offers zero b (λ n o less. absurd (omega (arith, less))) in
      omega (arith, first, others)
  due-ahead (offer ∷ offers) (suc place) b passed =
      let early : offer.time < b = passed 0 offer (omega arith) refl in
      let past : nat_lt offer.time b ≡ true = lt-ltb offer.time b early in
      let first : (if nat_lt offer.time b then 0 else one (nat_lt offer.time end) (offer.node == s)) ≡ 0 = rw past refl in
      let others = due-ahead offers place b (λ n o less at. passed (suc n) o (omega (arith, less)) at) in
      omega (arith, first, others)

  -- none from a late one on
  pub none-due : (offers : List Offer) (next : ℕ) → ((n : ℕ) (offer : Offer) → next ≤ n → slice_get offers n ≡ Some offer → end ≤ offer.time) → due_before s end (drop next offers) ≡ 0
  none-due [] zero late = refl
  none-due [] (suc next) late = refl
  none-due (offer ∷ offers) zero late =
      let past : end ≤ offer.time = late 0 offer (omega arith) refl in
      let test : nat_lt offer.time end ≡ false = le-ltb offer.time end past in
      let first : ◌≡◌ {A = ℕ} (if offer.node == s then (if nat_lt offer.time end then 1 else 0) else 0) 0 = rw test (never (offer.node == s)) in
      let others = none-due offers zero (λ n o from at. late (suc n) o (omega arith) at) in
      omega (arith, first, others)
    where
      never : (own : Bool) → ◌≡◌ {A = ℕ} (if own then (if false then 1 else 0) else 0) 0
      never true = refl
      never false = refl
  none-due (offer ∷ offers) (suc next) late = none-due offers next (λ n o from at. late (suc n) o (omega (arith, from)) at)

-- ---- space

pub room-less : (s n m k : ℕ) (ports : List PortState) → m ≤ n → HasRoom s n k ports → HasRoom s m k ports
room-less s n m k [] less room = tt
room-less s n m k (p ∷ ports) less room = ((λ here. let fits : length p.queue + n ≤ p.queue_room = room.0 here in omega (arith, fits, less)), room-less s n m (k + 1) ports less room.1)

-- a port is as it was, or one frame more waits
offer-room : (g : Parts) (n : ℕ) (p : PortState) → length p.queue + (1 + n) ≤ p.queue_room → length (with_offer g p).queue + n ≤ (with_offer g p).queue_room
offer-room g n p fits =
    cond_both {A = PortState} (nat_lt (length p.queue) p.queue_room) (port_offered g p) p (λ q. length q.queue + n ≤ q.queue_room)
    (λ e. let more : length (p.queue ++ g ∷ []) ≡ length p.queue + 1 = length-append p.queue (g ∷ []) in omega (arith, more, fits)) (λ e. omega (arith, fits))

module _ (s : ℕ) where
  made-room : (offer : Offer) (n k : ℕ) (ports : List PortState) → HasRoom s (1 + n) k ports → HasRoom s n k (made offer k ports)
  made-room offer n k [] room = tt
  made-room offer n k (p ∷ ports) room = (
    λ here. cond_both {A = PortState} (offer.node == k) (with_offer offer.frame p) p (λ q. length q.queue + n ≤ q.queue_room)
        (λ e. offer-room offer.frame n p (room.0 here)) (λ e. let fits : length p.queue + (1 + n) ≤ p.queue_room = room.0 here in omega (arith, fits)),
    made-room offer n (k + 1) ports room.1,
  )

  made-elsewhere : (offer : Offer) (n k : ℕ) (ports : List PortState) → offer.node ≢ s → HasRoom s n k ports → HasRoom s n k (made offer k ports)
  made-elsewhere offer n k [] other room = tt
  made-elsewhere offer n k (p ∷ ports) other room = (
    λ here. subst (λ (q : PortState). length q.queue + n ≤ q.queue_room) (sym (cond-false (offer.node == k) (with_offer offer.frame p) p (ne_eqb offer.node k (λ e. other (e ∙ here))))) (room.0 here),
    made-elsewhere offer n (k + 1) ports other room.1,
  )

  -- the first of several offers, at this time
  pub room-now : (offer : Offer) (offers : List Offer) (t n : ℕ) (ports : List PortState) → offer.time ≡ t → HasRoom s (due_at s t (offer ∷ offers) + n) 0 ports →
      (offer.node ≡ s → HasRoom s 1 0 ports) × HasRoom s (due_at s t offers + n) 0 (made offer 0 ports)
  room-now offer offers t n ports now room = elim (cases_eq offer.node s) [
    | inl own ↦
        let count : due_at s t (offer ∷ offers) + n ≡ 1 + (due_at s t offers + n) =
        let time : (offer.time == t) ≡ true = eq-eqb offer.time t now in
        let node : (offer.node == s) ≡ true = eq-eqb offer.node s own in
        rw time (rw node (omega arith)) in
        ((λ e. room-less s (due_at s t (offer ∷ offers) + n) 1 0 ports (omega (arith, count)) room), made-room offer (due_at s t offers + n) 0 ports (subst (λ m. HasRoom s m 0 ports) count room))
    | inr other ↦
        ((λ own. absurd (other own)), made-elsewhere offer (due_at s t offers + n) 0 ports other (room-less s (due_at s t (offer ∷ offers) + n) (due_at s t offers + n) 0 ports (omega arith) room))
  ]

  -- and at another
  pub room-then : (offer : Offer) (offers : List Offer) (t n : ℕ) (ports : List PortState) → HasRoom s (due_at s t (offer ∷ offers) + n) 0 ports → HasRoom s (due_at s t offers + n) 0 ports
  room-then offer offers t n ports room = room-less s (due_at s t (offer ∷ offers) + n) (due_at s t offers + n) 0 ports (omega arith) room

  pub all-made-room : (offers : List Offer) (t n : ℕ) (ports : List PortState) → HasRoom s (due_at s t offers + n) 0 ports → HasRoom s n 0 (all_made offers t ports)
  all-made-room [] t n ports room = subst (λ m. HasRoom s m 0 ports) (let e : 0 + n ≡ n = omega arith in e) room
  all-made-room (offer ∷ offers) t n ports room = elim (cases_eq offer.time t) [
    | inl now ↦
        subst (λ ps. HasRoom s n 0 (all_made offers t ps)) (sym (cond-true (offer.time == t) (made offer 0 ports) ports (eq-eqb offer.time t now))) (all-made-room offers t n (made offer 0 ports) (room-now offer offers t n ports now room).1)
    | inr other ↦
        subst (λ ps. HasRoom s n 0 (all_made offers t ps)) (sym (cond-false (offer.time == t) (made offer 0 ports) ports (ne_eqb offer.time t other))) (all-made-room offers t n ports (room-then offer offers t n ports room))
  ]

  -- those of one more time
  due-split : (offers : List Offer) (i n end : ℕ) (ports : List PortState) → i + suc n < end → HasRoom s (due_from s (i + n + 1) end offers) 0 ports → HasRoom s (due_at s (i + suc n) offers + due_from s (i + suc n + 1) end offers) 0 ports
  due-split offers i n end ports within room =
      let next : i + n + 1 ≡ i + suc n = omega arith in
      subst (λ m. HasRoom s m 0 ports) (ap (λ b. due_from s b end offers) next ∙ due-next s end offers (i + suc n) within) room

  -- the offers of several times
  pub behind-room : (offers : List Offer) (i n end : ℕ) (ports : List PortState) → i + n < end → HasRoom s (due_from s (i + 1) end offers) 0 ports → HasRoom s (due_from s (i + n + 1) end offers) 0 (made_behind offers i n ports)
  behind-room offers i zero end ports within room = subst (λ b. HasRoom s (due_from s b end offers) 0 ports) (let e : i + 1 ≡ i + 0 + 1 = omega arith in e) room
  behind-room offers i (suc n) end ports within room =
      all-made-room offers (i + suc n) (due_from s (i + suc n + 1) end offers) (made_behind offers i n ports)
      (due-split offers i n end (made_behind offers i n ports) within (behind-room offers i n end ports (omega (arith, within)) room))

  -- as those of one of these times are made
  pub room-at : (offers : List Offer) (i n end : ℕ) (ports : List PortState) → i + suc n < end → HasRoom s (due_from s (i + 1) end offers) 0 ports →
      HasRoom s (due_at s (i + suc n) offers + due_from s (i + suc n + 1) end offers) 0 (made_behind offers i n ports)
  room-at offers i n end ports within room = due-split offers i n end (made_behind offers i n ports) within (behind-room offers i n end ports (omega (arith, within)) room)

  -- levels make no queue longer
  pub seen-room : (n k : ℕ) (x : Level) (ports : List PortState) → HasRoom s n k ports → HasRoom s n k (map (sees x) ports)
  seen-room n k x [] room = tt
  seen-room n k x (p ∷ ports) room =
      let less = step-no-longer p x in
      ((λ here. let fits : length p.queue + n ≤ p.queue_room = room.0 here in omega (arith, fits, less.shorter, less.room)), seen-room n (k + 1) x ports room.1)

  pub run-room : (n k : ℕ) (levels : List Level) (ports : List PortState) → HasRoom s n k ports → HasRoom s n k (map (λ p. port_run p levels) ports)
  run-room n k levels [] room = tt
  run-room n k levels (p ∷ ports) room =
      let less = run-no-longer levels p in
      ((λ here. let fits : length p.queue + n ≤ p.queue_room = room.0 here in omega (arith, fits, less.shorter, less.room)), run-room n (k + 1) levels ports room.1)

  -- no offer is refused if there is space
  pub not-full : (j k : ℕ) (ports : List PortState) → k + j ≡ s → HasRoom s 1 k ports → is_full j ports ≡ false
  not-full j k [] at room = refl
  not-full zero k (p ∷ ports) at room = let fits : length p.queue + 1 ≤ p.queue_room = room.0 (omega (arith, at)) in grind (arith, nat_tests)
  not-full (suc j) k (p ∷ ports) at room = not-full j (k + 1) ports (omega (arith, at)) room.1

-- ---- at the ports of a bus

-- for none there always is
pub valid-room : (s k : ℕ) (ports : List PortState) → AllPorts IsPort ports → HasRoom s 0 k ports
valid-room s k [] valid = tt
valid-room s k (p ∷ ports) valid = ((λ here. let fits = valid.0.queue_fits in omega (arith, fits)), valid-room s (k + 1) ports valid.1)

-- one port alone matters
pub place-room : (s n k j : ℕ) (ports : List PortState) (p : PortState) → k + j ≡ s → slice_get ports j ≡ Some p → length p.queue + n ≤ p.queue_room → HasRoom s n k ports
place-room s n k j [] p at there fits = tt
place-room s n k zero (q ∷ ports) p at there fits =
    let same : q ≡ p = cc in
    ((λ here. subst (λ (r : PortState). length r.queue + n ≤ r.queue_room) (sym same) fits), later (k + 1) ports (omega (arith, at)))
  where
    later : (m : ℕ) (rest : List PortState) → s < m → HasRoom s n m rest
    later m [] past = tt
    later m (r ∷ rest) past = ((λ here. absurd (omega (arith, here, past))), later (m + 1) rest (omega (arith, past)))
place-room s n k (suc j) (q ∷ ports) p at there fits = ((λ here. absurd (omega (arith, here, at))), place-room s n (k + 1) j ports p (omega (arith, at)) there fits)
