-- Which offers are refused, if two lists of ports have the same queues except at one port, which has space.
use Rattle.std.specs.Prelude.{if◌then◌else◌, nat_le, nat_lt}
use Rattle.std.proofs.Common.{◌≡◌, ◌≢◌, ℕ, zero, suc, ◌+◌, ◌<◌, ◌==◌, Bool, true, false, List, [], ◌∷◌, ◌++◌, length, refl, sym, ap, subst, ◌∙◌, arith, inl, inr}
use Rattle.std.proofs.lemmas.Bool.{cases_Bool, cases_eq, cond-false, cond-true, eq-eqb, ne_eqb}
use Rattle.can_frame.specs.Parts.{Parts}
use Rattle.can_node.specs.Ports.{PortState, with_offer}
use Rattle.can_node.proofs.Riding.{SameQueue}
use Rattle.can_bus.specs.declared.offer.Offer.{Offer}
use Rattle.can_bus.specs.Offers.{all_made, is_full, made, refused_at}
use Rattle.can_bus.specs.Passing.{HasRoom, made_behind}
use Rattle.can_bus.proofs.SenderRoom.{due_at, due_from, not-full, room-at, room-now, room-then}

-- the queues of all ports but that of number s are alike
abbrev pub AlikeBut : ℕ → ℕ → List PortState → List PortState → Type 0
AlikeBut s k [] [] = Unit {0}
AlikeBut s k [] (q ∷ qs) = ⊥
AlikeBut s k (p ∷ ps) [] = ⊥
AlikeBut s k (p ∷ ps) (q ∷ qs) = (k ≢ s → SameQueue p q) × AlikeBut s (k + 1) ps qs

offer-alike : (g : Parts) (p q : PortState) → SameQueue p q → SameQueue (with_offer g p) (with_offer g q)
offer-alike g p q same =
    let test : nat_lt (length p.queue) p.queue_room ≡ nat_lt (length q.queue) q.queue_room = ap (λ l. nat_lt (length l) p.queue_room) same.queue ∙ ap (nat_lt (length q.queue)) same.room in
    elim (cases_Bool (nat_lt (length q.queue) q.queue_room)) [
      | inl fits ↦
          subst (λ a. SameQueue a (with_offer g q)) (sym (cond-true (nat_lt (length p.queue) p.queue_room) _ p (test ∙ fits)))
          (subst (λ b. SameQueue (record p { queue = p.queue ++ g ∷ [] }) b) (sym (cond-true (nat_lt (length q.queue) q.queue_room) _ q fits)) (record { queue = ap (λ l. l ++ g ∷ []) same.queue; room = same.room }))
      | inr full ↦
          subst (λ a. SameQueue a (with_offer g q)) (sym (cond-false (nat_lt (length p.queue) p.queue_room) _ p (test ∙ full)))
          (subst (λ b. SameQueue p b) (sym (cond-false (nat_lt (length q.queue) q.queue_room) _ q full)) same)
    ]

module _ (s : ℕ) where
  made-alike : (offer : Offer) (k : ℕ) (ps qs : List PortState) → AlikeBut s k ps qs → AlikeBut s k (made offer k ps) (made offer k qs)
  made-alike offer k [] [] alike = tt
  made-alike offer k [] (q ∷ qs) alike = alike
  made-alike offer k (p ∷ ps) [] alike = alike
  made-alike offer k (p ∷ ps) (q ∷ qs) alike = (here (offer.node == k) (λ e. alike.0 e), made-alike offer (k + 1) ps qs alike.1)
    where
      here : (b : Bool) → (k ≢ s → SameQueue p q) → k ≢ s → SameQueue (if b then with_offer offer.frame p else p) (if b then with_offer offer.frame q else q)
      here true same other = offer-alike offer.frame p q (same other)
      here false same other = same other

  full-alike : (node k j : ℕ) (ps qs : List PortState) → node ≡ k + j → node ≢ s → AlikeBut s k ps qs → is_full j ps ≡ is_full j qs
  full-alike node k j [] [] at other alike = refl
  full-alike node k j [] (q ∷ qs) at other alike = absurd alike
  full-alike node k j (p ∷ ps) [] at other alike = absurd alike
  full-alike node k zero (p ∷ ps) (q ∷ qs) at other alike =
      let same = alike.0 (λ e. other (omega (arith, at, e))) in
      ap (λ l. nat_le p.queue_room (length l)) same.queue ∙ ap (λ r. nat_le r (length q.queue)) same.room
  full-alike node k (suc j) (p ∷ ps) (q ∷ qs) at other alike = full-alike node (k + 1) j ps qs (omega (arith, at)) other alike.1

  -- at port s there is space
  same-full : (node : ℕ) (ps qs : List PortState) → (node ≡ s → HasRoom s 1 0 ps) → (node ≡ s → HasRoom s 1 0 qs) → AlikeBut s 0 ps qs → is_full node ps ≡ is_full node qs
  same-full node ps qs fits_ps fits_qs alike = elim (cases_eq node s) [
    | inl own ↦ not-full s node 0 ps (omega (arith, own)) (fits_ps own) ∙ sym (not-full s node 0 qs (omega (arith, own)) (fits_qs own))
    | inr other ↦ full-alike node 0 node ps qs (omega arith) other alike
  ]

  pub refused-alike : (offers : List Offer) (t n : ℕ) (ps qs : List PortState) → HasRoom s (due_at s t offers + n) 0 ps → HasRoom s (due_at s t offers + n) 0 qs → AlikeBut s 0 ps qs →
      (refused_at offers t ps ≡ refused_at offers t qs) × AlikeBut s 0 (all_made offers t ps) (all_made offers t qs)
  refused-alike [] t n ps qs fits_ps fits_qs alike = (refl, alike)
  refused-alike (offer ∷ offers) t n ps qs fits_ps fits_qs alike = elim (cases_eq offer.time t) [
    | inl now ↦
        let test = eq-eqb offer.time t now in
        let next_ps = room-now s offer offers t n ps now fits_ps in
        let next_qs = room-now s offer offers t n qs now fits_qs in
        let rest = refused-alike offers t n (made offer 0 ps) (made offer 0 qs) next_ps.1 next_qs.1 (made-alike offer 0 ps qs alike) in
        let full = same-full offer.node ps qs next_ps.0 next_qs.0 alike in
        let more : (List PortState → ℕ) = λ rs. (if is_full offer.node rs then 1 else 0) + refused_at offers t (made offer 0 rs) in (
          cond-true (offer.time == t) (more ps) (refused_at offers t ps) test
              ∙ ap (λ b. (if b then 1 else 0) + refused_at offers t (made offer 0 ps)) full
              ∙ ap (λ n. (if is_full offer.node qs then 1 else 0) + n) rest.0
              ∙ sym (cond-true (offer.time == t) (more qs) (refused_at offers t qs) test),
          subst (λ a. AlikeBut s 0 (all_made offers t a) (all_made offers t (if offer.time == t then made offer 0 qs else qs))) (sym (cond-true (offer.time == t) (made offer 0 ps) ps test))
              (subst (λ a. AlikeBut s 0 (all_made offers t (made offer 0 ps)) (all_made offers t a)) (sym (cond-true (offer.time == t) (made offer 0 qs) qs test)) rest.1),
        )
    | inr other ↦
        let test = ne_eqb offer.time t other in
        let rest = refused-alike offers t n ps qs (room-then s offer offers t n ps fits_ps) (room-then s offer offers t n qs fits_qs) alike in
        let more : (List PortState → ℕ) = λ rs. (if is_full offer.node rs then 1 else 0) + refused_at offers t (made offer 0 rs) in (
          cond-false (offer.time == t) (more ps) (refused_at offers t ps) test ∙ rest.0 ∙ sym (cond-false (offer.time == t) (more qs) (refused_at offers t qs) test),
          subst (λ a. AlikeBut s 0 (all_made offers t a) (all_made offers t (if offer.time == t then made offer 0 qs else qs))) (sym (cond-false (offer.time == t) (made offer 0 ps) ps test))
              (subst (λ a. AlikeBut s 0 (all_made offers t ps) (all_made offers t a)) (sym (cond-false (offer.time == t) (made offer 0 qs) qs test)) rest.1),
        )
  ]

  pub behind-alike : (offers : List Offer) (i n end : ℕ) (ps qs : List PortState) → i + n < end → HasRoom s (due_from s (i + 1) end offers) 0 ps → HasRoom s (due_from s (i + 1) end offers) 0 qs →
      AlikeBut s 0 ps qs → AlikeBut s 0 (made_behind offers i n ps) (made_behind offers i n qs)
  behind-alike offers i zero end ps qs early fits_ps fits_qs alike = alike
  behind-alike offers i (suc n) end ps qs early fits_ps fits_qs alike =
      (refused-alike offers (i + suc n) (due_from s (i + suc n + 1) end offers) (made_behind offers i n ps) (made_behind offers i n qs) (room-at s offers i n end ps early fits_ps) (room-at s offers i n end qs early fits_qs)
      (behind-alike offers i n end ps qs (omega (arith, early)) fits_ps fits_qs alike)).1

  pub alike-self : (k : ℕ) (ps : List PortState) → AlikeBut s k ps ps
  alike-self k [] = tt
  alike-self k (p ∷ ps) = ((λ other. record { queue = refl; room = refl }), alike-self (k + 1) ps)

  pub alike-then : (k : ℕ) (ps qs rs : List PortState) → AlikeBut s k ps qs → AlikeBut s k qs rs → AlikeBut s k ps rs
  alike-then k [] [] [] a b = tt
  alike-then k [] [] (r ∷ rs) a b = b
  alike-then k [] (q ∷ qs) rs a b = absurd a
  alike-then k (p ∷ ps) [] rs a b = absurd a
  alike-then k (p ∷ ps) (q ∷ qs) [] a b = b
  alike-then k (p ∷ ps) (q ∷ qs) (r ∷ rs) a b =
      ((λ other. record { queue = (a.0 other).queue ∙ (b.0 other).queue; room = (a.0 other).room ∙ (b.0 other).room }), alike-then (k + 1) ps qs rs a.1 b.1)

  pub alike-back : (k : ℕ) (ps qs : List PortState) → AlikeBut s k ps qs → AlikeBut s k qs ps
  alike-back k [] [] a = tt
  alike-back k [] (q ∷ qs) a = a
  alike-back k (p ∷ ps) [] a = a
  alike-back k (p ∷ ps) (q ∷ qs) a = ((λ other. record { queue = sym (a.0 other).queue; room = sym (a.0 other).room }), alike-back (k + 1) ps qs a.1)
