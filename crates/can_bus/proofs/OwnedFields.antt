-- If each arbitration field belongs to one port: of each field all frames are those of its port, in the same order.
use Rattle.std.specs.Prelude.{filter, slice_get, if◌then◌else◌}
use Rattle.std.proofs.Common.{◌≡◌, ◌≢◌, ℕ, zero, suc, ◌+◌, ◌<◌, ◌⊎◌, true, false, Some, None, List, [], ◌∷◌, ◌++◌, length, map, refl, sym, ap, subst, ◌∙◌, arith, inl, inr}
use Rattle.std.proofs.Math.Dec.{eqb}
use Rattle.std.proofs.lemmas.Bool.{cases_Bool, cases_eq, cases_lt, eq-eqb}
use Rattle.std.proofs.lemmas.List.{append-nil, map-append}
use Rattle.std.proofs.lemmas.List.Elements.{filter-append}
use Rattle.can_frame.specs.Parts.{Parts}
use Rattle.can_frame.specs.Arbitration.{arbitration_field}
use Rattle.can_node.specs.Ports.{PortState, same_field}
use Rattle.can_node.proofs.WaitingLemmas.{same_field-Shares, Shares-same_field}
use Rattle.can_bus.specs.CourseWaiting.{of_field}
use Rattle.can_bus.specs.declared.offer.Offer.{Offer}
use Rattle.can_bus.specs.Network.{FieldsAreOwned}
use Rattle.can_bus.specs.Offers.{AreOffered}
use Rattle.can_bus.specs.Quiet.{holds, queued}
use Rattle.can_bus.specs.Timed.{TimedParts, Lists, frames_of, all_offers, offered_first, offered_to, own_offers, timed}
use Rattle.can_bus.proofs.Ascending.{Other}
use Rattle.can_bus.proofs.Fields.{field-skip}
use Rattle.can_bus.proofs.Members.{map-stands, stands-back, stands-cases, stands-filter, stands-front, stands-here, stands-later, stands-map, stands-none}
use Rattle.can_bus.proofs.PlayedRuns.{to-here, to-other}
use Rattle.can_bus.proofs.PortOffers.{offered-names, port_offers}
use Rattle.can_bus.proofs.QuietLogs.{holds-none, other-test}

-- an offer is one to its port
offer-stands : (offers : List Offer) (n : ℕ) (offer : Offer) → slice_get offers n ≡ Some offer → Lists (offered_to offer.node offers) (timed offer)
offer-stands offers n offer at =
    stands-map timed (filter (λ (o : Offer). eqb o.node offer.node) offers) offer
    (stands-filter (λ (o : Offer). eqb o.node offer.node) offers offer (n, at) (eq-eqb offer.node offer.node refl))

port-there : (ports : List PortState) (n : ℕ) → n < length ports → (p : PortState) × (slice_get ports n ≡ Some p)
port-there [] n within = absurd (omega (arith, within))
port-there (p ∷ ports) zero within = (p, refl)
port-there (p ∷ ports) (suc n) within = port-there ports n (omega (arith, within))

module _ (f : Parts) where
  -- none of the offers has the field of f, or one has
  abbrev pub NoneOf : List TimedParts → Type 0
  NoneOf offers = (x : TimedParts) → Lists offers x → Other f x.frame

  abbrev pub HasField : List TimedParts → Type 0
  HasField offers = (x : TimedParts) × Lists offers x × (arbitration_field f ≡ arbitration_field x.frame)

  pub field-none : (offers : List TimedParts) → NoneOf offers → of_field f offers ≡ []
  field-none [] none = refl
  field-none (x ∷ offers) none = field-skip f x offers (other-test f x.frame (none x (stands-here x offers))) ∙ field-none offers (λ y there. none y (stands-later x offers y there))

  pub field-append : (a b : List TimedParts) → of_field f (a ++ b) ≡ of_field f a ++ of_field f b
  field-append a b = filter-append (λ x. same_field f x.frame) a b

  pub field-cases : (offers : List TimedParts) → NoneOf offers ⊎ HasField offers
  field-cases [] = inl (λ x there. absurd (stands-none x there))
  field-cases (x ∷ offers) = elim (cases_Bool (same_field f x.frame)) [
    | inl same ↦ inr (x, stands-here x offers, same_field-Shares f x.frame same)
    | inr other ↦ elim (field-cases offers) [
      | inl none ↦ inl (λ y there. elim (stands-cases x offers y there) [
        | inl here ↦ (λ e. (
            let again : same_field f x.frame ≡ true = Shares-same_field f x.frame (e ∙ ap (λ (z : TimedParts). arbitration_field z.frame) (sym here)) in
            cc))
        | inr later ↦ none y later
      ])
      | inr has ↦ inr (has.0, stands-later x offers has.0 has.1, has.2)
    ]
  ]

  module _ (offers : List Offer) where
    -- ports that have none
    ports-none : (node : ℕ) (ports : List PortState) → ((n : ℕ) (p : PortState) → slice_get ports n ≡ Some p → NoneOf (own_offers offers (node + n) p)) →
        (of_field f (port_offers offers node ports) ≡ []) × (of_field f (offered_first (queued ports)) ≡ [])
    ports-none node [] none = (refl, refl)
    ports-none node (p ∷ ports) none =
        let own = own_offers offers node p in
        let here : NoneOf own = subst (λ k. NoneOf (own_offers offers k p)) (let e : node + 0 ≡ node = omega arith in e) (none 0 p refl) in
        let rest = ports-none (node + 1) ports (λ n q at. subst (λ k. NoneOf (own_offers offers k q)) (let e : node + suc n ≡ (node + 1) + n = omega arith in e) (none (suc n) q at)) in (
          field-append own (port_offers offers (node + 1) ports) ∙ ap (λ l. l ++ of_field f (port_offers offers (node + 1) ports)) (field-none own here) ∙ rest.0,
          ap (of_field f) (map-append (λ g. let x : TimedParts = record { time = 0; frame = g } in x) p.queue (queued ports))
              ∙ field-append (offered_first p.queue) (offered_first (queued ports))
              ∙ ap (λ l. l ++ of_field f (offered_first (queued ports))) (field-none (offered_first p.queue) (λ x there. here x (stands-front (offered_first p.queue) (offered_to node offers) x there)))
              ∙ rest.1,
        )

    -- if one alone may have some
    ports-one : (node : ℕ) (ports : List PortState) (m : ℕ) (p : PortState) → slice_get ports m ≡ Some p →
        ((n : ℕ) (q : PortState) → n ≢ m → slice_get ports n ≡ Some q → NoneOf (own_offers offers (node + n) q)) →
        (of_field f (port_offers offers node ports) ≡ of_field f (own_offers offers (node + m) p)) × (of_field f (offered_first (queued ports)) ≡ of_field f (offered_first p.queue))
    ports-one node [] m p at others = absurd (let h : None ≡ Some p = at in cc)
    ports-one node (x ∷ ports) zero p at others =
        let same : x ≡ p = (let h : Some x ≡ Some p = at in cc) in
        let own = own_offers offers node x in
        let rest = ports-none (node + 1) ports (λ n q there. subst (λ k. NoneOf (own_offers offers k q)) (let e : node + suc n ≡ (node + 1) + n = omega arith in e) (others (suc n) q (λ e. omega (arith, e)) there)) in (
          field-append own (port_offers offers (node + 1) ports) ∙ ap (λ l. of_field f own ++ l) rest.0 ∙ append-nil (of_field f own)
              ∙ ap (λ y. of_field f (own_offers offers node y)) same ∙ ap (λ k. of_field f (own_offers offers k p)) (let e : node ≡ node + 0 = omega arith in e),
          ap (of_field f) (map-append (λ g. let y : TimedParts = record { time = 0; frame = g } in y) x.queue (queued ports))
              ∙ field-append (offered_first x.queue) (offered_first (queued ports)) ∙ ap (λ l. of_field f (offered_first x.queue) ++ l) rest.1
              ∙ append-nil (of_field f (offered_first x.queue)) ∙ ap (λ (y : PortState). of_field f (offered_first y.queue)) same,
        )
    ports-one node (x ∷ ports) (suc m) p at others =
        let own = own_offers offers node x in
        let here : NoneOf own = subst (λ k. NoneOf (own_offers offers k x)) (let e : node + 0 ≡ node = omega arith in e) (others 0 x (λ e. omega (arith, e)) refl) in
        let rest = ports-one (node + 1) ports m p at (λ n q other there. subst (λ k. NoneOf (own_offers offers k q)) (let e : node + suc n ≡ (node + 1) + n = omega arith in e) (others (suc n) q (λ e. other (omega (arith, e))) there)) in (
          field-append own (port_offers offers (node + 1) ports) ∙ ap (λ l. l ++ of_field f (port_offers offers (node + 1) ports)) (field-none own here) ∙ rest.0
              ∙ ap (λ k. of_field f (own_offers offers k p)) (let e : (node + 1) + m ≡ node + suc m = omega arith in e),
          ap (of_field f) (map-append (λ g. let y : TimedParts = record { time = 0; frame = g } in y) x.queue (queued ports))
              ∙ field-append (offered_first x.queue) (offered_first (queued ports))
              ∙ ap (λ l. l ++ of_field f (offered_first (queued ports))) (field-none (offered_first x.queue) (λ y there. here y (stands-front (offered_first x.queue) (offered_to node offers) y there)))
              ∙ rest.1,
        )

    -- what is offered of a field, if one port alone may have it
    offers-one : (m : ℕ) (some : List Offer) → ((n : ℕ) (offer : Offer) → slice_get some n ≡ Some offer → offer.node ≢ m → Other f offer.frame) →
        of_field f (map timed some) ≡ of_field f (offered_to m some)
    offers-one m [] others = refl
    offers-one m (offer ∷ some) others =
        let rest = offers-one m some (λ n o at. others (suc n) o at) in
        elim (cases_eq offer.node m) [
          | inl here ↦ ap (λ l. if same_field f offer.frame then timed offer ∷ l else l) rest ∙ ap (of_field f) (sym (to-here offer some m here))
          | inr other ↦ field-skip f (timed offer) (map timed some) (other-test f offer.frame (others 0 offer refl other)) ∙ rest ∙ ap (of_field f) (sym (to-other offer some m other))
        ]

    owner-cases : (node : ℕ) (ports : List PortState) → ((n : ℕ) (p : PortState) → slice_get ports n ≡ Some p → NoneOf (own_offers offers (node + n) p)) ⊎
        ((m : ℕ) × (p : PortState) × (slice_get ports m ≡ Some p) × HasField (own_offers offers (node + m) p))
    owner-cases node [] = inl (λ n p at. absurd (let h : None ≡ Some p = at in cc))
    owner-cases node (x ∷ ports) = elim (field-cases (own_offers offers node x)) [
      | inr has ↦ inr (0, x, refl, subst (λ k. HasField (own_offers offers k x)) (let e : node ≡ node + 0 = omega arith in e) has)
      | inl here ↦ elim (owner-cases (node + 1) ports) [
        | inr there ↦ inr (suc there.0, there.1, there.2, subst (λ k. HasField (own_offers offers k there.1)) (let e : (node + 1) + there.0 ≡ node + suc there.0 = omega arith in e) there.3)
        | inl none ↦ inl (by-place here none)
      ]
    ]
      where
        by-place : NoneOf (own_offers offers node x) → ((n : ℕ) (p : PortState) → slice_get ports n ≡ Some p → NoneOf (own_offers offers ((node + 1) + n) p)) →
            (n : ℕ) (p : PortState) → slice_get (x ∷ ports) n ≡ Some p → NoneOf (own_offers offers (node + n) p)
        by-place here none zero p at =
            let same : x ≡ p = (let h : Some x ≡ Some p = at in cc) in
            subst (λ q. NoneOf (own_offers offers (node + 0) q)) same (subst (λ k. NoneOf (own_offers offers k x)) (let e : node ≡ node + 0 = omega arith in e) here)
        by-place here none (suc n) p at = subst (λ k. NoneOf (own_offers offers k p)) (let e : (node + 1) + n ≡ node + suc n = omega arith in e) (none n p at)

    -- of the field of f, all frames are those of all ports, one port after another
    pub start-fields : (ports : List PortState) → AreOffered (length ports) offers → FieldsAreOwned offers ports → of_field f (all_offers offers ports) ≡ of_field f (port_offers offers 0 ports)
    start-fields ports offered owned = field-append (offered_first (queued ports)) (map timed offers) ∙ elim (owner-cases 0 ports) [
      | inl none ↦
          let both = ports-none 0 ports none in
          ap (λ l. l ++ of_field f (map timed offers)) both.1
          ∙ field-none (map timed offers) (λ x there. (
          let made = map-stands timed offers x there in
          let offer = made.0 in
          let port = port-there ports offer.node (offered-names (length ports) offers offered made.1.0 offer made.1.1) in
          let own : Lists (own_offers offers offer.node port.0) (timed offer) = stands-back (offered_first port.0.queue) (offered_to offer.node offers) (timed offer) (offer-stands offers made.1.0 offer made.1.1) in
          subst (λ (y : TimedParts). Other f y.frame) made.2 (none offer.node port.0 port.1 (timed offer) (subst (λ k. Lists (own_offers offers k port.0) (timed offer)) (let e : offer.node ≡ 0 + offer.node = omega arith in e) own))))
          ∙ sym both.0
      | inr there ↦
          let m = there.0 in
          let p = there.1 in
          let has : HasField (own_offers offers m p) = subst (λ k. HasField (own_offers offers k p)) (let e : 0 + m ≡ m = omega arith in e) there.3 in
          let others : (n : ℕ) (q : PortState) → n ≢ m → slice_get ports n ≡ Some q → NoneOf (own_offers offers n q) = λ n q other at y stands e. elim (cases_lt n m) [
            | inl less ↦ owned n m q p less at there.2 y has.0 stands has.1 (sym e ∙ has.2)
            | inr more ↦ owned m n p q (omega (arith, more, other)) there.2 at has.0 y has.1 stands (sym has.2 ∙ e)
          ] in
          let both = ports-one 0 ports m p there.2 (λ n q other at. subst (λ k. NoneOf (own_offers offers k q)) (let e : n ≡ 0 + n = omega arith in e) (others n q other at)) in
          let to : of_field f (map timed offers) ≡ of_field f (offered_to m offers) = offers-one m offers (λ n offer at other. (
          let port = port-there ports offer.node (offered-names (length ports) offers offered n offer at) in
          others offer.node port.0 other port.1 (timed offer) (stands-back (offered_first port.0.queue) (offered_to offer.node offers) (timed offer) (offer-stands offers n offer at)))) in
          ap (λ l. l ++ of_field f (map timed offers)) both.1 ∙ ap (λ l. of_field f (offered_first p.queue) ++ l) to
          ∙ sym (field-append (offered_first p.queue) (offered_to m offers)) ∙ ap (λ k. of_field f (own_offers offers k p)) (let e : m ≡ 0 + m = omega arith in e) ∙ sym both.0
    ]

-- a port that holds no frame of the field
pub none-holds : (f : Parts) (own : List TimedParts) → NoneOf f own → holds (frames_of own) f ≡ false
none-holds f own none =
    holds-none f (frames_of own) (λ x has. (
    let there = map-stands (λ (y : TimedParts). y.frame) own x has in
    subst (Other f) there.2 (none there.0 there.1)))
