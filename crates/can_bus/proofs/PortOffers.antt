-- What all ports have to send, one port after another, are all frames: those that wait there, and those that are offered.
use Rattle.std.specs.Prelude.{slice_get}
use Rattle.std.specs.List.Sorted.{IsPermutation}
use Rattle.std.proofs.Common.{◌≡◌, ℕ, suc, ◌+◌, ◌<◌, ◌≤◌, Some, List, [], ◌∷◌, ◌++◌, length, map, refl, sym, ap, subst, ◌∙◌, arith, inl, inr, append_assoc}
use Rattle.std.proofs.lemmas.Bool.{cases_eq, ltb-true}
use Rattle.std.proofs.lemmas.List.{append-nil, map-append}
use Rattle.std.proofs.lemmas.List.Sorted.{IsPermutation-append_right, IsPermutation-cons, IsPermutation-middle, IsPermutation-refl, IsPermutation-sym, IsPermutation-trans}
use Rattle.can_node.specs.Ports.{PortState}
use Rattle.can_bus.specs.declared.offer.Offer.{Offer}
use Rattle.can_bus.specs.Offers.{AreOffered}
use Rattle.can_bus.specs.Quiet.{queued}
use Rattle.can_bus.specs.Timed.{TimedParts, all_offers, offered_first, offered_to, own_offers, timed}
use Rattle.can_bus.proofs.PlayedRuns.{to-here, to-other}

-- what these ports have to send, if the first has this number
abbrev pub port_offers : List Offer → ℕ → List PortState → List TimedParts
port_offers offers node [] = []
port_offers offers node (p ∷ ports) = own_offers offers node p ++ port_offers offers (node + 1) ports

-- without offers
pub no-offers : (node : ℕ) (ports : List PortState) → port_offers [] node ports ≡ offered_first (queued ports)
no-offers node [] = refl
no-offers node (p ∷ ports) =
    ap (λ own. own ++ port_offers [] (node + 1) ports) (append-nil (offered_first p.queue)) ∙ ap (λ l. offered_first p.queue ++ l) (no-offers (node + 1) ports)
    ∙ sym (map-append (λ f. let x : TimedParts = record { time = 0; frame = f } in x) p.queue (queued ports))

module _ (offer : Offer) (offers : List Offer) where
  -- an offer to a port before these
  offer-before : (node : ℕ) (ports : List PortState) → offer.node < node → port_offers (offer ∷ offers) node ports ≡ port_offers offers node ports
  offer-before node [] before = refl
  offer-before node (p ∷ ports) before =
      ap (λ own. (offered_first p.queue ++ own) ++ port_offers (offer ∷ offers) (node + 1) ports) (to-other offer offers node (λ e. omega (arith, e, before)))
      ∙ ap (λ l. own_offers offers node p ++ l) (offer-before (node + 1) ports (omega (arith, before)))

  -- and to one of these
  one-more : (node : ℕ) (ports : List PortState) → node ≤ offer.node → offer.node < node + length ports →
      IsPermutation (port_offers (offer ∷ offers) node ports) (timed offer ∷ port_offers offers node ports)
  one-more node [] from below = absurd (omega (arith, from, below))
  one-more node (p ∷ ports) from below =
      let waits = offered_first p.queue in
      let to = offered_to node offers in
      let rest = port_offers offers (node + 1) ports in
      elim (cases_eq offer.node node) [
        | inl here ↦
            let whole : port_offers (offer ∷ offers) node (p ∷ ports) ≡ waits ++ timed offer ∷ (to ++ rest) =
            ap (λ own. (waits ++ own) ++ port_offers (offer ∷ offers) (node + 1) ports) (to-here offer offers node here)
            ∙ ap (λ l. (waits ++ timed offer ∷ to) ++ l) (offer-before (node + 1) ports (omega (arith, here)))
            ∙ append_assoc waits (timed offer ∷ to) rest in
            subst (λ l. IsPermutation l (timed offer ∷ port_offers offers node (p ∷ ports))) (sym whole)
            (subst (λ l. IsPermutation (waits ++ timed offer ∷ (to ++ rest)) (timed offer ∷ l)) (sym (append_assoc waits to rest))
            (IsPermutation-middle waits (timed offer) (to ++ rest)))
        | inr other ↦
            let own = own_offers offers node p in
            let more = port_offers (offer ∷ offers) (node + 1) ports in
            let whole : port_offers (offer ∷ offers) node (p ∷ ports) ≡ own ++ more = ap (λ l. (waits ++ l) ++ more) (to-other offer offers node other) in
            subst (λ l. IsPermutation l (timed offer ∷ port_offers offers node (p ∷ ports))) (sym whole)
            (IsPermutation-trans (own ++ more) (own ++ timed offer ∷ rest) (timed offer ∷ (own ++ rest))
            (IsPermutation-append_right own more (timed offer ∷ rest) (one-more (node + 1) ports (omega (arith, from, other)) (omega (arith, below))))
            (IsPermutation-middle own (timed offer) rest))
      ]

-- each offer names one of this many ports
abbrev NamePorts : ℕ → List Offer → Type 0
NamePorts ports offers = (n : ℕ) (offer : Offer) → slice_get offers n ≡ Some offer → offer.node < ports

pub offered-names : (ports : ℕ) (offers : List Offer) → AreOffered ports offers → NamePorts ports offers
offered-names ports offers offered n offer there = ltb-true offer.node ports (offered n offer there).1

by-port : (offers : List Offer) (ports : List PortState) → NamePorts (length ports) offers → IsPermutation (port_offers offers 0 ports) (offered_first (queued ports) ++ map timed offers)
by-port [] ports named =
    subst (λ l. IsPermutation (port_offers [] 0 ports) l) (no-offers 0 ports ∙ sym (append-nil (offered_first (queued ports)))) (IsPermutation-refl (port_offers [] 0 ports))
by-port (offer ∷ offers) ports named =
    let waits = offered_first (queued ports) in
    IsPermutation-trans (port_offers (offer ∷ offers) 0 ports) (timed offer ∷ port_offers offers 0 ports) (waits ++ timed offer ∷ map timed offers)
    (one-more offer offers 0 ports (omega arith) (omega (arith, named 0 offer refl)))
    (IsPermutation-trans (timed offer ∷ port_offers offers 0 ports) (timed offer ∷ (waits ++ map timed offers)) (waits ++ timed offer ∷ map timed offers)
    (IsPermutation-cons (timed offer) (port_offers offers 0 ports) (waits ++ map timed offers) (by-port offers ports (λ n other there. named (suc n) other there)))
    (IsPermutation-sym (waits ++ timed offer ∷ map timed offers) (timed offer ∷ (waits ++ map timed offers)) (IsPermutation-middle waits (timed offer) (map timed offers))))

pub offers-by-port : (offers : List Offer) (ports : List PortState) → AreOffered (length ports) offers → IsPermutation (port_offers offers 0 ports) (all_offers offers ports)
offers-by-port offers ports offered = by-port offers ports (offered-names (length ports) offers offered)
