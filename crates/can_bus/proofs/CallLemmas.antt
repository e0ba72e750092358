-- Several bit times of a call with offers and hits, before the first of which alone offers are made; and a call without offers.
use Rattle.std.proofs.Common.{◌≡◌, ℕ, zero, suc, ◌+◌, ◌<◌, ◌≤◌, List, [], refl, sym, ap, ◌∙◌, arith}
use Rattle.can_node.specs.Ports.{PortState}
use Rattle.can_terms.specs.declared.hit.Hit.{Hit}
use Rattle.can_bus.specs.declared.offer.Offer.{Offer}
use Rattle.can_bus.specs.Offers.{all_made, call_after, call_level, call_refused, offered_now, refused_at}
use Rattle.can_bus.specs.Run.{BusState, CallState, bus_after, bus_level, bus_run, bus_step, call_begun, recorded}

module _ (offers : List Offer) (hits : List Hit) (bus : BusState) where
  pub call-time : (n : ℕ) → (call_after offers hits n bus).time ≡ n
  unfolding call_after bus_step
  call-time zero = refl
  call-time (suc n) = omega (arith, call-time n)

  pub call-none : call_after offers hits 0 bus ≡ call_begun bus
  unfolding call_after
  call-none = refl

  pub refused-none : 0 ≡ call_refused offers hits 0 bus
  unfolding call_refused
  refused-none = refl

  module _ (i count : ℕ) (start : CallState) (made : start ≡ offered_now offers (call_after offers hits i bus))
      (none : (t : ℕ) (ports : List PortState) → i < t → t < i + count → (all_made offers t ports ≡ ports) × (refused_at offers t ports ≡ 0)) where
    -- no offer is made before this bit time
    still : (n : ℕ) → suc n < count → offered_now offers (call_after offers hits (i + suc n) bus) ≡ call_after offers hits (i + suc n) bus
    still n within =
        let c : CallState = call_after offers hits (i + suc n) bus in
        ap (λ ps. record c { bus = record c.bus { ports = ps } })
        (ap (λ t. all_made offers t c.bus.ports) (call-time (i + suc n)) ∙ (none (i + suc n) c.bus.ports (omega arith) (omega (arith, within))).0)

    stands : (n : ℕ) → suc n ≤ count → call_after offers hits (i + suc n) bus ≡ bus_after hits (suc n) start
    unfolding call_after bus_after
    stands zero within = ap (λ k. call_after offers hits k bus) (let e : i + suc zero ≡ suc i = omega arith in e) ∙ ap (bus_step hits) (sym made)
    stands (suc n) within =
        ap (λ k. call_after offers hits k bus) (let e : i + suc (suc n) ≡ suc (i + suc n) = omega arith in e)
        ∙ ap (bus_step hits) (still n (omega (arith, within)) ∙ stands n (omega (arith, within)))

    pub call-several : (n : ℕ) → 0 < n → n ≤ count → call_after offers hits (i + n) bus ≡ bus_after hits n start
    call-several zero some within = absurd (omega (arith, some))
    call-several (suc n) some within = stands n within

    -- what is recorded in them
    pub level-several : (n t : ℕ) → n < count → t ≡ i + n → recorded hits (bus_after hits n start) ≡ call_level offers hits t bus
    unfolding call_level bus_after
    level-several zero t within same = ap (recorded hits) made ∙ ap (λ k. call_level offers hits k bus) (let e : i ≡ t = omega (arith, same) in e)
    level-several (suc n) t within same =
        ap (recorded hits) (sym (stands n (omega (arith, within))) ∙ sym (still n within)) ∙ ap (λ k. call_level offers hits k bus) (sym same)

    -- and how many offers a full queue gives back
    refused-on : (n : ℕ) → suc n ≤ count → call_refused offers hits (i + suc n) bus ≡ call_refused offers hits i bus + refused_at offers i (call_after offers hits i bus).bus.ports
    unfolding call_refused
    refused-on zero within = ap (λ k. call_refused offers hits k bus) (let e : i + suc zero ≡ suc i = omega arith in e)
    refused-on (suc n) within =
        let nothing = (none (i + suc n) (call_after offers hits (i + suc n) bus).bus.ports (omega arith) (omega (arith, within))).1 in
        ap (λ k. call_refused offers hits k bus) (let e : i + suc (suc n) ≡ suc (i + suc n) = omega arith in e)
        ∙ ap (λ k. call_refused offers hits (i + suc n) bus + k) nothing
        ∙ (let e : call_refused offers hits (i + suc n) bus + 0 ≡ call_refused offers hits (i + suc n) bus = omega arith in e) ∙ refused-on n (omega (arith, within))

    pub refused-several : (n : ℕ) → 0 < n → n ≤ count → call_refused offers hits (i + n) bus ≡ call_refused offers hits i bus + refused_at offers i (call_after offers hits i bus).bus.ports
    refused-several zero some within = absurd (omega (arith, some))
    refused-several (suc n) some within = refused-on n within

-- ---- a call without offers is a run

pub call-run : (hits : List Hit) (n : ℕ) (bus : BusState) → call_after [] hits n bus ≡ bus_after hits n (call_begun bus)
unfolding call_after bus_after
call-run hits zero bus = refl
call-run hits (suc n) bus = ap (λ c. bus_step hits (offered_now [] c)) (call-run hits n bus)

pub call_level-run : (hits : List Hit) (t : ℕ) (bus : BusState) → call_level [] hits t bus ≡ bus_level hits t bus
unfolding call_level bus_level
call_level-run hits t bus = ap (λ c. recorded hits (offered_now [] c)) (call-run hits t bus)

pub call_bus-run : (hits : List Hit) (n : ℕ) (bus : BusState) → (call_after [] hits n bus).bus ≡ bus_run hits n bus
unfolding bus_run
call_bus-run hits n bus = ap (λ (c : CallState). c.bus) (call-run hits n bus)
