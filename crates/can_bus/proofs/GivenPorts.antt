-- What ports are given at one time, offer after offer, and how many offers find a full queue: bit time by bit time, and along the list.
use Rattle.std.specs.Prelude.{if◌then◌else◌, ◌&&◌, nat_lt}
use Rattle.std.proofs.Common.{◌≡◌, ℕ, zero, suc, ◌+◌, ◌<◌, Bool, true, false, List, [], ◌∷◌, ◌++◌, refl, ap, sym, ◌∙◌, arith, inl, inr}
use Rattle.std.proofs.Math.Dec.{eqb}
use Rattle.std.proofs.lemmas.Bool.{cases_Bool, cases_lt, cond-true, cond-false, le-ltb, lt-ltb}
use Rattle.std.proofs.lemmas.Bool.Decides.{nat_tests}
use Rattle.can_frame.specs.declared.level.Level.{Level}
use Rattle.can_node.specs.Ports.{PortState, with_offer}
use Rattle.can_terms.specs.declared.hit.Hit.{Hit}
use Rattle.can_bus.specs.declared.offer.Offer.{Offer}
use Rattle.can_bus.specs.DisturbedPlay.{all_given, given, is_refused, played_then, refusals}
use Rattle.can_bus.specs.Offers.{call_after, call_refused, all_made, is_full, made, refused_at}
use Rattle.can_bus.specs.Run.{BusState}

-- ---- one offer in front

module _ (offer : Offer) (offers : List Offer) (t : ℕ) where
  given-now : eqb offer.time t ≡ true → (k : ℕ) (ports : List PortState) → all_given (offer ∷ offers) t k ports ≡ all_given offers t k (made offer k ports)
  given-now now k [] = refl
  given-now now k (p ∷ ports) =
      ap (λ b. given offers t k (if b && eqb offer.node k then with_offer offer.frame p else p) ∷ all_given (offer ∷ offers) t (k + 1) ports) now
      ∙ ap (λ ps. given offers t k (if eqb offer.node k then with_offer offer.frame p else p) ∷ ps) (given-now now (k + 1) ports)

  given-other : eqb offer.time t ≡ false → (k : ℕ) (ports : List PortState) → all_given (offer ∷ offers) t k ports ≡ all_given offers t k ports
  given-other other k [] = refl
  given-other other k (p ∷ ports) =
      ap (λ b. given offers t k (if b && eqb offer.node k then with_offer offer.frame p else p) ∷ all_given (offer ∷ offers) t (k + 1) ports) other
      ∙ ap (λ ps. given offers t k p ∷ ps) (given-other other (k + 1) ports)

pub given-none : (t k : ℕ) (ports : List PortState) → ports ≡ all_given [] t k ports
given-none t k [] = refl
given-none t k (p ∷ ports) = ap (λ ps. p ∷ ps) (given-none t (k + 1) ports)

-- offers are made one after another, and each port is given its own
pub made-given : (offers : List Offer) (t : ℕ) (ports : List PortState) → all_made offers t ports ≡ all_given offers t 0 ports
made-given [] t ports = given-none t 0 ports
made-given (offer ∷ offers) t ports = elim (cases_Bool (eqb offer.time t)) [
  | inl now ↦
      ap (all_made offers t) (cond-true (eqb offer.time t) (made offer 0 ports) ports now) ∙ made-given offers t (made offer 0 ports) ∙ sym (given-now offer offers t now 0 ports)
  | inr other ↦
      ap (all_made offers t) (cond-false (eqb offer.time t) (made offer 0 ports) ports other) ∙ made-given offers t ports ∙ sym (given-other offer offers t other 0 ports)
]

-- ---- one offer after

given-last : (earlier : List Offer) (offer : Offer) (t k : ℕ) (p : PortState) →
    given (earlier ++ offer ∷ []) t k p ≡ (if eqb offer.time t && eqb offer.node k then with_offer offer.frame (given earlier t k p) else given earlier t k p)
given-last [] offer t k p = refl
given-last (o ∷ earlier) offer t k p = given-last earlier offer t k (if eqb o.time t && eqb o.node k then with_offer o.frame p else p)

module _ (earlier : List Offer) (offer : Offer) (t : ℕ) where
  last-now : eqb offer.time t ≡ true → (k : ℕ) (ports : List PortState) → all_given (earlier ++ offer ∷ []) t k ports ≡ made offer k (all_given earlier t k ports)
  last-now now k [] = refl
  last-now now k (p ∷ ports) =
      ap (λ q. q ∷ all_given (earlier ++ offer ∷ []) t (k + 1) ports)
      (given-last earlier offer t k p ∙ ap (λ b. if b && eqb offer.node k then with_offer offer.frame (given earlier t k p) else given earlier t k p) now)
      ∙ ap (λ ps. (if eqb offer.node k then with_offer offer.frame (given earlier t k p) else given earlier t k p) ∷ ps) (last-now now (k + 1) ports)

  last-other : eqb offer.time t ≡ false → (k : ℕ) (ports : List PortState) → all_given (earlier ++ offer ∷ []) t k ports ≡ all_given earlier t k ports
  last-other other k [] = refl
  last-other other k (p ∷ ports) =
      ap (λ q. q ∷ all_given (earlier ++ offer ∷ []) t (k + 1) ports)
      (given-last earlier offer t k p ∙ ap (λ b. if b && eqb offer.node k then with_offer offer.frame (given earlier t k p) else given earlier t k p) other)
      ∙ ap (λ ps. given earlier t k p ∷ ps) (last-other other (k + 1) ports)

-- ---- the offers of one time that find a full queue

abbrev one_if : Bool → ℕ
one_if b = if b then 1 else 0

-- the offer is of this time, and finds a full queue after these
abbrev full_now : ℕ → List PortState → List Offer → Offer → Bool
full_now t ports earlier offer = eqb offer.time t && is_full offer.node (all_given earlier t 0 ports)

abbrev refused_now : ℕ → List PortState → List Offer → List Offer → ℕ
refused_now t ports earlier [] = 0
refused_now t ports earlier (offer ∷ later) = one_if (full_now t ports earlier offer) + refused_now t ports (earlier ++ offer ∷ []) later

refused-given : (later earlier : List Offer) (t : ℕ) (ports : List PortState) → refused_at later t (all_given earlier t 0 ports) ≡ refused_now t ports earlier later
refused-given [] earlier t ports = refl
refused-given (offer ∷ later) earlier t ports =
    let before = all_given earlier t 0 ports in
    let full = is_full offer.node before in
    elim (cases_Bool (eqb offer.time t)) [
      | inl now ↦
          cond-true (eqb offer.time t) (one_if full + refused_at later t (made offer 0 before)) (refused_at later t before) now
          ∙ ap (λ ps. one_if full + refused_at later t ps) (sym (last-now earlier offer t now 0 ports))
          ∙ ap (λ n. one_if full + n) (refused-given later (earlier ++ offer ∷ []) t ports)
          ∙ ap (λ b. one_if (b && full) + refused_now t ports (earlier ++ offer ∷ []) later) (sym now)
      | inr other ↦
          cond-false (eqb offer.time t) (one_if full + refused_at later t (made offer 0 before)) (refused_at later t before) other
          ∙ ap (refused_at later t) (sym (last-other earlier offer t other 0 ports))
          ∙ refused-given later (earlier ++ offer ∷ []) t ports
          ∙ (let e : refused_now t ports (earlier ++ offer ∷ []) later ≡ 0 + refused_now t ports (earlier ++ offer ∷ []) later = omega arith in e)
          ∙ ap (λ b. one_if (b && full) + refused_now t ports (earlier ++ offer ∷ []) later) (sym other)
    ]

-- ---- and those of all times, along the list

module _ (offers : List Offer) (ports : List PortState) (seen : List (List Level)) where
  -- the ports at this time
  abbrev ports_at : ℕ → List PortState
  ports_at t = played_then offers t 0 ports seen

  full-more : (bits : ℕ) (earlier : List Offer) (offer : Offer) →
      one_if (is_refused offers ports seen (suc bits) earlier offer) ≡ one_if (is_refused offers ports seen bits earlier offer) + one_if (full_now bits (ports_at bits) earlier offer)
  full-more bits earlier offer =
      let full = λ (t : ℕ). is_full offer.node (all_given earlier t 0 (ports_at t)) in
      elim (cases_lt offer.time bits) [
        | inl before ↦
            let more : nat_lt offer.time (suc bits) ≡ true = lt-ltb offer.time (suc bits) (omega arith) in
            let less : nat_lt offer.time bits ≡ true = lt-ltb offer.time bits before in
            let now : eqb offer.time bits ≡ false = grind (arith, nat_tests) in
            let same : one_if (full offer.time) ≡ one_if (full offer.time) + 0 = omega arith in
            ap (λ b. one_if (b && full offer.time)) more ∙ same
            ∙ ap (λ b. one_if (b && full offer.time) + 0) (sym less) ∙ ap (λ b. one_if (nat_lt offer.time bits && full offer.time) + one_if (b && full bits)) (sym now)
        | inr from ↦
            let less : nat_lt offer.time bits ≡ false = le-ltb offer.time bits from in
            elim (cases_lt bits offer.time) [
              | inl after ↦
                  let more : nat_lt offer.time (suc bits) ≡ false = le-ltb offer.time (suc bits) (omega arith) in
                  let now : eqb offer.time bits ≡ false = grind (arith, nat_tests) in
                  ap (λ b. one_if (b && full offer.time)) more
                  ∙ ap (λ b. one_if (b && full offer.time) + 0) (sym less) ∙ ap (λ b. one_if (nat_lt offer.time bits && full offer.time) + one_if (b && full bits)) (sym now)
              | inr upto ↦
                  let same : offer.time ≡ bits = omega arith in
                  let more : nat_lt offer.time (suc bits) ≡ true = lt-ltb offer.time (suc bits) (omega arith) in
                  let now : eqb offer.time bits ≡ true = grind (arith, nat_tests) in
                  let none : one_if (full bits) ≡ 0 + one_if (full bits) = omega arith in
                  ap (λ b. one_if (b && full offer.time)) more ∙ ap (λ t. one_if (full t)) same ∙ none
                  ∙ ap (λ b. one_if (b && full offer.time) + one_if (full bits)) (sym less) ∙ ap (λ b. one_if (nat_lt offer.time bits && full offer.time) + one_if (b && full bits)) (sym now)
            ]
      ]

  refusals-none : (later earlier : List Offer) → 0 ≡ refusals offers ports seen 0 earlier later
  refusals-none [] earlier = refl
  refusals-none (offer ∷ later) earlier =
      let none : nat_lt offer.time 0 ≡ false = le-ltb offer.time 0 (omega arith) in
      let here : one_if (is_refused offers ports seen 0 earlier offer) ≡ 0 = ap (λ b. one_if (b && is_full offer.node (all_given earlier offer.time 0 (ports_at offer.time)))) none in
      omega (arith, here, refusals-none later (earlier ++ offer ∷ []))

  refusals-more : (bits : ℕ) (later earlier : List Offer) →
      refusals offers ports seen (suc bits) earlier later ≡ refusals offers ports seen bits earlier later + refused_now bits (ports_at bits) earlier later
  refusals-more bits [] earlier = refl
  refusals-more bits (offer ∷ later) earlier = omega (arith, full-more bits earlier offer, refusals-more bits later (earlier ++ offer ∷ []))

-- if the ports of a call are those of the lists, the same number of offers are refused
pub call-refusals : (offers : List Offer) (hits : List Hit) (before : BusState) (seen : List (List Level)) (bits : ℕ) →
    ((t : ℕ) → t < bits → (call_after offers hits t before).bus.ports ≡ played_then offers t 0 before.ports seen) → call_refused offers hits bits before ≡ refusals offers before.ports seen bits [] offers
unfolding call_refused
call-refusals offers hits before seen zero same = refusals-none offers before.ports seen offers []
call-refusals offers hits before seen (suc n) same =
    let last : refused_at offers n (call_after offers hits n before).bus.ports ≡ refused_now n (played_then offers n 0 before.ports seen) [] offers =
    ap (refused_at offers n) (same n (omega arith) ∙ given-none n 0 (played_then offers n 0 before.ports seen)) ∙ refused-given offers [] n (played_then offers n 0 before.ports seen) in
    omega (arith, call-refusals offers hits before seen n (λ t within. same t (omega (arith, within))), last, refusals-more offers before.ports seen n offers [])
