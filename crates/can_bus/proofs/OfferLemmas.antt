-- Offers that are made one after another.
use Rattle.std.specs.Prelude.{if◌then◌else◌, nat_le, nat_lt, not, ◌↔◌, Result, Ok, Err, IsOk, OnOk, OnErr}
use Rattle.std.specs.Result.{is_ok}
use Rattle.std.specs.List.{slice_get}
use Rattle.std.proofs.Common.{◌≡◌, ◌≢◌, ℕ, zero, suc, ◌+◌, ◌<◌, ◌≤◌, ◌==◌, Bool, true, false, List, [], ◌∷◌, Some, length, map, get_or, set, drop, drop-cons, refl, sym, ◌∙◌, ap, inl, inr, arith, add-one}
use Rattle.std.proofs.lemmas.Bool.{cases_lt, cases_order}
use Rattle.std.proofs.lemmas.Bool.Decides.{nat_tests}
use Rattle.std.proofs.lemmas.Option.{slice_get-get_or, get_or_from_slice_get, slice_get_within}
use Rattle.can_frame.specs.Parts.{Parts}
use Rattle.can_node.specs.Ports.{PortState, port_offered, with_offer}
use Rattle.can_bus.specs.declared.offer.Offer.{Offer}
use Rattle.can_bus.specs.Offers.{AreOffered, is_no_earlier, is_full, made, all_made, refused_at}
use Rattle.can_bus.specs.Walks.{IsReached}
use Rattle.can_bus.proofs.CheckLemmas.{follows-each}

-- ---- one offer

at_most : (a b : ℕ) → (a < b → ⊥) → b ≤ a
at_most a b never = elim (cases_lt a b) [
  | inl less ↦ absurd (never less)
  | inr more ↦ more
]

made-past : (offer : Offer) (number : ℕ) (ports : List PortState) → offer.node < number → made offer number ports ≡ ports
made-past offer number [] past = refl
made-past offer number (p ∷ ports) past =
    let other : (offer.node == number) ≡ false = grind (arith, nat_tests) in
    ap (λ b. (if b then with_offer offer.frame p else p) ∷ made offer (number + 1) ports) other
    ∙ ap (λ ps. p ∷ ps) (made-past offer (number + 1) ports (omega arith))

made-set : {X : Type 0} (S : X → PortState) (offer : Offer) (number place : ℕ) (xs : List X) (y d : X) → place < length xs → offer.node ≡ number + place →
    S y ≡ with_offer offer.frame (S (get_or xs place d)) → map S (set xs place y) ≡ made offer number (map S xs)
made-set S offer number place [] y d within at is = absurd (omega arith)
made-set S offer number zero (x ∷ xs) y d within at is =
    let here : (offer.node == number) ≡ true = grind (arith, nat_tests) in
    ap (λ p. p ∷ map S xs) is
    ∙ ap (λ ps. with_offer offer.frame (S x) ∷ ps) (sym (made-past offer (number + 1) (map S xs) (omega arith)))
    ∙ ap (λ b. (if b then with_offer offer.frame (S x) else S x) ∷ made offer (number + 1) (map S xs)) (sym here)
made-set S offer number (suc place) (x ∷ xs) y d within at is =
    let other : (offer.node == number) ≡ false = grind (arith, nat_tests) in
    ap (λ ps. S x ∷ ps) (made-set S offer (number + 1) place xs y d (omega arith) (omega arith) is)
    ∙ ap (λ b. (if b then with_offer offer.frame (S x) else S x) ∷ made offer (number + 1) (map S xs)) (sym other)

-- the port of the offer becomes what it is with the offer
pub made-here : {X : Type 0} (S : X → PortState) (offer : Offer) (xs : List X) (y d : X) → offer.node < length xs →
    S y ≡ with_offer offer.frame (S (get_or xs offer.node d)) → map S (set xs offer.node y) ≡ made offer 0 (map S xs)
made-here S offer xs y d within is = made-set S offer 0 offer.node xs y d within (omega arith) is

-- whether the port with this number has space
pub full-here : {X : Type 0} (S : X → PortState) (node : ℕ) (xs : List X) (d : X) → node < length xs →
    is_full node (map S xs) ≡ nat_le (S (get_or xs node d)).queue_room (length (S (get_or xs node d)).queue)
full-here S node [] d within = absurd (omega arith)
full-here S zero (x ∷ xs) d within = refl
full-here S (suc node) (x ∷ xs) d within = full-here S node xs d (omega arith)

-- a port that was offered a frame, from what it returned
pub offer-made : {T E : Type 0} (f : Parts) (p q : PortState) (answer : Result T E) → (IsOk answer ↔ (length p.queue < p.queue_room)) → OnOk answer (q ≡ port_offered f p) →
    OnErr answer (q ≡ p) → (q ≡ with_offer f p) × (is_ok answer ≡ not (nat_le p.queue_room (length p.queue)))
offer-made f p q (Ok x) fits taken kept =
    let room : length p.queue < p.queue_room = fits.0 refl in
    let some : nat_lt (length p.queue) p.queue_room ≡ true = grind (arith, nat_tests) in
    let none : nat_le p.queue_room (length p.queue) ≡ false = grind (arith, nat_tests) in
    (taken ∙ ap (λ b. if b then port_offered f p else p) (sym some), ap not (sym none))
offer-made f p q (Err e) fits taken kept =
    let full : p.queue_room ≤ length p.queue = at_most _ _ (λ room. let no : false ≡ true = fits.1 room in cc) in
    let some : nat_lt (length p.queue) p.queue_room ≡ false = grind (arith, nat_tests) in
    let none : nat_le p.queue_room (length p.queue) ≡ true = grind (arith, nat_tests) in
    (kept ∙ ap (λ b. if b then port_offered f p else p) (sym some), ap not (sym none))

-- an offer that a full queue refuses is counted, and no other
pub one_refused : (full answer : Bool) (count : ℕ) → answer ≡ not full → answer ≡ false → count + 1 ≡ count + (if full then 1 else 0)
one_refused true answer count is refused = refl
one_refused false answer count is refused = let e : false ≡ true = sym refused ∙ is in cc

pub none_refused : (full answer : Bool) (count : ℕ) → answer ≡ not full → answer ≡ true → count ≡ count + (if full then 1 else 0)
none_refused true answer count is taken = let e : true ≡ false = sym taken ∙ is in cc
none_refused false answer count is taken = omega arith

pub one_at_most : (b : Bool) → (if b then 1 else 0) ≤ 1
one_at_most true = omega arith
one_at_most false = omega arith

pub length-made : (offer : Offer) (number : ℕ) (ports : List PortState) → length (made offer number ports) ≡ length ports
length-made offer number [] = refl
length-made offer number (p ∷ ports) = ap suc (length-made offer (number + 1) ports)

pub length-all_made : (offers : List Offer) (t : ℕ) (ports : List PortState) → length (all_made offers t ports) ≡ length ports
length-all_made [] t ports = refl
length-all_made (offer ∷ offers) t ports = length-all_made offers t (if offer.time == t then made offer 0 ports else ports) ∙ at (offer.time == t)
  where
    at : (b : Bool) → length (if b then made offer 0 ports else ports) ≡ length ports
    at true = length-made offer 0 ports
    at false = refl

-- ---- the offers of one time

-- an offer of another time
module _ (offer : Offer) (offers : List Offer) (t : ℕ) (ports : List PortState) (apart : offer.time ≢ t) where
  other_made : all_made (offer ∷ offers) t ports ≡ all_made offers t ports
  other_made = let other : (offer.time == t) ≡ false = grind (arith, nat_tests) in ap (λ b. all_made offers t (if b then made offer 0 ports else ports)) other

  other_refused : refused_at (offer ∷ offers) t ports ≡ refused_at offers t ports
  other_refused =
      let other : (offer.time == t) ≡ false = grind (arith, nat_tests) in
      ap (λ b. if b then (if is_full offer.node ports then 1 else 0) + refused_at offers t (made offer 0 ports) else refused_at offers t ports) other

-- an offer of this time
module _ (offer : Offer) (offers : List Offer) (t : ℕ) (ports : List PortState) (now : offer.time ≡ t) where
  this_made : all_made (offer ∷ offers) t ports ≡ all_made offers t (made offer 0 ports)
  this_made = let this : (offer.time == t) ≡ true = grind (arith, nat_tests) in ap (λ b. all_made offers t (if b then made offer 0 ports else ports)) this

  this_refused : refused_at (offer ∷ offers) t ports ≡ (if is_full offer.node ports then 1 else 0) + refused_at offers t (made offer 0 ports)
  this_refused =
      let this : (offer.time == t) ≡ true = grind (arith, nat_tests) in
      ap (λ b. if b then (if is_full offer.node ports then 1 else 0) + refused_at offers t (made offer 0 ports) else refused_at offers t ports) this

-- no offer is of this time
abbrev AreOther : List Offer → ℕ → Type 0
AreOther offers t = (n : ℕ) (offer : Offer) → slice_get offers n ≡ Some offer → offer.time ≢ t

pub none_made : (offers : List Offer) (t : ℕ) (ports : List PortState) → AreOther offers t → (all_made offers t ports ≡ ports) × (refused_at offers t ports ≡ 0)
none_made [] t ports none = (refl, refl)
none_made (offer ∷ offers) t ports none =
    let rest = none_made offers t ports (λ n later at. none (suc n) later at) in
    (other_made offer offers t ports (none 0 offer refl) ∙ rest.0, other_refused offer offers t ports (none 0 offer refl) ∙ rest.1)

-- after the last of this time
pub rest_none : (offers : List Offer) (place t : ℕ) (ports : List PortState) → ((n : ℕ) (offer : Offer) → place ≤ n → slice_get offers n ≡ Some offer → offer.time ≢ t) →
    (all_made (drop place offers) t ports ≡ ports) × (refused_at (drop place offers) t ports ≡ 0)
rest_none [] zero t ports none = (refl, refl)
rest_none [] (suc place) t ports none = (refl, refl)
rest_none (offer ∷ offers) zero t ports none = none_made (offer ∷ offers) t ports (λ n o at. none n o (omega arith) at)
rest_none (offer ∷ offers) (suc place) t ports none = rest_none offers place t ports (λ n o behind at. none (suc n) o (omega arith) at)

-- before the first of this time
pub front_none : (offers : List Offer) (place t : ℕ) (ports : List PortState) → ((n : ℕ) (offer : Offer) → n < place → slice_get offers n ≡ Some offer → offer.time ≢ t) →
    (all_made (drop place offers) t ports ≡ all_made offers t ports) × (refused_at (drop place offers) t ports ≡ refused_at offers t ports)
front_none [] zero t ports none = (refl, refl)
front_none [] (suc place) t ports none = (refl, refl)
front_none (offer ∷ offers) zero t ports none = (refl, refl)
front_none (offer ∷ offers) (suc place) t ports none =
    let rest = front_none offers place t ports (λ n o before at. none (suc n) o (omega arith) at) in
    (rest.0 ∙ sym (other_made offer offers t ports (none 0 offer (omega arith) refl)), rest.1 ∙ sym (other_refused offer offers t ports (none 0 offer (omega arith) refl)))

-- the next of this time
pub next_made : (offers : List Offer) (place t : ℕ) (ports : List PortState) (offer : Offer) → slice_get offers place ≡ Some offer → offer.time ≡ t →
    (all_made (drop place offers) t ports ≡ all_made (drop (place + 1) offers) t (made offer 0 ports))
    × (refused_at (drop place offers) t ports ≡ (if is_full offer.node ports then 1 else 0) + refused_at (drop (place + 1) offers) t (made offer 0 ports))
next_made offers place t ports offer there now =
    let within : place < length offers = slice_get_within offers place offer there in
    let from : drop place offers ≡ offer ∷ drop (place + 1) offers =
    rw add-one (drop-cons offers place offer within ∙ ap (λ o. o ∷ drop (suc place) offers) (get_or_from_slice_get offers place offer offer there)) in (
      ap (λ xs. all_made xs t ports) from ∙ this_made offer (drop (place + 1) offers) t ports now,
      ap (λ xs. refused_at xs t ports) from ∙ this_refused offer (drop (place + 1) offers) t ports now,
    )

-- ---- the times of offers

-- offers do not descend
pub offers-rise : (ports : ℕ) (offers : List Offer) → AreOffered ports offers → (m n : ℕ) (a b : Offer) → m ≤ n → slice_get offers m ≡ Some a → slice_get offers n ≡ Some b → a.time ≤ b.time
offers-rise ports offers sound m n a b h at to = elim (cases_order m n) [
  | inl same ↦
      let e : Some a ≡ Some b = sym at ∙ ap (slice_get offers) same ∙ to in
      let t : a.time ≡ b.time = cc in omega arith
  | inr apart ↦ elim apart [
    | inl less ↦
        let k : nat_le a.time b.time ≡ true =
        follows-each is_no_earlier (λ x y z f g. grind (arith, nat_tests)) offers (λ place offer there. (sound place offer there).0) m n a b less at to in grind (arith, nat_tests)
    | inr more ↦ absurd (omega arith)
  ]
]

-- no offer is passed at first
pub reached-first : (offers : List Offer) → IsReached offers 0 0
reached-first offers = record { passed = λ n o before at. absurd (omega arith); ahead = λ n o behind at. omega arith }

-- the walk is within the offers of a time: what is passed isn't later, and what is ahead isn't earlier
pub record IsWithin (offers : List Offer) (place time : ℕ) : Type 0 where
  pub passed : (n : ℕ) (offer : Offer) → n < place → slice_get offers n ≡ Some offer → offer.time ≤ time
  pub ahead : (n : ℕ) (offer : Offer) → place ≤ n → slice_get offers n ≡ Some offer → time ≤ offer.time

pub within-first : (offers : List Offer) (place time : ℕ) → IsReached offers place time → IsWithin offers place time
within-first offers place time reached = record {
  passed = λ n o before at. let h : o.time < time = reached.passed n o before at in omega arith;
  ahead = reached.ahead;
}

pub within-more : (ports : ℕ) (offers : List Offer) (place time : ℕ) (offer : Offer) → AreOffered ports offers → IsWithin offers place time →
    slice_get offers place ≡ Some offer → offer.time ≡ time → IsWithin offers (place + 1) time
within-more ports offers place time offer sound within there now = record {
  passed = λ n o before at. let h : o.time ≤ offer.time = offers-rise ports offers sound n place o offer (omega arith) at there in omega arith;
  ahead = λ n o behind at. within.ahead n o (omega arith) at;
}

-- the next offer, if there is one, is of another time
pub within-last : (ports : ℕ) (offers : List Offer) (place time : ℕ) → AreOffered ports offers → IsWithin offers place time →
    ((offer : Offer) → slice_get offers place ≡ Some offer → offer.time ≢ time) → IsReached offers place (time + 1)
within-last ports offers place time sound within other = record {
  passed = λ n o before at. let h : o.time ≤ time = within.passed n o before at in omega arith;
  ahead = λ n o behind at.
      let inside : n < length offers = slice_get_within offers n o at in
      let here : slice_get offers place ≡ Some (get_or offers place o) = slice_get-get_or offers place o (omega arith) in
      let least : time ≤ (get_or offers place o).time = within.ahead place (get_or offers place o) (omega arith) here in
      let apart : (get_or offers place o).time ≢ time = other (get_or offers place o) here in
      let h : (get_or offers place o).time ≤ o.time = offers-rise ports offers sound place n (get_or offers place o) o behind here at in omega arith;
}

-- up to the time of the next offer
pub reached-next : (ports : ℕ) (offers : List Offer) (place time next : ℕ) (offer : Offer) → AreOffered ports offers → IsReached offers place (time + 1) →
    slice_get offers place ≡ Some offer → offer.time ≡ next → (time < next) × IsReached offers place next
reached-next ports offers place time next offer sound reached there at =
    let later : time + 1 ≤ offer.time = reached.ahead place offer (omega arith) there in (
      omega arith,
      record {
        passed = λ n o earlier here. let h : o.time < time + 1 = reached.passed n o earlier here in omega arith;
        ahead = λ n o behind here. let h : offer.time ≤ o.time = offers-rise ports offers sound place n offer o behind there here in omega arith;
      },
    )

-- and up to an end before which there is none
pub reached-last : (ports : ℕ) (offers : List Offer) (place time end : ℕ) → AreOffered ports offers → IsReached offers place (time + 1) → time < end →
    ((offer : Offer) → slice_get offers place ≡ Some offer → end ≤ offer.time) → IsReached offers place end
reached-last ports offers place time end sound reached early none = record {
  passed = λ n o earlier at. let h : o.time < time + 1 = reached.passed n o earlier at in omega arith;
  ahead = λ n o behind at.
      let inside : n < length offers = slice_get_within offers n o at in
      let here : slice_get offers place ≡ Some (get_or offers place o) = slice_get-get_or offers place o (omega arith) in
      let least : end ≤ (get_or offers place o).time = none (get_or offers place o) here in
      let h : (get_or offers place o).time ≤ o.time = offers-rise ports offers sound place n (get_or offers place o) o behind here at in omega arith;
}

-- between two such times no offer is made
pub none-between : (offers : List Offer) (place time count t : ℕ) (ports : List PortState) → IsReached offers place (time + 1) → IsReached offers place (time + count) → time < t → t < time + count →
    (all_made offers t ports ≡ ports) × (refused_at offers t ports ≡ 0)
none-between offers place time count t ports first last after before = none_made offers t ports (λ n o at. elim (cases_lt n place) [
  | inl earlier ↦ let h : o.time < time + 1 = first.passed n o earlier at in omega arith
  | inr behind ↦ let h : time + count ≤ o.time = last.ahead n o behind at in omega arith
])
