-- One port of a bus, bit time by bit time: it goes on by its own offers and by the levels that it sees.
use Rattle.std.specs.Prelude.{◌==◌, ◌&&◌, if◌then◌else◌, Result, Ok, Err, IfOk}
use Rattle.std.specs.List.{list_any}
use Rattle.std.specs.Option.{option_map}
use Rattle.std.proofs.Common.{◌≡◌, ◌≢◌, ℕ, zero, suc, ◌+◌, ◌-◌, ◌*◌, ◌<◌, ◌≤◌, Bool, true, false, Some, None, List, [], ◌∷◌, ◌++◌, length, map, drop, take, get_or, slice_get, refl, ap, sym, subst, ◌∙◌, arith, add-one, zero-add, inl, inr}
use Rattle.std.proofs.lemmas.Bool.{cases_order}
use Rattle.std.proofs.Math.Seq.{drop-cons, get_or-append_seam}
use Rattle.std.proofs.lemmas.Bool.Decides.{nat_tests}
use Rattle.std.proofs.lemmas.List.{drop-append-le, drop_at, get_or_append_left, length-append, length-drop, take-append-le, take_all}
use Rattle.std.proofs.lemmas.Nat.{mul-le}
use Rattle.std.proofs.Math.Nat.{suc-mul, zero-mul}
use Rattle.std.proofs.lemmas.Option.{get_or_from_slice_get, slice_get-get_or, slice_get-map, slice_get_within}
use Rattle.can_frame.specs.declared.level.Level.{Level}
use Rattle.can_frame.specs.declared.level.Level.TheVariants.{Recessive}
use Rattle.can_node.specs.Ports.{PortState, port_step, with_offer}
use Rattle.can_terms.specs.declared.hit.Hit.{Hit}
use Rattle.can_bus.specs.declared.offer.Offer.{Offer}
use Rattle.can_bus.specs.Offers.{AreOffered, all_made, call_after, made, played, played_level}
use Rattle.can_bus.proofs.CallCases.{played-level, played-next}
use Rattle.can_bus.specs.Run.{BusState, all_sampled, bus_after, bus_level, bus_run, bus_step, call_begun, hits_view, inverted_if, recorded}
use Rattle.can_trace.specs.PortTimes.{AreFirstTold, AreSeen, AreTold, bus_by, first_port, level_seen, offers_meanwhile, own_made, seen_under, port_time, told_from}
use Rattle.can_trace.specs.Report.{level_by, levels_until, made_bus, made_port, recorded_levels, waiting_bus, waiting_port}
use Rattle.can_trace.specs.ScenarioOffers.{scenario_offers}
use Rattle.can_scenario_text.specs.declared.scenario.PortPlan.{PortPlan}
use Rattle.can_scenario_text.specs.declared.scenario.Scenario.{Scenario}
use Rattle.can_trace.specs.declared.port_times.PortTime.{PortTime}
use Rattle.can_trace.proofs.OpenReports.{offered}

-- ---- one port of all

made-at : (offer : Offer) (k : ℕ) (ports : List PortState) (n : ℕ) (p : PortState) → slice_get ports n ≡ Some p →
    slice_get (made offer k ports) n ≡ Some (if offer.node == k + n then with_offer offer.frame p else p)
made-at offer k [] n p at = absurd (let e : None ≡ Some p = at in cc)
made-at offer k (q ∷ ports) zero p at =
    let same : q ≡ p = (let e : Some q ≡ Some p = at in cc) in
    let number : k ≡ k + 0 = omega arith in
    ap (λ r. Some (if offer.node == k then with_offer offer.frame r else r)) same ∙ ap (λ m. Some (if offer.node == m then with_offer offer.frame p else p)) number
made-at offer k (q ∷ ports) (suc n) p at =
    let number : (k + 1) + n ≡ k + suc n = omega arith in
    made-at offer (k + 1) ports n p at ∙ ap (λ m. Some (if offer.node == m then with_offer offer.frame p else p)) number

made-if : (offer : Offer) (b : Bool) (ports : List PortState) (n : ℕ) (p : PortState) → slice_get ports n ≡ Some p →
    slice_get (if b then made offer 0 ports else ports) n ≡ Some (if b && (offer.node == n) then with_offer offer.frame p else p)
made-if offer true ports n p at = made-at offer 0 ports n p at ∙ ap (λ m. Some (if offer.node == m then with_offer offer.frame p else p)) (zero-add n)
made-if offer false ports n p at = at

pub all-made-at : (offers : List Offer) (t : ℕ) (ports : List PortState) (n : ℕ) (p : PortState) → slice_get ports n ≡ Some p →
    slice_get (all_made offers t ports) n ≡ Some (own_made n offers t p)
all-made-at [] t ports n p at = at
all-made-at (offer ∷ offers) t ports n p at =
    all-made-at offers t (if offer.time == t then made offer 0 ports else ports) n (if (offer.time == t) && (offer.node == n) then with_offer offer.frame p else p)
    (made-if offer (offer.time == t) ports n p at)

sampled-at : (hits : List Hit) (time : ℕ) (x : Level) (k : ℕ) (ports : List PortState) (n : ℕ) (p : PortState) → slice_get ports n ≡ Some p →
    slice_get (all_sampled hits time x k ports) n ≡ Some (port_step p (inverted_if (list_any (hits_view time (k + n)) hits) x))
sampled-at hits time x k [] n p at = absurd (let e : None ≡ Some p = at in cc)
sampled-at hits time x k (q ∷ ports) zero p at =
    let same : q ≡ p = (let e : Some q ≡ Some p = at in cc) in
    let number : k ≡ k + 0 = omega arith in
    ap (λ r. Some (port_step r (inverted_if (list_any (hits_view time k) hits) x))) same
    ∙ ap (λ m. Some (port_step p (inverted_if (list_any (hits_view time m) hits) x))) number
sampled-at hits time x k (q ∷ ports) (suc n) p at =
    let number : (k + 1) + n ≡ k + suc n = omega arith in
    sampled-at hits time x (k + 1) ports n p at ∙ ap (λ m. Some (port_step p (inverted_if (list_any (hits_view time m) hits) x))) number

-- ---- one bit time

after-time : (hits : List Hit) (t : ℕ) (bus : BusState) → (bus_after hits t (call_begun bus)).time ≡ t
unfolding bus_after bus_step
after-time hits zero bus = refl
after-time hits (suc t) bus = let e : (bus_after hits t (call_begun bus)).time ≡ t = after-time hits t bus in omega (arith, e)

disturbed-next : (hits : List Hit) (t : ℕ) (bus : BusState) (n : ℕ) (p : PortState) → slice_get (bus_run hits t bus).ports n ≡ Some p →
    slice_get (bus_run hits (suc t) bus).ports n ≡ Some (port_step p (inverted_if (list_any (hits_view t n) hits) (bus_level hits t bus)))
unfolding bus_run bus_after bus_step bus_level
disturbed-next hits t bus n p at =
    let c = bus_after hits t (call_begun bus) in
    sampled-at hits c.time (recorded hits c) 0 c.bus.ports n p at
    ∙ ap (λ m. Some (port_step p (inverted_if (list_any (hits_view c.time m) hits) (recorded hits c)))) (zero-add n)
    ∙ ap (λ time. Some (port_step p (inverted_if (list_any (hits_view time n) hits) (recorded hits c)))) (after-time hits t bus)

plain-next : (bus : BusState) (n : ℕ) (p : PortState) → slice_get bus.ports n ≡ Some p → slice_get (bus_run [] 1 bus).ports n ≡ Some (port_step p (bus_level [] 0 bus))
unfolding bus_run bus_after bus_step bus_level
plain-next bus n p at = sampled-at [] 0 (recorded [] (call_begun bus)) 0 bus.ports n p at

port-next : (offers : List Offer) (t : ℕ) (bus : BusState) (n : ℕ) (p : PortState) → slice_get (all_made offers t (played offers t bus).ports) n ≡ Some p →
    slice_get (played offers (suc t) bus).ports n ≡ Some (port_step p (played_level offers t bus))
port-next offers t bus n p at =
    let now : BusState = record (played offers t bus) { ports = all_made offers t (played offers t bus).ports } in
    ap (λ (b : BusState). slice_get b.ports n) (played-next offers bus t) ∙ plain-next now n p at ∙ ap (λ x. Some (port_step p x)) (sym (played-level offers bus t))

played-first : (offers : List Offer) (bus : BusState) (n : ℕ) (p : PortState) → slice_get bus.ports n ≡ Some p → slice_get (played offers 0 bus).ports n ≡ Some p
unfolding call_after
played-first offers bus n p at = at

run-first : (hits : List Hit) (bus : BusState) (n : ℕ) (p : PortState) → slice_get bus.ports n ≡ Some p → slice_get (bus_run hits 0 bus).ports n ≡ Some p
unfolding bus_run bus_after
run-first hits bus n p at = at

-- the levels of a line
length-until : (level : ℕ → Level) (n : ℕ) → length (levels_until level n) ≡ n
length-until level zero = refl
length-until level (suc n) = let e : length (levels_until level n) ≡ n = length-until level n in length-append (levels_until level n) (level n ∷ []) ∙ (omega (arith, e))

until-at : (level : ℕ → Level) (n t : ℕ) → t < n → get_or (levels_until level n) t Recessive ≡ level t
until-at level zero t h = absurd (omega arith)
until-at level (suc n) t h =
    let size : length (levels_until level n) ≡ n = length-until level n in
    elim (cases_order t n) [
      | inl same ↦
          ap (λ k. get_or (levels_until level n ++ level n ∷ []) k Recessive) (same ∙ sym size)
          ∙ get_or-append_seam (levels_until level n) (level n) [] Recessive ∙ sym (ap level same)
      | inr apart ↦ elim apart [
        | inl less ↦ get_or_append_left (levels_until level n) (level n ∷ []) Recessive t (omega (arith, size, less)) ∙ until-at level n t less
        | inr more ↦ absurd (omega (arith, h, more))
      ]
    ]

-- ---- all bit times

-- a port whose bus goes on so
module _ (node : ℕ) (offers : List Offer) (before ready : ℕ → List PortState) (level : ℕ → Level)
    (makes : (t : ℕ) (p : PortState) → slice_get (before t) node ≡ Some p → slice_get (ready t) node ≡ Some (own_made node offers t p))
    (steps : (t : ℕ) (p : PortState) → slice_get (ready t) node ≡ Some p → slice_get (before (suc t)) node ≡ Some (port_step p (level t))) where
  told-each : (seen : List Level) (t : ℕ) (p : PortState) → slice_get (before t) node ≡ Some p → ((i : ℕ) → i < length seen → slice_get seen i ≡ Some (level (t + i))) →
      (i : ℕ) (q : PortState) → i < length seen → slice_get (ready (t + i)) node ≡ Some q → slice_get (told_from node offers t p seen) i ≡ Some (port_time q (level (t + i)))
  told-each [] t p is known i q h at = absurd (omega arith)
  told-each (x ∷ seen) t p is known zero q h at =
      let here : t + 0 ≡ t = omega arith in
      let ready-is : Some (own_made node offers t p) ≡ Some q = sym (makes t p is) ∙ sym (ap (λ k. slice_get (ready k) node) here) ∙ at in
      let port : own_made node offers t p ≡ q = (cc) in
      let first : Some x ≡ Some (level (t + 0)) = known 0 (omega arith) in
      let same : x ≡ level (t + 0) = (cc) in
      ap (λ r. Some (port_time r x)) port ∙ ap (λ y. Some (port_time q y)) same
  told-each (x ∷ seen) t p is known (suc i) q h at =
      let more : (t + 1) + i ≡ t + suc i = omega arith in
      let here : t + 0 ≡ t = omega arith in
      let first : Some x ≡ Some (level (t + 0)) = known 0 (omega arith) in
      let same : x ≡ level t = (let e : x ≡ level (t + 0) = (cc) in e ∙ ap level here) in
      let next : slice_get (before (t + 1)) node ≡ Some (port_step (own_made node offers t p) x) =
      rw add-one (steps t (own_made node offers t p) (makes t p is) ∙ sym (ap (λ y. Some (port_step (own_made node offers t p) y)) same)) in
      told-each seen (t + 1) (port_step (own_made node offers t p) x) next
      (λ j k. let further : (t + 1) + j ≡ t + suc j = omega arith in known (suc j) (omega arith) ∙ sym (ap (λ m. Some (level m)) further))
      i q (omega arith) (ap (λ k. slice_get (ready k) node) more ∙ at)
      ∙ ap (λ k. Some (port_time q (level k))) more

  pub told-times : (seen : List Level) (p : PortState) → slice_get (before 0) node ≡ Some p → ((t : ℕ) → t < length seen → slice_get seen t ≡ Some (level t)) →
      (t : ℕ) (q : PortState) → t < length seen → slice_get (ready t) node ≡ Some q → slice_get (told_from node offers 0 p seen) t ≡ Some (port_time q (level t))
  told-times seen p is known t q h at =
      let same : 0 + t ≡ t = zero-add t in
      told-each seen 0 p is (λ i k. known i k ∙ sym (ap (λ m. Some (level m)) (zero-add i))) t q h (ap (λ k. slice_get (ready k) node) same ∙ at)
      ∙ ap (λ k. Some (port_time q (level k))) same

pub length-told : (node : ℕ) (offers : List Offer) (t : ℕ) (p : PortState) (seen : List Level) → length (told_from node offers t p seen) ≡ length seen
length-told node offers t p [] = refl
length-told node offers t p (x ∷ seen) = ap suc (length-told node offers (t + 1) (port_step (own_made node offers t p) x) seen)

-- ---- the offers of one time, in a list in the order of time

module _ (node : ℕ) (t : ℕ) where
  -- an offer of another time
  own-other : (offer : Offer) (offers : List Offer) (p : PortState) → offer.time ≢ t → own_made node (offer ∷ offers) t p ≡ own_made node offers t p
  own-other offer offers p apart =
      let other : (offer.time == t) ≡ false = grind (arith, nat_tests) in ap (λ b. own_made node offers t (if b && (offer.node == node) then with_offer offer.frame p else p)) other

  own-none : (offers : List Offer) (p : PortState) → ((n : ℕ) (offer : Offer) → slice_get offers n ≡ Some offer → offer.time ≢ t) → own_made node offers t p ≡ p
  own-none [] p none = refl
  own-none (offer ∷ offers) p none = own-other offer offers p (none 0 offer refl) ∙ own-none offers p (λ n later at. none (suc n) later at)

  -- after the last of this time
  pub own-rest : (offers : List Offer) (place : ℕ) (p : PortState) → ((n : ℕ) (offer : Offer) → place ≤ n → slice_get offers n ≡ Some offer → offer.time ≢ t) →
      own_made node (drop place offers) t p ≡ p
  own-rest [] zero p none = refl
  own-rest [] (suc place) p none = refl
  own-rest (offer ∷ offers) zero p none = own-none (offer ∷ offers) p (λ n o at. none n o (omega arith) at)
  own-rest (offer ∷ offers) (suc place) p none = own-rest offers place p (λ n o behind at. none (suc n) o (omega arith) at)

  -- before the first of this time
  pub own-front : (offers : List Offer) (place : ℕ) (p : PortState) → ((n : ℕ) (offer : Offer) → n < place → slice_get offers n ≡ Some offer → offer.time ≢ t) →
      own_made node (drop place offers) t p ≡ own_made node offers t p
  own-front [] zero p none = refl
  own-front [] (suc place) p none = refl
  own-front (offer ∷ offers) zero p none = refl
  own-front (offer ∷ offers) (suc place) p none =
      own-front offers place p (λ n o before at. none (suc n) o (omega arith) at) ∙ sym (own-other offer offers p (none 0 offer (omega arith) refl))

  -- the next of this time
  pub own-next : (offers : List Offer) (place : ℕ) (p : PortState) (offer : Offer) → slice_get offers place ≡ Some offer → offer.time ≡ t →
      own_made node (drop place offers) t p ≡ own_made node (drop (place + 1) offers) t (own_made node (offer ∷ []) offer.time p)
  own-next offers place p offer there now =
      let within : place < length offers = slice_get_within offers place offer there in
      let from : drop place offers ≡ offer ∷ drop (place + 1) offers =
      rw add-one (drop-cons offers place offer within ∙ ap (λ o. o ∷ drop (suc place) offers) (get_or_from_slice_get offers place offer offer there)) in
      ap (λ xs. own_made node xs t p) from
      ∙ ap (λ k. own_made node (drop (place + 1) offers) t (if (offer.time == k) && (offer.node == node) then with_offer offer.frame p else p)) (sym now)

-- ---- a scenario's ports

-- the offers to all ports are in the order of time
pub meanwhile-offered : (hits : List Hit) (s : Scenario) → AreOffered (length s.ports.items) (offers_meanwhile hits s)
meanwhile-offered [] s = offered s.ports.items
meanwhile-offered (hit ∷ hits) s = λ place item there. absurd (let e : None ≡ Some item = there in cc)

first-at : (from : PortPlan → PortState) (plans : List PortPlan) (n : ℕ) (plan : PortPlan) → slice_get plans n ≡ Some plan → slice_get (map from plans) n ≡ Some (from plan)
first-at from plans n plan there = slice_get-map from plans n ∙ ap (option_map from) there

-- from its plan, its offers and the levels that it sees a port goes on as on the bus
pub told-known : (hits : List Hit) (s : Scenario) (node : ℕ) (plan : PortPlan) (seen : List Level) → slice_get s.ports.items node ≡ Some plan →
    ((t : ℕ) → t < length seen → slice_get seen t ≡ Some (seen_under hits s node t)) →
    (t : ℕ) (p : PortState) → t < length seen → slice_get (bus_by hits s t).ports node ≡ Some p →
    slice_get (told_from node (offers_meanwhile hits s) 0 (first_port hits plan) seen) t ≡ Some (port_time p (seen_under hits s node t))
told-known [] s node plan seen there known =
    let offers = scenario_offers s in
    told-times node offers (λ t. (played offers t (made_bus s)).ports) (λ t. (bus_by [] s t).ports) (seen_under [] s node)
    (λ t p at. all-made-at offers t (played offers t (made_bus s)).ports node p at)
    (λ t p at. port-next offers t (made_bus s) node p at)
    seen (made_port plan) (played-first offers (made_bus s) node (made_port plan) (first-at made_port s.ports.items node plan there)) known
told-known (hit ∷ hits) s node plan seen there known =
    told-times node [] (λ t. (bus_run (hit ∷ hits) t (waiting_bus s)).ports) (λ t. (bus_run (hit ∷ hits) t (waiting_bus s)).ports) (seen_under (hit ∷ hits) s node)
    (λ t p at. at)
    (λ t p at. disturbed-next (hit ∷ hits) t (waiting_bus s) node p at)
    seen (waiting_port plan) (run-first (hit ∷ hits) (waiting_bus s) node (waiting_port plan) (first-at waiting_port s.ports.items node plan there)) known

-- if the levels are those that were recorded, a port sees those that it sees
pub seen-known : (s : Scenario) (node : ℕ) (levels seen : List Level) → levels ≡ recorded_levels s → length seen ≡ length levels → AreSeen s.hits.items node levels seen →
    (t : ℕ) → t < length seen → slice_get seen t ≡ Some (level_seen s node t)
seen-known s node levels seen are size sees t h =
    slice_get-get_or seen t Recessive h ∙ ap Some (
    sees t Recessive (omega (arith, size))
    ∙ ap (inverted_if (list_any (hits_view t node) s.hits.items)) (
    ap (λ xs. get_or xs t Recessive) are ∙ until-at (level_by s.hits.items s) s.bits t (let n : length seen ≡ s.bits = size ∙ ap length are ∙ length-until (level_by s.hits.items s) s.bits in omega (arith, n))
    )
    )

-- ---- one port after another

pub first-none : (s : Scenario) → AreFirstTold s 0 []
first-none s = record { each = let none : 0 * s.bits ≡ 0 = zero-mul s.bits in omega (arith, none); told = λ node h. absurd (omega arith) }

-- the bit times of the next port follow those of the first ones
pub first-next : (s : Scenario) (ports : ℕ) (times told : List PortTime) → AreFirstTold s ports times → AreTold s ports told → AreFirstTold s (suc ports) (times ++ told)
first-next s ports times told are is =
    let all : length times ≡ ports * s.bits = are.each in
    let own : length told ≡ s.bits = is.each in
    record {
      each = length-append times told ∙ (let more : suc ports * s.bits ≡ ports * s.bits + s.bits = suc-mul ports s.bits in omega (arith, all, own, more));
      told = λ node h. elim (cases_order node ports) [
        | inl same ↦
            let behind : drop (node * s.bits) (times ++ told) ≡ told = drop_at times told (node * s.bits) (all ∙ ap (λ n. n * s.bits) (sym same)) in
            let whole : take s.bits (drop (node * s.bits) (times ++ told)) ≡ told = ap (take s.bits) behind ∙ take_all s.bits told (omega (arith, own)) in
            subst (AreTold s node) (sym whole) (subst (λ n. AreTold s n told) (sym same) is)
        | inr apart ↦ elim apart [
          | inl less ↦
              let row : suc node * s.bits ≡ node * s.bits + s.bits = suc-mul node s.bits in
              let within : suc node * s.bits ≤ ports * s.bits = mul-le (suc node) s.bits ports s.bits (omega (arith, less)) (omega arith) in
              let before : drop (node * s.bits) (times ++ told) ≡ drop (node * s.bits) times ++ told = drop-append-le (node * s.bits) times told (omega (arith, all, row, within)) in
              let size : length (drop (node * s.bits) times) ≡ length times - node * s.bits = length-drop (node * s.bits) times in
              let same : take s.bits (drop (node * s.bits) (times ++ told)) ≡ take s.bits (drop (node * s.bits) times) =
              ap (take s.bits) before ∙ take-append-le s.bits (drop (node * s.bits) times) told (omega (arith, all, row, within, size)) in
              subst (AreTold s node) (sym same) (are.told node less)
          | inr more ↦ absurd (omega (arith, h, more))
        ]
      ];
    }

pub length-recorded : (s : Scenario) → length (recorded_levels s) ≡ s.bits
length-recorded s = length-until (level_by s.hits.items s) s.bits

pub if-told : {T E : Type 0} {P Q : T → Type 0} (r : Result T E) → IfOk r P → ((x : T) → P x → Q x) → IfOk r Q
if-told (Ok x) is follows = follows x is
if-told (Err e) is follows = is
