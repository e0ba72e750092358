-- A bus at rest: while no hit falls in them, bit times leave it as it is, and recessive levels are recorded.
use Rattle.std.specs.List.{list_any, slice_get}
use Rattle.std.proofs.Common.{◌≡◌, ◌≢◌, add-one, set, get_or-set_other, get_or-set_same, below_more, ℕ, zero, suc, ◌+◌, ◌<◌, ◌≤◌, true, false, List, [], ◌∷◌, Option, Some, None, ◌||◌, length, map, get_or, take, refl, sym, ap, subst, ◌∙◌, arith, inl, inr}
use Rattle.std.specs.Prelude.{if◌then◌else◌, min, nat_lt, ◌-◌, ◌==◌, ◌&&◌, ⊤}
use Rattle.std.proofs.lemmas.Bool.{cases_Bool, cond-true, cond-false, lt-ltb, ltb-false}
use Rattle.std.proofs.lemmas.Bool.Decides.{nat_tests}
use Rattle.std.proofs.lemmas.Option.{slice_get_within, get_or_from_slice_get}
use Rattle.can_frame.specs.declared.level.Level.{Level}
use Rattle.can_frame.specs.declared.level.Level.TheVariants.{Recessive}
use Rattle.can_frame.specs.IdleRow.{idle_row}
use Rattle.can_node.specs.Ports.{PortState, port_drives, port_step}
use Rattle.can_terms.specs.declared.hit.Hit.{Hit}
use Rattle.can_terms.specs.declared.hit.Hit.TheVariants.{At, In, View}
use Rattle.can_bus.specs.declared.moment.Attempt.{Attempt}
use Rattle.can_bus.specs.declared.call.Call.{Call}
use Rattle.can_terms.specs.Hits.{is_above, is_pair_above}
use Rattle.can_bus.specs.Run.{BusState, CallState, wired_level, begins_attempt, following, aged, attempt_now, hits_wire, hits_view, inverted_if, all_sampled, rest_after, recorded, bus_step, bus_after}
use Rattle.can_bus.specs.Wired.{wired}
use Rattle.can_bus.specs.Walks.{AreBelow, HitsRise, IsPassed, IsCall, in_next, is_hit, aged_by, for_ever, rested, until_at, until_in, until_view}
use Rattle.can_bus.proofs.CursorLemmas.{reach_none, reach_past, wire_found, attempt_found, view_found}
use Rattle.can_bus.proofs.StepLemmas.{call_of, same_call, at_next, view_next, view_later, within_next}

-- ---- what is before a bit time is before the later ones

pub at_after : (n : ℕ) (hits : List Hit) (place t : ℕ) → AreBelow hits place (At t) → AreBelow hits place (At (t + n))
at_after zero hits place t below = subst (λ k. AreBelow hits place (At k)) (let e : t ≡ t + 0 = omega arith in e) below
at_after (suc n) hits place t below =
    subst (λ k. AreBelow hits place (At k)) (let e : (t + n) + 1 ≡ t + suc n = omega arith in e) (at_next hits place (t + n) (at_after n hits place t below))

pub view_after : (n : ℕ) (hits : List Hit) (place t : ℕ) → AreBelow hits place (View t 0) → AreBelow hits place (View (t + n) 0)
view_after zero hits place t below = subst (λ k. AreBelow hits place (View k 0)) (let e : t ≡ t + 0 = omega arith in e) below
view_after (suc n) hits place t below =
    subst (λ k. AreBelow hits place (View k 0)) (let e : (t + n) + 1 ≡ t + suc n = omega arith in e) (view_later hits place (t + n) 0 (view_after n hits place t below))

pub view_at : (node : ℕ) (hits : List Hit) (place t : ℕ) → AreBelow hits place (View t 0) → AreBelow hits place (View t node)
view_at zero hits place t below = below
view_at (suc node) hits place t below =
    subst (λ k. AreBelow hits place (View t k)) (let e : node + 1 ≡ suc node = omega arith in e) (view_next hits place t node (view_at node hits place t below))

-- an attempt that is this many bit times older
pub aged_more : (n : ℕ) (latest : Option Attempt) → aged (aged_by n latest) ≡ aged_by (n + 1) latest
aged_more n None = refl
aged_more n (Some a) = ap (λ k. Some (let b : Attempt = record { number = a.number; offset = k } in b)) (let e : (a.offset + n) + 1 ≡ a.offset + (n + 1) = omega arith in e)

pub aged_none : (latest : Option Attempt) → latest ≡ aged_by 0 latest
aged_none None = refl
aged_none (Some a) = ap (λ k. Some (let b : Attempt = record { number = a.number; offset = k } in b)) (let e : a.offset ≡ a.offset + 0 = omega arith in e)

in_aged : (latest : Option Attempt) (hits : List Hit) (place : ℕ) → AreBelow hits place (in_next latest) → AreBelow hits place (in_next (aged latest))
in_aged None hits place below = below
in_aged (Some a) hits place below = within_next hits place (Some (record { number = a.number; offset = a.offset + 1 })) below

pub within_after : (n : ℕ) (latest : Option Attempt) (hits : List Hit) (place : ℕ) → AreBelow hits place (in_next latest) → AreBelow hits place (in_next (aged_by n latest))
within_after zero latest hits place below = subst (λ l. AreBelow hits place (in_next l)) (aged_none latest) below
within_after (suc n) latest hits place below =
    subst (λ l. AreBelow hits place (in_next l)) (aged_more n latest ∙ ap (λ k. aged_by k latest) (let e : n + 1 ≡ suc n = omega arith in e))
    (in_aged (aged_by n latest) hits place (within_after n latest hits place below))

pub passed_after : (n : ℕ) (latest : Option Attempt) (time : ℕ) → IsPassed latest time → IsPassed (aged_by n latest) (time + n)
passed_after n None time passed = tt
passed_after n (Some a) time passed = let h : a.number + (a.offset + n) < time + n = omega arith in h

-- ---- no hit falls if the next one is later

-- the next hit, if there is one, lies above this one
abbrev pub LiesAbove : Option Hit → Hit → Type 0
LiesAbove None q = ⊤
LiesAbove (Some h) q = is_above h q ≡ true

pub missed : (hits : List Hit) (place : ℕ) (q : Hit) (next : Option Hit) → HitsRise hits → AreBelow hits place q → slice_get hits place ≡ next → LiesAbove next q → list_any (is_hit q) hits ≡ false
missed hits place q None rising below at above = sym (reach_none hits place q below (past hits place at))
  where
    past : (hits : List Hit) (place : ℕ) → slice_get hits place ≡ None → length hits ≤ place
    past [] place e = omega arith
    past (h ∷ hits) zero e = cc
    past (h ∷ hits) (suc place) e = let rest : length hits ≤ place = past hits place e in omega arith
missed hits place q (Some h) rising below at above =
    sym (reach_past hits place q h rising below (slice_get_within hits place h at) (subst (λ x. is_above x q ≡ true) (sym (get_or_from_slice_get hits place h h at)) above))

-- before this many bit times have passed the next hit is above all that could fall
at_far : (time n : ℕ) (next : Option Hit) → n < until_at time next → LiesAbove next (At (time + n))
at_far time n None h = tt
at_far time n (Some (At t)) h = lt-ltb (time + n) t (omega arith)
at_far time n (Some (In number offset)) h = refl
at_far time n (Some (View t node)) h = refl

in_far_pair : (m o k x n : ℕ) → n < (if nat_lt k m then for_ever else if nat_lt m k then 0 else o - (x + 1)) → is_pair_above m o k (x + (n + 1)) ≡ true
in_far_pair m o k x n h = elim (cases_Bool (nat_lt k m)) [
  | inl later ↦ ap (λ b. b || ((k == m) && nat_lt (x + (n + 1)) o)) later
  | inr other ↦
      let g : n < (if nat_lt m k then 0 else o - (x + 1)) = subst (λ v. n < v) (cond-false (nat_lt k m) for_ever (if nat_lt m k then 0 else o - (x + 1)) other) h in
      elim (cases_Bool (nat_lt m k)) [
        | inl earlier ↦ let none : n < 0 = subst (λ v. n < v) (cond-true (nat_lt m k) 0 (o - (x + 1)) earlier) g in absurd (omega arith)
        | inr not ↦
            let less : n < o - (x + 1) = subst (λ v. n < v) (cond-false (nat_lt m k) 0 (o - (x + 1)) not) g in
            let same : k ≡ m = omega (arith, ltb-false k m other, ltb-false m k not) in
            let before : x + (n + 1) < o = omega arith in
            grind (arith, nat_tests)
      ]
]

in_far : (a : Attempt) (n : ℕ) (next : Option Hit) → n < until_in (Some a) next → LiesAbove next (In a.number (a.offset + (n + 1)))
in_far a n None h = tt
in_far a n (Some (At t)) h = absurd (omega arith)
in_far a n (Some (In number offset)) h = in_far_pair number offset a.number a.offset n h
in_far a n (Some (View t node)) h = refl

view_far : (time n node : ℕ) (next : Option Hit) → n < until_view time next → LiesAbove next (View (time + n) node)
view_far time n node None h = tt
view_far time n node (Some (At t)) h = absurd (omega arith)
view_far time n node (Some (In number offset)) h = absurd (omega arith)
view_far time n node (Some (View t p)) h = ap (λ b. b || (((time + n) == t) && nat_lt node p)) (lt-ltb (time + n) t (omega arith))

-- hits of both kinds fall on the wired level
pub wire_undisturbed : (hits : List Hit) (call : Call) (n : ℕ) → HitsRise hits → IsCall hits call → n < until_at call.time (slice_get hits call.at.place) →
    n < until_in call.latest (slice_get hits call.within.place) → list_any (hits_wire (call.time + n) (aged_by (n + 1) call.latest)) hits ≡ false
wire_undisturbed hits call n rising is at within = by_latest call.latest is.within within
  where
    none_at : list_any (is_hit (At (call.time + n))) hits ≡ false
    none_at = missed hits call.at.place (At (call.time + n)) (slice_get hits call.at.place) rising (at_after n hits call.at.place call.time is.at) refl (at_far call.time n (slice_get hits call.at.place) at)

    by_latest : (latest : Option Attempt) → AreBelow hits call.within.place (in_next latest) → n < until_in latest (slice_get hits call.within.place) →
        list_any (hits_wire (call.time + n) (aged_by (n + 1) latest)) hits ≡ false
    by_latest None below h = sym (wire_found (call.time + n) hits) ∙ none_at
    by_latest (Some a) below h =
        let b : Attempt = record { number = a.number; offset = a.offset + (n + 1) } in
        let later : AreBelow hits call.within.place (In a.number (a.offset + (n + 1))) =
        subst (λ k. AreBelow hits call.within.place (In a.number k)) (let e : (a.offset + n) + 1 ≡ a.offset + (n + 1) = omega arith in e) (within_after n (Some a) hits call.within.place below) in
        let none_in = missed hits call.within.place (In a.number (a.offset + (n + 1))) (slice_get hits call.within.place) rising later refl (in_far a n (slice_get hits call.within.place) h) in
        sym (attempt_found (call.time + n) b hits) ∙ ap (λ v. v || list_any (is_hit (In a.number (a.offset + (n + 1)))) hits) none_at ∙ none_in

-- and those of the third kind on a view
pub view_undisturbed : (hits : List Hit) (call : Call) (n node : ℕ) → HitsRise hits → IsCall hits call → n < until_view call.time (slice_get hits call.view.place) →
    list_any (hits_view (call.time + n) node) hits ≡ false
view_undisturbed hits call n node rising is h =
    sym (view_found (call.time + n) node hits)
    ∙ missed hits call.view.place (View (call.time + n) node) (slice_get hits call.view.place) rising
    (view_at node hits call.view.place (call.time + n) (view_after n hits call.view.place call.time is.view)) refl (view_far call.time n node (slice_get hits call.view.place) h)

-- no port alone is hit if the next hit is a later one of that kind
pub view_unhit : (hits : List Hit) (place time node : ℕ) → HitsRise hits → AreBelow hits place (View time 0) → 0 < until_view time (slice_get hits place) → list_any (hits_view time node) hits ≡ false
view_unhit hits place time node rising below ahead =
    let now : time + 0 ≡ time = omega arith in
    sym (view_found time node hits)
    ∙ missed hits place (View time node) (slice_get hits place) rising (view_at node hits place time below) refl
    (subst (λ t. LiesAbove (slice_get hits place) (View t node)) now (view_far time 0 node (slice_get hits place) ahead))

-- ---- bit times at rest

sampled_rest : (hits : List Hit) (time k : ℕ) (ports : List PortState) → ((node : ℕ) → list_any (hits_view time node) hits ≡ false) →
    map (λ p. port_step p Recessive) ports ≡ ports → all_sampled hits time Recessive k ports ≡ ports
sampled_rest hits time k [] none still = refl
sampled_rest hits time k (p ∷ ports) none still =
    let here : port_step p Recessive ≡ p = cc in
    let there : map (λ p. port_step p Recessive) ports ≡ ports = cc in
    ap (λ b. port_step p (inverted_if b Recessive) ∷ all_sampled hits time Recessive (k + 1) ports) (none k)
    ∙ ap (λ q. q ∷ all_sampled hits time Recessive (k + 1) ports) here
    ∙ ap (λ ps. p ∷ ps) (sampled_rest hits time (k + 1) ports none there)

-- what a bus at rest is
pub record IsResting (bus : BusState) : Type 0 where
  pub wired : wired (map port_drives bus.ports) ≡ Recessive
  pub rest : bus.rest ≡ idle_row
  pub still : map (λ p. port_step p Recessive) bus.ports ≡ bus.ports

attempt_rests : (c : CallState) → wired_level c ≡ Recessive → attempt_now c ≡ aged c.latest
attempt_rests c w = ap (λ x. if begins_attempt c.bus.rest x then Some (following c.latest) else aged c.latest) w

level_rests : (hits : List Hit) (c : CallState) → IsResting c.bus → list_any (hits_wire c.time (aged c.latest)) hits ≡ false → recorded hits c ≡ Recessive
unfolding recorded
level_rests hits c h none =
    ap (λ l. inverted_if (list_any (hits_wire c.time l) hits) (wired_level c)) (attempt_rests c h.wired)
    ∙ ap (λ b. inverted_if b (wired_level c)) none ∙ h.wired

step_rests : (hits : List Hit) (c : CallState) → IsResting c.bus → list_any (hits_wire c.time (aged c.latest)) hits ≡ false → ((node : ℕ) → list_any (hits_view c.time node) hits ≡ false) →
    bus_step hits c ≡ record { bus = c.bus; time = c.time + 1; latest = aged c.latest }
unfolding bus_step
step_rests hits c h wire view =
    ap (λ x. call_of (all_sampled hits c.time x 0 c.bus.ports) (rest_after c.bus.rest x) (c.time + 1) (attempt_now c)) (level_rests hits c h wire)
    ∙ same_call (sampled_rest hits c.time 0 c.bus.ports view h.still) full refl (attempt_rests c h.wired)
  where
    full : rest_after c.bus.rest Recessive ≡ c.bus.rest
    full = ap (λ r. min (r + 1) idle_row) h.rest ∙ sym h.rest

-- no hit falls in this many bit times, in which no attempt begins
pub record IsFree (hits : List Hit) (c : CallState) (n : ℕ) : Type 0 where
  pub wire : (k : ℕ) → k < n → list_any (hits_wire (c.time + k) (aged_by (k + 1) c.latest)) hits ≡ false
  pub view : (k node : ℕ) → k < n → list_any (hits_view (c.time + k) node) hits ≡ false

pub rested_none : (hits : List Hit) (c : CallState) → bus_after hits 0 c ≡ rested 0 c
unfolding bus_after
rested_none hits c = same_call {p = c.bus.ports} {rest = c.bus.rest} refl refl (let e : c.time ≡ c.time + 0 = omega arith in e) (aged_none c.latest)

-- this many bit times later nothing but the time has changed
pub rests_on : (hits : List Hit) (c : CallState) (n k : ℕ) → IsResting c.bus → IsFree hits c n → k ≤ n → bus_after hits k c ≡ rested k c
unfolding bus_after
rests_on hits c n zero h free within = rested_none hits c
rests_on hits c n (suc k) h free within =
    ap (bus_step hits) (rests_on hits c n k h free (omega arith))
    ∙ step_rests hits (rested k c) h (ap (λ l. list_any (hits_wire (c.time + k) l) hits) (aged_more k c.latest) ∙ free.wire k (omega arith)) (λ node. free.view k node (omega arith))
    ∙ same_call {p = c.bus.ports} {rest = c.bus.rest} refl refl (let e : (c.time + k) + 1 ≡ c.time + suc k = omega arith in e)
    (aged_more k c.latest ∙ ap (λ j. aged_by j c.latest) (let e : k + 1 ≡ suc k = omega arith in e))

-- and a recessive level is recorded in each
pub rest_recorded : (hits : List Hit) (c : CallState) (n k : ℕ) → IsResting c.bus → IsFree hits c n → k < n → recorded hits (bus_after hits k c) ≡ Recessive
rest_recorded hits c n k h free within =
    ap (recorded hits) (rests_on hits c n k h free (omega arith))
    ∙ level_rests hits (rested k c) h (ap (λ l. list_any (hits_wire (c.time + k) l) hits) (aged_more k c.latest) ∙ free.wire k within)

-- a call continues after them
pub call_rested : (hits : List Hit) (call : Call) (n : ℕ) (later : Call) → IsCall hits call → later.time ≡ call.time + n → later.latest ≡ aged_by n call.latest →
    later.at ≡ call.at → later.within ≡ call.within → later.view ≡ call.view → IsCall hits later
call_rested hits call n later is time latest at within view = record {
  at = subst (λ t. AreBelow hits later.at.place (At t)) (sym time) (subst (λ c. AreBelow hits c.place (At (call.time + n))) (sym at) (at_after n hits call.at.place call.time is.at));
  within = subst (λ l. AreBelow hits later.within.place (in_next l)) (sym latest)
      (subst (λ c. AreBelow hits c.place (in_next (aged_by n call.latest))) (sym within) (within_after n call.latest hits call.within.place is.within));
  view = subst (λ t. AreBelow hits later.view.place (View t 0)) (sym time) (subst (λ c. AreBelow hits c.place (View (call.time + n) 0)) (sym view) (view_after n hits call.view.place call.time is.view));
  passed = subst (λ l. IsPassed l later.time) (sym latest) (subst (λ t. IsPassed (aged_by n call.latest) t) (sym time) (passed_after n call.latest call.time is.passed));
}

-- ---- ports at rest, one after another

still_step : {X A : Type 0} (S : X → A) (f : A → A) (xs : List X) (i : ℕ) (d : X) → i < length xs → map f (map S (take i xs)) ≡ map S (take i xs) → f (S (get_or xs i d)) ≡ S (get_or xs i d) →
    map f (map S (take (suc i) xs)) ≡ map S (take (suc i) xs)
still_step S f [] i d within before here = absurd (omega arith)
still_step S f (x ∷ xs) zero d within before here = ap (λ y. y ∷ []) here
still_step S f (x ∷ xs) (suc i) d within before here =
    let first : f (S x) ≡ S x = cc in
    let rest : map f (map S (take i xs)) ≡ map S (take i xs) = cc in
    ap (λ y. y ∷ map f (map S (take (suc i) xs))) first ∙ ap (λ ys. S x ∷ ys) (still_step S f xs i d (omega arith) rest here)

pub still_more : {X A : Type 0} (S : X → A) (f : A → A) (xs : List X) (i : ℕ) (d : X) → i < length xs → map f (map S (take i xs)) ≡ map S (take i xs) → f (S (get_or xs i d)) ≡ S (get_or xs i d) →
    map f (map S (take (i + 1) xs)) ≡ map S (take (i + 1) xs)
still_more S f xs i d within before here = rw add-one (still_step S f xs i d within before here)

-- ---- bit times one after another

pub after_none : (hits : List Hit) (c : CallState) → c ≡ bus_after hits 0 c
unfolding bus_after
after_none hits c = refl

pub after_more : (hits : List Hit) (i : ℕ) (first c next : CallState) → c ≡ bus_after hits i first → next ≡ bus_step hits c → next ≡ bus_after hits (i + 1) first
unfolding bus_after
after_more hits i first c next e f = rw add-one (f ∙ ap (bus_step hits) e)

pub recorded_more : (hits : List Hit) (i : ℕ) (first c : CallState) (rec : List Level) (x : Level) → i < length rec → c ≡ bus_after hits i first → x ≡ recorded hits c →
    ((t : ℕ) (d : Level) → t < i → get_or rec t d ≡ recorded hits (bus_after hits t first)) → (t : ℕ) (d : Level) → t < i + 1 → get_or (set rec i x) t d ≡ recorded hits (bus_after hits t first)
recorded_more hits i first c rec x h e f before t d =
    below_more (λ n. get_or (set rec i x) n d ≡ recorded hits (bus_after hits n first)) i
    (λ n b. let ne : n ≢ i = omega arith in rw get_or-set_other (before n d b))
    (rw get_or-set_same (f ∙ ap (recorded hits) e))
    t
