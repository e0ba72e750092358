-- A frame that passes a bus in one step: the levels of its bit times, and the bus after them.
use Rattle.std.specs.Prelude.{if◌then◌else◌}
use Rattle.std.specs.List.{list_any}
use Rattle.std.proofs.Common.{◌≡◌, ◌≢◌, ℕ, zero, suc, ◌+◌, ◌-◌, ◌<◌, ◌≤◌, true, false, Option, Some, List, [], ◌∷◌, length, map, take, get_or, refl, sym, ap, subst, ◌∙◌, arith}
use Rattle.std.proofs.lemmas.Bool.{cond-false}
use Rattle.std.proofs.lemmas.List.{length-append, length-take-le, take-take, take_all, take_at}
use Rattle.can_frame.specs.declared.level.Level.{Level}
use Rattle.can_frame.specs.declared.level.Level.TheVariants.{Dominant, Recessive}
use Rattle.can_frame.specs.Parts.{Parts, IsFrame}
use Rattle.can_wire.specs.Layout.{level_at}
use Rattle.can_wire.specs.Wire.{driven, stuffed_part, tail}
use Rattle.can_mac.specs.Frames.{with_intermission}
use Rattle.can_mac.proofs.FrameRoles.{line-start}
use Rattle.can_node.specs.Ports.{PortState, IsPort, port_drives, port_run, port_step}
use Rattle.can_terms.specs.declared.hit.Hit.{Hit}
use Rattle.can_terms.specs.declared.hit.Hit.TheVariants.{At, View}
use Rattle.can_bus.specs.declared.call.Call.{Call}
use Rattle.can_bus.specs.declared.moment.Attempt.{Attempt}
use Rattle.can_bus.specs.Passing.{IsReceived, PassesBus}
use Rattle.can_bus.specs.Run.{CallState, all_sampled, aged, attempt_now, begins_attempt, bus_after, bus_step, following, hits_view, hits_wire, inverted_if, recorded, rest_after, wired_level}
use Rattle.can_bus.specs.Walks.{AreBelow, IsCall, IsFreeFrom, IsPassed, aged_by, in_now}
use Rattle.can_bus.specs.Wired.{wired}
use Rattle.can_bus.proofs.Members.{none-taken}
use Rattle.can_bus.proofs.BusAtRest.{aged_more, aged_none}
use Rattle.can_bus.proofs.Contests.{AllPorts}
use Rattle.can_bus.proofs.HitRuns.{sees}
use Rattle.can_bus.proofs.RestInFrames.{none-begins, rest_at-next, rest-line}
use Rattle.can_bus.proofs.StepLemmas.{call_of, same_call, at_next, passed_more, view_later, within_next}
use Rattle.can_bus.proofs.WireRuns.{all_after, rest_run}
use Rattle.can_bus.proofs.PassingPorts.{all_after-run, frame-wires}

-- ---- level by level

pub all_after-next : {M : Type 0} (step : Level → M → M) (levels : List Level) (ms : List M) (o : ℕ) → o < length levels →
    all_after step (take (suc o) levels) ms ≡ map (step (level_at levels o)) (all_after step (take o levels) ms)
all_after-next step [] ms o within = absurd (omega (arith, within))
all_after-next step (x ∷ []) ms zero within = refl
all_after-next step (x ∷ (y ∷ levels)) ms zero within = refl
all_after-next step (x ∷ levels) ms (suc o) within = all_after-next step levels (map (step x) ms) o (omega (arith, within))

pub unviewed : (hits : List Hit) (time : ℕ) (x : Level) → ((node : ℕ) → list_any (hits_view time node) hits ≡ false) → (k : ℕ) (ports : List PortState) → all_sampled hits time x k ports ≡ map (sees x) ports
unviewed hits time x none k [] = refl
unviewed hits time x none k (p ∷ ports) =
    ap (λ b. port_step p (inverted_if b x) ∷ all_sampled hits time x (k + 1) ports) (none k) ∙ ap (λ ps. port_step p x ∷ ps) (unviewed hits time x none (k + 1) ports)

-- the latest attempt as bit time o of a frame begins, with which an attempt begins
abbrev pub latest_at : Option Attempt → ℕ → Option Attempt
latest_at latest zero = latest
latest_at latest (suc o) = aged_by o (Some (following latest))

-- A frame begins as the bus has rested, and no hit falls in its first m bit times, in each of which the ports drive its
-- level.
module _ (hits : List Hit) (f : Parts) (is : IsFrame f) (time : ℕ) (latest : Option Attempt) (P : ℕ → List PortState)
    (m : ℕ) (short : m ≤ length (with_intermission f)) (wires : (o : ℕ) → o < m → wired (map port_drives (P o)) ≡ level_at (with_intermission f) o)
    (free : IsFreeFrom hits time (Some (following latest)) m) where
  -- the call in bit time o
  abbrev pub stage : ℕ → CallState
  stage o = call_of (P o) (rest_run 11 (take o (with_intermission f))) (time + o) (latest_at latest o)

  attempt-at : (o : ℕ) → o < m → attempt_now (stage o) ≡ latest_at latest (suc o)
  attempt-at zero within =
      ap (λ x. if begins_attempt (rest_run 11 (take 0 (with_intermission f))) x then Some (following latest) else aged latest) (wires 0 within ∙ line-start f)
      ∙ ap (λ ls. if begins_attempt (rest_run 11 ls) Dominant then Some (following latest) else aged latest) (none-taken (with_intermission f))
      ∙ aged_none (Some (following latest))
  attempt-at (suc o) within =
      cond-false (begins_attempt (rest_run 11 (take (suc o) (with_intermission f))) (wired_level (stage (suc o)))) _ _ (none-begins f is 11 (suc o) (omega arith) (omega (arith, within, short)) (wired_level (stage (suc o))))
      ∙ aged_more o (Some (following latest)) ∙ ap (λ k. aged_by k (Some (following latest))) (let e : o + 1 ≡ suc o = omega arith in e)

  pub stage-level : (o : ℕ) → o < m → recorded hits (stage o) ≡ level_at (with_intermission f) o
  unfolding recorded
  stage-level o within =
      ap (λ l. inverted_if (list_any (hits_wire (time + o) l) hits) (wired_level (stage o))) (attempt-at o within)
      ∙ ap (λ b. inverted_if b (wired_level (stage o))) (free.wire o within)
      ∙ wires o within

  -- and after it
  pub stage-step : (o : ℕ) → o < m →
      bus_step hits (stage o) ≡ call_of (map (sees (level_at (with_intermission f) o)) (P o)) (rest_run 11 (take (suc o) (with_intermission f))) (time + suc o) (latest_at latest (suc o))
  unfolding bus_step
  stage-step o within =
      let x = level_at (with_intermission f) o in
      let rest = rest_run 11 (take o (with_intermission f)) in
      ap (λ y. call_of (all_sampled hits (time + o) y 0 (P o)) (rest_after rest y) (time + o + 1) (attempt_now (stage o))) (stage-level o within)
      ∙ same_call (unviewed hits (time + o) x (λ node. free.view o node within) 0 (P o)) (sym (rest_at-next f is 11 o (omega (arith, within, short))))
      (let e : time + o + 1 ≡ time + suc o = omega arith in e) (attempt-at o within)

-- the same if nothing is offered during it
module _ (hits : List Hit) (f : Parts) (is : IsFrame f) (ports : List PortState) (time : ℕ) (latest : Option Attempt) where
  abbrev line : List Level
  line = with_intermission f

  abbrev going : ℕ → List PortState
  going o = all_after sees (take o line) ports

  abbrev first : CallState
  first = call_of ports 11 time latest

  module _ (m : ℕ) (short : m ≤ length (with_intermission f)) (wires : (o : ℕ) → o < m → wired (map port_drives (all_after sees (take o (with_intermission f)) ports)) ≡ level_at (with_intermission f) o)
      (free : IsFreeFrom hits time (Some (following latest)) m) where
    abbrev at : ℕ → CallState
    at o = stage hits f is time latest going m short wires free o

    first-at : first ≡ at 0
    first-at = same_call {a = latest} (ap (λ ls. all_after sees ls ports) (sym (none-taken line))) (ap (rest_run 11) (sym (none-taken line))) (let e : time ≡ time + 0 = omega arith in e) refl

    reaches : (o : ℕ) → o ≤ m → bus_after hits o first ≡ at o
    unfolding bus_after
    reaches zero within = first-at
    reaches (suc o) within =
        ap (bus_step hits) (reaches o (omega (arith, within)))
        ∙ stage-step hits f is time latest going m short wires free o (omega (arith, within))
        ∙ ap (λ ps. call_of ps (rest_run 11 (take (suc o) line)) (time + suc o) (latest_at latest (suc o))) (sym (all_after-next sees line ports o (omega (arith, within, short))))

    -- the level of each bit time
    pub passed-level : (o : ℕ) → o < m → recorded hits (bus_after hits o (call_of ports 11 time latest)) ≡ level_at (with_intermission f) o
    passed-level o within =
        ap (recorded hits) (reaches o (omega (arith, within)))
        ∙ stage-level hits f is time latest going m short wires free o within

    -- and the bus after them
    pub passed-after : (n : ℕ) → n ≤ m → 0 < n →
        bus_after hits n (call_of ports 11 time latest)
        ≡ call_of (map (λ p. port_run p (take n (with_intermission f))) ports) (rest_run 11 (take n (with_intermission f))) (time + n) (aged_by (n - 1) (Some (following latest)))
    passed-after zero within some = absurd (omega (arith, some))
    passed-after (suc n) within some =
        reaches (suc n) within
        ∙ same_call {rest = rest_run 11 (take (suc n) line)} {time = time + suc n} (all_after-run (take (suc n) line) ports) refl refl (ap (λ k. aged_by k (Some (following latest))) (let e : n ≡ suc n - 1 = omega arith in e))

-- ---- the hits of a call

-- no hit falls in the first of these bit times, nor in the others
pub free-from : (hits : List Hit) (time : ℕ) (first : Option Attempt) (n : ℕ) → list_any (hits_wire time first) hits ≡ false → ((node : ℕ) → list_any (hits_view time node) hits ≡ false) →
    ((k : ℕ) → suc k < n → list_any (hits_wire ((time + 1) + k) (aged_by (k + 1) first)) hits ≡ false) → ((k node : ℕ) → suc k < n → list_any (hits_view ((time + 1) + k) node) hits ≡ false) →
    IsFreeFrom hits time first n
free-from hits time first n wire view wires views = record { wire = on-wire; view = on-view }
  where
    on-wire : (o : ℕ) → o < n → list_any (hits_wire (time + o) (aged_by o first)) hits ≡ false
    on-wire zero within =
        ap (λ t. list_any (hits_wire t (aged_by 0 first)) hits) (let e : time + 0 ≡ time = omega arith in e)
        ∙ ap (λ a. list_any (hits_wire time a) hits) (sym (aged_none first)) ∙ wire
    on-wire (suc k) within =
        ap (λ t. list_any (hits_wire t (aged_by (suc k) first)) hits) (let e : time + suc k ≡ (time + 1) + k = omega arith in e)
        ∙ ap (λ j. list_any (hits_wire ((time + 1) + k) (aged_by j first)) hits) (let e : suc k ≡ k + 1 = omega arith in e) ∙ wires k within

    on-view : (o node : ℕ) → o < n → list_any (hits_view (time + o) node) hits ≡ false
    on-view zero node within = ap (λ t. list_any (hits_view t node) hits) (let e : time + 0 ≡ time = omega arith in e) ∙ view node
    on-view (suc k) node within = ap (λ t. list_any (hits_view t node) hits) (let e : time + suc k ≡ (time + 1) + k = omega arith in e) ∙ views k node within

-- the call in the second of these bit times
pub second-call : (hits : List Hit) (call now : Call) → IsCall hits call → AreBelow hits now.at.place (At now.time) → AreBelow hits now.within.place (in_now now.latest) →
    now.time ≡ call.time → now.latest ≡ Some (following call.latest) → now.view ≡ call.view →
    IsCall hits (record { time = now.time + 1; latest = now.latest; at = now.at; within = now.within; view = now.view })
second-call hits call now is at within time latest view = record {
  at = at_next hits now.at.place now.time at;
  within = within_next hits now.within.place now.latest within;
  view = subst (λ v. AreBelow hits v.place (View (now.time + 1) 0)) (sym view) (subst (λ t. AreBelow hits call.view.place (View (t + 1) 0)) (sym time) (view_later hits call.view.place call.time 0 is.view));
  passed = subst (λ l. IsPassed l (now.time + 1)) (sym latest) (subst (λ t. IsPassed (Some (following call.latest)) (t + 1)) (sym time) (passed_more true call.latest call.time is.passed));
}

-- ---- the levels of the frame

-- the stuffed part comes before the last ten of the levels that its transmitter drives
pub part-of : (f : Parts) (levels : List Level) (n part : ℕ) → n ≤ length levels → take n levels ≡ driven f → part ≡ n - 10 → (take part levels ≡ stuffed_part f) × (part ≡ length (stuffed_part f))
part-of f levels n part long are less =
    let size : n ≡ length (stuffed_part f) + 10 = sym (length-take-le n levels long) ∙ ap length are ∙ length-append (stuffed_part f) (tail Recessive Recessive) in
    let whole : part ≡ length (stuffed_part f) = omega (arith, size, less) in (
      sym (take-take part n levels (omega (arith, size, whole))) ∙ ap (take part) are ∙ take_at (stuffed_part f) (tail Recessive Recessive) part (sym whole),
      whole,
    )

pub at-taken : (rec : List Level) (n t : ℕ) (d : Level) → t < n → t < length rec → get_or rec t d ≡ level_at (take n rec) t
at-taken [] n t d less within = absurd (omega (arith, within))
at-taken (x ∷ rec) zero t d less within = absurd (omega (arith, less))
at-taken (x ∷ rec) (suc n) zero d less within = refl
at-taken (x ∷ rec) (suc n) (suc t) d less within = at-taken rec n t d (omega (arith, less)) (omega (arith, within))

-- The first bit times of a frame, in which no hit falls: what is recorded, and the bus after them.
module _ (hits : List Hit) (f : Parts) (is : IsFrame f) (ports : List PortState) (rest time : ℕ) (latest : Option Attempt) (rested : rest ≡ 11)
    (got : IsReceived f ports) (valid : AllPorts IsPort ports) (passes : PassesBus f ports)
    (rec : List Level) (count : ℕ) (some : count ≢ 0) (within : count ≤ length rec) (short : count ≤ length (with_intermission f)) (are : take count rec ≡ take count (with_intermission f))
    (free : IsFreeFrom hits time (Some (following latest)) count) where
  wires : (o : ℕ) → o < count → wired (map port_drives (all_after sees (take o (with_intermission f)) ports)) ≡ level_at (with_intermission f) o
  wires o more = frame-wires f is ports valid passes got o (omega (arith, more, short))

  pub ridden-recorded : (t : ℕ) (d : Level) → t < count → get_or rec t d ≡ recorded hits (bus_after hits t (call_of ports rest time latest))
  ridden-recorded t d early =
      at-taken rec count t d early (omega (arith, early, within)) ∙ ap (λ ls. level_at ls t) are
      ∙ sym (at-taken (with_intermission f) count t Dominant early (omega (arith, early, short)))
      ∙ sym (passed-level hits f is ports time latest count short wires free t early)
      ∙ ap (λ r. recorded hits (bus_after hits t (call_of ports r time latest))) (sym rested)

  pub ridden-passed : (next : List PortState) (last later : ℕ) (attempt : Option Attempt) → next ≡ map (λ p. port_run p (take count rec)) ports → last ≡ rest_run 11 (take count rec) → later ≡ time + count →
      attempt ≡ aged_by (count - 1) (Some (following latest)) →
      call_of next last later attempt ≡ bus_after hits count (call_of ports rest time latest)
  ridden-passed next last later attempt goes left late aged =
      same_call (goes ∙ ap (λ ls. map (λ p. port_run p ls) ports) are) (left ∙ ap (rest_run 11) are) late aged
      ∙ sym (passed-after hits f is ports time latest count short wires free count (omega arith) (omega (arith, some)))
      ∙ ap (λ r. bus_after hits count (call_of ports r time latest)) (sym rested)

-- The same of all its bit times.
module _ (hits : List Hit) (f : Parts) (is : IsFrame f) (ports : List PortState) (rest time : ℕ) (latest : Option Attempt) (rested : rest ≡ 11)
    (got : IsReceived f ports) (valid : AllPorts IsPort ports) (passes : PassesBus f ports)
    (rec : List Level) (count : ℕ) (some : count ≢ 0) (within : count ≤ length rec) (are : take count rec ≡ with_intermission f) (free : IsFreeFrom hits time (Some (following latest)) count) where
  size : count ≡ length (with_intermission f)
  size = sym (length-take-le count rec within) ∙ ap length are

  front : take count rec ≡ take count (with_intermission f)
  front = are ∙ sym (take_all count (with_intermission f) (omega (arith, size)))

  pub line-recorded : (t : ℕ) (d : Level) → t < count → get_or rec t d ≡ recorded hits (bus_after hits t (call_of ports rest time latest))
  line-recorded = ridden-recorded hits f is ports rest time latest rested got valid passes rec count some within (omega (arith, size)) front free

  pub line-passed : (next : List PortState) (later : ℕ) (attempt : Option Attempt) → next ≡ map (λ p. port_run p (take count rec)) ports → later ≡ time + count → attempt ≡ aged_by (count - 1) (Some (following latest)) →
      call_of next rest later attempt ≡ bus_after hits count (call_of ports rest time latest)
  line-passed next later attempt goes late aged =
      ridden-passed hits f is ports rest time latest rested got valid passes rec count some within (omega (arith, size)) front free
      next rest later attempt goes (rested ∙ sym (ap (rest_run 11) are ∙ rest-line f 11)) late aged
