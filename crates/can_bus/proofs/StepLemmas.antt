-- One bit time of a call.
use Rattle.std.specs.Prelude.{if◌then◌else◌}
use Rattle.std.specs.List.{list_any}
use Rattle.std.proofs.Common.{◌≡◌, ℕ, ◌+◌, ◌<◌, Bool, true, false, List, Option, Some, None, map, refl, ap, ◌∙◌, arith}
use Rattle.std.proofs.lemmas.Bool.{lt-ltb}
use Rattle.std.proofs.lemmas.Bool.Decides.{nat_tests}
use Rattle.can_frame.specs.declared.level.Level.{Level}
use Rattle.can_node.specs.Ports.{PortState, port_drives}
use Rattle.can_terms.specs.declared.hit.Hit.{Hit}
use Rattle.can_terms.specs.declared.hit.Hit.TheVariants.{At, In, View}
use Rattle.can_bus.specs.declared.moment.Attempt.{Attempt}
use Rattle.can_terms.specs.Hits.{is_pair_above}
use Rattle.can_bus.specs.Wired.{wired}
use Rattle.can_bus.specs.Run.{CallState, begins_attempt, following, aged, hits_wire, inverted_if, all_sampled, rest_after, recorded, bus_step}
use Rattle.can_bus.specs.Walks.{AreBelow, IsPassed, IsCall, first_call, in_now, in_next}
use Rattle.can_bus.proofs.CursorLemmas.{below_none, below_above}

-- a call, by what it has
abbrev pub call_of : List PortState → ℕ → ℕ → Option Attempt → CallState
call_of ports rest time latest = record { bus = record { ports = ports; rest = rest }; time = time; latest = latest }

pub same_call : {p q : List PortState} {rest last time later : ℕ} {a b : Option Attempt} → p ≡ q → rest ≡ last → time ≡ later → a ≡ b → call_of p rest time a ≡ call_of q last later b
same_call {p} {q} {rest} {last} {time} {later} {a} {b} ports rests times attempts =
    ap (λ ps. call_of ps rest time a) ports ∙ ap (λ r. call_of q r time a) rests ∙ ap (λ t. call_of q last t a) times ∙ ap (call_of q last later) attempts

pair_later : (a b : ℕ) → is_pair_above (a + 1) 0 a b ≡ true
pair_later a b = grind (arith, nat_tests)

pair_next : (a b : ℕ) → is_pair_above a (b + 1) a b ≡ true
pair_next a b = grind (arith, nat_tests)

pub at_next : (hits : List Hit) (place t : ℕ) → AreBelow hits place (At t) → AreBelow hits place (At (t + 1))
at_next hits place t below = below_above hits place (At t) (At (t + 1)) (lt-ltb t (t + 1) (omega arith)) below

pub view_next : (hits : List Hit) (place t n : ℕ) → AreBelow hits place (View t n) → AreBelow hits place (View t (n + 1))
view_next hits place t n below = below_above hits place (View t n) (View t (n + 1)) (pair_next t n) below

pub view_later : (hits : List Hit) (place t n : ℕ) → AreBelow hits place (View t n) → AreBelow hits place (View (t + 1) 0)
view_later hits place t n below = below_above hits place (View t n) (View (t + 1) 0) (pair_later t n) below

pub within_now : (hits : List Hit) (place : ℕ) (begun : Bool) (latest : Option Attempt) → AreBelow hits place (in_next latest) →
    AreBelow hits place (in_now (if begun then Some (following latest) else aged latest))
within_now hits place true None below = below
within_now hits place true (Some a) below = below_above hits place (In a.number (a.offset + 1)) (In (a.number + 1) 0) (pair_later a.number (a.offset + 1)) below
within_now hits place false None below = below
within_now hits place false (Some a) below = below

pub within_next : (hits : List Hit) (place : ℕ) (latest : Option Attempt) → AreBelow hits place (in_now latest) → AreBelow hits place (in_next latest)
within_next hits place None below = below
within_next hits place (Some a) below = below_above hits place (In a.number a.offset) (In a.number (a.offset + 1)) (pair_next a.number a.offset) below

pub passed_more : (begun : Bool) (latest : Option Attempt) (time : ℕ) → IsPassed latest time → IsPassed (if begun then Some (following latest) else aged latest) (time + 1)
passed_more true None time passed = let h : 0 + 0 < time + 1 = omega arith in h
passed_more true (Some a) time passed = let h : (a.number + 1) + 0 < time + 1 = omega arith in h
passed_more false None time passed = tt
passed_more false (Some a) time passed = let h : a.number + (a.offset + 1) < time + 1 = omega arith in h

-- what is recorded, and the bus a bit time later
pub step_is : (hits : List Hit) (ports next : List PortState) (rest time : ℕ) (latest now : Option Attempt) (w x : Level) →
    w ≡ wired (map port_drives ports) → now ≡ (if begins_attempt rest w then Some (following latest) else aged latest) →
    x ≡ inverted_if (list_any (hits_wire time now) hits) w → next ≡ all_sampled hits time x 0 ports →
    (x ≡ recorded hits (call_of ports rest time latest)) × (call_of next (rest_after rest x) (time + 1) now ≡ bus_step hits (call_of ports rest time latest))
unfolding recorded bus_step
step_is hits ports next rest time latest now w x a b d e =
    let n : now ≡ (if begins_attempt rest (wired (map port_drives ports)) then Some (following latest) else aged latest) =
    b ∙ ap (λ v. if begins_attempt rest v then Some (following latest) else aged latest) a in
    let r : x ≡ recorded hits (call_of ports rest time latest) = d ∙ ap (λ m. inverted_if (list_any (hits_wire time m) hits) w) n
    ∙ ap (λ v. inverted_if (list_any (hits_wire time (if begins_attempt rest (wired (map port_drives ports)) then Some (following latest) else aged latest)) hits) v) a in
    (r, same_call (e ∙ ap (λ v. all_sampled hits time v 0 ports) r) (ap (rest_after rest) r) refl n)

-- a call begins
pub first_ready : (hits : List Hit) → IsCall hits first_call
first_ready hits = record { at = below_none hits (At 0); within = below_none hits (In 0 0); view = below_none hits (View 0 0); passed = tt }
