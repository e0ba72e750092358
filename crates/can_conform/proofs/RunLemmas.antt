-- The run of a case, one bit time further.
use Rattle.std.specs.Prelude.{slice_get, ◌==◌, ◌&&◌, if◌then◌else◌}
use Rattle.std.proofs.Common.{◌≡◌, ℕ, zero, suc, ◌+◌, ◌-◌, ◌<◌, ◌≤◌, true, Option, Some, None, length, refl, sym, ap, ◌∙◌, arith, add-one}
use Rattle.std.specs.Option.{unwrap_or}
use Rattle.std.proofs.lemmas.Bool.Decides.{nat_tests}
use Rattle.std.proofs.lemmas.Option.{slice_get_past, slice_get-get_or}
use Rattle.can_frame.specs.declared.level.Level.{Level}
use Rattle.can_frame.specs.declared.level.Level.TheVariants.{Recessive}
use Rattle.can_terms.specs.declared.event.Event.{Event}
use Rattle.can_node.specs.Ports.{PortState, port_drives}
use Rattle.can_conform.specs.declared.moment.Moment.{Moment}
use Rattle.can_terms.specs.declared.script.Script.{Script}
use Rattle.can_terms.specs.declared.script.TesterLevel.{TesterLevel}
use Rattle.can_terms.specs.declared.script.TesterLevel.TheVariants as tester
use Rattle.can_conform.specs.declared.standing.Rule.{Rule}
use Rattle.can_terms.specs.declared.timed.Timed.{Timed}
use Rattle.can_terms.specs.declared.transcript.Counters.{Counters}
use Rattle.can_conform.specs.Transcripts.{changed_in, same_counters}
use Rattle.can_terms.specs.Cases.{seen_by}
use Rattle.can_conform.specs.Runs.{before, behind, counters_of, event_of, handed, last_event, driven_in, met, moment_at, next_rule, rule_before, since_before, started, told_event}
use Rattle.can_mac.specs.State.{kind_of}
use Rattle.can_conform.specs.Standings.{phase_rule, rule_after}

-- ---- the first bit time

pub before-first : (s : Script) → before s 0 ≡ started s.start
unfolding before
before-first s = refl

pub since-first : (s : Script) → since_before s 0 ≡ None
unfolding since_before
since-first s = refl

pub rule-first : (s : Script) → rule_before s 0 ≡ phase_rule (started s.start).mac.phase (started s.start).mac.role
unfolding rule_before
rule-first s = refl

-- ---- one bit time further

pub before-more : (s : Script) (t : ℕ) → before s (t + 1) ≡ behind (slice_get s.tester.items t) s t (before s t)
unfolding before
before-more s t = rw add-one refl

pub since-more : (s : Script) (t : ℕ) → since_before s (t + 1) ≡ last_event (moment_at s t).event t (since_before s t)
unfolding since_before
since-more s t = rw add-one refl

pub rule-more : (s : Script) (t : ℕ) → rule_before s (t + 1) ≡ next_rule (slice_get s.tester.items t) s t (before s t) (rule_before s t)
unfolding rule_before
rule-more s t = rw add-one refl

-- ---- within the case

-- the port drives a level in each bit time of the case
pub level-within : (s : Script) (t : ℕ) → t < length s.tester.items → (x : Level) × ((moment_at s t).drove ≡ Some x)
level-within s t within =
    let some = slice_get-get_or s.tester.items t tester.Recessive within in
    (port_drives (handed s t (before s t)), ap (λ o. driven_in o s t (before s t)) some)

-- ---- after the last bit time nothing happens

tester-past : (s : Script) (t : ℕ) → length s.tester.items ≤ t → slice_get s.tester.items t ≡ None
tester-past s t past = slice_get_past s.tester.items t past

pub level-past : (s : Script) (t : ℕ) → length s.tester.items ≤ t → (moment_at s t).drove ≡ None
level-past s t past = ap (λ o. driven_in o s t (before s t)) (tester-past s t past)

pub event-past : (s : Script) (t : ℕ) → length s.tester.items ≤ t → (moment_at s t).event ≡ None
event-past s t past = ap (λ o. event_of o s t (before s t)) (tester-past s t past)

before-still : (s : Script) (t : ℕ) → length s.tester.items ≤ t → before s (t + 1) ≡ before s t
before-still s t past = before-more s t ∙ ap (λ o. behind o s t (before s t)) (tester-past s t past)

since-still : (s : Script) (t : ℕ) → length s.tester.items ≤ t → since_before s (t + 1) ≡ since_before s t
since-still s t past = since-more s t ∙ ap (λ e. last_event e t (since_before s t)) (event-past s t past)

rule-still : (s : Script) (t : ℕ) → length s.tester.items ≤ t → rule_before s (t + 1) ≡ rule_before s t
rule-still s t past = rule-more s t ∙ ap (λ o. next_rule o s t (before s t) (rule_before s t)) (tester-past s t past)

same-self : (c : Counters) → same_counters c c ≡ true
same-self c =
    let one : (c.transmit == c.transmit) ≡ true = grind (arith, nat_tests) in
    let other : (c.receive == c.receive) ≡ true = grind (arith, nat_tests) in
    ap (λ b. b && (c.receive == c.receive)) one ∙ other

pub changed-past : (s : Script) (t : ℕ) → length s.tester.items ≤ t → changed_in s t ≡ None
changed-past s t past =
    let still : same_counters (counters_of (before s (t + 1))) (counters_of (before s t)) ≡ true =
    ap (λ p. same_counters (counters_of p) (counters_of (before s t))) (before-still s t past) ∙ same-self (counters_of (before s t)) in
    ap (λ b. if b then None else Some (counters_of (before s (t + 1)))) still

-- n bit times later
later : (s : Script) (n : ℕ) → before s (length s.tester.items + n) ≡ before s (length s.tester.items)
later s zero = ap (before s) (let e : length s.tester.items + 0 ≡ length s.tester.items = omega arith in e)
later s (suc n) =
    ap (before s) (let e : length s.tester.items + suc n ≡ (length s.tester.items + n) + 1 = omega arith in e)
    ∙ before-still s (length s.tester.items + n) (omega arith) ∙ later s n

since-later : (s : Script) (n : ℕ) → since_before s (length s.tester.items + n) ≡ since_before s (length s.tester.items)
since-later s zero = ap (since_before s) (let e : length s.tester.items + 0 ≡ length s.tester.items = omega arith in e)
since-later s (suc n) =
    ap (since_before s) (let e : length s.tester.items + suc n ≡ (length s.tester.items + n) + 1 = omega arith in e)
    ∙ since-still s (length s.tester.items + n) (omega arith) ∙ since-later s n

rule-later : (s : Script) (n : ℕ) → rule_before s (length s.tester.items + n) ≡ rule_before s (length s.tester.items)
rule-later s zero = ap (rule_before s) (let e : length s.tester.items + 0 ≡ length s.tester.items = omega arith in e)
rule-later s (suc n) =
    ap (rule_before s) (let e : length s.tester.items + suc n ≡ (length s.tester.items + n) + 1 = omega arith in e)
    ∙ rule-still s (length s.tester.items + n) (omega arith) ∙ rule-later s n

pub before-past : (s : Script) (t : ℕ) → length s.tester.items ≤ t → before s t ≡ before s (length s.tester.items)
before-past s t past = ap (before s) (let e : t ≡ length s.tester.items + (t - length s.tester.items) = omega arith in e) ∙ later s (t - length s.tester.items)

pub since-past : (s : Script) (t : ℕ) → length s.tester.items ≤ t → since_before s t ≡ since_before s (length s.tester.items)
since-past s t past = ap (since_before s) (let e : t ≡ length s.tester.items + (t - length s.tester.items) = omega arith in e) ∙ since-later s (t - length s.tester.items)

pub rule-past : (s : Script) (t : ℕ) → length s.tester.items ≤ t → rule_before s t ≡ rule_before s (length s.tester.items)
rule-past s t past = ap (rule_before s) (let e : t ≡ length s.tester.items + (t - length s.tester.items) = omega arith in e) ∙ rule-later s (t - length s.tester.items)

moment-same : (s : Script) (t : ℕ) (drove : Option Level) (event : Option Event) (q : PortState) → drove ≡ (moment_at s t).drove → event ≡ (moment_at s t).event → q ≡ before s (t + 1) →
    (let m : Moment = record { drove = drove; event = event; counters = counters_of q } in m) ≡ moment_at s t
moment-same s t drove event q level told after =
    ap (λ d. let m : Moment = record { drove = d; event = event; counters = counters_of q } in m) level
    ∙ ap (λ e. let m : Moment = record { drove = (moment_at s t).drove; event = e; counters = counters_of q } in m) told
    ∙ ap (λ r. let m : Moment = record { drove = (moment_at s t).drove; event = (moment_at s t).event; counters = counters_of r } in m) after

-- ---- one bit time of a port in the state of the run

-- what it did is the moment of the run
pub moment-met : (s : Script) (t : ℕ) (x : TesterLevel) (p q : PortState) (drove : Option Level) (event : Option Event) → slice_get s.tester.items t ≡ Some x → p ≡ before s t → q ≡ before s (t + 1) →
    drove ≡ Some (port_drives (handed s t p)) → event ≡ told_event x (handed s t p) → (let m : Moment = record { drove = drove; event = event; counters = counters_of q } in m) ≡ moment_at s t
moment-met s t x p q drove event here is after level told =
    let drove-is : drove ≡ (moment_at s t).drove = level ∙ ap (λ r. Some (port_drives (handed s t r))) is ∙ sym (ap (λ o. driven_in o s t (before s t)) here) in
    let event-is : event ≡ (moment_at s t).event = told ∙ ap (λ r. told_event x (handed s t r)) is ∙ sym (ap (λ o. event_of o s t (before s t)) here) in
    moment-same s t drove event q drove-is event-is after

pub moment-still : (s : Script) (t : ℕ) (q : PortState) → slice_get s.tester.items t ≡ None → q ≡ before s (t + 1) →
    (let m : Moment = record { drove = None; event = None; counters = counters_of q } in m) ≡ moment_at s t
moment-still s t q none after =
    moment-same s t None None q (sym (ap (λ o. driven_in o s t (before s t)) none)) (sym (ap (λ o. event_of o s t (before s t)) none)) after

-- ---- its state, one bit time later

-- the rule after a bit time of the case, from what the port did in it
pub rule-met : (s : Script) (t : ℕ) (x : TesterLevel) → slice_get s.tester.items t ≡ Some x →
    rule_after (moment_at s t).event (kind_of (before s t).mac) (seen_by x (unwrap_or (moment_at s t).drove Recessive)) (before s (t + 1)).mac ≡ rule_before s (t + 1)
rule-met s t x here =
    let p = before s t in
    let behind_it : Option TesterLevel → Rule = λ o. rule_after (event_of o s t p) (kind_of p.mac) (seen_by x (unwrap_or (driven_in o s t p) Recessive)) (behind o s t p).mac in
    ap (λ q. rule_after (moment_at s t).event (kind_of p.mac) (seen_by x (unwrap_or (moment_at s t).drove Recessive)) q.mac) (before-more s t)
    ∙ ap behind_it here
    ∙ sym (rule-more s t ∙ ap (λ o. next_rule o s t p (rule_before s t)) here)

-- after the case it stays
pub rule-stays : (s : Script) (t : ℕ) → slice_get s.tester.items t ≡ None → rule_before s (t + 1) ≡ rule_before s t
rule-stays s t none = rule-more s t ∙ ap (λ o. next_rule o s t (before s t) (rule_before s t)) none

pub since-stays : (s : Script) (t : ℕ) → slice_get s.tester.items t ≡ None → since_before s (t + 1) ≡ since_before s t
since-stays s t none = since-more s t ∙ ap (λ o. last_event (event_of o s t (before s t)) t (since_before s t)) none

-- ---- a port in the state of the run

pub port-met : (s : Script) (t : ℕ) (x : TesterLevel) (p q : PortState) → slice_get s.tester.items t ≡ Some x → p ≡ before s t → q ≡ met x (handed s t p) → q ≡ before s (t + 1)
port-met s t x p q here port is = is ∙ ap (λ r. met x (handed s t r)) port ∙ sym (before-more s t ∙ ap (λ o. behind o s t (before s t)) here)

pub port-still : (s : Script) (t : ℕ) (p : PortState) → slice_get s.tester.items t ≡ None → p ≡ before s t → p ≡ before s (t + 1)
port-still s t p none port = port ∙ sym (before-more s t ∙ ap (λ o. behind o s t (before s t)) none)
