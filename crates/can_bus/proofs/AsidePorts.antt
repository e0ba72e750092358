-- A port that takes no part in a frame, as it is off the bus, or error passive and out of step: it drives nothing, nothing
-- that is offered matters to it, and the frame's levels don't bring it back before the last one.
use Rattle.std.specs.Prelude.{nat_le, nat_lt, min, ◌&&◌}
use Rattle.std.proofs.Common.{◌≡◌, ℕ, zero, suc, ◌+◌, ◌<◌, Bool, true, false, Option, Some, None, List, [], ◌∷◌, length, take, refl, sym, ap, subst, ◌∙◌, arith, inl, inr}
use Rattle.std.proofs.Math.Dec.{leb}
use Rattle.std.proofs.lemmas.Bool.{cases_Bool, cond-false, cond-true, cond_both, false_from_ne_true, leb-true, lt-ltb}
use Rattle.can_frame.specs.declared.level.Level.{Level}
use Rattle.can_frame.specs.declared.level.Level.TheVariants.{Dominant, Recessive}
use Rattle.can_frame.specs.Parts.{Parts, IsFrame}
use Rattle.can_wire.specs.Layout.{level_at}
use Rattle.can_code.specs.Front.{FrontParts}
use Rattle.can_fault.specs.Counters.{ConfineParts, is_bus_off, is_passive}
use Rattle.can_fault.specs.Recovery.{after_level, ends_bus_off, recovered}
use Rattle.can_terms.specs.declared.event.Event.{Event}
use Rattle.can_terms.specs.declared.event.Event.TheVariants.{Recovered}
use Rattle.can_mac.specs.declared.phase.Overloads.{Overloads}
use Rattle.can_mac.specs.declared.phase.Role.{Role}
use Rattle.can_mac.specs.declared.phase.Phase.TheVariants.{Joining, Idle, StuffedPart, CrcDelimiter, AckSlot, AckDelimiter, EndOfFrame, ErrorFlag, PassiveFlag, OverloadFlag, AfterFlag, Delimiter, Intermission, Suspend, BusOff}
use Rattle.can_mac.specs.State.{MacPhase, MacState, is_off_phase}
use Rattle.can_mac.specs.Machine.{mac_drives, mac_step, off_step, phase_drives}
use Rattle.can_mac.specs.Frames.{IsOutOfStep, with_intermission}
use Rattle.can_mac.proofs.FrameRoles.{line-start}
use Rattle.can_mac.proofs.Landing.{step_off}
use Rattle.can_mac.proofs.OutOfStep.{AwaitsRest, Goes as OutGoes, IsErrorOrNone, behind_flag, delimiter, high as waits-high, intermission, low as waits-low, passive_flag, receiver, waits-drives, waits-first}
use Rattle.can_node.specs.Passing.{IsAside}
use Rattle.can_node.specs.Ports.{PortState, IsPort, port_drives, port_noting, port_offered, port_run, port_step, waiting, with_offer}
use Rattle.can_node.proofs.OneFrame.{at_mac, step-port_noting}
use Rattle.can_node.proofs.Passing.{port_run-taken}
use Rattle.can_node.proofs.Riding.{IsUnsent, SameQueue, noted-mac, offered-through, unsent-gains, unsent-queue}
use Rattle.can_bus.specs.Run.{rest_after}
use Rattle.can_bus.proofs.RestInFrames.{rest-low, rest-within, rest_at-next}
use Rattle.can_bus.proofs.WireRuns.{rest_run}

-- before the first level
run-none : (p : PortState) (levels : List Level) → port_run p (take 0 levels) ≡ p
unfolding port_run
run-none p [] = refl
run-none p (x ∷ levels) = refl

-- what it drives
silent : (phase : MacPhase) (role : Role) (w : Option Parts) → is_off_phase phase ≡ true → phase_drives phase role w ≡ Recessive
silent (Joining row) role w e = refl
silent Idle role w e = cc
silent (StuffedPart front) role w e = cc
silent (CrcDelimiter r) role w e = refl
silent (AckSlot r) role w e = cc
silent (AckDelimiter r) role w e = refl
silent (EndOfFrame r place) role w e = refl
silent (ErrorFlag place) role w e = cc
silent (PassiveFlag last run unacknowledged) role w e = refl
silent (OverloadFlag place) role w e = cc
silent (AfterFlag first dominant) role w e = refl
silent (Delimiter place) role w e = refl
silent (Intermission place) role w e = refl
silent (Suspend place) role w e = refl
silent BusOff role w e = refl

-- what a level makes of it
pub aside-step : (q : PortState) (x : Level) → is_off_phase q.mac.phase ≡ true → port_step q x ≡ at_mac (off_step q.mac x).0 q
aside-step q x off =
    let step = step_off q.mac (waiting q.queue) x off in
    elim (cases_Bool (ends_bus_off x q.mac.counters)) [
      | inl ends ↦
          step-port_noting q x (off_step q.mac x).0 (Some Recovered) (ap (λ r. r.0) step)
          (ap (λ r. r.1) step ∙ ap (λ (r : MacState × Option Event). r.1) (cond-true (ends_bus_off x q.mac.counters) _ _ ends))
      | inr stays ↦
          step-port_noting q x (off_step q.mac x).0 None (ap (λ r. r.0) step)
          (ap (λ r. r.1) step ∙ ap (λ (r : MacState × Option Event). r.1) (cond-false (ends_bus_off x q.mac.counters) _ _ stays))
    ]

-- a controller that drives nothing, and to which it doesn't matter what waits as it samples this level; it is in no frame
pub record Apart (x : Level) (m : MacState) : Type 0 where
  pub silent : (w : Option Parts) → mac_drives m w ≡ Recessive
  pub blind : (v w : Option Parts) → mac_step m v x ≡ mac_step m w x
  pub unsent : (w : Option Parts) → IsUnsent (mac_step m w x).1
  pub elsewhere : (front : FrontParts) → m.phase ≡ StuffedPart front → ⊥

pub apart-drives : (q : PortState) (x : Level) → Apart x q.mac → port_drives q ≡ Recessive
unfolding port_drives
apart-drives q x apart = apart.silent (waiting q.queue)

module _ (q : PortState) (x : Level) (apart : Apart x q.mac) where
  abbrev event : Option Event
  event = (mac_step q.mac (waiting q.queue) x).1

  abbrev after : MacState
  after = (mac_step q.mac (waiting q.queue) x).0

  here : port_step q x ≡ port_noting event (at_mac after q)
  here = step-port_noting q x after event refl refl

  -- its queue stays as it is
  pub apart-queue : SameQueue (port_step q x) q
  apart-queue =
      let same = unsent-queue event (apart.unsent (waiting q.queue)) (at_mac after q) in
      record { queue = ap (λ (p : PortState). p.queue) here ∙ same.queue; room = ap (λ (p : PortState). p.queue_room) here ∙ same.room }

  -- what is offered before the level may as well be offered after it
  pub apart-offered : (g : Parts) → port_step (with_offer g q) x ≡ with_offer g (port_step q x)
  apart-offered g =
      let more = port_offered g q in
      let same = apart.blind (waiting more.queue) (waiting q.queue) in
      offered-through q x g
      (step-port_noting more x after event (ap (λ r. r.0) same) (ap (λ r. r.1) same)
      ∙ unsent-gains event (apart.unsent (waiting q.queue)) (g ∷ []) (at_mac after q) ∙ ap (port_offered g) (sym here))
      apart-queue

-- off the bus
off-apart : (m : MacState) (x : Level) → is_off_phase m.phase ≡ true → Apart x m
unfolding mac_drives
off-apart m x off = record {
  silent = λ w. silent m.phase m.role w off;
  blind = λ v w. step_off m v x off ∙ sym (step_off m w x off);
  unsent = λ w. subst (λ (r : MacState × Option Event). IsUnsent r.1) (sym (step_off m w x off))
      (cond_both {A = MacState × Option Event} (ends_bus_off x m.counters) _ _ (λ r. IsUnsent r.1) (λ e. tt) (λ e. tt));
  elsewhere = λ front e. let on : is_off_phase m.phase ≡ false = ap is_off_phase e in let no : true ≡ false = sym off ∙ on in cc;
}

-- off the bus, and as far from coming back as this
record Stays (rest : ℕ) (q : PortState) : Type 0 where
  off : is_off_phase q.mac.phase ≡ true
  counts : is_bus_off q.mac.counters ≡ true
  few : q.mac.counters.occurrences < 128
  row : q.mac.counters.row ≡ rest

abbrev with_row : ℕ → PortState → PortState
with_row row q = at_mac (record { phase = q.mac.phase; role = q.mac.role; overloads = q.mac.overloads; counters = record { tec = q.mac.counters.tec; rec = q.mac.counters.rec; occurrences = q.mac.counters.occurrences; row = row } }) q

not-many : (b : Bool) (n : ℕ) → n < 128 → b && nat_le 128 n ≡ false
not-many true n few = false_from_ne_true (leb 128 n) (λ e. omega (arith, few, leb-true 128 n e))
not-many false n few = refl

-- a level that isn't the eleventh in a row
goes-on : (q : PortState) (x : Level) (c : ConfineParts) → is_off_phase q.mac.phase ≡ true → is_bus_off q.mac.counters ≡ true → after_level x q.mac.counters ≡ c → c.occurrences < 128 →
    port_step q x ≡ at_mac (record { phase = q.mac.phase; role = q.mac.role; overloads = q.mac.overloads; counters = c }) q
goes-on q x c off counts after few =
    let none : ends_bus_off x q.mac.counters ≡ false = ap (λ d. is_bus_off q.mac.counters && nat_le 128 d.occurrences) after ∙ not-many (is_bus_off q.mac.counters) c.occurrences few in
    let counted : recovered x q.mac.counters ≡ c =
    cond-true (is_bus_off q.mac.counters) _ _ counts ∙ cond-false (ends_bus_off x q.mac.counters) _ _ none ∙ after in
    aside-step q x off
    ∙ ap (λ (r : MacState × Option Event). at_mac r.0 q) (cond-false (ends_bus_off x q.mac.counters) _ _ none)
    ∙ ap (λ d. at_mac (record { phase = q.mac.phase; role = q.mac.role; overloads = q.mac.overloads; counters = d }) q) counted

low : (q : PortState) → is_off_phase q.mac.phase ≡ true → is_bus_off q.mac.counters ≡ true → q.mac.counters.occurrences < 128 → port_step q Dominant ≡ with_row 0 q
low q off counts few = goes-on q Dominant (with_row 0 q).mac.counters off counts refl few

high : (q : PortState) → is_off_phase q.mac.phase ≡ true → is_bus_off q.mac.counters ≡ true → q.mac.counters.occurrences < 128 → q.mac.counters.row < 10 → port_step q Recessive ≡ with_row (q.mac.counters.row + 1) q
high q off counts few short =
    goes-on q Recessive (with_row (q.mac.counters.row + 1) q).mac.counters off counts (cond-true (nat_lt q.mac.counters.row 10) _ _ (lt-ltb q.mac.counters.row 10 short)) few

module _ (f : Parts) (is : IsFrame f) (p : PortState) (valid : IsPort p) (aside : is_bus_off p.mac.counters ≡ true) where
  abbrev line : List Level
  line = with_intermission f

  abbrev ridden : ℕ → PortState
  ridden o = port_run p (take o (with_intermission f))

  abbrev rest_at : ℕ → ℕ
  rest_at o = rest_run 11 (take o (with_intermission f))

  begins : is_off_phase p.mac.phase ≡ true
  begins = valid.mac.off ∙ aside

  unrun : ridden 0 ≡ p
  unrun = run-none p (with_intermission f)

  stays-by : (o : ℕ) → o < length (with_intermission f) → (q : PortState) → ridden o ≡ q → (x : Level) → level_at (with_intermission f) o ≡ x → (next : PortState) → port_step q x ≡ next → ridden (suc o) ≡ next
  stays-by o within q was x level next step = port_run-taken (with_intermission f) p o within ∙ ap (λ r. port_step r (level_at (with_intermission f) o)) was ∙ ap (port_step q) level ∙ step

  -- within f it stays off the bus
  stays-next : (o : ℕ) → suc (suc o) < length (with_intermission f) → Stays (rest_at (suc o)) (ridden (suc o)) → (x : Level) → level_at (with_intermission f) (suc o) ≡ x → Stays (rest_at (suc (suc o))) (ridden (suc (suc o)))
  stays-next o within before Dominant e =
      let q = ridden (suc o) in
      let row : rest_at (suc (suc o)) ≡ 0 = rest_at-next f is 11 (suc o) (omega (arith, within)) ∙ ap (rest_after (rest_at (suc o))) e in
      subst (Stays (rest_at (suc (suc o)))) (sym (stays-by (suc o) (omega (arith, within)) q refl Dominant e (with_row 0 q) (low q before.off before.counts before.few)))
      (record { off = before.off; counts = before.counts; few = before.few; row = sym row })
  stays-next o within before Recessive e =
      let q = ridden (suc o) in
      let more : rest_at (suc (suc o)) ≡ min (rest_at (suc o) + 1) 11 = rest_at-next f is 11 (suc o) (omega (arith, within)) ∙ ap (rest_after (rest_at (suc o))) e in
      let fewer = rest-within f is 11 (suc (suc o)) (omega arith) within in
      let short : q.mac.counters.row < 10 = omega (arith, before.row, more, fewer) in
      let row : q.mac.counters.row + 1 ≡ rest_at (suc (suc o)) = omega (arith, before.row, more, fewer) in
      subst (Stays (rest_at (suc (suc o)))) (sym (stays-by (suc o) (omega (arith, within)) q refl Recessive e (with_row (q.mac.counters.row + 1) q) (high q before.off before.counts before.few short)))
      (record { off = before.off; counts = before.counts; few = before.few; row = row })

  stays : (o : ℕ) → suc o < length (with_intermission f) → Stays (rest_at (suc o)) (ridden (suc o))
  stays zero within =
      let first : ridden 1 ≡ with_row 0 p =
      stays-by 0 (omega (arith, within)) p unrun Dominant (line-start f) (with_row 0 p) (low p begins aside valid.mac.counters.occurrences) in
      let row : rest_at 1 ≡ 0 = rest_at-next f is 11 0 (omega (arith, within)) ∙ ap (rest_after (rest_at 0)) (line-start f) in
      subst (Stays (rest_at 1)) (sym first) (record { off = begins; counts = aside; few = valid.mac.counters.occurrences; row = sym row })
  stays (suc o) within = stays-next o within (stays o (omega (arith, within))) (level_at (with_intermission f) (suc o)) refl

  pub stays-off : (o : ℕ) → o < length (with_intermission f) → is_off_phase (port_run p (take o (with_intermission f))).mac.phase ≡ true
  stays-off zero within = ap (λ (q : PortState). is_off_phase q.mac.phase) unrun ∙ begins
  stays-off (suc o) within = (stays o within).off

-- ---- out of step

-- this many recessive levels were the last
record Out (rest : ℕ) (q : PortState) : Type 0 where
  phase : MacPhase
  overloads : Overloads
  counters : ConfineParts
  mac : q.mac ≡ receiver phase overloads counters
  waits : AwaitsRest rest phase
  unasked : overloads.pending ≡ 0
  passive : is_passive counters ≡ true
  on_bus : is_bus_off counters ≡ false

error-unsent : (told : Option Event) → IsErrorOrNone told → IsUnsent told
error-unsent told (inl none) = subst IsUnsent (sym none) tt
error-unsent told (inr error) = subst IsUnsent (sym error.1) tt

unpart : (rest : ℕ) (phase : MacPhase) → AwaitsRest rest phase → (front : FrontParts) → phase ≡ StuffedPart front → ⊥
unpart rest _ (passive_flag r last run) front e = cc
unpart rest _ (behind_flag r first dominant) front e = cc
unpart rest _ (delimiter r place within) front e = cc
unpart rest _ (intermission r place within) front e = cc

goes-apart : (rest : ℕ) (q : PortState) (x : Level) (out : Out rest q) → OutGoes out.phase out.overloads out.counters x → Apart x q.mac
goes-apart rest q x out goes = record {
  silent = λ w. ap (λ m. mac_drives m w) out.mac ∙ waits-drives rest out.phase out.overloads out.counters w out.waits;
  blind = λ v w. ap (λ m. mac_step m v x) out.mac ∙ goes.step v ∙ sym (goes.step w) ∙ ap (λ m. mac_step m w x) (sym out.mac);
  unsent = λ w. subst (λ (r : MacState × Option Event). IsUnsent r.1) (sym (ap (λ m. mac_step m w x) out.mac ∙ goes.step w)) (error-unsent goes.told goes.error);
  elsewhere = λ front e. unpart rest out.phase out.waits front (sym (ap (λ (m : MacState). m.phase) out.mac) ∙ e);
}

goes-out : (rest next : ℕ) (q : PortState) (x : Level) (out : Out rest q) → (goes : OutGoes out.phase out.overloads out.counters x) → AwaitsRest next goes.next → Out next (port_step q x)
goes-out rest next q x out goes waits = record {
  phase = goes.next;
  overloads = out.overloads;
  counters = goes.counters;
  mac =
      let step : mac_step q.mac (waiting q.queue) x ≡ (receiver goes.next out.overloads goes.counters, goes.told) = ap (λ m. mac_step m (waiting q.queue) x) out.mac ∙ goes.step (waiting q.queue) in
      ap (λ (p : PortState). p.mac) (step-port_noting q x (receiver goes.next out.overloads goes.counters) goes.told (ap (λ r. r.0) step) (ap (λ r. r.1) step))
      ∙ noted-mac goes.told (at_mac (receiver goes.next out.overloads goes.counters) q);
  waits = waits;
  unasked = out.unasked;
  passive = goes.passive;
  on_bus = goes.on_bus;
}

out-apart : (rest : ℕ) (q : PortState) (x : Level) → Out rest q → (x ≡ Dominant → rest < 7) → Apart x q.mac
out-apart rest q Dominant out few = goes-apart rest q Dominant out (waits-low out.overloads out.counters out.unasked out.passive out.on_bus rest out.phase out.waits (few refl)).0
out-apart rest q Recessive out few = goes-apart rest q Recessive out (waits-high out.overloads out.counters out.unasked out.passive out.on_bus rest out.phase out.waits).0

out-next : (rest next : ℕ) (q : PortState) (x : Level) → Out rest q → (x ≡ Dominant → rest < 7) → (x ≡ Recessive → (rest < 10) × (next ≡ rest + 1)) → Out next (port_step q x)
out-next rest next q Dominant out few more =
    let goes = waits-low out.overloads out.counters out.unasked out.passive out.on_bus rest out.phase out.waits (few refl) in
    goes-out rest next q Dominant out goes.0 (goes.1 next)
out-next rest next q Recessive out few more =
    let goes = waits-high out.overloads out.counters out.unasked out.passive out.on_bus rest out.phase out.waits in
    goes-out rest next q Recessive out goes.0 (subst (λ k. AwaitsRest k goes.0.next) (sym (more refl).1) (goes.1 (more refl).0))

module _ (f : Parts) (is : IsFrame f) (p : PortState) (aside : IsOutOfStep p.mac) where
  abbrev trail : ℕ → PortState
  trail o = port_run p (take o (with_intermission f))

  abbrev stood : ℕ → ℕ
  stood o = rest_run 11 (take o (with_intermission f))

  begins-out : Out 6 p
  begins-out = record {
    phase = p.mac.phase;
    overloads = p.mac.overloads;
    counters = p.mac.counters;
    mac = ap (λ r. let m : MacState = record { phase = p.mac.phase; role = r; overloads = p.mac.overloads; counters = p.mac.counters } in m) aside.role;
    waits = waits-first p.mac.phase aside.phase;
    unasked = aside.unasked;
    passive = aside.passive;
    on_bus = aside.on_bus;
  }

  unmoved : trail 0 ≡ p
  unmoved = run-none p (with_intermission f)

  -- after this many of its levels
  outs : (o : ℕ) → suc o < length (with_intermission f) → Out (stood (suc o)) (trail (suc o))
  outs zero within =
      subst (Out (stood 1)) (sym (port_run-taken (with_intermission f) p 0 (omega (arith, within)) ∙ ap (λ q. port_step q (level_at (with_intermission f) 0)) unmoved))
      (out-next 6 (stood 1) p (level_at (with_intermission f) 0) begins-out (λ e. omega arith) (λ e. let no : Dominant ≡ Recessive = sym (line-start f) ∙ e in cc))
  outs (suc o) within =
      let x = level_at (with_intermission f) (suc o) in
      let inside : suc o < length (with_intermission f) = omega (arith, within) in
      subst (Out (stood (suc (suc o)))) (sym (port_run-taken (with_intermission f) p (suc o) inside))
      (out-next (stood (suc o)) (stood (suc (suc o))) (trail (suc o)) x (outs o inside) (λ e. rest-low f is 11 (suc o) (omega arith) inside e)
      (λ e.
      let next : stood (suc (suc o)) ≡ min (stood (suc o) + 1) 11 = rest_at-next f is 11 (suc o) inside ∙ ap (rest_after (stood (suc o))) e in
      let fewer = rest-within f is 11 (suc (suc o)) (omega arith) within in
      (omega (arith, next, fewer), omega (arith, next, fewer))))

  out-of-step : (o : ℕ) → o < length (with_intermission f) → Apart (level_at (with_intermission f) o) (trail o).mac
  out-of-step zero within = subst (λ (q : PortState). Apart (level_at (with_intermission f) 0) q.mac) (sym unmoved) (out-apart 6 p (level_at (with_intermission f) 0) begins-out (λ e. omega arith))
  out-of-step (suc o) within = out-apart (stood (suc o)) (trail (suc o)) (level_at (with_intermission f) (suc o)) (outs o within) (λ e. rest-low f is 11 (suc o) (omega arith) within e)

-- a port that takes no part in f, as bit time o of f begins
pub aside-apart : (f : Parts) → IsFrame f → (p : PortState) → IsPort p → IsAside p → (o : ℕ) → o < length (with_intermission f) → Apart (level_at (with_intermission f) o) (port_run p (take o (with_intermission f))).mac
aside-apart f is p valid (inl off) o within = off-apart (port_run p (take o (with_intermission f))).mac (level_at (with_intermission f) o) (stays-off f is p valid off o within)
aside-apart f is p valid (inr out) o within = out-of-step f is p out o within
