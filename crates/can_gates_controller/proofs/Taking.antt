-- Registers that take what others were.
use Rattle.std.proofs.Common.{◌≡◌, ℕ, Bool, true, false, cond, refl, ◌∙◌, ap}
use Rattle.can_mac.specs.State.{MacState, idle, joining}
use Rattle.can_mac.proofs.Kept.{IsMac-idle, IsMac-joining}
use Rattle.can_gates.specs.Circuit.{value}
use Rattle.can_gates.specs.Words.{number}
use Rattle.can_gates_mac.specs.declared.registers.Controller.{Controller}
use Rattle.can_gates_mac.specs.declared.registers.Counters.{Counters}
use Rattle.can_gates_mac.specs.Nibbles.{nibble}
use Rattle.can_gates_mac.specs.Numbers.{Numbers}
use Rattle.can_gates_mac.specs.Shown.{shown}
use Rattle.can_gates_mac.specs.Stepping.{Holds, reset_numbers}
use Rattle.can_gates_controller.specs.declared.heard.Heard.{Heard}
use Rattle.can_gates_controller.specs.declared.registers.Registers.{Registers}
use Rattle.can_gates_controller.specs.Stepped.{TakesLevels}
use Rattle.can_gates_controller.specs.Whole.{HoldsAll}

-- the numbers of registers: the cause and the event of a bit time are not stored
abbrev pub held_numbers : Numbers → Numbers
held_numbers n = record n { cause = 0; event = 0 }

pub record TakesCounters (before now : ℕ → Bool) (held next : Counters) : Type 0 where
  pub tec : number now held.tec ≡ number before next.tec
  pub rec : number now held.rec ≡ number before next.rec
  pub occurrences : number now held.occurrences ≡ number before next.occurrences

pub record TakesHeard (before now : ℕ → Bool) (held next : Heard) : Type 0 where
  pub levels : TakesLevels before now 103 held.levels next.levels
  pub count : number now held.count ≡ number before next.count
  pub last : value now held.last ≡ value before next.last
  pub run : nibble now held.run ≡ nibble before next.run
  pub check : TakesLevels before now 15 held.check next.check

-- the registers are now what these literals were before
pub record Takes (before now : ℕ → Bool) (held next : Registers) : Type 0 where
  pub wires : held_numbers (shown now held.controller.wires) ≡ held_numbers (shown before next.controller.wires)
  pub counters : TakesCounters before now held.controller.counters next.controller.counters
  pub heard : TakesHeard before now held.heard next.heard
  pub own : TakesLevels before now 103 held.own next.own

-- all registers of the controller are 0, except that the lowest bit of its phase is whether it joins; those of frames may have any value
pub record IsReset (v : ℕ → Bool) (k : Registers) (integrating : Bool) : Type 0 where
  pub wires : held_numbers (shown v k.controller.wires) ≡ reset_numbers (cond integrating 1 0)
  pub tec : number v k.controller.counters.tec ≡ 0
  pub rec : number v k.controller.counters.rec ≡ 0
  pub occurrences : number v k.controller.counters.occurrences ≡ 0

controller_takes : (v w : ℕ → Bool) (held next : Controller) (m : MacState) → held_numbers (shown w held.wires) ≡ held_numbers (shown v next.wires) → TakesCounters v w held.counters next.counters → Holds v next m → Holds w held m
unfolding shown
controller_takes v w held next m t counters h = record {
  phase = ap (λ (n : Numbers). n.phase) t ∙ h.phase;
  place = ap (λ (n : Numbers). n.place) t ∙ h.place;
  last = ap (λ (n : Numbers). n.last) t ∙ h.last;
  unacknowledged = ap (λ (n : Numbers). n.unacknowledged) t ∙ h.unacknowledged;
  first = ap (λ (n : Numbers). n.first) t ∙ h.first;
  sender = ap (λ (n : Numbers). n.sender) t ∙ h.sender;
  pending = ap (λ (n : Numbers). n.pending) t ∙ h.pending;
  used = ap (λ (n : Numbers). n.used) t ∙ h.used;
  counters = record { tec = counters.tec ∙ h.counters.tec; rec = counters.rec ∙ h.counters.rec; occurrences = counters.occurrences ∙ h.counters.occurrences };
}

-- registers that take what holds a controller hold it
pub takes_holds : (v w : ℕ → Bool) (held next : Registers) (m : MacState) → Takes v w held next → HoldsAll v next m → HoldsAll w held m
takes_holds v w held next m t h = record {
  is = h.is;
  settled = h.settled;
  controller = controller_takes v w held.controller next.controller m t.wires t.counters h.controller;
  heard = record {
    front = λ front e.
        let f = h.heard.front front e in
        record { levels = λ p l. t.heard.levels p l ∙ f.levels p l; count = t.heard.count ∙ f.count; run = record { last = t.heard.last ∙ f.run.last; run = t.heard.run ∙ f.run.run }; check = λ p l. t.heard.check p l ∙ f.check p l };
    told = λ r e.
        let f = h.heard.told r e in
        record { unstuffed = f.unstuffed; complete = f.complete; told = f.told; levels = λ p l. t.heard.levels p l ∙ f.levels p l; count = t.heard.count ∙ f.count; some = rw t.heard.run f.some; short = rw t.heard.run f.short; check = λ p l. t.heard.check p l ∙ f.check p l };
  };
  own = record { levels = λ f e role p l. t.own p l ∙ h.own.levels f e role p l; sent = h.own.sent };
}

pub reset_holds : (v : ℕ → Bool) (k : Registers) (integrating : Bool) → IsReset v k integrating → HoldsAll v k (cond integrating joining idle)
unfolding shown
reset_holds v k true r = record {
  is = IsMac-joining;
  settled = refl;
  controller = record {
    phase = ap (λ (n : Numbers). n.phase) r.wires;
    place = ap (λ (n : Numbers). n.place) r.wires;
    last = ap (λ (n : Numbers). n.last) r.wires;
    unacknowledged = ap (λ (n : Numbers). n.unacknowledged) r.wires;
    first = ap (λ (n : Numbers). n.first) r.wires;
    sender = ap (λ (n : Numbers). n.sender) r.wires;
    pending = ap (λ (n : Numbers). n.pending) r.wires;
    used = ap (λ (n : Numbers). n.used) r.wires;
    counters = record { tec = r.tec; rec = r.rec; occurrences = r.occurrences };
  };
  heard = record { front = λ front e. cc e; told = λ t e. cc e };
  own = record { levels = λ f e role. cc e; sent = λ f front e role. cc e };
}
reset_holds v k false r = record {
  is = IsMac-idle;
  settled = refl;
  controller = record {
    phase = ap (λ (n : Numbers). n.phase) r.wires;
    place = ap (λ (n : Numbers). n.place) r.wires;
    last = ap (λ (n : Numbers). n.last) r.wires;
    unacknowledged = ap (λ (n : Numbers). n.unacknowledged) r.wires;
    first = ap (λ (n : Numbers). n.first) r.wires;
    sender = ap (λ (n : Numbers). n.sender) r.wires;
    pending = ap (λ (n : Numbers). n.pending) r.wires;
    used = ap (λ (n : Numbers). n.used) r.wires;
    counters = record { tec = r.tec; rec = r.rec; occurrences = r.occurrences };
  };
  heard = record { front = λ front e. cc e; told = λ t e. cc e };
  own = record { levels = λ f e role. cc e; sent = λ f front e role. cc e };
}
