-- What a controller knows of the levels, over bit times in a row.
use Rattle.std.proofs.Common.{◌≡◌, ℕ, zero, suc, true, Option, Some, None, List, [], ◌∷◌, ◌++◌, take, sym, subst, append_assoc, inl, inr}
use Rattle.std.specs.List.{slice_get}
use Rattle.std.proofs.lemmas.Bool.{cases_Bool, cond_both}
use Rattle.can_frame.specs.declared.level.Level.{Level}
use Rattle.can_frame.specs.Parts.{Parts}
use Rattle.can_fault.specs.Recovery.{ends_bus_off, recovered}
use Rattle.can_terms.specs.declared.event.Event.{Event}
use Rattle.can_terms.specs.declared.event.Event.TheVariants.{Recovered}
use Rattle.can_mac.specs.declared.phase.Phase.TheVariants.{Idle}
use Rattle.can_mac.specs.State.{MacState, is_off_phase, IsFrameOrNone}
use Rattle.can_mac.specs.Machine.{stance, off_step, mac_step}
use Rattle.can_mac.proofs.Turns.{Turn, levels_of, after_turn, turn_event, turn_events}
use Rattle.can_mac.proofs.TurnEnds.{on_bus, off_bus, off_is}
use Rattle.can_mac.proofs.Hearing.{Knows, IsTold}
use Rattle.can_mac.proofs.HearingMoves.{move-knows}

-- in each bit time the frame that waits is one
abbrev pub AreTurns : List Turn → Type 0
AreTurns [] = Unit {0}
AreTurns (t ∷ turns) = IsFrameOrNone t.waiting × AreTurns turns

-- what a controller knows of the levels
abbrev pub MacKnows : MacState → List Level → Type 0
MacKnows m levels = Knows m.phase m.role levels

-- one bit time
module _ (m : MacState) (waiting : Option Parts) (x : Level) (levels : List Level) where
  -- what it knows and reports then
  abbrev KnowsThen : MacState → Option Event → Type 0
  KnowsThen n e = MacKnows n (levels ++ x ∷ []) × IsTold e (levels ++ x ∷ [])

  -- off the bus it knows nothing
  off-knows : is_off_phase m.phase ≡ true → KnowsThen (off_step m x).0 (off_step m x).1
  off-knows off =
      cond_both {A = MacState × Option Event} (ends_bus_off x m.counters)
      (record m { phase = Idle; counters = recovered x m.counters }, Some Recovered)
      (record m { counters = recovered x m.counters }, None)
      (λ p. KnowsThen p.0 p.1)
      (λ e. (tt, tt))
      (λ e. (subst (λ phase. Knows phase m.role (levels ++ x ∷ [])) (sym (off_is m.phase off)) tt, tt))

  -- anywhere
  pub step-knows : IsFrameOrNone waiting → MacKnows m levels → KnowsThen (mac_step m waiting x).0 (mac_step m waiting x).1
  step-knows is h = elim (cases_Bool (is_off_phase m.phase)) [
    | inl off ↦ off_bus KnowsThen m waiting x off (off-knows off)
    | inr on ↦
        let s = stance m in
        let after = move-knows s.passive s.overloads levels m.role m.phase waiting x is h in
        on_bus KnowsThen m waiting x on (λ d same. (after.knows, after.told)) (λ d same is_off. (tt, tt))
  ]

-- each event is true of the levels so far
pub turns-told : (turns : List Turn) (m : MacState) (levels : List Level) → AreTurns turns → MacKnows m levels → (t : ℕ) (event : Option Event)
    → slice_get (turn_events m turns) t ≡ Some event → IsTold event (levels ++ take (suc t) (levels_of turns))
turns-told [] m levels are h t event at = cc
turns-told (turn ∷ turns) m levels are h zero event at =
    let now : turn_event m turn ≡ event = cc in
    subst (λ e. IsTold e (levels ++ turn.seen ∷ [])) now (step-knows m turn.waiting turn.seen levels are.0 h).1
turns-told (turn ∷ turns) m levels are h (suc t) event at =
    let next = step-knows m turn.waiting turn.seen levels are.0 h in
    subst (IsTold event) (append_assoc levels (turn.seen ∷ []) (take (suc t) (levels_of turns)))
    (turns-told turns (after_turn m turn) (levels ++ turn.seen ∷ []) are.1 next.0 t event at)
