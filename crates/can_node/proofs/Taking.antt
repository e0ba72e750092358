-- Each frame that was received or sent is in the levels.
use Rattle.std.proofs.Common.{◌≡◌, ℕ, suc, ◌+◌, Option, Some, None, List, [], take, subst, arith}
use Rattle.can_frame.specs.declared.level.Level.{Level}
use Rattle.can_terms.specs.declared.event.Event.{Event}
use Rattle.can_terms.specs.declared.event.Event.TheVariants.{Sent, Received, Lost, Error, Overload, WentOff, Recovered}
use Rattle.can_mac.specs.State.{MacState}
use Rattle.can_mac.proofs.Turns.{Turn, levels_of, turn_events}
use Rattle.can_mac.proofs.Hearing.{IsTold}
use Rattle.can_mac.proofs.HearingTurns.{AreTurns, MacKnows, turns-told}
use Rattle.can_node.specs.Listening.{IsTrueAt, Took}

-- what an event claims of the levels so far it claims of all of them
pub IsTrueAt-told : (levels : List Level) (t : ℕ) (event : Option Event) → IsTold event (take (t + 1) levels) → IsTrueAt levels t event
IsTrueAt-told levels t (Some (Received f)) h = record { h = h.h; spelled = h.spelled; last = h.last; spells = h.spells; holds = h.holds; ends = h.ends }
IsTrueAt-told levels t (Some (Sent f)) h = h
IsTrueAt-told levels t (Some Lost) h = tt
IsTrueAt-told levels t (Some (Error kind)) h = tt
IsTrueAt-told levels t (Some Overload) h = tt
IsTrueAt-told levels t (Some WentOff) h = tt
IsTrueAt-told levels t (Some Recovered) h = tt
IsTrueAt-told levels t None h = tt

-- from a controller that needs to know nothing, whatever frames wait in each bit time
pub turns_took : (turns : List Turn) (m : MacState) → AreTurns turns → MacKnows m [] → Took (levels_of turns) (turn_events m turns)
turns_took turns m are knows t event at =
    let size : suc t ≡ t + 1 = omega arith in
    IsTrueAt-told (levels_of turns) t event (subst (λ n. IsTold event (take n (levels_of turns))) size (turns-told turns m [] are knows t event at))
