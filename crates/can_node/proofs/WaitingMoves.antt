-- The effect of a move on a controller that waits until the bus is at rest: it still waits and has no event of a frame, or there are ten
-- recessive levels in a row.
use Rattle.std.proofs.Common.{◌≡◌, ℕ, ◌+◌, Bool, true, false, ◌&&◌, Option, List, [], ◌∷◌, ◌++◌, refl, subst, arith, cond, ◌⊎◌, inl, inr}
use Rattle.std.specs.Prelude.{nat_lt}
use Rattle.std.proofs.lemmas.Bool.{cases_Bool, cond_both, ltb-false}
use Rattle.can_frame.specs.declared.level.Level.{Level}
use Rattle.can_frame.specs.declared.level.Level.TheVariants.{Dominant, Recessive}
use Rattle.can_frame.specs.Levels.{is_recessive}
use Rattle.can_frame.specs.Parts.{Parts}
use Rattle.can_fault.specs.declared.cause.Cause.{Cause}
use Rattle.can_fault.specs.Counters.{ConfineParts}
use Rattle.can_terms.specs.declared.event.ErrorKind.{ErrorKind}
use Rattle.can_mac.specs.declared.phase.Role.{Role}
use Rattle.can_mac.specs.declared.phase.Role.TheVariants.{Receiver, Sender}
use Rattle.can_mac.specs.declared.phase.Phase.TheVariants.{Joining, Idle, StuffedPart, CrcDelimiter, AckSlot, AckDelimiter, EndOfFrame, ErrorFlag, PassiveFlag, OverloadFlag, AfterFlag, Delimiter, Intermission, Suspend, BusOff}
use Rattle.can_mac.specs.declared.moves.Stance.{Stance}
use Rattle.can_mac.specs.State.{MacPhase, is_off_phase}
use Rattle.can_mac.specs.Moves.{MacMove, errs_by, passive_phase, enters_intermission, move}
use Rattle.can_node.specs.Listening.{is_of_frame}
use Rattle.can_node.proofs.Rests.{EndsInRest, HasRested, EndsInRest-more, EndsInRest-fewer, HasRested-ends}
use Rattle.can_node.proofs.RestingMoves.{WaitsAt, flag-waits}
use Rattle.can_wire.specs.Stuffing.{run_after}

-- a move that keeps waiting with these levels, and has no event of a frame
pub record KeepsWait (v : MacMove) (levels : List Level) : Type 0 where
  pub at : (c : ConfineParts) → WaitsAt v.phase c levels
  pub no_frame : is_of_frame v.event ≡ false

-- either of two moves
either : {v w : MacMove} {levels : List Level} (b : Bool) → KeepsWait v levels → KeepsWait w levels → KeepsWait (cond b v w) levels
either true p q = p
either false p q = q

-- an error
error : (cause : Option Cause) (un : Bool) (s : Stance) (kind : ErrorKind) (levels : List Level) → KeepsWait (errs_by cause un s kind) levels
error cause un s kind levels = record { at = λ c. flag-waits s.passive un c levels; no_frame = refl }

-- intermission, or an overload frame of the controller's own, after eight recessive levels
enters : (s : Stance) (role : Role) (levels : List Level) → EndsInRest 8 levels → KeepsWait (enters_intermission s role) levels
enters s (Sender f) levels h = record { at = λ c. h; no_frame = refl }
enters s Receiver levels h =
    either (nat_lt 0 s.overloads.pending && nat_lt s.overloads.used 2) (record { at = λ c. tt; no_frame = refl }) (record { at = λ c. h; no_frame = refl })

-- a passive error flag, and after it
passive_flag : (x : Level) (run : ℕ) (un : Bool) (c : ConfineParts) (levels : List Level) → WaitsAt (passive_phase x run un) c levels
passive_flag x run un c levels = by_test (nat_lt run 6)
  where
    by_test : (b : Bool) → WaitsAt (cond b (PassiveFlag x run un) (AfterFlag true 0)) c levels
    by_test true = tt
    by_test false = tt

-- after ten recessive levels in a row, or still waiting
abbrev RestedOr : MacMove → List Level → Level → Type 0
RestedOr v since x = HasRested since ⊎ KeepsWait v (since ++ x ∷ [])

module _ (s : Stance) (waiting : Option Parts) (since : List Level) where
  -- the delimiter: its recessive levels are the last ones
  in_delimiter : (place : ℕ) (x : Level) → EndsInRest place since → KeepsWait (move s (Delimiter place) waiting x) (since ++ x ∷ [])
  in_delimiter place Dominant h = either (nat_lt place 7) (error _ _ _ _ _) (record { at = λ c. tt; no_frame = refl })
  in_delimiter place Recessive h =
      let more = EndsInRest-more place since h in
      cond_both (nat_lt place 7) _ _ (λ v. KeepsWait v (since ++ Recessive ∷ []))
      (λ e. record { at = λ c. more; no_frame = refl })
      (λ e. enters s s.role (since ++ Recessive ∷ []) (EndsInRest-fewer 8 (place + 1) (since ++ Recessive ∷ []) (omega (arith, ltb-false place 7 e)) more))

  -- intermission: the last levels are those of the delimiter too
  in_intermission : (place : ℕ) (x : Level) → EndsInRest (8 + place) since → RestedOr (move s (Intermission place) waiting x) since x
  in_intermission place x h = elim (cases_Bool (nat_lt place 2)) [
    | inl e ↦ inr (early x e)
    | inr e ↦ inl (HasRested-ends (8 + place) since (omega (arith, ltb-false place 2 e)) h)
  ]
    where
      early : (x : Level) → nat_lt place 2 ≡ true → KeepsWait (move s (Intermission place) waiting x) (since ++ x ∷ [])
      early Dominant e = rw e (record { at = λ c. tt; no_frame = refl })
      early Recessive e =
          let size : (8 + place) + 1 ≡ 8 + (place + 1) = omega arith in
          let more = subst (λ n. EndsInRest n (since ++ Recessive ∷ [])) size (EndsInRest-more (8 + place) since h) in
          rw e (record { at = λ c. more; no_frame = refl })

  -- any phase on the bus
  pub move-waits : (phase : MacPhase) (c : ConfineParts) (x : Level) → is_off_phase phase ≡ false → WaitsAt phase c since → RestedOr (move s phase waiting x) since x
  move-waits (Joining row) c x on h = absurd h
  move-waits Idle c x on h = absurd h
  move-waits (StuffedPart front) c x on h = absurd h
  move-waits (CrcDelimiter r) c x on h = absurd h
  move-waits (AckSlot r) c x on h = absurd h
  move-waits (AckDelimiter r) c x on h = absurd h
  move-waits (EndOfFrame r place) c x on h = absurd h
  move-waits (ErrorFlag place) c Dominant on h = inr (either (nat_lt place 5) (record { at = λ c. tt; no_frame = refl }) (record { at = λ c. tt; no_frame = refl }))
  move-waits (ErrorFlag place) c Recessive on h = inr (error _ _ _ _ _)
  move-waits (PassiveFlag last run un) c x on h = inr (record { at = λ c. passive_flag x (run_after last run x) (un && is_recessive x) c (since ++ x ∷ []); no_frame = refl })
  move-waits (OverloadFlag place) c Dominant on h = inr (either (nat_lt place 5) (record { at = λ c. tt; no_frame = refl }) (record { at = λ c. tt; no_frame = refl }))
  move-waits (OverloadFlag place) c Recessive on h = inr (error _ _ _ _ _)
  move-waits (AfterFlag first dominant) c Dominant on h = inr (record { at = λ c. tt; no_frame = refl })
  move-waits (AfterFlag first dominant) c Recessive on h = inr (record { at = λ c. (since, refl); no_frame = refl })
  move-waits (Delimiter place) c x on h = inr (in_delimiter place x h)
  move-waits (Intermission place) c x on h = in_intermission place x h
  move-waits (Suspend place) c x on h = absurd h
  move-waits BusOff c x on h = cc
