-- Between an error, an overload or going off and the next event of a frame the bus rests.
use Rattle.std.proofs.Common.{◌≡◌, ℕ, zero, suc, ◌+◌, ◌<◌, true, false, ◌&&◌, Option, Some, None, List, [], ◌∷◌, ◌++◌, take, append_assoc, refl, sym, ◌∙◌, ap, subst, arith, cond, ◌⊎◌, inl, inr}
use Rattle.std.specs.Prelude.{nat_le}
use Rattle.std.specs.List.{slice_get}
use Rattle.std.proofs.lemmas.Bool.{cases_Bool, cases_lt, cond_both, both_ways, and_parts, cond-true, cond-false, cond_below}
use Rattle.can_frame.specs.declared.level.Level.{Level}
use Rattle.can_frame.specs.declared.level.Level.TheVariants.{Dominant, Recessive}
use Rattle.can_frame.specs.Parts.{Parts}
use Rattle.can_fault.specs.Counters.{ConfineParts, fresh, is_bus_off}
use Rattle.can_fault.specs.Recovery.{after_level, ends_bus_off, recovered}
use Rattle.can_terms.specs.declared.event.Event.{Event}
use Rattle.can_terms.specs.declared.event.Event.TheVariants.{Recovered}
use Rattle.can_mac.specs.declared.phase.Phase.TheVariants.{Idle, BusOff}
use Rattle.can_mac.specs.State.{MacState, is_off_phase}
use Rattle.can_mac.specs.Machine.{stance, off_step, mac_step}
use Rattle.can_mac.proofs.Turns.{Turn, levels_of, after_turn, turn_event, turn_events}
use Rattle.can_mac.proofs.TurnEnds.{SameWait, on_bus, off_bus, off_is}
use Rattle.can_node.specs.Listening.{is_upset, is_of_frame, Rested}
use Rattle.can_node.proofs.Rests.{EndsInRest, HasRested, EndsInRest-none, EndsInRest-more, HasRested-ends, HasRested-append, RestsBetween-first, RestsBetween-more}
use Rattle.can_node.proofs.RestingMoves.{WaitsOff, WaitsAt, move-begins}
use Rattle.can_node.proofs.WaitingMoves.{move-waits}

-- only off the bus has a controller seen levels towards recovery
pub record WaitsOnlyOff (m : MacState) : Type 0 where
  pub none : is_off_phase m.phase ≡ false → m.counters.occurrences ≡ 0
  pub empty : is_off_phase m.phase ≡ false → m.counters.row ≡ 0

-- off the bus, of a controller that has no occurrence and has not rested
module _ (c : ConfineParts) (since : List Level) (h : WaitsOff c since) (early : c.row < 10) where
  -- one more level goes on waiting
  after_level-waits : (x : Level) → WaitsOff (after_level x c) (since ++ x ∷ [])
  after_level-waits Dominant = record { off = h.off; none = h.none; ends = EndsInRest-none (since ++ Dominant ∷ []) }
  after_level-waits Recessive =
      let more : WaitsOff (record c { row = c.row + 1 }) (since ++ Recessive ∷ []) = record { off = h.off; none = h.none; ends = EndsInRest-more c.row since h.ends } in
      subst (λ d. WaitsOff d (since ++ Recessive ∷ [])) (cond_below c.row 10 _ _ early) more

  -- it doesn't end bus off
  stays_off : (x : Level) → ends_bus_off x c ≡ false
  stays_off x =
      let none : (after_level x c).occurrences ≡ 0 = (after_level-waits x).none in
      ap (λ n. is_bus_off c && nat_le 128 n) none ∙ ap (λ b. b && false) h.off

  -- so the counters go on waiting
  recovered-waits : (x : Level) → WaitsOff (recovered x c) (since ++ x ∷ [])
  recovered-waits x =
      let ends = cond-false (ends_bus_off x c) fresh (after_level x c) (stays_off x) in
      let is : recovered x c ≡ after_level x c = cond-true (is_bus_off c) (cond (ends_bus_off x c) fresh (after_level x c)) c h.off ∙ ends in
      subst (λ d. WaitsOff d (since ++ x ∷ [])) (sym is) (after_level-waits x)

-- what a controller that waits has come to
abbrev Waits : MacState → List Level → Type 0
Waits m since = WaitsAt m.phase m.counters since

-- a controller that goes off the bus has seen nothing towards recovery
gone-waits : (m : MacState) (d : ConfineParts) (levels : List Level) → WaitsOnlyOff m → is_off_phase m.phase ≡ false → SameWait m.counters d → is_bus_off d ≡ true → WaitsOff d levels
gone-waits m d levels only on same is =
    let empty : d.row ≡ 0 = same.row ∙ only.empty on in
    record { off = is; none = same.occurrences ∙ only.none on; ends = subst (λ n. EndsInRest n levels) (sym empty) (EndsInRest-none levels) }

module _ (m : MacState) (waiting : Option Parts) (x : Level) where
  abbrev c : ConfineParts
  c = m.counters

  -- the two ends of a bit time off the bus: back on it
  abbrev back : MacState × Option Event
  back = (record m { phase = Idle; counters = recovered x c }, Some Recovered)

  -- or still off it
  abbrev still : MacState × Option Event
  still = (record m { counters = recovered x c }, None)

  -- this stays so
  pub step-only : WaitsOnlyOff m → WaitsOnlyOff (mac_step m waiting x).0
  step-only only = elim (cases_Bool (is_off_phase m.phase)) [
    | inl off ↦ off_bus Only m waiting x off (cond_both (ends_bus_off x c) back still (λ p. WaitsOnlyOff p.0)
        (λ ends. is_fresh ends)
        (λ stays. record { none = λ on. absurd (both_ways (is_off_phase m.phase) on off); empty = λ on. absurd (both_ways (is_off_phase m.phase) on off) }))
    | inr on ↦ on_bus Only m waiting x on
        (λ d same. record { none = λ h. same.occurrences ∙ only.none on; empty = λ h. same.row ∙ only.empty on })
        (λ d same is. record { none = λ h. cc; empty = λ h. cc })
  ]
    where
      Only : MacState → Option Event → Type 0
      Only n e = WaitsOnlyOff n

      is_fresh : ends_bus_off x c ≡ true → WaitsOnlyOff back.0
      is_fresh ends =
          let off = and_parts (is_bus_off c) (nat_le 128 (after_level x c).occurrences) ends in
          let is : recovered x c ≡ fresh = cond-true (is_bus_off c) (cond (ends_bus_off x c) fresh (after_level x c)) c off.0 ∙ cond-true (ends_bus_off x c) fresh (after_level x c) ends in
          record { none = λ h. ap (λ d. d.occurrences) is; empty = λ h. ap (λ d. d.row) is }

  -- an upset begins the wait
  pub step-begins : WaitsOnlyOff m → is_upset (mac_step m waiting x).1 ≡ true → (levels : List Level) → Waits (mac_step m waiting x).0 levels
  step-begins only = elim (cases_Bool (is_off_phase m.phase)) [
    | inl off ↦ off_bus Begins m waiting x off (cond_both (ends_bus_off x c) back still (λ p. Begins p.0 p.1) (λ e h levels. cc) (λ e h levels. cc))
    | inr on ↦ on_bus Begins m waiting x on (λ d same h levels. (move-begins (stance m) m.phase waiting x).begins h d levels) (λ d same is h levels. gone-waits m d levels only on same is)
  ]
    where
      Begins : MacState → Option Event → Type 0
      Begins n e = is_upset e ≡ true → (levels : List Level) → Waits n levels

  -- after a bit time it still waits and has no event of a frame, or the bus has been at rest
  module _ (since : List Level) where
    abbrev RestedOrWaits : MacState → Option Event → Type 0
    RestedOrWaits n e = HasRested since ⊎ (Waits n (since ++ x ∷ []) × (is_of_frame e ≡ false))

    -- off the bus
    step-off : is_off_phase m.phase ≡ true → Waits m since → RestedOrWaits (off_step m x).0 (off_step m x).1
    step-off off h =
        let at : m.phase ≡ BusOff = off_is m.phase off in
        let w : WaitsOff c since = subst (λ phase. WaitsAt phase c since) at h in
        elim (cases_lt c.row 10) [
          | inl early ↦
              let is : off_step m x ≡ still = cond-false (ends_bus_off x c) back still (stays_off c since w early x) in
              let waits : WaitsAt m.phase (recovered x c) (since ++ x ∷ []) = subst (λ phase. WaitsAt phase (recovered x c) (since ++ x ∷ [])) (sym at) (recovered-waits c since w early x) in
              subst (λ p. RestedOrWaits p.0 p.1) (sym is) (inr (waits, refl))
          | inr late ↦ inl (HasRested-ends c.row since late w.ends)
        ]

    -- anywhere
    pub step-waits : WaitsOnlyOff m → Waits m since → RestedOrWaits (mac_step m waiting x).0 (mac_step m waiting x).1
    step-waits only h = elim (cases_Bool (is_off_phase m.phase)) [
      | inl off ↦ off_bus RestedOrWaits m waiting x off (step-off off h)
      | inr on ↦ elim (move-waits (stance m) waiting since m.phase c x on h) [
        | inl rested ↦ inl rested
        | inr keeps ↦ on_bus RestedOrWaits m waiting x on (λ d same. inr (keeps.at d, keeps.no_frame)) (λ d same is. inr (gone-waits m d (since ++ x ∷ []) only on same is, refl))
      ]
    ]

-- before the first event of a frame the bus has rested, if a controller waits for it
rests_before : (turns : List Turn) (m : MacState) (since : List Level) → WaitsOnlyOff m → HasRested since ⊎ Waits m since → (t : ℕ) (told : Option Event)
    → slice_get (turn_events m turns) t ≡ Some told → is_of_frame told ≡ true → HasRested (since ++ take t (levels_of turns))
rests_before [] m since only waits t told at of_frame = cc
rests_before turns m since only (inl rested) t told at of_frame = HasRested-append since (take t (levels_of turns)) rested
rests_before (turn ∷ turns) m since only (inr waits) zero told at of_frame =
    elim (step-waits m turn.waiting turn.seen since only waits) [
      | inl rested ↦ HasRested-append since [] rested
      | inr more ↦ absurd (both_ways (is_of_frame told) (let e : turn_event m turn ≡ told = cc in ap is_of_frame (sym e) ∙ more.1) of_frame)
    ]
rests_before (turn ∷ turns) m since only (inr waits) (suc t) told at of_frame =
    let next = step-waits m turn.waiting turn.seen since only waits in
    let go = rests_before turns (after_turn m turn) (since ++ turn.seen ∷ []) (step-only m turn.waiting turn.seen only) in
    subst HasRested (append_assoc since (turn.seen ∷ []) (take t (levels_of turns))) (elim next [
      | inl rested ↦ go (inl (HasRested-append since (turn.seen ∷ []) rested)) t told at of_frame
      | inr more ↦ go (inr more.0) t told at of_frame
    ])

-- between an upset and the next event of a frame the bus rests, whatever waits in each bit time
pub turns_rested : (turns : List Turn) (m : MacState) → WaitsOnlyOff m → Rested (levels_of turns) (turn_events m turns)
turns_rested [] m only s t upset told earlier at_s at_t is_up is_frame = cc
turns_rested (turn ∷ turns) m only s zero upset told earlier at_s at_t is_up is_frame = absurd (omega arith)
turns_rested (turn ∷ turns) m only zero (suc t) upset told earlier at_s at_t is_up is_frame =
    let now : turn_event m turn ≡ upset = cc in
    let waits = step-begins m turn.waiting turn.seen only (ap is_upset now ∙ is_up) [] in
    let rested = rests_before turns (after_turn m turn) [] (step-only m turn.waiting turn.seen only) (inr waits) t told at_t is_frame in
    RestsBetween-first turn.seen (levels_of turns) t rested
turns_rested (turn ∷ turns) m only (suc s) (suc t) upset told earlier at_s at_t is_up is_frame =
    let later : s < t = omega arith in
    RestsBetween-more turn.seen (levels_of turns) s t (turns_rested turns (after_turn m turn) (step-only m turn.waiting turn.seen only) s t upset told later at_s at_t is_up is_frame)
