-- An error passive receiver that is out of step with the bus: level by level it drives nothing, and comes to no frame
-- before the bus has rested.
use Rattle.std.specs.Prelude.{nat_le, nat_lt, min, if◌then◌else◌, ◌||◌}
use Rattle.std.proofs.Common.{◌≡◌, ℕ, ◌+◌, ◌<◌, ◌≤◌, ◌⊎◌, Bool, true, false, Option, Some, None, refl, sym, ap, subst, ◌∙◌, arith, inl, inr}
use Rattle.std.proofs.Math.Dec.{leb, ltb}
use Rattle.std.proofs.lemmas.Bool.{cases_Bool, le-leb, leb-true, lt-ltb, ltb-false}
use Rattle.can_frame.specs.declared.level.Level.{Level}
use Rattle.can_frame.specs.declared.level.Level.TheVariants.{Dominant, Recessive}
use Rattle.can_frame.specs.Parts.{Parts}
use Rattle.can_wire.specs.Stuffing.{run_after}
use Rattle.can_fault.specs.Counters.{ConfineParts, is_bus_off, is_passive, receiver_raised}
use Rattle.can_terms.specs.declared.event.Event.{Event}
use Rattle.can_terms.specs.declared.event.Event.TheVariants.{Error}
use Rattle.can_terms.specs.declared.event.ErrorKind.{ErrorKind}
use Rattle.can_terms.specs.declared.event.ErrorKind.TheVariants.{Form}
use Rattle.can_mac.specs.declared.phase.Overloads.{Overloads}
use Rattle.can_mac.specs.declared.phase.Role.TheVariants.{Receiver}
use Rattle.can_mac.specs.declared.phase.Phase.TheVariants.{PassiveFlag, AfterFlag, Delimiter, Idle, Intermission}
use Rattle.can_mac.specs.State.{MacPhase, MacState}
use Rattle.can_mac.specs.Frames.{IsBehindError}
use Rattle.can_mac.specs.Machine.{mac_drives, mac_step}

-- a receiver in this phase
abbrev pub receiver : MacPhase → Overloads → ConfineParts → MacState
receiver phase overloads c = record { phase = phase; role = Receiver; overloads = overloads; counters = c }

-- the phases that it goes through, if this many recessive levels were the last
pub data AwaitsRest : ℕ → MacPhase → Type 0 where
  passive_flag : (rest : ℕ) (last : Level) (run : ℕ) → AwaitsRest rest (PassiveFlag last run false)
  behind_flag : (rest : ℕ) (first : Bool) (dominant : ℕ) → AwaitsRest rest (AfterFlag first dominant)
  delimiter : (rest place : ℕ) → place ≤ rest → AwaitsRest rest (Delimiter place)
  intermission : (rest place : ℕ) → 8 + place ≤ rest → AwaitsRest rest (Intermission place)

-- at the start of a frame it is as after six recessive levels
pub waits-first : (phase : MacPhase) → IsBehindError phase → AwaitsRest 6 phase
waits-first phase (inl flag) = subst (AwaitsRest 6) (sym flag.1.1) (passive_flag 6 flag.0 flag.1.0)
waits-first phase (inr (inl behind)) = subst (AwaitsRest 6) (sym behind.1.1) (behind_flag 6 behind.0 behind.1.0)
waits-first phase (inr (inr delim)) = subst (AwaitsRest 6) (sym delim.1.0) (delimiter 6 delim.0 (let few = delim.1.1 in omega (arith, few)))

-- it reports no event of a frame
abbrev pub IsErrorOrNone : Option Event → Type 0
IsErrorOrNone event = (event ≡ None) ⊎ ((kind : ErrorKind) × (event ≡ Some (Error kind)))

-- the effect of a level, with any pending frame: it drives recessive, reports no event of a frame, and stays error passive
pub record Goes (phase : MacPhase) (overloads : Overloads) (c : ConfineParts) (x : Level) : Type 0 where
  pub next : MacPhase
  pub counters : ConfineParts
  pub told : Option Event
  pub step : (waiting : Option Parts) → mac_step (receiver phase overloads c) waiting x ≡ (receiver next overloads counters, told)
  pub error : IsErrorOrNone told
  pub passive : is_passive counters ≡ true
  pub on_bus : is_bus_off counters ≡ false

-- what is counted at a receiver keeps it error passive
raised-passive : (n : ℕ) (c : ConfineParts) → is_passive c ≡ true → is_passive (receiver_raised n c) ≡ true
raised-passive n c passive = elim (cases_Bool (leb 128 c.tec)) [
  | inl sent ↦ ap (λ b. b || nat_le 128 (min (c.rec + n) 255)) sent
  | inr few ↦
      let received : leb 128 c.rec ≡ true = sym (ap (λ b. b || nat_le 128 c.rec) few) ∙ passive in
      let many : leb 128 (min (c.rec + n) 255) ≡ true = le-leb 128 (min (c.rec + n) 255) (omega (arith, leb-true 128 c.rec received)) in
      ap (λ b. b || nat_le 128 (min (c.rec + n) 255)) few ∙ many
]

module _ (overloads : Overloads) (c : ConfineParts) (unasked : overloads.pending ≡ 0) (passive : is_passive c ≡ true) (on : is_bus_off c ≡ false) where
  pub low : (rest : ℕ) (phase : MacPhase) → AwaitsRest rest phase → rest < 7 → (g : Goes phase overloads c Dominant) × ((k : ℕ) → AwaitsRest k g.next)
  unfolding mac_step
  low rest _ (passive_flag r last run) few =
      let more = run_after last run Dominant in
      elim (cases_Bool (nat_lt more 6)) [
        | inl goes_on ↦ (
          record { next = PassiveFlag Dominant more false; counters = c; told = None; step = λ w. rw goes_on refl; error = inl refl; passive = passive; on_bus = on },
          λ k. passive_flag k Dominant more,
        )
        | inr done ↦ (
          record { next = AfterFlag true 0; counters = c; told = None; step = λ w. rw done refl; error = inl refl; passive = passive; on_bus = on },
          λ k. behind_flag k true 0,
        )
      ]
  low rest _ (behind_flag r true dominant) few = (
    record {
      next = AfterFlag false (if nat_lt dominant 7 then dominant + 1 else 0);
      counters = receiver_raised 8 c;
      told = None;
      step = λ w. rw on (rw on refl);
      error = inl refl;
      passive = raised-passive 8 c passive;
      on_bus = on;
    },
    λ k. behind_flag k false (if nat_lt dominant 7 then dominant + 1 else 0),
  )
  low rest _ (behind_flag r false dominant) few = elim (cases_Bool (nat_lt dominant 7)) [
    | inl fewer ↦ (
      record { next = AfterFlag false (dominant + 1); counters = c; told = None; step = λ w. rw fewer refl; error = inl refl; passive = passive; on_bus = on },
      λ k. behind_flag k false (dominant + 1),
    )
    | inr eighth ↦ (
      record { next = AfterFlag false 0; counters = receiver_raised 8 c; told = None; step = λ w. rw eighth (rw on (rw on refl)); error = inl refl; passive = raised-passive 8 c passive; on_bus = on },
      λ k. behind_flag k false 0,
    )
  ]
  low rest _ (delimiter r place within) few =
      let early : nat_lt place 7 ≡ true = lt-ltb place 7 (omega (arith, within, few)) in (
        record {
          next = PassiveFlag Recessive 0 false;
          counters = receiver_raised 1 c;
          told = Some (Error Form);
          step = λ w. rw early (rw passive (rw on (rw on refl)));
          error = inr (Form, refl);
          passive = raised-passive 1 c passive;
          on_bus = on;
        },
        λ k. passive_flag k Recessive 0,
      )
  low rest _ (intermission r place within) few = absurd (omega (arith, within, few))

  pub high : (rest : ℕ) (phase : MacPhase) → AwaitsRest rest phase → (g : Goes phase overloads c Recessive) × (rest < 10 → AwaitsRest (rest + 1) g.next)
  unfolding mac_step
  high rest _ (passive_flag r last run) =
      let more = run_after last run Recessive in
      elim (cases_Bool (nat_lt more 6)) [
        | inl goes_on ↦ (
          record { next = PassiveFlag Recessive more false; counters = c; told = None; step = λ w. rw goes_on refl; error = inl refl; passive = passive; on_bus = on },
          λ e. passive_flag (rest + 1) Recessive more,
        )
        | inr done ↦ (
          record { next = AfterFlag true 0; counters = c; told = None; step = λ w. rw done refl; error = inl refl; passive = passive; on_bus = on },
          λ e. behind_flag (rest + 1) true 0,
        )
      ]
  high rest _ (behind_flag r first dominant) = (
    record { next = Delimiter 1; counters = c; told = None; step = λ w. refl; error = inl refl; passive = passive; on_bus = on },
    λ e. delimiter (rest + 1) 1 (omega arith),
  )
  high rest _ (delimiter r place within) = elim (cases_Bool (nat_lt place 7)) [
    | inl early ↦ (
      record { next = Delimiter (place + 1); counters = c; told = None; step = λ w. rw early refl; error = inl refl; passive = passive; on_bus = on },
      λ e. delimiter (rest + 1) (place + 1) (omega (arith, within)),
    )
    | inr last ↦ (
      record { next = Intermission 0; counters = c; told = None; step = λ w. rw last (rw unasked refl); error = inl refl; passive = passive; on_bus = on },
      λ e. intermission (rest + 1) 0 (let seven = ltb-false place 7 last in omega (arith, seven, within)),
    )
  ]
  high rest _ (intermission r place within) = elim (cases_Bool (nat_lt place 2)) [
    | inl early ↦ (
      record { next = Intermission (place + 1); counters = c; told = None; step = λ w. rw early refl; error = inl refl; passive = passive; on_bus = on },
      λ e. intermission (rest + 1) (place + 1) (omega (arith, within)),
    )
    | inr last ↦ (
      record { next = Idle; counters = c; told = None; step = λ w. rw last refl; error = inl refl; passive = passive; on_bus = on },
      λ e. absurd (let two = ltb-false place 2 last in omega (arith, two, within, e)),
    )
  ]

-- it drives nothing
pub waits-drives : (rest : ℕ) (phase : MacPhase) (overloads : Overloads) (c : ConfineParts) (waiting : Option Parts) → AwaitsRest rest phase → mac_drives (receiver phase overloads c) waiting ≡ Recessive
unfolding mac_drives
waits-drives rest _ overloads c waiting (passive_flag r last run) = refl
waits-drives rest _ overloads c waiting (behind_flag r first dominant) = refl
waits-drives rest _ overloads c waiting (delimiter r place within) = refl
waits-drives rest _ overloads c waiting (intermission r place within) = refl
