-- What is so of the registers of each controller.
use Rattle.std.proofs.Common.{◌≡◌, ℕ, zero, suc, ◌+◌, ◌<◌, ◌≤◌, ◌⊎◌, inl, inr, Bool, true, false, not, ◌&&◌, ◌||◌, cond, List, [], ◌∷◌, length, take, get_or, refl, ◌∙◌, arith, eq-eqb, Some}
use Rattle.std.specs.Prelude.{nat_le, nat_lt}
use Rattle.std.proofs.Math.Dec.{eqb}
use Rattle.std.proofs.lemmas.Bool.{cases_lt, cases_eq, ne_eqb}
use Rattle.std.proofs.lemmas.List.{get_or_past}
use Rattle.can_frame.specs.declared.level.Level.{Level}
use Rattle.can_frame.specs.declared.level.Level.TheVariants.{Dominant, Recessive}
use Rattle.can_frame.specs.Levels.{is_recessive}
use Rattle.can_wire.specs.Layout.{level_at, frame_len}
use Rattle.can_code.specs.declared.front.Place.TheVariants.{CrcDelimiter as ended}
use Rattle.can_code.specs.Front.{FrontParts, has_check, next_place}
use Rattle.can_fault.specs.Counters.{ConfineParts, IsConfine, is_bus_off}
use Rattle.can_mac.specs.declared.phase.Reading.{Reading}
use Rattle.can_mac.specs.declared.phase.Role.{Role}
use Rattle.can_mac.specs.declared.phase.Phase.TheVariants.{Joining, Idle, StuffedPart, CrcDelimiter, AckSlot, AckDelimiter, EndOfFrame, ErrorFlag, PassiveFlag, OverloadFlag, AfterFlag, Delimiter, Intermission, Suspend, BusOff}
use Rattle.can_mac.specs.State.{MacPhase, IsOpen, IsPhase, is_off_phase}
use Rattle.can_gates.specs.declared.literal.Literal.{Literal}
use Rattle.can_gates.specs.Circuit.{value, differ, never, always}
use Rattle.can_gates.proofs.Constants.{value-never, value-always}
use Rattle.can_gates_mac.specs.Numbers.{phase_number, place_number, last_recessive, unacknowledged_of, is_first, is_sender, reading_in}
use Rattle.can_gates_controller.specs.Whole.{IsSettled}
use Rattle.can_gates_controller.specs.Following.{is_part, is_behind_part}
use Rattle.can_gates_controller.proofs.Checks.{below_is, above_is}

-- The place, by the phase.

module _ (v : ℕ → Bool) (first below_3 below_6 below_7 below_8 below_11 later : Literal) (row n : ℕ) (e1 : value v first ≡ nat_lt n 1) (e3 : value v below_3 ≡ nat_lt n 3) (e6 : value v below_6 ≡ nat_lt n 6) (e7 : value v below_7 ≡ nat_lt n 7) (e8 : value v below_8 ≡ nat_lt n 8) (e11 : value v below_11 ≡ nat_lt n 11) (el : value v later ≡ (not (nat_lt n 1) && nat_lt n 8)) where
  pub place_is : (p : MacPhase) → IsPhase p → row < 11 → n ≡ cond (is_off_phase p) row (place_number p) → value v (get_or (first ∷ below_11 ∷ first ∷ first ∷ first ∷ first ∷ below_7 ∷ below_6 ∷ below_6 ∷ below_6 ∷ below_8 ∷ later ∷ below_3 ∷ below_8 ∷ below_11 ∷ []) (phase_number p) never) ≡ true
  place_is Idle h small en = e1 ∙ rw en refl
  place_is (Joining place) h small en = e11 ∙ rw (en, below_is place 11 h) refl
  place_is (StuffedPart front) h small en = e1 ∙ rw en refl
  place_is (CrcDelimiter r) h small en = e1 ∙ rw en refl
  place_is (AckSlot r) h small en = e1 ∙ rw en refl
  place_is (AckDelimiter r) h small en = e1 ∙ rw en refl
  place_is (EndOfFrame r place) h small en = e7 ∙ rw (en, below_is place 7 h.1) refl
  place_is (ErrorFlag place) h small en = e6 ∙ rw (en, below_is place 6 h) refl
  place_is (PassiveFlag level run unacknowledged) h small en = e6 ∙ rw (en, below_is run 6 h) refl
  place_is (OverloadFlag place) h small en = e6 ∙ rw (en, below_is place 6 h) refl
  place_is (AfterFlag first dominant) h small en = e8 ∙ rw (en, below_is dominant 8 h) refl
  place_is (Delimiter place) h small en = el ∙ rw (en, above_is place 1 h.0, below_is place 8 h.1) refl
  place_is (Intermission place) h small en = e3 ∙ rw (en, below_is place 3 h) refl
  place_is (Suspend place) h small en = e8 ∙ rw (en, below_is place 8 h) refl
  place_is BusOff h small en = e11 ∙ rw (en, below_is row 11 small) refl

-- What one phase alone has.

module _ (v : ℕ → Bool) (none no_first no_flag : Literal) (last unacknowledged first : Bool) (en : value v none ≡ ((not last && not unacknowledged) && not first)) (e1 : value v no_first ≡ not first) (ef : value v no_flag ≡ (not last && not unacknowledged)) where
  pub marks_are : (p : MacPhase) → last ≡ last_recessive p → unacknowledged ≡ unacknowledged_of p → first ≡ is_first p → value v (get_or (none ∷ none ∷ none ∷ none ∷ none ∷ none ∷ none ∷ none ∷ no_first ∷ none ∷ no_flag ∷ none ∷ none ∷ none ∷ none ∷ []) (phase_number p) never) ≡ true
  marks_are (PassiveFlag level run u) el eu eb = e1 ∙ rw eb refl
  marks_are (AfterFlag b dominant) el eu eb = ef ∙ rw (el, eu) refl
  marks_are p el eu eb = en ∙ rw (el, eu, eb) refl

-- The role, the marks of flags and the own overload frames, by the phase.

or_always : (b : Bool) → (b || true) ≡ true
or_always true = refl
or_always false = refl

first_is : (first : Bool) (dominant : ℕ) → (first ≡ true → dominant ≡ 0) → (nat_lt dominant 1 || not first) ≡ true
first_is true dominant h = rw (h refl) refl
first_is false dominant h = or_always (nat_lt dominant 1)

-- only a transmitter waits for its missing acknowledgment to count
waiting_sends : (unacknowledged sends : Bool) → (unacknowledged ≡ true → sends ≡ true) → (not unacknowledged || sends) ≡ true
waiting_sends true sends h = h refl
waiting_sends false sends h = refl

-- a passive error flag begins as after a recessive level
begins_recessive : (run : ℕ) (last : Level) → (run ≡ 0 → last ≡ Recessive) → (not (nat_lt run 1) || is_recessive last) ≡ true
begins_recessive zero last h = rw (h refl) refl
begins_recessive (suc n) last h = rw (above_is (suc n) 1 (omega arith)) refl

module _ (v : ℕ → Bool) (zero_is : v 0 ≡ false) (receives sends unused flag first : Literal) (role : Role) (row n used : ℕ) (last unacknowledged behind : Bool)
    (er : value v receives ≡ not (is_sender role)) (es : value v sends ≡ is_sender role) (eu : value v unused ≡ nat_lt used 1)
    (ef : value v flag ≡ ((not unacknowledged || is_sender role) && (not (nat_lt n 1) || last))) (eb : value v first ≡ (nat_lt n 1 || not behind)) where
  pub stance_is : (p : MacPhase) → IsSettled p role used → n ≡ cond (is_off_phase p) row (place_number p) → last ≡ last_recessive p → unacknowledged ≡ unacknowledged_of p → behind ≡ is_first p → value v (get_or (receives ∷ receives ∷ unused ∷ unused ∷ unused ∷ unused ∷ unused ∷ always ∷ flag ∷ always ∷ first ∷ always ∷ always ∷ sends ∷ receives ∷ []) (phase_number p) never) ≡ true
  stance_is Idle h en el ea ei = er ∙ rw h refl
  stance_is (Joining place) h en el ea ei = er ∙ rw h refl
  stance_is BusOff h en el ea ei = er ∙ rw h refl
  stance_is (StuffedPart front) h en el ea ei = eu ∙ rw h refl
  stance_is (CrcDelimiter r) h en el ea ei = eu ∙ rw h refl
  stance_is (AckSlot r) h en el ea ei = eu ∙ rw h refl
  stance_is (AckDelimiter r) h en el ea ei = eu ∙ rw h refl
  stance_is (EndOfFrame r place) h en el ea ei = eu ∙ rw h refl
  stance_is (PassiveFlag level run u) h en el ea ei = ef ∙ rw (en, el, ea, waiting_sends u (is_sender role) h.0, begins_recessive run level h.1) refl
  stance_is (AfterFlag b dominant) h en el ea ei = eb ∙ rw (en, ei) (first_is b dominant h)
  stance_is (Suspend place) h en el ea ei = es ∙ h
  stance_is p h en el ea ei = value-always v zero_is

-- Wishes and counters.

pub few_below : (n : ℕ) → n ≤ 2 → nat_lt n 3 ≡ true
few_below n h = below_is n 3 (omega (arith, h))

pub rests_at : (v : ℕ → Bool) → v 0 ≡ false → (p : MacPhase) → value v (get_or (never ∷ never ∷ never ∷ never ∷ never ∷ never ∷ never ∷ never ∷ never ∷ never ∷ never ∷ never ∷ never ∷ never ∷ always ∷ []) (phase_number p) never) ≡ is_off_phase p
rests_at v zero_is BusOff = value-always v zero_is
rests_at v zero_is p = value-never v zero_is

pub counters_fit : (c : ConfineParts) (off rests : Bool) → IsConfine c → off ≡ is_bus_off c → rests ≡ is_bus_off c → ((nat_lt c.tec 264 && not (differ off rests)) && (off || not (nat_lt 0 c.occurrences))) ≡ true
counters_fit c off rests is eo er = rw (eo, er, below_is c.tec 264 is.tec) (by (is_bus_off c) refl)
  where
    low : nat_le 256 c.tec ≡ false → c.tec < 256
    low e = grind (arith, e)

    by : (b : Bool) → is_bus_off c ≡ b → (not (differ b b) && (b || not (nat_lt 0 c.occurrences))) ≡ true
    by true e = refl
    by false e = rw (is.no_occurrences (low e)) refl

-- What is heard of a frame.

some_heard : (u : List Level) → take 1 u ≡ Dominant ∷ [] → nat_lt 0 (length u) ≡ true
some_heard [] e = cc e
some_heard (x ∷ u) e = below_is 0 (length (x ∷ u)) (omega arith)

still_open : (front : FrontParts) → IsOpen front → not (has_check front.unstuffed && nat_lt front.run 5) ≡ true
still_open front h = by (has_check front.unstuffed) (nat_lt front.run 5) refl refl
  where
    apart : nat_lt front.run 5 ≡ true → front.run ≡ 5 → ⊥
    apart e f = absurd (grind (arith, e, f))

    by : (a b : Bool) → has_check front.unstuffed ≡ a → nat_lt front.run 5 ≡ b → not (a && b) ≡ true
    by false b e f = refl
    by true false e f = refl
    by true true e f =
        let ends : next_place front ≡ ended = rw (ne_eqb front.run 5 (apart f), e) refl in absurd (h.goes_on ends)

pub going_fits : (front : FrontParts) → IsOpen front → (((nat_lt 0 (length front.unstuffed) && not (nat_lt (frame_len front.unstuffed) (length front.unstuffed))) && (not (nat_lt front.run 1) && nat_lt front.run 6)) && not (has_check front.unstuffed && nat_lt front.run 5)) ≡ true
going_fits front h =
    let f = h.front in
    rw (some_heard front.unstuffed f.start, above_is (frame_len front.unstuffed) (length front.unstuffed) f.within, above_is front.run 1 f.some, below_is front.run 6 (omega (arith, f.short)), still_open front h) refl

-- places that aren't heard yet

pub behind_more : (n p : ℕ) → (nat_lt n p || eqb n p) ≡ nat_lt n (p + 1)
behind_more n p = by (cases_lt n p)
  where
    last : (n ≡ p) ⊎ (n ≡ p → ⊥) → p ≤ n → eqb n p ≡ nat_lt n (p + 1)
    last (inl e) h = rw (e, below_is p (p + 1) (omega arith), eq-eqb p p refl) refl
    last (inr e) h = rw (ne_eqb n p e, above_is n (p + 1) (omega (arith, e, h))) refl

    by : (n < p) ⊎ (p ≤ n) → (nat_lt n p || eqb n p) ≡ nat_lt n (p + 1)
    by (inl l) = rw (below_is n p l, below_is n (p + 1) (omega (arith, l))) refl
    by (inr l) = rw (above_is n p l) (last (cases_eq n p) l)

and_none : (b : Bool) → not (b && false) ≡ true
and_none true = refl
and_none false = refl

pub dominant_behind : (u : List Level) (p : ℕ) → not (nat_lt (length u) (p + 1) && is_recessive (level_at u p)) ≡ true
dominant_behind u p = by (cases_lt p (length u))
  where
    by : (p < length u) ⊎ (length u ≤ p) → not (nat_lt (length u) (p + 1) && is_recessive (level_at u p)) ≡ true
    by (inl l) = rw (above_is (length u) (p + 1) (omega (arith, l))) refl
    by (inr l) = let e : level_at u p ≡ Dominant = get_or_past u p Dominant l in rw e (and_none (nat_lt (length u) (p + 1)))

-- by the phase

pub over_fits : (n m run : ℕ) → n ≡ m → 1 ≤ run → run < 5 → (eqb n m && (not (nat_lt run 1) && nat_lt run 5)) ≡ true
over_fits n m run e some short = rw (eq-eqb n m e, above_is run 1 some, below_is run 5 short) refl

-- the start of frame is dominant
pub starts_dominant : (b first unheard : Bool) (x : Level) → b ≡ (unheard && not first) → unheard ≡ true → first ≡ is_recessive x → x ≡ Dominant → b ≡ true
starts_dominant b first unheard x e u f d = e ∙ rw (u, f, d) refl

pub front_of : (p : MacPhase) (C : Type 0) → is_part p ≡ true → ((front : FrontParts) → p ≡ StuffedPart front → C) → C
front_of (StuffedPart front) C e f = f front refl
front_of p C e f = cc e

pub reading_of_end : (p : MacPhase) (C : Type 0) → is_behind_part p ≡ true → ((r : Reading) → reading_in p ≡ Some r → C) → C
reading_of_end (CrcDelimiter r) C e f = f r refl
reading_of_end (AckSlot r) C e f = f r refl
reading_of_end (AckDelimiter r) C e f = f r refl
reading_of_end (EndOfFrame r place) C e f = f r refl
reading_of_end p C e f = cc e

pub heard_fits : (p : MacPhase) (part behind : Bool) → (is_part p ≡ true → part ≡ true) → (is_behind_part p ≡ true → behind ≡ true) → cond (is_part p) part (cond (is_behind_part p) behind true) ≡ true
heard_fits p part behind e f = by (is_part p) (is_behind_part p) e f
  where
    by : (a b : Bool) → (a ≡ true → part ≡ true) → (b ≡ true → behind ≡ true) → cond a part (cond b behind true) ≡ true
    by true b e f = e refl
    by false true e f = f refl
    by false false e f = refl
