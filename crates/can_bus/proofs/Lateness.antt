-- How many bit times later than the transmitter the receivers of a frame that is hit have their error.
use Rattle.std.specs.Prelude.{option_and_then, ◌↔◌}
use Rattle.std.proofs.Common.{◌≡◌, ◌≢◌, ℕ, zero, suc, ◌+◌, ◌-◌, ◌<◌, ◌≤◌, ◌⊎◌, true, false, Option, Some, None, List, [], ◌∷◌, ◌++◌, length, take, drop, replicate, refl, sym, ◌∙◌, ap, subst, arith, inl, inr, append_assoc, length-append}
use Rattle.std.proofs.Math.Dec.{eqb}
use Rattle.std.proofs.Math.Seq.{take-append-add}
use Rattle.std.proofs.lemmas.Bool.{cond-true, cond-false, cases_eq, cases_lt, eq-eqb, ne_eqb, and_parts, and_from, and_left}
use Rattle.std.proofs.lemmas.List.{take_all, take-append-le, length-take-le}
use Rattle.can_frame.specs.declared.level.Level.{Level}
use Rattle.can_frame.specs.declared.level.Level.TheVariants.{Dominant, Recessive}
use Rattle.can_frame.specs.Levels.{same, opposite}
use Rattle.can_frame.specs.Parts.{Parts, IsFrame}
use Rattle.can_code.specs.declared.front.Place.TheVariants.{StuffBit, CrcDelimiter as delimiter_next}
use Rattle.can_wire.specs.Wire.{stuffed_part, wire, tail}
use Rattle.can_wire.specs.Layout.{level_at}
use Rattle.can_wire.specs.Stuffing.{is_stuff_place, run_after}
use Rattle.can_code.specs.Front.{FrontParts, first_front, next_place, is_stuff_error, heard_level, hear_at, heard_levels}
use Rattle.can_wire.proofs.LayoutPlaces.{level_at-append}
use Rattle.can_code.proofs.HeardLevels.{hear_at-going, ended_or_going}
use Rattle.can_wire.proofs.StuffPlaces.{is_due-reverse}
use Rattle.can_wire.proofs.Runs.{run_after-le, run_after-ge, is_due-short, is_due-long}
use Rattle.can_code.proofs.WireFronts.{front_at, front_at-front, front_at-heard, front_at-going, front_at-ended, sent_stuff_bit}
use Rattle.can_mac.specs.declared.phase.Phase.TheVariants.{StuffedPart, CrcDelimiter}
use Rattle.can_mac.specs.declared.phase.Reading.{Reading}
use Rattle.can_mac.specs.State.{MacPhase}
use Rattle.can_mac.specs.Moves.{ends_part, part_phase, reading_of}
use Rattle.can_mac.proofs.PartEnds.{ends_part-ended, ends_part-partial}
use Rattle.can_mac.proofs.FrameParts.{length-wire}
use Rattle.can_mac.proofs.FrameSteps.{some_part}
use Rattle.can_mac.proofs.BrokenFrames.{ErrsIn, stuffed, ended, goes_on, soon}
use Rattle.can_mac.proofs.HitLevels.{IsHit, BreaksIn, at_end, at_stuff_bit, at_bit, inverted, breaks-soon}
use Rattle.can_bus.specs.RepairedLine.{struck, until_refused, lateness}
use Rattle.can_code.proofs.DecoderLemmas.{heard_levels-append}

-- ---- Dominant levels, one by one.

pub until_refused-few : (most : ℕ) (v : Option FrontParts) → until_refused most v ≤ most
until_refused-few most None = omega arith
until_refused-few zero (Some v) = omega arith
until_refused-few (suc most) (Some v) = omega (arith, until_refused-few most (hear_at (next_place v) v Dominant))

-- a level that repeats the one before it in the place of a stuff bit is an error, and any dominant one after the end of the stuffed part
pub stuff-refused : (v : FrontParts) (x : Level) → is_stuff_error v x ≡ true → hear_at (next_place v) v x ≡ None
stuff-refused v x e =
    ap (λ p. hear_at p v x) (cond-true (eqb v.run 5) StuffBit _ (and_parts (eqb v.run 5) (same x v.last) e).0)
    ∙ cond-true (is_stuff_error v x) None (Some (heard_level v x)) e

pub end-refused : (v : FrontParts) (x : Level) → next_place v ≡ delimiter_next → hear_at (next_place v) v x ≡ None
end-refused v x e = ap (λ p. hear_at p v x) e

-- what a receiver's phase shows of what it has heard
pub phase-going : (v w : FrontParts) → part_phase v ≡ StuffedPart w → (next_place v ≢ delimiter_next) × (v ≡ w)
phase-going v w e = elim (ended_or_going (next_place v)) [
  | inl over ↦ (let other = cond-true (ends_part v) (CrcDelimiter (reading_of v.unstuffed)) (StuffedPart v) (ends_part-ended v over) in cc)
  | inr going ↦ (going, (let same_phase : StuffedPart v ≡ StuffedPart w = sym (cond-false (ends_part v) (CrcDelimiter (reading_of v.unstuffed)) (StuffedPart v) (ends_part-partial v going)) ∙ e in cc))
]

pub phase-ended : (v : FrontParts) (r : Reading) → part_phase v ≡ CrcDelimiter r → next_place v ≡ delimiter_next
phase-ended v r e = elim (ended_or_going (next_place v)) [
  | inl over ↦ over
  | inr going ↦ (let open_part = cond-false (ends_part v) (CrcDelimiter (reading_of v.unstuffed)) (StuffedPart v) (ends_part-partial v going) in cc)
]

goes-heard : (v w : FrontParts) → part_phase v ≡ StuffedPart w → is_stuff_error w Dominant ≡ false → hear_at (next_place v) v Dominant ≡ Some (heard_level v Dominant)
goes-heard v w e none =
    let going = phase-going v w e in
    hear_at-going v Dominant (next_place v) going.0 (subst (λ u. is_stuff_error u Dominant ≡ false) (sym going.1) none)

pub some-errs : {j : ℕ} {phase : MacPhase} → ErrsIn j phase → 1 ≤ j
some-errs (stuffed w error) = omega arith
some-errs (ended r) = omega arith
some-errs (goes_on w j none next) = omega arith

-- this many dominant levels, to the one that is an error
errs-refused : {j : ℕ} {phase : MacPhase} → ErrsIn j phase → (v : FrontParts) → part_phase v ≡ phase → (most : ℕ) → j ≤ suc most → until_refused (suc most) (Some v) ≡ j
errs-refused (stuffed w error) v e most few =
    ap (λ r. suc (until_refused most r)) (stuff-refused v Dominant (subst (λ u. is_stuff_error u Dominant ≡ true) (sym (phase-going v w e).1) error))
errs-refused (ended r) v e most few = ap (λ u. suc (until_refused most u)) (end-refused v Dominant (phase-ended v r e))
errs-refused (goes_on w j none next) v e zero few = absurd (omega (arith, few, some-errs next))
errs-refused (goes_on w j none next) v e (suc most) few =
    ap (λ r. suc (until_refused (suc most) r)) (goes-heard v w e none)
    ∙ ap suc (errs-refused next (heard_level v Dominant) (ap (λ u. part_phase (heard_level u Dominant)) (phase-going v w e).1) most (omega (arith, few)))

-- with this many one of the levels is an error, and with fewer none
abbrev heard-behind : Option FrontParts → ℕ → Option FrontParts
heard-behind v k = option_and_then (λ u. heard_levels u (replicate k Dominant)) v

refused-by : (most k : ℕ) (v : Option FrontParts) → until_refused (suc most) v ≤ most → (heard-behind v k ≡ None) ↔ (until_refused (suc most) v ≤ k)
refused-by most k None few = (λ e. omega arith, λ enough. refl)
refused-by most zero (Some v) few = (λ e. (let h : Some v ≡ None = e in cc), λ enough. absurd (omega (arith, enough)))
refused-by zero (suc k) (Some v) few = absurd (omega (arith, few))
refused-by (suc most) (suc k) (Some v) few =
    let next = refused-by most k (hear_at (next_place v) v Dominant) (omega (arith, few)) in
    (λ e. omega (arith, next.0 e), λ enough. next.1 (omega (arith, enough)))

-- ---- The levels of a frame that is hit.

drop-first : (b ys : List Level) → 0 < length b → drop 1 (b ++ ys) ≡ drop 1 b ++ ys
drop-first [] ys some = absurd (omega (arith, some))
drop-first (x ∷ b) ys some = refl

none-behind : (v : FrontParts) (ys : List Level) → next_place v ≡ delimiter_next → 0 < length ys → heard_levels v ys ≡ None
none-behind v [] e some = absurd (omega (arith, some))
none-behind v (y ∷ ys) e some = ap (option_and_then (λ u. heard_levels u ys)) (end-refused v y e)

-- the opposite of a stuff bit repeats what is before it
repeats : (x y : Level) → x ≡ opposite y → same (opposite x) y ≡ true
repeats Dominant Dominant e = cc
repeats Dominant Recessive e = refl
repeats Recessive Dominant e = refl
repeats Recessive Recessive e = cc

module _ (f : Parts) (is : IsFrame f) (o : ℕ) (some : 0 < o) where
  -- within the stuffed part
  heard-early : (ys : List Level) → o ≤ length (stuffed_part f) → heard_levels first_front (drop 1 (take o (wire f) ++ ys)) ≡ heard_levels (front_at f o) ys
  heard-early ys within =
      let b = take o (stuffed_part f) in
      let size : length b ≡ o = length-take-le o (stuffed_part f) within in
      ap (λ ls. heard_levels first_front (drop 1 (ls ++ ys))) (take-append-le o (stuffed_part f) (tail Dominant Recessive) within)
      ∙ ap (heard_levels first_front) (drop-first b ys (omega (arith, size, some)))
      ∙ heard_levels-append (drop 1 b) ys first_front (front_at f o) (front_at-heard f is o some within)

-- after it
heard-late : (f : Parts) (is : IsFrame f) (o : ℕ) (ys : List Level) → length (stuffed_part f) ≤ o → 0 < length ys → heard_levels first_front (drop 1 (take o (wire f) ++ ys)) ≡ None
heard-late f is o ys past some =
    let n = length (stuffed_part f) in
    let ten = tail Dominant Recessive in
    let front : take o (wire f) ≡ stuffed_part f ++ take (o - n) ten = ap (λ k. take k (wire f)) (let e : o ≡ n + (o - n) = omega (arith, past) in e) ∙ take-append-add (stuffed_part f) ten (o - n) in
    let whole : take n (wire f) ≡ stuffed_part f = take-append-le n (stuffed_part f) ten (omega arith) ∙ take_all n (stuffed_part f) (omega arith) in
    ap (λ ls. heard_levels first_front (drop 1 (ls ++ ys))) front
    ∙ ap (λ ls. heard_levels first_front (drop 1 ls)) (append_assoc (stuffed_part f) (take (o - n) ten) ys)
    ∙ ap (λ ls. heard_levels first_front (drop 1 (ls ++ (take (o - n) ten ++ ys)))) (sym whole)
    ∙ heard-early f is n (omega (arith, some_part f is)) (take (o - n) ten ++ ys) (omega arith)
    ∙ none-behind (front_at f n) (take (o - n) ten ++ ys) (front_at-ended f is) (omega (arith, length-append (take (o - n) ten) ys, some))

module _ (f : Parts) (is : IsFrame f) (o : ℕ) (some : 0 < o) where
  abbrev n : ℕ
  n = length (stuffed_part f)

  abbrev v : FrontParts
  v = front_at f o

  -- the level that is seen in place of the one that is hit
  abbrev pub other : Level
  other = opposite (level_at (wire f) o)

  -- the receiver's state after it, and after the dominant levels that follow it
  pub struck-behind : (k : ℕ) → n ≤ o → heard_levels first_front (drop 1 (struck f o k)) ≡ None
  struck-behind k past = heard-late f is o (other ∷ replicate k Dominant) past (omega arith)

  pub again : o < n → v.run ≡ 5 → is_stuff_error v other ≡ true
  again more five =
      let sent : level_at (wire f) o ≡ opposite v.last = level_at-append (stuffed_part f) (tail Dominant Recessive) o more ∙ sent_stuff_bit f is o some more five in
      and_from (eqb v.run 5) (same other v.last) (eq-eqb v.run 5 five) (repeats (level_at (wire f) o) v.last sent)

  pub struck-stuff_bit : (k : ℕ) → o < n → v.run ≡ 5 → heard_levels first_front (drop 1 (struck f o k)) ≡ None
  struck-stuff_bit k more five =
      heard-early f is o some (other ∷ replicate k Dominant) (omega (arith, more))
      ∙ ap (option_and_then (λ u. heard_levels u (replicate k Dominant))) (stuff-refused v other (again more five))

  pub taken : v.run ≢ 5 → is_stuff_error v other ≡ false
  taken free = and_left (eqb v.run 5) (same other v.last) (ne_eqb v.run 5 free)

  pub struck-bit : (k : ℕ) → o < n → v.run ≢ 5 → heard_levels first_front (drop 1 (struck f o k)) ≡ heard_levels (heard_level v other) (replicate k Dominant)
  struck-bit k more free =
      heard-early f is o some (other ∷ replicate k Dominant) (omega (arith, more))
      ∙ ap (option_and_then (λ u. heard_levels u (replicate k Dominant))) (hear_at-going v other (next_place v) (front_at-going f is o some more) (taken free))

  -- so late are the receivers
  pub late-behind : n ≤ o → lateness f o ≡ 0
  unfolding lateness
  late-behind past = ap (until_refused 6) (struck-behind 0 past)

  pub late-stuff_bit : o < n → v.run ≡ 5 → lateness f o ≡ 0
  unfolding lateness
  late-stuff_bit more five = ap (until_refused 6) (struck-stuff_bit 0 more five)

  pub late-bit : {j : ℕ} → o < n → v.run ≢ 5 → ErrsIn j (part_phase (heard_level v other)) → j ≤ 6 → lateness f o ≡ j
  unfolding lateness
  late-bit more free errs few = ap (until_refused 6) (struck-bit 0 more free) ∙ errs-refused errs (heard_level v other) refl 5 few

  -- and no later than this
  pub soon-bit : o < n → v.run ≢ 5 → (j : ℕ) × ((j ≤ 6) × ErrsIn j (part_phase (heard_level v other)))
  soon-bit more free =
      let front = (front_at-front f is o some (omega (arith, more))).front in
      let run : (heard_level v other).run ≡ run_after v.last v.run other = ap (λ (u : FrontParts). u.run) (cond-false (eqb v.run 5) _ _ (ne_eqb v.run 5 free)) in
      let not_five : v.run ≢ 5 = free in
      soon (heard_level v other) (omega (arith, run, run_after-ge v.last v.run other)) (omega (arith, run, run_after-le v.last v.run other, front.short, not_five))

-- with this many dominant levels one is an error, and with fewer none
pub refused-exactly : (f : Parts) (o k : ℕ) → IsFrame f → 0 < o → (heard_levels first_front (drop 1 (struck f o k)) ≡ None) ↔ (lateness f o ≤ k)
refused-exactly f o k is some = elim (cases_lt o (length (stuffed_part f))) [
  | inr past ↦ (λ e. omega (arith, late-behind f is o some past), λ few. struck-behind f is o some k past)
  | inl more ↦ elim (cases_eq (front_at f o).run 5) [
    | inl five ↦ (λ e. omega (arith, late-stuff_bit f is o some more five), λ few. struck-stuff_bit f is o some k more five)
    | inr free ↦ at_bit_place more free
  ]
]
  where
    at_bit_place : o < length (stuffed_part f) → (front_at f o).run ≢ 5 → (heard_levels first_front (drop 1 (struck f o k)) ≡ None) ↔ (lateness f o ≤ k)
    at_bit_place more free =
        let u = heard_level (front_at f o) (other f is o some) in
        let first = soon-bit f is o some more free in
        let late : lateness f o ≡ first.0 = late-bit f is o some more free first.1.1 first.1.0 in
        let heard = struck-bit f is o some k more free in
        let seven = errs-refused first.1.1 u refl 6 (omega (arith, first.1.0)) in
        let by = refused-by 6 k (Some u) (omega (arith, seven, first.1.0)) in
        (λ none. omega (arith, late, seven, by.0 (sym heard ∙ none)), λ few. heard ∙ by.1 (omega (arith, late, seven, few)))

-- their error comes later unless a stuff bit is hit, or a level after the stuffed part
pub late-at_once : (f : Parts) (o : ℕ) → IsFrame f → 0 < o → (lateness f o ≡ 0) ↔ ((is_stuff_place (stuffed_part f) o ≡ true) ⊎ (length (stuffed_part f) ≤ o))
late-at_once f o is some = elim (cases_lt o (length (stuffed_part f))) [
  | inr past ↦ (λ e. inr past, λ h. late-behind f is o some past)
  | inl more ↦ elim (cases_eq (front_at f o).run 5) [
    | inl five ↦ (λ e. inl (due more five), λ h. late-stuff_bit f is o some more five)
    | inr free ↦ (
      λ e. (let first = soon-bit f is o some more free in absurd (omega (arith, e, late-bit f is o some more free first.1.1 first.1.0, some-errs first.1.1))),
      λ h. elim h [ inl place ↦ absurd (not_due more free place) | inr past ↦ absurd (omega (arith, more, past)) ],
    )
  ]
]
  where
    due : o < length (stuffed_part f) → (front_at f o).run ≡ 5 → is_stuff_place (stuffed_part f) o ≡ true
    due more five =
        let v = front_at f o in
        let b = take o (stuffed_part f) in
        sym (is_due-reverse b) ∙ is_due-long b v.last v.run (front_at-front f is o some (omega (arith, more))).ends (omega (arith, five))

    not_due : o < length (stuffed_part f) → (front_at f o).run ≢ 5 → is_stuff_place (stuffed_part f) o ≡ true → ⊥
    not_due more free place =
        let v = front_at f o in
        let b = take o (stuffed_part f) in
        let front = front_at-front f is o some (omega (arith, more)) in
        let not_five : v.run ≢ 5 = free in
        let none : is_stuff_place (stuffed_part f) o ≡ false = sym (is_due-reverse b) ∙ is_due-short b v.last v.run front.ends (omega (arith, front.front.short, not_five)) in
        cc

pub lateness-few : (f : Parts) (o : ℕ) → lateness f o ≤ 6
unfolding lateness
lateness-few f o = until_refused-few 6 (heard_levels first_front (drop 1 (struck f o 0)))

-- ---- The receivers of a frame that is hit in its window.

module _ (f : Parts) (is : IsFrame f) (o : ℕ) (hit : IsHit f o) where
  pub hit-level : inverted f is o hit ≡ other f is o hit.some
  hit-level = ap opposite (level_at-append (wire f) (Recessive ∷ Recessive ∷ Recessive ∷ []) o (omega (arith, hit.within, length-wire f)))

  breaks-late : {j : ℕ} → BreaksIn f is o hit j → j ≤ 6 → lateness f o ≡ j
  breaks-late (at_end past) few = late-behind f is o hit.some past
  breaks-late (at_stuff_bit more five) few = late-stuff_bit f is o hit.some more five
  breaks-late (at_bit j more free errs) few = late-bit f is o hit.some more free (subst (λ x. ErrsIn j (part_phase (heard_level (front_at f o) x))) hit-level errs) few

  -- their error comes this many bit times later
  pub lateness-breaks : lateness f o ≡ (breaks-soon f is o hit).0
  lateness-breaks = let first = breaks-soon f is o hit in breaks-late first.1.1 first.1.0
