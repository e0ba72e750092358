-- Where a decoder has its fault in the levels of a frame that is hit, and the dominant levels after them.
use Rattle.std.proofs.Common.{◌≡◌, ◌≢◌, ℕ, zero, suc, ◌+◌, ◌-◌, ◌<◌, ◌≤◌, Bool, true, false, List, [], ◌∷◌, ◌++◌, length, take, replicate, refl, sym, ◌∙◌, ap, subst, arith, inl, inr, append_assoc, length-append}
use Rattle.std.proofs.Math.Dec.{eqb}
use Rattle.std.proofs.lemmas.Bool.{cases_eq, cases_lt, and_parts, eqb-true}
use Rattle.std.proofs.lemmas.List.{append-nil, take_all, take-append-le, length-take-le}
use Rattle.can_frame.specs.declared.level.Level.{Level}
use Rattle.can_frame.specs.declared.level.Level.TheVariants.{Dominant, Recessive}
use Rattle.can_frame.specs.Levels.{same, opposite}
use Rattle.can_frame.specs.Parts.{Parts, IsFrame}
use Rattle.can_code.specs.declared.fault.CodeFaultKind.TheVariants.{Stuff, Crc, Form}
use Rattle.can_code.specs.declared.fault.CodeFault.{CodeFault}
use Rattle.can_wire.specs.Crc.{IsCrc}
use Rattle.can_wire.specs.Wire.{stuffed_part, tail, unstuffed}
use Rattle.can_wire.specs.Layout.{level_at, check_of, head_of, IsPart}
use Rattle.can_code.specs.Front.{FrontParts, is_stuff_error, heard_level}
use Rattle.can_code.specs.CodeFaults.{IsCodeFault}
use Rattle.can_code.proofs.StuffedParts.{IsPart-length}
use Rattle.can_code.proofs.FrontsOf.{IsFrontOf, IsFrontOf-part, IsFrontOf-heard_level}
use Rattle.can_code.proofs.CodeFaultLemmas.{IsCodeFault-stuff, IsCodeFault-form, IsCodeFault-crc}
use Rattle.can_wire.proofs.LayoutPlaces.{level_at-behind}
use Rattle.can_code.proofs.UnstuffedLevels.{stuffed_part-part, unstuffed-agrees}
use Rattle.can_code.proofs.WireFronts.{front_at, front_at-front, front_at-going}
use Rattle.can_mac.specs.State.{MacPhase}
use Rattle.can_mac.specs.Moves.{agrees, part_phase}
use Rattle.can_mac.proofs.PartEnds.{agrees-Decides}
use Rattle.can_mac.proofs.BrokenFrames.{ErrsIn, stuffed, ended, goes_on}
use Rattle.can_bus.specs.RepairedLine.{struck, lateness, refused_place}
use Rattle.can_bus.proofs.Lateness.{some-errs, phase-going, phase-ended, other, again, taken, late-behind, late-stuff_bit, late-bit, soon-bit}

-- these levels have a fault, and the level that is refused for it is the one of this number
abbrev pub IsRefusedAt : List Level → ℕ → Type 0
IsRefusedAt levels place = (fault : CodeFault) × (IsCodeFault levels fault × (refused_place fault.kind fault.place ≡ place))

-- a stuff place repeats the level before it
refused-stuff : (b : List Level) (v : FrontParts) (x : Level) (t : List Level) → IsFrontOf b v → is_stuff_error v x ≡ true → IsRefusedAt (b ++ x ∷ t) (length b)
refused-stuff b v x t r error =
    let both = and_parts (eqb v.run 5) (same x v.last) error in
    (record { kind = Stuff; place = length b }, (IsCodeFault-stuff b v x t r (eqb-true v.run 5 both.0) both.1, refl))

-- the CRC delimiter is dominant
module _ (u b : List Level) (part : IsPart u b) (t : List Level) where
  refused-form : IsCrc (head_of u) (check_of u) → IsRefusedAt (b ++ Dominant ∷ t) (length b)
  refused-form right =
      let form = IsCodeFault-form u b part right true Recessive [] (tail Dominant Recessive) Dominant t (omega arith) refl (λ h more e. cc) in
      (record { kind = Form; place = length b }, (subst (λ c. IsCodeFault (c ++ Dominant ∷ t) (record { kind = Form; place = length c })) (append-nil b) form, refl))

  refused-crc : (IsCrc (head_of u) (check_of u) → ⊥) → IsRefusedAt (b ++ Dominant ∷ t) (length b)
  refused-crc wrong = (record { kind = Crc; place = length b - 1 }, (IsCodeFault-crc u b part (Dominant ∷ t) wrong, omega (arith, IsPart-length u b part)))

  refused-delimiter : IsRefusedAt (b ++ Dominant ∷ t) (length b)
  refused-delimiter = by_test (agrees u) refl
    where
      by_test : (right : Bool) → agrees u ≡ right → IsRefusedAt (b ++ Dominant ∷ t) (length b)
      by_test true e = refused-form ((agrees-Decides u).0 e)
      by_test false e = refused-crc (λ is. (let yes : agrees u ≡ true = (agrees-Decides u).1 is in cc))

-- this many dominant levels, to the one that is an error
refused-in : {j : ℕ} {phase : MacPhase} → ErrsIn j phase → (b : List Level) (v : FrontParts) → IsFrontOf b v → part_phase v ≡ phase → (m : ℕ) → j ≤ suc m → (place : ℕ) → place + 1 ≡ length b + j →
    IsRefusedAt (b ++ replicate (suc m) Dominant) place
refused-in (stuffed w error) b v r e m enough place at =
    subst (IsRefusedAt (b ++ Dominant ∷ replicate m Dominant)) (let same_place : length b ≡ place = omega (arith, at) in same_place)
    (refused-stuff b v Dominant (replicate m Dominant) r (subst (λ u. is_stuff_error u Dominant ≡ true) (sym (phase-going v w e).1) error))
refused-in (ended reading) b v r e m enough place at =
    subst (IsRefusedAt (b ++ Dominant ∷ replicate m Dominant)) (let same_place : length b ≡ place = omega (arith, at) in same_place)
    (refused-delimiter v.unstuffed b (IsFrontOf-part b v r (phase-ended v reading e)) (replicate m Dominant))
refused-in (goes_on w j none next) b v r e zero enough place at = absurd (omega (arith, enough, some-errs next))
refused-in (goes_on w j none next) b v r e (suc m) enough place at =
    let going = phase-going v w e in
    let more = IsFrontOf-heard_level b v r Dominant going.0 (subst (λ u. is_stuff_error u Dominant ≡ false) (sym going.1) none) in
    subst (λ ls. IsRefusedAt ls place) (append_assoc b (Dominant ∷ []) (replicate (suc m) Dominant))
    (refused-in next (b ++ Dominant ∷ []) (heard_level v Dominant) more (ap (λ u. part_phase (heard_level u Dominant)) going.1) m (omega (arith, enough)) place (omega (arith, at, length-append b (Dominant ∷ []))))

module _ (f : Parts) (is : IsFrame f) (o : ℕ) (some : 0 < o) where
  abbrev n : ℕ
  n = length (stuffed_part f)

  abbrev b : List Level
  b = take o (stuffed_part f)

  abbrev seven : List Level
  seven = replicate 7 Dominant

  struck-early : o ≤ n → b ++ (other f is o some ∷ seven) ≡ struck f o 7
  struck-early within = ap (λ ls. ls ++ (other f is o some ∷ seven)) (sym (take-append-le o (stuffed_part f) (tail Dominant Recessive) within))

  size : o ≤ n → length b ≡ o
  size within = length-take-le o (stuffed_part f) within

  fault-end : o ≡ n → IsRefusedAt (struck f o 7) (o + lateness f o)
  fault-end end =
      let whole : b ≡ stuffed_part f = take_all o (stuffed_part f) (omega (arith, end)) in
      let low : other f is o some ≡ Dominant = delimiter in
      subst (λ ls. IsRefusedAt ls (o + lateness f o)) (ap (λ c. c ++ Dominant ∷ seven) (sym whole) ∙ ap (λ x. b ++ (x ∷ seven)) (sym low) ∙ struck-early (omega (arith, end)))
      (subst (IsRefusedAt (stuffed_part f ++ Dominant ∷ seven)) (let at : n ≡ o + lateness f o = omega (arith, end, late-behind f is o some (omega (arith, end))) in at)
      (refused-form (unstuffed f) (stuffed_part f) (stuffed_part-part f is) seven (unstuffed-agrees f)))
    where
      delimiter : other f is o some ≡ Dominant
      delimiter = ap opposite (level_at-behind (stuffed_part f) (tail Dominant Recessive) o (omega (arith, end)) ∙ ap (level_at (tail Dominant Recessive)) (let none : o - n ≡ 0 = omega (arith, end) in none))

  fault-stuff_bit : o < n → (front_at f o).run ≡ 5 → IsRefusedAt (struck f o 7) (o + lateness f o)
  fault-stuff_bit more five =
      subst (λ ls. IsRefusedAt ls (o + lateness f o)) (struck-early (omega (arith, more)))
      (subst (IsRefusedAt (b ++ (other f is o some ∷ seven))) (let at : length b ≡ o + lateness f o = omega (arith, size (omega (arith, more)), late-stuff_bit f is o some more five) in at)
      (refused-stuff b (front_at f o) (other f is o some) seven (front_at-front f is o some (omega (arith, more))) (again f is o some more five)))

  fault-bit : o < n → (front_at f o).run ≢ 5 → IsRefusedAt (struck f o 7) (o + lateness f o)
  fault-bit more free =
      let v = front_at f o in
      let x = other f is o some in
      let first = soon-bit f is o some more free in
      let next = IsFrontOf-heard_level b v (front_at-front f is o some (omega (arith, more))) x (front_at-going f is o some more) (taken f is o some free) in
      subst (λ ls. IsRefusedAt ls (o + lateness f o)) (append_assoc b (x ∷ []) seven ∙ struck-early (omega (arith, more)))
      (refused-in first.1.1 (b ++ x ∷ []) (heard_level v x) next refl 6 (omega (arith, first.1.0)) (o + lateness f o)
      (omega (arith, late-bit f is o some more free first.1.1 first.1.0, length-append b (x ∷ []), size (omega (arith, more)))))

  -- the level that is refused is the one at which the receivers have their error
  pub refused-late : o ≤ n → IsRefusedAt (struck f o 7) (o + lateness f o)
  refused-late within = elim (cases_lt o n) [
    | inr past ↦ fault-end (omega (arith, within, past))
    | inl more ↦ elim (cases_eq (front_at f o).run 5) [ inl five ↦ fault-stuff_bit more five | inr free ↦ fault-bit more free ]
  ]
