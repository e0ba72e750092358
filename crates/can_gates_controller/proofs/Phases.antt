-- What follows by the phase.
use Rattle.std.proofs.Common.{◌≡◌, ℕ, zero, suc, ◌<◌, ◌≢◌, Bool, true, false, not, ◌&&◌, length, Option, Some, None, [], ◌∷◌, ◌++◌, get_or, refl, sym, subst, ◌∙◌, ap, arith}
use Rattle.std.proofs.Math.Dec.{eqb}
use Rattle.std.proofs.lemmas.Bool.{cond_both, eqb-false}
use Rattle.can_frame.specs.declared.level.Level.{Level}
use Rattle.can_frame.specs.declared.level.Level.TheVariants.{Dominant}
use Rattle.can_frame.specs.Levels.{is_recessive}
use Rattle.can_frame.specs.Parts.{Parts}
use Rattle.can_wire.specs.Crc.{crc_of}
use Rattle.can_wire.specs.Layout.{level_at}
use Rattle.can_wire.specs.Stuffing.{run_after}
use Rattle.can_wire.proofs.LayoutPlaces.{level_at-dominant}
use Rattle.can_wire.proofs.LayoutLengths.{frame_len_le}
use Rattle.can_code.specs.Front.{FrontParts, IsFront, first_front, has_check, heard_level}
use Rattle.can_code.proofs.FrontLemmas.{IsFront-complete, IsFront-stuff_bit, IsFront-bit, next_place-partial}
use Rattle.can_mac.specs.declared.phase.Reading.{Reading}
use Rattle.can_mac.specs.declared.phase.Role.{Role}
use Rattle.can_mac.specs.declared.phase.Phase.TheVariants.{StuffedPart, CrcDelimiter, AckSlot, AckDelimiter, EndOfFrame}
use Rattle.can_mac.specs.State.{MacPhase, IsOpen, IsPhase}
use Rattle.can_mac.specs.Moves.{reading_of, ends_part}
use Rattle.can_gates.specs.Circuit.{value, never, always}
use Rattle.can_gates.proofs.Constants.{value-never, value-always}
use Rattle.can_gates_mac.specs.Numbers.{phase_number, reading_in}
use Rattle.can_gates_controller.specs.declared.heard.Heard.{Heard}
use Rattle.can_gates_controller.specs.declared.following.Within.{Within}
use Rattle.can_gates_controller.specs.Fronts.{HoldsFront}
use Rattle.can_gates_controller.specs.Holding.{HoldsHeard, HoldsTold}
use Rattle.can_gates_controller.specs.Following.{Ended, ShowsWithin, IsEither, IsPhaseBehind, is_part, is_behind_part, next_front, next_reading}

pub part_at : (v : ℕ → Bool) → v 0 ≡ false → (p : MacPhase) → value v (get_or (never ∷ never ∷ always ∷ []) (phase_number p) never) ≡ is_part p
part_at v zero_is (StuffedPart front) = value-always v zero_is
part_at v zero_is p = value-never v zero_is

pub end_at : (v : ℕ → Bool) → v 0 ≡ false → (p : MacPhase) → value v (get_or (never ∷ never ∷ never ∷ always ∷ always ∷ always ∷ always ∷ []) (phase_number p) never) ≡ is_behind_part p
end_at v zero_is (CrcDelimiter r) = value-always v zero_is
end_at v zero_is (AckSlot r) = value-always v zero_is
end_at v zero_is (AckDelimiter r) = value-always v zero_is
end_at v zero_is (EndOfFrame r place) = value-always v zero_is
end_at v zero_is p = value-never v zero_is

pub first_level : (v : ℕ → Bool) → v 0 ≡ false → (p : ℕ) → value v (get_or [] p never) ≡ is_recessive (level_at (Dominant ∷ []) p)
first_level v zero_is zero = value-never v zero_is
first_level v zero_is (suc p) = value-never v zero_is

pub first_check : (v : ℕ → Bool) → v 0 ≡ false → (p : ℕ) → value v (get_or [] p never) ≡ is_recessive (level_at (crc_of (Dominant ∷ [])) p)
unfolding crc_of
first_check v zero_is p = value-never v zero_is ∙ ap is_recessive (sym (level_at-dominant [] 15 p))

-- registers that are chosen

module _ (v : ℕ → Bool) (k a b : Heard) where
  first_front_is : (t : Bool) (front : FrontParts) → t ≡ true → IsEither v k t a b → HoldsFront v a front → HoldsFront v k front
  first_front_is true front e is held = record { levels = λ p h. is.levels p h ∙ held.levels p h; count = is.count ∙ held.count; run = record { last = is.last ∙ held.run.last; run = is.run ∙ held.run.run }; check = λ p h. is.check p h ∙ held.check p h }
  first_front_is false front e is held = cc e

  other_front_is : (t : Bool) (front : FrontParts) → t ≡ false → IsEither v k t a b → HoldsFront v b front → HoldsFront v k front
  other_front_is true front e is held = cc e
  other_front_is false front e is held = record { levels = λ p h. is.levels p h ∙ held.levels p h; count = is.count ∙ held.count; run = record { last = is.last ∙ held.run.last; run = is.run ∙ held.run.run }; check = λ p h. is.check p h ∙ held.check p h }

  first_told_is : (t : Bool) (r : Reading) → t ≡ true → IsEither v k t a b → HoldsTold v a r → HoldsTold v k r
  first_told_is true r e is held = record { unstuffed = held.unstuffed; complete = held.complete; told = held.told; levels = λ p h. is.levels p h ∙ held.levels p h; count = is.count ∙ held.count; some = rw is.run held.some; short = rw is.run held.short; check = λ p h. is.check p h ∙ held.check p h }
  first_told_is false r e is held = cc e

  other_told_is : (t : Bool) (r : Reading) → t ≡ false → IsEither v k t a b → HoldsTold v b r → HoldsTold v k r
  other_told_is true r e is held = cc e
  other_told_is false r e is held = record { unstuffed = held.unstuffed; complete = held.complete; told = held.told; levels = λ p h. is.levels p h ∙ held.levels p h; count = is.count ∙ held.count; some = rw is.run held.some; short = rw is.run held.short; check = λ p h. is.check p h ∙ held.check p h }

abbrev reading_or : Reading → Option Reading → Reading
reading_or d None = d
reading_or d (Some r) = r

same_reading : (q r : Reading) → Some q ≡ Some r → q ≡ r
same_reading q r e = ap (reading_or q) e

abbrev front_or : FrontParts → Option FrontParts → FrontParts
front_or d None = d
front_or d (Some f) = f

pub same_front : (f g : FrontParts) → Some f ≡ Some g → f ≡ g
same_front f g e = ap (front_or f) e

-- the front after one more level
heard_front : (front : FrontParts) (x : Level) → IsOpen front → IsFront (heard_level front x)
heard_front front x h =
    let due : FrontParts = record { unstuffed = front.unstuffed; last = x; run = 1 } in
    let bit : FrontParts = record { unstuffed = front.unstuffed ++ x ∷ []; last = x; run = run_after front.last front.run x } in
    cond_both (eqb front.run 5) due bit IsFront
    (λ e. IsFront-stuff_bit front h.front x)
    (λ e. let not_due : front.run ≢ 5 = eqb-false front.run 5 e in IsFront-bit front h.front not_due (next_place-partial front h.goes_on not_due) x)

-- a stuffed part that has ended has all its unstuffed levels, and no stuff bit is due
ended_parts : (a b : Bool) → (a && not b) ≡ true → (a ≡ true) × (b ≡ false)
ended_parts true false e = (refl, refl)
ended_parts true true e = cc e
ended_parts false b e = cc e

told_of : (v : ℕ → Bool) (k : Heard) (front : FrontParts) (r : Reading) → HoldsFront v k front → IsFront front → ends_part front ≡ true → Some (reading_of front.unstuffed) ≡ Some r → HoldsTold v k r
told_of v k front r held is end e =
    let parts = ended_parts (has_check front.unstuffed) (eqb front.run 5) end in
    let not_due : front.run ≢ 5 = eqb-false front.run 5 parts.1 in
    let run = held.run.run in record {
      unstuffed = front.unstuffed;
      complete = IsFront-complete front is parts.0;
      told = sym (same_reading (reading_of front.unstuffed) r e);
      levels = held.levels;
      count = held.count;
      some = rw run is.some;
      short = rw run (omega (arith, is.short, not_due));
      check = held.check;
    }

-- what a next phase says of the front and of the reading before

pub front_in : (p q : MacPhase) (role new : Role) (waiting : Option Parts) (x : Level) (front : FrontParts) → q ≡ StuffedPart front → IsPhaseBehind p role waiting x q new → next_front p x ≡ Some front
front_in p q role new waiting x front e is =
    let P : MacPhase → Type 0 = λ q. IsPhaseBehind p role waiting x q new in (subst P e is).0

ended_after : (p q : MacPhase) (role new : Role) (waiting : Option Parts) (x : Level) (r : Reading) → reading_in q ≡ Some r → IsPhaseBehind p role waiting x q new → Ended p x
ended_after p (CrcDelimiter s) role new waiting x r e is = is.1.1
ended_after p (AckSlot s) role new waiting x r e is = is.1.1
ended_after p (AckDelimiter s) role new waiting x r e is = is.1.1
ended_after p (EndOfFrame s place) role new waiting x r e is = is.1.1
ended_after p q role new waiting x r e is = cc e

reading_after : (p q : MacPhase) (role new : Role) (waiting : Option Parts) (x : Level) (r : Reading) → reading_in q ≡ Some r → IsPhaseBehind p role waiting x q new → next_reading p x ≡ Some r
reading_after p (CrcDelimiter s) role new waiting x r e is = is.0 ∙ e
reading_after p (AckSlot s) role new waiting x r e is = is.0 ∙ e
reading_after p (AckDelimiter s) role new waiting x r e is = is.0 ∙ e
reading_after p (EndOfFrame s place) role new waiting x r e is = is.0 ∙ e
reading_after p q role new waiting x r e is = cc e

module _ (v : ℕ → Bool) (made kept first heard next : Heard) (k : Within) where
  -- by the phase before
  front_follows : (p : MacPhase) (x : Level) (front : FrontParts) → ShowsWithin v k p → ((f : FrontParts) → p ≡ StuffedPart f → HoldsFront v next (heard_level f x)) → IsEither v made (value v k.part) next kept → IsEither v kept (value v k.end) heard first → HoldsFront v first first_front → next_front p x ≡ Some front → HoldsFront v made front
  front_follows (StuffedPart f) x front at hears by_part by_end begins e = let P : FrontParts → Type 0 = HoldsFront v made in subst P (same_front (heard_level f x) front e) (first_front_is v made next kept (value v k.part) (heard_level f x) at.part by_part (hears f refl))
  front_follows (CrcDelimiter r) x front at hears by_part by_end begins e = cc e
  front_follows (AckSlot r) x front at hears by_part by_end begins e = cc e
  front_follows (AckDelimiter r) x front at hears by_part by_end begins e = cc e
  front_follows (EndOfFrame r place) x front at hears by_part by_end begins e = cc e
  front_follows p x front at hears by_part by_end begins e =
      let P : FrontParts → Type 0 = HoldsFront v made in
      subst P (same_front first_front front e) (other_front_is v made next kept (value v k.part) first_front at.part by_part (other_front_is v kept heard first (value v k.end) first_front at.end by_end begins))

  behind_told : (r s : Reading) → value v k.part ≡ false → value v k.end ≡ true → HoldsTold v heard s → IsEither v made (value v k.part) next kept → IsEither v kept (value v k.end) heard first → Some s ≡ Some r → HoldsTold v made r
  behind_told r s part end held by_part by_end e =
      let P : Reading → Type 0 = HoldsTold v made in
      subst P (same_reading s r e) (other_told_is v made next kept (value v k.part) s part by_part (first_told_is v kept heard first (value v k.end) s end by_end held))

  told_follows : (p : MacPhase) (x : Level) (r : Reading) → IsPhase p → ShowsWithin v k p → HoldsHeard v heard p → ((f : FrontParts) → p ≡ StuffedPart f → HoldsFront v next (heard_level f x)) → IsEither v made (value v k.part) next kept → IsEither v kept (value v k.end) heard first → Ended p x → next_reading p x ≡ Some r → HoldsTold v made r
  told_follows (StuffedPart f) x r is at held hears by_part by_end end e = told_of v made (heard_level f x) r (first_front_is v made next kept (value v k.part) (heard_level f x) at.part by_part (hears f refl)) (heard_front f x is) end e
  told_follows (CrcDelimiter s) x r is at held hears by_part by_end end e = behind_told r s at.part at.end (held.told s refl) by_part by_end e
  told_follows (AckSlot s) x r is at held hears by_part by_end end e = behind_told r s at.part at.end (held.told s refl) by_part by_end e
  told_follows (AckDelimiter s) x r is at held hears by_part by_end end e = behind_told r s at.part at.end (held.told s refl) by_part by_end e
  told_follows (EndOfFrame s place) x r is at held hears by_part by_end end e = behind_told r s at.part at.end (held.told s refl) by_part by_end e
  told_follows p x r is at held hears by_part by_end end e = cc e

  pub followed : (p q : MacPhase) (role new : Role) (waiting : Option Parts) (x : Level) → IsPhase p → ShowsWithin v k p → HoldsHeard v heard p → ((f : FrontParts) → p ≡ StuffedPart f → HoldsFront v next (heard_level f x)) → IsPhaseBehind p role waiting x q new → IsEither v made (value v k.part) next kept → IsEither v kept (value v k.end) heard first → HoldsFront v first first_front → HoldsHeard v made q
  followed p q role new waiting x phase at held hears is by_part by_end begins = record {
    front = λ front e. front_follows p x front at hears by_part by_end begins (front_in p q role new waiting x front e is);
    told = λ r e. told_follows p x r phase at held hears by_part by_end (ended_after p q role new waiting x r e is) (reading_after p q role new waiting x r e is);
  }

-- the front of a controller in a stuffed part goes on, and is short
pub is_going : (p : MacPhase) (front : FrontParts) → p ≡ StuffedPart front → IsPhase p → IsOpen front
is_going p front e h = subst IsPhase e h

pub is_short : (front : FrontParts) → IsOpen front → length front.unstuffed < 127
is_short front h = omega (arith, h.front.within, frame_len_le front.unstuffed)
