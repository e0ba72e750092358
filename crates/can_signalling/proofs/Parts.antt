-- A receiver of a stuffed part, level by level.
use Rattle.std.proofs.Common.{◌≡◌, ◌≢◌, ◌+◌, ℕ, zero, suc, ◌<◌, ◌≤◌, true, false, Option, List, [], ◌∷◌, length, take, refl, sym, ◌∙◌, ap, subst, arith, inl, inr}
use Rattle.std.proofs.lemmas.Bool.{cases_Bool, cond-true, cond-false}
use Rattle.std.proofs.lemmas.List.{take_more}
use Rattle.can_frame.specs.declared.level.Level.{Level}
use Rattle.can_frame.specs.declared.level.Level.TheVariants.{Dominant}
use Rattle.can_frame.specs.Parts.{Parts}
use Rattle.can_wire.specs.Layout.{level_at, IsPart}
use Rattle.can_code.specs.declared.front.Place.{Place}
use Rattle.can_code.specs.declared.front.Place.TheVariants.{StuffBit, Bit, CrcDelimiter as ended}
use Rattle.can_code.specs.Front.{FrontParts, first_front, next_place, is_stuff_error, heard_level}
use Rattle.can_code.proofs.FrontLemmas.{next_place-first_front}
use Rattle.can_code.proofs.FrontsOf.{IsFrontOf, IsFrontOf-first_front, IsFrontOf-heard_level, IsFrontOf-part}
use Rattle.can_mac.specs.declared.phase.Role.TheVariants.{Receiver}
use Rattle.can_mac.specs.declared.phase.Phase.TheVariants.{StuffedPart, CrcDelimiter}
use Rattle.can_mac.specs.State.{MacState}
use Rattle.can_mac.specs.Moves.{ends_part, part_phase, reading_of}
use Rattle.can_mac.proofs.FrameParts.{step-hears}
use Rattle.can_mac.proofs.PartEnds.{ends_part-ended, ends_part-partial}
use Rattle.can_signalling.specs.Signalling.{IsReady}
use Rattle.can_signalling.proofs.Walks.{Walks, Listens, Listens-begins, Walks-next, Walks-step}

module _ (m : MacState) (waits : ℕ → Option Parts) (others : List Level) where
  -- A stuff error before bit time n; or the stuffed part ends by then; or it goes on.
  pub data PartBy (n : ℕ) : Type 0 where
    stuff_error : (t : ℕ) (f : FrontParts) → t < n → Listens m waits others t (StuffedPart f) → is_stuff_error f (level_at others t) ≡ true → PartBy n
    ends : (k : ℕ) (u : List Level) → k ≤ n → Listens m waits others k (CrcDelimiter (reading_of u)) → IsPart u (take k others) → PartBy n
    goes_on : (f : FrontParts) → Listens m waits others n (StuffedPart f) → IsFrontOf (take n others) f → next_place f ≢ ended → PartBy n

  first_level : (l : List Level) → 0 < length l → level_at l 0 ≡ Dominant → take 1 l ≡ Dominant ∷ []
  first_level [] some start = absurd (omega arith)
  first_level (x ∷ l) some start = ap (λ y. y ∷ []) start

  -- a level that is no stuff error
  module _ (n : ℕ) (f : FrontParts) (more : n < length others) (listens : Listens m waits others n (StuffedPart f)) (front : IsFrontOf (take n others) f)
      (going : next_place f ≢ ended) (no_error : is_stuff_error f (level_at others n) ≡ false) where
    abbrev next : FrontParts
    next = heard_level f (level_at others n)

    next_listens : Listens m waits others (suc n) (part_phase next)
    next_listens slot =
        Walks-next m waits others slot n (StuffedPart f) m.counters more (listens slot) (part_phase next) m.counters
        (Walks-step m waits others slot n (StuffedPart f) m.counters more (listens slot) (level_at others n) refl (λ w. refl) _
        (step-hears f (record { pending = m.overloads.pending; used = 0 }) m.counters (waits n) Receiver (level_at others n) no_error tt))
        (inl refl)

    next_front : IsFrontOf (take (suc n) others) next
    next_front =
        let one_more : n + 1 ≡ suc n = omega arith in
        subst (λ l. IsFrontOf l next) (sym (take_more others n Dominant more) ∙ ap (λ k. take k others) one_more)
        (IsFrontOf-heard_level (take n others) f front (level_at others n) going no_error)

    still : next_place next ≢ ended → PartBy (suc n)
    still on =
        let phase : part_phase next ≡ StuffedPart next = cond-false (ends_part next) _ _ (ends_part-partial next on) in
        goes_on next (λ slot. subst (λ p. Walks m waits others slot (suc n) p m.counters) phase (next_listens slot)) next_front on

    by_place : (place : Place) → next_place next ≡ place → PartBy (suc n)
    by_place ended e =
        let phase : part_phase next ≡ CrcDelimiter (reading_of next.unstuffed) = cond-true (ends_part next) _ _ (ends_part-ended next e) in
        ends (suc n) next.unstuffed (omega arith) (λ slot. subst (λ p. Walks m waits others slot (suc n) p m.counters) phase (next_listens slot)) (IsFrontOf-part (take (suc n) others) next next_front e)
    by_place StuffBit e = still (λ h. let no : StuffBit ≡ ended = sym e ∙ h in cc)
    by_place Bit e = still (λ h. let no : Bit ≡ ended = sym e ∙ h in cc)

  module _ (ready : IsReady m waits) (start : level_at others 0 ≡ Dominant) where
    pub part_by : (n : ℕ) → suc n ≤ length others → PartBy (suc n)
    part_by zero within =
        goes_on first_front (Listens-begins m waits others ready (omega arith) start)
        (subst (λ l. IsFrontOf l first_front) (sym (first_level others (omega arith) start)) IsFrontOf-first_front) next_place-first_front
    part_by (suc n) within = further (part_by n (omega (arith, within)))
      where
        further : PartBy (suc n) → PartBy (suc (suc n))
        further (stuff_error t f before listens error) = stuff_error t f (omega (arith, before)) listens error
        further (ends k u before listens part) = ends k u (omega (arith, before)) listens part
        further (goes_on f listens front going) = elim (cases_Bool (is_stuff_error f (level_at others (suc n)))) [
          | inl error ↦ stuff_error (suc n) f (omega arith) listens error
          | inr none ↦ by_place (suc n) f (omega (arith, within)) listens front going none (next_place (heard_level f (level_at others (suc n)))) refl
        ]
