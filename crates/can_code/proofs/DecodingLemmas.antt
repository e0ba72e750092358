-- The frame and the faults of a list of levels, by places in it.
use Rattle.std.proofs.Common.{◌≡◌, ℕ, ◌+◌, ◌<◌, ◌≤◌, true, false, Result, Ok, List, [], ◌∷◌, ◌++◌, length, get_or, take, drop, sym, ◌∙◌, ap, subst, arith, append_assoc, length-append}
use Rattle.std.proofs.lemmas.List.{take_more, take_all, take_at, take-append-drop, length-take-le, drop_more, nil_from_length}
use Rattle.can_frame.specs.declared.level.Level.{Level}
use Rattle.can_frame.specs.declared.level.Level.TheVariants.{Dominant, Recessive}
use Rattle.can_frame.specs.Levels.{is_recessive}
use Rattle.can_code.specs.declared.fault.CodeFaultKind.{CodeFaultKind}
use Rattle.can_code.specs.declared.fault.CodeFaultKind.TheVariants.{Short, NoStartOfFrame}
use Rattle.can_code.specs.declared.fault.CodeFault.{CodeFault}
use Rattle.can_wire.specs.Heard.{HeardParts, Spells}
use Rattle.can_code.specs.CodeFaults.{IsCodeFault}
use Rattle.can_wire.proofs.SpellingFronts.{Spells-apart}
use Rattle.can_code.proofs.CodeFaultLemmas.{IsCodeFault-none, IsCodeFault-no_start}

-- there is no first level
pub nothing_first : (l : List Level) → length l ≡ 0 → IsCodeFault l (record { kind = Short; place = 0 })
nothing_first l h = subst (λ t. IsCodeFault t (record { kind = Short; place = 0 })) (sym (nil_from_length l h)) IsCodeFault-none

-- the first level is no start of frame
pub recessive_first : (l : List Level) (x : Level) (rest : List Level) → l ≡ x ∷ rest → is_recessive x ≡ true → IsCodeFault l (record { kind = NoStartOfFrame; place = 0 })
recessive_first l Recessive rest whole h = subst (λ t. IsCodeFault t (record { kind = NoStartOfFrame; place = 0 })) (sym whole) (IsCodeFault-no_start rest)
recessive_first l Dominant rest whole h = cc

-- after the start of frame
pub start_and_rest : (l : List Level) (x : Level) (rest : List Level) → l ≡ x ∷ rest → is_recessive x ≡ false → l ≡ Dominant ∷ rest
start_and_rest l Dominant rest whole h = whole
start_and_rest l Recessive rest whole h = cc

-- the start of frame and i levels of the rest
module _ (rest : List Level) (i : ℕ) where
  abbrev front : List Level
  front = Dominant ∷ take i rest

  -- nothing follows them
  pub all_heard : (l : List Level) → l ≡ Dominant ∷ rest → length rest ≤ i → front ≡ l
  all_heard l behind_start past = ap (λ t. Dominant ∷ t) (take_all i rest past) ∙ sym behind_start

  -- x follows them
  module _ (x : Level) (within : i < length rest) (x_is : x ≡ get_or rest i Dominant) where
    pub front_longer : front ++ x ∷ [] ≡ Dominant ∷ take (i + 1) rest
    front_longer = ap (λ y. front ++ y ∷ []) x_is ∙ ap (λ t. Dominant ∷ t) (sym (take_more rest i Dominant within))

    module _ (l : List Level) (behind_start : l ≡ Dominant ∷ rest) where
      whole : front ++ x ∷ drop (i + 1) rest ≡ l
      whole = ap (λ y. front ++ y ∷ drop (i + 1) rest) x_is ∙ ap (λ t. front ++ t) (sym (drop_more rest i Dominant within)) ∙ ap (λ t. Dominant ∷ t) (take-append-drop i rest) ∙ sym behind_start

      -- a fault shows at x
      pub fault_at : (kind : CodeFaultKind) → IsCodeFault (front ++ x ∷ drop (i + 1) rest) (record { kind = kind; place = length front }) → IsCodeFault l (record { kind = kind; place = i + 1 })
      fault_at kind fault =
          let place : length front ≡ i + 1 = omega (arith, length-take-le i rest (omega arith)) in
          subst (λ n. IsCodeFault l (record { kind = kind; place = n })) place (subst (λ t. IsCodeFault t (record { kind = kind; place = length front })) whole fault)

      -- a frame ends with x
      pub found_at : (h : HeardParts) → Spells h (front ++ x ∷ []) → Spells h (take (i + 1 + 1) l) × (i + 1 + 1 ≤ length l)
      found_at h spelled =
          let size : length (front ++ x ∷ []) ≡ i + 1 + 1 = omega (arith, length-append front (x ∷ []), length-take-le i rest (omega arith)) in
          let split : (front ++ x ∷ []) ++ drop (i + 1) rest ≡ l = append_assoc front (x ∷ []) (drop (i + 1) rest) ∙ whole in
          let taken : front ++ x ∷ [] ≡ take (i + 1 + 1) l = sym (take_at (front ++ x ∷ []) (drop (i + 1) rest) (i + 1 + 1) size) ∙ ap (take (i + 1 + 1)) split in
          (subst (Spells h) taken spelled, omega (arith, ap length behind_start))

-- a spelling at the front of a list is the only one
pub only_spelled : (l : List Level) (g h : HeardParts) (n : ℕ) (w rest : List Level) → n ≤ length l → Spells g (take n l) → Spells h w → w ++ rest ≡ l
    → ◌≡◌ {A = Result (HeardParts × ℕ) CodeFault} (Ok (g, n)) (Ok (h, length w))
only_spelled l g h n w rest fits mine other whole =
    let one = Spells-apart g h (take n l) w (drop n l) rest mine other (take-append-drop n l ∙ sym whole) in
    let size : n ≡ length w = sym (length-take-le n l fits) ∙ ap length one.1 in
    let heard : g ≡ h = one.0 in
    cc
