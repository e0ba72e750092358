-- Offers that are left: those of which no two have one arbitration field, the earliest, and the frames that are offered by a time.
use Rattle.std.proofs.Common.{◌≡◌, ℕ, suc, ◌≤◌, ◌⊎◌, Bool, List, [], ◌∷◌, refl, sym, ◌∙◌, ap, inl, inr, arith}
use Rattle.std.specs.Prelude.{min, fold, nat_le, filter}
use Rattle.std.proofs.lemmas.Bool.{cases_Bool, le-leb, leb-true, leb-false}
use Rattle.can_frame.specs.Parts.{Parts}
use Rattle.can_frame.specs.Arbitration.{arbitration_field}
use Rattle.can_bus.specs.Quiet.{AreDifferent}
use Rattle.can_bus.specs.Timed.{TimedParts, frames_of, Lists, earliest, offered_by}
use Rattle.can_bus.proofs.Ascending.{Other}
use Rattle.can_bus.proofs.Members.{Stands, stands-none, stands-here, stands-later, stands-cases, filter-stands, stands-filter, stands-map, map-stands}

-- ---- offers of which no two have one arbitration field

abbrev pub AllDiffer : List TimedParts → Type 0
AllDiffer [] = Unit {0}
AllDiffer (x ∷ offers) = ((y : TimedParts) → Lists offers y → Other x.frame y.frame) × AllDiffer offers

pub differ-from : (offers : List TimedParts) → AreDifferent (frames_of offers) → AllDiffer offers
differ-from [] different = tt
differ-from (x ∷ offers) different = (
  λ y s. let there = stands-map (λ (z : TimedParts). z.frame) offers y s in different 0 (suc there.0) x.frame y.frame (omega arith) refl there.1,
  differ-from offers (λ m n f g less a b. different (suc m) (suc n) f g (omega arith) a b),
)

-- of one arbitration field there is one offer
pub one-of-field : (offers : List TimedParts) → AllDiffer offers → (x y : TimedParts) → Lists offers x → Lists offers y → arbitration_field x.frame ≡ arbitration_field y.frame → x ≡ y
one-of-field [] apart x y s t same = absurd (stands-none x s)
one-of-field (z ∷ offers) apart x y s t same =
    elim (stands-cases z offers x s) [
      | inl e ↦ elim (stands-cases z offers y t) [
        | inl h ↦ sym e ∙ h
        | inr later ↦ absurd (apart.0 y later (ap (λ (w : TimedParts). arbitration_field w.frame) e ∙ same))
      ]
      | inr first ↦ elim (stands-cases z offers y t) [
        | inl h ↦ absurd (apart.0 x first (ap (λ (w : TimedParts). arbitration_field w.frame) h ∙ sym same))
        | inr later ↦ one-of-field offers apart.1 x y first later same
      ]
    ]

-- ---- the earliest offer

least-start : (a : ℕ) (offers : List TimedParts) → fold (λ t (y : TimedParts). min t y.time) a offers ≤ a
least-start a [] = omega arith
least-start a (x ∷ offers) = let more = least-start (min a x.time) offers in omega arith

least-each : (a : ℕ) (offers : List TimedParts) (y : TimedParts) → Lists offers y → fold (λ t (x : TimedParts). min t x.time) a offers ≤ y.time
least-each a [] y s = absurd (stands-none y s)
least-each a (x ∷ offers) y s =
    elim (stands-cases x offers y s) [
      | inl e ↦ let more = least-start (min a x.time) offers in let same : x.time ≡ y.time = ap (λ (w : TimedParts). w.time) e in omega arith
      | inr later ↦ least-each (min a x.time) offers y later
    ]

least-is : (a : ℕ) (offers : List TimedParts) → (fold (λ t (y : TimedParts). min t y.time) a offers ≡ a) ⊎ ((y : TimedParts) × Lists offers y × (y.time ≡ fold (λ t (x : TimedParts). min t x.time) a offers))
least-is a [] = inl refl
least-is a (x ∷ offers) =
    elim (least-is (min a x.time) offers) [
      | inl e ↦ elim (cases_Bool (nat_le a x.time)) [
        | inl less ↦ let h : a ≤ x.time = leb-true a x.time less in inl (omega arith)
        | inr more ↦ inr (x, stands-here x offers, omega (arith, leb-false a x.time more))
      ]
      | inr there ↦ inr (there.0, stands-later x offers there.0 there.1, there.2)
    ]

module _ (x : TimedParts) (others : List TimedParts) where
  pub earliest-each : (y : TimedParts) → Lists (x ∷ others) y → earliest x others ≤ y.time
  earliest-each y s =
      elim (stands-cases x others y s) [
        | inl e ↦ let least = least-start x.time others in let same : x.time ≡ y.time = ap (λ (w : TimedParts). w.time) e in omega arith
        | inr later ↦ least-each x.time others y later
      ]

  pub earliest-is : (y : TimedParts) × Lists (x ∷ others) y × (y.time ≡ earliest x others)
  earliest-is =
      elim (least-is x.time others) [
        | inl e ↦ (x, stands-here x others, sym e)
        | inr there ↦ (there.0, stands-later x others there.0 there.1, there.2)
      ]

-- ---- the frames that are offered by a time

module _ (t : ℕ) (left : List TimedParts) where
  abbrev in_time : TimedParts → Bool
  in_time x = nat_le x.time t

  pub stands-offered : (x : TimedParts) → Lists left x → x.time ≤ t → Stands (offered_by t left) x.frame
  stands-offered x s early = stands-map (λ (z : TimedParts). z.frame) (filter in_time left) x (stands-filter in_time left x s (le-leb x.time t early))

  pub offered-stands : (f : Parts) → Stands (offered_by t left) f → (x : TimedParts) × Lists left x × (x.time ≤ t) × (x.frame ≡ f)
  offered-stands f s =
      let there = map-stands (λ (z : TimedParts). z.frame) (filter in_time left) f s in
      let passed = filter-stands in_time left there.0 there.1 in
      (there.0, passed.0, leb-true there.0.time t passed.1, there.2)
