-- Offers of which no two have one arbitration field: what is offered by a time, and what is left without one of them.
use Rattle.std.proofs.Common.{◌≡◌, true, false, List, [], ◌∷◌, ◌++◌, refl, sym, ap, subst, ◌∙◌, inl, inr}
use Rattle.std.proofs.lemmas.Bool.{cond-true, cond-false, cases_Bool}
use Rattle.can_frame.specs.Parts.{Parts}
use Rattle.can_node.specs.Ports.{same_field, without}
use Rattle.can_bus.specs.Timed.{TimedParts, Lists, frames_of, without_offer}
use Rattle.can_bus.proofs.Ascending.{Other}
use Rattle.can_bus.proofs.Members.{stands-back, stands-cases, stands-here, stands-later}
use Rattle.can_bus.proofs.LeftOffers.{AllDiffer}
use Rattle.can_bus.proofs.QuietLogs.{other-test}

-- ---- two lists, one after the other

pub differ-back : (a b : List TimedParts) → AllDiffer (a ++ b) → AllDiffer b
differ-back [] b apart = apart
differ-back (x ∷ a) b apart = differ-back a b apart.1

pub differ-across : (a b : List TimedParts) → AllDiffer (a ++ b) → (x y : TimedParts) → Lists a x → Lists b y → Other x.frame y.frame
differ-across [] b apart x y s t = let e = s.1 in cc
differ-across (z ∷ a) b apart x y s t = elim (stands-cases z a x s) [
  | inl same ↦ subst (λ (w : TimedParts). Other w.frame y.frame) same (apart.0 y (stands-back a b y t))
  | inr later ↦ differ-across a b apart.1 x y later t
]

-- ---- without a frame

module _ (f : Parts) where
  -- if it is the frame of the first offer, or of none of these
  module _ (x : TimedParts) (own : List TimedParts) where
    pub first-out : same_field f x.frame ≡ true → without_offer f (x ∷ own) ≡ own
    first-out same = cond-true (same_field f x.frame) own (x ∷ without_offer f own) same

    pub first-stays : same_field f x.frame ≡ false → without_offer f (x ∷ own) ≡ x ∷ without_offer f own
    first-stays other = cond-false (same_field f x.frame) own (x ∷ without_offer f own) other

  pub without-absent : (own : List TimedParts) → ((x : TimedParts) → Lists own x → Other f x.frame) → without_offer f own ≡ own
  without-absent [] other = refl
  without-absent (x ∷ own) other =
      first-stays x own (other-test f x.frame (other x (stands-here x own)))
      ∙ ap (λ l. x ∷ l) (without-absent own (λ y s. other y (stands-later x own y s)))

  -- the frames that are left
  pub without-frames : (own : List TimedParts) → frames_of (without_offer f own) ≡ without f (frames_of own)
  unfolding without
  without-frames [] = refl
  without-frames (x ∷ own) = elim (cases_Bool (same_field f x.frame)) [
    | inl same ↦ ap frames_of (first-out x own same) ∙ sym (cond-true (same_field f x.frame) (frames_of own) (x.frame ∷ without f (frames_of own)) same)
    | inr other ↦
        ap frames_of (first-stays x own other) ∙ ap (λ fs. x.frame ∷ fs) (without-frames own)
        ∙ sym (cond-false (same_field f x.frame) (frames_of own) (x.frame ∷ without f (frames_of own)) other)
  ]
