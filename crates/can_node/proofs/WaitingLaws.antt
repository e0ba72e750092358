-- The frame that waits is the one that goes first, and the frame that leaves is the first of its arbitration field.
use Rattle.std.proofs.Common.{◌≡◌, ◌≢◌, ℕ, zero, suc, ◌<◌, false, List, [], ◌∷◌, refl, sym, ◌∙◌, ap, subst, arith, inl, inr}
use Rattle.std.specs.Prelude.{Option, Some, None, slice_get, ◌↔◌, remove}
use Rattle.std.proofs.lemmas.Bool.{cond-true, cond-false, cases_Bool, cases_order}
use Rattle.can_frame.specs.Parts.{Parts}
use Rattle.can_frame.specs.Arbitration.{arbitration_field}
use Rattle.can_frame.proofs.BeforeLemmas.{Before-one_way, Before-differs}
use Rattle.can_node.specs.Ports.{goes_before, same_field, earlier, waiting, without}
use Rattle.can_node.specs.Waiting.{IsWaiting, IsFirstOfField, NoneOfField}
use Rattle.can_node.proofs.WaitingLemmas.{Wins, Wins-between, goes_before-Wins, not_before, Shares-same_field, same_field-Shares}

not_before_itself : (f : Parts) → Wins f f → ⊥
not_before_itself f h = Before-differs (arbitration_field f) (arbitration_field f) h refl

pub waiting-none : (queue : List Parts) → waiting queue ≡ None → queue ≡ []
unfolding waiting
waiting-none [] e = refl
waiting-none (f ∷ queue) e = let h : Some (earlier f (waiting queue)) ≡ None = e in cc

pub waiting-some : (queue : List Parts) (n : ℕ) (f : Parts) → slice_get queue n ≡ Some f → (w : Parts) × (waiting queue ≡ Some w)
unfolding waiting
waiting-some [] n f e = absurd (let h : None ≡ Some f = e in cc)
waiting-some (g ∷ queue) n f e = (earlier g (waiting queue), refl)

-- ---- one frame in front of a queue of which this one waits

alone : (f : Parts) → IsWaiting (f ∷ []) f
alone f = record { place = 0; stands = refl; least = least; first = λ n g h e. absurd (omega arith) }
  where
    least : (n : ℕ) (g : Parts) → slice_get (f ∷ []) n ≡ Some g → Wins g f → ⊥
    least zero g e h = let s : f ≡ g = cc in not_before_itself f (subst (λ x. Wins x f) (sym s) h)
    least (suc n) g e h = let s : None ≡ Some g = e in cc

module _ (f w : Parts) (queue : List Parts) (h : IsWaiting queue w) where
  passed : Wins w f → IsWaiting (f ∷ queue) w
  passed wins = record { place = suc h.place; stands = h.stands; least = least; first = first }
    where
      least : (n : ℕ) (g : Parts) → slice_get (f ∷ queue) n ≡ Some g → Wins g w → ⊥
      least zero g e b = let s : f ≡ g = cc in Before-one_way (arbitration_field w) (arbitration_field f) wins (subst (λ x. Wins x w) (sym s) b)
      least (suc n) g e b = h.least n g e b

      first : (n : ℕ) (g : Parts) → n < suc h.place → slice_get (f ∷ queue) n ≡ Some g → Wins w g
      first zero g l e = let s : f ≡ g = cc in subst (λ x. Wins w x) s wins
      first (suc n) g l e = h.first n g (omega arith) e

  in_front : (Wins w f → ⊥) → IsWaiting (f ∷ queue) f
  in_front holds = record { place = 0; stands = refl; least = least; first = λ n g l e. absurd (omega arith) }
    where
      least : (n : ℕ) (g : Parts) → slice_get (f ∷ queue) n ≡ Some g → Wins g f → ⊥
      least zero g e b = let s : f ≡ g = cc in not_before_itself f (subst (λ x. Wins x f) (sym s) b)
      least (suc n) g e b = elim (Wins-between g w f b) [ inl x ↦ h.least n g e x | inr y ↦ holds y ]

pub waiting-IsWaiting : (queue : List Parts) (f : Parts) → waiting queue ≡ Some f → IsWaiting queue f
unfolding waiting
waiting-IsWaiting [] f e = absurd (let h : None ≡ Some f = e in cc)
waiting-IsWaiting (g ∷ queue) f e = by_rest (waiting queue) (λ w h. waiting-IsWaiting queue w h) (waiting-none queue) (let h : Some (earlier g (waiting queue)) ≡ Some f = e in cc)
  where
    by_rest : (rest : Option Parts) → ((w : Parts) → rest ≡ Some w → IsWaiting queue w) → (rest ≡ None → queue ≡ []) → earlier g rest ≡ f → IsWaiting (g ∷ queue) f
    by_rest None some none same = subst (λ q. IsWaiting (g ∷ q) f) (sym (none refl)) (subst (λ x. IsWaiting (g ∷ []) x) same (alone g))
    by_rest (Some w) some none same =
        elim (cases_Bool (goes_before w g)) [
          | inl b ↦ subst (λ x. IsWaiting (g ∷ queue) x) (sym (cond-true (goes_before w g) w g b) ∙ same) (passed g w queue (some w refl) (goes_before-Wins w g b))
          | inr n ↦ subst (λ x. IsWaiting (g ∷ queue) x) (sym (cond-false (goes_before w g) w g n) ∙ same) (in_front g w queue (some w refl) (not_before w g n))
        ]

-- there is one frame that waits
pub IsWaiting-one : (queue : List Parts) (f g : Parts) → IsWaiting queue f → IsWaiting queue g → f ≡ g
IsWaiting-one queue f g h k =
    elim (cases_order h.place k.place) [
      | inr (inl below) ↦ absurd (h.least k.place g k.stands (k.first h.place f below h.stands))
      | inl same ↦ let e : slice_get queue k.place ≡ Some f = subst (λ n. slice_get queue n ≡ Some f) same h.stands in let s = k.stands in cc
      | inr (inr above) ↦ absurd (k.least h.place f h.stands (h.first k.place g above k.stands))
    ]

pub waits : (queue : List Parts) (f : Parts) → (waiting queue ≡ Some f) ↔ IsWaiting queue f
waits queue f = (waiting-IsWaiting queue f, back)
  where
    back : IsWaiting queue f → waiting queue ≡ Some f
    back h =
        let some = waiting-some queue h.place f h.stands in
        some.1 ∙ ap Some (IsWaiting-one queue some.0 f (waiting-IsWaiting queue some.0 some.1) h)

pub none_waits : (queue : List Parts) → (waiting queue ≡ None) ↔ (queue ≡ [])
unfolding waiting
none_waits queue = (waiting-none queue, λ e. ap waiting e)

-- ---- the frame that leaves

other_field : (f g : Parts) → arbitration_field g ≢ arbitration_field f → same_field f g ≡ false
other_field f g differs =
    elim (cases_Bool (same_field f g)) [
      | inl s ↦ absurd (differs (sym (same_field-Shares f g s)))
      | inr d ↦ d
    ]

pub without-first : (queue : List Parts) (f : Parts) (place : ℕ) → IsFirstOfField queue f place → without f queue ≡ remove queue place
unfolding without
without-first [] f place h = absurd (let e = h.stands in cc)
without-first (g ∷ queue) f zero h =
    let e : g ≡ h.frame = let s = h.stands in cc in
    cond-true (same_field f g) queue (g ∷ without f queue) (Shares-same_field f g (sym (ap arbitration_field e ∙ h.same)))
without-first (g ∷ queue) f (suc place) h =
    cond-false (same_field f g) queue (g ∷ without f queue) (other_field f g (h.first 0 g (omega arith) refl))
    ∙ ap (λ q. g ∷ q) (without-first queue f place (record { frame = h.frame; stands = h.stands; same = h.same; first = λ n x l e. h.first (suc n) x (omega arith) e }))

pub without-other : (queue : List Parts) (f : Parts) → NoneOfField queue f → without f queue ≡ queue
unfolding without
without-other [] f h = refl
without-other (g ∷ queue) f h =
    cond-false (same_field f g) queue (g ∷ without f queue) (other_field f g (h 0 g refl))
    ∙ ap (λ q. g ∷ q) (without-other queue f (λ n x e. h (suc n) x e))
