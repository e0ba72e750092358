-- Offers by their arbitration field: those of one field, in their order, and what is left without the first of them.
use Rattle.std.specs.Prelude.{filter, slice_get}
use Rattle.std.specs.List.{list_any}
use Rattle.std.proofs.Common.{◌≡◌, ℕ, zero, suc, ◌<◌, ◌⊎◌, true, false, Some, None, List, [], ◌∷◌, ◌++◌, length, refl, sym, ap, subst, ◌∙◌, arith, inl, inr}
use Rattle.std.proofs.lemmas.Bool.{cond-true, cond-false, cases_Bool, cases_lt}
use Rattle.std.specs.List.Sorted.{IsPermutation}
use Rattle.std.proofs.lemmas.List.Elements.{filter-append}
use Rattle.std.proofs.lemmas.List.Sorted.{IsPermutation-refl, IsPermutation-trans, IsPermutation-cons, IsPermutation-middle}
use Rattle.can_frame.specs.Parts.{Parts}
use Rattle.can_frame.specs.Arbitration.{arbitration_field, field_cmp}
use Rattle.can_frame.proofs.BeforeLemmas.{Before-differs}
use Rattle.can_node.specs.Ports.{is_equal, same_field, waiting, without}
use Rattle.can_node.specs.Waiting.{IsWaiting}
use Rattle.can_node.proofs.WaitingLemmas.{same_field-Shares, Shares-same_field}
use Rattle.can_node.proofs.WaitingLaws.{waiting-some, waiting-IsWaiting}
use Rattle.can_bus.specs.CourseWaiting.{of_field}
use Rattle.can_bus.specs.Quiet.{holds}
use Rattle.can_bus.specs.Timed.{TimedParts, Lists, frames_of, offered_by, without_offer}
use Rattle.can_bus.proofs.Ascending.{Goes, Other}
use Rattle.can_bus.proofs.Contests.{Has}
use Rattle.can_bus.proofs.Members.{filter-stands, stands-filter, stands-here, stands-later, stands-cases, stands-none}
use Rattle.can_bus.proofs.LeftOffers.{AllDiffer}
use Rattle.can_bus.proofs.OfferTimes.{AreInOrder, by-early, by-late, by-none}
use Rattle.can_bus.proofs.OwnOffers.{first-out, first-stays, without-absent}
use Rattle.can_bus.proofs.QuietLogs.{other-test}

-- ---- one field

-- frames of the field of f
abbrev pub like : Parts → List Parts → List Parts
like f frames = filter (same_field f) frames

pub holds-same : (queue : List Parts) (f g : Parts) → arbitration_field f ≡ arbitration_field g → holds queue f ≡ holds queue g
holds-same queue f g e = ap (λ field. list_any (λ x. is_equal (field_cmp field (arbitration_field x))) queue) e

module _ (f x : Parts) (frames : List Parts) where
  like-more : same_field f x ≡ true → like f (x ∷ frames) ≡ x ∷ like f frames
  like-more same = cond-true (same_field f x) (x ∷ like f frames) (like f frames) same

  like-skip : same_field f x ≡ false → like f (x ∷ frames) ≡ like f frames
  like-skip other = cond-false (same_field f x) (x ∷ like f frames) (like f frames) other

module _ (f : Parts) (x : TimedParts) (offers : List TimedParts) where
  pub field-more : same_field f x.frame ≡ true → of_field f (x ∷ offers) ≡ x ∷ of_field f offers
  field-more same = cond-true (same_field f x.frame) (x ∷ of_field f offers) (of_field f offers) same

  pub field-skip : same_field f x.frame ≡ false → of_field f (x ∷ offers) ≡ of_field f offers
  field-skip other = cond-false (same_field f x.frame) (x ∷ of_field f offers) (of_field f offers) other

pub like-none : (f : Parts) (frames : List Parts) → ((x : Parts) → Has x frames → Other f x) → like f frames ≡ []
like-none f [] other = refl
like-none f (x ∷ frames) other = like-skip f x frames (other-test f x (other x (stands-here x frames))) ∙ like-none f frames (λ y h. other y (stands-later x frames y h))

pub like-append : (f : Parts) (a b : List Parts) → like f (a ++ b) ≡ like f a ++ like f b
like-append f a b = filter-append (same_field f) a b

-- offers of one field in two lists
pub field-moves : (a b : List TimedParts) → ((f : Parts) → of_field f a ≡ of_field f b) → (x : TimedParts) → Lists a x → Lists b x
field-moves a b same x there =
    (filter-stands (λ y. same_field x.frame y.frame) b x
    (subst (λ l. Lists l x) (same x.frame) (stands-filter (λ y. same_field x.frame y.frame) a x there (Shares-same_field x.frame x.frame refl)))).0

-- those of a field that are offered by a time
pub like-offered : (f : Parts) (t : ℕ) (offers : List TimedParts) → like f (offered_by t offers) ≡ offered_by t (of_field f offers)
like-offered f t [] = refl
like-offered f t (x ∷ offers) =
    let rest = like-offered f t offers in
    elim (cases_Bool (same_field f x.frame)) [
      | inl same ↦
          (elim (cases_lt t x.time) [
            | inl late ↦ ap (like f) (by-late x offers t late) ∙ rest ∙ sym (by-late x (of_field f offers) t late)
            | inr early ↦
                ap (like f) (by-early x offers t early) ∙ like-more f x.frame (offered_by t offers) same ∙ ap (λ fs. x.frame ∷ fs) rest
                ∙ sym (by-early x (of_field f offers) t early)
          ])
          ∙ ap (offered_by t) (sym (field-more f x offers same))
      | inr other ↦
          (elim (cases_lt t x.time) [
            | inl late ↦ ap (like f) (by-late x offers t late) ∙ rest
            | inr early ↦ ap (like f) (by-early x offers t early) ∙ like-skip f x.frame (offered_by t offers) other ∙ rest
          ])
          ∙ ap (offered_by t) (sym (field-skip f x offers other))
    ]

-- ---- the frame that waits is the first of its field

head-at : (f w : Parts) (queue : List Parts) (place : ℕ) → slice_get queue place ≡ Some w → same_field f w ≡ true →
    ((n : ℕ) (g : Parts) → n < place → slice_get queue n ≡ Some g → Other f g) → (more : List Parts) × (like f queue ≡ w ∷ more)
head-at f w [] place stands same first = absurd (let h : None ≡ Some w = stands in cc)
head-at f w (g ∷ queue) zero stands same first =
    let e : g ≡ w = (let h : Some g ≡ Some w = stands in cc) in
    (like f queue, like-more f g queue (ap (same_field f) e ∙ same) ∙ ap (λ x. x ∷ like f queue) e)
head-at f w (g ∷ queue) (suc place) stands same first =
    let rest = head-at f w queue place stands same (λ n x less at. first (suc n) x (omega (arith, less)) at) in
    (rest.0, like-skip f g queue (other-test f g (first 0 g (omega arith) refl)) ∙ rest.1)

pub waiting-head : (queue : List Parts) (f : Parts) → IsWaiting queue f → (more : List Parts) × (like f queue ≡ f ∷ more)
waiting-head queue f is =
    head-at f f queue is.place is.stands (Shares-same_field f f refl) (λ n g less at. Before-differs (arbitration_field f) (arbitration_field g) (is.first n g less at))

same-head : (f w : Parts) (a b : List Parts) → f ∷ a ≡ w ∷ b → w ≡ f
same-head f w a b both = cc

-- if none has higher priority, the first of a field waits
pub head-waits : (queue : List Parts) (f : Parts) (more : List Parts) → like f queue ≡ f ∷ more → ((x : Parts) → Has x queue → (arbitration_field f ≡ arbitration_field x) ⊎ Goes f x) →
    waiting queue ≡ Some f
head-waits queue f more head least =
    let own : Has f queue = (filter-stands (same_field f) queue f (subst (Has f) (sym head) (stands-here f more))).0 in
    let there = waiting-some queue own.0 f own.1 in
    let w = there.0 in
    let is : IsWaiting queue w = waiting-IsWaiting queue w there.1 in
    elim (least w (is.place, is.stands)) [
      | inr goes ↦ absurd (is.least own.0 f own.1 goes)
      | inl same ↦
          let first = head-at f w queue is.place is.stands (Shares-same_field f w same)
          (λ n g less here e. Before-differs (arbitration_field w) (arbitration_field g) (is.first n g less here) (sym same ∙ e)) in
          there.1 ∙ ap Some (same-head f w more first.0 (sym head ∙ first.1))
    ]

-- ---- without the first of a field

pub without-listed : (f : Parts) (offers : List TimedParts) (x : TimedParts) → Lists (without_offer f offers) x → Lists offers x
without-listed f [] x there = there
without-listed f (y ∷ offers) x there = elim (cases_Bool (same_field f y.frame)) [
  | inl same ↦ stands-later y offers x (subst (λ l. Lists l x) (first-out f y offers same) there)
  | inr other ↦ elim (stands-cases y (without_offer f offers) x (subst (λ l. Lists l x) (first-stays f y offers other) there)) [
    | inl here ↦ subst (Lists (y ∷ offers)) here (stands-here y offers)
    | inr later ↦ stands-later y offers x (without-listed f offers x later)
  ]
]

pub without-cases : (f : Parts) (offers : List TimedParts) (x : TimedParts) → Lists offers x → (arbitration_field f ≡ arbitration_field x.frame) ⊎ Lists (without_offer f offers) x
without-cases f [] x there = absurd (stands-none x there)
without-cases f (y ∷ offers) x there = elim (cases_Bool (same_field f y.frame)) [
  | inl same ↦ elim (stands-cases y offers x there) [
    | inl here ↦ inl (same_field-Shares f y.frame same ∙ ap (λ (z : TimedParts). arbitration_field z.frame) here)
    | inr later ↦ inr (subst (λ l. Lists l x) (sym (first-out f y offers same)) later)
  ]
  | inr other ↦ elim (stands-cases y offers x there) [
    | inl here ↦ inr (subst (λ l. Lists l x) (sym (first-stays f y offers other)) (subst (Lists (y ∷ without_offer f offers)) here (stands-here y (without_offer f offers))))
    | inr later ↦ elim (without-cases f offers x later) [
      | inl same ↦ inl same
      | inr stays ↦ inr (subst (λ l. Lists l x) (sym (first-stays f y offers other)) (stands-later y (without_offer f offers) x stays))
    ]
  ]
]

-- if no two have one field
pub without-differ : (f : Parts) (offers : List TimedParts) → AllDiffer offers → AllDiffer (without_offer f offers)
without-differ f [] apart = tt
without-differ f (x ∷ offers) apart = elim (cases_Bool (same_field f x.frame)) [
  | inl same ↦ subst AllDiffer (sym (first-out f x offers same)) apart.1
  | inr other ↦ subst AllDiffer (sym (first-stays f x offers other)) ((λ y there. apart.0 y (without-listed f offers y there)), without-differ f offers apart.1)
]

pub without-other : (f : Parts) (offers : List TimedParts) → AllDiffer offers → (x : TimedParts) → Lists (without_offer f offers) x → Other f x.frame
without-other f [] apart x there = absurd (stands-none x there)
without-other f (y ∷ offers) apart x there = elim (cases_Bool (same_field f y.frame)) [
  | inl same ↦ (λ e. apart.0 x (subst (λ l. Lists l x) (first-out f y offers same) there) (sym (same_field-Shares f y.frame same) ∙ e))
  | inr other ↦ elim (stands-cases y (without_offer f offers) x (subst (λ l. Lists l x) (first-stays f y offers other) there)) [
    | inl here ↦ (λ e. (let same : same_field f y.frame ≡ true = Shares-same_field f y.frame (e ∙ ap (λ (z : TimedParts). arbitration_field z.frame) (sym here)) in cc))
    | inr later ↦ without-other f offers apart.1 x later
  ]
]

pub without-permuted : (f : Parts) (offers : List TimedParts) → AllDiffer offers → (x : TimedParts) → Lists offers x → x.frame ≡ f → IsPermutation (frames_of offers) (f ∷ frames_of (without_offer f offers))
without-permuted f [] apart x there own = absurd (stands-none x there)
without-permuted f (y ∷ offers) apart x there own = elim (stands-cases y offers x there) [
  | inl here ↦
      let e : y.frame ≡ f = ap (λ (z : TimedParts). z.frame) here ∙ own in
      subst (λ l. IsPermutation (y.frame ∷ frames_of offers) (f ∷ frames_of l)) (sym (first-out f y offers (Shares-same_field f y.frame (ap arbitration_field (sym e)))))
      (subst (λ g. IsPermutation (y.frame ∷ frames_of offers) (g ∷ frames_of offers)) e (IsPermutation-refl (y.frame ∷ frames_of offers)))
  | inr later ↦
      let rest : List Parts = frames_of (without_offer f offers) in
      subst (λ l. IsPermutation (y.frame ∷ frames_of offers) (f ∷ frames_of l))
      (sym (first-stays f y offers (other-test f y.frame (λ e. apart.0 x later (sym e ∙ ap arbitration_field (sym own))))))
      (IsPermutation-trans (y.frame ∷ frames_of offers) (y.frame ∷ f ∷ rest) (f ∷ y.frame ∷ rest)
      (IsPermutation-cons y.frame (frames_of offers) (f ∷ rest) (without-permuted f offers apart.1 x later own))
      (IsPermutation-middle (y.frame ∷ []) f rest))
]

pub without-order : (f : Parts) (offers : List TimedParts) → AreInOrder offers → AreInOrder (without_offer f offers)
without-order f [] order = tt
without-order f (x ∷ offers) order = elim (cases_Bool (same_field f x.frame)) [
  | inl same ↦ subst AreInOrder (sym (first-out f x offers same)) order.1
  | inr other ↦ subst AreInOrder (sym (first-stays f x offers other)) ((λ y there. order.0 y (without-listed f offers y there)), without-order f offers order.1)
]

pub without-length : (f : Parts) (offers : List TimedParts) (x : TimedParts) → Lists offers x → same_field f x.frame ≡ true → length offers ≡ suc (length (without_offer f offers))
without-length f [] x there same = absurd (stands-none x there)
without-length f (y ∷ offers) x there same = elim (cases_Bool (same_field f y.frame)) [
  | inl one ↦ ap suc (ap length (sym (first-out f y offers one)))
  | inr other ↦ elim (stands-cases y offers x there) [
    | inl here ↦ (let e : same_field f y.frame ≡ true = ap (λ (z : TimedParts). same_field f z.frame) here ∙ same in cc)
    | inr later ↦ ap suc (without-length f offers x later same) ∙ ap (λ (l : List TimedParts). suc (length l)) (sym (first-stays f y offers other))
  ]
]

-- if it is in the first of two lists, or in none
pub without-front : (f : Parts) (a b : List TimedParts) (x : TimedParts) → Lists a x → same_field f x.frame ≡ true → without_offer f (a ++ b) ≡ without_offer f a ++ b
without-front f [] b x there same = absurd (stands-none x there)
without-front f (y ∷ a) b x there same = elim (cases_Bool (same_field f y.frame)) [
  | inl one ↦ first-out f y (a ++ b) one ∙ ap (λ l. l ++ b) (sym (first-out f y a one))
  | inr other ↦ elim (stands-cases y a x there) [
    | inl here ↦ (let e : same_field f y.frame ≡ true = ap (λ (z : TimedParts). same_field f z.frame) here ∙ same in cc)
    | inr later ↦ first-stays f y (a ++ b) other ∙ ap (λ l. y ∷ l) (without-front f a b x later same) ∙ ap (λ l. l ++ b) (sym (first-stays f y a other))
  ]
]

pub without-behind : (f : Parts) (a b : List TimedParts) → ((x : TimedParts) → Lists a x → Other f x.frame) → without_offer f (a ++ b) ≡ a ++ without_offer f b
without-behind f [] b other = refl
without-behind f (y ∷ a) b other =
    first-stays f y (a ++ b) (other-test f y.frame (other y (stands-here y a)))
    ∙ ap (λ l. y ∷ l) (without-behind f a b (λ x there. other x (stands-later y a x there)))

-- it does not matter whether a field is compared before or after
pub field-without : (g f : Parts) (offers : List TimedParts) → of_field g (without_offer f offers) ≡ without_offer f (of_field g offers)
field-without g f [] = refl
field-without g f (x ∷ offers) =
    let rest = field-without g f offers in
    elim (cases_Bool (same_field f x.frame)) [
      | inl gone ↦
          ap (of_field g) (first-out f x offers gone)
          ∙ (elim (cases_Bool (same_field g x.frame)) [
            | inl same ↦ sym (first-out f x (of_field g offers) gone) ∙ ap (without_offer f) (sym (field-more g x offers same))
            | inr other ↦
                sym (without-absent f (of_field g offers) (λ y there e. (
                let passed : same_field g y.frame ≡ true = (filter-stands (λ z. same_field g z.frame) offers y there).1 in
                let same : same_field g x.frame ≡ true = Shares-same_field g x.frame (same_field-Shares g y.frame passed ∙ sym e ∙ same_field-Shares f x.frame gone) in
                cc)))
                ∙ ap (without_offer f) (sym (field-skip g x offers other))
          ])
      | inr stays ↦
          ap (of_field g) (first-stays f x offers stays)
          ∙ (elim (cases_Bool (same_field g x.frame)) [
            | inl same ↦
                field-more g x (without_offer f offers) same ∙ ap (λ l. x ∷ l) rest
                ∙ sym (first-stays f x (of_field g offers) stays) ∙ ap (without_offer f) (sym (field-more g x offers same))
            | inr other ↦ field-skip g x (without_offer f offers) other ∙ rest ∙ ap (without_offer f) (sym (field-skip g x offers other))
          ])
    ]

-- what is left at a time, if the offers come in order
pub without-in_time : (f : Parts) (t : ℕ) (own : List TimedParts) → AreInOrder own → without f (offered_by t own) ≡ offered_by t (without_offer f own)
unfolding without
without-in_time f t [] order = refl
without-in_time f t (x ∷ own) order = elim (cases_Bool (same_field f x.frame)) [
  | inl same ↦
      (elim (cases_lt t x.time) [
        | inl late ↦
            let none : offered_by t own ≡ [] = by-none t x.time own late order.0 in
            ap (without f) (by-late x own t late ∙ none) ∙ sym none
        | inr early ↦ ap (without f) (by-early x own t early) ∙ cond-true (same_field f x.frame) (offered_by t own) (x.frame ∷ without f (offered_by t own)) same
      ])
      ∙ ap (offered_by t) (sym (first-out f x own same))
  | inr other ↦
      (elim (cases_lt t x.time) [
        | inl late ↦ ap (without f) (by-late x own t late) ∙ without-in_time f t own order.1 ∙ sym (by-late x (without_offer f own) t late)
        | inr early ↦
            ap (without f) (by-early x own t early) ∙ cond-false (same_field f x.frame) (offered_by t own) (x.frame ∷ without f (offered_by t own)) other
            ∙ ap (λ fs. x.frame ∷ fs) (without-in_time f t own order.1) ∙ sym (by-early x (without_offer f own) t early)
      ])
      ∙ ap (offered_by t) (sym (first-stays f x own other))
]
