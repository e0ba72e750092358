-- The ascending list of frames: it is there, it is one, and it is what `ascending` computes.
use Rattle.std.specs.Prelude.{if◌then◌else◌, Contains}
use Rattle.std.specs.List.{sum_by}
use Rattle.std.specs.List.Sorted.{IsPermutation}
use Rattle.std.proofs.Common.{◌≡◌, ◌≢◌, ℕ, zero, suc, ◌+◌, ◌<◌, ◌≤◌, ◌⊎◌, Bool, true, false, cond, List, [], ◌∷◌, Some, None, length, get_or, All, refl, sym, ◌∙◌, ap, subst, inl, inr, arith}
use Rattle.std.proofs.lemmas.Bool.{cases_Bool}
use Rattle.std.proofs.lemmas.List.Elements.{All-cons, All-tail}
use Rattle.std.proofs.lemmas.List.Sorted.{IsPermutation-refl, IsPermutation-sym, IsPermutation-trans, IsPermutation-cons, IsPermutation-middle, All-permutation, Contains-permutation, sum_by-IsPermutation}
use Rattle.std.proofs.lemmas.List.Sums.{get_or-le-sum_by, sum_by-cons}
use Rattle.std.proofs.lemmas.Option.{slice_get-get_or, get_or_from_slice_get, slice_get_within}
use Rattle.can_frame.specs.Parts.{Parts}
use Rattle.can_frame.specs.Arbitration.{arbitration_field, field_cmp, Before}
use Rattle.can_frame.proofs.BeforeLemmas.{Before-trans, Before-differs, Before-one_way}
use Rattle.can_frame.proofs.FieldLemmas.{fields_ranked, key_cmp-tells}
use Rattle.can_node.specs.Ports.{is_less, goes_before, same_field}
use Rattle.can_bus.specs.Quiet.{IsRising, IsAscending, AreDifferent, inserted, ascending}
use Rattle.can_node.proofs.WaitingLemmas.{is_less-Less, Shares-same_field, same_field-Shares}

abbrev pub Goes : Parts → Parts → Type 0
Goes f g = Before (arbitration_field f) (arbitration_field g)

goes_before-Goes : (f g : Parts) → goes_before f g ≡ true → Goes f g
goes_before-Goes f g e = (key_cmp-tells f g).less.0 (is_less-Less (field_cmp (arbitration_field f) (arbitration_field g)) e)

other_goes : (f g : Parts) → goes_before g f ≡ false → arbitration_field f ≢ arbitration_field g → Goes f g
other_goes f g e other =
    elim (fields_ranked f g) [
      | inl h ↦ h
      | inr ranked ↦ elim ranked [
        | inl same ↦ absurd (other same)
        | inr after ↦ absurd (let h : true ≡ false = sym (ap is_less ((key_cmp-tells g f).less.1 after)) ∙ e in cc)
      ]
    ]

-- ---- lists that rise

rising_head : (f : Parts) (frames : List Parts) → IsRising (f ∷ frames) → All (Goes f) frames
rising_head f frames rising k d h = rising 0 (suc k) f (get_or frames k d) (omega arith) refl (slice_get-get_or frames k d h)

pub rising_tail : (f : Parts) (frames : List Parts) → IsRising (f ∷ frames) → IsRising frames
rising_tail f frames rising m n g h less a b = rising (suc m) (suc n) g h (omega arith) a b

rising_cons : (f : Parts) (frames : List Parts) → All (Goes f) frames → IsRising frames → IsRising (f ∷ frames)
rising_cons f frames ahead rising m zero g h less a b = absurd (omega arith)
rising_cons f frames ahead rising zero (suc n) g h less a b =
    let first : f ≡ g = (let e : Some f ≡ Some g = a in cc) in
    let there : Goes f (get_or frames n h) = ahead n h (slice_get_within frames n h b) in
    subst (λ x. Goes x h) first (subst (Goes f) (get_or_from_slice_get frames n h h b) there)
rising_cons f frames ahead rising (suc m) (suc n) g h less a b = rising m n g h (omega arith) a b

rising_none : IsRising []
rising_none m n g h less a b = absurd (let e : None ≡ Some g = a in cc)

-- ---- one frame more

ahead_placed : (place : Bool) (h f g : Parts) (frames : List Parts) → Goes h f → All (Goes h) (g ∷ frames) → All (Goes h) (inserted f frames) →
    All (Goes h) (if place then g ∷ inserted f frames else f ∷ g ∷ frames)
ahead_placed true h f g frames first all more = All-cons (Goes h) g (inserted f frames) (all 0 g (omega arith)) more
ahead_placed false h f g frames first all more = All-cons (Goes h) f (g ∷ frames) first all

ahead_inserted : (h f : Parts) (frames : List Parts) → Goes h f → All (Goes h) frames → All (Goes h) (inserted f frames)
ahead_inserted h f [] first all = All-cons (Goes h) f [] first all
ahead_inserted h f (g ∷ frames) first all =
    ahead_placed (goes_before g f) h f g frames first all (ahead_inserted h f frames first (All-tail (Goes h) g frames all))

abbrev pub Other : Parts → Parts → Type 0
Other f g = arbitration_field f ≢ arbitration_field g

rising_placed : (place : Bool) (f g : Parts) (frames : List Parts) → goes_before g f ≡ place → IsRising (g ∷ frames) → All (Other f) (g ∷ frames) → IsRising (inserted f frames) →
    IsRising (if place then g ∷ inserted f frames else f ∷ g ∷ frames)
rising_placed true f g frames e rising other more =
    rising_cons g (inserted f frames) (ahead_inserted g f frames (goes_before-Goes g f e) (rising_head g frames rising)) more
rising_placed false f g frames e rising other more =
    let first : Goes f g = other_goes f g e (other 0 g (omega arith)) in
    rising_cons f (g ∷ frames)
    (All-cons (Goes f) g frames first (λ k d h. Before-trans (arbitration_field f) (arbitration_field g) (arbitration_field (get_or frames k d)) first (rising_head g frames rising k d h)))
    rising

rising_inserted : (f : Parts) (frames : List Parts) → IsRising frames → All (Other f) frames → IsRising (inserted f frames)
rising_inserted f [] rising other = rising_cons f [] (λ k d h. absurd (omega arith)) rising
rising_inserted f (g ∷ frames) rising other =
    rising_placed (goes_before g f) f g frames refl rising other (rising_inserted f frames (rising_tail g frames rising) (All-tail (Other f) g frames other))

moved_placed : (place : Bool) (f g : Parts) (frames : List Parts) → IsPermutation (f ∷ frames) (inserted f frames) → IsPermutation (f ∷ g ∷ frames) (if place then g ∷ inserted f frames else f ∷ g ∷ frames)
moved_placed true f g frames more =
    IsPermutation-trans (f ∷ g ∷ frames) (g ∷ f ∷ frames) (g ∷ inserted f frames)
    (IsPermutation-middle (f ∷ []) g frames) (IsPermutation-cons g (f ∷ frames) (inserted f frames) more)
moved_placed false f g frames more = IsPermutation-refl (f ∷ g ∷ frames)

moved_inserted : (f : Parts) (frames : List Parts) → IsPermutation (f ∷ frames) (inserted f frames)
moved_inserted f [] = IsPermutation-refl (f ∷ [])
moved_inserted f (g ∷ frames) = moved_placed (goes_before g f) f g frames (moved_inserted f frames)

-- ---- frames of which no two have one arbitration field

-- f counts itself, and each frame of its field
abbrev likes : Parts → Parts → ℕ
likes f g = cond (same_field f g) 1 0

liked-more : (f g : Parts) (frames : List Parts) (b : Bool) → same_field f g ≡ b → sum_by (likes f) (g ∷ frames) ≡ cond b 1 0 + sum_by (likes f) frames
liked-more f g frames b test = sum_by-cons (likes f) g frames ∙ ap (λ c. cond c 1 0 + sum_by (likes f) frames) test

none-liked : (f : Parts) (frames : List Parts) → All (Other f) frames → sum_by (likes f) frames ≡ 0
none-liked f [] other = refl
none-liked f (g ∷ frames) other = elim (cases_Bool (same_field f g)) [
  | inl same ↦ absurd (other 0 g (omega arith) (same_field-Shares f g same))
  | inr apart ↦ omega (arith, liked-more f g frames false apart, none-liked f frames (All-tail (Other f) g frames other))
]

different_head : (f : Parts) (frames : List Parts) → AreDifferent (f ∷ frames) → All (Other f) frames
different_head f frames different k d h = different 0 (suc k) f (get_or frames k d) (omega arith) refl (slice_get-get_or frames k d h)

different_tail : (f : Parts) (frames : List Parts) → AreDifferent (f ∷ frames) → AreDifferent frames
different_tail f frames different m n g h less a b = different (suc m) (suc n) g h (omega arith) a b

-- each field counts once at most
once : (f : Parts) (frames : List Parts) → AreDifferent frames → sum_by (likes f) frames ≤ 1
once f [] different = omega arith
once f (g ∷ frames) different = elim (cases_Bool (same_field f g)) [
  | inl same ↦
      let others : All (Other f) frames = λ k d h e. different_head g frames different k d h (sym (same_field-Shares f g same) ∙ e) in
      omega (arith, liked-more f g frames true same, none-liked f frames others)
  | inr apart ↦ omega (arith, liked-more f g frames false apart, once f frames (different_tail g frames different))
]

-- of a sum two places are a part
two-places : (weight : Parts → ℕ) (frames : List Parts) (m n : ℕ) (d : Parts) → m < n → n < length frames → weight (get_or frames m d) + weight (get_or frames n d) ≤ sum_by weight frames
two-places weight [] m n d less within = absurd (omega (arith, within))
two-places weight (f ∷ frames) m zero d less within = absurd (omega (arith, less))
two-places weight (f ∷ frames) zero (suc n) d less within = omega (arith, sum_by-cons weight f frames, get_or-le-sum_by weight frames n d (omega (arith, within)))
two-places weight (f ∷ frames) (suc m) (suc n) d less within =
    omega (arith, sum_by-cons weight f frames, two-places weight frames m n d (omega (arith, less)) (omega (arith, within)))

pub different_permuted : (a b : List Parts) → IsPermutation a b → AreDifferent a → AreDifferent b
different_permuted a b moved different m n f g less at to same =
    let two = two-places (likes f) b m n f less (slice_get_within b n g to) in
    let first : likes f (get_or b m f) ≡ 1 = ap (likes f) (get_or_from_slice_get b m f f at) ∙ ap (λ c. cond c 1 0) (Shares-same_field f f refl) in
    let second : likes f (get_or b n f) ≡ 1 = ap (likes f) (get_or_from_slice_get b n g f to) ∙ ap (λ c. cond c 1 0) (Shares-same_field f g same) in
    absurd (omega (arith, two, first, second, once f a different, sum_by-IsPermutation (likes f) a b moved))

-- ---- the ascending list

ascending_all : (frames : List Parts) → IsPermutation frames (ascending frames)
unfolding ascending
ascending_all [] = IsPermutation-refl []
ascending_all (f ∷ frames) =
    IsPermutation-trans (f ∷ frames) (f ∷ ascending frames) (inserted f (ascending frames))
    (IsPermutation-cons f frames (ascending frames) (ascending_all frames)) (moved_inserted f (ascending frames))

ascending_rising : (frames : List Parts) → AreDifferent frames → IsRising (ascending frames)
unfolding ascending
ascending_rising [] different = rising_none
ascending_rising (f ∷ frames) different =
    rising_inserted f (ascending frames) (ascending_rising frames (different_tail f frames different))
    (All-permutation (Other f) frames (ascending frames) (ascending_all frames) (different_head f frames different))

-- ---- two lists that rise and have the same elements

pub contains_cases : (g x : Parts) (b : List Parts) → Contains (g ∷ b) x → (g ≡ x) ⊎ Contains b x
contains_cases g x b (zero, h, e) = inl e
contains_cases g x b (suc k, h, e) = inr (k, omega arith, e)

contains_more : (g x : Parts) (b : List Parts) → Contains b x → Contains (g ∷ b) x
contains_more g x b (k, h, e) = (suc k, omega arith, e)

contains_goes : (g x : Parts) (b : List Parts) → All (Goes g) b → Contains b x → Goes g x
contains_goes g x b all (k, h, e) = subst (Goes g) e (all k x h)

contains_head : (g : Parts) (b : List Parts) → Contains (g ∷ b) g
contains_head g b = (0, omega arith, refl)

contains_none : (x : Parts) → Contains [] x → ⊥
contains_none x (k, h, e) = absurd (omega arith)

heads_same : (f g : Parts) (a b : List Parts) → IsRising (f ∷ a) → IsRising (g ∷ b) → Contains (g ∷ b) f → Contains (f ∷ a) g → f ≡ g
heads_same f g a b r s p q =
    elim (contains_cases g f b p) [
      | inl e ↦ sym e
      | inr behind ↦ elim (contains_cases f g a q) [
        | inl e ↦ e
        | inr later ↦ absurd (Before-one_way (arbitration_field g) (arbitration_field f)
            (contains_goes g f b (rising_head g b s) behind) (contains_goes f g a (rising_head f a r) later))
      ]
    ]

tail_contained : (f g : Parts) (a b : List Parts) → f ≡ g → IsRising (f ∷ a) → ((x : Parts) → Contains (f ∷ a) x → Contains (g ∷ b) x) → (x : Parts) → Contains a x → Contains b x
tail_contained f g a b same r to x c =
    elim (contains_cases g x b (to x (contains_more f x a c))) [
      | inl e ↦ absurd (Before-differs (arbitration_field f) (arbitration_field x) (contains_goes f x a (rising_head f a r) c) (ap arbitration_field (same ∙ e)))
      | inr d ↦ d
    ]

rising_same : (a b : List Parts) → IsRising a → IsRising b → ((x : Parts) → Contains a x → Contains b x) → ((x : Parts) → Contains b x → Contains a x) → a ≡ b
rising_same [] [] r s to back = refl
rising_same [] (g ∷ b) r s to back = absurd (contains_none g (back g (contains_head g b)))
rising_same (f ∷ a) [] r s to back = absurd (contains_none f (to f (contains_head f a)))
rising_same (f ∷ a) (g ∷ b) r s to back =
    let same : f ≡ g = heads_same f g a b r s (to f (contains_head f a)) (back g (contains_head g b)) in
    ap (λ x. x ∷ a) same
    ∙ ap (λ l. g ∷ l) (rising_same a b (rising_tail f a r) (rising_tail g b s) (tail_contained f g a b same r to) (tail_contained g f b a (sym same) s back))

ascending_same : (v w a b : List Parts) → IsPermutation v w → IsAscending v a → IsAscending w b → a ≡ b
ascending_same v w a b moved p q =
    let over : IsPermutation a b = IsPermutation-trans a w b (IsPermutation-trans a v w (IsPermutation-sym v a p.all) moved) q.all in
    rising_same a b p.rising q.rising (λ x. Contains-permutation a b x over) (λ x. Contains-permutation b a x (IsPermutation-sym a b over))

-- `ascending` gives an ascending list
pub ascending_there : (waiting : List Parts) → AreDifferent waiting → IsAscending waiting (ascending waiting)
ascending_there waiting different = record { rising = ascending_rising waiting different; all = ascending_all waiting }

-- no other is ascending
pub ascending_only : (waiting frames : List Parts) → IsAscending waiting frames → frames ≡ ascending waiting
ascending_only waiting frames is =
    let rising : AreDifferent frames = λ m n f g less a b. Before-differs (arbitration_field f) (arbitration_field g) (is.rising m n f g less a b) in
    let different : AreDifferent waiting = different_permuted frames waiting (IsPermutation-sym waiting frames is.all) rising in
    ascending_same waiting waiting frames (ascending waiting) (IsPermutation-refl waiting) is (ascending_there waiting different)

-- in whatever order the frames are given
pub ascending_permuted : (v w : List Parts) → IsPermutation v w → AreDifferent v → ascending v ≡ ascending w
ascending_permuted v w moved different =
    ascending_same v w (ascending v) (ascending w) moved (ascending_there v different) (ascending_there w (different_permuted v w moved different))
