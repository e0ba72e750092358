-- Levels of a stuffed part that are taken at once, and what a front has heard with them.
use Rattle.std.proofs.Common.{◌≡◌, ◌≢◌, ℕ, zero, suc, ◌+◌, ◌*◌, ◌/◌, ◌%◌, ◌^◌, ◌<◌, ◌≤◌, Bool, true, false, cond, ◌⊎◌, inl, inr, Some, None, List, [], ◌∷◌, ◌++◌, length, take, drop, map, refl, sym, ◌∙◌, ap, subst, arith, length-append, append_assoc, length-drop}
use Rattle.std.specs.Option.{option_and_then}
use Rattle.std.proofs.Math.Dec.{eqb}
use Rattle.std.proofs.Math.Pow.{pow-add}
use Rattle.std.proofs.Math.Seq.{take-add}
use Rattle.std.proofs.lemmas.Bool.{and_left, and_right, cond-true, cond-false, eq-eqb, eqb-true, eqb-false, ne_eqb}
use Rattle.std.proofs.lemmas.List.{append-nil, drop-drop, drop-take, map-append, take-map, take-take}
use Rattle.std.proofs.lemmas.Option.{option_and_then_some}
use lib.Count.{count_trailing_zeros, under}
use lib.Lanes.{mask_l}
use mir.Val.{bool_byte}
use Rattle.can_frame.specs.declared.level.Level.{Level}
use Rattle.can_frame.specs.declared.level.Level.TheVariants.{Dominant, Recessive}
use Rattle.can_frame.specs.Levels.{bits_of, is_recessive, level_of, same, level_code, digit_of}
use Rattle.can_wire.specs.Stuffing.{run_after}
use Rattle.can_wire.specs.Layout.{frame_len}
use Rattle.can_code.specs.Front.{FrontParts, next_place, heard_level, hear_at, heard_levels}
use Rattle.can_code.specs.Digits.{BeginWith, HearsDigits, levels_up}
use Rattle.can_code.specs.Steps.{RunParts, Step, begun, step_on, steps_on}
use Rattle.can_code.specs.Unstuffing.{IsOpenFor, Unstuffs}
use Rattle.can_code.specs.declared.unstuffing.UnstuffedRun.{UnstuffedRun}
use Rattle.can_wire.proofs.LevelLemmas.{bits_of-zero, length-bits_of}
use Rattle.can_wire.proofs.PackedLemmas.{bits_of-next, bits_of-moved, joined-small, next-small}
use Rattle.can_wire.proofs.Runs.{run_after-le, run_after-ge}
use Rattle.can_code.proofs.HeardLevels.{hear_at-going}
use Rattle.can_code.proofs.DecoderLemmas.{heard_levels-append}
use Rattle.can_code.proofs.UnstuffingLemmas.{HearsDigits-begin, next_place-room}

level_code-byte : (x : Level) → bool_byte (is_recessive x) ≡ level_code x
level_code-byte Dominant = refl
level_code-byte Recessive = refl

-- ---- one level

-- which step one level more makes
abbrev Stuffed : Step → Level → Step → Type 0
Stuffed s x t = (s.run ≡ 5) × (same x s.last ≡ false) × (t ≡ record { number = s.number; len = s.len; last = x; run = 1 })

abbrev Unstuffed : Step → Level → Step → Type 0
Unstuffed s x t = (s.run ≢ 5) × (t ≡ record { number = 2 * s.number + level_code x; len = s.len + 1; last = x; run = run_after s.last s.run x })

step_on-some : (s t : Step) (x : Level) → step_on s x ≡ Some t → Stuffed s x t ⊎ Unstuffed s x t
step_on-some s t x taken = of (eqb s.run 5) (same x s.last) refl refl taken
  where
    of : (due wrong : Bool) → eqb s.run 5 ≡ due → same x s.last ≡ wrong
        → cond due (cond wrong None (Some (record { number = s.number; len = s.len; last = x; run = 1 })))
        (Some (record { number = 2 * s.number + level_code x; len = s.len + 1; last = x; run = run_after s.last s.run x })) ≡ Some t
        → Stuffed s x t ⊎ Unstuffed s x t
    of true true is_due is_wrong h = cc
    of true false is_due is_right h = inl (eqb-true s.run 5 is_due, is_right, cc)
    of false wrong not_due w h = inr (eqb-false s.run 5 not_due, cc)

-- what is true of a step of up to n levels
pub record StepBounds (s : Step) (n : ℕ) : Type 0 where
  pub small : s.number < 2 ^ s.len
  pub few : s.len ≤ n
  pub some : 1 ≤ s.run
  pub short : s.run ≤ 5

step_on-bounds : (s t : Step) (x : Level) (n : ℕ) → StepBounds s n → step_on s x ≡ Some t → StepBounds t (n + 1)
step_on-bounds s t x n h taken = elim (step_on-some s t x taken) [
  | inl stuffed ↦ subst (λ u. StepBounds u (n + 1)) (sym stuffed.2) (record { small = h.small; few = omega (arith, h.few); some = omega arith; short = omega arith })
  | inr unstuffed ↦
      let not_due : s.run ≢ 5 = unstuffed.0 in
      subst (λ u. StepBounds u (n + 1)) (sym unstuffed.1)
      (record {
        small = subst (λ b. 2 * s.number + b < 2 ^ (s.len + 1)) (level_code-byte x) (next-small s.len s.number x h.small);
        few = omega (arith, h.few);
        some = run_after-ge s.last s.run x;
        short = omega (arith, h.short, run_after-le s.last s.run x);
      })
]

-- a front after these levels and a step
abbrev pub front_of : List Level → Step → FrontParts
front_of u s = record { unstuffed = u ++ bits_of s.len s.number; last = s.last; run = s.run }

step_on-heard : (u : List Level) (s t : Step) (x : Level) → length (u ++ bits_of s.len s.number) < frame_len (u ++ bits_of s.len s.number) → step_on s x ≡ Some t
    → hear_at (next_place (front_of u s)) (front_of u s) x ≡ Some (front_of u t)
step_on-heard u s t x room taken =
    let v = u ++ bits_of s.len s.number in
    let f = front_of u s in
    let going = next_place-room f room in
    elim (step_on-some s t x taken) [
      | inl stuffed ↦
          let level : heard_level f x ≡ record { unstuffed = v; last = x; run = 1 } =
          cond-true (eqb s.run 5) (record { unstuffed = v; last = x; run = 1 }) (record { unstuffed = v ++ x ∷ []; last = x; run = run_after s.last s.run x }) (eq-eqb s.run 5 stuffed.0) in
          hear_at-going f x (next_place f) going (and_right (eqb s.run 5) (same x s.last) stuffed.1) ∙ ap Some level ∙ ap (λ y. Some (front_of u y)) (sym stuffed.2)
      | inr unstuffed ↦
          let not_due = ne_eqb s.run 5 unstuffed.0 in
          let level : heard_level f x ≡ record { unstuffed = v ++ x ∷ []; last = x; run = run_after s.last s.run x } =
          cond-false (eqb s.run 5) (record { unstuffed = v; last = x; run = 1 }) (record { unstuffed = v ++ x ∷ []; last = x; run = run_after s.last s.run x }) not_due in
          let longer : v ++ x ∷ [] ≡ u ++ bits_of (s.len + 1) (2 * s.number + level_code x) =
          append_assoc u (bits_of s.len s.number) (x ∷ []) ∙ ap (λ l. u ++ l) (sym (bits_of-next s.len s.number x)) ∙ ap (λ b. u ++ bits_of (s.len + 1) (2 * s.number + b)) (level_code-byte x) in
          hear_at-going f x (next_place f) going (and_left (eqb s.run 5) (same x s.last) not_due) ∙ ap Some level
          ∙ ap (λ l. Some (record { unstuffed = l; last = x; run = run_after s.last s.run x })) longer ∙ ap (λ y. Some (front_of u y)) (sym unstuffed.1)
    ]

-- ---- levels, one after another

pub steps_on-bounds : (xs : List Level) (s t : Step) (n : ℕ) → StepBounds s n → steps_on s xs ≡ Some t → StepBounds t (n + length xs)
steps_on-bounds [] s t n h taken =
    let none : n + 0 ≡ n = omega arith in
    let one : s ≡ t = cc in
    subst (λ m. StepBounds t m) (sym none) (subst (λ u. StepBounds u n) one h)
steps_on-bounds (x ∷ xs) s t n h taken =
    option_and_then_some (λ m. steps_on m xs) (step_on s x) t taken (λ m first rest.
    let more : n + 1 + length xs ≡ n + length (x ∷ xs) = omega arith in
    subst (λ k. StepBounds t k) more (steps_on-bounds xs m t (n + 1) (step_on-bounds s m x n h first) rest))

pub begun-bounds : (last : Level) (run : ℕ) → 1 ≤ run → run ≤ 5 → StepBounds (begun last run) 0
begun-bounds last run some short = record { small = omega arith; few = omega arith; some = some; short = short }

pub length-levels_up : (n x : ℕ) → length (levels_up n x) ≡ n
length-levels_up zero x = refl
length-levels_up (suc n) x = ap suc (length-levels_up n (x / 2))

-- what is true of a step of k levels after a run, if k is at most n
pub taken-bounds : (last : Level) (run n k m : ℕ) (t : Step) → 1 ≤ run → run ≤ 5 → k ≤ n → steps_on (begun last run) (levels_up k m) ≡ Some t → StepBounds t n
taken-bounds last run n k m t some short within taken =
    let h = steps_on-bounds (levels_up k m) (begun last run) t 0 (begun-bounds last run some short) taken in
    record { small = h.small; few = omega (arith, h.few, length-levels_up k m, within); some = h.some; short = h.short }

step_on-few : (s t : Step) (x : Level) → step_on s x ≡ Some t → t.len ≤ s.len + 1
step_on-few s t x taken = elim (step_on-some s t x taken) [
  | inl stuffed ↦ (let len : t.len ≡ s.len = ap (λ u. u.len) stuffed.2 in omega (arith, len))
  | inr unstuffed ↦ (let len : t.len ≡ s.len + 1 = ap (λ u. u.len) unstuffed.1 in omega (arith, len))
]

pub steps_on-heard : (xs : List Level) (u : List Level) (s t : Step) → IsOpenFor u (s.len + length xs) → steps_on s xs ≡ Some t → heard_levels (front_of u s) xs ≡ Some (front_of u t)
steps_on-heard [] u s t room taken = let one : s ≡ t = cc in ap (λ y. Some (front_of u y)) one
steps_on-heard (x ∷ xs) u s t room taken =
    option_and_then_some (λ m. steps_on m xs) (step_on s x) t taken (λ m first rest.
    let here : length (u ++ bits_of s.len s.number) < frame_len (u ++ bits_of s.len s.number) =
    room (bits_of s.len s.number) (omega (arith, length-bits_of s.len s.number)) in
    let left : IsOpenFor u (m.len + length xs) = (λ v short. room v (omega (arith, short, step_on-few s m x first))) in
    ap (option_and_then (λ g. heard_levels g xs)) (step_on-heard u s m x here first) ∙ steps_on-heard xs u m t left rest)

-- ---- levels of a block of digits

twice : (n : ℕ) → 2 ^ suc n ≡ 2 ^ n * 2
twice n = (let up : suc n ≡ n + 1 = omega arith in ap (λ e. 2 ^ e) up ∙ pow-add 2 n 1)

-- the levels of n digits at the front of bytes, as the lowest bits of a number
abbrev pub FrontDigits : ℕ → List ℕ → ℕ → Type 0
FrontDigits n bytes number = (n ≤ length bytes) × (take n bytes ≡ map digit_of (levels_up n number))

-- a byte before others, whose dominant and recessive levels these masks mark
one_lane : (x : ℕ) (xs : List ℕ) (dominant recessive k : ℕ) (d r : Bool) → eqb x 48 ≡ d → eqb x 49 ≡ r → FrontDigits (count_trailing_zeros k (dominant + recessive + 1)) xs recessive
    → FrontDigits (count_trailing_zeros (suc k) ((cond d 1 zero + 2 * dominant) + (cond r 1 zero + 2 * recessive) + 1)) (x ∷ xs) (cond r 1 zero + 2 * recessive)
unfolding count_trailing_zeros
one_lane x xs dominant recessive k true true d r rest = absurd (omega (arith, eqb-true x 48 d, eqb-true x 49 r))
one_lane x xs dominant recessive k false false d r rest =
    let m = (0 + 2 * dominant) + (0 + 2 * recessive) + 1 in
    let odd : m % 2 ≡ 1 = omega arith in
    let none : under (m % 2) (count_trailing_zeros k (m / 2)) ≡ 0 = ap (λ b. under b (count_trailing_zeros k (m / 2))) odd in
    subst (λ n. FrontDigits n (x ∷ xs) (0 + 2 * recessive)) (sym none) (omega arith, refl)
one_lane x xs dominant recessive k true false d r rest =
    let m = (1 + 2 * dominant) + (0 + 2 * recessive) + 1 in
    let n = count_trailing_zeros k (dominant + recessive + 1) in
    let even : m % 2 ≡ 0 = omega arith in
    let half : m / 2 ≡ dominant + recessive + 1 = omega arith in
    let more : under (m % 2) (count_trailing_zeros k (m / 2)) ≡ suc n = ap (λ b. under b (count_trailing_zeros k (m / 2))) even ∙ ap (λ h. suc (count_trailing_zeros k h)) half in
    let low : (0 + 2 * recessive) % 2 ≡ 0 = omega arith in
    let up : (0 + 2 * recessive) / 2 ≡ recessive = omega arith in
    subst (λ c. FrontDigits c (x ∷ xs) (0 + 2 * recessive)) (sym more) (
      omega (arith, rest.0),
      ap (λ y. y ∷ take n xs) (eqb-true x 48 d) ∙ ap (λ l. 48 ∷ l) rest.1
          ∙ ap (λ b. digit_of (level_of b) ∷ map digit_of (levels_up n recessive)) (sym low)
          ∙ ap (λ h. digit_of (level_of ((0 + 2 * recessive) % 2)) ∷ map digit_of (levels_up n h)) (sym up),
    )
one_lane x xs dominant recessive k false true d r rest =
    let m = (0 + 2 * dominant) + (1 + 2 * recessive) + 1 in
    let n = count_trailing_zeros k (dominant + recessive + 1) in
    let even : m % 2 ≡ 0 = omega arith in
    let half : m / 2 ≡ dominant + recessive + 1 = omega arith in
    let more : under (m % 2) (count_trailing_zeros k (m / 2)) ≡ suc n = ap (λ b. under b (count_trailing_zeros k (m / 2))) even ∙ ap (λ h. suc (count_trailing_zeros k h)) half in
    let low : (1 + 2 * recessive) % 2 ≡ 1 = omega arith in
    let up : (1 + 2 * recessive) / 2 ≡ recessive = omega arith in
    subst (λ c. FrontDigits c (x ∷ xs) (1 + 2 * recessive)) (sym more) (
      omega (arith, rest.0),
      ap (λ y. y ∷ take n xs) (eqb-true x 49 r) ∙ ap (λ l. 49 ∷ l) rest.1
          ∙ ap (λ b. digit_of (level_of b) ∷ map digit_of (levels_up n recessive)) (sym low)
          ∙ ap (λ h. digit_of (level_of ((1 + 2 * recessive) % 2)) ∷ map digit_of (levels_up n h)) (sym up),
    )

-- the digits at the front of bytes, by the masks of both
pub lanes-levels : (k : ℕ) (xs : List ℕ) → length xs < k
    → FrontDigits (count_trailing_zeros k (mask_l (map (λ x. eqb x 48) xs) + mask_l (map (λ x. eqb x 49) xs) + 1)) xs (mask_l (map (λ x. eqb x 49) xs))
unfolding count_trailing_zeros
lanes-levels zero xs h = absurd (omega arith)
lanes-levels (suc k) [] h = (omega arith, refl)
lanes-levels (suc k) (x ∷ xs) h =
    one_lane x xs (mask_l (map (λ y. eqb y 48) xs)) (mask_l (map (λ y. eqb y 49) xs)) k (eqb x 48) (eqb x 49) refl refl (lanes-levels k xs (omega arith))

mask-more : (b : Bool) (mask power : ℕ) → mask < power → cond b 1 zero + 2 * mask < power * 2
mask-more true mask power h = omega (arith, h)
mask-more false mask power h = omega (arith, h)

pub mask-small : (bs : List Bool) → mask_l bs < 2 ^ length bs
mask-small [] = omega arith
mask-small (b ∷ bs) = subst (λ n. cond b 1 zero + 2 * mask_l bs < n) (sym (twice (length bs))) (mask-more b (mask_l bs) (2 ^ length bs) (mask-small bs))

take-levels_up : (k n x : ℕ) → k ≤ n → take k (levels_up n x) ≡ levels_up k x
take-levels_up zero n x h = refl
take-levels_up (suc k) zero x h = absurd (omega arith)
take-levels_up (suc k) (suc n) x h = ap (λ l. level_of (x % 2) ∷ l) (take-levels_up k n (x / 2) (omega arith))

-- the first k digits after n, if a block there begins with c of them
pub digits-levels_up : (digits block : List ℕ) (n k c m : ℕ) → k ≤ c → c ≤ 16 → block ≡ take 16 (drop n digits) → take c block ≡ map digit_of (levels_up c m)
    → take k (drop n digits) ≡ map digit_of (levels_up k m)
digits-levels_up digits block n k c m few whole at are =
    sym (take-take k 16 (drop n digits) (omega arith)) ∙ ap (take k) (sym at) ∙ sym (take-take k c block few) ∙ ap (take k) are
    ∙ take-map digit_of k (levels_up c m) ∙ ap (map digit_of) (take-levels_up k c m few)

-- the same, of a block that the digits have
pub BeginWith-block : (digits block : List ℕ) (n k c m : ℕ) → n + 16 ≤ length digits → k ≤ c → c ≤ 16 → block ≡ take 16 (drop n digits) → take c block ≡ map digit_of (levels_up c m)
    → BeginWith (drop n digits) k m
BeginWith-block digits block n k c m whole few within at are = (omega (arith, whole, length-drop n digits), digits-levels_up digits block n k c m few within at are)

eight_halves : (m : ℕ) → m / 2 / 2 / 2 / 2 / 2 / 2 / 2 / 2 ≡ m / 2 ^ 8
eight_halves m = omega arith

-- the upper half of a block of digits alone
pub BeginWith-half : (digits block : List ℕ) (n m : ℕ) → n + 16 ≤ length digits → block ≡ take 16 (drop n digits) → take 16 block ≡ map digit_of (levels_up 16 m)
    → BeginWith (drop (n + 8) digits) 8 (m / 2 ^ 8)
BeginWith-half digits block n m whole at are =
    let all : take 16 (drop n digits) ≡ map digit_of (levels_up 16 m) = digits-levels_up digits block n 16 16 m (omega arith) (omega arith) at are in (
      omega (arith, whole, length-drop (n + 8) digits),
      ap (take 8) (sym (drop-drop 8 n digits)) ∙ sym (drop-take 8 8 (drop n digits)) ∙ ap (drop 8) all ∙ ap (λ x. map digit_of (levels_up 8 x)) (eight_halves m),
    )

-- levels at the front of digits, and more after them
pub HearsDigits-append : (f g h : FrontParts) (digits : List ℕ) (n k : ℕ) (xs : List Level) → HearsDigits f g (take n digits) → take k (drop n digits) ≡ map digit_of xs
    → heard_levels g xs ≡ Some h → HearsDigits f h (take (n + k) digits)
HearsDigits-append f g h digits n k xs so_far are heard = record {
  levels = so_far.levels ++ xs;
  digits_are = take-add n k digits ∙ ap (λ d. d ++ take k (drop n digits)) so_far.digits_are ∙ ap (λ d. map digit_of so_far.levels ++ d) are ∙ sym (map-append digit_of so_far.levels xs);
  heard = heard_levels-append so_far.levels xs f g so_far.heard ∙ heard;
}

-- this, if what follows them was received by itself
pub HearsDigits-join : (f g h : FrontParts) (digits : List ℕ) (n k : ℕ) → HearsDigits f g (take n digits) → HearsDigits g h (take k (drop n digits)) → HearsDigits f h (take (n + k) digits)
HearsDigits-join f g h digits n k so_far more = HearsDigits-append f g h digits n k more.levels so_far more.digits_are more.heard

-- ---- a step of a run

pub Unstuffs-begin : (digits : List ℕ) (room : ℕ) (before : RunParts) (r : UnstuffedRun) → 1 ≤ before.run → before.run ≤ 5 → r ≡ record { number = 0; len = 0; behind = before; taken = 0 }
    → Unstuffs digits room before r
Unstuffs-begin digits room before r some short begins = subst (Unstuffs digits room before) (sym begins)
    (record {
      within = omega arith;
      few = omega arith;
      small = omega arith;
      some = some;
      short = short;
      heard = λ u has. HearsDigits-begin u before.last before.run digits;
    })

module _ (digits : List ℕ) (room : ℕ) (before : RunParts) (r : UnstuffedRun) (levels count : ℕ) (s : Step) (so_far : Unstuffs digits room before r) where
  pub Unstuffs-step : room ≤ 64 → BeginWith (drop r.taken digits) count levels → r.len + count ≤ room → steps_on (begun r.behind.last r.behind.run) (levels_up count levels) ≡ Some s
      → Unstuffs digits room before (record { number = r.number * 2 ^ s.len % 2 ^ 64 + s.number; len = r.len + s.len; behind = record { last = s.last; run = s.run }; taken = r.taken + count })
  Unstuffs-step wide begins_with fits taken =
      let h : StepBounds s count = taken-bounds r.behind.last r.behind.run count count levels s so_far.some so_far.short (omega arith) taken in
      record {
        within = omega (arith, begins_with.0, length-drop r.taken digits, so_far.within);
        few = omega (arith, fits, h.few);
        small = joined-small 64 r.len s.len r.number s.number so_far.small h.small (omega (arith, fits, h.few));
        some = h.some;
        short = h.short;
        heard = λ u has.
            let v = u ++ bits_of r.len r.number in
            let left : IsOpenFor v (0 + length (levels_up count levels)) = (λ w short.
            subst (λ l. length l < frame_len l) (sym (append_assoc u (bits_of r.len r.number) w))
            (has (bits_of r.len r.number ++ w) (omega (arith, short, fits, length-levels_up count levels, length-bits_of r.len r.number, length-append (bits_of r.len r.number) w)))) in
            let begins : v ++ bits_of 0 0 ≡ v = ap (λ l. v ++ l) (bits_of-zero 0) ∙ append-nil v in
            let ends : v ++ bits_of s.len s.number ≡ u ++ bits_of (r.len + s.len) (r.number * 2 ^ s.len % 2 ^ 64 + s.number) =
            append_assoc u (bits_of r.len r.number) (bits_of s.len s.number) ∙ ap (λ l. u ++ l) (sym (bits_of-moved 64 r.len s.len r.number s.number (omega (arith, fits, h.few)) h.small)) in
            HearsDigits-append _ (record { unstuffed = v; last = r.behind.last; run = r.behind.run }) _ digits r.taken count (levels_up count levels) (so_far.heard u has) begins_with.1
            (ap (λ l. heard_levels (record { unstuffed = l; last = r.behind.last; run = r.behind.run }) (levels_up count levels)) (sym begins)
            ∙ steps_on-heard (levels_up count levels) v (begun r.behind.last r.behind.run) s left taken ∙ ap (λ l. Some (record { unstuffed = l; last = s.last; run = s.run })) ends);
      }
