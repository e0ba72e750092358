-- The wired level of lists that are put together, taken piece by piece, or filled place by place.
use Rattle.std.specs.Simd.{first_chunks}
use Rattle.std.proofs.Common.{◌≡◌, ℕ, zero, suc, ◌+◌, ◌-◌, ◌*◌, ◌%◌, ◌^◌, ◌<◌, ◌≤◌, true, false, cond, List, [], ◌∷◌, ◌++◌, length, map, get_or, set, take, drop, replicate, eqb, refl, ap, sym, ◌∙◌, arith}
use Rattle.std.proofs.lemmas.List.{map-append, take_more, take_more_set, take_all, drop_more, drop-drop, drop_all}
use Rattle.std.proofs.lemmas.Bool.Decides.{nat_tests}
use lib.Lanes.{mask_l, top, zip2}
use mir.Syntax.{w8}
use mir.Val.{bits as width_bits, hbits}
use Rattle.std.proofs.lemmas.Simd.{chunk-drop, bitmask_splat}
use Rattle.can_frame.specs.declared.level.Level.{Level}
use Rattle.can_frame.specs.declared.level.Level.TheVariants.{Dominant, Recessive}
use Rattle.can_frame.specs.Levels.{is_recessive, level_code}
use Rattle.can_bus.specs.Wired.{over, wired}
use Rattle.can_frame.proofs.LevelTests.{level_dominant, level_recessive}

pub over_swap : (x y z : Level) → over x (over y z) ≡ over y (over x z)
over_swap Dominant Dominant z = refl
over_swap Dominant Recessive z = refl
over_swap Recessive y z = refl

pub wired-append : (a b : List Level) → wired (a ++ b) ≡ over (wired a) (wired b)
unfolding wired
wired-append [] b = refl
wired-append (Dominant ∷ a) b = refl
wired-append (Recessive ∷ a) b = wired-append a b

pub wired_none : (n : ℕ) → wired (replicate n Recessive) ≡ Recessive
unfolding wired
wired_none zero = refl
wired_none (suc n) = wired_none n

pub wired_empty : wired [] ≡ Recessive
unfolding wired
wired_empty = refl

-- one of the levels at rest is driven
pub wired-set : (levels : List Level) (i : ℕ) (x : Level) → i < length levels → get_or levels i Recessive ≡ Recessive → wired (set levels i x) ≡ over x (wired levels)
unfolding wired
wired-set [] i x h e = absurd (omega arith)
wired-set (y ∷ levels) zero x h e = ap (λ z. over x (over z (wired levels))) (sym e)
wired-set (y ∷ levels) (suc i) x h e = ap (over y) (wired-set levels i x (omega arith) e) ∙ over_swap y x (wired levels)

over_last : (x y : Level) → over x (over y Recessive) ≡ over y x
over_last Dominant Dominant = refl
over_last Dominant Recessive = refl
over_last Recessive Dominant = refl
over_last Recessive Recessive = refl

-- one level more
pub wired_more : {X : Type 0} (drive : X → Level) (xs : List X) (i : ℕ) (d : X) → i < length xs →
    wired (map drive (take (i + 1) xs)) ≡ over (drive (get_or xs i d)) (wired (map drive (take i xs)))
unfolding wired
wired_more drive xs i d h =
    let x = get_or xs i d in
    ap (λ ys. wired (map drive ys)) (take_more xs i d h) ∙ ap wired (map-append drive (take i xs) (x ∷ []))
    ∙ wired-append (map drive (take i xs)) (drive x ∷ []) ∙ over_last (wired (map drive (take i xs))) (drive x)

-- one more port of a walk, each port of which is changed in place and returns what it drives
pub wired-turned : {X Y : Type 0} (drive : Y → Level) (f : X → Y) (xs : List X) (i : ℕ) (y : X) (x before after : Level) → i < length xs →
    before ≡ wired (map drive (map f (take i xs))) → x ≡ drive (f y) → after ≡ over x before → after ≡ wired (map drive (map f (take (i + 1) (set xs i y))))
unfolding wired
wired-turned drive f xs i y x before after h e is joined =
    let front = take i xs in
    joined ∙ ap (λ w. over x w) e ∙ ap (λ z. over z (wired (map drive (map f front)))) is ∙ sym (over_last (wired (map drive (map f front))) (drive (f y)))
    ∙ sym (wired-append (map drive (map f front)) (drive (f y) ∷ []))
    ∙ ap wired (sym (map-append drive (map f front) (f y ∷ [])))
    ∙ ap (λ ys. wired (map drive ys)) (sym (map-append f front (y ∷ [])))
    ∙ ap (λ ys. wired (map drive (map f ys))) (sym (take_more_set xs i y h))

-- the chunk of this number
pub get_or-first_chunks : {X : Type 0} (n k i : ℕ) (xs d : List X) → i < k → get_or (first_chunks n k xs) i d ≡ take n (drop (i * n) xs)
get_or-first_chunks n zero i xs d h = absurd (omega arith)
get_or-first_chunks n (suc k) zero xs d h = ap (λ m. take n (drop m xs)) (let e : 0 ≡ 0 * n = omega arith in e)
get_or-first_chunks n (suc k) (suc i) xs d h =
    get_or-first_chunks n k i (drop n xs) d (omega arith)
    ∙ ap (take n) (drop-drop (i * n) n xs ∙ ap (λ m. drop m xs) (let e : n + i * n ≡ suc i * n = omega arith in e))

-- what is wired piece by piece
pub record IsWired {X : Type 0} (W : List X → Level) : Type 0 where
  pub joins : (a b : List X) → W (a ++ b) ≡ over (W a) (W b)

pub wired_is : IsWired wired
wired_is = record { joins = wired-append }

pub wired_ports : {X Y : Type 0} (drive : Y → Level) (f : X → Y) → IsWired (λ xs. wired (map drive (map f xs)))
wired_ports drive f = record {
  joins = λ a b. ap (λ ys. wired (map drive ys)) (map-append f a b) ∙ ap wired (map-append drive (map f a) (map f b)) ∙ wired-append (map drive (map f a)) (map drive (map f b));
}

-- a part that is dominant, and one that is recessive
pub part_dominant : {X : Type 0} (W : List X → Level) → IsWired W → (whole ahead front back : List X) (x : Level) → ahead ≡ front ++ back → W ahead ≡ W whole →
    x ≡ W front → is_recessive x ≡ false → Dominant ≡ W whole
part_dominant W joined whole ahead front back x split before is low =
    let here : W front ≡ Dominant = sym is ∙ level_dominant x low in
    sym (ap (λ y. over y (W back)) here) ∙ sym (joined.joins front back) ∙ sym (ap W split) ∙ before

pub part_recessive : {X : Type 0} (W : List X → Level) → IsWired W → (whole ahead front back : List X) (x : Level) → ahead ≡ front ++ back → W ahead ≡ W whole →
    x ≡ W front → is_recessive x ≡ true → W back ≡ W whole
part_recessive W joined whole ahead front back x split before is high =
    let here : W front ≡ Recessive = sym is ∙ level_recessive x high in
    sym (ap (λ y. over y (W back)) here) ∙ sym (joined.joins front back) ∙ sym (ap W split) ∙ before

-- one of a plain walk that is dominant, and one that is recessive
pub one_dominant : {X : Type 0} (W : List X → Level) → IsWired W → (xs : List X) (i : ℕ) (d : X) (x : Level) → i < length xs → W (drop i xs) ≡ W xs →
    x ≡ W (get_or xs i d ∷ []) → is_recessive x ≡ false → Dominant ≡ W xs
one_dominant W joined xs i d x h before is low = part_dominant W joined xs (drop i xs) (get_or xs i d ∷ []) (drop (i + 1) xs) x (drop_more xs i d h) before is low

pub one_recessive : {X : Type 0} (W : List X → Level) → IsWired W → (xs : List X) (i : ℕ) (d : X) (x : Level) → i < length xs → W (drop i xs) ≡ W xs →
    x ≡ W (get_or xs i d ∷ []) → is_recessive x ≡ true → W (drop (i + 1) xs) ≡ W xs
one_recessive W joined xs i d x h before is high = part_recessive W joined xs (drop i xs) (get_or xs i d ∷ []) (drop (i + 1) xs) x (drop_more xs i d h) before is high

pub all_passed : {X : Type 0} (W : List X → Level) (xs : List X) (i : ℕ) → W [] ≡ Recessive → length xs ≤ i → W (drop i xs) ≡ W xs → Recessive ≡ W xs
all_passed W xs i none h before = sym (ap W (drop_all i xs h) ∙ none) ∙ before

pub wired_one : (x : Level) → x ≡ wired (x ∷ [])
unfolding wired
wired_one Dominant = refl
wired_one Recessive = refl

split_at : {X : Type 0} (xs : List X) (n k i : ℕ) (chunks : List (List X)) (e : List X) → chunks ≡ first_chunks n k xs → i < k →
    drop (i * n) xs ≡ get_or chunks i e ++ drop ((i + 1) * n) xs
split_at xs n k i chunks e is h =
    chunk-drop (i * n) n xs
    ∙ ap (λ c. c ++ drop (i * n + n) xs) (sym (get_or-first_chunks n k i xs e h) ∙ ap (λ cs. get_or cs i e) (sym is))
    ∙ ap (λ m. get_or chunks i e ++ drop m xs) (let e : i * n + n ≡ (i + 1) * n = omega arith in e)

-- a chunk that is dominant, and one that is recessive
pub chunk_dominant : {X : Type 0} (W : List X → Level) → IsWired W → (xs : List X) (n k i : ℕ) (chunks : List (List X)) (e : List X) (x : Level) → chunks ≡ first_chunks n k xs → i < k →
    W (drop (i * n) xs) ≡ W xs → x ≡ W (get_or chunks i e) → is_recessive x ≡ false → Dominant ≡ W xs
chunk_dominant W joined xs n k i chunks e x is h before here low =
    part_dominant W joined xs (drop (i * n) xs) (get_or chunks i e) (drop ((i + 1) * n) xs) x (split_at xs n k i chunks e is h) before here low

pub chunk_recessive : {X : Type 0} (W : List X → Level) → IsWired W → (xs : List X) (n k i : ℕ) (chunks : List (List X)) (e : List X) (x : Level) → chunks ≡ first_chunks n k xs → i < k →
    W (drop (i * n) xs) ≡ W xs → x ≡ W (get_or chunks i e) → is_recessive x ≡ true → W (drop ((i + 1) * n) xs) ≡ W xs
chunk_recessive W joined xs n k i chunks e x is h before here high =
    part_recessive W joined xs (drop (i * n) xs) (get_or chunks i e) (drop ((i + 1) * n) xs) x (split_at xs n k i chunks e is h) before here high

-- places at rest
pub resting_all : (n k : ℕ) → get_or (replicate n Recessive) k Recessive ≡ Recessive
resting_all zero k = refl
resting_all (suc n) zero = refl
resting_all (suc n) (suc k) = resting_all n k

-- levels as lanes
pub bits_more : (levels : List Level) (bits : List ℕ) (i v : ℕ) (d : Level) → i < length levels → i < length bits → take i bits ≡ map level_code (take i levels) → v ≡ level_code (get_or levels i d) →
    take (i + 1) (set bits i v) ≡ map level_code (take (i + 1) levels)
bits_more levels bits i v d h k before e =
    take_more_set bits i v k ∙ ap (λ xs. xs ++ v ∷ []) before ∙ ap (λ b. map level_code (take i levels) ++ b ∷ []) e
    ∙ sym (ap (map level_code) (take_more levels i d h) ∙ map-append level_code (take i levels) (get_or levels i d ∷ []))

pub bits_all : (levels : List Level) (bits : List ℕ) (n : ℕ) → length levels ≤ n → length bits ≤ n → take n bits ≡ map level_code (take n levels) → bits ≡ map level_code levels
bits_all levels bits n h k e = sym (take_all n bits k) ∙ e ∙ ap (map level_code) (take_all n levels h)

doubled : (m : ℕ) → eqb (0 + 2 * m) 0 ≡ eqb m 0
doubled zero = refl
doubled (suc m) = grind (arith, nat_tests)

odd : (m : ℕ) → eqb (1 + 2 * m) 0 ≡ false
odd m = grind (arith, nat_tests)

mask_wired : (levels : List Level) → eqb (mask_l (map (λ x. eqb x 0) (map level_code levels))) 0 ≡ is_recessive (wired levels)
unfolding wired
mask_wired [] = refl
mask_wired (Dominant ∷ levels) = odd (mask_l (map (λ x. eqb x 0) (map level_code levels)))
mask_wired (Recessive ∷ levels) = doubled (mask_l (map (λ x. eqb x 0) (map level_code levels))) ∙ mask_wired levels

-- the lanes that are 0 are the dominant levels
pub lanes_wired : (levels : List Level) (bits : List ℕ) (n : ℕ) → bits ≡ map level_code levels → length bits ≡ n → n ≤ 64 →
    eqb (mask_l (map (top (hbits w8)) (zip2 (λ a b. cond (eqb a b) (2 ^ width_bits w8 - 1) 0) bits (replicate n 0))) % 2 ^ 64) 0 ≡ is_recessive (wired levels)
lanes_wired levels bits n e long short =
    ap (λ m. eqb m 0) (bitmask_splat w8 eqb bits n 0 long short) ∙ ap (λ b. eqb (mask_l (map (λ x. eqb x 0) b)) 0) e ∙ mask_wired levels
