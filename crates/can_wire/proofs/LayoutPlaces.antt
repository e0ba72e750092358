-- The levels at the places of a list, and what changes when more levels follow.
use Rattle.std.proofs.Common.{◌≡◌, ℕ, suc, zero, ◌+◌, ◌-◌, ◌<◌, ◌≤◌, List, [], ◌∷◌, ◌++◌, length, drop, replicate, refl, ◌∙◌, ap, arith}
use Rattle.std.proofs.Math.Seq.{get_or-append_right}
use Rattle.std.proofs.lemmas.List.{get_or_append_left, drop_more, drop-drop, drop-append-le, length-drop}
use Rattle.can_frame.specs.declared.level.Level.{Level}
use Rattle.can_frame.specs.declared.level.Level.TheVariants.{Dominant}
use Rattle.can_wire.specs.Layout.{level_at, filled, levels_at}

-- the first n levels are n levels
pub length-filled : (n : ℕ) (u : List Level) → length (filled n u) ≡ n
length-filled zero u = refl
length-filled (suc n) [] = ap suc (length-filled n [])
length-filled (suc n) (x ∷ u) = ap suc (length-filled n u)

-- levels after a list that is long enough change nothing
pub filled-append : (n : ℕ) (u w : List Level) → n ≤ length u → filled n (u ++ w) ≡ filled n u
filled-append zero u w h = refl
filled-append (suc n) [] w h = absurd (omega arith)
filled-append (suc n) (x ∷ u) w h = ap (λ t. x ∷ t) (filled-append n u w (omega arith))

-- the first n levels are the first list if it has n levels
pub filled_whole : (n : ℕ) (u w : List Level) → length u ≡ n → filled n (u ++ w) ≡ u
filled_whole zero [] w h = refl
filled_whole zero (x ∷ u) w h = absurd (omega arith)
filled_whole (suc n) [] w h = absurd (omega arith)
filled_whole (suc n) (x ∷ u) w h = ap (λ t. x ∷ t) (filled_whole n u w (omega arith))

-- a list is its first n levels, if it has them, and then the rest
pub filled-drop : (n : ℕ) (u : List Level) → n ≤ length u → u ≡ filled n u ++ drop n u
filled-drop zero u h = refl
filled-drop (suc n) [] h = absurd (omega arith)
filled-drop (suc n) (x ∷ u) h = ap (λ t. x ∷ t) (filled-drop n u (omega arith))

filled_past : (n k : ℕ) → filled n (replicate k Dominant) ≡ filled n []
filled_past zero k = refl
filled_past (suc n) zero = refl
filled_past (suc n) (suc k) = ap (λ t. Dominant ∷ t) (filled_past n k)

-- dominant levels after a list change no place of it: places past its end are dominant already
pub levels_at-dominant : (u : List Level) (k p n : ℕ) → levels_at (u ++ replicate k Dominant) p n ≡ levels_at u p n
levels_at-dominant [] k zero n = filled_past n k
levels_at-dominant [] zero (suc p) n = refl
levels_at-dominant [] (suc k) (suc p) n = levels_at-dominant [] k p n ∙ nothing p
  where
    nothing : (p : ℕ) → filled n (drop p []) ≡ filled n []
    nothing zero = refl
    nothing (suc p) = refl
levels_at-dominant (x ∷ u) k zero zero = refl
levels_at-dominant (x ∷ u) k zero (suc n) = ap (λ t. x ∷ t) (levels_at-dominant u k zero n)
levels_at-dominant (x ∷ u) k (suc p) n = levels_at-dominant u k p n

-- the same of one level
pub level_at-dominant : (u : List Level) (k p : ℕ) → level_at (u ++ replicate k Dominant) p ≡ level_at u p
level_at-dominant [] zero p = refl
level_at-dominant [] (suc k) zero = refl
level_at-dominant [] (suc k) (suc p) = level_at-dominant [] k p
level_at-dominant (x ∷ u) k zero = refl
level_at-dominant (x ∷ u) k (suc p) = level_at-dominant u k p

-- levels after a list change no place before its end
pub level_at-append : (u w : List Level) (p : ℕ) → p < length u → level_at (u ++ w) p ≡ level_at u p
level_at-append u w p h = get_or_append_left u w Dominant p h

-- after the end of a list come the levels that follow it
pub level_at-behind : (a b : List Level) (p : ℕ) → length a ≤ p → level_at (a ++ b) p ≡ level_at b (p - length a)
level_at-behind a b p h = get_or-append_right a b p Dominant h

-- the same of n levels, none of which they change
pub levels_at-append : (u w : List Level) (p n : ℕ) → p + n ≤ length u → levels_at (u ++ w) p n ≡ levels_at u p n
levels_at-append u w p n h =
    let size : n ≤ length (drop p u) = omega (arith, length-drop p u) in
    ap (filled n) (drop-append-le p u w (omega arith)) ∙ filled-append n (drop p u) w size

-- a list from place p on is its level there, and then the list from place q on
pub next_level : (u : List Level) (p q : ℕ) → p + 1 ≡ q → q ≤ length u → drop p u ≡ level_at u p ∷ drop q u
next_level u p q place h = drop_more u p Dominant (omega arith) ∙ ap (λ t. level_at u p ∷ drop t u) place

-- the same of n levels
pub next_levels : (u : List Level) (p n q : ℕ) → p + n ≡ q → q ≤ length u → drop p u ≡ levels_at u p n ++ drop q u
next_levels u p n q place h =
    let size : n ≤ length (drop p u) = omega (arith, length-drop p u) in
    filled-drop n (drop p u) size ∙ ap (λ t. levels_at u p n ++ t) (drop-drop n p u) ∙ ap (λ t. levels_at u p n ++ drop t u) place
