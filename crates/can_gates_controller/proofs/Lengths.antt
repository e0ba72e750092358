-- How long the frame is that begins with the levels of registers.
use Rattle.std.proofs.Common.{◌≡◌, ℕ, suc, zero, ◌+◌, ◌*◌, ◌^◌, ◌<◌, Bool, true, false, not, ◌&&◌, cond, List, [], ◌∷◌, drop, refl, sym, ◌∙◌, ap, arith}
use Rattle.can_frame.specs.declared.level.Level.{Level}
use Rattle.can_frame.specs.declared.level.Level.TheVariants.{Dominant, Recessive}
use Rattle.can_frame.specs.Levels.{is_recessive, number_from}
use Rattle.can_frame.specs.Parts.{byte_count}
use Rattle.can_wire.specs.Layout.{level_at, filled, levels_at, extended_of, frame_len}
use Rattle.can_wire.proofs.LayoutLengths.{frame_len_le}
use Rattle.can_gates.specs.Words.{bit}

filled_level : (n p : ℕ) (u : List Level) → filled (suc n) (drop p u) ≡ level_at u p ∷ filled n (drop (suc p) u)
filled_level n zero [] = refl
filled_level n zero (x ∷ u) = refl
filled_level n (suc p) [] = refl
filled_level n (suc p) (x ∷ u) = filled_level n p u

-- a data length code, its highest place first, by the places of the number of bytes
bytes_is : (r : Bool) (w x y z : Level) → 0 + 2 * (0 + 2 * (0 + 2 * (bit ((not r && not (is_recessive w)) && is_recessive z) + 2 * (bit ((not r && not (is_recessive w)) && is_recessive y) + 2 * (bit ((not r && not (is_recessive w)) && is_recessive x) + 2 * (bit (not r && is_recessive w) + 2 * 0)))))) ≡ 8 * byte_count r (number_from 0 (w ∷ x ∷ y ∷ z ∷ []))
bytes_is true w x y z = refl
bytes_is false Dominant Dominant Dominant Dominant = refl
bytes_is false Dominant Dominant Dominant Recessive = refl
bytes_is false Dominant Dominant Recessive Dominant = refl
bytes_is false Dominant Dominant Recessive Recessive = refl
bytes_is false Dominant Recessive Dominant Dominant = refl
bytes_is false Dominant Recessive Dominant Recessive = refl
bytes_is false Dominant Recessive Recessive Dominant = refl
bytes_is false Dominant Recessive Recessive Recessive = refl
bytes_is false Recessive Dominant Dominant Dominant = refl
bytes_is false Recessive Dominant Dominant Recessive = refl
bytes_is false Recessive Dominant Recessive Dominant = refl
bytes_is false Recessive Dominant Recessive Recessive = refl
bytes_is false Recessive Recessive Dominant Dominant = refl
bytes_is false Recessive Recessive Dominant Recessive = refl
bytes_is false Recessive Recessive Recessive Dominant = refl
bytes_is false Recessive Recessive Recessive Recessive = refl

four_levels : (p : ℕ) (u : List Level) → levels_at u p 4 ≡ level_at u p ∷ level_at u (p + 1) ∷ level_at u (p + 2) ∷ level_at u (p + 3) ∷ []
four_levels p u =
    let e : suc p ≡ p + 1 = omega arith in
    let f : suc (p + 1) ≡ p + 2 = omega arith in
    let g : suc (p + 2) ≡ p + 3 = omega arith in
    filled_level 3 p u ∙ ap (λ t. level_at u p ∷ t) (rw e (filled_level 2 (p + 1) u ∙ ap (λ t. level_at u (p + 1) ∷ t) (rw f (filled_level 1 (p + 2) u ∙ ap (λ t. level_at u (p + 2) ∷ t) (rw g (filled_level 0 (p + 3) u))))))

-- the length, by the format, RTR and the four places of the data length code
length_by : (e : Bool) (u : List Level) → extended_of u ≡ e → frame_len u ≡ cond e 54 34 + 8 * byte_count (is_recessive (level_at u (cond e 32 12))) (number_from 0 (level_at u (cond e 35 15) ∷ level_at u (cond e 36 16) ∷ level_at u (cond e 37 17) ∷ level_at u (cond e 38 18) ∷ []))
unfolding frame_len
length_by true u e = rw (e, four_levels 35 u) (omega arith)
length_by false u e = rw (e, four_levels 15 u) (omega arith)

pub length_is : (u : List Level) (e r a b c d few : Bool) (n carry : ℕ) → e ≡ extended_of u → r ≡ cond e (is_recessive (level_at u 32)) (is_recessive (level_at u 12)) → a ≡ cond e (is_recessive (level_at u 35)) (is_recessive (level_at u 15)) → b ≡ cond e (is_recessive (level_at u 36)) (is_recessive (level_at u 16)) → c ≡ cond e (is_recessive (level_at u 37)) (is_recessive (level_at u 17)) → d ≡ cond e (is_recessive (level_at u 38)) (is_recessive (level_at u 18)) → few ≡ (not r && not a)
    → n + 2 ^ 7 * carry ≡ (0 + 2 * (0 + 2 * (0 + 2 * (bit (few && d) + 2 * (bit (few && c) + 2 * (bit (few && b) + 2 * (bit (not r && a) + 2 * 0))))))) + cond e 54 34 → n < 2 ^ 7 → n ≡ frame_len u
length_is u true r a b c d few n carry format remote w x y z is sum small =
    let bytes = bytes_is (is_recessive (level_at u 32)) (level_at u 35) (level_at u 36) (level_at u 37) (level_at u 38) in
    let total : n + 2 ^ 7 * carry ≡ frame_len u = sum ∙ rw (is, remote, w, x, y, z) (omega (arith, bytes, length_by true u (sym format))) in
    omega (arith, total, frame_len_le u, small)
length_is u false r a b c d few n carry format remote w x y z is sum small =
    let bytes = bytes_is (is_recessive (level_at u 12)) (level_at u 15) (level_at u 16) (level_at u 17) (level_at u 18) in
    let total : n + 2 ^ 7 * carry ≡ frame_len u = sum ∙ rw (is, remote, w, x, y, z) (omega (arith, bytes, length_by false u (sym format))) in
    omega (arith, total, frame_len_le u, small)
