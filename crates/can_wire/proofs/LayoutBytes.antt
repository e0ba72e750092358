-- The levels of bytes give the bytes back, and the bytes of some levels give the levels.
use Rattle.std.proofs.Common.{◌≡◌, ℕ, suc, zero, ◌+◌, ◌*◌, ◌^◌, ◌<◌, ◌≤◌, List, [], ◌∷◌, ◌++◌, length, drop, refl, sym, ◌∙◌, ap, arith, append_assoc, length-append}
use Rattle.std.specs.Prelude.{slice_index}
use Rattle.std.specs.List.{flat_map}
use Rattle.std.proofs.lemmas.List.{drop_at, drop-drop, length-drop}
use Rattle.can_frame.specs.declared.level.Level.{Level}
use Rattle.can_frame.specs.Levels.{bits_of, number_from}
use Rattle.can_wire.specs.Layout.{filled, bytes_from}
use Rattle.can_wire.proofs.LayoutNumbers.{length-bits_of, number_from-whole, number_from-lt, bits_of-number_from}
use Rattle.can_wire.proofs.LayoutPlaces.{length-filled, filled_whole, filled-drop}

-- a byte has eight levels
pub length-bytes : (bytes : List ℕ) → length (flat_map (bits_of 8) bytes) ≡ 8 * length bytes
length-bytes [] = refl
length-bytes (x ∷ bytes) = omega (arith, length-append (bits_of 8 x) (flat_map (bits_of 8) bytes), length-bits_of 8 x, length-bytes bytes)

-- bytes are read back from their levels
pub bytes_from-levels : (bytes : List ℕ) (c : List Level) → ((k : ℕ) → slice_index bytes k < 256) → bytes_from (length bytes) (flat_map (bits_of 8) bytes ++ c) ≡ bytes
bytes_from-levels [] c small = refl
bytes_from-levels (x ∷ bytes) c small =
    let more = flat_map (bits_of 8) bytes ++ c in
    let here : x < 2 ^ 8 = small 0 in
    ap (bytes_from (suc (length bytes))) (append_assoc (bits_of 8 x) (flat_map (bits_of 8) bytes) c)
    ∙ ap (λ t. number_from 0 t ∷ bytes_from (length bytes) (drop 8 (bits_of 8 x ++ more))) (filled_whole 8 (bits_of 8 x) more (length-bits_of 8 x))
    ∙ ap (λ t. number_from 0 (bits_of 8 x) ∷ bytes_from (length bytes) t) (drop_at (bits_of 8 x) more 8 (length-bits_of 8 x))
    ∙ ap (λ t. t ∷ bytes_from (length bytes) more) (number_from-whole 8 x here)
    ∙ ap (λ t. x ∷ t) (bytes_from-levels bytes c (λ k. small (suc k)))

-- the requested number of bytes is read
pub length-bytes_from : (n : ℕ) (u : List Level) → length (bytes_from n u) ≡ n
length-bytes_from zero u = refl
length-bytes_from (suc n) u = ap suc (length-bytes_from n (drop 8 u))

-- eight levels spell a number below 256
pub bytes_from-small : (n : ℕ) (u : List Level) (k : ℕ) → slice_index (bytes_from n u) k < 256
bytes_from-small zero u k = omega arith
bytes_from-small (suc n) u zero = omega (arith, number_from-lt (filled 8 u), ap (λ t. 2 ^ t) (length-filled 8 u))
bytes_from-small (suc n) u (suc k) = bytes_from-small n (drop 8 u) k

-- levels are the levels of the bytes that are read from them, and then the rest
pub levels-bytes_from : (n : ℕ) (u : List Level) → 8 * n ≤ length u → u ≡ flat_map (bits_of 8) (bytes_from n u) ++ drop (8 * n) u
levels-bytes_from zero u h = refl
levels-bytes_from (suc n) u h =
    let byte = number_from 0 (filled 8 u) in
    let rest = drop 8 u in
    let bytes = flat_map (bits_of 8) (bytes_from n rest) in
    let size : 8 * n ≤ length rest = omega (arith, length-drop 8 u) in
    let past : 8 + 8 * n ≡ 8 * suc n = omega arith in
    filled-drop 8 u (omega arith)
    ∙ ap (λ t. t ++ rest) (sym (bits_of-number_from 8 0 (filled 8 u) (length-filled 8 u)))
    ∙ ap (λ t. bits_of 8 byte ++ t) (levels-bytes_from n rest size)
    ∙ ap (λ t. bits_of 8 byte ++ (bytes ++ t)) (drop-drop (8 * n) 8 u)
    ∙ ap (λ t. bits_of 8 byte ++ (bytes ++ drop t u)) past
    ∙ sym (append_assoc (bits_of 8 byte) bytes (drop (8 * suc n) u))
