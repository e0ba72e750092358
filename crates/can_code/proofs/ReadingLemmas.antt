-- What is read at the places of unstuffed levels.
use Rattle.std.proofs.Common.{◌≡◌, ℕ, suc, zero, ◌+◌, ◌-◌, ◌*◌, ◌/◌, ◌%◌, ◌^◌, ◌<◌, ◌≤◌, Bool, true, false, List, [], ◌∷◌, ◌++◌, length, drop, sym, ◌∙◌, ap, refl, arith, bit_or, length-append}
use Rattle.std.specs.Int.{byte_at, bytes_high_first, to_be_bytes, w64}
use Rattle.std.proofs.Math.Seq.{drop-nil}
use Rattle.std.proofs.lemmas.Bool.{cond-true}
use Rattle.std.proofs.lemmas.Nat.{mod_low, or_shifted, shl_whole}
use Rattle.can_frame.specs.declared.level.Level.{Level}
use Rattle.can_frame.specs.declared.level.Level.TheVariants.{Dominant}
use Rattle.can_frame.specs.Levels.{number_from}
use Rattle.can_frame.specs.Ident.{Ident}
use Rattle.can_frame.proofs.DataNumber.{last_bytes}
use Rattle.can_wire.specs.Layout.{filled, levels_at, extended_of, data_place, frame_len, IsComplete, identifier_of, bytes_from}
use Rattle.can_code.specs.Reading.{HasData}
use Rattle.can_wire.proofs.LayoutNumbers.{number_from-lt, number_from-append, number_from-split, number_from-upper}
use Rattle.can_wire.proofs.LayoutPlaces.{length-filled}
use Rattle.can_wire.proofs.CrcBytes.{byte_at-place}

-- the IDE bit comes before the data
pub data_behind_ide : (extended : Bool) → 19 ≤ data_place extended
data_behind_ide true = omega arith
data_behind_ide false = omega arith

-- whole levels have all of their data
pub IsComplete-HasData : (u : List Level) → IsComplete u → HasData u
unfolding frame_len
IsComplete-HasData u complete = omega (arith, complete.whole)

-- n levels spell a number of n bits
pub levels_at-lt : (u : List Level) (p n : ℕ) → number_from 0 (levels_at u p n) < 2 ^ n
levels_at-lt u p n = omega (arith, number_from-lt (levels_at u p n), ap (λ t. 2 ^ t) (length-filled n (drop p u)))

-- an extended identifier's eleven bits and then its eighteen
pub identifier_joined : (u : List Level) (base extension : ℕ) → base ≡ number_from 0 (levels_at u 1 11) → extension ≡ number_from 0 (levels_at u 14 18)
    → bit_or (base * 2 ^ 18 % 2 ^ 32) extension ≡ number_from 0 (levels_at u 1 11 ++ levels_at u 14 18)
identifier_joined u base extension base_is extension_is =
    let b = levels_at u 14 18 in
    let whole : base * 2 ^ 18 % 2 ^ 32 ≡ base * 2 ^ 18 = shl_whole base 11 18 32 (omega (arith, levels_at-lt u 1 11)) (omega arith) in
    let split = number_from-append 0 (levels_at u 1 11) b ∙ number_from-split (number_from 0 (levels_at u 1 11)) b in
    ap (λ t. bit_or t extension) whole
    ∙ or_shifted base 18 extension (omega (arith, levels_at-lt u 14 18))
    ∙ ap (λ k. base * 2 ^ k + extension) (sym (length-filled 18 (drop 14 u)))
    ∙ ap (λ t. t * 2 ^ length b + extension) base_is
    ∙ ap (λ t. number_from 0 (levels_at u 1 11) * 2 ^ length b + t) extension_is
    ∙ sym split

pub identifier_joined-lt : (u : List Level) → number_from 0 (levels_at u 1 11 ++ levels_at u 14 18) < 2 ^ 29
identifier_joined-lt u =
    let a = levels_at u 1 11 in
    let b = levels_at u 14 18 in
    let size : length (a ++ b) ≡ 29 = length-append a b ∙ ap (λ t. t + length b) (length-filled 11 (drop 1 u)) ∙ ap (λ t. 11 + t) (length-filled 18 (drop 14 u)) in
    omega (arith, number_from-lt (a ++ b), ap (λ t. 2 ^ t) size)

-- the identifier of an extended frame
pub extended_identifier : (u : List Level) (id : Ident) (raw : ℕ) → raw ≡ number_from 0 (levels_at u 1 11 ++ levels_at u 14 18) → extended_of u ≡ true → id ≡ record { raw = raw; extended = true }
    → id ≡ record { raw = number_from 0 (identifier_of u); extended = extended_of u }
extended_identifier u id raw joined extended is =
    let told : identifier_of u ≡ levels_at u 1 11 ++ levels_at u 14 18 = cond-true (extended_of u) (levels_at u 1 11 ++ levels_at u 14 18) (levels_at u 1 11) extended in
    let number : raw ≡ number_from 0 (identifier_of u) = joined ∙ ap (number_from 0) (sym told) in
    is ∙ ap (λ n. record { raw = n; extended = true }) number ∙ ap (λ e. record { raw = number_from 0 (identifier_of u); extended = e }) (sym extended)

-- levels in two parts
filled-split : (n m : ℕ) (u : List Level) → filled (n + m) u ≡ filled n u ++ filled m (drop n u)
filled-split zero m u = ap (λ k. filled k u) (let same : 0 + m ≡ m = omega arith in same)
filled-split (suc n) m [] = ap (λ k. filled k []) (let up : suc n + m ≡ suc (n + m) = omega arith in up) ∙ ap (λ t. Dominant ∷ t) (filled-split n m [] ∙ ap (λ v. filled n [] ++ filled m v) (drop-nil n))
filled-split (suc n) m (x ∷ u) = ap (λ k. filled k (x ∷ u)) (let up : suc n + m ≡ suc (n + m) = omega arith in up) ∙ ap (λ t. x ∷ t) (filled-split n m u)

-- the bytes of a number are those of its levels, whatever precedes them
bytes-number_from : (k h : ℕ) (u : List Level) → bytes_high_first k (number_from h (filled (8 * k) u)) ≡ bytes_from k u
bytes-number_from zero h u = refl
bytes-number_from (suc k) h u =
    let a = filled 8 u in
    let b = filled (8 * k) (drop 8 u) in
    let n = number_from h (filled (8 * suc k) u) in
    let levels : filled (8 * suc k) u ≡ a ++ b = (let eight : 8 * suc k ≡ 8 + 8 * k = omega arith in ap (λ m. filled m u) eight) ∙ filled-split 8 (8 * k) u in
    let parts : n ≡ number_from (number_from h a) b = ap (number_from h) levels ∙ number_from-append h a b in
    let upper : n / 2 ^ (8 * k) ≡ number_from h a = ap (λ l. number_from h l / 2 ^ (8 * k)) levels ∙ number_from-upper h (8 * k) a b (length-filled (8 * k) (drop 8 u)) in
    let byte : number_from h a ≡ h * 2 ^ 8 + number_from 0 a = number_from-split h a ∙ ap (λ m. h * 2 ^ m + number_from 0 a) (length-filled 8 u) in
    let first : byte_at k n ≡ number_from 0 a = byte_at-place k n ∙ ap (λ m. m % 256) (upper ∙ byte) ∙ mod_low h 8 (number_from 0 a) (levels_at-lt u 0 8) in
    ap (λ x. x ∷ bytes_high_first k n) first ∙ ap (λ m. number_from 0 a ∷ bytes_high_first k m) parts ∙ ap (λ t. number_from 0 a ∷ t) (bytes-number_from k (number_from h a) (drop 8 u))

-- the bytes from a place on, read as one number
pub bytes_read : (u : List Level) (p k n : ℕ) → k ≤ 8 → n ≡ number_from 0 (levels_at u p (8 * k)) → drop (8 - k) (to_be_bytes w64 n) ≡ bytes_from k (drop p u)
bytes_read u p k n few is = last_bytes k n few ∙ ap (bytes_high_first k) is ∙ bytes-number_from k 0 (drop p u)
