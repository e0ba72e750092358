-- Going over levels in octets.
use Rattle.std.proofs.Common.{◌≡◌, ℕ, suc, zero, ◌+◌, ◌*◌, ◌<◌, List, ◌++◌, take, drop, get_or, sym, ◌∙◌, ap, arith}
use Rattle.std.specs.Simd.{first_chunks}
use Rattle.std.proofs.Math.Seq.{take-add}
use Rattle.std.proofs.lemmas.List.{drop-drop}
use Rattle.can_frame.specs.declared.level.Level.{Level}

-- chunk j of n elements
get_or-first_chunks : (n k j : ℕ) (xs d : List Level) → j < k → get_or (first_chunks n k xs) j d ≡ take n (drop (n * j) xs)
get_or-first_chunks n zero j xs d h = absurd (omega arith)
get_or-first_chunks n (suc k) zero xs d h = ap (λ m. take n (drop m xs)) (let e : 0 ≡ n * 0 = omega arith in e)
get_or-first_chunks n (suc k) (suc j) xs d h =
    let e : n + n * j ≡ n * suc j = omega arith in
    get_or-first_chunks n k j (drop n xs) d (omega arith) ∙ ap (take n) (drop-drop (n * j) n xs ∙ ap (λ m. drop m xs) e)

-- the levels before the end of octet i
pub take-octet : (i count : ℕ) (levels : List Level) (octets : List (List Level)) (d : List Level) → octets ≡ first_chunks 8 count levels → i < count
    → take (8 * i) levels ++ get_or octets i d ≡ take (8 * (i + 1)) levels
take-octet i count levels octets d front h =
    let octet : get_or octets i d ≡ take 8 (drop (8 * i) levels) = ap (λ t. get_or t i d) front ∙ get_or-first_chunks 8 count i levels d h in
    let next : 8 * i + 8 ≡ 8 * (i + 1) = omega arith in
    ap (λ t. take (8 * i) levels ++ t) octet ∙ sym (take-add (8 * i) 8 levels) ∙ ap (λ n. take n levels) next
