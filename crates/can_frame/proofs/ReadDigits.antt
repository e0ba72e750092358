-- Reading hexadecimal digits: their places, and the place at which a text leaves them.
use Rattle.std.proofs.Common.{◌≡◌, ℕ, ◌+◌, ◌-◌, ◌*◌, ◌/◌, ◌%◌, ◌^◌, ◌<◌, ◌≤◌, List, [], ◌∷◌, ◌++◌, length, get_or, take, drop, refl, sym, ◌∙◌, ap, subst, arith, append_assoc}
use Rattle.std.proofs.Math.Nat.{pow-le-pow_right, mul-lt-mul_of_pos_right, one-le-pow}
use Rattle.std.proofs.lemmas.Nat.{pow-add, div_below, mul-le}
use Rattle.std.proofs.lemmas.List.{drop_more, drop_at, take_at}
use Rattle.hex.specs.Hex.{lower_digits}
use Rattle.can_frame.specs.Text.{hex_digits}
use Rattle.can_frame.specs.TextParts.{IsDigit, IsHexNumber, LeavesPart, StandsAt}
use Rattle.can_frame.specs.declared.text.TextFaultKind.{TextFaultKind}
use Rattle.can_frame.specs.declared.text.TextFault.{TextFault}
use Rattle.can_frame.proofs.HexDigits.{hex_digits-one, hex_digits-one_mod, hex_digits-add, hex_digits-push, hex_digits-shifted, length-hex_digits, digit_same}
use Rattle.can_frame.proofs.Leaving.{LeavesPart-first, LeavesPart-behind}

-- ---- one digit

pub digit_is : (d : ℕ) → d < 16 → hex_digits 1 d ≡ get_or lower_digits d 0 ∷ []
digit_is d small = hex_digits-one d ∙ ap (λ m. get_or lower_digits m 0 ∷ []) (omega arith)

pub one_digit : (d e : ℕ) {byte : ℕ} → IsDigit d byte → IsDigit e byte → d ≡ e
one_digit d e f g = digit_same d e f.0 g.0 (f.1 ∙ sym g.1)

-- a digit at a place
pub digit_stands : (text : List ℕ) (place d : ℕ) → place < length text → IsDigit d (get_or text place 0)
    → StandsAt (hex_digits 1 d) text place (place + 1)
digit_stands text place d within is = record {
  within = omega arith;
  spelt = drop_more text place 0 within ∙ ap (λ b. b ∷ drop (place + 1) text) (sym is.1)
      ∙ ap (λ t. t ++ drop (place + 1) text) (sym (digit_is d is.0));
}

-- no digit below the limit at a place
pub digit_leaves : (kind : TextFaultKind) (text : List ℕ) (place limit : ℕ) → place ≤ length text → 0 < limit → limit ≤ 16
    → ((d : ℕ) → place < length text → d < limit → IsDigit d (get_or text place 0) → ⊥)
    → LeavesPart kind (IsHexNumber 1 limit) text place (record { kind = kind; place = place })
digit_leaves kind text place limit fits some base none =
    LeavesPart-first kind (IsHexNumber 1 limit) text place fits (hex_digits 1 0) (0, omega arith, refl)
    (λ v n. (
      omega (arith, ap length n.2, length-hex_digits 1 n.0),
      λ more q.
          let small : n.0 < limit = omega (arith, n.1) in
          let first : get_or (hex_digits 1 n.0) 0 0 ≡ get_or lower_digits n.0 0 = ap (λ t. get_or t 0 0)
          (digit_is n.0 (omega arith)) in
          none n.0 more small (omega arith, sym first ∙ ap (λ t. get_or t 0 0) n.2 ∙ q),
    ))

-- ---- a number

-- a spelling after another
pub StandsAt-append : (v w text : List ℕ) (start middle end : ℕ) → StandsAt v text start middle
    → StandsAt w text middle end → StandsAt (v ++ w) text start end
StandsAt-append v w text start middle end s t = record {
  within = t.within;
  spelt = s.spelt ∙ ap (λ x. v ++ x) t.spelt ∙ sym (append_assoc v w (drop end text));
}

-- one more digit of a number
pub number_grows : (text : List ℕ) (start place n d : ℕ) → start ≤ place → d < 16
    → StandsAt (hex_digits (place - start) n) text start place
    → StandsAt (hex_digits 1 d) text place (place + 1)
    → StandsAt (hex_digits (place + 1 - start) (16 * n + d)) text start (place + 1)
number_grows text start place n d order small s t =
    let count : place - start + 1 ≡ place + 1 - start = omega arith in
    subst (λ w. StandsAt w text start (place + 1)) (sym (hex_digits-push (place - start) n d small)
    ∙ ap (λ k. hex_digits k (16 * n + d)) count)
    (StandsAt-append (hex_digits (place - start) n) (hex_digits 1 d) text start place (place + 1) s t)

-- what it is below
pub number_small : (limit k n d : ℕ) → n < limit * 16 ^ k → d < 16 → 16 * n + d < limit * 16 ^ (k + 1)
number_small limit k n d h small =
    let e : limit * 16 ^ (k + 1) ≡ limit * 16 ^ k * 16 = ap (λ m. limit * m) (pow-add 16 k 1) ∙ omega arith in
    omega arith

-- of seven digits or fewer
pub number_fits : (limit k n : ℕ) → limit ≤ 16 → k ≤ 6 → n < limit * 16 ^ k → n < 2 ^ 28
number_fits limit k n base few h =
    let power : 16 ^ k ≤ 16 ^ 6 = pow-le-pow_right {n = 16} (omega arith) few in
    omega (arith, mul-le limit (16 ^ k) 16 (16 ^ 6) base power)

module _ (kind : TextFaultKind) (text : List ℕ) (start k j count limit next n : ℕ) (whole : count ≡ k + (1 + j))
    (base : next ≤ 16)
    (below : (d : ℕ) → d < next → (16 * n + d) * 16 ^ j < limit * 16 ^ (count - 1))
    (bound : (m : ℕ) → m < limit * 16 ^ (count - 1) → m / 16 ^ j % 16 < next)
    (s : StandsAt (hex_digits k n) text start (start + k)) where
  front : take k (drop start text) ≡ hex_digits k n
  front = ap (take k) s.spelt ∙ take_at (hex_digits k n) (drop (start + k) text) k (length-hex_digits k n)

  fill : (v : List ℕ) → IsHexNumber 1 next v → (z : List ℕ) × IsHexNumber count limit (take k (drop start text) ++ (v ++ z))
  fill v d =
      let m = (16 * n + d.0) * 16 ^ j in
      let z = hex_digits j m in
      let small : d.0 < next = omega (arith, d.1) in
      let spelt : hex_digits count m ≡ take k (drop start text) ++ (v ++ z) =
      ap (λ c. hex_digits c m) (let e : count ≡ k + 1 + j = omega arith in e)
      ∙ hex_digits-shifted (k + 1) j (16 * n + d.0) ∙ ap (λ t. t ++ z) (hex_digits-push k n d.0 (omega arith))
      ∙ append_assoc (hex_digits k n) (hex_digits 1 d.0) z ∙ ap (λ t. t ++ (hex_digits 1 d.0 ++ z)) (sym front)
      ∙ ap (λ t. take k (drop start text) ++ (t ++ z)) d.2
      in (z, (m, below d.0 small, spelt))

  split : (w rest : List ℕ) → IsHexNumber count limit w → take k (w ++ rest) ≡ take k (drop start text)
      → (v : List ℕ) × (z : List ℕ) × IsHexNumber 1 next v × (drop k w ≡ v ++ z) × (k ≤ length w)
  split w rest m same =
      let x = m.0 / 16 ^ j in
      let upper = hex_digits k (m.0 / 16 ^ (1 + j)) in
      let shape : w ≡ upper ++ (hex_digits 1 (x % 16) ++ hex_digits j m.0) =
      sym m.2 ∙ ap (λ c. hex_digits c m.0) whole ∙ hex_digits-add k (1 + j) m.0
      ∙ ap (λ t. upper ++ t) (hex_digits-add 1 j m.0 ∙ ap (λ t. t ++ hex_digits j m.0) (hex_digits-one_mod x)) in
      let small : x % 16 < next * 16 ^ 0 = omega (arith, bound m.0 m.1) in (
        hex_digits 1 (x % 16),
        hex_digits j m.0,
        (x % 16, small, refl),
        ap (drop k) shape ∙ drop_at upper _ k (length-hex_digits k (m.0 / 16 ^ (1 + j))),
        omega (arith, ap length m.2, length-hex_digits count m.0),
      )

  -- if the text leaves the next digit of a number, it leaves the number
  number_leaves : (fault : TextFault) → LeavesPart kind (IsHexNumber 1 next) text (start + k) fault
      → LeavesPart kind (IsHexNumber count limit) text start fault
  number_leaves fault = LeavesPart-behind kind (IsHexNumber count limit) (IsHexNumber 1 next) text start k s.within fill split fault

nothing_stands : (text : List ℕ) (start : ℕ) → start ≤ length text → StandsAt (hex_digits 0 0) text start (start + 0)
unfolding hex_digits
nothing_stands text start fits = record { within = omega arith; spelt = ap (λ p. drop p text) (omega arith) }

-- at its first digit
pub number_leaves_first : (kind : TextFaultKind) (text : List ℕ) (start count limit : ℕ) → start ≤ length text
    → 0 < count → limit ≤ 16
    → (fault : TextFault) → LeavesPart kind (IsHexNumber 1 limit) text start fault
    → LeavesPart kind (IsHexNumber count limit) text start fault
number_leaves_first kind text start count limit fits some base fault l =
    let j = count - 1 in
    let positive : 0 < 16 ^ j = one-le-pow j 16 (omega arith) in
    let below : (d : ℕ) → d < limit → (16 * 0 + d) * 16 ^ j < limit * 16 ^ j = λ d small.
    let e : 16 * 0 + d ≡ d = omega arith in
    subst (λ x. x * 16 ^ j < limit * 16 ^ j) (sym e) (mul-lt-mul_of_pos_right small positive) in
    let bound : (m : ℕ) → m < limit * 16 ^ j → m / 16 ^ j % 16 < limit = λ m h.
    let q : m / 16 ^ j < limit = div_below m (16 ^ j) limit positive h in
    omega arith in
    number_leaves kind text start 0 j count limit limit 0 (omega arith) base below bound (nothing_stands text start fits) fault
    (subst (λ p. LeavesPart kind (IsHexNumber 1 limit) text p fault) (let e : start ≡ start + 0 = omega arith in e) l)

-- at a later digit
pub number_leaves_later : (kind : TextFaultKind) (text : List ℕ) (start place count limit n : ℕ) → start < place
    → place < start + count
    → StandsAt (hex_digits (place - start) n) text start place → n < limit * 16 ^ (place - start - 1)
    → (fault : TextFault) → LeavesPart kind (IsHexNumber 1 16) text place fault
    → LeavesPart kind (IsHexNumber count limit) text start fault
number_leaves_later kind text start place count limit n first last s small fault l =
    let k = place - start in
    let j = count - 1 - k in
    let here : place ≡ start + k = omega arith in
    let positive : 0 < 16 ^ j = one-le-pow j 16 (omega arith) in
    let power : limit * 16 ^ k * 16 ^ j ≡ limit * 16 ^ (count - 1) =
    let e : limit * (16 ^ k * 16 ^ j) ≡ limit * 16 ^ k * 16 ^ j = omega arith in
    sym e ∙ ap (λ p. limit * p) (sym (pow-add 16 k j))
    ∙ ap (λ p. limit * 16 ^ p) (let e : k + j ≡ count - 1 = omega arith in e) in
    let below : (d : ℕ) → d < 16 → (16 * n + d) * 16 ^ j < limit * 16 ^ (count - 1) = λ d digit.
    let grown : 16 * n + d < limit * 16 ^ (k - 1 + 1) = number_small limit (k - 1) n d small digit in
    let same : k - 1 + 1 ≡ k = omega arith in
    subst (λ p. (16 * n + d) * 16 ^ j < p) power
    (mul-lt-mul_of_pos_right (subst (λ p. 16 * n + d < limit * 16 ^ p) same grown) positive) in
    number_leaves kind text start k j count limit 16 n (omega arith) (omega arith) below (λ m h. omega arith)
    (subst (λ p. StandsAt (hex_digits k n) text start p) here s) fault
    (subst (λ p. LeavesPart kind (IsHexNumber 1 16) text p fault) here l)
