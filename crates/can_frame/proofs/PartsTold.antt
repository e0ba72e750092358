-- What the spelling of each part of a frame's text determines of the frame.
use Rattle.std.proofs.Common.{◌≡◌, ◌≢◌, ℕ, ◌+◌, ◌*◌, ◌/◌, ◌%◌, ◌^◌, ◌<◌, ◌≤◌, ◌==◌, Bool, true, false, cond, List, [], ◌∷◌, ◌++◌, length, get_or, take, Ok, refl, sym, ◌∙◌, ap, subst, arith, append_assoc, inl, inr}
use Rattle.std.proofs.lemmas.List.{take_at}
use Rattle.std.proofs.lemmas.Bool.{cases_lt}
use Rattle.std.proofs.lemmas.Bool.Decides.{nat_tests}
use Rattle.hex.specs.Hex.{encode_lower, lower_digits, decode_of, IsBytes}
use Rattle.hex.proofs.HexLemmas.{decode_of-encode_lower, decode_of-same, length-encode_with}
use Rattle.can_frame.specs.Ident.{IsIdent, ident_count}
use Rattle.can_frame.specs.Parts.{Parts, IsFrame, byte_count}
use Rattle.can_frame.specs.Text.{letter_part, identifier_part, direction_part, dlc_part, blank, blank_before, hex_digits, identifier_digits, decimal_digits}
use Rattle.can_frame.specs.TextParts.{letter_spelling, identifier_spelling, dlc_spelling}
use Rattle.can_frame.proofs.HexDigits.{hex_digits-same, length-hex_digits}
use Rattle.can_frame.proofs.Decimals.{decimal_one, decimal_two, dlc_one, dlc_two}

-- two lists with fronts of one length
front_told : (v w x y : List ℕ) → length v ≡ length w → v ++ x ≡ w ++ y → v ≡ w
front_told v w x y h e = sym (take_at v x (length w) h) ∙ ap (take (length w)) e ∙ take_at w y (length w) refl

-- ---- the letters

letter_told : (first second : ℕ) → first ≢ second → (a b : Bool) (x y : List ℕ)
    → letter_spelling first second a ++ x ≡ letter_spelling first second b ++ y → a ≡ b
letter_told first second other true true x y e = refl
letter_told first second other false false x y e = refl
letter_told first second other true false x y e = absurd (other (sym (ap (λ t. get_or t 0 0) e)))
letter_told first second other false true x y e = absurd (other (ap (λ t. get_or t 0 0) e))

pub letter_part_is : (f : Parts) → letter_part f ≡ letter_spelling 83 69 f.id.extended
letter_part_is f = by f.id.extended
  where
    by : (b : Bool) → cond b (69 ∷ []) (83 ∷ []) ++ blank ≡ letter_spelling 83 69 b
    by true = refl
    by false = refl

pub direction_part_is : (f : Parts) → direction_part f ≡ letter_spelling 68 82 f.remote
direction_part_is f = by f.remote
  where
    by : (b : Bool) → cond b (82 ∷ []) (68 ∷ []) ++ blank ≡ letter_spelling 68 82 b
    by true = refl
    by false = refl

pub letter_part_told : (f : Parts) (b : Bool) (x y : List ℕ) → letter_part f ++ x ≡ letter_spelling 83 69 b ++ y
    → f.id.extended ≡ b
letter_part_told f b x y e = letter_told 83 69 (λ h. omega (arith, h)) f.id.extended b x y
    (ap (λ t. t ++ x) (sym (letter_part_is f)) ∙ e)

pub direction_part_told : (f : Parts) (b : Bool) (x y : List ℕ) → direction_part f ++ x ≡ letter_spelling 68 82 b ++ y
    → f.remote ≡ b
direction_part_told f b x y e = letter_told 68 82 (λ h. omega (arith, h)) f.remote b x y
    (ap (λ t. t ++ x) (sym (direction_part_is f)) ∙ e)

-- ---- the identifier

fits_digits : (b : Bool) (n : ℕ) → n < ident_count b → n < 16 ^ identifier_digits b
fits_digits true n h = omega arith
fits_digits false n h = omega arith

pub identifier_part_told : (f : Parts) (b : Bool) (raw : ℕ) (x y : List ℕ) → IsIdent f.id → raw < ident_count b
    → f.id.extended ≡ b
    → identifier_part f ++ x ≡ identifier_spelling b raw ++ y → f.id ≡ record { raw = raw; extended = b }
identifier_part_told f b raw x y ident small kind e =
    let k = identifier_digits b in
    let own : f.id.raw < ident_count b = subst (λ c. f.id.raw < ident_count c) kind ident in
    let part : identifier_part f ≡ identifier_spelling b f.id.raw = ap (λ c. identifier_spelling c f.id.raw) kind in
    let whole : hex_digits k f.id.raw ++ (blank ++ x) ≡ hex_digits k raw ++ (blank ++ y) =
    sym (append_assoc (hex_digits k f.id.raw) blank x) ∙ ap (λ t. t ++ x) (sym part) ∙ e
    ∙ append_assoc (hex_digits k raw) blank y in
    let digits = front_told (hex_digits k f.id.raw) (hex_digits k raw) (blank ++ x) (blank ++ y)
    (length-hex_digits k f.id.raw ∙ sym (length-hex_digits k raw)) whole in
    let same : f.id.raw ≡ raw = hex_digits-same k f.id.raw raw (fits_digits b f.id.raw own) (fits_digits b raw small) digits in
    λ i. record { raw = same i; extended = kind i }

-- ---- the DLC

blank_where_some : (n : ℕ) → 0 < n → cond (n == 0) [] blank ≡ blank
blank_where_some n h = grind (arith, nat_tests)

blank_before_is : (bytes : List ℕ) (n : ℕ) → length bytes ≡ n → blank_before bytes ≡ cond (n == 0) [] blank
blank_before_is [] n e = subst (λ m. [] ≡ cond (m == 0) [] blank) e refl
blank_before_is (b ∷ bytes) n e = sym (blank_where_some n (omega arith))

pub dlc_part_is : (f : Parts) → IsFrame f → dlc_part f ≡ dlc_spelling f.remote f.dlc
dlc_part_is f h = ap (λ t. decimal_digits f.dlc ++ t) (blank_before_is f.bytes (byte_count f.remote f.dlc) h.count)

-- the digits alone
pub decimal_told : (d e : ℕ) → d < 16 → e < 16 → decimal_digits d ≡ decimal_digits e → d ≡ e
decimal_told d e hd he same = elim (cases_lt d 10) [
  | inl d_one ↦ elim (cases_lt e 10) [
    | inl e_one ↦ omega (arith, ap (λ t. get_or t 0 0) (sym (decimal_one d d_one) ∙ same ∙ decimal_one e e_one))
    | inr e_two ↦ absurd (omega (arith, ap length (sym (decimal_one d d_one) ∙ same ∙ decimal_two e e_two)))
  ]
  | inr d_two ↦ elim (cases_lt e 10) [
    | inl e_one ↦ absurd (omega (arith, ap length (sym (decimal_two d d_two) ∙ same ∙ decimal_one e e_one)))
    | inr e_two ↦ omega (arith, ap (λ t. get_or t 1 0) (sym (decimal_two d d_two) ∙ same ∙ decimal_two e e_two))
  ]
]

-- for a data frame, with its space and what follows
first_digit : (d : ℕ) (x : List ℕ) → d < 10 → get_or (dlc_spelling false d ++ x) 0 0 ≡ 48 + d
first_digit d x h = ap (λ t. get_or (t ++ cond (byte_count false d == 0) [] blank ++ x) 0 0) (decimal_one d h)

two_digits : (d : ℕ) (x : List ℕ) → 10 ≤ d
    → (get_or (dlc_spelling false d ++ x) 0 0 ≡ 48 + d / 10) × (get_or (dlc_spelling false d ++ x) 1 0 ≡ 48 + d % 10)
two_digits d x h = (ap (λ t. get_or (t ++ x) 0 0) (dlc_two d h), ap (λ t. get_or (t ++ x) 1 0) (dlc_two d h))

one_is_not_two : (d e : ℕ) (x y : List ℕ) → d < 10 → 10 ≤ e → e < 16 → dlc_spelling false d ++ x ≡ dlc_spelling false e ++ y → ⊥
one_is_not_two d e x y d_one e_two he same =
    let two = two_digits e y e_two in
    let first : d ≡ 1 = omega (arith, first_digit d x d_one, two.0, ap (λ t. get_or t 0 0) same) in
    let second : get_or (dlc_spelling false d ++ x) 1 0 ≡ 32 = ap (λ t. get_or (t ++ x) 1 0) (dlc_one d (omega arith) d_one) in
    omega (arith, second, two.1, ap (λ t. get_or t 1 0) same)

pub dlc_told : (d e : ℕ) (x y : List ℕ) → d < 16 → e < 16 → dlc_spelling false d ++ x ≡ dlc_spelling false e ++ y → d ≡ e
dlc_told d e x y hd he same = elim (cases_lt d 10) [
  | inl d_one ↦ elim (cases_lt e 10) [
    | inl e_one ↦ omega (arith, first_digit d x d_one, first_digit e y e_one, ap (λ t. get_or t 0 0) same)
    | inr e_two ↦ absurd (one_is_not_two d e x y d_one e_two he same)
  ]
  | inr d_two ↦ elim (cases_lt e 10) [
    | inl e_one ↦ absurd (one_is_not_two e d y x e_one d_two hd (sym same))
    | inr e_two ↦ omega (arith, (two_digits d x d_two).1, (two_digits e y e_two).1, ap (λ t. get_or t 1 0) same)
  ]
]

-- ---- the data bytes

pub data_told : (v w x y : List ℕ) → IsBytes v → IsBytes w → length v ≡ length w
    → encode_lower v ++ x ≡ encode_lower w ++ y → v ≡ w
data_told v w x y hv hw size e =
    let sizes : length (encode_lower v) ≡ length (encode_lower w) =
    length-encode_with lower_digits v ∙ ap (λ n. 2 * n) size ∙ sym (length-encode_with lower_digits w) in
    let same = front_told (encode_lower v) (encode_lower w) x y sizes e in
    decode_of-same (encode_lower v) v w (decode_of-encode_lower v hv)
    (subst (λ t. decode_of t ≡ Ok w) (sym same) (decode_of-encode_lower w hw))
