-- Writing a frame's text: the table of two hexadecimal digits, and the text part by part.
use Rattle.std.proofs.Common.{◌≡◌, ℕ, zero, suc, ◌+◌, ◌-◌, ◌*◌, ◌/◌, ◌%◌, ◌^◌, ◌<◌, ◌≤◌, Bool, true, false, cond, List, [], ◌∷◌, ◌++◌, length, map, get_or, take, replicate, codes, refl, sym, ◌∙◌, ap, subst, arith, append_assoc, length-append}
use Rattle.std.specs.Int.{byte_at, bytes_high_first, from_be_bytes, to_le_bytes, w16, w64}
use Rattle.std.specs.List.{range_with_len}
use Rattle.std.proofs.lemmas.List.{get_or-map, length-replicate, take_at}
use Rattle.std.proofs.lemmas.List.FromFn.{get_or-map-range_with_len}
use Rattle.std.proofs.lemmas.Nat.{be_bytes_8, pow-add, mul-pow}
use Rattle.hex.specs.Hex.{encode_lower, lower_digits}
use Rattle.hex.proofs.HexLemmas.{length-encode_with}
use Rattle.can_frame.specs.Parts.{IsFrame, Parts}
use Rattle.can_frame.specs.Stored.{byte_count_le}
use Rattle.can_frame.specs.Text.{dlc_part, direction_part, frame_text, hex_digits, identifier_digits, identifier_part, letter_part}
use Rattle.can_frame.specs.declared.text.write.TheConstants.{PAIRS}
use Rattle.can_frame.proofs.DataNumber.{filled-small}
use Rattle.can_frame.proofs.HexDigits.{hex_digits-add, encode_lower-append, encode_lower-cons, encode_lower-nil, two_of_byte}

-- ---- the digits of a number's bytes

power_is : (k : ℕ) → 256 ^ k ≡ 16 ^ (2 * k)
power_is k = mul-pow 16 16 k ∙ sym (pow-add 16 k k) ∙ ap (λ m. 16 ^ m) (omega arith)

byte_is : (k n : ℕ) → byte_at k n ≡ n / 16 ^ (2 * k) % 256
byte_is zero n = ap (λ m. m % 256) (let e : n ≡ n / 16 ^ (2 * 0) = omega arith in e)
byte_is (suc k) n = ap (λ p. n / p % 256) (power_is (suc k))

bytes_digits : (k n : ℕ) → encode_lower (bytes_high_first k n) ≡ hex_digits (2 * k) n
unfolding hex_digits
bytes_digits zero n = encode_lower-nil
bytes_digits (suc k) n =
    let small : byte_at k n < 256 = omega (arith, byte_is k n) in
    let digits : hex_digits 2 (byte_at k n) ≡ hex_digits 2 (n / 16 ^ (2 * k)) = ap (hex_digits 2) (byte_is k n)
    ∙ sym (two_of_byte (n / 16 ^ (2 * k))) in
    encode_lower-cons (byte_at k n) (bytes_high_first k n) small
    ∙ ap (λ t. t ++ encode_lower (bytes_high_first k n)) digits
    ∙ ap (λ t. hex_digits 2 (n / 16 ^ (2 * k)) ++ t) (bytes_digits k n)
    ∙ sym (hex_digits-add 2 (2 * k) n) ∙ ap (λ m. hex_digits m n) (let e : 2 + 2 * k ≡ 2 * suc k = omega arith in e)

-- ---- the table

-- by computing each of its entries
table_is : map (to_le_bytes w16) PAIRS ≡ map (hex_digits 2) (range_with_len 0 256)
unfolding hex_digits
table_is = refl

table_size : length PAIRS ≡ 256
table_size = refl

pair_is : (byte : ℕ) → byte < 256 → to_le_bytes w16 (get_or PAIRS byte 0) ≡ hex_digits 2 byte
pair_is byte h =
    sym (get_or-map (to_le_bytes w16) PAIRS byte 0 [] (omega (arith, table_size))) ∙ ap (λ t. get_or t byte []) table_is
    ∙ get_or-map-range_with_len (hex_digits 2) 0 256 byte byte [] h (omega arith)

pub pair_digits : (n : ℕ) → to_le_bytes w16 (get_or PAIRS (n % 256) 0) ≡ hex_digits 2 n
pair_digits n = pair_is (n % 256) (omega arith) ∙ sym (two_of_byte n)

-- ---- digits of longer numbers

-- four pairs, each in its place of a number of eight bytes
joined : (a b c d : ℕ) → a < 2 ^ 16 → b < 2 ^ 16 → c < 2 ^ 16 → d < 2 ^ 16
    → to_le_bytes w64 (a + b * 2 ^ 16 + (c + d * 2 ^ 16) * 2 ^ 32) ≡ to_le_bytes w16 a ++ (to_le_bytes w16 b ++ (to_le_bytes w16 c ++ to_le_bytes w16 d))
joined a b c d ha hb hc hd =
    let n = a + b * 2 ^ 16 + (c + d * 2 ^ 16) * 2 ^ 32 in
    let n0 : n % 256 ≡ a % 256 = omega arith in
    let n1 : n / 256 ^ 1 % 256 ≡ a / 256 ^ 1 % 256 = omega arith in
    let n2 : n / 256 ^ 2 % 256 ≡ b % 256 = omega arith in
    let n3 : n / 256 ^ 3 % 256 ≡ b / 256 ^ 1 % 256 = omega arith in
    let n4 : n / 256 ^ 4 % 256 ≡ c % 256 = omega arith in
    let n5 : n / 256 ^ 5 % 256 ≡ c / 256 ^ 1 % 256 = omega arith in
    let n6 : n / 256 ^ 6 % 256 ≡ d % 256 = omega arith in
    let n7 : n / 256 ^ 7 % 256 ≡ d / 256 ^ 1 % 256 = omega arith in
    λ i. n0 i ∷ n1 i ∷ n2 i ∷ n3 i ∷ n4 i ∷ n5 i ∷ n6 i ∷ n7 i ∷ []

-- as the code shifts them
pub pairs_joined : (a b c d : ℕ) → a < 2 ^ 16 → b < 2 ^ 16 → c < 2 ^ 16 → d < 2 ^ 16
    → to_le_bytes w64 (a + b * 2 ^ 16 % 2 ^ 64 + (c + d * 2 ^ 16 % 2 ^ 64) * 2 ^ 32 % 2 ^ 64)
    ≡ to_le_bytes w16 a ++ (to_le_bytes w16 b ++ (to_le_bytes w16 c ++ to_le_bytes w16 d))
pairs_joined a b c d ha hb hc hd =
    let whole : a + b * 2 ^ 16 % 2 ^ 64 + (c + d * 2 ^ 16 % 2 ^ 64) * 2 ^ 32 % 2 ^ 64 ≡ a + b * 2 ^ 16 + (c + d * 2 ^ 16) * 2 ^ 32 = omega arith in
    ap (to_le_bytes w64) whole ∙ joined a b c d ha hb hc hd

pub eight_digits : (n : ℕ) → hex_digits 2 (n / 2 ^ 24) ++ (hex_digits 2 (n / 2 ^ 16) ++ (hex_digits 2 (n / 2 ^ 8) ++ hex_digits 2 n)) ≡ hex_digits 8 n
eight_digits n =
    ap (λ t. hex_digits 2 (n / 2 ^ 24) ++ (hex_digits 2 (n / 2 ^ 16) ++ t)) (sym (hex_digits-add 2 2 n))
    ∙ ap (λ t. hex_digits 2 (n / 2 ^ 24) ++ t) (sym (hex_digits-add 2 4 n)) ∙ sym (hex_digits-add 2 6 n)

-- all sixteen of eight bytes
octets_digits : (octets : List ℕ) (n : ℕ) → length octets ≡ 8 → ((i : ℕ) → get_or octets i 0 < 256) → n ≡ from_be_bytes w64 octets
    → hex_digits 8 (n / 2 ^ 32) ++ hex_digits 8 n ≡ encode_lower octets
octets_digits octets n eight small is =
    sym (hex_digits-add 8 8 n) ∙ sym (bytes_digits 8 n) ∙ ap encode_lower (be_bytes_8 octets n eight small is)

-- and those of a frame's bytes alone
pub data_written : (f : Parts) → IsFrame f → (old octets : List ℕ) (n end : ℕ) → octets ≡ f.bytes ++ replicate (8 - length f.bytes) 0
    → n ≡ from_be_bytes w64 octets → end ≡ length old + 2 * length f.bytes
    → take end ((old ++ hex_digits 8 (n / 2 ^ 32)) ++ hex_digits 8 n) ≡ old ++ encode_lower f.bytes
data_written f is old octets n end filled n_is end_is =
    let bytes = f.bytes in
    let filling = 8 - length bytes in
    let few : length bytes ≤ 8 = omega (arith, is.count, byte_count_le f.remote f.dlc) in
    let eight : length octets ≡ 8 =
    ap length filled ∙ length-append bytes (replicate filling 0) ∙ ap (λ k. length bytes + k) (length-replicate filling 0) ∙ (let e : length bytes + filling ≡ 8 = omega arith in e) in
    let small : (i : ℕ) → get_or octets i 0 < 256 = λ i. subst (λ t. get_or t i 0 < 256) (sym filled) (filled-small bytes filling i is.small) in
    let digits : (old ++ hex_digits 8 (n / 2 ^ 32)) ++ hex_digits 8 n ≡ (old ++ encode_lower bytes) ++ encode_lower (replicate filling 0) =
    append_assoc old (hex_digits 8 (n / 2 ^ 32)) (hex_digits 8 n) ∙ ap (λ t. old ++ t) (octets_digits octets n eight small n_is ∙ ap encode_lower filled ∙ encode_lower-append bytes (replicate filling 0))
    ∙ sym (append_assoc old (encode_lower bytes) (encode_lower (replicate filling 0))) in
    let size : length (old ++ encode_lower bytes) ≡ end = length-append old (encode_lower bytes) ∙ ap (λ k. length old + k) (length-encode_with lower_digits bytes) ∙ sym end_is in
    ap (take end) digits ∙ take_at (old ++ encode_lower bytes) (encode_lower (replicate filling 0)) end size

-- ---- parts

-- an identifier after its letter, by its kind and its number
of_kind : (f : Parts) (extended : Bool) (raw : ℕ) → f.id.extended ≡ extended → raw ≡ f.id.raw
    → (cond extended (codes "E") (codes "S") ++ codes " ") ++ (hex_digits (identifier_digits extended) raw ++ codes " ") ≡ letter_part f ++ identifier_part f
of_kind f extended raw is_kind is_raw = λ i. (cond (sym is_kind i) (codes "E") (codes "S") ++ codes " ") ++ (hex_digits (identifier_digits (sym is_kind i)) (is_raw i) ++ codes " ")

-- a standard one, from the last of eight digits
pub standard_written : (f : Parts) (raw : ℕ) → raw ≡ f.id.raw → f.id.extended ≡ false → {digits : List ℕ} → digits ≡ hex_digits 8 raw
    → 83 ∷ 32 ∷ get_or digits 5 0 ∷ get_or digits 6 0 ∷ get_or digits 7 0 ∷ 32 ∷ [] ≡ letter_part f ++ identifier_part f
unfolding hex_digits
standard_written f raw is_raw is_standard digits =
    (λ i. 83 ∷ 32 ∷ get_or (digits i) 5 0 ∷ get_or (digits i) 6 0 ∷ get_or (digits i) 7 0 ∷ 32 ∷ []) ∙ of_kind f false raw is_standard is_raw

-- an extended one, from all of them
pub extended_written : (f : Parts) (raw : ℕ) (t : List ℕ) → raw ≡ f.id.raw → f.id.extended ≡ true → {digits : List ℕ} → digits ≡ hex_digits 8 raw
    → ((t ++ codes "E ") ++ digits) ++ codes " " ≡ t ++ (letter_part f ++ identifier_part f)
extended_written f raw t is_raw is_extended digits =
    ap (λ d. ((t ++ codes "E ") ++ d) ++ codes " ") digits ∙ three_apart t (codes "E ") (hex_digits 8 raw) (codes " ")
    ∙ ap (λ w. t ++ w) (of_kind f true raw is_extended is_raw)
  where
    three_apart : (t a b c : List ℕ) → ((t ++ a) ++ b) ++ c ≡ t ++ (a ++ (b ++ c))
    three_apart t a b c = simp append_assoc

pairs_apart : (t a b c d e : List ℕ) → ((t ++ (a ++ b)) ++ (c ++ d)) ++ e ≡ t ++ (a ++ (b ++ (c ++ (d ++ e))))
pairs_apart t a b c d e = simp append_assoc

-- part by part after a text
pub parts_written : (f : Parts) (t0 t1 t2 t3 : List ℕ) → t1 ≡ t0 ++ (letter_part f ++ identifier_part f) → t2 ≡ t1 ++ (direction_part f ++ dlc_part f)
    → t3 ≡ t2 ++ encode_lower f.bytes → t3 ≡ t0 ++ frame_text f
unfolding frame_text
parts_written f t0 t1 t2 t3 h1 h2 h3 =
    let bytes = encode_lower f.bytes in
    h3 ∙ ap (λ t. t ++ bytes) (h2 ∙ ap (λ t. t ++ (direction_part f ++ dlc_part f)) h1)
    ∙ pairs_apart t0 (letter_part f) (identifier_part f) (direction_part f) (dlc_part f) bytes
