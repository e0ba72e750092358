-- A frame's bytes with 0 after them, and the frame of fields.
use Rattle.std.proofs.Common.{◌≡◌, ℕ, suc, zero, ◌+◌, ◌-◌, ◌*◌, ◌/◌, ◌^◌, ◌<◌, ◌≤◌, ◌⊎◌, inl, inr, min, Bool, true, false, not, ◌&&◌, cond, List, [], ◌∷◌, ◌++◌, length, take, drop, get_or, replicate, refl, sym, ◌∙◌, ap, arith}
use Rattle.std.specs.Prelude.{nat_lt, slice_index}
use Rattle.std.specs.List.{flat_map}
use Rattle.std.proofs.lemmas.Bool.{cases_lt, lt-ltb, le-ltb}
use Rattle.std.proofs.lemmas.Grind.{flat_map-append}
use Rattle.std.proofs.lemmas.List.{get_or-drop, get_or_past, drop-drop, replicate-append-replicate}
use Rattle.can_frame.specs.declared.level.Level.TheVariants.{Dominant}
use Rattle.can_frame.specs.Levels.{bits_of}
use Rattle.can_frame.specs.Parts.{IsFrame, byte_count}
use Rattle.can_gates.specs.declared.literal.Literal.{Literal}
use Rattle.can_gates.specs.Circuit.{value, never}
use Rattle.can_gates.specs.Words.{number}
use Rattle.can_gates.proofs.Constants.{value-never}
use Rattle.can_gates.proofs.WordNumbers.{number-lt, number-take-lt}
use Rattle.can_gates_mac.specs.Nibbles.{nibble}
use Rattle.can_gates_mac.specs.declared.nibble.Nibble.{Nibble}
use Rattle.can_gates_controller.specs.declared.fields.Fields.{Fields}
use Rattle.can_gates_controller.specs.Fields.{identifier_places, bytes_in, frame_in}
use Rattle.can_gates_controller.specs.Laying.{IsCleared}
use Rattle.can_gates_controller.proofs.WordParts.{number-split, number_none, bytes_same}

pub has_byte_is : (b : ℕ) (remote : Bool) (dlc : ℕ) → b < 8 → (nat_lt b dlc && not remote) ≡ nat_lt b (byte_count remote dlc)
has_byte_is b true dlc h = by (nat_lt b dlc)
  where
    by : (t : Bool) → (t && false) ≡ nat_lt b 0
    by true = sym (le-ltb b 0 (omega arith))
    by false = sym (le-ltb b 0 (omega arith))
has_byte_is b false dlc h = by (cases_lt b dlc)
  where
    by : (b < dlc) ⊎ (dlc ≤ b) → (nat_lt b dlc && true) ≡ nat_lt b (min dlc 8)
    by (inl l) = rw (lt-ltb b dlc l, lt-ltb b (min dlc 8) (omega (arith, l, h))) refl
    by (inr l) = rw (le-ltb b dlc l, le-ltb b (min dlc 8) (omega (arith, l, h))) refl

-- from bits that are 0 after the last byte
pub cleared_is : (v : ℕ → Bool) → v 0 ≡ false → (made old : List Literal) (n : ℕ) → length made ≡ 64 → ((p : ℕ) → p < 64 → value v (get_or made p never) ≡ (nat_lt (p / 8) n && value v (get_or old p never))) → n ≤ 8 → IsCleared v made old n
cleared_is v zero_is made old n long is few = record {
  bytes = bytes_same v zero_is n made old (λ p h. let byte : p / 8 < n = omega (arith, h) in is p (omega (arith, h, few)) ∙ rw (lt-ltb (p / 8) n byte) refl);
  behind = number_none v (drop (8 * n) made) (λ p. ap (value v) (get_or-drop (8 * n) made p never) ∙ by (8 * n + p) (cases_lt (8 * n + p) 64) (omega arith));
}
  where
    by : (p : ℕ) → (p < 64) ⊎ (64 ≤ p) → 8 * n ≤ p → value v (get_or made p never) ≡ false
    by p (inl h) past = let byte : n ≤ p / 8 = omega (arith, past) in is p h ∙ rw (le-ltb (p / 8) n byte) refl
    by p (inr h) past = ap (value v) (get_or_past made p never (omega (arith, h, long))) ∙ value-never v zero_is

-- The levels of cleared bytes.

bytes_split : (v : ℕ → Bool) (n m k : ℕ) (word : List Literal) → n + m ≡ k → bytes_in v k word ≡ bytes_in v n word ++ bytes_in v m (drop (8 * n) word)
bytes_split v zero m k word e = let same : k ≡ m = omega (arith, e) in ap (λ j. bytes_in v j word) same
bytes_split v (suc n) m zero word e = absurd (omega (arith, e))
bytes_split v (suc n) m (suc k) word e =
    let more : 8 + 8 * n ≡ 8 * suc n = omega arith in
    ap (λ t. number v (take 8 word) ∷ t) (bytes_split v n m k (drop 8 word) (omega (arith, e)) ∙ ap (λ t. bytes_in v n (drop 8 word) ++ bytes_in v m t) (drop-drop (8 * n) 8 word ∙ ap (λ t. drop t word) more))

none_dominant : bits_of 8 0 ≡ replicate 8 Dominant
unfolding bits_of
none_dominant = refl

levels_none : (v : ℕ → Bool) (n : ℕ) (word : List Literal) → number v word ≡ 0 → flat_map (bits_of 8) (bytes_in v n word) ≡ replicate (8 * n) Dominant
levels_none v zero word none = refl
levels_none v (suc n) word none =
    let parts = number-split v 8 word in
    let low : number v (take 8 word) ≡ 0 = omega (arith, none, parts) in
    let high : number v (drop 8 word) ≡ 0 = omega (arith, none, parts) in
    let more : 8 + 8 * n ≡ 8 * suc n = omega arith in
    ap (λ t. bits_of 8 t ++ flat_map (bits_of 8) (bytes_in v n (drop 8 word))) low
    ∙ ap (λ t. t ++ flat_map (bits_of 8) (bytes_in v n (drop 8 word))) none_dominant
    ∙ ap (λ t. replicate 8 Dominant ++ t) (levels_none v n (drop 8 word) high)
    ∙ replicate-append-replicate 8 (8 * n) Dominant
    ∙ ap (λ t. replicate t Dominant) more

-- they are those of the bytes, and then dominant ones
pub cleared_levels : (v : ℕ → Bool) (made old : List Literal) (n : ℕ) → IsCleared v made old n → n ≤ 8 → flat_map (bits_of 8) (bytes_in v 8 made) ≡ flat_map (bits_of 8) (bytes_in v n old) ++ replicate (8 * (8 - n)) Dominant
cleared_levels v made old n is few =
    let f = flat_map (bits_of 8) in
    ap f (bytes_split v n (8 - n) 8 made (omega (arith, few)))
    ∙ flat_map-append (bits_of 8) (bytes_in v n made) (bytes_in v (8 - n) (drop (8 * n) made))
    ∙ ap (λ t. f t ++ f (bytes_in v (8 - n) (drop (8 * n) made))) is.bytes
    ∙ ap (λ t. f (bytes_in v n old) ++ t) (levels_none v (8 - n) (drop (8 * n) made) is.behind)

-- Fields are a frame.

length-bytes_in : (v : ℕ → Bool) (n : ℕ) (word : List Literal) → length (bytes_in v n word) ≡ n
length-bytes_in v zero word = refl
length-bytes_in v (suc n) word = ap suc (length-bytes_in v n (drop 8 word))

bytes_in-small : (v : ℕ → Bool) (n : ℕ) (word : List Literal) (k : ℕ) → slice_index (bytes_in v n word) k < 256
bytes_in-small v zero word k = omega arith
bytes_in-small v (suc n) word zero = number-take-lt v word 8
bytes_in-small v (suc n) word (suc k) = bytes_in-small v n (drop 8 word) k

identifier-lt : (v : ℕ → Bool) (word : List Literal) (e : Bool) → number v (take (identifier_places e) word) < cond e (2 ^ 29) (2 ^ 11)
identifier-lt v word true = number-take-lt v word 29
identifier-lt v word false = number-take-lt v word 11

nibble-lt : (v : ℕ → Bool) (n : Nibble) → nibble v n < 16
unfolding nibble
nibble-lt v n = number-lt v (n.ones ∷ n.twos ∷ n.fours ∷ n.eights ∷ [])

pub frame_in-is : (v : ℕ → Bool) (k : Fields) → IsFrame (frame_in v k)
unfolding frame_in
frame_in-is v k = record {
  id = identifier-lt v k.identifier (value v k.extended);
  dlc = nibble-lt v k.dlc;
  count = length-bytes_in v (byte_count (value v k.remote) (nibble v k.dlc)) k.bytes;
  small = bytes_in-small v (byte_count (value v k.remote) (nibble v k.dlc)) k.bytes;
}
