-- The digits of levels that are stuffed step by step, after levels that fill them up to whole bytes.
use Rattle.std.proofs.Common.{◌≡◌, ℕ, zero, suc, replicate, ◌+◌, ◌-◌, ◌*◌, ◌/◌, ◌%◌, ◌^◌, ◌<◌, ◌≤◌, List, [], ◌∷◌, ◌++◌, length, take, drop, map, get_or, refl, sym, ◌∙◌, ap, arith, append_assoc, length-append}
use Rattle.std.specs.List.{range_with_len}
use Rattle.std.specs.Prelude.{slice_range}
use Rattle.std.proofs.lemmas.List.{append-nil, drop_at, length-map, map-append, take_at, take-take}
use Rattle.std.proofs.Math.Seq.{take-append-add}
use Rattle.std.proofs.lemmas.Nat.{one_shl, shr-shr}
use Rattle.std.proofs.lemmas.List.FromFn.{get_or-map-range_with_len}
use Rattle.can_frame.specs.declared.level.Level.{Level}
use Rattle.can_frame.specs.declared.level.Level.TheVariants.{Dominant, Recessive}
use Rattle.can_frame.specs.Levels.{bits_of, digit_of}
use Rattle.can_frame.specs.Parts.{Parts}
use Rattle.can_wire.specs.Wire.{driven, head, stuffed_part, tail, unstuffed}
use Rattle.can_wire.specs.Stuffing.{stuffed_from, stuffed}
use Rattle.can_wire.specs.StuffSteps.{HasDigits, last_behind, last_of, run_behind, run_of}
use Rattle.can_wire.specs.declared.digits.DigitRun.{DigitRun}
use Rattle.can_wire.specs.declared.digits.tables.TheConstants.{OCTET_DIGITS, PAIR_DIGITS}
use Rattle.can_wire.proofs.LevelLemmas.{bits_of-append, bits_of-mod, length-bits_of}
use Rattle.can_wire.proofs.PackedLemmas.{bits_of-moved}
use Rattle.can_wire.proofs.StuffingLemmas.{length-stuffed}
use Rattle.can_wire.proofs.StuffSteps.{bounds_behind, some_run, stuffed_from-append}

-- ---- the tables

octets_are : OCTET_DIGITS ≡ map (λ n. map digit_of (bits_of 8 n)) (range_with_len 0 256)
unfolding bits_of
octets_are = refl

pub octet_at : (number : ℕ) (d : List ℕ) → number < 256 → get_or OCTET_DIGITS number d ≡ map digit_of (bits_of 8 number)
octet_at number d h = ap (λ t. get_or t number d) octets_are ∙ get_or-map-range_with_len (λ n. map digit_of (bits_of 8 n)) 0 256 number number d h (omega arith)

pairs_are : PAIR_DIGITS ≡ map (λ n. map digit_of (bits_of 2 n)) (range_with_len 0 4)
unfolding bits_of
pairs_are = refl

pub pair_at : (number : ℕ) (d : List ℕ) → number < 4 → get_or PAIR_DIGITS number d ≡ map digit_of (bits_of 2 number)
pair_at number d h = ap (λ t. get_or t number d) pairs_are ∙ get_or-map-range_with_len (λ n. map digit_of (bits_of 2 n)) 0 4 number number d h (omega arith)

-- the digits of ten bits
pub ten_digits : (number : ℕ) → map digit_of (bits_of 8 (number / 4)) ++ map digit_of (bits_of 2 (number % 4)) ≡ map digit_of (bits_of 10 number)
ten_digits number =
    sym (map-append digit_of (bits_of 8 (number / 4)) (bits_of 2 (number % 4)))
    ∙ ap (map digit_of) (ap (λ l. bits_of 8 (number / 4) ++ l) (bits_of-mod 2 2 number (omega arith)) ∙ sym (bits_of-append 8 2 number))

-- ---- digits that have been put

pub HasDigits-none : (digits : List ℕ) (row : ℕ) → row < 8 → last_of row ≡ Recessive → run_of row ≡ 1 → HasDigits digits (record { len = 0; row = row }) []
HasDigits-none digits row small last run = record {
  completes = λ rest. ap (λ l. map digit_of (stuffed_from l (run_of row) rest)) last ∙ ap (λ n. map digit_of (stuffed_from Recessive n rest)) run;
  small = small;
  room = omega (arith, run);
}

-- those of the levels xs more
pub HasDigits-more : (old new : List ℕ) (s t : DigitRun) (u xs : List Level) → HasDigits old s u → t.row < 8
    → take t.len new ≡ take s.len old ++ map digit_of (stuffed_from (last_of s.row) (run_of s.row) xs) → t.len ≡ s.len + length (stuffed_from (last_of s.row) (run_of s.row) xs)
    → last_of t.row ≡ last_behind (last_of s.row) (run_of s.row) xs → run_of t.row ≡ run_behind (last_of s.row) (run_of s.row) xs
    → HasDigits new t (u ++ xs)
HasDigits-more old new s t u xs is small digits len last run =
    let l = last_of s.row in
    let r = run_of s.row in
    let b = bounds_behind xs l r (some_run s.row).0 (some_run s.row).1 in
    let own = map digit_of (stuffed_from l r xs) in
    record {
      completes = λ rest.
          ap (λ k. k ++ map digit_of (stuffed_from (last_of t.row) (run_of t.row) rest)) digits
          ∙ ap (λ e. (take s.len old ++ own) ++ map digit_of (stuffed_from e (run_of t.row) rest)) last
          ∙ ap (λ n. (take s.len old ++ own) ++ map digit_of (stuffed_from (last_behind l r xs) n rest)) run
          ∙ append_assoc (take s.len old) own (map digit_of (stuffed_from (last_behind l r xs) (run_behind l r xs) rest))
          ∙ ap (λ k. take s.len old ++ k) (sym (map-append digit_of (stuffed_from l r xs) (stuffed_from (last_behind l r xs) (run_behind l r xs) rest)))
          ∙ ap (λ k. take s.len old ++ map digit_of k) (sym (stuffed_from-append xs rest l r))
          ∙ is.completes (xs ++ rest)
          ∙ ap (λ k. map digit_of (stuffed_from Recessive 1 k)) (sym (append_assoc u xs rest));
      small = small;
      room = omega (arith, b.room, is.room, len, run, length-append u xs);
    }

-- of ten digits that were put at a place, the first n count
pub put_step : (new old ten : List ℕ) (place n : ℕ) → take (place + 10) new ≡ take place old ++ ten → n ≤ 10 → length (take place old) ≡ place
    → take (place + n) new ≡ take place old ++ take n ten
put_step new old ten place n put few size =
    sym (take-take (place + n) (place + 10) new (omega (arith, few))) ∙ ap (take (place + n)) put
    ∙ ap (λ m. take (m + n) (take place old ++ ten)) (sym size) ∙ take-append-add (take place old) ten n

-- all of them
pub HasDigits-all : (digits : List ℕ) (s : DigitRun) (u : List Level) → HasDigits digits s u → take s.len digits ≡ map digit_of (stuffed_from Recessive 1 u)
HasDigits-all digits s u is = sym (append-nil (take s.len digits)) ∙ is.completes [] ∙ ap (λ l. map digit_of (stuffed_from Recessive 1 l)) (append-nil u)

-- ---- levels that fill up a number of levels to whole bytes

-- after these levels and a recessive one, a frame has the stuff bits that it has alone
pub filled : (n : ℕ) (u : List Level) → n < 8 → stuffed_from Recessive 1 (bits_of n 0x55 ++ Dominant ∷ u) ≡ bits_of n 0x55 ++ stuffed (Dominant ∷ u)
unfolding bits_of stuffed
filled zero u h = refl
filled (suc zero) u h = refl
filled (suc (suc zero)) u h = refl
filled (suc (suc (suc zero))) u h = refl
filled (suc (suc (suc (suc zero)))) u h = refl
filled (suc (suc (suc (suc (suc zero))))) u h = refl
filled (suc (suc (suc (suc (suc (suc zero)))))) u h = refl
filled (suc (suc (suc (suc (suc (suc (suc zero))))))) u h = refl
filled (suc (suc (suc (suc (suc (suc (suc (suc n)))))))) u h = absurd (omega arith)

-- ---- the bytes of a number

-- the levels of the upper bytes, with those of the next one
pub next_octet : (number done left octet : ℕ) → octet ≡ number / 2 ^ (8 * left) % 256
    → bits_of (8 * done) (number / 2 ^ (8 * (left + 1))) ++ bits_of 8 octet ≡ bits_of (8 * (done + 1)) (number / 2 ^ (8 * left))
next_octet number done left octet is =
    let y = number / 2 ^ (8 * left) in
    let upper : number / 2 ^ (8 * (left + 1)) ≡ y / 2 ^ 8 = ap (λ e. number / 2 ^ e) (let e : 8 * (left + 1) ≡ 8 * left + 8 = omega arith in e) ∙ sym (shr-shr number (8 * left) 8) in
    ap (λ t. bits_of (8 * done) t ++ bits_of 8 octet) upper ∙ ap (λ b. bits_of (8 * done) (y / 2 ^ 8) ++ bits_of 8 b) is
    ∙ ap (λ t. bits_of (8 * done) (y / 2 ^ 8) ++ t) (bits_of-mod 8 8 y (omega arith)) ∙ sym (bits_of-append (8 * done) 8 y)
    ∙ ap (λ n. bits_of n y) (let e : 8 * done + 8 ≡ 8 * (done + 1) = omega arith in e)

-- ---- the whole

-- a frame's first level is dominant
first_level : (f : Parts) → unstuffed f ≡ Dominant ∷ drop 1 (unstuffed f)
unfolding unstuffed head
first_level f = refl

filled_frame : (f : Parts) (n : ℕ) → n < 8 → stuffed_from Recessive 1 (bits_of n 0x55 ++ unstuffed f) ≡ bits_of n 0x55 ++ stuffed_part f
unfolding stuffed_part
filled_frame f n h =
    ap (λ u. stuffed_from Recessive 1 (bits_of n 0x55 ++ u)) (first_level f) ∙ filled n (drop 1 (unstuffed f)) h ∙ ap (λ u. bits_of n 0x55 ++ stuffed u) (sym (first_level f))

-- the digits after the filling levels, with the ten of the tail, are those of what the transmitter drives
module _ (f : Parts) (count number : ℕ) (levels : bits_of count number ≡ unstuffed f) (small : number < 2 ^ count) (few : count ≤ 118) where
  abbrev fill : ℕ
  fill = (8 - count % 8) % 8

  abbrev front : List Level
  front = bits_of fill 0x55

  abbrev code : ℕ
  code = 85 % (1 * 2 ^ fill % 2 ^ 128) * 2 ^ count % 2 ^ 128 + number

  length-stuffed_part : 4 * length (stuffed_part f) ≤ 5 * count
  unfolding stuffed_part
  length-stuffed_part = omega (arith, length-stuffed (unstuffed f), ap length levels, length-bits_of count number)

  code_bits : bits_of (8 * ((fill + count) / 8)) code ≡ front ++ unstuffed f
  code_bits =
      let whole : 8 * ((fill + count) / 8) ≡ fill + count = omega arith in
      ap (λ n. bits_of n code) whole
      ∙ bits_of-moved 128 fill count (85 % (1 * 2 ^ fill % 2 ^ 128)) number (omega (arith, few)) small
      ∙ ap (λ m. bits_of fill (85 % m) ++ bits_of count number) (one_shl fill 128 (omega arith))
      ∙ ap (λ t. t ++ bits_of count number) (bits_of-mod fill fill 85 (omega arith)) ∙ ap (λ t. front ++ t) levels

  module _ (put : List ℕ) (end : ℕ) (digits : take end put ≡ map digit_of (stuffed_from Recessive 1 (bits_of (8 * ((fill + count) / 8)) code))) (size : length (take end put) ≡ end) where
    digits_are : take end put ≡ map digit_of front ++ map digit_of (stuffed_part f)
    digits_are =
        digits ∙ ap (λ u. map digit_of (stuffed_from Recessive 1 u)) code_bits ∙ ap (map digit_of) (filled_frame f fill (omega arith)) ∙ map-append digit_of front (stuffed_part f)

    front_size : length (map digit_of front) ≡ fill
    front_size = length-map front digit_of ∙ length-bits_of fill 0x55

    pub driven_few : end + 10 ≤ fill + 157
    driven_few =
        omega (arith, size, ap length digits_are, length-append (map digit_of front) (map digit_of (stuffed_part f)), front_size, length-map (stuffed_part f) digit_of, length-stuffed_part, few)

    pub driven_range : (ten behind : List ℕ) → ten ≡ replicate 10 49 → slice_range (take end put ++ (ten ++ behind)) fill (end + 10) ≡ map digit_of (driven f)
    driven_range ten behind ten_are =
        let own = map digit_of (stuffed_part f) in
        let all : take end put ++ (ten ++ behind) ≡ map digit_of front ++ (own ++ (ten ++ behind)) = ap (λ t. t ++ (ten ++ behind)) digits_are ∙ append_assoc (map digit_of front) own (ten ++ behind) in
        let length_is : length own + 10 ≡ end + 10 - fill = omega (arith, size, ap length digits_are, length-append (map digit_of front) own, front_size) in
        let ten_size : length ten ≡ 10 = ap length ten_are in
        ap (λ t. take (end + 10 - fill) (drop fill t)) all ∙ ap (take (end + 10 - fill)) (drop_at (map digit_of front) (own ++ (ten ++ behind)) fill front_size)
        ∙ ap (λ t. take (end + 10 - fill) t) (sym (append_assoc own ten behind))
        ∙ take_at (own ++ ten) behind (end + 10 - fill) (omega (arith, length-append own ten, ten_size, length_is))
        ∙ ap (λ t. own ++ t) ten_are ∙ sym (map-append digit_of (stuffed_part f) (tail Recessive Recessive))
