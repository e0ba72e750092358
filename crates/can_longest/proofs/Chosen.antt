-- The bytes of data that make the wire as long as it is at most.
use Rattle.std.proofs.Common.{◌≡◌, ◌≢◌, ℕ, ◌+◌, ◌*◌, ◌^◌, ◌<◌, ◌≤◌, List, [], ◌∷◌, ◌++◌, length, take, drop, zero, suc, get_or, append_assoc, sym, ◌∙◌, ap, arith, length-append}
use Rattle.std.specs.List.{flat_map}
use Rattle.std.proofs.lemmas.Grind.{flat_map-append}
use Rattle.std.proofs.lemmas.List.{append-nil, length-replicate, length-take-le, length-drop, take-append-drop}
use Rattle.can_frame.specs.declared.level.Level.{Level}
use Rattle.can_frame.specs.declared.level.Level.TheVariants.{Dominant}
use Rattle.can_frame.specs.Levels.{bits_of, number_from}
use Rattle.can_frame.proofs.LevelLemmas.{length-bits_of, number_from-lt}
use Rattle.can_wire.specs.Crc.{xor, crc_of}
use Rattle.can_wire.specs.Stuffing.{stuffed_from}
use Rattle.can_wire.proofs.DivisionLemmas.{none}
use Rattle.can_wire.proofs.LayoutNumbers.{bits_of-number_from}
use Rattle.can_longest.specs.ToCome.{to_come, most}
use Rattle.can_longest.proofs.Greatest.{most-none_longer, most-one_as_long, to_come-behind}
use Rattle.can_longest.proofs.CheckSums.{crc_of-parts, length-added}

-- data of this byte and n more bytes that reach the maximum
abbrev pub Leads : ℕ → Level → ℕ → List Level → ℕ → Type 0
Leads left last run check x = (d : List Level) × (length d ≡ 8 * left) × (to_come last run check (bits_of 8 x ++ d) ≡ most (8 * (left + 1)) last run check)

module _ (left : ℕ) (last : Level) (run : ℕ) (check : List Level) (fifteen : length check ≡ 15) where
  -- some byte does
  pub one_leads : (x : ℕ) × (x < 256) × Leads left last run check x
  one_leads =
      let r = most-one_as_long (8 * (left + 1)) last run check fifteen in
      let d = r.0 in
      let long : 8 ≤ length d = omega (arith, r.1) in
      let first : length (take 8 d) ≡ 8 = length-take-le 8 d long in
      let x = number_from 0 (take 8 d) in
      let small : x < 256 = omega (arith, number_from-lt (take 8 d), ap (λ n. 2 ^ n) first) in
      let again : bits_of 8 x ++ drop 8 d ≡ d = ap (λ t. t ++ drop 8 d) (bits_of-number_from 8 0 (take 8 d) first) ∙ take-append-drop 8 d in
      let size : length (drop 8 d) ≡ 8 * left = omega (arith, length-drop 8 d, r.1) in
      (x, small, (drop 8 d, size, ap (to_come last run check) again ∙ r.2))

  -- the levels of a byte show whether it does
  module _ (x before levels : ℕ) (next : Level) (next_length : ℕ) (after : List Level)
      (behind : (rest : List Level) → before + length (stuffed_from last run (bits_of 8 x ++ rest)) ≡ levels + length (stuffed_from next next_length rest))
      (after_is : after ≡ xor check (crc_of (bits_of 8 x ++ none (8 * left)))) where
    after_fifteen : length after ≡ 15
    after_fifteen = ap length after_is ∙ length-added check (bits_of 8 x ++ none (8 * left)) fifteen

    heard : (d : List Level) → length d ≡ 8 * left → before + to_come last run check (bits_of 8 x ++ d) ≡ levels + to_come next next_length after d
    unfolding to_come
    heard d size =
        let rest = d ++ xor after (crc_of d) in
        let sum : xor check (crc_of (bits_of 8 x ++ none (length d))) ≡ after = ap (λ n. xor check (crc_of (bits_of 8 x ++ none n))) size ∙ sym after_is in
        ap (λ n. before + n) (to_come-behind last run check (bits_of 8 x) d ∙ ap (λ c. length (stuffed_from last run (bits_of 8 x ++ (d ++ xor c (crc_of d))))) sum) ∙ behind rest

    at_most : levels + most (8 * left) next next_length after ≤ before + most (8 * (left + 1)) last run check
    at_most =
        let r = most-one_as_long (8 * left) next next_length after after_fifteen in
        let size : length (bits_of 8 x ++ r.0) ≡ 8 * (left + 1) = omega (arith, length-append (bits_of 8 x) r.0, length-bits_of 8 x, r.1) in
        omega (arith, most-none_longer (8 * (left + 1)) last run check (bits_of 8 x ++ r.0) fifteen size, heard r.0 r.1, r.2)

    pub not_leading : levels + most (8 * left) next next_length after ≢ before + most (8 * (left + 1)) last run check → Leads left last run check x → ⊥
    not_leading other leads =
        let d = leads.0 in
        let less = most-none_longer (8 * left) next next_length after d after_fifteen leads.1 in
        let same : levels + most (8 * left) next next_length after ≡ before + most (8 * (left + 1)) last run check = omega (arith, at_most, less, heard d leads.1, leads.2) in
        other same

-- One more byte after those that were chosen.
pub small_push : (bytes : List ℕ) (x : ℕ) → ((k : ℕ) → get_or bytes k 0 < 256) → x < 256 → (k : ℕ) → get_or (bytes ++ x ∷ []) k 0 < 256
small_push [] x small here zero = here
small_push [] x small here (suc k) = omega arith
small_push (b ∷ bytes) x small here zero = small 0
small_push (b ∷ bytes) x small here (suc k) = small_push bytes x (λ k. small (suc k)) here k

pub data_push : (bytes : List ℕ) (x : ℕ) (d : List Level) → flat_map (bits_of 8) (bytes ++ x ∷ []) ++ d ≡ flat_map (bits_of 8) bytes ++ (bits_of 8 x ++ d)
data_push bytes x d =
    ap (λ t. t ++ d) (flat_map-append (bits_of 8) bytes (x ∷ []) ∙ ap (λ t. flat_map (bits_of 8) bytes ++ t) (append-nil (bits_of 8 x)))
    ∙ append_assoc (flat_map (bits_of 8) bytes) (bits_of 8 x) d

pub check_push : (header : List Level) (bytes : List ℕ) (x left : ℕ)
    → xor (crc_of (header ++ (flat_map (bits_of 8) bytes ++ none (8 * (left + 1))))) (crc_of (bits_of 8 x ++ none (8 * left))) ≡ crc_of (header ++ (flat_map (bits_of 8) (bytes ++ x ∷ []) ++ none (8 * left)))
check_push header bytes x left =
    let chosen = flat_map (bits_of 8) bytes in
    let rest = bits_of 8 x ++ none (8 * left) in
    let size : length rest ≡ 8 * (left + 1) = omega (arith, length-append (bits_of 8 x) (none (8 * left)), length-bits_of 8 x, length-replicate (8 * left) Dominant) in
    ap (λ t. xor (crc_of t) (crc_of rest)) (sym (append_assoc header chosen (none (8 * (left + 1))))) ∙ ap (λ n. xor (crc_of ((header ++ chosen) ++ none n)) (crc_of rest)) (sym size)
    ∙ sym (crc_of-parts (header ++ chosen) rest) ∙ ap crc_of (append_assoc header chosen rest ∙ ap (λ t. header ++ t) (sym (data_push bytes x (none (8 * left)))))
