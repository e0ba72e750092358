-- The levels of a frame, laid out from its fields.
use Rattle.std.proofs.Common.{◌≡◌, ℕ, suc, zero, ◌+◌, ◌-◌, ◌*◌, ◌/◌, ◌^◌, ◌<◌, ◌≤◌, Bool, true, false, cond, List, [], ◌∷◌, ◌++◌, take, drop, get_or, replicate, refl, sym, ◌∙◌, ap, arith, append_assoc}
use Rattle.std.specs.List.{flat_map}
use Rattle.std.proofs.lemmas.List.{map-append, take-take, drop-take, get_or-drop}
use Rattle.can_frame.specs.declared.level.Level.{Level}
use Rattle.can_frame.specs.declared.level.Level.TheVariants.{Dominant, Recessive}
use Rattle.can_frame.specs.Levels.{is_recessive, level_from, bits_of}
use Rattle.can_frame.specs.Parts.{Parts, byte_count}
use Rattle.can_frame.specs.Stored.{byte_count_le}
use Rattle.can_frame.specs.Arbitration.{arbitration_field}
use Rattle.can_frame.proofs.LevelLemmas.{bits_of-low}
use Rattle.can_wire.specs.Wire.{head}
use Rattle.can_wire.specs.Layout.{level_at}
use Rattle.can_wire.proofs.LayoutPlaces.{level_at-dominant}
use Rattle.can_gates.specs.declared.literal.Literal.{Literal}
use Rattle.can_gates.specs.Circuit.{value, never, always}
use Rattle.can_gates.specs.Words.{number}
use Rattle.can_gates.proofs.Constants.{value-never, value-always}
use Rattle.can_gates.proofs.WordNumbers.{number-take-lt}
use Rattle.can_gates_mac.specs.declared.nibble.Nibble.{Nibble}
use Rattle.can_gates_mac.specs.Nibbles.{nibble}
use Rattle.can_gates_controller.specs.declared.fields.Fields.{Fields}
use Rattle.can_gates_controller.specs.Fronts.{HoldsLevels}
use Rattle.can_gates_controller.specs.Fields.{identifier_places, bytes_in, frame_in}
use Rattle.can_gates_controller.specs.Laying.{turned_word, turned_bytes, IsCleared, behind_list, standard_list, extended_list}
use Rattle.can_gates_controller.proofs.WordParts.{number-split}
use Rattle.can_gates_controller.proofs.ListPlaces.{left_at, right_at}
use Rattle.can_gates_controller.proofs.TurnedLevels.{literal_level, levels_in, level_in, levels_turned, levels_turned_bytes, length-turned, turned_at}
use Rattle.can_gates_controller.proofs.Cleared.{cleared_levels}
use Rattle.can_wire.proofs.LayoutRead.{bit_back}

abbrev frame_from : ℕ → Bool → Bool → ℕ → List ℕ → Parts
frame_from raw extended remote dlc bytes = record { id = record { raw = raw; extended = extended }; remote = remote; dlc = dlc; bytes = bytes }

-- what follows the identifier: RTR, in a standard frame IDE and r0, in an extended one r1 and r0, and the same of both
abbrev behind_levels : Bool → ℕ → List Level → List Level
behind_levels remote dlc rest = level_from remote ∷ Dominant ∷ Dominant ∷ (bits_of 4 dlc ++ rest)

head-standard : (raw : ℕ) (remote : Bool) (dlc : ℕ) (bytes : List ℕ) (rest : List Level) → Dominant ∷ (bits_of 11 raw ++ behind_levels remote dlc (flat_map (bits_of 8) bytes ++ rest)) ≡ head (frame_from raw false remote dlc bytes) ++ rest
unfolding head arbitration_field
head-standard raw remote dlc bytes rest = simp append_assoc

head-extended : (raw : ℕ) (remote : Bool) (dlc : ℕ) (bytes : List ℕ) (rest : List Level) → Dominant ∷ (bits_of 11 (raw / 2 ^ 18) ++ Recessive ∷ Recessive ∷ (bits_of 18 raw ++ behind_levels remote dlc (flat_map (bits_of 8) bytes ++ rest))) ≡ head (frame_from raw true remote dlc bytes) ++ rest
unfolding head arbitration_field
head-extended raw remote dlc bytes rest = simp append_assoc

-- an extended identifier, in two parts

upper_identifier : (v : ℕ → Bool) (word : List Literal) → number v (take 11 (drop 18 word)) ≡ number v (take 29 word) / 2 ^ 18
upper_identifier v word =
    let parts = number-split v 18 (take 29 word) in
    let low : take 18 (take 29 word) ≡ take 18 word = take-take 18 29 word (omega arith) in
    let high : drop 18 (take 29 word) ≡ take 11 (drop 18 word) = drop-take 18 11 word in
    let sum : number v (take 29 word) ≡ number v (take 18 word) + 2 ^ 18 * number v (take 11 (drop 18 word)) = rw (low, high) at parts in
    omega (arith, sum, number-take-lt v word 18)

lower_identifier : (v : ℕ → Bool) (word : List Literal) → bits_of 18 (number v (take 18 word)) ≡ bits_of 18 (number v (take 29 word))
lower_identifier v word =
    let parts = number-split v 18 (take 29 word) in
    let low : take 18 (take 29 word) ≡ take 18 word = take-take 18 29 word (omega arith) in
    let high = number v (drop 18 (take 29 word)) in
    let sum : number v (take 29 word) ≡ high * 2 ^ 18 + number v (take 18 word) = rw low at parts ∙ omega arith in
    sym (ap (bits_of 18) sum ∙ bits_of-low 18 high (number v (take 18 word)))

module _ (v : ℕ → Bool) (zero_is : v 0 ≡ false) where
  low_level : level_from (value v never) ≡ Dominant
  low_level = ap level_from (value-never v zero_is)

  high_level : level_from (value v always) ≡ Recessive
  high_level = ap level_from (value-always v zero_is)

  behind_is : (remote : Literal) (dlc : Nibble) (bytes : List Literal) (rest : List Level) → levels_in v bytes ≡ rest → levels_in v (remote ∷ never ∷ never ∷ dlc.eights ∷ dlc.fours ∷ dlc.twos ∷ dlc.ones ∷ bytes) ≡ behind_levels (value v remote) (nibble v dlc) rest
  unfolding nibble turned_word
  behind_is remote dlc bytes rest is =
      let first = level_from (value v remote) in
      let four = levels_in v (dlc.eights ∷ dlc.fours ∷ dlc.twos ∷ dlc.ones ∷ []) in
      let four_is : four ≡ bits_of 4 (nibble v dlc) = levels_turned v zero_is 4 (dlc.ones ∷ dlc.twos ∷ dlc.fours ∷ dlc.eights ∷ []) in
      ap (λ t. first ∷ t ∷ t ∷ (four ++ levels_in v bytes)) low_level ∙ ap (λ t. first ∷ Dominant ∷ Dominant ∷ (t ++ levels_in v bytes)) four_is ∙ ap (λ t. first ∷ Dominant ∷ Dominant ∷ (bits_of 4 (nibble v dlc) ++ t)) is

  standard_is : (first behind : List Literal) (raw : ℕ) (remote : Bool) (dlc : ℕ) (bytes : List ℕ) (past : List Level) → levels_in v first ≡ bits_of 11 raw → levels_in v behind ≡ behind_levels remote dlc (flat_map (bits_of 8) bytes ++ past)
      → levels_in v (never ∷ (first ++ behind)) ≡ head (frame_from raw false remote dlc bytes) ++ past
  standard_is first behind raw remote dlc bytes past first_is behind_is =
      let low = level_from (value v never) in
      ap (λ t. low ∷ t) (map-append (literal_level v) first behind)
      ∙ ap (λ t. t ∷ (levels_in v first ++ levels_in v behind)) low_level
      ∙ ap (λ t. Dominant ∷ (t ++ levels_in v behind)) first_is
      ∙ ap (λ t. Dominant ∷ (bits_of 11 raw ++ t)) behind_is
      ∙ head-standard raw remote dlc bytes past

  extended_is : (first other behind : List Literal) (raw : ℕ) (remote : Bool) (dlc : ℕ) (bytes : List ℕ) (past : List Level) → levels_in v first ≡ bits_of 11 (raw / 2 ^ 18) → levels_in v other ≡ bits_of 18 raw → levels_in v behind ≡ behind_levels remote dlc (flat_map (bits_of 8) bytes ++ past)
      → levels_in v (never ∷ (first ++ always ∷ always ∷ (other ++ behind))) ≡ head (frame_from raw true remote dlc bytes) ++ past
  extended_is first other behind raw remote dlc bytes past first_is other_is behind_is =
      let low = level_from (value v never) in
      let high = level_from (value v always) in
      ap (λ t. low ∷ t) (map-append (literal_level v) first (always ∷ always ∷ (other ++ behind)))
      ∙ ap (λ t. low ∷ (levels_in v first ++ high ∷ high ∷ t)) (map-append (literal_level v) other behind)
      ∙ ap (λ t. t ∷ (levels_in v first ++ high ∷ high ∷ (levels_in v other ++ levels_in v behind))) low_level
      ∙ ap (λ t. Dominant ∷ (levels_in v first ++ t ∷ t ∷ (levels_in v other ++ levels_in v behind))) high_level
      ∙ ap (λ t. Dominant ∷ (t ++ Recessive ∷ Recessive ∷ (levels_in v other ++ levels_in v behind))) first_is
      ∙ ap (λ t. Dominant ∷ (bits_of 11 (raw / 2 ^ 18) ++ Recessive ∷ Recessive ∷ (t ++ levels_in v behind))) other_is
      ∙ ap (λ t. Dominant ∷ (bits_of 11 (raw / 2 ^ 18) ++ Recessive ∷ Recessive ∷ (bits_of 18 raw ++ t))) behind_is
      ∙ head-extended raw remote dlc bytes past

  -- literals whose levels are these, and then dominant ones
  holds_of : (items : List Literal) (u : List Level) (n p : ℕ) → levels_in v items ≡ u ++ replicate n Dominant → value v (get_or items p never) ≡ is_recessive (level_at u p)
  holds_of items u n p is =
      sym (bit_back (value v (get_or items p never))) ∙ ap is_recessive (sym (level_in v zero_is items p) ∙ ap (λ t. level_at t p) is ∙ level_at-dominant u n p)

  -- one of the two formats
  by_format : (e : Bool) (all extended standard : List Literal) (id : List Literal) (remote : Bool) (dlc n : ℕ) (bytes : List ℕ)
      → levels_in v extended ≡ head (frame_from (number v (take 29 id)) true remote dlc bytes) ++ replicate n Dominant
      → levels_in v standard ≡ head (frame_from (number v (take 11 id)) false remote dlc bytes) ++ replicate n Dominant
      → ((p : ℕ) → p < 103 → value v (get_or all p never) ≡ cond e (value v (get_or extended p never)) (value v (get_or standard p never)))
      → HoldsLevels v all (head (frame_from (number v (take (identifier_places e) id)) e remote dlc bytes))
  by_format true all extended standard id remote dlc n bytes long short chosen = λ p h. chosen p h ∙ holds_of extended (head (frame_from (number v (take 29 id)) true remote dlc bytes)) n p long
  by_format false all extended standard id remote dlc n bytes long short chosen = λ p h. chosen p h ∙ holds_of standard (head (frame_from (number v (take 11 id)) false remote dlc bytes)) n p short

  pub laid_is : (k : Fields) (all word made : List Literal) → IsCleared v made k.bytes (byte_count (value v k.remote) (nibble v k.dlc))
      → word ≡ turned_bytes 8 made
      → ((p : ℕ) → p < 103 → value v (get_or all p never) ≡ cond (value v k.extended) (value v (get_or (extended_list k word) p never)) (value v (get_or (standard_list k word) p never)))
      → HoldsLevels v all (head (frame_in v k))
  unfolding frame_in
  laid_is k all word made cleared word_eq chosen =
      let id = k.identifier in
      let remote = value v k.remote in
      let dlc = nibble v k.dlc in
      let count = byte_count remote dlc in
      let bytes = bytes_in v count k.bytes in
      let past = replicate (8 * (8 - count)) Dominant in
      let word_is = ap (levels_in v) word_eq ∙ levels_turned_bytes v zero_is 8 made ∙ cleared_levels v made k.bytes count cleared (byte_count_le remote dlc) in
      let behind = behind_list k word in
      let rest = behind_is k.remote k.dlc word (flat_map (bits_of 8) bytes ++ past) word_is in
      let short = standard_is (turned_word 11 id) behind (number v (take 11 id)) remote dlc bytes past (levels_turned v zero_is 11 id) rest in
      let long = extended_is (turned_word 11 (drop 18 id)) (turned_word 18 id) behind (number v (take 29 id)) remote dlc bytes past (levels_turned v zero_is 11 (drop 18 id) ∙ ap (bits_of 11) (upper_identifier v id)) (levels_turned v zero_is 18 id ∙ lower_identifier v id) rest in
      by_format (value v k.extended) all (extended_list k word) (standard_list k word) id remote dlc (8 * (8 - count)) bytes long short chosen

-- The levels place by place.

module _ (k : Fields) (word : List Literal) where
  -- an index of the first n literals after the start of frame, in reverse order
  identifier_level : (n : ℕ) (items rest : List Literal) (p : ℕ) → 1 ≤ p → p < 1 + n → get_or items (n - p) never ≡ get_or (never ∷ (turned_word n items ++ rest)) p never
  identifier_level n items rest zero low h = absurd (omega (arith, low))
  identifier_level n items rest (suc p) low h =
      let e : n - suc p ≡ n - 1 - p = omega arith in
      ap (λ q. get_or items q never) e ∙ sym (turned_at n items p (omega (arith, h))) ∙ left_at (turned_word n items) rest n p (length-turned n items) (omega (arith, h))

  behind_identifier : (n : ℕ) (items rest : List Literal) (p : ℕ) → 1 + n ≤ p → get_or rest (p - (1 + n)) never ≡ get_or (never ∷ (turned_word n items ++ rest)) p never
  behind_identifier n items rest zero low = absurd (omega (arith, low))
  behind_identifier n items rest (suc p) low =
      let e : suc p - (1 + n) ≡ p - n = omega arith in
      ap (λ q. get_or rest q never) e ∙ right_at (turned_word n items) rest n p (length-turned n items) (omega (arith, low))

  pub standard_identifier : (p : ℕ) → 1 ≤ p → p < 12 → get_or k.identifier (11 - p) never ≡ get_or (standard_list k word) p never
  standard_identifier p low h = identifier_level 11 k.identifier (behind_list k word) p low h

  pub standard_behind : (p : ℕ) → 12 ≤ p → get_or (behind_list k word) (p - 12) never ≡ get_or (standard_list k word) p never
  standard_behind p low = behind_identifier 11 k.identifier (behind_list k word) p low

  abbrev behind_upper : List Literal
  behind_upper = always ∷ always ∷ (turned_word 18 k.identifier ++ behind_list k word)

  pub extended_upper : (p : ℕ) → 1 ≤ p → p < 12 → get_or k.identifier (29 - p) never ≡ get_or (extended_list k word) p never
  extended_upper p low h =
      let e : 29 - p ≡ 18 + (11 - p) = omega (arith, h) in
      ap (λ q. get_or k.identifier q never) e ∙ sym (get_or-drop 18 k.identifier (11 - p) never) ∙ identifier_level 11 (drop 18 k.identifier) behind_upper p low h

  -- SRR and IDE
  pub extended_recessive : (p : ℕ) → 12 ≤ p → p < 14 → always ≡ get_or (extended_list k word) p never
  extended_recessive p low h = by (p - 12) (omega (arith, low, h)) ∙ behind_identifier 11 (drop 18 k.identifier) behind_upper p low
    where
      by : (q : ℕ) → q < 2 → always ≡ get_or behind_upper q never
      by zero l = refl
      by (suc zero) l = refl
      by (suc (suc q)) l = absurd (omega (arith, l))

  past_ide : (rest : List Literal) (p : ℕ) → 14 ≤ p → get_or rest (p - 14) never ≡ get_or (always ∷ always ∷ rest) (p - 12) never
  past_ide rest p low =
      let e : p - 14 ≡ p - 12 - 2 = omega arith in
      ap (λ q. get_or rest q never) e ∙ right_at (always ∷ always ∷ []) rest 2 (p - 12) refl (omega (arith, low))

  pub extended_lower : (p : ℕ) → 14 ≤ p → p < 32 → get_or k.identifier (31 - p) never ≡ get_or (extended_list k word) p never
  extended_lower p low h =
      let e : 31 - p ≡ 18 - 1 - (p - 14) = omega (arith, low, h) in
      ap (λ q. get_or k.identifier q never) e
      ∙ sym (turned_at 18 k.identifier (p - 14) (omega (arith, low, h)))
      ∙ left_at (turned_word 18 k.identifier) (behind_list k word) 18 (p - 14) (length-turned 18 k.identifier) (omega (arith, low, h))
      ∙ past_ide (turned_word 18 k.identifier ++ behind_list k word) p low
      ∙ behind_identifier 11 (drop 18 k.identifier) behind_upper p (omega (arith, low))

  pub extended_behind : (p : ℕ) → 32 ≤ p → get_or (behind_list k word) (p - 32) never ≡ get_or (extended_list k word) p never
  extended_behind p low =
      let e : p - 32 ≡ p - 14 - 18 = omega arith in
      ap (λ q. get_or (behind_list k word) q never) e
      ∙ right_at (turned_word 18 k.identifier) (behind_list k word) 18 (p - 14) (length-turned 18 k.identifier) (omega (arith, low))
      ∙ past_ide (turned_word 18 k.identifier ++ behind_list k word) p (omega (arith, low))
      ∙ behind_identifier 11 (drop 18 k.identifier) behind_upper p (omega (arith, low))

  pub behind_first : (p : ℕ) → p < 7 → get_or (k.remote ∷ never ∷ never ∷ k.dlc.eights ∷ k.dlc.fours ∷ k.dlc.twos ∷ k.dlc.ones ∷ []) p never ≡ get_or (behind_list k word) p never
  behind_first p h = left_at (k.remote ∷ never ∷ never ∷ k.dlc.eights ∷ k.dlc.fours ∷ k.dlc.twos ∷ k.dlc.ones ∷ []) word 7 p refl h

  pub behind_bytes : (p : ℕ) → 7 ≤ p → get_or word (p - 7) never ≡ get_or (behind_list k word) p never
  behind_bytes p low = right_at (k.remote ∷ never ∷ never ∷ k.dlc.eights ∷ k.dlc.fours ∷ k.dlc.twos ∷ k.dlc.ones ∷ []) word 7 p refl low
