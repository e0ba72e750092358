-- The fields of a frame, read from its levels.
use Rattle.std.proofs.Common.{◌≡◌, ℕ, ◌+◌, ◌-◌, ◌*◌, ◌^◌, ◌<◌, ◌≤◌, Bool, true, false, cond, Option, Some, None, List, [], ◌∷◌, ◌++◌, length, take, drop, get_or, refl, sym, subst, ◌∙◌, ap, arith, append-nil, length-append}
use Rattle.std.proofs.lemmas.List.{get_or-drop, get_or_past, drop-drop, take_all, take_at, drop_all, drop_at}
use Rattle.can_frame.specs.declared.level.Level.{Level}
use Rattle.can_frame.specs.declared.level.Level.TheVariants.{Dominant}
use Rattle.can_frame.specs.Levels.{is_recessive, number_from}
use Rattle.can_frame.specs.Parts.{Parts, IsFrame, byte_count}
use Rattle.can_frame.specs.Stored.{byte_count_le}
use Rattle.can_frame.proofs.LevelLemmas.{number_from-append, number_from-split}
use Rattle.can_wire.specs.Wire.{head}
use Rattle.can_wire.specs.Layout.{level_at, filled, levels_at, extended_of, rtr_place, data_place, remote_of, dlc_of, identifier_of, bytes_from, frame_of}
use Rattle.can_wire.proofs.LayoutPlaces.{length-filled}
use Rattle.can_wire.proofs.LayoutBytes.{length-bytes_from}
use Rattle.can_wire.proofs.LayoutRead.{frame_of-head}
use Rattle.can_terms.specs.declared.event.Event.{Event}
use Rattle.can_terms.specs.declared.event.Event.TheVariants.{Sent, Received, Lost, Error, Overload, WentOff, Recovered}
use Rattle.can_mac.specs.declared.phase.Role.TheVariants.{Receiver, Sender}
use Rattle.can_mac.specs.State.{MacState, IsRole}
use Rattle.can_gates.specs.declared.literal.Literal.{Literal}
use Rattle.can_gates.specs.Circuit.{value, never}
use Rattle.can_gates.specs.Words.{number}
use Rattle.can_gates.proofs.WordNumbers.{number-lt}
use Rattle.can_gates_mac.specs.declared.nibble.Nibble.{Nibble}
use Rattle.can_gates_mac.specs.Nibbles.{nibble}
use Rattle.can_gates_mac.specs.Numbers.{is_sender}
use Rattle.can_gates_controller.specs.declared.fields.Fields.{Fields}
use Rattle.can_gates_controller.specs.declared.registers.Registers.{Registers}
use Rattle.can_gates_controller.specs.Fronts.{HoldsLevels}
use Rattle.can_gates_controller.specs.Following.{IsEventIn}
use Rattle.can_gates_controller.specs.Whole.{HoldsAll}
use Rattle.can_gates_controller.specs.Fields.{identifier_places, bytes_in, frame_in, HoldsFields, frame_told}
use Rattle.can_gates_controller.specs.Laying.{turned_word, turned_bytes, long_list, short_list, IsCleared}
use Rattle.can_gates_controller.proofs.ListPlaces.{left_at, right_at}
use Rattle.can_gates_controller.proofs.WordParts.{number-split}
use Rattle.can_gates_controller.proofs.TurnedLevels.{levels_in, length-turned, turned_at, number_turned, bytes_turned, filled_same, bytes_from_same, levels_behind}

-- a frame is that of its own levels
pub own_frame_of : (f : Parts) → IsFrame f → frame_of (head f) ≡ f
own_frame_of f is = ap frame_of (sym (append-nil (head f))) ∙ frame_of-head f [] is

-- the levels of a frame from its RTR bit on
abbrev from_rtr : List Level → List Level
from_rtr u = drop (rtr_place (extended_of u)) u

parts : ℕ → Bool → Bool → ℕ → List ℕ → Parts
parts raw extended remote dlc bytes = record { id = record { raw = raw; extended = extended }; remote = remote; dlc = dlc; bytes = bytes }

same_parts : (raw raw' : ℕ) (e e' r r' : Bool) (dlc dlc' : ℕ) (bytes bytes' : List ℕ) → raw ≡ raw' → e ≡ e' → r ≡ r' → dlc ≡ dlc' → bytes ≡ bytes' → parts raw e r dlc bytes ≡ parts raw' e' r' dlc' bytes'
same_parts raw raw' e e' r r' dlc dlc' bytes bytes' p q s t u = cc

module _ (v : ℕ → Bool) (zero_is : v 0 ≡ false) where
  -- a number of levels, from their literals in the other order
  number_behind : (items : List Literal) (u : List Level) (s n : ℕ) → ((p : ℕ) → p < n → value v (get_or items (s + p) never) ≡ is_recessive (level_at u (s + p))) → number v (turned_word n (drop s items)) ≡ number_from 0 (levels_at u s n)
  number_behind items u s n is = number_turned v zero_is n (drop s items) ∙ ap (number_from 0) (filled_same n (levels_in v (drop s items)) (drop s u) (λ p h. levels_behind v zero_is items u s p (is p h)))

  -- the identifier

  long_word : (word : List Literal) (x : ℕ) → length word ≡ 29 → number v word ≡ x → (number v (take 29 word) ≡ x) × (number v (drop 29 word) ≡ 0)
  long_word word x long is = (ap (number v) (take_all 29 word (omega (arith, long))) ∙ is, ap (number v) (drop_all 29 word (omega (arith, long))))

  short_word : (word : List Literal) (x : ℕ) → number v word ≡ x → x < 2 ^ 11 → (number v (take 11 word) ≡ x) × (number v (drop 11 word) ≡ 0)
  short_word word x is small =
      let parts = number-split v 11 word in
      let low : number v (take 11 word) ≡ x = omega (arith, parts, is, small) in
      let high : number v (drop 11 word) ≡ 0 = omega (arith, parts, is, small) in
      (low, high)

  number_both : (a b : List Literal) → length a ≡ 18 → number v (a ++ b) ≡ number v a + 2 ^ 18 * number v b
  number_both a b long = number-split v 18 (a ++ b) ∙ rw (take_at a b 18 long, drop_at a b 18 long) refl

  turned_sum : (m n : ℕ) → m + 2 ^ 18 * n ≡ n * 2 ^ 18 + m
  turned_sum m n = omega arith

  both_parts : (levels : List Literal) (u : List Level) → HoldsLevels v levels u → number v (turned_word 18 (drop 14 levels) ++ turned_word 11 (drop 1 levels)) ≡ number_from 0 (levels_at u 1 11 ++ levels_at u 14 18)
  both_parts levels u held =
      let lower = number_from 0 (levels_at u 14 18) in
      let upper = number_from 0 (levels_at u 1 11) in
      let lower_is : number v (turned_word 18 (drop 14 levels)) ≡ lower = number_behind levels u 14 18 (λ p h. held (14 + p) (omega (arith, h))) in
      let upper_is : number v (turned_word 11 (drop 1 levels)) ≡ upper = number_behind levels u 1 11 (λ p h. held (1 + p) (omega (arith, h))) in
      let whole : number_from 0 (levels_at u 1 11 ++ levels_at u 14 18) ≡ upper * 2 ^ 18 + lower =
      number_from-append 0 (levels_at u 1 11) (levels_at u 14 18) ∙ number_from-split upper (levels_at u 14 18) ∙ ap (λ n. upper * 2 ^ n + lower) (length-filled 18 (drop 14 u)) in
      number_both (turned_word 18 (drop 14 levels)) (turned_word 11 (drop 1 levels)) (length-turned 18 (drop 14 levels))
      ∙ ap (λ m. m + 2 ^ 18 * number v (turned_word 11 (drop 1 levels))) lower_is
      ∙ ap (λ n. lower + 2 ^ 18 * n) upper_is
      ∙ turned_sum lower upper
      ∙ sym whole

  identifier_told : (levels word : List Literal) (u : List Level) (e : Bool) → HoldsLevels v levels u → length word ≡ 29 → number v word ≡ cond e (number v (turned_word 18 (drop 14 levels) ++ turned_word 11 (drop 1 levels))) (number v (turned_word 11 (drop 1 levels))) → (number v (take (identifier_places e) word) ≡ number_from 0 (cond e (levels_at u 1 11 ++ levels_at u 14 18) (levels_at u 1 11))) × (number v (drop (identifier_places e) word) ≡ 0)
  identifier_told levels word u true held long is = long_word word (number_from 0 (levels_at u 1 11 ++ levels_at u 14 18)) long (is ∙ both_parts levels u held)
  identifier_told levels word u false held long is =
      let x = number v (turned_word 11 (drop 1 levels)) in
      let small : x < 2 ^ 11 = subst (λ n. x < 2 ^ n) (length-turned 11 (drop 1 levels)) (number-lt v (turned_word 11 (drop 1 levels))) in
      let parts = short_word word x is small in
      (parts.0 ∙ number_behind levels u 1 11 (λ p h. held (1 + p) (omega (arith, h))), parts.1)

  -- what follows it, in both formats

  behind_told : (levels behind : List Literal) (u : List Level) (e : Bool) → HoldsLevels v levels u → ((p : ℕ) → p < 71 → value v (get_or behind p never) ≡ cond e (value v (get_or (drop 32 levels) p never)) (value v (get_or (drop 12 levels) p never))) → (p : ℕ) → p < 71 → value v (get_or behind p never) ≡ is_recessive (level_at (drop (rtr_place e) u) p)
  behind_told levels behind u true held chosen p h = chosen p h ∙ ap (value v) (get_or-drop 32 levels p never) ∙ held (32 + p) (omega (arith, h)) ∙ ap is_recessive (sym (get_or-drop 32 u p Dominant))
  behind_told levels behind u false held chosen p h = chosen p h ∙ ap (value v) (get_or-drop 12 levels p never) ∙ held (12 + p) (omega (arith, h)) ∙ ap is_recessive (sym (get_or-drop 12 u p Dominant))

  dlc_told : (behind : List Literal) (w : List Level) → ((p : ℕ) → p < 71 → value v (get_or behind p never) ≡ is_recessive (level_at w p)) → (n : Nibble) → n.ones ≡ get_or behind 6 never → n.twos ≡ get_or behind 5 never → n.fours ≡ get_or behind 4 never → n.eights ≡ get_or behind 3 never → nibble v n ≡ number_from 0 (levels_at w 3 4)
  unfolding nibble turned_word
  dlc_told behind w held n ones twos fours eights =
      let at : (p : ℕ) → get_or (drop 3 behind) p never ≡ get_or behind (3 + p) never = λ p. get_or-drop 3 behind p never in
      let word : number v (n.ones ∷ n.twos ∷ n.fours ∷ n.eights ∷ []) ≡ number v (turned_word 4 (drop 3 behind)) = rw (ones ∙ sym (at 3), twos ∙ sym (at 2), fours ∙ sym (at 1), eights ∙ sym (at 0)) refl in
      word ∙ number_behind behind w 3 4 (λ p h. held (3 + p) (omega (arith, h)))

  bytes_told : (behind : List Literal) (w : List Level) → ((p : ℕ) → p < 71 → value v (get_or behind p never) ≡ is_recessive (level_at w p)) → (n : ℕ) → n ≤ 8 → bytes_in v n (turned_bytes 8 (drop 7 behind)) ≡ bytes_from n (drop 7 w)
  bytes_told behind w held n few =
      bytes_turned v zero_is n 8 (drop 7 behind) few ∙ bytes_from_same n (levels_in v (drop 7 behind)) (drop 7 w) (λ p h. levels_behind v zero_is behind w 7 p (held (7 + p) (omega (arith, h, few))))

  -- all fields
  pub fields_told : (k : Fields) (levels behind word : List Literal) (u : List Level) → HoldsLevels v levels u → k.extended ≡ get_or levels 13 never → length k.identifier ≡ 29
      → number v k.identifier ≡ cond (value v k.extended) (number v (turned_word 18 (drop 14 levels) ++ turned_word 11 (drop 1 levels))) (number v (turned_word 11 (drop 1 levels)))
      → ((p : ℕ) → p < 71 → value v (get_or behind p never) ≡ cond (value v k.extended) (value v (get_or (drop 32 levels) p never)) (value v (get_or (drop 12 levels) p never)))
      → k.remote ≡ get_or behind 0 never → k.dlc.ones ≡ get_or behind 6 never → k.dlc.twos ≡ get_or behind 5 never → k.dlc.fours ≡ get_or behind 4 never → k.dlc.eights ≡ get_or behind 3 never
      → word ≡ turned_bytes 8 (drop 7 behind) → IsCleared v k.bytes word (byte_count (value v k.remote) (nibble v k.dlc)) → HoldsFields v k (frame_of u)
  unfolding frame_in frame_of parts
  fields_told k levels behind word u held format long identifier chosen is_remote ones twos fours eights word_is cleared =
      let e = extended_of u in
      let place = rtr_place e in
      let w = from_rtr u in
      let extended : value v k.extended ≡ e = ap (value v) format ∙ held 13 (omega arith) in
      let id = identifier_told levels k.identifier u e held long (rw extended at identifier) in
      let at = behind_told levels behind u e held (rw extended at chosen) in
      let first : level_at w 0 ≡ level_at u place = let same : place + 0 ≡ place = omega arith in get_or-drop place u 0 Dominant ∙ ap (level_at u) same in
      let remote : value v k.remote ≡ remote_of u = ap (value v) is_remote ∙ at 0 (omega arith) ∙ ap is_recessive first in
      let dlc : nibble v k.dlc ≡ dlc_of u = dlc_told behind w at k.dlc ones twos fours eights ∙ ap (λ t. number_from 0 (filled 4 t)) (drop-drop 3 place u) in
      let count : byte_count (value v k.remote) (nibble v k.dlc) ≡ byte_count (remote_of u) (dlc_of u) = rw (remote, dlc) refl in
      let n = byte_count (remote_of u) (dlc_of u) in
      let clear : IsCleared v k.bytes word n = rw count at cleared in
      let bytes : bytes_in v n k.bytes ≡ bytes_from n (drop (data_place e) u) = clear.bytes ∙ ap (bytes_in v n) word_is ∙ bytes_told behind w at n (byte_count_le (remote_of u) (dlc_of u)) ∙ ap (bytes_from n) (drop-drop 7 place u) in
      let counted : length (bytes_from n (drop (data_place e) u)) ≡ n = length-bytes_from n (drop (data_place e) u) in
      record {
        frame = same_parts (number v (take (identifier_places (value v k.extended)) k.identifier)) (number_from 0 (identifier_of u)) (value v k.extended) e (value v k.remote) (remote_of u) (nibble v k.dlc) (dlc_of u) (bytes_in v (byte_count (value v k.remote) (nibble v k.dlc)) k.bytes) (bytes_from n (drop (data_place e) u))
            (ap (λ b. number v (take (identifier_places b) k.identifier)) extended ∙ id.0) extended remote dlc (ap (λ m. bytes_in v m k.bytes) count ∙ bytes);
        identifier = id.1;
        bytes = ap (λ m. number v (drop (8 * m) k.bytes)) counted ∙ clear.behind;
      }

-- The frame of an event.

module _ (v : ℕ → Bool) (k : Registers) (m : MacState) (levels : List Literal) where
  of_sender : (t : Bool) (f : Parts) → t ≡ is_sender (Sender f) → HoldsLevels v k.own (head f) → ((p : ℕ) → p < 103 → value v (get_or levels p never) ≡ cond t (value v (get_or k.own p never)) (value v (get_or k.heard.levels p never))) → HoldsLevels v levels (head f)
  of_sender true f e held chosen = λ p h. chosen p h ∙ held p h
  of_sender false f e held chosen = cc e

  of_receiver : (t : Bool) (u : List Level) → t ≡ is_sender Receiver → HoldsLevels v k.heard.levels u → ((p : ℕ) → p < 103 → value v (get_or levels p never) ≡ cond t (value v (get_or k.own p never)) (value v (get_or k.heard.levels p never))) → HoldsLevels v levels u
  of_receiver true u e held chosen = cc e
  of_receiver false u e held chosen = λ p h. chosen p h ∙ held p h

  -- its levels are those of the sender's registers, or of the receiver's
  pub told_levels : (e : Option Event) (f : Parts) → HoldsAll v k m → IsEventIn m.phase m.role e → frame_told e ≡ Some f → ((p : ℕ) → p < 103 → value v (get_or levels p never) ≡ cond (value v k.controller.wires.sender) (value v (get_or k.own p never)) (value v (get_or k.heard.levels p never))) → (u : List Level) × ((frame_of u ≡ f) × HoldsLevels v levels u)
  told_levels None f held told e chosen = cc e
  told_levels (Some (Sent g)) f held told e chosen =
      let same : g ≡ f = cc e in
      (head g, (own_frame_of g (subst IsRole told.1 held.is.role) ∙ same, of_sender (value v k.controller.wires.sender) g (held.controller.sender ∙ ap is_sender told.1) (held.own.levels g told.0 told.1) chosen))
  told_levels (Some (Received g)) f held told e chosen =
      let same : g ≡ f = cc e in
      let here = held.heard.told told.1.0 told.1.1.0 in
      (here.unstuffed, (sym (told.1.1.1 ∙ ap (λ q. q.frame) here.told) ∙ same, of_receiver (value v k.controller.wires.sender) here.unstuffed (held.controller.sender ∙ ap is_sender told.0) here.levels chosen))
  told_levels (Some Lost) f held told e chosen = cc e
  told_levels (Some (Error kind)) f held told e chosen = cc e
  told_levels (Some Overload) f held told e chosen = cc e
  told_levels (Some WentOff) f held told e chosen = cc e
  told_levels (Some Recovered) f held told e chosen = cc e

-- The identifier's bits, place by place.

module _ (levels : List Literal) where
  turned_level : (n s p : ℕ) → p < n → get_or levels (s + (n - 1 - p)) never ≡ get_or (turned_word n (drop s levels)) p never
  turned_level n s p h = sym (turned_at n (drop s levels) p h ∙ get_or-drop s levels (n - 1 - p) never)

  pub short_at : (p : ℕ) → p < 11 → get_or levels (11 - p) never ≡ get_or (short_list levels) p never
  short_at p h = let e : 11 - p ≡ 1 + (11 - 1 - p) = omega (arith, h) in ap (λ q. get_or levels q never) e ∙ turned_level 11 1 p h

  pub short_past : (p : ℕ) → 11 ≤ p → never ≡ get_or (short_list levels) p never
  short_past p h = sym (get_or_past (short_list levels) p never (omega (arith, h, length-turned 11 (drop 1 levels))))

  pub long_lower : (p : ℕ) → p < 18 → get_or levels (31 - p) never ≡ get_or (long_list levels) p never
  long_lower p h =
      let e : 31 - p ≡ 14 + (18 - 1 - p) = omega (arith, h) in
      ap (λ q. get_or levels q never) e ∙ turned_level 18 14 p h ∙ left_at (turned_word 18 (drop 14 levels)) (turned_word 11 (drop 1 levels)) 18 p (length-turned 18 (drop 14 levels)) h

  pub long_upper : (p : ℕ) → 18 ≤ p → p < 29 → get_or levels (29 - p) never ≡ get_or (long_list levels) p never
  long_upper p low h =
      let e : 29 - p ≡ 1 + (11 - 1 - (p - 18)) = omega (arith, low, h) in
      ap (λ q. get_or levels q never) e
      ∙ turned_level 11 1 (p - 18) (omega (arith, low, h))
      ∙ right_at (turned_word 18 (drop 14 levels)) (turned_word 11 (drop 1 levels)) 18 p (length-turned 18 (drop 14 levels)) low

  pub length-short : length (short_list levels) ≡ 11
  length-short = length-turned 11 (drop 1 levels)

  pub length-long : length (long_list levels) ≡ 29
  length-long = length-append (turned_word 18 (drop 14 levels)) (turned_word 11 (drop 1 levels)) ∙ rw (length-turned 18 (drop 14 levels), length-turned 11 (drop 1 levels)) refl
