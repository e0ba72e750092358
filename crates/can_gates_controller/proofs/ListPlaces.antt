-- The indices of lists that follow one another.
use Rattle.can_gates.specs.Circuit.{never}
use Rattle.std.proofs.Common.{◌≡◌, ℕ, ◌-◌, ◌<◌, ◌≤◌, List, [], ◌∷◌, ◌++◌, length, get_or, refl, sym, ◌∙◌, ap, arith, length-append}
use Rattle.std.proofs.lemmas.List.{get_or_append_left, get_or-append_right}
use Rattle.can_gates.specs.declared.literal.Literal.{Literal}
use Rattle.can_gates_mac.specs.declared.registers.Counters.{Counters}
use Rattle.can_gates_controller.specs.declared.heard.Heard.{Heard}
use Rattle.can_gates_controller.specs.declared.registers.Registers.{Registers}
use Rattle.can_gates_controller.specs.declared.fields.Fields.{Fields}
use Rattle.can_gates_controller.specs.declared.ports.OutputPorts.{OutputPorts}
use Rattle.can_gates_controller.specs.Listed.{placed, nibble_before, wires_list, counters_list, heard_list, register_list, field_list, output_list}
use Rattle.can_gates_controller.proofs.ListedLemmas.{length-placed, placed_at, placed_whole, length-counters, length-heard}

-- an index of the first list, of n literals, or of the second one

pub left_at : (a b : List Literal) (n p : ℕ) → length a ≡ n → p < n → get_or a p never ≡ get_or (a ++ b) p never
left_at a b n p long h = sym (get_or_append_left a b never p (omega (arith, long, h)))

pub right_at : (a b : List Literal) (n p : ℕ) → length a ≡ n → n ≤ p → get_or b (p - n) never ≡ get_or (a ++ b) p never
right_at a b n p long h = sym (get_or-append_right a b n p never long h)

-- one of the first n literals of a word, in a list
word_at : (word : List Literal) (n p : ℕ) → p < n → get_or word p never ≡ get_or (placed n word) p never
word_at word n p h = sym (placed_at n word p h)

first_at : (word rest : List Literal) (n p : ℕ) → p < n → get_or word p never ≡ get_or (placed n word ++ rest) p never
first_at word rest n p h = word_at word n p h ∙ left_at (placed n word) rest n p (length-placed n word) h

-- counters

tec_rec : (k : Counters) → length (placed 9 k.tec ++ placed 8 k.rec) ≡ 17
tec_rec k = omega (arith, length-append (placed 9 k.tec) (placed 8 k.rec), length-placed 9 k.tec, length-placed 8 k.rec)

pub tec_at : (k : Counters) (p : ℕ) → p < 9 → get_or k.tec p never ≡ get_or (counters_list k) p never
tec_at k p h = first_at k.tec (placed 8 k.rec) 9 p h ∙ left_at (placed 9 k.tec ++ placed 8 k.rec) (placed 7 k.occurrences) 17 p (tec_rec k) (omega (arith, h))

pub rec_at : (k : Counters) (p : ℕ) → 9 ≤ p → p < 17 → get_or k.rec (p - 9) never ≡ get_or (counters_list k) p never
rec_at k p low h =
    word_at k.rec 8 (p - 9) (omega (arith, low, h)) ∙ right_at (placed 9 k.tec) (placed 8 k.rec) 9 p (length-placed 9 k.tec) low
    ∙ left_at (placed 9 k.tec ++ placed 8 k.rec) (placed 7 k.occurrences) 17 p (tec_rec k) h

pub occurrences_at : (k : Counters) (p : ℕ) → 17 ≤ p → p < 24 → get_or k.occurrences (p - 17) never ≡ get_or (counters_list k) p never
occurrences_at k p low h =
    word_at k.occurrences 7 (p - 17) (omega (arith, low, h)) ∙ right_at (placed 9 k.tec ++ placed 8 k.rec) (placed 7 k.occurrences) 17 p (tec_rec k) low

-- what is heard

levels_count : (k : Heard) → length (placed 103 k.levels ++ placed 7 k.count) ≡ 110
levels_count k = omega (arith, length-append (placed 103 k.levels) (placed 7 k.count), length-placed 103 k.levels, length-placed 7 k.count)

abbrev last_list : Heard → List Literal
last_list k = k.last ∷ nibble_before k.run []

pub levels_at : (k : Heard) (p : ℕ) → p < 103 → get_or k.levels p never ≡ get_or (heard_list k) p never
levels_at k p h = first_at k.levels (placed 7 k.count) 103 p h ∙ left_at (placed 103 k.levels ++ placed 7 k.count) (last_list k ++ placed 15 k.check) 110 p (levels_count k) (omega (arith, h))

pub count_at : (k : Heard) (p : ℕ) → 103 ≤ p → p < 110 → get_or k.count (p - 103) never ≡ get_or (heard_list k) p never
count_at k p low h =
    word_at k.count 7 (p - 103) (omega (arith, low, h)) ∙ right_at (placed 103 k.levels) (placed 7 k.count) 103 p (length-placed 103 k.levels) low
    ∙ left_at (placed 103 k.levels ++ placed 7 k.count) (last_list k ++ placed 15 k.check) 110 p (levels_count k) h

pub last_at : (k : Heard) (p : ℕ) → 110 ≤ p → p < 115 → get_or (k.last ∷ k.run.ones ∷ k.run.twos ∷ k.run.fours ∷ k.run.eights ∷ []) (p - 110) never ≡ get_or (heard_list k) p never
last_at k p low h =
    left_at (last_list k) (placed 15 k.check) 5 (p - 110) refl (omega (arith, low, h))
    ∙ right_at (placed 103 k.levels ++ placed 7 k.count) (last_list k ++ placed 15 k.check) 110 p (levels_count k) low

pub check_at : (k : Heard) (p : ℕ) → 115 ≤ p → p < 130 → get_or k.check (p - 115) never ≡ get_or (heard_list k) p never
check_at k p low h =
    let e : p - 115 ≡ p - 110 - 5 = omega arith in
    ap (λ q. get_or k.check q never) e
    ∙ word_at k.check 15 (p - 110 - 5) (omega (arith, low, h)) ∙ right_at (last_list k) (placed 15 k.check) 5 (p - 110) refl (omega (arith, low))
    ∙ right_at (placed 103 k.levels ++ placed 7 k.count) (last_list k ++ placed 15 k.check) 110 p (levels_count k) (omega (arith, low))

-- all registers

module _ (w c h own : List Literal) (few : length w ≡ 20) (counters : length c ≡ 24) (heard : length h ≡ 130) where
  two : length (w ++ c) ≡ 44
  two = omega (arith, length-append w c, few, counters)

  three : length ((w ++ c) ++ h) ≡ 174
  three = omega (arith, length-append (w ++ c) h, two, heard)

  pub in_wires : (p : ℕ) → p < 20 → get_or w p never ≡ get_or (((w ++ c) ++ h) ++ own) p never
  in_wires p l = left_at w c 20 p few l ∙ left_at (w ++ c) h 44 p two (omega (arith, l)) ∙ left_at ((w ++ c) ++ h) own 174 p three (omega (arith, l))

  pub in_counters : (p : ℕ) → 20 ≤ p → p < 44 → get_or c (p - 20) never ≡ get_or (((w ++ c) ++ h) ++ own) p never
  in_counters p low l = right_at w c 20 p few low ∙ left_at (w ++ c) h 44 p two l ∙ left_at ((w ++ c) ++ h) own 174 p three (omega (arith, l))

  pub in_heard : (p : ℕ) → 44 ≤ p → p < 174 → get_or h (p - 44) never ≡ get_or (((w ++ c) ++ h) ++ own) p never
  in_heard p low l = right_at (w ++ c) h 44 p two low ∙ left_at ((w ++ c) ++ h) own 174 p three l

pub wires_at : (k : Registers) (p : ℕ) → p < 20 → get_or (wires_list k.controller.wires) p never ≡ get_or (register_list k) p never
wires_at k p h = in_wires (wires_list k.controller.wires) (counters_list k.controller.counters) (heard_list k.heard) (placed 103 k.own) refl (length-counters k.controller.counters) (length-heard k.heard) p h

pub counters_at : (k : Registers) (p : ℕ) → 20 ≤ p → p < 44 → get_or (counters_list k.controller.counters) (p - 20) never ≡ get_or (register_list k) p never
counters_at k p low h = in_counters (wires_list k.controller.wires) (counters_list k.controller.counters) (heard_list k.heard) (placed 103 k.own) refl (length-counters k.controller.counters) (length-heard k.heard) p low h

pub heard_at : (k : Registers) (p : ℕ) → 44 ≤ p → p < 174 → get_or (heard_list k.heard) (p - 44) never ≡ get_or (register_list k) p never
heard_at k p low h = in_heard (wires_list k.controller.wires) (counters_list k.controller.counters) (heard_list k.heard) (placed 103 k.own) refl (length-counters k.controller.counters) (length-heard k.heard) p low h

pub own_at : (k : Registers) (p : ℕ) → 174 ≤ p → p < 277 → get_or k.own (p - 174) never ≡ get_or (register_list k) p never
own_at k p low h =
    word_at k.own 103 (p - 174) (omega (arith, low, h))
    ∙ right_at ((wires_list k.controller.wires ++ counters_list k.controller.counters) ++ heard_list k.heard) (placed 103 k.own) 174 p (three (wires_list k.controller.wires) (counters_list k.controller.counters) (heard_list k.heard) (placed 103 k.own) refl (length-counters k.controller.counters) (length-heard k.heard)) low

-- a frame

module _ (k : Fields) where
  abbrev behind : List Literal
  behind = nibble_before k.dlc [] ++ placed 64 k.bytes

  pub format_at : (p : ℕ) → p < 2 → get_or (k.extended ∷ k.remote ∷ []) p never ≡ get_or (field_list k) p never
  format_at p h = left_at (k.extended ∷ k.remote ∷ []) (placed 29 k.identifier ++ behind) 2 p refl h

  pub identifier_at : (p : ℕ) → 2 ≤ p → p < 31 → get_or k.identifier (p - 2) never ≡ get_or (field_list k) p never
  identifier_at p low h = first_at k.identifier behind 29 (p - 2) (omega (arith, low, h)) ∙ right_at (k.extended ∷ k.remote ∷ []) (placed 29 k.identifier ++ behind) 2 p refl low

  behind_at : (p : ℕ) → 31 ≤ p → get_or behind (p - 2 - 29) never ≡ get_or (field_list k) p never
  behind_at p low = right_at (placed 29 k.identifier) behind 29 (p - 2) (length-placed 29 k.identifier) (omega (arith, low)) ∙ right_at (k.extended ∷ k.remote ∷ []) (placed 29 k.identifier ++ behind) 2 p refl (omega (arith, low))

  pub dlc_at : (p : ℕ) → 31 ≤ p → p < 35 → get_or (k.dlc.ones ∷ k.dlc.twos ∷ k.dlc.fours ∷ k.dlc.eights ∷ []) (p - 31) never ≡ get_or (field_list k) p never
  dlc_at p low h =
      let e : p - 31 ≡ p - 2 - 29 = omega arith in
      left_at (nibble_before k.dlc []) (placed 64 k.bytes) 4 (p - 31) refl (omega (arith, low, h)) ∙ ap (λ q. get_or behind q never) e ∙ behind_at p low

  pub bytes_at : (p : ℕ) → 35 ≤ p → p < 99 → get_or k.bytes (p - 35) never ≡ get_or (field_list k) p never
  bytes_at p low h =
      let e : p - 35 ≡ p - 2 - 29 - 4 = omega arith in
      ap (λ q. get_or k.bytes q never) e
      ∙ word_at k.bytes 64 (p - 2 - 29 - 4) (omega (arith, low, h)) ∙ right_at (nibble_before k.dlc []) (placed 64 k.bytes) 4 (p - 2 - 29) refl (omega (arith, low))
      ∙ behind_at p (omega (arith, low))

length-fields : (k : Fields) → length (field_list k) ≡ 99
length-fields k = omega (arith, length-append (placed 29 k.identifier) (nibble_before k.dlc (placed 64 k.bytes)), length-placed 29 k.identifier, length-placed 64 k.bytes)

-- what goes out

module _ (a f t r last : List Literal) (five : length a ≡ 5) (fields : length f ≡ 99) (tec : length t ≡ 9) (rec : length r ≡ 8) where
  to_frame : length (a ++ f) ≡ 104
  to_frame = omega (arith, length-append a f, five, fields)

  to_tec : length ((a ++ f) ++ t) ≡ 113
  to_tec = omega (arith, length-append (a ++ f) t, to_frame, tec)

  to_rec : length (((a ++ f) ++ t) ++ r) ≡ 121
  to_rec = omega (arith, length-append ((a ++ f) ++ t) r, to_tec, rec)

  up_to_tec : (p : ℕ) → p < 113 → get_or ((a ++ f) ++ t) p never ≡ get_or ((((a ++ f) ++ t) ++ r) ++ last) p never
  up_to_tec p h = left_at ((a ++ f) ++ t) r 113 p to_tec h ∙ left_at (((a ++ f) ++ t) ++ r) last 121 p to_rec (omega (arith, h))

  up_to_frame : (p : ℕ) → p < 104 → get_or (a ++ f) p never ≡ get_or ((((a ++ f) ++ t) ++ r) ++ last) p never
  up_to_frame p h = left_at (a ++ f) t 104 p to_frame h ∙ up_to_tec p (omega (arith, h))

  pub in_first : (p : ℕ) → p < 5 → get_or a p never ≡ get_or ((((a ++ f) ++ t) ++ r) ++ last) p never
  in_first p h = left_at a f 5 p five h ∙ up_to_frame p (omega (arith, h))

  pub in_frame : (p : ℕ) → 5 ≤ p → p < 104 → get_or f (p - 5) never ≡ get_or ((((a ++ f) ++ t) ++ r) ++ last) p never
  in_frame p low h = right_at a f 5 p five low ∙ up_to_frame p h

  pub in_tec : (p : ℕ) → 104 ≤ p → p < 113 → get_or t (p - 104) never ≡ get_or ((((a ++ f) ++ t) ++ r) ++ last) p never
  in_tec p low h = right_at (a ++ f) t 104 p to_frame low ∙ up_to_tec p h

  pub in_rec : (p : ℕ) → 113 ≤ p → p < 121 → get_or r (p - 113) never ≡ get_or ((((a ++ f) ++ t) ++ r) ++ last) p never
  in_rec p low h = right_at ((a ++ f) ++ t) r 113 p to_tec low ∙ left_at (((a ++ f) ++ t) ++ r) last 121 p to_rec h

  pub in_last : (p : ℕ) → 121 ≤ p → get_or last (p - 121) never ≡ get_or ((((a ++ f) ++ t) ++ r) ++ last) p never
  in_last p low = right_at (((a ++ f) ++ t) ++ r) last 121 p to_rec low

  pub length-out : length last ≡ 3 → length ((((a ++ f) ++ t) ++ r) ++ last) ≡ 124
  length-out three = omega (arith, length-append (((a ++ f) ++ t) ++ r) last, to_rec, three)

module _ (k : OutputPorts) where
  abbrev first : List Literal
  first = k.drive ∷ nibble_before k.event_code []

  abbrev final : List Literal
  final = k.passive ∷ k.off ∷ k.legal ∷ []

  pub out_first : (p : ℕ) → p < 5 → get_or (k.drive ∷ k.event_code.ones ∷ k.event_code.twos ∷ k.event_code.fours ∷ k.event_code.eights ∷ []) p never ≡ get_or (output_list k) p never
  out_first p h = in_first first (field_list k.frame) (placed 9 k.tec) (placed 8 k.rec) final refl (length-fields k.frame) (length-placed 9 k.tec) (length-placed 8 k.rec) p h

  pub out_frame : (p : ℕ) → 5 ≤ p → p < 104 → get_or (field_list k.frame) (p - 5) never ≡ get_or (output_list k) p never
  out_frame p low h = in_frame first (field_list k.frame) (placed 9 k.tec) (placed 8 k.rec) final refl (length-fields k.frame) (length-placed 9 k.tec) (length-placed 8 k.rec) p low h

  pub out_tec : (p : ℕ) → 104 ≤ p → p < 113 → get_or k.tec (p - 104) never ≡ get_or (output_list k) p never
  out_tec p low h = word_at k.tec 9 (p - 104) (omega (arith, low, h)) ∙ in_tec first (field_list k.frame) (placed 9 k.tec) (placed 8 k.rec) final refl (length-fields k.frame) (length-placed 9 k.tec) (length-placed 8 k.rec) p low h

  pub out_rec : (p : ℕ) → 113 ≤ p → p < 121 → get_or k.rec (p - 113) never ≡ get_or (output_list k) p never
  out_rec p low h = word_at k.rec 8 (p - 113) (omega (arith, low, h)) ∙ in_rec first (field_list k.frame) (placed 9 k.tec) (placed 8 k.rec) final refl (length-fields k.frame) (length-placed 9 k.tec) (length-placed 8 k.rec) p low h

  pub out_last : (p : ℕ) → 121 ≤ p → get_or (k.passive ∷ k.off ∷ k.legal ∷ []) (p - 121) never ≡ get_or (output_list k) p never
  out_last p low = in_last first (field_list k.frame) (placed 9 k.tec) (placed 8 k.rec) final refl (length-fields k.frame) (length-placed 9 k.tec) (length-placed 8 k.rec) p low

  -- all of it
  pub out_whole : placed 124 (output_list k) ≡ output_list k
  out_whole = placed_whole 124 (output_list k) (length-out first (field_list k.frame) (placed 9 k.tec) (placed 8 k.rec) final refl (length-fields k.frame) (length-placed 9 k.tec) (length-placed 8 k.rec) refl)
