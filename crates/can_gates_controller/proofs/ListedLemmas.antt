-- What a list of registers says of each of them.
use Rattle.std.proofs.Common.{◌≡◌, ℕ, zero, suc, ◌+◌, ◌-◌, ◌<◌, ◌≤◌, ◌⊎◌, inl, inr, Bool, true, false, ◌&&◌, cond, List, [], ◌∷◌, ◌++◌, length, get_or, refl, sym, ◌∙◌, ap, arith, length-append}
use Rattle.std.proofs.Math.Seq.{get_or-append_right}
use Rattle.std.proofs.Math.Dec.{eqb}
use Rattle.std.proofs.lemmas.Bool.{cases_lt, cases_eq, ne_eqb}
use Rattle.std.proofs.lemmas.List.{get_or_append_left, get_or_push}
use Rattle.can_gates.specs.declared.literal.Literal.{Literal}
use Rattle.can_gates.specs.declared.register.Register.{Register}
use Rattle.can_gates.specs.Circuit.{value, CircuitParts, never}
use Rattle.can_gates.specs.Words.{number}
use Rattle.can_gates_mac.specs.declared.nibble.Nibble.{Nibble}
use Rattle.can_gates_mac.specs.declared.wires.Wires.{Wires}
use Rattle.can_gates_mac.specs.declared.registers.Counters.{Counters}
use Rattle.can_gates_mac.specs.Nibbles.{nibble}
use Rattle.can_gates_mac.specs.Numbers.{Numbers}
use Rattle.can_gates_mac.specs.Shown.{shown}
use Rattle.can_gates_mac.specs.Stepping.{reset_numbers}
use Rattle.can_gates_controller.specs.declared.heard.Heard.{Heard}
use Rattle.can_gates_controller.specs.declared.registers.Registers.{Registers}
use Rattle.can_gates_controller.specs.Listed.{AreSignals, placed, nibble_before, wires_list, counters_list, heard_list, register_list}
use Rattle.can_gates_controller.specs.Stepped.{IsRegister, TakesLevels}
use Rattle.can_gates_controller.specs.Runs.{StartsRegisters, StepsRegisters}
use Rattle.can_gates_controller.proofs.Taking.{held_numbers, TakesCounters, TakesHeard, Takes, IsReset}

pub length-placed : (n : ℕ) (word : List Literal) → length (placed n word) ≡ n
length-placed zero word = refl
length-placed (suc n) [] = ap suc (length-placed n [])
length-placed (suc n) (l ∷ word) = ap suc (length-placed n word)

pub placed_more : (n : ℕ) (word : List Literal) → placed (suc n) word ≡ placed n word ++ get_or word n never ∷ []
placed_more zero [] = refl
placed_more zero (l ∷ word) = refl
placed_more (suc n) [] = ap (λ t. never ∷ t) (placed_more n [])
placed_more (suc n) (l ∷ word) = ap (λ t. l ∷ t) (placed_more n word)

placed_past : (n p : ℕ) → get_or (placed n []) p never ≡ never
placed_past zero p = refl
placed_past (suc n) zero = refl
placed_past (suc n) (suc p) = placed_past n p

pub placed_at : (n : ℕ) (word : List Literal) (p : ℕ) → p < n → get_or (placed n word) p never ≡ get_or word p never
placed_at zero word p h = absurd (omega (arith, h))
placed_at (suc n) [] p h = placed_past (suc n) p
placed_at (suc n) (l ∷ word) zero h = refl
placed_at (suc n) (l ∷ word) (suc p) h = placed_at n word p (omega (arith, h))

pub placed_whole : (n : ℕ) (word : List Literal) → length word ≡ n → placed n word ≡ word
placed_whole zero [] long = refl
placed_whole zero (l ∷ word) long = absurd (omega (arith, long))
placed_whole (suc n) [] long = absurd (omega (arith, long))
placed_whole (suc n) (l ∷ word) long = ap (λ t. l ∷ t) (placed_whole n word (omega (arith, long)))

pub length-counters : (k : Counters) → length (counters_list k) ≡ 24
length-counters k = omega (arith, length-append (placed 9 k.tec ++ placed 8 k.rec) (placed 7 k.occurrences), length-append (placed 9 k.tec) (placed 8 k.rec), length-placed 9 k.tec, length-placed 8 k.rec, length-placed 7 k.occurrences)

pub length-heard : (k : Heard) → length (heard_list k) ≡ 130
length-heard k = omega (arith, length-append (placed 103 k.levels ++ placed 7 k.count) (k.last ∷ nibble_before k.run (placed 15 k.check)), length-append (placed 103 k.levels) (placed 7 k.count), length-placed 103 k.levels, length-placed 7 k.count, length-placed 15 k.check)

-- a register more
pub pushed_at : (P : ℕ → Register → Type 0) (all more : List Register) (r : Register) (i p : ℕ) → more ≡ all ++ r ∷ [] → length all ≡ i → P i r → ((q : ℕ) → q < i → P q (get_or all q (record { next = never; starts = false }))) → p < i + 1 → P p (get_or more p (record { next = never; starts = false }))
pushed_at P all more r i p e long is before h = by (cases_eq p i)
  where
    by : (p ≡ i) ⊎ (p ≡ i → ⊥) → P p (get_or more p (record { next = never; starts = false }))
    by (inl f) = rw (f, e, get_or_push all r (record { next = never; starts = false }) i long) is
    by (inr f) =
        let lower : p < i = omega (arith, h, f) in rw (e, get_or_append_left all (r ∷ []) (record { next = never; starts = false }) p (omega (arith, lower, long))) (before p lower)

-- Signals in a row.

signals_joined : (s m n : ℕ) (a b : List Literal) → length a ≡ m → AreSignals s m a → AreSignals (s + m) n b → AreSignals s (m + n) (a ++ b)
signals_joined s m n a b la first rest = λ v p h. by v p h (cases_lt p m)
  where
    by : (v : ℕ → Bool) (p : ℕ) → p < m + n → (p < m) ⊎ (m ≤ p) → value v (get_or (a ++ b) p never) ≡ v (s + p)
    by v p h (inl l) = ap (value v) (get_or_append_left a b never p (omega (arith, l, la))) ∙ first v p l
    by v p h (inr l) =
        let e : p - length a ≡ p - m = omega (arith, la) in
        let f : s + m + (p - m) ≡ s + p = omega (arith, l) in
        ap (value v) (get_or-append_right a b p never (omega (arith, l, la)) ∙ ap (λ k. get_or b k never) e) ∙ rest v (p - m) (omega (arith, h, l)) ∙ ap v f

signals_placed : (s n : ℕ) (a : List Literal) → AreSignals s n a → AreSignals s n (placed n a)
signals_placed s n a t = λ v p h. ap (value v) (placed_at n a p h) ∙ t v p h

pub signals_4 : (s : ℕ) (a b c d : Literal) → ((v : ℕ → Bool) → value v a ≡ v s) → ((v : ℕ → Bool) → value v b ≡ v (s + 1)) → ((v : ℕ → Bool) → value v c ≡ v (s + 2)) → ((v : ℕ → Bool) → value v d ≡ v (s + 3)) → AreSignals s 4 (a ∷ b ∷ c ∷ d ∷ [])
signals_4 s a b c d e1 e2 e3 e4 = by
  where
    by : AreSignals s 4 (a ∷ b ∷ c ∷ d ∷ [])
    by v zero h = let e : s + 0 ≡ s = omega arith in rw e (e1 v)
    by v (suc zero) h = e2 v
    by v (suc (suc zero)) h = e3 v
    by v (suc (suc (suc zero))) h = e4 v
    by v (suc (suc (suc (suc p)))) h = absurd (omega (arith, h))

signals_of_wires : (phase place pending used : Nibble) (last unacknowledged first sender : Literal) → AreSignals 108 4 (nibble_before phase []) → AreSignals 112 4 (nibble_before place []) → AreSignals 116 4 (last ∷ unacknowledged ∷ first ∷ sender ∷ []) → AreSignals 120 4 (nibble_before pending []) → AreSignals 124 4 (nibble_before used []) → AreSignals 108 20 (nibble_before phase (nibble_before place (last ∷ unacknowledged ∷ first ∷ sender ∷ nibble_before pending (nibble_before used []))))
signals_of_wires phase place pending used last unacknowledged first sender e1 e2 e3 e4 e5 =
    signals_joined 108 4 16 (nibble_before phase []) (nibble_before place (last ∷ unacknowledged ∷ first ∷ sender ∷ nibble_before pending (nibble_before used []))) refl e1
    (signals_joined 112 4 12 (nibble_before place []) (last ∷ unacknowledged ∷ first ∷ sender ∷ nibble_before pending (nibble_before used [])) refl e2
    (signals_joined 116 4 8 (last ∷ unacknowledged ∷ first ∷ sender ∷ []) (nibble_before pending (nibble_before used [])) refl e3
    (signals_joined 120 4 4 (nibble_before pending []) (nibble_before used []) refl e4 e5)))

pub signals_of_counters : (k : Counters) → AreSignals 128 9 k.tec → AreSignals 137 8 k.rec → AreSignals 145 7 k.occurrences → AreSignals 128 24 (counters_list k)
signals_of_counters k tec rec occurrences =
    signals_joined 128 17 7 (placed 9 k.tec ++ placed 8 k.rec) (placed 7 k.occurrences) (omega (arith, length-append (placed 9 k.tec) (placed 8 k.rec), length-placed 9 k.tec, length-placed 8 k.rec))
    (signals_joined 128 9 8 (placed 9 k.tec) (placed 8 k.rec) (length-placed 9 k.tec) (signals_placed 128 9 k.tec tec) (signals_placed 137 8 k.rec rec))
    (signals_placed 145 7 k.occurrences occurrences)

one_signal : (s : ℕ) (l : Literal) → ((v : ℕ → Bool) → value v l ≡ v s) → AreSignals s 1 (l ∷ [])
one_signal s l e = by
  where
    by : AreSignals s 1 (l ∷ [])
    by v zero h = let f : s + 0 ≡ s = omega arith in rw f (e v)
    by v (suc p) h = absurd (omega (arith, h))

pub signals_of_heard : (levels count check : List Literal) (last : Literal) (run : Nibble) → AreSignals 152 103 levels → AreSignals 255 7 count → ((v : ℕ → Bool) → value v last ≡ v 262) → AreSignals 263 4 (nibble_before run []) → AreSignals 267 15 check → AreSignals 152 130 ((placed 103 levels ++ placed 7 count) ++ (last ∷ nibble_before run (placed 15 check)))
signals_of_heard levels count check last run e1 e2 e3 e4 e5 =
    signals_joined 152 110 20 (placed 103 levels ++ placed 7 count) (last ∷ nibble_before run (placed 15 check)) (omega (arith, length-append (placed 103 levels) (placed 7 count), length-placed 103 levels, length-placed 7 count))
    (signals_joined 152 103 7 (placed 103 levels) (placed 7 count) (length-placed 103 levels) (signals_placed 152 103 levels e1) (signals_placed 255 7 count e2))
    (signals_joined 262 1 19 (last ∷ []) (nibble_before run (placed 15 check)) refl (one_signal 262 last e3)
    (signals_joined 263 4 15 (nibble_before run []) (placed 15 check) refl e4 (signals_placed 267 15 check e5)))

signals_of_all : (a b h own : List Literal) → length a ≡ 20 → length b ≡ 24 → length h ≡ 130 → AreSignals 108 20 a → AreSignals 128 24 b → AreSignals 152 130 h → AreSignals 282 103 own → AreSignals 108 277 (((a ++ b) ++ h) ++ placed 103 own)
signals_of_all a b h own la lb lh e1 e2 e3 e4 =
    let two : length (a ++ b) ≡ 44 = omega (arith, length-append a b, la, lb) in
    let three : length ((a ++ b) ++ h) ≡ 174 = omega (arith, length-append (a ++ b) h, two, lh) in
    signals_joined 108 174 103 ((a ++ b) ++ h) (placed 103 own) three (signals_joined 108 44 130 (a ++ b) h two (signals_joined 108 20 24 a b la e1 e2) e3) (signals_placed 282 103 own e4)

pub signals_of_parts : (phase place pending used : Nibble) (last unacknowledged first sender : Literal) (k : Counters) (h : Heard) (own : List Literal) → AreSignals 108 4 (nibble_before phase []) → AreSignals 112 4 (nibble_before place []) → AreSignals 116 4 (last ∷ unacknowledged ∷ first ∷ sender ∷ []) → AreSignals 120 4 (nibble_before pending []) → AreSignals 124 4 (nibble_before used []) → AreSignals 128 24 (counters_list k) → AreSignals 152 130 (heard_list h) → AreSignals 282 103 own → AreSignals 108 277 (((nibble_before phase (nibble_before place (last ∷ unacknowledged ∷ first ∷ sender ∷ nibble_before pending (nibble_before used []))) ++ counters_list k) ++ heard_list h) ++ placed 103 own)
signals_of_parts phase place pending used last unacknowledged first sender k h own e1 e2 e3 e4 e5 e6 e7 e8 =
    signals_of_all (nibble_before phase (nibble_before place (last ∷ unacknowledged ∷ first ∷ sender ∷ nibble_before pending (nibble_before used [])))) (counters_list k) (heard_list h) own refl (length-counters k) (length-heard h) (signals_of_wires phase place pending used last unacknowledged first sender e1 e2 e3 e4 e5) e6 e7 e8

pub signals_of_fields : (extended remote : Literal) (identifier bytes : List Literal) (dlc : Nibble) → ((v : ℕ → Bool) → value v extended ≡ v 9) → ((v : ℕ → Bool) → value v remote ≡ v 10) → AreSignals 11 29 identifier → AreSignals 40 4 (nibble_before dlc []) → AreSignals 44 64 bytes → AreSignals 9 99 (extended ∷ remote ∷ (placed 29 identifier ++ nibble_before dlc (placed 64 bytes)))
signals_of_fields extended remote identifier bytes dlc e1 e2 e3 e4 e5 =
    signals_joined 9 1 98 (extended ∷ []) (remote ∷ (placed 29 identifier ++ nibble_before dlc (placed 64 bytes))) refl (one_signal 9 extended e1)
    (signals_joined 10 1 97 (remote ∷ []) (placed 29 identifier ++ nibble_before dlc (placed 64 bytes)) refl (one_signal 10 remote e2)
    (signals_joined 11 29 68 (placed 29 identifier) (nibble_before dlc (placed 64 bytes)) (length-placed 29 identifier) (signals_placed 11 29 identifier e3)
    (signals_joined 40 4 64 (nibble_before dlc []) (placed 64 bytes) refl e4 (signals_placed 44 64 bytes e5))))

pub signals_of_inputs : (a b c d e f g h : Literal) (rest : List Literal) → AreSignals 1 4 (a ∷ b ∷ c ∷ d ∷ []) → AreSignals 5 4 (e ∷ f ∷ g ∷ h ∷ []) → AreSignals 9 99 rest → AreSignals 1 107 (a ∷ b ∷ c ∷ d ∷ e ∷ f ∷ g ∷ h ∷ rest)
signals_of_inputs a b c d e f g h rest e1 e2 e3 = signals_joined 1 4 103 (a ∷ b ∷ c ∷ d ∷ []) (e ∷ f ∷ g ∷ h ∷ rest) refl e1 (signals_joined 5 4 99 (e ∷ f ∷ g ∷ h ∷ []) rest refl e2 e3)

-- Two bit times.

module _ (v w : ℕ → Bool) where
  front_takes : (m n : ℕ) (a b c d : List Literal) → length a ≡ m → length c ≡ m → TakesLevels v w (m + n) (a ++ b) (c ++ d) → TakesLevels v w m a c
  front_takes m n a b c d la lc t = λ p h. ap (value w) (sym (get_or_append_left a b never p (omega (arith, h, la)))) ∙ t p (omega (arith, h)) ∙ ap (value v) (get_or_append_left c d never p (omega (arith, h, lc)))

  back_takes : (m n : ℕ) (a b c d : List Literal) → length a ≡ m → length c ≡ m → TakesLevels v w (m + n) (a ++ b) (c ++ d) → TakesLevels v w n b d
  back_takes m n a b c d la lc t = λ p h.
      let e : m + p - length a ≡ p = omega (arith, la) in
      let f : m + p - length c ≡ p = omega (arith, lc) in
      ap (value w) (sym (get_or-append_right a b (m + p) never (omega (arith, la)) ∙ ap (λ k. get_or b k never) e)) ∙ t (m + p) (omega (arith, h)) ∙ ap (value v) (get_or-append_right c d (m + p) never (omega (arith, lc)) ∙ ap (λ k. get_or d k never) f)

  placed_takes : (n : ℕ) (a b : List Literal) → TakesLevels v w n (placed n a) (placed n b) → TakesLevels v w n a b
  placed_takes n a b t = λ p h. ap (value w) (sym (placed_at n a p h)) ∙ t p h ∙ ap (value v) (placed_at n b p h)

  number_takes : (a b : List Literal) (n : ℕ) → length a ≡ n → length b ≡ n → TakesLevels v w n a b → number w a ≡ number v b
  number_takes [] [] n la lb t = refl
  number_takes [] (l ∷ b) n la lb t = absurd (omega (arith, la, lb))
  number_takes (l ∷ a) [] n la lb t = absurd (omega (arith, la, lb))
  number_takes (l ∷ a) (k ∷ b) n la lb t =
      let rest = number_takes a b (length a) refl (omega (arith, la, lb)) (λ p h. t (suc p) (omega (arith, h, la))) in
      rw (t 0 (omega (arith, la)), rest) refl

  nibble_takes : (a b : Nibble) → value w a.ones ≡ value v b.ones → value w a.twos ≡ value v b.twos → value w a.fours ≡ value v b.fours → value w a.eights ≡ value v b.eights → nibble w a ≡ nibble v b
  unfolding nibble
  nibble_takes a b e1 e2 e3 e4 = rw (e1, e2, e3, e4) refl

  wires_take : (a b : Wires) → TakesLevels v w 20 (wires_list a) (wires_list b) → held_numbers (shown w a) ≡ held_numbers (shown v b)
  unfolding shown
  wires_take a b t =
      let phase = nibble_takes a.phase b.phase (t 0 (omega arith)) (t 1 (omega arith)) (t 2 (omega arith)) (t 3 (omega arith)) in
      let place = nibble_takes a.place b.place (t 4 (omega arith)) (t 5 (omega arith)) (t 6 (omega arith)) (t 7 (omega arith)) in
      let pending = nibble_takes a.pending b.pending (t 12 (omega arith)) (t 13 (omega arith)) (t 14 (omega arith)) (t 15 (omega arith)) in
      let used = nibble_takes a.used b.used (t 16 (omega arith)) (t 17 (omega arith)) (t 18 (omega arith)) (t 19 (omega arith)) in
      same_held (shown w a) (shown v b) phase place (t 8 (omega arith)) (t 9 (omega arith)) (t 10 (omega arith)) (t 11 (omega arith)) pending used
    where
      same_held : (m n : Numbers) → m.phase ≡ n.phase → m.place ≡ n.place → m.last ≡ n.last → m.unacknowledged ≡ n.unacknowledged → m.first ≡ n.first → m.sender ≡ n.sender → m.pending ≡ n.pending → m.used ≡ n.used → held_numbers m ≡ held_numbers n
      same_held m n e1 e2 e3 e4 e5 e6 e7 e8 = rw (e1, e2, e3, e4, e5, e6, e7, e8) refl

  counters_take : (a b : Counters) → TakesLevels v w 24 (counters_list a) (counters_list b) → TakesCounters v w a b
  counters_take a b t =
      let early : length (placed 9 a.tec ++ placed 8 a.rec) ≡ 17 = omega (arith, length-append (placed 9 a.tec) (placed 8 a.rec), length-placed 9 a.tec, length-placed 8 a.rec) in
      let late : length (placed 9 b.tec ++ placed 8 b.rec) ≡ 17 = omega (arith, length-append (placed 9 b.tec) (placed 8 b.rec), length-placed 9 b.tec, length-placed 8 b.rec) in
      let both = front_takes 17 7 (placed 9 a.tec ++ placed 8 a.rec) (placed 7 a.occurrences) (placed 9 b.tec ++ placed 8 b.rec) (placed 7 b.occurrences) early late t in
      record {
        tec = number_takes a.tec b.tec 9 a.widths.0 b.widths.0 (placed_takes 9 a.tec b.tec (front_takes 9 8 (placed 9 a.tec) (placed 8 a.rec) (placed 9 b.tec) (placed 8 b.rec) (length-placed 9 a.tec) (length-placed 9 b.tec) both));
        rec = number_takes a.rec b.rec 8 a.widths.1 b.widths.1 (placed_takes 8 a.rec b.rec (back_takes 9 8 (placed 9 a.tec) (placed 8 a.rec) (placed 9 b.tec) (placed 8 b.rec) (length-placed 9 a.tec) (length-placed 9 b.tec) both));
        occurrences = number_takes a.occurrences b.occurrences 7 a.widths.2 b.widths.2 (placed_takes 7 a.occurrences b.occurrences (back_takes 17 7 (placed 9 a.tec ++ placed 8 a.rec) (placed 7 a.occurrences) (placed 9 b.tec ++ placed 8 b.rec) (placed 7 b.occurrences) early late t));
      }

  heard_takes : (a b : Heard) → TakesLevels v w 130 (heard_list a) (heard_list b) → TakesHeard v w a b
  heard_takes a b t =
      let early : length (placed 103 a.levels ++ placed 7 a.count) ≡ 110 = omega (arith, length-append (placed 103 a.levels) (placed 7 a.count), length-placed 103 a.levels, length-placed 7 a.count) in
      let late : length (placed 103 b.levels ++ placed 7 b.count) ≡ 110 = omega (arith, length-append (placed 103 b.levels) (placed 7 b.count), length-placed 103 b.levels, length-placed 7 b.count) in
      let rest_a = a.last ∷ nibble_before a.run (placed 15 a.check) in
      let rest_b = b.last ∷ nibble_before b.run (placed 15 b.check) in
      let first = front_takes 110 20 (placed 103 a.levels ++ placed 7 a.count) rest_a (placed 103 b.levels ++ placed 7 b.count) rest_b early late t in
      let rest = back_takes 110 20 (placed 103 a.levels ++ placed 7 a.count) rest_a (placed 103 b.levels ++ placed 7 b.count) rest_b early late t in
      record {
        levels = placed_takes 103 a.levels b.levels (front_takes 103 7 (placed 103 a.levels) (placed 7 a.count) (placed 103 b.levels) (placed 7 b.count) (length-placed 103 a.levels) (length-placed 103 b.levels) first);
        count = number_takes a.count b.count 7 a.width b.width (placed_takes 7 a.count b.count (back_takes 103 7 (placed 103 a.levels) (placed 7 a.count) (placed 103 b.levels) (placed 7 b.count) (length-placed 103 a.levels) (length-placed 103 b.levels) first));
        last = rest 0 (omega arith);
        run = nibble_takes a.run b.run (rest 1 (omega arith)) (rest 2 (omega arith)) (rest 3 (omega arith)) (rest 4 (omega arith));
        check = placed_takes 15 a.check b.check (back_takes 5 15 (a.last ∷ nibble_before a.run []) (placed 15 a.check) (b.last ∷ nibble_before b.run []) (placed 15 b.check) refl refl rest);
      }

  pub list_takes : (held next : Registers) → TakesLevels v w 277 (register_list held) (register_list next) → Takes v w held next
  list_takes held next t =
      let a = held.controller in
      let b = next.controller in
      let two_a : length (wires_list a.wires ++ counters_list a.counters) ≡ 44 = omega (arith, length-append (wires_list a.wires) (counters_list a.counters), length-counters a.counters) in
      let two_b : length (wires_list b.wires ++ counters_list b.counters) ≡ 44 = omega (arith, length-append (wires_list b.wires) (counters_list b.counters), length-counters b.counters) in
      let three_a : length ((wires_list a.wires ++ counters_list a.counters) ++ heard_list held.heard) ≡ 174 = omega (arith, length-append (wires_list a.wires ++ counters_list a.counters) (heard_list held.heard), two_a, length-heard held.heard) in
      let three_b : length ((wires_list b.wires ++ counters_list b.counters) ++ heard_list next.heard) ≡ 174 = omega (arith, length-append (wires_list b.wires ++ counters_list b.counters) (heard_list next.heard), two_b, length-heard next.heard) in
      let three = front_takes 174 103 ((wires_list a.wires ++ counters_list a.counters) ++ heard_list held.heard) (placed 103 held.own) ((wires_list b.wires ++ counters_list b.counters) ++ heard_list next.heard) (placed 103 next.own) three_a three_b t in
      let two = front_takes 44 130 (wires_list a.wires ++ counters_list a.counters) (heard_list held.heard) (wires_list b.wires ++ counters_list b.counters) (heard_list next.heard) two_a two_b three in
      record {
        wires = wires_take a.wires b.wires (front_takes 20 24 (wires_list a.wires) (counters_list a.counters) (wires_list b.wires) (counters_list b.counters) refl refl two);
        counters = counters_take a.counters b.counters (back_takes 20 24 (wires_list a.wires) (counters_list a.counters) (wires_list b.wires) (counters_list b.counters) refl refl two);
        heard = heard_takes held.heard next.heard (back_takes 44 130 (wires_list a.wires ++ counters_list a.counters) (heard_list held.heard) (wires_list b.wires ++ counters_list b.counters) (heard_list next.heard) two_a two_b three);
        own = placed_takes 103 held.own next.own (back_takes 174 103 ((wires_list a.wires ++ counters_list a.counters) ++ heard_list held.heard) (placed 103 held.own) ((wires_list b.wires ++ counters_list b.counters) ++ heard_list next.heard) (placed 103 next.own) three_a three_b t);
      }

-- At reset.

module _ (v : ℕ → Bool) where
  number_nothing : (a : List Literal) (n : ℕ) → length a ≡ n → ((p : ℕ) → p < n → value v (get_or a p never) ≡ false) → number v a ≡ 0
  number_nothing [] n la t = refl
  number_nothing (l ∷ a) n la t =
      let rest = number_nothing a (length a) refl (λ p h. t (suc p) (omega (arith, h, la))) in
      rw (t 0 (omega (arith, la)), rest) refl

  abbrev Clear : ℕ → List Literal → Type 0
  Clear n a = (p : ℕ) → p < n → value v (get_or a p never) ≡ false

  front_clear : (m n : ℕ) (a b : List Literal) → length a ≡ m → Clear (m + n) (a ++ b) → Clear m a
  front_clear m n a b la t = λ p h. ap (value v) (sym (get_or_append_left a b never p (omega (arith, h, la)))) ∙ t p (omega (arith, h))

  back_clear : (m n : ℕ) (a b : List Literal) → length a ≡ m → ((p : ℕ) → m ≤ p → p < m + n → value v (get_or (a ++ b) p never) ≡ false) → Clear n b
  back_clear m n a b la t = λ p h.
      let e : m + p - length a ≡ p = omega (arith, la) in
      ap (value v) (sym (get_or-append_right a b (m + p) never (omega (arith, la)) ∙ ap (λ k. get_or b k never) e)) ∙ t (m + p) (omega arith) (omega (arith, h))

  placed_clear : (n : ℕ) (a : List Literal) → Clear n (placed n a) → Clear n a
  placed_clear n a t = λ p h. ap (value v) (sym (placed_at n a p h)) ∙ t p h

  clear_nibble : (n : Nibble) → value v n.ones ≡ false → value v n.twos ≡ false → value v n.fours ≡ false → value v n.eights ≡ false → nibble v n ≡ 0
  unfolding nibble
  clear_nibble n e1 e2 e3 e4 = rw (e1, e2, e3, e4) refl

  phase_nibble : (n : Nibble) (integrating : Bool) → value v n.ones ≡ integrating → value v n.twos ≡ false → value v n.fours ≡ false → value v n.eights ≡ false → nibble v n ≡ cond integrating 1 0
  unfolding nibble
  phase_nibble n true e1 e2 e3 e4 = rw (e1, e2, e3, e4) refl
  phase_nibble n false e1 e2 e3 e4 = rw (e1, e2, e3, e4) refl

  clear_wires : (a : Wires) (integrating : Bool) → value v a.phase.ones ≡ integrating → ((p : ℕ) → 1 ≤ p → p < 20 → value v (get_or (wires_list a) p never) ≡ false) → held_numbers (shown v a) ≡ reset_numbers (cond integrating 1 0)
  unfolding shown
  clear_wires a integrating first t =
      let phase = phase_nibble a.phase integrating first (t 1 (omega arith) (omega arith)) (t 2 (omega arith) (omega arith)) (t 3 (omega arith) (omega arith)) in
      let place = clear_nibble a.place (t 4 (omega arith) (omega arith)) (t 5 (omega arith) (omega arith)) (t 6 (omega arith) (omega arith)) (t 7 (omega arith) (omega arith)) in
      let pending = clear_nibble a.pending (t 12 (omega arith) (omega arith)) (t 13 (omega arith) (omega arith)) (t 14 (omega arith) (omega arith)) (t 15 (omega arith) (omega arith)) in
      let used = clear_nibble a.used (t 16 (omega arith) (omega arith)) (t 17 (omega arith) (omega arith)) (t 18 (omega arith) (omega arith)) (t 19 (omega arith) (omega arith)) in
      held_is (shown v a) (cond integrating 1 0) phase place (t 8 (omega arith) (omega arith)) (t 9 (omega arith) (omega arith)) (t 10 (omega arith) (omega arith)) (t 11 (omega arith) (omega arith)) pending used
    where
      held_is : (m : Numbers) (n : ℕ) → m.phase ≡ n → m.place ≡ 0 → m.last ≡ false → m.unacknowledged ≡ false → m.first ≡ false → m.sender ≡ false → m.pending ≡ 0 → m.used ≡ 0 → held_numbers m ≡ reset_numbers n
      held_is m n e1 e2 e3 e4 e5 e6 e7 e8 = rw (e1, e2, e3, e4, e5, e6, e7, e8) refl

  pub list_resets : (k : Registers) (integrating : Bool) → ((p : ℕ) → p < 277 → value v (get_or (register_list k) p never) ≡ (eqb p 0 && integrating)) → IsReset v k integrating
  list_resets k integrating t =
      let a = k.controller in
      let two : length (wires_list a.wires ++ counters_list a.counters) ≡ 44 = omega (arith, length-append (wires_list a.wires) (counters_list a.counters), length-counters a.counters) in
      let early : (p : ℕ) → p < 44 → value v (get_or (wires_list a.wires ++ counters_list a.counters) p never) ≡ (eqb p 0 && integrating) =
      λ p h. ap (value v) (sym (get_or_append_left (wires_list a.wires ++ counters_list a.counters) (heard_list k.heard) never p (omega (arith, h, two))) ∙ sym (get_or_append_left ((wires_list a.wires ++ counters_list a.counters) ++ heard_list k.heard) (placed 103 k.own) never p (omega (arith, h, two, length-append (wires_list a.wires ++ counters_list a.counters) (heard_list k.heard))))) ∙ t p (omega (arith, h)) in
      let counters : Clear 24 (counters_list a.counters) = back_clear 20 24 (wires_list a.wires) (counters_list a.counters) refl (λ p low h. early p h ∙ rw (ne_eqb p 0 (λ e. absurd (omega (arith, e, low)))) refl) in
      let wires : (p : ℕ) → p < 20 → value v (get_or (wires_list a.wires) p never) ≡ (eqb p 0 && integrating) = λ p h. ap (value v) (sym (get_or_append_left (wires_list a.wires) (counters_list a.counters) never p h)) ∙ early p (omega (arith, h)) in
      let sizes : length (placed 9 a.counters.tec ++ placed 8 a.counters.rec) ≡ 17 = omega (arith, length-append (placed 9 a.counters.tec) (placed 8 a.counters.rec), length-placed 9 a.counters.tec, length-placed 8 a.counters.rec) in
      let both = front_clear 17 7 (placed 9 a.counters.tec ++ placed 8 a.counters.rec) (placed 7 a.counters.occurrences) sizes counters in
      record {
        wires = clear_wires a.wires integrating (wires 0 (omega arith)) (λ p low h. wires p h ∙ rw (ne_eqb p 0 (λ e. absurd (omega (arith, e, low)))) refl);
        tec = number_nothing a.counters.tec 9 a.counters.widths.0 (placed_clear 9 a.counters.tec (front_clear 9 8 (placed 9 a.counters.tec) (placed 8 a.counters.rec) (length-placed 9 a.counters.tec) both));
        rec = number_nothing a.counters.rec 8 a.counters.widths.1 (placed_clear 8 a.counters.rec (back_clear 9 8 (placed 9 a.counters.tec) (placed 8 a.counters.rec) (length-placed 9 a.counters.tec) (λ p low h. both p h)));
        occurrences = number_nothing a.counters.occurrences 7 a.counters.widths.2 (placed_clear 7 a.counters.occurrences (back_clear 17 7 (placed 9 a.counters.tec ++ placed 8 a.counters.rec) (placed 7 a.counters.occurrences) sizes (λ p low h. counters p h)));
      }

-- What a circuit's registers do, of these.
module _ (registers : List Register) (c : CircuitParts) (literals : List Literal) (held : Registers) (many : length registers ≡ 277) (inputs : c.inputs ≡ 384) (signals : AreSignals 108 277 (register_list held)) (long : length literals ≡ 277) (each : (i : ℕ) → i < length literals → IsRegister (get_or registers i (record { next = never; starts = false })) (get_or literals i never)) where
  place_of : (i : ℕ) → c.inputs - length registers + i + 1 ≡ 108 + i
  place_of i = omega (arith, many, inputs)

  pub starts_are : (v : ℕ → Bool) → StartsRegisters c registers v → (p : ℕ) → p < 277 → value v (get_or (register_list held) p never) ≡ false
  starts_are v starts p h = signals v p h ∙ ap v (sym (place_of p)) ∙ starts p (omega (arith, h, many)) ∙ (each p (omega (arith, h, long))).starts

  pub steps_are : (before now : ℕ → Bool) → StepsRegisters c registers before now → TakesLevels before now 277 (register_list held) literals
  steps_are before now steps = λ p h. signals now p h ∙ ap now (sym (place_of p)) ∙ steps p (omega (arith, h, many)) ∙ ap (value before) (each p (omega (arith, h, long))).next
