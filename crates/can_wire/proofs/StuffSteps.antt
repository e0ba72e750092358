-- Levels that are stuffed one step after another.
use Rattle.std.proofs.Common.{◌≡◌, ◌≢◌, ℕ, replicate, drop, ◌+◌, ◌-◌, ◌*◌, ◌/◌, ◌%◌, ◌^◌, ◌<◌, ◌≤◌, List, [], ◌∷◌, ◌++◌, length, take, map, get_or, refl, sym, ◌∙◌, ap, arith, append_assoc, length-append, inl, inr}
use Rattle.std.specs.List.{range_with_len}
use Rattle.std.proofs.lemmas.List.{append-nil, length-take-le, take-append-drop, take-take}
use Rattle.std.proofs.lemmas.Nat.{pow_pos}
use Rattle.std.proofs.Math.Nat.{mul-lt-mul_of_pos_right}
use Rattle.std.proofs.Math.Pow.{pow-add}
use Rattle.std.proofs.Math.Seq.{take-append_seam, take-append-add}
use Rattle.std.proofs.lemmas.List.FromFn.{get_or-map-range_with_len}
use Rattle.std.proofs.lemmas.Bool.{cases_eq, eq-eqb, ne_eqb, cond-true, cond-false}
use Rattle.std.proofs.Math.Dec.{eqb}
use Rattle.can_frame.specs.declared.level.Level.{Level}
use Rattle.can_frame.specs.declared.level.Level.TheVariants.{Dominant, Recessive}
use Rattle.can_frame.specs.Levels.{bits_of, level_of, number_from, opposite}
use Rattle.can_wire.specs.Layout.{levels_at}
use Rattle.can_wire.specs.Stuffing.{run_after, stuffed_from, stuffed}
use Rattle.can_wire.specs.StuffSteps.{LaysOut, entry_of, last_behind, last_of, run_behind, run_of}
use Rattle.can_wire.specs.declared.stuff_steps.Stuffing.{Stuffing}
use Rattle.can_wire.specs.declared.stuff_steps.tables.TheConstants.{FIVE_LEVELS, STUFFED_OCTETS}
use Rattle.can_wire.proofs.LevelLemmas.{bits_of-append, bits_of-mod, bits_of-number_from, bits_of-shl, number_from-lt}
use Rattle.can_wire.proofs.LayoutPlaces.{length-filled, next_levels}
use Rattle.can_wire.proofs.Runs.{run_after-le, run_after-ge}
use Rattle.can_wire.proofs.StuffingLemmas.{stuffed_from-plain, stuffed_from-due}

-- ---- what follows the levels xs

last_behind-plain : (last : Level) (run : ℕ) (x : Level) (xs : List Level) → run_after last run x ≢ 5 → last_behind last run (x ∷ xs) ≡ last_behind x (run_after last run x) xs
last_behind-plain last run x xs h =
    cond-false (eqb (run_after last run x) 5) (last_behind (opposite x) 1 xs) (last_behind x (run_after last run x) xs) (ne_eqb (run_after last run x) 5 h)

last_behind-due : (last : Level) (run : ℕ) (x : Level) (xs : List Level) → run_after last run x ≡ 5 → last_behind last run (x ∷ xs) ≡ last_behind (opposite x) 1 xs
last_behind-due last run x xs h =
    cond-true (eqb (run_after last run x) 5) (last_behind (opposite x) 1 xs) (last_behind x (run_after last run x) xs) (eq-eqb (run_after last run x) 5 h)

run_behind-plain : (last : Level) (run : ℕ) (x : Level) (xs : List Level) → run_after last run x ≢ 5 → run_behind last run (x ∷ xs) ≡ run_behind x (run_after last run x) xs
run_behind-plain last run x xs h =
    cond-false (eqb (run_after last run x) 5) (run_behind (opposite x) 1 xs) (run_behind x (run_after last run x) xs) (ne_eqb (run_after last run x) 5 h)

run_behind-due : (last : Level) (run : ℕ) (x : Level) (xs : List Level) → run_after last run x ≡ 5 → run_behind last run (x ∷ xs) ≡ run_behind (opposite x) 1 xs
run_behind-due last run x xs h =
    cond-true (eqb (run_after last run x) 5) (run_behind (opposite x) 1 xs) (run_behind x (run_after last run x) xs) (eq-eqb (run_after last run x) 5 h)

-- a list with its stuff bits is its first levels with theirs and then the rest with theirs
pub stuffed_from-append : (xs ys : List Level) (last : Level) (run : ℕ)
    → stuffed_from last run (xs ++ ys) ≡ stuffed_from last run xs ++ stuffed_from (last_behind last run xs) (run_behind last run xs) ys
stuffed_from-append [] ys last run = refl
stuffed_from-append (x ∷ xs) ys last run =
    let next = run_after last run x in
    elim (cases_eq next 5) [
      | inl five ↦
          stuffed_from-due last run x (xs ++ ys) five ∙ ap (λ t. x ∷ opposite x ∷ t) (stuffed_from-append xs ys (opposite x) 1)
          ∙ ap (λ e. x ∷ opposite x ∷ (stuffed_from (opposite x) 1 xs ++ stuffed_from e (run_behind (opposite x) 1 xs) ys)) (sym (last_behind-due last run x xs five))
          ∙ ap (λ r. x ∷ opposite x ∷ (stuffed_from (opposite x) 1 xs ++ stuffed_from (last_behind last run (x ∷ xs)) r ys)) (sym (run_behind-due last run x xs five))
          ∙ ap (λ t. t ++ stuffed_from (last_behind last run (x ∷ xs)) (run_behind last run (x ∷ xs)) ys) (sym (stuffed_from-due last run x xs five))
      | inr other ↦
          stuffed_from-plain last run x (xs ++ ys) other ∙ ap (λ t. x ∷ t) (stuffed_from-append xs ys x next)
          ∙ ap (λ e. x ∷ (stuffed_from x next xs ++ stuffed_from e (run_behind x next xs) ys)) (sym (last_behind-plain last run x xs other))
          ∙ ap (λ r. x ∷ (stuffed_from x next xs ++ stuffed_from (last_behind last run (x ∷ xs)) r ys)) (sym (run_behind-plain last run x xs other))
          ∙ ap (λ t. t ++ stuffed_from (last_behind last run (x ∷ xs)) (run_behind last run (x ∷ xs)) ys) (sym (stuffed_from-plain last run x xs other))
    ]

-- how long it is, and the run that it ends in
pub record Bounds (last : Level) (run : ℕ) (xs : List Level) : Type 0 where
  pub room : 4 * length (stuffed_from last run xs) + run_behind last run xs ≤ run + 5 * length xs
  pub short : run_behind last run xs < 5
  pub some : 1 ≤ run_behind last run xs
  pub least : length xs ≤ length (stuffed_from last run xs)

pub bounds_behind : (xs : List Level) (last : Level) (run : ℕ) → 1 ≤ run → run < 5 → Bounds last run xs
bounds_behind [] last run some short = record { room = omega arith; short = short; some = some; least = omega arith }
bounds_behind (x ∷ xs) last run some short =
    let next = run_after last run x in
    let le = run_after-le last run x in
    elim (cases_eq next 5) [
      | inl five ↦
          let r = bounds_behind xs (opposite x) 1 (omega arith) (omega arith) in
          let size = ap length (stuffed_from-due last run x xs five) in
          let end = run_behind-due last run x xs five in
          record { room = omega (arith, r.room, size, end, le, five, short); short = omega (arith, r.short, end); some = omega (arith, r.some, end); least = omega (arith, r.least, size) }
      | inr other ↦
          let r = bounds_behind xs x next (run_after-ge last run x) (omega (arith, le, short, other)) in
          let size = ap length (stuffed_from-plain last run x xs other) in
          let end = run_behind-plain last run x xs other in
          record { room = omega (arith, r.room, size, end, le); short = omega (arith, r.short, end); some = omega (arith, r.some, end); least = omega (arith, r.least, size) }
    ]

-- ---- levels that are laid out

pub some_run : (row : ℕ) → (1 ≤ run_of row) × (run_of row < 5)
some_run row = (omega arith, omega arith)

-- the levels xs more
pub LaysOut-more : (old new : List Level) (s t : Stuffing) (u xs : List Level) → LaysOut old s u → t.row < 8
    → take t.len new ≡ take s.len old ++ stuffed_from (last_of s.row) (run_of s.row) xs → t.len ≡ s.len + length (stuffed_from (last_of s.row) (run_of s.row) xs)
    → last_of t.row ≡ last_behind (last_of s.row) (run_of s.row) xs → run_of t.row ≡ run_behind (last_of s.row) (run_of s.row) xs
    → LaysOut new t (u ++ xs)
LaysOut-more old new s t u xs is small levels len last run =
    let l = last_of s.row in
    let r = run_of s.row in
    let b = bounds_behind xs l r (some_run s.row).0 (some_run s.row).1 in
    record {
      completes = λ rest.
          ap (λ k. k ++ stuffed_from (last_of t.row) (run_of t.row) rest) levels
          ∙ ap (λ e. (take s.len old ++ stuffed_from l r xs) ++ stuffed_from e (run_of t.row) rest) last
          ∙ ap (λ n. (take s.len old ++ stuffed_from l r xs) ++ stuffed_from (last_behind l r xs) n rest) run
          ∙ append_assoc (take s.len old) (stuffed_from l r xs) (stuffed_from (last_behind l r xs) (run_behind l r xs) rest)
          ∙ ap (λ k. take s.len old ++ k) (sym (stuffed_from-append xs rest l r))
          ∙ is.completes (xs ++ rest)
          ∙ ap stuffed (sym (append_assoc u xs rest));
      small = small;
      room = omega (arith, b.room, is.room, len, run, length-append u xs);
    }

-- the first level
pub LaysOut-begin : (levels : List Level) (row : ℕ) (x : Level) → take 1 levels ≡ x ∷ [] → row < 8 → last_of row ≡ x → run_of row ≡ 1
    → LaysOut levels (record { len = 1; row = row }) (x ∷ [])
unfolding stuffed
LaysOut-begin levels row x first small last run = record {
  completes = λ rest.
      ap (λ l. l ++ stuffed_from (last_of row) (run_of row) rest) first ∙ ap (λ e. x ∷ stuffed_from e (run_of row) rest) last
      ∙ ap (λ n. x ∷ stuffed_from x n rest) run ∙ by x rest;
  small = small;
  room = omega (arith, run);
}
  where
    by : (y : Level) (rest : List Level) → y ∷ stuffed_from y 1 rest ≡ stuffed (y ∷ rest)
    by Dominant rest = refl
    by Recessive rest = refl

-- all levels that were laid out
pub LaysOut-all : (levels : List Level) (s : Stuffing) (u : List Level) → LaysOut levels s u → take s.len levels ≡ stuffed u
LaysOut-all levels s u is = sym (append-nil (take s.len levels)) ∙ is.completes [] ∙ ap stuffed (append-nil u)

-- ---- the table of steps

abbrev entry_at : ℕ → ℕ
entry_at place = entry_of (level_of (place / 1024)) (place / 256 % 4 + 1) (bits_of 8 (place % 256))

-- the table, by computing each of its entries
table_is : STUFFED_OCTETS ≡ map entry_at (range_with_len 0 2048)
unfolding bits_of
table_is = refl

-- what the table has for the eight levels of a byte
pub entry_is : (row octet place : ℕ) → row < 8 → octet < 256 → place ≡ 256 * row + octet
    → (place < 2048) × (get_or STUFFED_OCTETS place 0 ≡ entry_of (last_of row) (run_of row) (bits_of 8 octet))
entry_is row octet place few small at =
    let within : place < 2048 = omega (arith, at, small, few) in
    let low : place % 256 ≡ octet = omega (arith, at, small) in
    let high : place / 256 % 4 + 1 ≡ run_of row = omega (arith, at, small) in
    let top : place / 1024 ≡ row / 4 = omega (arith, at, small) in (
      within,
      ap (λ t. get_or t place 0) table_is ∙ get_or-map-range_with_len entry_at 0 2048 place place 0 within (omega arith)
          ∙ ap (λ x. entry_of (level_of x) (place / 256 % 4 + 1) (bits_of 8 (place % 256))) top
          ∙ ap (λ r. entry_of (last_of row) r (bits_of 8 (place % 256))) high
          ∙ ap (λ b. entry_of (last_of row) (run_of row) (bits_of 8 b)) low,
    )

level_back : (x : Level) → level_of (number_from 0 (x ∷ [])) ≡ x
level_back Dominant = refl
level_back Recessive = refl

level_small : (x : Level) → number_from 0 (x ∷ []) ≤ 1
level_small Dominant = omega arith
level_small Recessive = omega arith

-- what code reads of an entry
module _ (last : Level) (run : ℕ) (xs : List Level) (e : ℕ) (is : e ≡ entry_of last run xs) (eight : length xs ≡ 8) (some : 1 ≤ run) (short : run < 5) where
  abbrev pub out : List Level
  out = stuffed_from last run xs

  bounds : Bounds last run xs
  bounds = bounds_behind xs last run some short

  few : length out ≤ 10
  few = omega (arith, bounds.room, bounds.some, eight, short)

  abbrev pub number : ℕ
  number = number_from 0 out * 2 ^ (10 - length out)

  small : number < 1024
  small =
      let ten : length out + (10 - length out) ≡ 10 = omega (arith, few) in
      let whole : 2 ^ length out * 2 ^ (10 - length out) ≡ 1024 = sym (pow-add 2 (length out) (10 - length out)) ∙ ap (λ n. 2 ^ n) ten in
      let less : number < 2 ^ length out * 2 ^ (10 - length out) = mul-lt-mul_of_pos_right (number_from-lt out) (pow_pos (10 - length out)) in
      omega (arith, less, whole)

  bit : number_from 0 (last_behind last run xs ∷ []) ≤ 1
  bit = level_small (last_behind last run xs)

  pub entry-number : e % 1024 ≡ number
  entry-number = omega (arith, is, small, bounds.short, bit)

  pub entry-len : 8 + e / 1024 % 4 ≡ length out
  entry-len = omega (arith, is, small, few, bounds.least, eight, bounds.short, bit)

  pub entry-few : 8 + e / 1024 % 4 ≤ 10
  entry-few = omega (arith, entry-len, few)

  high : e / 4096 ≡ run_behind last run xs - 1 + 4 * number_from 0 (last_behind last run xs ∷ [])
  high = omega (arith, is, small, few, bounds.least, eight)

  pub entry-row : e / 4096 < 8
  entry-row = omega (arith, high, bounds.short, bit)

  pub entry-run : run_of (e / 4096) ≡ run_behind last run xs
  entry-run = omega (arith, high, bounds.some, bounds.short, bit)

  pub entry-last : last_of (e / 4096) ≡ last_behind last run xs
  entry-last =
      let top : e / 4096 / 4 ≡ number_from 0 (last_behind last run xs ∷ []) = omega (arith, high, bounds.some, bounds.short, bit) in
      ap level_of top ∙ level_back (last_behind last run xs)

  pub entry-levels : take (8 + e / 1024 % 4) (bits_of 10 (e % 1024)) ≡ out
  entry-levels =
      let ten : 10 ≡ length out + (10 - length out) = omega (arith, few) in
      ap (λ n. take n (bits_of 10 (e % 1024))) entry-len ∙ ap (λ n. take (length out) (bits_of 10 n)) entry-number
      ∙ ap (λ n. take (length out) (bits_of n number)) ten ∙ ap (take (length out)) (bits_of-shl (length out) (10 - length out) (number_from 0 out))
      ∙ ap (λ l. take (length out) (l ++ replicate (10 - length out) Dominant)) (bits_of-number_from 0 out)
      ∙ take-append_seam out (replicate (10 - length out) Dominant)

-- ---- the levels of five bits

five_is : FIVE_LEVELS ≡ map (bits_of 5) (range_with_len 0 32)
unfolding bits_of
five_is = refl

pub five_levels : (number : ℕ) (d : List Level) → number < 32 → get_or FIVE_LEVELS number d ≡ bits_of 5 number
five_levels number d h = ap (λ t. get_or t number d) five_is ∙ get_or-map-range_with_len (bits_of 5) 0 32 number number d h (omega arith)

-- the ten bits of a number
pub bits_of-ten : (number : ℕ) → bits_of 5 (number / 32) ++ bits_of 5 (number % 32) ≡ bits_of 10 number
bits_of-ten number = ap (λ l. bits_of 5 (number / 32) ++ l) (bits_of-mod 5 5 number (omega arith)) ∙ sym (bits_of-append 5 5 number)

-- ---- the levels at a place

-- eight levels more
pub take-eight : (u : List Level) (p : ℕ) → p + 8 ≤ length u → take (p + 8) u ≡ take p u ++ bits_of 8 (number_from 0 (levels_at u p 8))
take-eight u p h =
    let eight = levels_at u p 8 in
    let size : length (take p u) ≡ p = length-take-le p u (omega arith) in
    let parts : take p u ++ (eight ++ drop (p + 8) u) ≡ u = ap (λ l. take p u ++ l) (sym (next_levels u p 8 (p + 8) refl h)) ∙ take-append-drop p u in
    let whole : length (take p u ++ eight) ≡ p + 8 = omega (arith, length-append (take p u) eight, size, length-filled 8 (drop p u)) in
    ap (take (p + 8)) (sym parts ∙ sym (append_assoc (take p u) eight (drop (p + 8) u)))
    ∙ ap (λ n. take n ((take p u ++ eight) ++ drop (p + 8) u)) (sym whole) ∙ take-append_seam (take p u ++ eight) (drop (p + 8) u)
    ∙ ap (λ l. take p u ++ l) (sym (ap (λ n. bits_of n (number_from 0 eight)) (sym (length-filled 8 (drop p u))) ∙ bits_of-number_from 0 eight))

-- they are a byte
pub eight-small : (u : List Level) (p : ℕ) → number_from 0 (levels_at u p 8) < 256
eight-small u p = omega (arith, number_from-lt (levels_at u p 8), ap (λ n. 2 ^ n) (length-filled 8 (drop p u)))

-- ---- levels that are written after others

-- of ten levels that were put at a place, the first n count
pub taken-step : (new old ten : List Level) (place n : ℕ) → take (place + 10) new ≡ take place old ++ ten → n ≤ 10 → length (take place old) ≡ place
    → take (place + n) new ≡ take place old ++ take n ten
taken-step new old ten place n put few size =
    sym (take-take (place + n) (place + 10) new (omega (arith, few))) ∙ ap (take (place + n)) put
    ∙ ap (λ m. take (m + n) (take place old ++ ten)) (sym size) ∙ take-append-add (take place old) ten n
