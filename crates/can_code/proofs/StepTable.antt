-- The table of steps, by computing each of its entries, and what code reads of an entry.
use Rattle.std.proofs.Common.{◌≡◌, ◌≢◌, ℕ, zero, suc, ◌+◌, ◌-◌, ◌*◌, ◌/◌, ◌%◌, ◌^◌, ◌<◌, ◌≤◌, ltb, cond, Option, Some, None, List, [], ◌∷◌, map, get_or, refl, ◌∙◌, ap, arith}
use Rattle.std.specs.List.{range_with_len}
use Rattle.std.proofs.Math.Pow.{pow-add, pow_mono, mod-pow-add}
use Rattle.std.proofs.lemmas.Bool.{cond-false, le-ltb}
use Rattle.std.proofs.lemmas.List.FromFn.{get_or-map-range_with_len}
use Rattle.std.proofs.lemmas.Nat.{pow_pos, mod_below}
use Rattle.can_frame.specs.declared.level.Level.{Level}
use Rattle.can_frame.specs.declared.level.Level.TheVariants.{Dominant, Recessive}
use Rattle.can_frame.specs.Levels.{level_of}
use Rattle.can_code.specs.Digits.{levels_up}
use Rattle.can_code.specs.Steps.{Step, begun, step_entry, in_table, row_last, row_of, row_run, steps_on}
use Rattle.can_code.specs.declared.steps.TableStep.{TableStep}
use Rattle.can_code.specs.declared.steps.table.TheConstants.{STEPS}
use Rattle.can_code.proofs.StepLemmas.{StepBounds}

-- the levels below the highest bit of a number, at most n of them, the lowest first
abbrev pub levels_below : ℕ → ℕ → List Level
levels_below zero i = []
levels_below (suc n) i = cond (ltb i 2) [] (level_of (i % 2) ∷ levels_below n (i / 2))

abbrev entry_at : ℕ → ℕ
entry_at place = step_entry (steps_on (begun (row_last (place % 10)) (row_run (place % 10))) (levels_below 8 (place / 10)))

-- the table, by computing each of its entries
table_is : STEPS ≡ map entry_at (range_with_len 0 5120)
table_is = refl

levels_below-none : (n : ℕ) → levels_below n 1 ≡ []
levels_below-none zero = refl
levels_below-none (suc n) = refl

-- below a bit that ends them are n levels of a number
pub levels_below-up : (n k m : ℕ) → k ≤ n → levels_below n (2 ^ k + m % 2 ^ k) ≡ levels_up k m
levels_below-up n zero m h =
    let one : 2 ^ 0 + m % 2 ^ 0 ≡ 1 = omega arith in
    ap (levels_below n) one ∙ levels_below-none n
levels_below-up zero (suc k) m h = absurd (omega arith)
levels_below-up (suc n) (suc k) m h =
    let i = 2 ^ suc k + m % 2 ^ suc k in
    let up : suc k ≡ k + 1 = omega arith in
    let power : 2 ^ suc k ≡ 2 ^ k * 2 = ap (λ e. 2 ^ e) up ∙ pow-add 2 k 1 in
    let parts : m % 2 ^ suc k ≡ (m / 2 % 2 ^ k) * 2 + m % 2 = ap (λ e. m % 2 ^ e) up ∙ mod-pow-add m k 1 in
    let half : i / 2 ≡ 2 ^ k + m / 2 % 2 ^ k = omega (arith, power, parts) in
    let low : i % 2 ≡ m % 2 = omega (arith, power, parts) in
    let more : 2 ≤ i = omega (arith, power, pow_pos k) in
    cond-false (ltb i 2) [] (level_of (i % 2) ∷ levels_below n (i / 2)) (le-ltb i 2 more)
    ∙ ap (λ b. level_of b ∷ levels_below n (i / 2)) low ∙ ap (λ t. level_of (m % 2) ∷ levels_below n t) half
    ∙ ap (λ t. level_of (m % 2) ∷ t) (levels_below-up n k (m / 2) (omega arith))

-- what a row of the table has at the place of these levels
pub entry_is : (row m k place : ℕ) → row < 10 → k ≤ 8 → place ≡ 10 * (2 ^ k + m % 2 ^ k) + row
    → (place < 5120) × (get_or STEPS place 0 ≡ step_entry (steps_on (begun (row_last row) (row_run row)) (levels_up k m)))
entry_is row m k place within few at =
    let i = 2 ^ k + m % 2 ^ k in
    let most : 2 ^ k ≤ 2 ^ 8 = pow_mono few in
    let column : i < 512 = omega (arith, most, mod_below m (2 ^ k) (pow_pos k)) in
    let inside : place < 5120 = omega (arith, at, column, within) in
    let low : place / 10 ≡ i = omega (arith, at, within) in
    let high : place % 10 ≡ row = omega (arith, at, within) in (
      inside,
      ap (λ t. get_or t place 0) table_is ∙ get_or-map-range_with_len entry_at 0 5120 place place 0 inside (omega arith)
          ∙ ap (λ r. step_entry (steps_on (begun (row_last r) (row_run r)) (levels_below 8 (place / 10)))) high
          ∙ ap (λ j. step_entry (steps_on (begun (row_last row) (row_run row)) (levels_below 8 j))) low
          ∙ ap (λ l. step_entry (steps_on (begun (row_last row) (row_run row)) l)) (levels_below-up 8 k m few),
    )

-- ---- rows

pub row_of-last : (x : Level) (r : ℕ) → 1 ≤ r → r ≤ 5 → row_last (row_of x r) ≡ x
row_of-last Dominant r some short = (let e : (5 * 0 + (r - 1)) / 5 ≡ 0 = omega arith in ap level_of e)
row_of-last Recessive r some short = (let e : (5 * 1 + (r - 1)) / 5 ≡ 1 = omega arith in ap level_of e)

pub row_of-run : (x : Level) (r : ℕ) → 1 ≤ r → r ≤ 5 → row_run (row_of x r) ≡ r
row_of-run Dominant r some short = omega arith
row_of-run Recessive r some short = omega arith

pub row_of-small : (x : Level) (r : ℕ) → r ≤ 5 → row_of x r < 10
row_of-small Dominant r short = omega arith
row_of-small Recessive r short = omega arith

-- ---- what code reads of an entry

same_step : (s : Step) (number len row : ℕ) → number ≡ s.number → len ≡ s.len → row ≡ row_of s.last s.run
    → ◌≡◌ {A = Option TableStep} (Some (record { number = number; len = len; row = row })) (in_table (Some s))
same_step s number len row p q r =
    ap (λ n. Some (record { number = n; len = len; row = row })) p ∙ ap (λ n. Some (record { number = s.number; len = n; row = row })) q
    ∙ ap (λ n. Some (record { number = s.number; len = s.len; row = n })) r

-- the parts of an entry
module _ (s : Step) (e : ℕ) (is : e ≡ s.number + 256 * s.len + 4096 * row_of s.last s.run) (h : StepBounds s 8) where
  small : s.number < 256
  small = let most : 2 ^ s.len ≤ 2 ^ 8 = pow_mono h.few in omega (arith, h.small, most)

  pub entry-no_none : e ≢ 65535
  entry-no_none none = absurd (omega (arith, is, none, small, h.few, row_of-small s.last s.run h.short))

  pub entry-step : ◌≡◌ {A = Option TableStep} (Some (record { number = e % 256; len = e / 256 % 16; row = e / 4096 })) (in_table (Some s))
  entry-step =
      same_step s (e % 256) (e / 256 % 16) (e / 4096) (omega (arith, is, small, h.few)) (omega (arith, is, small, h.few)) (omega (arith, is, small, h.few))

-- if it has a step
pub read-some : (o : Option Step) (e : ℕ) → e ≡ step_entry o → ((s : Step) → o ≡ Some s → StepBounds s 8) → e ≢ 65535
    → ◌≡◌ {A = Option TableStep} (Some (record { number = e % 256; len = e / 256 % 16; row = e / 4096 })) (in_table o)
read-some None e is bounds some = absurd (some is)
read-some (Some s) e is bounds some = entry-step s e is (bounds s refl)

-- and if it has none
pub read-none : (o : Option Step) (e : ℕ) → e ≡ step_entry o → ((s : Step) → o ≡ Some s → StepBounds s 8) → e ≡ 65535 → None ≡ in_table o
read-none None e is bounds none = refl
read-none (Some s) e is bounds none = absurd (entry-no_none s e is (bounds s refl) none)

-- the step that the code has
pub in_table-some : (o : Option Step) (t : TableStep) → Some t ≡ in_table o → (s : Step) × (o ≡ Some s) × (t ≡ record { number = s.number; len = s.len; row = row_of s.last s.run })
in_table-some None t h = cc
in_table-some (Some s) t h = (s, refl, cc)
