-- Off the bus.
use Rattle.std.specs.Prelude.{ℕ, ◌≡◌, ◌+◌, ◌*◌, ◌<◌, ◌≤◌, nat_lt, nat_le, Bool, true, false, not, ◌&&◌, if◌then◌else◌, refl}
use Rattle.std.proofs.Common.{arith, sym, ◌∙◌, ap}
use Rattle.can_frame.specs.declared.level.Level.{Level}
use Rattle.can_frame.specs.declared.level.Level.TheVariants.{Dominant, Recessive}
use Rattle.can_frame.specs.Levels.{is_recessive}
use Rattle.can_fault.specs.Counters.{ConfineParts, is_bus_off, fresh}
use Rattle.can_fault.specs.Recovery.{after_level, ends_bus_off, recovered}
use Rattle.can_gates.specs.Words.{bit}
use Rattle.can_gates_mac.proofs.NibbleBits.{bits}

pub phase_bits : (e : Bool) → bits false (not e) (not e) (not e) ≡ (if e then 0 else 14)
phase_bits true = refl
phase_bits false = refl

pub event_bits : (e : Bool) → bits e e false e ≡ (if e then 11 else 0)
event_bits true = refl
event_bits false = refl

not_yet : (n : ℕ) → n < 128 → nat_le 128 n ≡ false
not_yet n h = grind (arith, h)

now_128 : (n : ℕ) → n ≡ 128 → nat_le 128 n ≡ true
now_128 n h = rw h refl

-- if this is the state after a level, and bus-off does not end
goes_on : (c d : ConfineParts) (x : Level) → is_bus_off c ≡ true → after_level x c ≡ d → d.occurrences < 128 → (recovered x c ≡ d) × (ends_bus_off x c ≡ false)
goes_on c d x off is h = (rw (off, is, not_yet d.occurrences h) refl, rw (off, is, not_yet d.occurrences h) refl)

ends : (c d : ConfineParts) (x : Level) → is_bus_off c ≡ true → after_level x c ≡ d → d.occurrences ≡ 128 → (recovered x c ≡ fresh) × (ends_bus_off x c ≡ true)
ends c d x off is e = (rw (off, is, now_128 d.occurrences e) refl, rw (off, is, now_128 d.occurrences e) refl)

settled : (c d : ConfineParts) (x : Level) (over : Bool) (row sum : ℕ) → is_bus_off c ≡ true → after_level x c ≡ d → sum + 128 * bit over ≡ d.occurrences → d.occurrences ≤ 128 → sum < 128 → row ≡ d.row → (d.occurrences ≡ 128 → d.row ≡ 0) → (row ≡ (recovered x c).row) × (sum ≡ (recovered x c).occurrences) × (over ≡ ends_bus_off x c)
settled c d x false row sum off is e most small row_is zero =
    let r = goes_on c d x off is (omega (arith, e, small)) in
    let same : sum ≡ d.occurrences = omega (arith, e) in
    (row_is ∙ ap (λ p. p.row) (sym r.0), same ∙ ap (λ p. p.occurrences) (sym r.0), sym r.1)
settled c d x true row sum off is e most small row_is zero =
    let full : d.occurrences ≡ 128 = omega (arith, e, most) in
    let r = ends c d x off is full in
    let none : sum ≡ 0 = omega (arith, e, most) in
    (row_is ∙ zero full ∙ ap (λ p. p.row) (sym r.0), none ∙ ap (λ p. p.occurrences) (sym r.0), sym r.1)

recessive : (c : ConfineParts) (b early full over : Bool) (next row sum : ℕ) → nat_lt c.row 10 ≡ b → is_bus_off c ≡ true → c.occurrences < 128 → early ≡ nat_lt c.row 10 → full ≡ not (nat_lt c.row 10) → row ≡ (if early then next else 0) → next ≡ c.row + 1 → sum + 128 * bit over ≡ c.occurrences + bit full → sum < 128 → (row ≡ (recovered Recessive c).row) × (sum ≡ (recovered Recessive c).occurrences) × (over ≡ ends_bus_off Recessive c)
recessive c true early full over next row sum at off few is_early is_full is_row is_next is_sum small =
    let none : full ≡ false = is_full ∙ rw at refl in
    let soon : early ≡ true = is_early ∙ at in
    settled c (record c { row = c.row + 1 }) Recessive over row sum off (rw at refl) (rw none at is_sum ∙ omega arith) (omega (arith, few)) small (rw soon at is_row ∙ is_next) (λ e. absurd (omega (arith, e, few)))
recessive c false early full over next row sum at off few is_early is_full is_row is_next is_sum small =
    let one : full ≡ true = is_full ∙ rw at refl in
    let late : early ≡ false = is_early ∙ at in
    settled c (record c { occurrences = c.occurrences + 1; row = 0 }) Recessive over row sum off (rw at refl) (rw one at is_sum) (omega (arith, few)) small (rw late at is_row) (λ e. refl)

pub recovers : (c : ConfineParts) (x : Level) (early full over : Bool) (next row sum : ℕ) → is_bus_off c ≡ true → c.occurrences < 128 → early ≡ (is_recessive x && nat_lt c.row 10) → full ≡ (is_recessive x && not (nat_lt c.row 10)) → row ≡ (if early then next else 0) → next ≡ c.row + 1 → sum + 128 * bit over ≡ c.occurrences + bit full → sum < 128 → (row ≡ (recovered x c).row) × (sum ≡ (recovered x c).occurrences) × (over ≡ ends_bus_off x c)
recovers c Dominant early full over next row sum off few is_early is_full is_row is_next is_sum small =
    settled c (record c { row = 0 }) Dominant over row sum off refl (rw is_full at is_sum ∙ omega arith) (omega (arith, few)) small (rw is_early at is_row) (λ e. refl)
recovers c Recessive early full over next row sum off few is_early is_full is_row is_next is_sum small = recessive c (nat_lt c.row 10) early full over next row sum refl off few is_early is_full is_row is_next is_sum small
