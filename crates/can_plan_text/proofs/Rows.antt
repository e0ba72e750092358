-- Hand-computed test vectors for the definitions.
use Rattle.std.proofs.Common.{◌≡◌, ◌<◌, ℕ, true, false, [], ◌∷◌, length, Some, None, pos, refl, subst, arith}
use Rattle.std.specs.List.{list_all}
use Rattle.std.specs.Prelude.{codes}
use Rattle.toml.specs.Data.{integer}
use Rattle.can_plan.specs.Margins.{misses_deadline}
use Rattle.can_plan_text.specs.Names.{IsMessageName, is_name_byte}
use Rattle.can_plan_text.specs.Plans.{IsPeriod, IsSpacing}
use Rattle.can_plan_text.specs.Report.{end_text, outcome_text, quoted_text}
use Rattle.can_plan_text.specs.Times.{bits_down, bits_up}

-- at 125 kbit/s a bit time is 8 microseconds
down-whole : bits_down 125000 2496 ≡ 312
down-whole = refl

down-more : bits_down 125000 2503 ≡ 312
down-more = refl

up-whole : bits_up 125000 2496 ≡ 312
up-whole = refl

up-more : bits_up 125000 2497 ≡ 313
up-more = refl

up-one : bits_up 125000 1 ≡ 1
up-one = refl

-- at 1 Mbit/s it is one, and without a bit rate times are bit times
fastest : bits_down 1000000 4294967295 ≡ 4294967295
fastest = refl

untold-down : bits_down 0 2503 ≡ 2503
untold-down = refl

untold-up : bits_up 0 2503 ≡ 2503
untold-up = refl

-- 7 microseconds are less than a bit time: not a period, and not a spacing, but 0 is one; 8 are one bit time
seven-no-period : IsPeriod 125000 (integer (pos 7)) → ⊥
seven-no-period (n, is, within, some) = let e : n ≡ 7 = cc in let none : 0 < bits_down 125000 7 = subst (λ (k : ℕ). 0 < bits_down 125000 k) e some in omega (arith, none)

seven-no-spacing : IsSpacing 125000 (integer (pos 7)) → ⊥
seven-no-spacing (n, is, within, some) =
    let e : n ≡ 7 = cc in
    let none : 0 < 7 → 0 < bits_down 125000 7 = subst (λ (k : ℕ). 0 < k → 0 < bits_down 125000 k) e some in
    let f = none (omega arith) in omega (arith, f)

eight-spacing : IsSpacing 125000 (integer (pos 8))
eight-spacing = (8, refl, omega arith, λ some. omega arith)

zero-spacing : IsSpacing 125000 (integer (pos 0))
zero-spacing = (0, refl, omega arith, λ some. absurd (omega (arith, some)))

-- a bound that is the deadline meets it
in-time : misses_deadline 132 (Some 132) ≡ false
in-time = refl

late : misses_deadline 131 (Some 132) ≡ true
late = refl

unbound : misses_deadline 4294967295 None ≡ true
unbound = refl

late-told : outcome_text 131 (Some 132) ≡ codes " late"
late-told = refl

-- the first and the last characters that a name may have, and their neighbours, which it may not have
named-all : IsMessageName (codes " !#[]~")
named-all = let six : length (codes " !#[]~") ≡ 6 = refl in record { some = omega (arith, six); few = omega (arith, six); printed = refl }

named-none : list_all is_name_byte (31 ∷ []) ≡ false
named-none = refl

quoted-none : list_all is_name_byte (codes "a\"") ≡ false
quoted-none = refl

slashed-none : list_all is_name_byte (97 ∷ 92 ∷ []) ≡ false
slashed-none = refl

deleted-none : list_all is_name_byte (127 ∷ []) ≡ false
deleted-none = refl

-- it ends the line
nameless : end_text None ≡ codes "\n"
nameless = refl

name-told : quoted_text (codes "Speed") ≡ codes " name \"Speed\"\n"
name-told = refl
