use Rattle.std.proofs.Common.{◌≡◌, ◌≤◌, ◌<◌, ◌^◌, min, ℕ, arith}
use lib.Pow.{pow_mono}
use Rattle.can_gates.proofs.select.power_within.Goals as goal

far : (t bound : ℕ) → 64 ≤ t → bound < 2 ^ 64 → bound ≡ min (2 ^ t) bound
far t bound many fits = let wide : 2 ^ 64 ≤ 2 ^ t = pow_mono many in omega (arith, wide, fits)

pub returns-then-times-ge-BITS : goal.returns-then-times-ge-BITS
returns-then-times-ge-BITS c = far c.args.times c.args.bound (omega (arith, c.if-times-ge-BITS.true)) c.ranges.bound.fits
